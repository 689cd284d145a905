use Rattle.ssq_meaning.proofs.Untimed.{untimed}
use Rattle.ssq_meaning.proofs.closing.keys_have_times.Goals as goal

pub returns-clause-none : goal.returns-clause-none
returns-clause-none c = untimed c.args.bound.now
