use Rattle.std.proofs.Common.{ap}
use Rattle.ssq_run.specs.Stopping.{stop_in}
use Rattle.ssq_run.proofs.Passing.{denied_look}
use Rattle.ssq_run.proofs.look.looked.Goals as goal

pub returns-in-Err-clause-looked : goal.returns-in-Err-clause-looked
returns-in-Err-clause-looked g c = λ tells. denied_look c.args.bound.now _ _ (stop_in c.stopped.result.end) c.in-Err.stop c.stopped.ensures.1 (ap stop_in c.stopped.ensures.2) (c.in-Err.ensures.stop tells)
