use Rattle.ssq_task.proofs.Commits.{all_told, inverse}
use Rattle.ssq_task.proofs.commit.seen_from.Goals as goal

pub returns-clause-inverse : goal.returns-clause-inverse
returns-clause-inverse c = λ own. inverse c.args.bound.now c.args.lines.now c.loop-line.seen (all_told c.args.lines.now c.loop-line.line-index c.loop-line.seen c.loop-line-test.false c.loop-line.invariant.times) own

pub returns-clause-times : goal.returns-clause-times
returns-clause-times c = all_told c.args.lines.now c.loop-line.line-index c.loop-line.seen c.loop-line-test.false c.loop-line.invariant.times
