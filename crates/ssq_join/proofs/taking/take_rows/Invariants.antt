use Rattle.ssq_step.specs.Shown.{ArePrintable}
use Rattle.ssq_join.proofs.Standing.{TakesTo}
use Rattle.ssq_join.proofs.taking.take_rows.Given as goal

abbrev pub invariant-loop-row : goal.invariant-loop-row
invariant-loop-row l = TakesTo l.bound l.joining l.state l.rows l.row-index l.taken × ArePrintable l.taken.found.rows.items
