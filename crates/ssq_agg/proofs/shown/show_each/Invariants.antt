use Rattle.std.proofs.Common.{drop}
use Rattle.ssq_step.specs.Shown.{ArePrintable}
use Rattle.ssq_agg.specs.Shown.{Finishes, pairs_of}
use Rattle.ssq_agg.proofs.shown.show_each.Given as goal

abbrev pub invariant-loop-group : goal.invariant-loop-group
invariant-loop-group l =
    Finishes l.bound l.grouping (pairs_of (drop l.group-index l.groups)) (pairs_of l.groups) l.fn.shown l.shown
    × ArePrintable l.shown.rows.items
