use Rattle.std.proofs.Common.{All}
use Rattle.ssq_agg.specs.Readable.{IsFitGroup}
use Rattle.ssq_step.specs.Shown.{ArePrintable}
use Rattle.ssq_agg.specs.Shown.{Finishes}
use Rattle.ssq_agg.proofs.shown.show_touched.Given as goal

abbrev pub invariant-loop-key : goal.invariant-loop-key
invariant-loop-key l =
    Finishes l.bound l.grouping l.key-iterator l.groups.entries l.fn.shown l.shown
    × ArePrintable l.shown.rows.items
    × All (λ entry. IsFitGroup entry.0 entry.1) l.key-iterator
