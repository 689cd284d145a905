use Rattle.std.proofs.Common.{◌≡◌, ◌++◌, [], drop, All}
use Rattle.ssq_meaning.specs.Totals.{totals_from, totals_of}
use Rattle.ssq_agg.specs.Readable.{IsFitTotal}
use Rattle.ssq_agg.proofs.total.nothing.Given as goal

abbrev pub invariant-loop-aggregate : goal.invariant-loop-aggregate
invariant-loop-aggregate l =
    (l.totals.items ++ totals_from l.aggregate-index (drop l.aggregate-index l.aggregates) [] ≡ totals_of l.aggregates [])
    × All IsFitTotal l.totals.items
