-- The totals so far are in front of the bytes, and all totals that the bytes are have them in front.
use Rattle.std.proofs.Common.{◌≡◌, ◌++◌, drop}
use Rattle.ssq_meaning.specs.Totals.{totals_bytes}
use Rattle.ssq_agg.proofs.Totalling.{AreFront, EachIsLeft}
use Rattle.ssq_agg.proofs.total_bytes.read_totals.Given as goal

abbrev pub invariant-loop-aggregate : goal.invariant-loop-aggregate
invariant-loop-aggregate l =
    (totals_bytes l.totals.items ++ l.rest ≡ l.bytes)
    × AreFront l.aggregates l.totals.items (drop l.aggregate-index l.aggregates)
    × EachIsLeft l.aggregates l.bytes (drop l.aggregate-index l.aggregates) l.totals.items l.rest
