use Rattle.std.proofs.Common.{◌≡◌, take}
use Rattle.ssq_meaning.specs.Totals.{totals_bytes}
use Rattle.ssq_agg.proofs.total_bytes.bytes_of.Given as goal

abbrev pub invariant-loop-total : goal.invariant-loop-total
invariant-loop-total l = l.bytes.items ≡ totals_bytes (take l.total-index l.totals)
