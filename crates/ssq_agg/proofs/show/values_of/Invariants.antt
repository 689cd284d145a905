use Rattle.std.proofs.Common.{◌≡◌, take, All}
use Rattle.std.specs.Prelude.{IfSome}
use Rattle.ssq_time.specs.Time.{IsStampTime}
use Rattle.ssq_value.specs.Kind.{IfTime}
use Rattle.ssq_meaning.specs.Totals.{values_of_totals}
use Rattle.ssq_agg.proofs.show.values_of.Given as goal

abbrev pub invariant-loop-total : goal.invariant-loop-total
invariant-loop-total l =
    (l.values.items ≡ values_of_totals (take l.total-index l.totals))
    × All (λ value. IfSome value (IfTime IsStampTime)) l.values.items
