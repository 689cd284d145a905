-- The orders of values and of lists of values are total, and only equal ones tie.
use Rattle.std.specs.Prelude.{◌≡◌, false, true}
use Rattle.std.proofs.Common.{ap, refl}
use Rattle.std.specs.declared.cmp.Ordering.{Ordering}
use Rattle.std.specs.declared.cmp.Ordering.TheVariants.{Less, Equal, Greater}
use Rattle.std.specs.Ordering.{ordering_then, int_cmp}
use Rattle.std.specs.Cmp.{IsTotalOrder, bool_cmp_total, int_cmp_total, nat_cmp_total, on_total, then_total}
use Rattle.std.specs.Cmp.Lexicographic.{lists_total, nat_list_cmp_total}
use Rattle.std.specs.FinMap.{IsAntisymmetric, nat_cmp-IsAntisymmetric, int_cmp-IsAntisymmetric, slice_cmp-IsAntisymmetric}
use Rattle.ssq_value.specs.declared.value.Value.TheVariants.{Null, Int, Text, Time, Truth}
use Rattle.ssq_value.specs.Order.{rank_of, truth_of, number_of, bytes_of, value_cmp, values_cmp}

pub value_cmp_total : IsTotalOrder value_cmp
unfolding value_cmp
value_cmp_total = then_total (on_total rank_of nat_cmp_total) (then_total (on_total truth_of bool_cmp_total) (then_total (on_total number_of int_cmp_total) (on_total bytes_of nat_list_cmp_total)))

pub values_cmp_total : IsTotalOrder values_cmp
values_cmp_total = lists_total value_cmp_total

-- where two orders tie together, the first of them ties
ties_first : (r s : Ordering) → ordering_then r s ≡ Equal → r ≡ Equal
ties_first Less s tie = absurd cc
ties_first Equal s tie = refl
ties_first Greater s tie = absurd cc

pub value_cmp_exact : IsAntisymmetric value_cmp
unfolding value_cmp
value_cmp_exact Null Null tie = refl
value_cmp_exact (Truth false) (Truth false) tie = refl
value_cmp_exact (Truth true) (Truth true) tie = refl
value_cmp_exact (Int a) (Int b) tie = ap (λ n. Int n) (int_cmp-IsAntisymmetric a b (ties_first (int_cmp a b) Equal tie))
value_cmp_exact (Time a) (Time b) tie = ap (λ n. Time n) (int_cmp-IsAntisymmetric a b (ties_first (int_cmp a b) Equal tie))
value_cmp_exact (Text a) (Text b) tie = ap (λ bytes. Text bytes) (slice_cmp-IsAntisymmetric nat_cmp-IsAntisymmetric a b tie)
value_cmp_exact _ _ tie = absurd cc

pub values_cmp_exact : IsAntisymmetric values_cmp
values_cmp_exact = slice_cmp-IsAntisymmetric value_cmp_exact
