use Rattle.std.proofs.Common.{◌≡◌, ◌≤ℤ◌, ℤ, pos, negsuc, ◌^◌, ◌-◌, ℕ, [], true, int_le, arith}
use Rattle.std.specs.Prelude.{FitsSigned, length, nat_le, ◌≤◌}
use Rattle.std.specs.Int.{w64}
use Rattle.std.proofs.lemmas.Int.{ints}
use Rattle.std.proofs.lemmas.Bool.{and_parts}
use Rattle.std.proofs.lemmas.Str.{IsUtf8-from_is_utf8}
use Rattle.std.proofs.lemmas.List.Elements.{recursion_from_All}
use Rattle.ssq_time.specs.Time.{IsStampTime, is_stamp_time}
use Rattle.ssq_shape.specs.Evaluation.{is_bigint, longest}
use Rattle.ssq_shape.specs.Fit.{IsFit}
use Rattle.ssq_shape.specs.Laws.{HoldsOfResults, value_has}
use Rattle.ssq_shape.proofs.laws.values_stay_fit.Goals as goal

at_most : (a b : ℤ) → int_le a b ≡ true → a ≤ℤ b
at_most a b is = grind (arith, ints)

stamped : (t : ℤ) → is_stamp_time t ≡ true → IsStampTime t
stamped t is =
    let parts = and_parts _ _ is in
    (at_most _ t parts.0, at_most t _ parts.1)

within : (n : ℤ) → (negsuc (2 ^ 63 - 1) ≤ℤ n) → (n ≤ℤ pos (2 ^ 63 - 1)) → FitsSigned w64 n
within (pos n) least most = record { sfits = grind (arith, ints, most) }
within (negsuc n) least most = record { sfits = grind (arith, ints, least) }

counted : (n : ℤ) → is_bigint n ≡ true → FitsSigned w64 n
counted n is =
    let parts : (int_le (negsuc (2 ^ 63 - 1)) n ≡ true) × (int_le n (pos (2 ^ 63 - 1)) ≡ true) = and_parts _ _ is in
    within n (at_most (negsuc (2 ^ 63 - 1)) n parts.0) (at_most n (pos (2 ^ 63 - 1)) parts.1)

short : (n most : ℕ) → nat_le n most ≡ true → n ≤ most
short n most is = grind (arith, is)

fits : HoldsOfResults IsFit
fits = record { null = tt; int = counted; text = λ t is. (short (length t) longest (and_parts _ _ is).0, IsUtf8-from_is_utf8 t (and_parts _ _ is).1); time = stamped; truth = λ t. tt }

pub returns : goal.returns
returns c = λ row x all. value_has IsFit fits [] tt row (recursion_from_All IsFit row all) x
