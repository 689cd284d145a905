-- One is there exactly if there is a first.
use Rattle.std.proofs.Common.{◌≡◌, ℕ, ◌+◌, suc, Bool, true, false, cond, nat_lt, Some, None, is_some, refl, arith}
use Rattle.std.proofs.lemmas.Grind.{common_steps}
use Rattle.std.proofs.lemmas.Bool.Decides.{nat_tests}

some_if : (b : Bool) (n : ℕ) → is_some (cond b (Some n) None) ≡ b
some_if true n = refl
some_if false n = refl

pub one_less : (m n : ℕ) → nat_lt (1 + m) (suc n) ≡ nat_lt m n
one_less m n = grind (arith, nat_tests, common_steps)
