-- What a value says of the tests and the steps that made it.
use Rattle.std.proofs.Common.{◌≡◌, ℕ, ◌<◌, refl, arith, true, false, ◌==◌, Option, Some, None, if◌then◌else◌, Bool}
use Rattle.std.proofs.lemmas.Bool.Decides.{nat_tests}

-- a test that let a value through was true
pub if_some : {A : Type 0} (b : Bool) (o : Option A) (x : A) → (if b then o else None) ≡ Some x → (b ≡ true) × (o ≡ Some x)
if_some true o x e = (refl, e)
if_some false o x e = absurd (cc)

pub none_some : {A : Type 0} (x : A) → None ≡ Some x → ⊥
none_some x e = cc

pub some_same : {A : Type 0} (a b : A) → Some a ≡ Some b → a ≡ b
some_same a b e = cc

pub same_true : (a b : ℕ) → (a == b) ≡ true → a ≡ b
same_true a b e = grind (arith, nat_tests)

pub above_zero : (n : ℕ) → (n == 0) ≡ false → 0 < n
above_zero n e = grind (arith, nat_tests)

pub if_none : {A : Type 0} (b : Bool) (o : Option A) (x : A) → (if b then None else o) ≡ Some x → (b ≡ false) × (o ≡ Some x)
if_none true o x e = absurd (cc)
if_none false o x e = (refl, e)

pub if_cases : {A P : Type 0} (b : Bool) (o o' : Option A) (x : A) → (if b then o else o') ≡ Some x → (b ≡ true → o ≡ Some x → P) → (b ≡ false → o' ≡ Some x → P) → P
if_cases true o o' x e on_true on_false = on_true refl e
if_cases false o o' x e on_true on_false = on_false refl e
