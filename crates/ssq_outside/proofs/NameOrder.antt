-- The order of names is an order.
use Rattle.std.proofs.Common.{◌≡◌, ◌==◌, ◌&&◌, ◌||◌, ℕ, Bool, true, false, refl, arith, eq-eqb}
use Rattle.std.specs.Prelude.{nat_lt}
use Rattle.std.proofs.lemmas.Bool.Decides.{nat_tests}
use Rattle.ssq_outside.specs.declared.name.Name.{Name}
use Rattle.ssq_outside.specs.declared.name.Name.TheVariants.{Meta, Plan, Commit, Out, Delta, Snapshot}
use Rattle.ssq_outside.specs.Files.{same_name, name_before, kind_of, first_of, second_of}

-- by the first number, then by the second, then by the third
abbrev key_before : ℕ → ℕ → ℕ → ℕ → ℕ → ℕ → Bool
key_before a b c d e f = nat_lt a d || (a == d && (nat_lt b e || (b == e && nat_lt c f)))

key_trans : (a b c d e f x y z : ℕ) → key_before a b c d e f ≡ true → key_before d e f x y z ≡ true → key_before a b c x y z ≡ true
key_trans a b c d e f x y z first second = grind (arith, nat_tests)

key_ties : (a b c d e f : ℕ) → key_before a b c d e f ≡ false → key_before d e f a b c ≡ false → (a ≡ d) × (b ≡ e) × (c ≡ f)
key_ties a b c d e f one other = grind (arith, nat_tests)

both_equal : (p q v w : ℕ) → p ≡ q → v ≡ w → (p == q && v == w) ≡ true
both_equal p q v w first second = grind (arith, nat_tests)

-- names with one key are one
same_key : (m n : Name) → kind_of m ≡ kind_of n → first_of m ≡ first_of n → second_of m ≡ second_of n → same_name m n ≡ true
same_key Meta Meta kind first second = refl
same_key (Plan e) (Plan f) kind first second = eq-eqb e f first
same_key (Commit e) (Commit f) kind first second = eq-eqb e f first
same_key (Out e) (Out f) kind first second = eq-eqb e f first
same_key (Delta p v) (Delta q w) kind first second = both_equal p q v w first second
same_key (Snapshot p v) (Snapshot q w) kind first second = both_equal p q v w first second
same_key _ _ kind first second = absurd (omega (arith, kind))

pub name_before-trans : (m n q : Name) → name_before m n ≡ true → name_before n q ≡ true → name_before m q ≡ true
name_before-trans m n q first second =
    key_trans (kind_of m) (first_of m) (second_of m) (kind_of n) (first_of n) (second_of n) (kind_of q) (first_of q) (second_of q) first second

after_by : (m n : Name) (b : Bool) → name_before n m ≡ b → name_before m n ≡ false → same_name n m ≡ false → name_before n m ≡ true
after_by m n true is not_before other = is
after_by m n false is not_before other =
    let same = key_ties (kind_of n) (first_of n) (second_of n) (kind_of m) (first_of m) (second_of m) is not_before in
    let one : same_name n m ≡ true = same_key n m same.0 same.1 same.2 in
    cc

-- of two names one comes first
pub name_before-other : (m n : Name) → name_before m n ≡ false → same_name n m ≡ false → name_before n m ≡ true
name_before-other m n = after_by m n (name_before n m) refl

key_between : (a b c d e f x y z : ℕ) → key_before d e f x y z ≡ false → key_before a b c x y z ≡ true → key_before a b c d e f ≡ true
key_between a b c d e f x y z other less = grind (arith, nat_tests)

-- what comes before a name comes before each that does not
pub name_before-below : (m n q : Name) → name_before n q ≡ false → name_before m q ≡ true → name_before m n ≡ true
name_before-below m n q other less = key_between (kind_of m) (first_of m) (second_of m) (kind_of n) (first_of n) (second_of n) (kind_of q) (first_of q) (second_of q) other less

key_itself : (a b c : ℕ) → key_before a b c a b c ≡ false
key_itself a b c = grind (arith, nat_tests)

-- none comes before itself
pub name_before-itself : (m : Name) → name_before m m ≡ false
name_before-itself m = key_itself (kind_of m) (first_of m) (second_of m)
