-- A list of names grows by one.
use Rattle.std.proofs.Common.{◌≡◌, ◌⊎◌, ◌<◌, ◌+◌, ◌++◌, ◌==◌, ◌&&◌, ◌||◌, ◌∙◌, ℕ, Bool, true, false, List, length, get_or, take, refl, ap, sym, arith, rules}
use Rattle.std.proofs.lemmas.Bool.{or_left, or_right, or_cases}
use Rattle.std.proofs.lemmas.List.Folds.{list_any_more, list_any-append}
use Rattle.ssq_outside.specs.declared.name.Name.{Name}
use Rattle.ssq_outside.specs.declared.name.Name.TheVariants as name
use Rattle.ssq_outside.specs.Files.{same_name}
use Rattle.ssq_upkeep.specs.Upkeep.{is_among}

-- the new list has this name and those of the old one
abbrev pub Grows : List Name → List Name → Name → Type 0
Grows old new n = (q : Name) → is_among new q ≡ (is_among old q || same_name n q)

pub grows : (names : List Name) (i : ℕ) (d : Name) → i < length names → Grows (take i names) (take (i + 1) names) (get_or names i d)
grows names i d less q = list_any_more (λ n. same_name n q) names i d less

pub or_false : (a b : Bool) → b ≡ false → (a || b) ≡ a
or_false true b none = refl
or_false false b none = none

-- a name is in two lists, one after the other, where it is in one of them
pub among_both : (a b : List Name) (q : Name) → is_among (a ++ b) q ≡ (is_among a q || is_among b q)
among_both a b q = list_any-append (λ n. same_name n q) a b

pub among_three : (a b c : List Name) (q : Name) → (is_among a q || is_among b q || is_among c q) ≡ is_among (a ++ b ++ c) q
among_three a b c q = ap (λ (x : Bool). x || is_among c q) (sym (among_both a b q)) ∙ sym (among_both (a ++ b) c q)

-- another name is in both or in none
pub same_among : (old new : List Name) (n q : Name) → Grows old new n → same_name n q ≡ false → is_among new q ≡ is_among old q
same_among old new n q more other = more q ∙ or_false (is_among old q) (same_name n q) other

pub still_among : (old new : List Name) (n q : Name) → Grows old new n → is_among old q ≡ true → is_among new q ≡ true
still_among old new n q more is = more q ∙ or_left (is_among old q) (same_name n q) is

pub new_among : (old new : List Name) (n q : Name) → Grows old new n → same_name n q ≡ true → is_among new q ≡ true
new_among old new n q more is = more q ∙ or_right (is_among old q) (same_name n q) is

pub old_or_new : (old new : List Name) (n q : Name) → Grows old new n → is_among new q ≡ true → (is_among old q ≡ true) ⊎ (same_name n q ≡ true)
old_or_new old new n q more is = or_cases (is_among old q) (same_name n q) (sym (more q) ∙ is)

versions_are : (p q v w : ℕ) → (p == q && v == w) ≡ true → v ≡ w
versions_are p q v w h = grind (arith, rules)

-- one snapshot of a partition is one version
pub version_is : (p q v w : ℕ) → same_name (name.Snapshot p v) (name.Snapshot q w) ≡ true → v ≡ w
version_is p q v w h = versions_are p q v w h

same_numbers : (p q v : ℕ) → p ≡ q → (p == q && v == v) ≡ true
same_numbers p q v is = grind (arith, rules)

pub snapshot_is : (p q v : ℕ) → p ≡ q → same_name (name.Snapshot p v) (name.Snapshot q v) ≡ true
snapshot_is p q v is = same_numbers p q v is
