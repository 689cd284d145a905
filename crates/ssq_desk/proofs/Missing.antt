-- Which of the files that make a state is the first that is not there.
use Rattle.std.proofs.Common.{◌≡◌, ◌<◌, ◌≤◌, ◌+◌, [], ◌∷◌, ℕ, zero, suc, true, List, Some, None, not, cond, refl, sym, ap, ◌∙◌, subst, inl, inr, arith}
use Rattle.std.specs.Option.{is_none}
use Rattle.std.specs.Prelude.{is_some}
use Rattle.std.proofs.lemmas.Bool.{cases_lt}
use Rattle.std.proofs.lemmas.Option.{same_Some}
use Rattle.ssq_outside.specs.declared.name.Name.{Name}
use Rattle.ssq_outside.specs.declared.name.Name.TheVariants as name
use Rattle.ssq_outside.specs.Files.{Content, Files}
use Rattle.ssq_desk.specs.Upkeep.{deltas_from, first_missing}

pub missing_here : (files : Files) (q : Name) (names : List Name) → files q ≡ None → first_missing files (q ∷ names) ≡ Some q
missing_here files q names none = ap (λ (o : Content). cond (is_none o) (Some q) (first_missing files names)) none

-- a file that is there is not it
pub missing_next : (files : Files) (q : Name) (names : List Name) → is_some (files q) ≡ true → first_missing files (q ∷ names) ≡ first_missing files names
missing_next files q names there = ap (λ b. cond (not b) (Some q) (first_missing files names)) there

-- at the first that is missing nothing stands
pub missing_is_absent : (files : Files) (names : List Name) (q : Name) → first_missing files names ≡ Some q → files q ≡ None
missing_is_absent files [] q is = absurd cc
missing_is_absent files (n ∷ names) q is = by (files n) refl (missing_is_absent files names q)
  where
    by : (o : Content) → files n ≡ o → (first_missing files names ≡ Some q → files q ≡ None) → files q ≡ None
    by None none later = subst (λ (x : Name). files x ≡ None) (same_Some n q (sym (missing_here files n names none) ∙ is)) none
    by (Some bytes) some later = later (sym (missing_next files n names (ap is_some some)) ∙ is)

-- a delta is it, where those before it are there
pub delta_missing : (files : Files) (p from count v : ℕ) → from ≤ v → v < from + count → ((w : ℕ) → from ≤ w → w < v → is_some (files (name.Delta p w)) ≡ true) → files (name.Delta p v) ≡ None
    → first_missing files (deltas_from p from count) ≡ Some (name.Delta p v)
delta_missing files p from zero v le less there none = absurd (omega (arith, le, less))
delta_missing files p from (suc count) v le less there none = elim (cases_lt from v) [
  | inl below ↦ (missing_next files (name.Delta p from) (deltas_from p (from + 1) count) (there from (omega arith) below)
      ∙ delta_missing files p (from + 1) count v (omega (arith, below)) (omega (arith, less)) (λ w low. there w (omega (arith, low))) none)
  | inr most ↦ (let same : from ≡ v = omega (arith, le, most) in
      subst (λ (x : ℕ). first_missing files (deltas_from p from (suc count)) ≡ Some (name.Delta p x)) same
      (missing_here files (name.Delta p from) (deltas_from p (from + 1) count) (subst (λ (x : ℕ). files (name.Delta p x) ≡ None) (sym same) none)))
]
