-- Lines between two offsets.
use Rattle.std.proofs.Common.{◌≡◌, ◌≤◌, ◌-◌, ◌++◌, [], ◌∷◌, ℕ, zero, suc, List, refl, ap, ◌∙◌, inl, inr, arith, length, take, drop}
use Rattle.std.proofs.lemmas.Bool.{cases_lt}
use Rattle.std.proofs.lemmas.Grind.{common_steps}
use Rattle.std.proofs.lemmas.List.{drop-append-le, length-drop, take-append-le}
use Rattle.ssq_meaning.specs.Meaning.{Line, lines_between}

-- a longer front is a front and what follows it
pub take-more : {X : Type 0} (a b : ℕ) (xs : List X) → a ≤ b → take b xs ≡ take a xs ++ take (b - a) (drop a xs)
take-more zero b xs le = let e : b - 0 ≡ b = omega arith in rw e refl
take-more (suc a) zero xs le = absurd (omega (arith, le))
take-more (suc a) (suc b) [] le = grind (arith, common_steps)
take-more (suc a) (suc b) (x ∷ xs) le =
    let shorter : a ≤ b = omega (arith, le) in
    let e : suc b - suc a ≡ b - a = omega arith in
    rw e (ap (λ rest. x ∷ rest) (take-more a b xs shorter))

-- there is none between an offset and itself
pub lines_between-none : (at : ℕ) (lines : List Line) → lines_between at at lines ≡ []
lines_between-none at lines = let e : at - at ≡ 0 = omega arith in rw e refl

-- a log that has grown has the same lines between two offsets of its old ones
pub lines_between-grown : (from to : ℕ) (old more : List Line) → to ≤ length old → lines_between from to (old ++ more) ≡ lines_between from to old
lines_between-grown from to old more le = elim (cases_lt (length old) from) [
  | inl past ↦ let none : to - from ≡ 0 = omega (arith, past, le) in rw none refl
  | inr there ↦
      let most : to - from ≤ length (drop from old) = omega (arith, le, length-drop from old) in
      ap (take (to - from)) (drop-append-le from old more there) ∙ take-append-le (to - from) (drop from old) more most
]
