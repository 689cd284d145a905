-- What the first name that passes a test says of the others.
use Rattle.std.proofs.Common.{◌≡◌, ◌⊎◌, ◌<◌, ◌≤◌, ◌∙◌, [], ◌∷◌, ℕ, zero, suc, Bool, true, false, cond, List, Option, Some, None, length, get_or, refl, sym, ap, subst, inl, inr, arith}
use Rattle.std.specs.Prelude.{Contains, IfNone, IsTrue}
use Rattle.std.specs.List.{find}
use Rattle.std.proofs.lemmas.Bool.{cases_lt}
use Rattle.ssq_outside.specs.declared.name.Name.{Name}
use Rattle.ssq_outside.specs.Files.{name_before}
use Rattle.ssq_open.proofs.Names.{AreInOrder}

-- x stands there and passes, and none before it does
pub record IsFirstAt (p : Name → Bool) (xs : List Name) (x : Name) : Type 0 where
  pub at : ℕ
  pub within : at < length xs
  pub is : (d : Name) → get_or xs at d ≡ x
  pub passes : p x ≡ true
  pub before : (k : ℕ) (d : Name) → k < at → p (get_or xs k d) ≡ false

fails_first : (p : Name → Bool) (y : Name) (ys : List Name) (at : ℕ) → p y ≡ false → ((k : ℕ) (d : Name) → k < at → p (get_or ys k d) ≡ false)
    → (k : ℕ) (d : Name) → k < suc at → p (get_or (y ∷ ys) k d) ≡ false
fails_first p y ys at fails before zero d less = fails
fails_first p y ys at fails before (suc k) d less = before k d (omega (arith, less))

found_by : (p : Name → Bool) (y : Name) (ys : List Name) (x : Name) (b : Bool) → p y ≡ b → cond b (Some y) (find p ys) ≡ Some x
    → (find p ys ≡ Some x → IsFirstAt p ys x) → IsFirstAt p (y ∷ ys) x
found_by p y ys x true passes e later =
    let same : y ≡ x = cc in
    record { at = 0; within = omega arith; is = λ d. same; passes = ap p (sym same) ∙ passes; before = λ k d less. absurd (omega (arith, less)) }
found_by p y ys x false fails e later =
    let first = later e in
    record { at = suc first.at; within = omega (arith, first.within); is = λ d. first.is d; passes = first.passes; before = fails_first p y ys first.at fails first.before }

pub found : (p : Name → Bool) (xs : List Name) (x : Name) → find p xs ≡ Some x → IsFirstAt p xs x
found p [] x e = cc
found p (y ∷ ys) x e = found_by p y ys x (p y) refl e (found p ys x)

none_by : (p : Name → Bool) (y : Name) (ys : List Name) (b : Bool) → p y ≡ b → cond b (Some y) (find p ys) ≡ None
    → (find p ys ≡ None → (k : ℕ) (d : Name) → k < length ys → p (get_or ys k d) ≡ false) → (k : ℕ) (d : Name) → k < suc (length ys) → p (get_or (y ∷ ys) k d) ≡ false
none_by p y ys true passes e later = cc
none_by p y ys false fails e later = fails_first p y ys (length ys) fails (later e)

pub none_found : (p : Name → Bool) (xs : List Name) → find p xs ≡ None → (k : ℕ) (d : Name) → k < length xs → p (get_or xs k d) ≡ false
none_found p [] e = λ k d less. absurd (omega (arith, less))
none_found p (y ∷ ys) e = none_by p y ys (p y) refl e (none_found p ys)

-- a name that is listed does not pass, where none does
pub none_passes : (p : Name → Bool) (xs : List Name) (x : Name) → find p xs ≡ None → Contains xs x → p x ≡ true → ⊥
none_passes p xs x e has passes = let fails : p (get_or xs has.0 x) ≡ false = none_found p xs e has.0 x has.1 in let is = ap p has.2 in cc

pub found_contained : (p : Name → Bool) (xs : List Name) (x : Name) → find p xs ≡ Some x → Contains xs x × (p x ≡ true)
found_contained p xs x e = let first = found p xs x e in ((first.at, first.within, first.is x), first.passes)

-- another that passes stands after it
pub found_before : (p : Name → Bool) (xs : List Name) (x y : Name) → AreInOrder xs → find p xs ≡ Some x → Contains xs y → p y ≡ true → (y ≡ x) ⊎ IsTrue (name_before x y)
found_before p xs x y order e has passes = let first = found p xs x e in by_place first (cases_lt has.0 first.at) (cases_lt first.at has.0)
  where
    by_place : (first : IsFirstAt p xs x) → (has.0 < first.at) ⊎ (first.at ≤ has.0) → (first.at < has.0) ⊎ (has.0 ≤ first.at) → (y ≡ x) ⊎ IsTrue (name_before x y)
    by_place first (inl earlier) other = let fails : p (get_or xs has.0 y) ≡ false = first.before has.0 y earlier in let is = ap p has.2 in cc
    by_place first (inr no_earlier) (inl later) =
        let pair : IsTrue (name_before (get_or xs first.at y) (get_or xs has.0 y)) = order first.at has.0 y later has.1 in
        let P : Name → Type 0 = λ n. IsTrue (name_before n (get_or xs has.0 y)) in
        let Q : Name → Type 0 = λ n. IsTrue (name_before x n) in
        inr (subst Q has.2 (subst P (first.is y) pair))
    by_place first (inr no_earlier) (inr no_later) =
        let same : has.0 ≡ first.at = omega (arith, no_earlier, no_later) in
        inl (sym has.2 ∙ ap (λ k. get_or xs k y) same ∙ first.is y)

pub of_none : {X : Type 0} (P : Type 0) (found : Option X) → found ≡ None → IfNone found P → P
of_none P found is holds = subst (λ found. IfNone found P) is holds
