-- What holds of ON holds of each of its parts, and of its bound.
use Rattle.std.proofs.Common.{◌≡◌, refl, inl, ℕ, Bool, true, false, not, ◌&&◌, ◌||◌, List, [], ◌∷◌, ◌++◌, map, Option, Some, None}
use Rattle.std.specs.Prelude.{if◌then◌else◌, slice_get, IfSome}
use Rattle.std.specs.List.{AllByRecursion, flat_map}
use Rattle.ssq_value.specs.declared.column.ColType.{ColType}
use Rattle.ssq_shape.specs.declared.bound.TimeBound.{TimeBound}
use Rattle.ssq_ast.specs.declared.expr.BinaryOp.{BinaryOp}
use Rattle.ssq_ast.specs.declared.expr.Expr.{Expr}
use Rattle.ssq_ast.specs.declared.expr.Expr.TheVariants as expr
use Rattle.ssq_ast.specs.Expression.{only}
use Rattle.ssq_check.specs.declared.fault.Cause.TheVariants as cause
use Rattle.ssq_check.specs.declared.scope.Scope.{Scope}
use Rattle.ssq_check.specs.declared.scope.Within.TheVariants as within
use Rattle.ssq_check.specs.Broken.{Rule}
use Rattle.ssq_check.specs.Fault.{AreNone}
use Rattle.ssq_check.specs.Joined.{Conjunct, conjuncts, is_and, is_bound, are_typed, between_at, is_between, is_misplaced, betweens, StraysAmong, BoundFaults}
use Rattle.ssq_check.specs.Names.{is_there}
use Rattle.ssq_check.specs.Rules.{kind, of_one, together, between_kind}
use Rattle.ssq_bind.specs.Joins.{bound_by, time_bound}
use Rattle.ssq_bind.specs.Lists.{listed}
use Rattle.ssq_bind.proofs.GroupLemmas.{all_both}
use Rattle.ssq_bind.proofs.OnLemmas.{value_in}

-- what each side of AND has where the whole has it
pub parts_have : (P : Expr → Type 0)
    → ((a b : Expr) (o : BinaryOp) (left_at at right_at : ℕ) → is_and o ≡ true → P (expr.Binary' left_at tt (only a) o at right_at tt (only b)) → P a × P b)
    → (at : ℕ) (e : Expr) → P e → AllByRecursion (λ (part : Conjunct). P part.value) (conjuncts at e)
unfolding conjuncts
parts_have P split at (expr.Binary' left_at p (only a) o own right_at q (only b)) is = by (is_and o) refl (parts_have P split left_at a) (parts_have P split right_at b)
  where
    whole : Expr
    whole = expr.Binary' left_at p (only a) o own right_at q (only b)

    by : (joins : Bool) → is_and o ≡ joins
        → (P a → AllByRecursion (λ (part : Conjunct). P part.value) (conjuncts left_at a))
        → (P b → AllByRecursion (λ (part : Conjunct). P part.value) (conjuncts right_at b))
        → AllByRecursion (λ (part : Conjunct). P part.value) (if joins then conjuncts left_at a ++ conjuncts right_at b else record { at = at; value = whole } ∷ [])
    by true joins left right =
        let both = split a b o left_at own right_at joins is in
        all_both (λ (part : Conjunct). P part.value) (conjuncts left_at a) (conjuncts right_at b) (left both.0) (right both.1)
    by false joins left right = (is, tt)
parts_have P split at _ is = (is, tt)

-- ---- the bound

none_there : false ≡ true → ⊥
none_there is = absurd cc

between_kinds : (a b c : Option ColType) → is_there (of_one (λ triple. between_kind triple.0.0 triple.0.1 triple.1) (together (together a b) c)) ≡ true → (is_there a && is_there b && is_there c) ≡ true
between_kinds (Some a) (Some b) (Some c) is = refl
between_kinds (Some a) (Some b) None is = absurd (none_there is)
between_kinds (Some a) None c is = absurd (none_there is)
between_kinds None b c is = absurd (none_there is)

unbroken_bound : (at : ℕ) (is_bound is_typed : Bool) → is_typed ≡ true → AreNone (Rule cause.BadBound at (((false || not is_bound) && is_typed) ≡ true)) → is_bound ≡ true
unbroken_bound at true is_typed typed none = refl
unbroken_bound at false is_typed typed none = absurd (none cause.BadBound at (refl, refl, typed))

module _ (rows : Scope) where
  between_typed : (a b c : Expr) (at : ℕ) → is_there (kind rows within.Row (expr.Between' tt (only a) at tt (only b) tt (only c))) ≡ true → are_typed rows a b c ≡ true
  unfolding kind
  between_typed a b c at is = between_kinds (kind rows within.Row a) (kind rows within.Row b) (kind rows within.Row c) is

  -- what each BETWEEN that may stand there is bound to has, where its parts have a type
  module _ (names : Scope) (P : Expr → Type 0) (Q : TimeBound → Type 0) (typed : (e : Expr) → P e → is_there (kind rows within.Row e) ≡ true)
      (bounds : (a b c : Expr) (at : ℕ) → P (expr.Between' tt (only a) at tt (only b) tt (only c)) → is_bound rows a b c ≡ true → Q (bound_by names a b c)) where
    abbrev FirstHas : List Expr → Type 0
    FirstHas es = IfSome (slice_get (flat_map (λ e. listed (time_bound names e)) es) 0) Q

    -- a BETWEEN that may stand there is the bound; else the first after it is
    value_has : (at : ℕ) (value : Expr) (parts : List Conjunct) → P value
        → AreNone (StraysAmong rows (if is_between value then record { at = at; value = value } ∷ betweens parts else betweens parts))
        → (AreNone (BoundFaults rows parts) → FirstHas (map value_in parts)) → FirstHas (value ∷ map value_in parts)
    unfolding time_bound between_at is_misplaced BoundFaults
    value_has place (expr.Between' p (only a) at q (only b) r (only c)) parts is none behind =
        bounds a b c at is (unbroken_bound at (is_bound rows a b c) (are_typed rows a b c) (between_typed a b c at (typed (expr.Between' p (only a) at q (only b) r (only c)) is)) (λ c at own. none c at (inl own)))
    value_has place _ parts is none behind = behind none

    pub first_has : (parts : List Conjunct) → AllByRecursion (λ (part : Conjunct). P part.value) parts → AreNone (BoundFaults rows parts) → FirstHas (map value_in parts)
    unfolding BoundFaults
    first_has [] all none = tt
    first_has (part ∷ parts) all none = value_has part.at part.value parts all.0 none (first_has parts all.1)
