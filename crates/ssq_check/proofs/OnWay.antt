-- On the way through ON its conjuncts are met from the left.
use Rattle.std.proofs.Common.{◌≡◌, ◌∙◌, inl, inr, ap, refl, sym, subst, ℕ, Bool, true, false, ◌||◌, if◌then◌else◌, List, [], ◌∷◌, ◌++◌, map, filter, Option, Some, None}
use Rattle.std.specs.List.{list_any}
use Rattle.std.proofs.lemmas.List.{map-append}
use Rattle.std.proofs.lemmas.List.Elements.{filter-append}
use Rattle.std.proofs.lemmas.List.Folds.{list_any-append}
use mathlib.Core.Bool.{or-false, or-true, or_assoc}
use Rattle.ssq_ast.specs.declared.expr.BinaryOp.{BinaryOp}
use Rattle.ssq_ast.specs.declared.expr.Expr.{Expr}
use Rattle.ssq_ast.specs.declared.expr.Expr.TheVariants as expr
use Rattle.ssq_ast.specs.declared.expr.Expr.TheViews as view
use Rattle.ssq_ast.specs.Expression.{only}
use Rattle.ssq_ast.proofs.Boxes.{binary_is, between_is}
use Rattle.ssq_check.specs.declared.fault.BindFault.{BindFault}
use Rattle.ssq_check.specs.declared.fault.Cause.{Cause}
use Rattle.ssq_check.specs.declared.fault.Cause.TheVariants as cause
use Rattle.ssq_check.specs.declared.joined.Walk.{Walk}
use Rattle.ssq_check.specs.declared.scope.Scope.{Scope}
use Rattle.ssq_check.specs.Counted.{tally_of, Counts}
use Rattle.ssq_check.specs.Fault.{rank, Faults, IsNoLater, FirstOf, sooner}
use Rattle.ssq_check.specs.Broken.{Nothing, Either, Rule}
use Rattle.ssq_check.specs.Lists.{Each, Standing, Beyond}
use Rattle.ssq_check.specs.Names.{is_there}
use Rattle.ssq_check.specs.Joined.{Conjunct, is_and, conjuncts, is_pair, is_key_equality, key_places, between_at, is_between, is_misplaced, BoundRule, betweens, StrayFaults, BoundFaults, ConjunctFaults}
use Rattle.ssq_check.specs.Walked.{Met, MoreStrays, BoundFaultsAfter, Meets}
use Rattle.ssq_check.proofs.First.{first_sooner, later_still}
use Rattle.ssq_check.proofs.Nodes.{first_told}
use Rattle.ssq_check.proofs.Lists.{first_same, each_forth, each_back, none_behind, to_right, to_left}
use Rattle.ssq_check.proofs.Tallied.{counts_none, counts_both}

abbrev have_between : List Conjunct → Bool
have_between parts = list_any (λ part. is_between part.value) parts

met_itself : (o : Option BindFault) → FirstOf (Met o) o
met_itself None = λ c at never. never
met_itself (Some f) = first_told f

pub met_sooner : (Q : Faults) (a b : Option BindFault) → FirstOf Q b → FirstOf (Either (Met a) Q) (sooner a b)
met_sooner Q a b h = first_sooner (Met a) Q a b (met_itself a) h

-- what was the first of some faults stands for them
through : (P Q : Faults) (mid new : Option BindFault) → FirstOf P mid → FirstOf (Either (Met mid) Q) new → FirstOf (Either P Q) new
through P Q None new none h = first_same (Either (Met None) Q) (Either P Q) new forth back h
  where
    forth : (c : Cause) (at : ℕ) → Either (Met None) Q c at → Either P Q c at
    forth c at (inl never) = absurd never
    forth c at (inr q) = inr q

    back : (c : Cause) (at : ℕ) → Either P Q c at → Either (Met None) Q c at
    back c at (inl p) = absurd (none c at p)
    back c at (inr q) = inr q
through P Q (Some f) None first h = λ c at x. h f.cause f.at (inl (refl, refl))
through P Q (Some f) (Some g) first h = record { is = own h.is; least = least }
  where
    own : Either (Met (Some f)) Q g.cause g.at → Either P Q g.cause g.at
    own (inl same) = inl (rw (same.0, same.1) first.is)
    own (inr q) = inr q

    least : (c : Cause) (at : ℕ) → Either P Q c at → IsNoLater g c at
    least c at (inl p) = later_still g.at f.at at (rank g.cause) (rank f.cause) (rank c) (h.least f.cause f.at (inl (refl, refl))) (first.least c at p)
    least c at (inr q) = h.least c at (inr q)

regroup : (P Q R : Faults) (o : Option BindFault) → FirstOf (Either (Either P Q) R) o → FirstOf (Either P (Either Q R)) o
regroup P Q R o h = first_same (Either (Either P Q) R) (Either P (Either Q R)) o (to_right P Q R) (to_left P Q R) h

module _ (scope : Scope) where
  -- whether there is a BETWEEN among some
  abbrev has_one : List Conjunct → Bool
  has_one [] = false
  has_one (first ∷ others) = true

  has_one_is : (parts : List Conjunct) → has_one (betweens parts) ≡ have_between parts
  has_one_is [] = refl
  has_one_is (part ∷ parts) = by (is_between part.value) (has_one_is parts)
    where
      by : (is : Bool) → has_one (betweens parts) ≡ have_between parts → has_one (if is then part ∷ betweens parts else betweens parts) ≡ (is || have_between parts)
      by true rest = refl
      by false rest = rest

  strays_forth : (seen : Bool) (some more : List Conjunct) (c : Cause) (at : ℕ) → Either (MoreStrays scope seen some) (MoreStrays scope (seen || has_one some) more) c at → MoreStrays scope seen (some ++ more) c at
  strays_forth true some more c at h = each_forth (StrayFaults scope true) some more c at h
  strays_forth false [] more c at (inl never) = absurd never
  strays_forth false [] more c at (inr q) = q
  strays_forth false (first ∷ others) more c at (inl (inl p)) = inl p
  strays_forth false (first ∷ others) more c at (inl (inr p)) = inr (each_forth (StrayFaults scope true) others more c at (inl p))
  strays_forth false (first ∷ others) more c at (inr q) = inr (each_forth (StrayFaults scope true) others more c at (inr q))

  strays_back : (seen : Bool) (some more : List Conjunct) (c : Cause) (at : ℕ) → MoreStrays scope seen (some ++ more) c at → Either (MoreStrays scope seen some) (MoreStrays scope (seen || has_one some) more) c at
  strays_back true some more c at h = each_back (StrayFaults scope true) some more c at h
  strays_back false [] more c at q = inr q
  strays_back false (first ∷ others) more c at (inl p) = inl (inl p)
  strays_back false (first ∷ others) more c at (inr p) =
      to_left (StrayFaults scope false first) (Each (StrayFaults scope true) others) (Each (StrayFaults scope true) more) c at (inr (each_back (StrayFaults scope true) others more c at p))

  -- the faults of some parts, and then of others
  bounds_both : (xs ys : List Conjunct) (seen : Bool) (P : Faults) (o : Option BindFault) → FirstOf (Either (Either P (BoundFaultsAfter scope seen xs)) (BoundFaultsAfter scope (seen || have_between xs) ys)) o
      → FirstOf (Either P (BoundFaultsAfter scope seen (xs ++ ys))) o
  bounds_both xs ys seen P o h =
      let Some_of : Faults = MoreStrays scope seen (betweens xs) in
      let More : Bool → Faults = λ has. MoreStrays scope (seen || has) (betweens ys) in
      let Both : Faults = MoreStrays scope seen (betweens xs ++ betweens ys) in
      subst (λ (zs : List Conjunct). FirstOf (Either P (MoreStrays scope seen zs)) o) (sym (filter-append (λ (part : Conjunct). is_between part.value) xs ys))
      (first_same (Either P (Either Some_of (More (has_one (betweens xs))))) (Either P Both) o forth back
      (regroup P Some_of (More (has_one (betweens xs))) o (subst (λ has. FirstOf (Either (Either P Some_of) (More has)) o) (sym (has_one_is xs)) h)))
    where
      forth : (c : Cause) (at : ℕ) → Either P (Either (MoreStrays scope seen (betweens xs)) (MoreStrays scope (seen || has_one (betweens xs)) (betweens ys))) c at
          → Either P (MoreStrays scope seen (betweens xs ++ betweens ys)) c at
      forth c at (inl p) = inl p
      forth c at (inr q) = inr (strays_forth seen (betweens xs) (betweens ys) c at q)

      back : (c : Cause) (at : ℕ) → Either P (MoreStrays scope seen (betweens xs ++ betweens ys)) c at
          → Either P (Either (MoreStrays scope seen (betweens xs)) (MoreStrays scope (seen || has_one (betweens xs)) (betweens ys))) c at
      back c at (inl p) = inl p
      back c at (inr q) = inr (strays_back seen (betweens xs) (betweens ys) c at q)

  abbrev key_parts : List Conjunct → List Conjunct
  key_parts parts = filter (λ part. is_key_equality scope part.value) parts

  places_both : (xs ys : List Conjunct) → key_places scope (xs ++ ys) ≡ key_places scope xs ++ key_places scope ys
  places_both xs ys =
      ap (map (λ (part : Conjunct). part.at)) (filter-append (λ (part : Conjunct). is_key_equality scope part.value) xs ys)
      ∙ map-append (λ (part : Conjunct). part.at) (key_parts xs) (key_parts ys)

  pub meets_both : (xs ys : List Conjunct) (old mid new : Walk) → Meets scope old xs mid → Meets scope mid ys new → Meets scope old (xs ++ ys) new
  meets_both xs ys old mid new first second = record { seen = seen; keys = keys; bound = bound }
    where
      seen : new.seen ≡ (old.seen || have_between (xs ++ ys))
      seen = second.seen ∙ ap (λ s. s || have_between ys) first.seen ∙ or_assoc old.seen (have_between xs) (have_between ys) ∙ ap (λ d. old.seen || d) (sym (list_any-append (λ (part : Conjunct). is_between part.value) xs ys))

      keys : Counts old.keys (key_places scope (xs ++ ys)) new.keys
      keys = subst (λ places. Counts old.keys places new.keys) (sym (places_both xs ys)) (counts_both (key_places scope xs) (key_places scope ys) old.keys mid.keys new.keys first.keys second.keys)

      bound : FirstOf (Either (Met old.bound) (BoundFaultsAfter scope old.seen (xs ++ ys))) new.bound
      bound = bounds_both xs ys old.seen (Met old.bound) new.bound
          (subst (λ s. FirstOf (Either (Either (Met old.bound) (BoundFaultsAfter scope old.seen xs)) (BoundFaultsAfter scope s ys)) new.bound) first.seen
          (through (Either (Met old.bound) (BoundFaultsAfter scope old.seen xs)) (BoundFaultsAfter scope mid.seen ys) mid.bound new.bound first.bound second.bound))

  abbrev part_at : ℕ → Expr → Conjunct
  part_at at value = record { at = at; value = value }

  place_of_one : (part : Conjunct) (is_key : Bool) → map (λ (own : Conjunct). own.at) (if is_key then part ∷ [] else []) ≡ (if is_key then part.at ∷ [] else [])
  place_of_one part true = refl
  place_of_one part false = refl

  none_stray : (seen : Bool) (c : Cause) (at : ℕ) → MoreStrays scope seen [] c at → ⊥
  none_stray true c at never = never
  none_stray false c at never = never

  -- one part, which is no BETWEEN
  pub meets_key : (old new : Walk) (at : ℕ) (value : Expr) (d : Bool) → between_at value ≡ None → is_key_equality scope value ≡ d
      → new.seen ≡ old.seen → new.bound ≡ old.bound → Counts old.keys (if d then at ∷ [] else []) new.keys → Meets scope old (part_at at value ∷ []) new
  meets_key old new at value d own_is key_is seen_is bound_is counted = record { seen = seen; keys = keys; bound = bound }
    where
      seen : new.seen ≡ (old.seen || (is_there (between_at value) || false))
      seen = seen_is ∙ rw own_is (sym (or-false old.seen))

      keys : Counts old.keys (key_places scope (part_at at value ∷ [])) new.keys
      keys =
          subst (λ (places : List ℕ). Counts old.keys places new.keys) (sym (place_of_one (part_at at value) (is_key_equality scope value)))
          (subst (λ b. Counts old.keys (if b then at ∷ [] else []) new.keys) (sym key_is) counted)

      plain : FirstOf (Either (Met old.bound) (MoreStrays scope old.seen [])) old.bound
      plain = first_same (Met old.bound) (Either (Met old.bound) (MoreStrays scope old.seen [])) old.bound (λ c at p. inl p) back (met_itself old.bound)
        where
          back : (c : Cause) (at : ℕ) → Either (Met old.bound) (MoreStrays scope old.seen []) c at → Met old.bound c at
          back c at (inl p) = p
          back c at (inr q) = absurd (none_stray old.seen c at q)

      bound : FirstOf (Either (Met old.bound) (MoreStrays scope old.seen (if is_there (between_at value) then part_at at value ∷ [] else []))) new.bound
      bound =
          subst (λ (o : Option BindFault). FirstOf (Either (Met old.bound) (MoreStrays scope old.seen (if is_there (between_at value) then part_at at value ∷ [] else []))) o) (sym bound_is)
          (subst (λ (own : Option ℕ). FirstOf (Either (Met old.bound) (MoreStrays scope old.seen (if is_there own then part_at at value ∷ [] else []))) old.bound) (sym own_is) plain)

  one_stray : (seen : Bool) (part : Conjunct) (P : Faults) (o : Option BindFault) → FirstOf (Either P (StrayFaults scope seen part)) o → FirstOf (Either P (MoreStrays scope seen (part ∷ []))) o
  one_stray true part P o h = regroup P (StrayFaults scope true part) Nothing o (none_behind (Either P (StrayFaults scope true part)) o h)
  one_stray false part P o h = regroup P (StrayFaults scope false part) Nothing o (none_behind (Either P (StrayFaults scope false part)) o h)

  -- one part, a BETWEEN
  pub meets_between : (old new : Walk) (at b : ℕ) (value : Expr) (bad : Bool) → between_at value ≡ Some b → is_key_equality scope value ≡ false → bad ≡ is_misplaced scope old.seen value
      → new.seen ≡ true → new.keys ≡ old.keys → FirstOf (Either (Met old.bound) (Rule cause.BadBound b (bad ≡ true))) new.bound → Meets scope old (part_at at value ∷ []) new
  meets_between old new at b value bad own_is key_is bad_is seen_is keys_is first = record { seen = seen; keys = keys; bound = bound }
    where
      seen : new.seen ≡ (old.seen || (is_there (between_at value) || false))
      seen = seen_is ∙ rw own_is (sym (or-true old.seen))

      keys : Counts old.keys (key_places scope (part_at at value ∷ [])) new.keys
      keys = rw key_is (λ most before is. keys_is ∙ counts_none old.keys most before is)

      misplaced : FirstOf (Either (Met old.bound) (BoundRule (Some b) (is_misplaced scope old.seen value))) new.bound
      misplaced = subst (λ (m : Bool). FirstOf (Either (Met old.bound) (Rule cause.BadBound b (m ≡ true))) new.bound) bad_is first

      stray : FirstOf (Either (Met old.bound) (StrayFaults scope old.seen (part_at at value))) new.bound
      stray = subst (λ (own : Option ℕ). FirstOf (Either (Met old.bound) (BoundRule own (is_misplaced scope old.seen value))) new.bound) (sym own_is) misplaced

      bound : FirstOf (Either (Met old.bound) (MoreStrays scope old.seen (if is_there (between_at value) then part_at at value ∷ [] else []))) new.bound
      bound =
          subst (λ (own : Option ℕ). FirstOf (Either (Met old.bound) (MoreStrays scope old.seen (if is_there own then part_at at value ∷ [] else []))) new.bound) (sym own_is)
          (one_stray old.seen (part_at at value) (Met old.bound) new.bound stray)

  pub meets_and : (old new : Walk) (at left_at : ℕ) (a : Expr) (o : BinaryOp) (own right_at : ℕ) (b : Expr) → is_and o ≡ true
      → Meets scope old (conjuncts left_at a ++ conjuncts right_at b) new → Meets scope old (conjuncts at (expr.Binary' left_at tt (only a) o own right_at tt (only b))) new
  unfolding conjuncts
  meets_and old new at left_at a o own right_at b is h = rw is h

  pub meets_pair : (old new : Walk) (at left_at : ℕ) (a : Expr) (o : BinaryOp) (own right_at : ℕ) (b : Expr) → is_and o ≡ false
      → new.seen ≡ old.seen → new.bound ≡ old.bound → Counts old.keys (if is_pair scope o a b then at ∷ [] else []) new.keys
      → Meets scope old (conjuncts at (expr.Binary' left_at tt (only a) o own right_at tt (only b))) new
  unfolding conjuncts is_key_equality between_at
  meets_pair old new at left_at a o own right_at b is seen_is bound_is counted =
      rw is (meets_key old new at (expr.Binary' left_at tt (only a) o own right_at tt (only b)) (is_pair scope o a b) refl refl seen_is bound_is counted)

  pub conjuncts_first : (parts : List Conjunct) (first walk : Walk) (past o : Option BindFault) → first ≡ record { seen = false; bound = None; keys = tally_of 64 [] } → Meets scope first parts walk
      → FirstOf (Standing cause.TooMany walk.keys.past) past → o ≡ sooner past walk.bound → FirstOf (ConjunctFaults scope parts) o
  unfolding BoundFaults
  conjuncts_first parts first walk past o first_is met over is =
      let keys_are : walk.keys ≡ tally_of 64 (key_places scope parts) = met.keys 64 [] (λ i. (first_is i).keys) in
      let bound : FirstOf (Either (Met None) (BoundFaults scope parts)) walk.bound = subst (λ (w : Walk). FirstOf (Either (Met w.bound) (BoundFaultsAfter scope w.seen parts)) walk.bound) first_is met.bound in
      let own : FirstOf (BoundFaults scope parts) walk.bound = first_same (Either (Met None) (BoundFaults scope parts)) (BoundFaults scope parts) walk.bound forth (λ c at q. inr q) bound in
      subst (λ (o : Option BindFault). FirstOf (ConjunctFaults scope parts) o) (sym is)
      (first_sooner (Beyond (key_places scope parts)) (BoundFaults scope parts) past walk.bound
      (subst (λ (at : Option ℕ). FirstOf (Standing cause.TooMany at) past) (λ i. (keys_are i).past) over) own)
    where
      forth : (c : Cause) (at : ℕ) → Either (Met None) (BoundFaults scope parts) c at → BoundFaults scope parts c at
      forth c at (inl never) = absurd never
      forth c at (inr q) = q

  pub meets_neither : (walk : Walk) (at : ℕ) (value : Expr) → between_at value ≡ None → is_key_equality scope value ≡ false → Meets scope walk (part_at at value ∷ []) walk
  meets_neither walk at value own_is key_is = meets_key walk walk at value false own_is key_is refl refl (counts_none walk.keys)

  pub meets_other : (walk : Walk) (at : ℕ) (value : Expr)
      → ((left_at : ℕ) (a : Expr) (o : BinaryOp) (own right_at : ℕ) (b : Expr) → value ≡ view.Binary left_at a o own right_at b → ⊥)
      → ((a : Expr) (own : ℕ) (b c : Expr) → value ≡ view.Between a own b c → ⊥)
      → Meets scope walk (conjuncts at value) walk
  unfolding conjuncts is_key_equality between_at
  meets_other walk at (expr.Number n own) not_binary not_between = meets_neither walk at (expr.Number n own) refl refl
  meets_other walk at (expr.Text text own) not_binary not_between = meets_neither walk at (expr.Text text own) refl refl
  meets_other walk at (expr.Truth truth own) not_binary not_between = meets_neither walk at (expr.Truth truth own) refl refl
  meets_other walk at (expr.Timestamp moment own) not_binary not_between = meets_neither walk at (expr.Timestamp moment own) refl refl
  meets_other walk at (expr.Interval span own) not_binary not_between = meets_neither walk at (expr.Interval span own) refl refl
  meets_other walk at (expr.Column column) not_binary not_between = meets_neither walk at (expr.Column column) refl refl
  meets_other walk at (expr.CountRows own) not_binary not_between = meets_neither walk at (expr.CountRows own) refl refl
  meets_other walk at (expr.Aggregate' f own p (only x)) not_binary not_between = meets_neither walk at (expr.Aggregate' f own p (only x)) refl refl
  meets_other walk at (expr.Unary' o own p (only x)) not_binary not_between = meets_neither walk at (expr.Unary' o own p (only x)) refl refl
  meets_other walk at (expr.IsNull' p (only x) own test) not_binary not_between = meets_neither walk at (expr.IsNull' p (only x) own test) refl refl
  meets_other walk at (expr.Binary' left_at p (only a) o own right_at q (only b)) not_binary not_between = absurd (not_binary left_at a o own right_at b (sym (binary_is left_at a o own right_at b)))
  meets_other walk at (expr.Between' p (only a) own q (only b) r (only c)) not_binary not_between = absurd (not_between a own b c (sym (between_is a own b c)))
