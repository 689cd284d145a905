-- The first fault of a list is found from the left.
use Rattle.std.proofs.Common.{◌≡◌, ◌∙◌, inl, inr, refl, sym, ap, subst, ℕ, ◌+◌, ◌<◌, Bool, true, false, List, [], ◌∷◌, ◌++◌, length, take, get_or, Option, Some, None, Result, Ok, Err}
use Rattle.std.specs.List.{flat_map}
use Rattle.std.proofs.lemmas.List.{take_more, append-nil}
use Rattle.std.proofs.lemmas.List.Concat.{flat_map-append}
use Rattle.ssq_value.specs.declared.column.ColType.{ColType}
use Rattle.ssq_check.specs.declared.fault.Cause.{Cause}
use Rattle.ssq_check.specs.declared.fault.Cause.TheVariants as cause
use Rattle.ssq_check.specs.declared.fault.BindFault.{BindFault}
use Rattle.ssq_check.specs.Fault.{Faults, Answers, FirstOf, sooner}
use Rattle.ssq_check.specs.Broken.{Nothing, Either, Rule}
use Rattle.ssq_check.specs.Lists.{Each, has_name, with_name, names_from, double_at, Doubled, fault_in}
use Rattle.ssq_check.proofs.First.{none_either, first_left, first_sooner}
use Rattle.ssq_check.proofs.Nodes.{first_rule, no_rule}

-- the same faults, put otherwise
pub first_same : (P Q : Faults) (o : Option BindFault) → ((c : Cause) (at : ℕ) → P c at → Q c at) → ((c : Cause) (at : ℕ) → Q c at → P c at) → FirstOf P o → FirstOf Q o
first_same P Q None to back h = λ c at q. h c at (back c at q)
first_same P Q (Some f) to back h = record { is = to f.cause f.at h.is; least = λ c at q. h.least c at (back c at q) }

pub to_right : (P Q R : Faults) (c : Cause) (at : ℕ) → Either (Either P Q) R c at → Either P (Either Q R) c at
to_right P Q R c at (inl (inl p)) = inl p
to_right P Q R c at (inl (inr q)) = inr (inl q)
to_right P Q R c at (inr r) = inr (inr r)

pub to_left : (P Q R : Faults) (c : Cause) (at : ℕ) → Either P (Either Q R) c at → Either (Either P Q) R c at
to_left P Q R c at (inl p) = inl (inl p)
to_left P Q R c at (inr (inl q)) = inl (inr q)
to_left P Q R c at (inr (inr r)) = inr r

pub none_behind : (P : Faults) (o : Option BindFault) → FirstOf P o → FirstOf (Either P Nothing) o
none_behind P None h = none_either P Nothing h (λ c at never. never)
none_behind P (Some f) h = first_left P Nothing f h (λ c at never. never)

pub none_before : (P : Faults) (o : Option BindFault) → FirstOf (Either Nothing P) o → FirstOf P o
none_before P o h = first_same (Either Nothing P) P o (λ c at. drop_left c at) (λ c at p. inr p) h
  where
    drop_left : (c : Cause) (at : ℕ) → Either Nothing P c at → P c at
    drop_left c at (inl never) = absurd never
    drop_left c at (inr p) = p

-- what is known of the names of these: the first that one in front of it has, and which there are
pub record AreNoted {A : Type 0} (name : A → List ℕ) (place : A → ℕ) (xs : List A) (double : Option BindFault) (seen : List (List ℕ)) : Type 0 where
  pub first : FirstOf (Doubled name place [] xs) double
  pub names : seen ≡ names_from name [] xs

double_first : (at : ℕ) (there : Bool) → FirstOf (Rule cause.DoubleName at (there ≡ true)) (double_at at there)
double_first at true = first_rule cause.DoubleName at (true ≡ true) refl
double_first at false = no_rule cause.DoubleName at (false ≡ true) (λ never. absurd (cc))

module _ {A : Type 0} where
  -- one element more, in front of those that are left
  pub take_one : (xs : List A) (i : ℕ) (x : A) → i < length xs → x ≡ get_or xs i x → take (i + 1) xs ≡ take i xs ++ x ∷ []
  take_one xs i x inside is = take_more xs i x inside ∙ (λ j. take i xs ++ sym is j ∷ [])

  pub each_forth : (F : A → Faults) (xs ys : List A) (c : Cause) (at : ℕ) → Either (Each F xs) (Each F ys) c at → Each F (xs ++ ys) c at
  each_forth F [] ys c at (inl never) = absurd never
  each_forth F [] ys c at (inr p) = p
  each_forth F (x ∷ xs) ys c at (inl (inl p)) = inl p
  each_forth F (x ∷ xs) ys c at (inl (inr p)) = inr (each_forth F xs ys c at (inl p))
  each_forth F (x ∷ xs) ys c at (inr p) = inr (each_forth F xs ys c at (inr p))

  pub each_back : (F : A → Faults) (xs ys : List A) (c : Cause) (at : ℕ) → Each F (xs ++ ys) c at → Either (Each F xs) (Each F ys) c at
  each_back F [] ys c at p = inr p
  each_back F (x ∷ xs) ys c at (inl p) = inl (inl p)
  each_back F (x ∷ xs) ys c at (inr p) = to_left (F x) (Each F xs) (Each F ys) c at (inr (each_back F xs ys c at p))

  -- one element more
  pub each_more : (F : A → Faults) (xs ys : List A) (x : A) (first own next : Option BindFault)
      → ys ≡ xs ++ x ∷ [] → next ≡ sooner first own → FirstOf (Each F xs) first → FirstOf (F x) own → FirstOf (Each F ys) next
  each_more F xs ys x first own next ys_is next_is before one =
      subst (λ (got : List A × Option BindFault). FirstOf (Each F got.0) got.1) (λ i. (sym ys_is i, sym next_is i))
      (first_same (Either (Each F xs) (Each F (x ∷ []))) (Each F (xs ++ x ∷ [])) (sooner first own) (each_forth F xs (x ∷ [])) (each_back F xs (x ∷ []))
      (first_sooner (Each F xs) (Each F (x ∷ [])) first own before (none_behind (F x) own one)))

  module _ (name : A → List ℕ) (place : A → ℕ) where
    doubled_forth : (seen : List (List ℕ)) (xs : List A) (x : A) (c : Cause) (at : ℕ)
        → Either (Doubled name place seen xs) (Rule cause.DoubleName (place x) (has_name (name x) (names_from name seen xs) ≡ true)) c at → Doubled name place seen (xs ++ x ∷ []) c at
    unfolding Doubled names_from
    doubled_forth seen [] x c at (inl never) = absurd never
    doubled_forth seen [] x c at (inr p) = inl p
    doubled_forth seen (y ∷ ys) x c at (inl (inl p)) = inl p
    doubled_forth seen (y ∷ ys) x c at (inl (inr p)) = inr (doubled_forth (with_name seen (name y)) ys x c at (inl p))
    doubled_forth seen (y ∷ ys) x c at (inr p) = inr (doubled_forth (with_name seen (name y)) ys x c at (inr p))

    doubled_back : (seen : List (List ℕ)) (xs : List A) (x : A) (c : Cause) (at : ℕ)
        → Doubled name place seen (xs ++ x ∷ []) c at → Either (Doubled name place seen xs) (Rule cause.DoubleName (place x) (has_name (name x) (names_from name seen xs) ≡ true)) c at
    unfolding Doubled names_from
    doubled_back seen [] x c at (inl p) = inr p
    doubled_back seen [] x c at (inr never) = absurd never
    doubled_back seen (y ∷ ys) x c at (inl p) = inl (inl p)
    doubled_back seen (y ∷ ys) x c at (inr p) =
        to_left (Rule cause.DoubleName (place y) (has_name (name y) seen ≡ true)) (Doubled name place (with_name seen (name y)) ys) (Rule cause.DoubleName (place x) (has_name (name x) (names_from name seen (y ∷ ys)) ≡ true)) c at
        (inr (doubled_back (with_name seen (name y)) ys x c at p))

    names_more : (seen : List (List ℕ)) (xs : List A) (x : A) → names_from name seen (xs ++ x ∷ []) ≡ with_name (names_from name seen xs) (name x)
    unfolding names_from
    names_more seen [] x = refl
    names_more seen (y ∷ ys) x = names_more (with_name seen (name y)) ys x

    pub noted_none : (first : Option BindFault) (seen : List (List ℕ)) → seen ≡ [] → first ≡ None → AreNoted name place [] first seen
    unfolding Doubled names_from
    noted_none first seen seen_is first_is =
        subst (λ (it : Option BindFault × List (List ℕ)). AreNoted name place [] it.0 it.1) (λ i. (sym first_is i, sym seen_is i)) (record { first = λ c at never. never; names = refl })

    -- one name more
    pub noted_more : (xs ys : List A) (x : A) (own_name : List ℕ) (at : ℕ) (first next : Option BindFault) (seen more : List (List ℕ))
        → ys ≡ xs ++ x ∷ [] → own_name ≡ name x → at ≡ place x → next ≡ sooner first (double_at at (has_name own_name seen)) → more ≡ with_name seen own_name
        → AreNoted name place xs first seen → AreNoted name place ys next more
    noted_more xs ys x own_name at first next seen more ys_is name_is at_is next_is more_is noted =
        let names = names_from name [] xs in
        let Own = Rule cause.DoubleName (place x) (has_name (name x) names ≡ true) in
        let own = double_at (place x) (has_name (name x) names) in
        let next_as : next ≡ sooner first own = next_is ∙ (λ i. sooner first (double_at (at_is i) (has_name (name_is i) (noted.names i)))) in
        record {
          first =
              subst (λ (got : List A × Option BindFault). FirstOf (Doubled name place [] got.0) got.1) (λ i. (sym ys_is i, sym next_as i))
              (first_same (Either (Doubled name place [] xs) Own) (Doubled name place [] (xs ++ x ∷ [])) (sooner first own) (doubled_forth [] xs x) (doubled_back [] xs x)
              (first_sooner (Doubled name place [] xs) Own first own noted.first (double_first (place x) (has_name (name x) names))));
          names = more_is ∙ (λ i. with_name (noted.names i) (name_is i)) ∙ sym (names_more [] xs x) ∙ ap (names_from name []) (sym ys_is);
        }

module _ {A B : Type 0} (f : A → List B) (xs : List A) (x : A) where
  -- what is told by one element more, or is not
  pub flat_one : (y : B) → f x ≡ y ∷ [] → flat_map f (xs ++ x ∷ []) ≡ flat_map f xs ++ y ∷ []
  flat_one y is = flat_map-append f xs (x ∷ []) ∙ (λ i. flat_map f xs ++ (is i ++ []))

  pub flat_none : f x ≡ [] → flat_map f (xs ++ x ∷ []) ≡ flat_map f xs
  flat_none is = flat_map-append f xs (x ∷ []) ∙ (λ i. flat_map f xs ++ (is i ++ [])) ∙ append-nil (flat_map f xs)

pub fault_first : (P : Faults) (v : Option ColType) (r : Result ColType BindFault) → Answers P v r → FirstOf P (fault_in r)
fault_first P v (Ok k) h = h.1
fault_first P v (Err f) h = h.1
