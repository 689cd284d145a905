-- Lists of keys: each once, and those that pass a test.
use Rattle.std.proofs.Common.{◌≡◌, ◌++◌, [], ◌∷◌, List, Option, Some, None, Bool, true, false, refl, ap, sym, ◌∙◌, filter}
use Rattle.std.specs.Prelude.{◌&&◌, ◌||◌, suc, not, filter_map, if◌then◌else◌, length}
use Rattle.std.specs.declared.cmp.Ordering.{Ordering}
use Rattle.std.specs.declared.cmp.Ordering.TheVariants.{Less, Equal, Greater}
use Rattle.std.specs.Cmp.{IsEquivalence, eq_by_cmp_equiv}
use Rattle.std.specs.Ordering.{is_eq}
use Rattle.std.specs.List.{AllByRecursion, cons_option, list_any}
use Rattle.std.specs.List.Sorted.{IsPermutation}
use Rattle.std.proofs.lemmas.List.Sorted.{IsPermutation-refl, IsPermutation-cons, IsPermutation-middle, IsPermutation-trans}
use Rattle.ssq_value.specs.Order.{values_cmp}
use Rattle.ssq_value.specs.OrderLaws.{values_cmp_total, values_cmp_exact}
use Rattle.ssq_meaning.specs.Meaning.{Values}
use Rattle.ssq_meaning.specs.Group.{is_same, without, distinct}
use Rattle.ssq_meaning.specs.GroupLaws.{times}

-- ---- equal keys

is_equal : (r : Ordering) → is_eq r ≡ true → r ≡ Equal
is_equal Less is = absurd cc
is_equal Equal is = refl
is_equal Greater is = absurd cc

-- keys that are the same are one
pub same_is : (a b : Values) → is_same a b ≡ true → a ≡ b
same_is a b same = values_cmp_exact a b (is_equal (values_cmp a b) same)

same_equiv : IsEquivalence is_same
same_equiv = eq_by_cmp_equiv values_cmp_total

pub same_itself : (a : Values) → is_same a a ≡ true
same_itself a = same_equiv.refl a

pub same_back : (a b : Values) → is_same a b ≡ is_same b a
same_back a b = same_equiv.symm a b

-- ---- tests

module _ {A : Type 0} where
  filter_if : (p : A → Bool) (b : Bool) (x : A) (xs : List A) → filter p (if b then x ∷ xs else xs) ≡ (if b then (if p x then x ∷ filter p xs else filter p xs) else filter p xs)
  filter_if p true x xs = refl
  filter_if p false x xs = refl

  -- two tests in either order
  pub filter_turned : (p q : A → Bool) (xs : List A) → filter p (filter q xs) ≡ filter q (filter p xs)
  filter_turned p q [] = refl
  filter_turned p q (x ∷ xs) =
      filter_if p (q x) x (filter q xs) ∙ both (filter_turned p q xs) (p x) (q x) ∙ sym (filter_if q (p x) x (filter p xs))
    where
      both : filter p (filter q xs) ≡ filter q (filter p xs) → (b c : Bool) → (if c then (if b then x ∷ filter p (filter q xs) else filter p (filter q xs)) else filter p (filter q xs))
          ≡ (if b then (if c then x ∷ filter q (filter p xs) else filter q (filter p xs)) else filter q (filter p xs))
      both rest true true = ap (λ l. x ∷ l) rest
      both rest true false = rest
      both rest false true = rest
      both rest false false = rest

  -- a test that nothing passes
  pub none_pass : (p : A → Bool) (xs : List A) → AllByRecursion (λ x. p x ≡ false) xs → filter p xs ≡ []
  none_pass p [] none = refl
  none_pass p (x ∷ xs) none = ap (λ b. if b then x ∷ filter p xs else filter p xs) none.0 ∙ none_pass p xs none.1

  -- functions that agree where a test passes
  pub map_agrees : {B : Type 0} (p : A → Bool) (f g : A → Option B) → ((x : A) → p x ≡ true → f x ≡ g x) → (xs : List A) → filter_map f (filter p xs) ≡ filter_map g (filter p xs)
  map_agrees p f g agree [] = refl
  map_agrees p f g agree (x ∷ xs) = by (map_agrees p f g agree xs) (p x) refl
    where
      by : filter_map f (filter p xs) ≡ filter_map g (filter p xs) → (b : Bool) → p x ≡ b → filter_map f (if b then x ∷ filter p xs else filter p xs) ≡ filter_map g (if b then x ∷ filter p xs else filter p xs)
      by rest true is = λ i. cons_option (agree x is i) (rest i)
      by rest false is = rest

  -- what one test lets pass is what another does and what is left of it
  pub map_split : {B : Type 0} (f : A → Option B) (p r : A → Bool) → ((x : A) → p x ≡ true → r x ≡ true) → (xs : List A)
      → IsPermutation (filter_map f (filter p xs) ++ filter_map f (filter (λ x. r x && not (p x)) xs)) (filter_map f (filter r xs))
  map_split f p r within [] = IsPermutation-refl []
  map_split {B = B} f p r within (x ∷ xs) = by (map_split f p r within xs) (p x) (r x) refl refl
    where
      left : List B
      left = filter_map f (filter p xs)

      right : List B
      right = filter_map f (filter (λ x. r x && not (p x)) xs)

      all : List B
      all = filter_map f (filter r xs)

      front : IsPermutation (left ++ right) all → (shown : Option B) → IsPermutation (cons_option shown left ++ right) (cons_option shown all)
      front rest None = rest
      front rest (Some y) = IsPermutation-cons y (left ++ right) all rest

      back : IsPermutation (left ++ right) all → (shown : Option B) → IsPermutation (left ++ cons_option shown right) (cons_option shown all)
      back rest None = rest
      back rest (Some y) = IsPermutation-trans _ _ _ (IsPermutation-middle left y right) (IsPermutation-cons y (left ++ right) all rest)

      by : IsPermutation (left ++ right) all → (b c : Bool) → p x ≡ b → r x ≡ c → IsPermutation
          (filter_map f (if b then x ∷ filter p xs else filter p xs) ++ filter_map f (if (c && not b) then x ∷ filter (λ x. r x && not (p x)) xs else filter (λ x. r x && not (p x)) xs))
          (filter_map f (if c then x ∷ filter r xs else filter r xs))
      by rest true true is same = front rest (f x)
      by rest true false is same = let no : true ≡ false = sym (within x is) ∙ same in absurd cc
      by rest false true is same = back rest (f x)
      by rest false false is same = rest

-- ---- counting

module _ {A : Type 0} where
  -- a test after one that decides it
  pub filter_within : (p q : A → Bool) (b : Bool) → ((x : A) → p x ≡ true → q x ≡ b) → (xs : List A) → filter p (filter q xs) ≡ (if b then filter p xs else [])
  filter_within p q true agree [] = refl
  filter_within p q false agree [] = refl
  filter_within p q b agree (x ∷ xs) =
      filter_if p (q x) x (filter q xs) ∙ by (filter_within p q b agree xs) b refl (p x) (q x) refl refl
    where
      by : filter p (filter q xs) ≡ (if b then filter p xs else []) → (a : Bool) → b ≡ a → (c d : Bool) → p x ≡ c → q x ≡ d
          → (if d then (if c then x ∷ filter p (filter q xs) else filter p (filter q xs)) else filter p (filter q xs)) ≡ (if a then (if c then x ∷ filter p xs else filter p xs) else [])
      by rest true is true true passes stays = ap (λ l. x ∷ l) (rest ∙ ap (λ b. if b then filter p xs else []) is)
      by rest true is true false passes stays = let no : false ≡ true = sym stays ∙ agree x passes ∙ is in absurd cc
      by rest true is false true passes stays = rest ∙ ap (λ b. if b then filter p xs else []) is
      by rest true is false false passes stays = rest ∙ ap (λ b. if b then filter p xs else []) is
      by rest false is true true passes stays = let no : true ≡ false = sym stays ∙ agree x passes ∙ is in absurd cc
      by rest false is true false passes stays = rest ∙ ap (λ b. if b then filter p xs else []) is
      by rest false is false true passes stays = rest ∙ ap (λ b. if b then filter p xs else []) is
      by rest false is false false passes stays = rest ∙ ap (λ b. if b then filter p xs else []) is

-- how often a key stands among those that pass a test
pub times_passing : (key : Values) (p : Values → Bool) (keys : List Values) → times key (filter p keys) ≡ (if p key then times key keys else 0)
times_passing key p keys =
    ap (λ l. length l) (filter_within (is_same key) p (p key) (λ other same. ap p (sym (same_is key other same))) keys) ∙ by (p key)
  where
    by : (b : Bool) → length (if b then filter (is_same key) keys else []) ≡ (if b then length (filter (is_same key) keys) else 0)
    by true = refl
    by false = refl

-- each of some keys stands once among them
pub times_distinct : (key : Values) (keys : List Values) → times key (distinct keys) ≡ (if list_any (is_same key) keys then 1 else 0)
unfolding distinct
times_distinct key [] = refl
times_distinct key (other ∷ keys) = by (times_distinct key keys) (is_same key other) refl
  where
    left : times key (without other (distinct keys)) ≡ (if not (is_same other key) then times key (distinct keys) else 0)
    left = times_passing key (λ one. not (is_same other one)) (distinct keys)

    by : times key (distinct keys) ≡ (if list_any (is_same key) keys then 1 else 0) → (b : Bool) → is_same key other ≡ b
        → length (if b then other ∷ filter (is_same key) (without other (distinct keys)) else filter (is_same key) (without other (distinct keys)))
        ≡ (if (b || list_any (is_same key) keys) then 1 else 0)
    by rest true is =
        let none : times key (without other (distinct keys)) ≡ 0 =
        left ∙ ap (λ b. if not b then times key (distinct keys) else 0) (same_back other key ∙ is) in
        ap (λ n. suc n) none
    by rest false is = left ∙ ap (λ b. if not b then times key (distinct keys) else 0) (same_back other key ∙ is) ∙ rest

-- ---- each key once

pub All-by : {A : Type 0} (P : A → Type 0) (p : A → Bool) (xs : List A) → AllByRecursion P xs → AllByRecursion P (filter p xs)
All-by P p [] all = tt
All-by P p (x ∷ xs) all = by (All-by P p xs all.1) (p x)
  where
    by : AllByRecursion P (filter p xs) → (b : Bool) → AllByRecursion P (if b then x ∷ filter p xs else filter p xs)
    by rest true = (all.0, rest)
    by rest false = rest

-- what holds of each key holds of each of them once
pub All-distinct : (P : Values → Type 0) (keys : List Values) → AllByRecursion P keys → AllByRecursion P (distinct keys)
unfolding distinct
All-distinct P [] all = tt
All-distinct P (key ∷ keys) all = (all.0, All-by P (λ other. not (is_same key other)) (distinct keys) (All-distinct P keys all.1))

-- keys that fail a test, after others, add nothing to what passes
pub more_fail : (p : Values → Bool) (new : List Values) → AllByRecursion (λ key. p key ≡ false) new → (old : List Values) → filter p (distinct (old ++ new)) ≡ filter p (distinct old)
unfolding distinct
more_fail p new none [] = none_pass p (distinct new) (All-distinct (λ key. p key ≡ false) new none)
more_fail p new none (key ∷ old) = ap (λ rest. if p key then key ∷ rest else rest) (
    filter_turned p (λ other. not (is_same key other)) (distinct (old ++ new))
    ∙ ap (without key) (more_fail p new none old)
    ∙ filter_turned (λ other. not (is_same key other)) p (distinct old))
