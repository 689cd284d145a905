-- The least of keys, in whatever order they come.
use Rattle.std.proofs.Common.{◌≡◌, ◌+◌, [], ◌∷◌, ℕ, suc, List, Option, Some, None, Bool, true, false, refl, ap, sym, ◌∙◌, arith}
use Rattle.std.specs.Prelude.{if◌then◌else◌}
use Rattle.std.specs.declared.cmp.Ordering.{Ordering}
use Rattle.std.specs.declared.cmp.Ordering.TheVariants.{Less, Equal, Greater}
use Rattle.std.specs.Ordering.{is_gt, ordering_reverse}
use Rattle.std.proofs.lemmas.Cmp.{upto, tied_itself}
use Rattle.ssq_value.specs.Order.{values_cmp}
use Rattle.ssq_value.specs.OrderLaws.{values_cmp_total, values_cmp_exact}
use Rattle.ssq_meaning.specs.Group.{is_same, lesser_key, least_key}
use Rattle.ssq_meaning.specs.GroupLaws.{times}
use Rattle.ssq_meaning.specs.Meaning.{Values}
use Rattle.ssq_meaning.proofs.Bags.{times-cons}
use Rattle.ssq_meaning.proofs.Keys.{same_is, same_itself}

-- the key is among those, and stands after none of them
abbrev pub IsLeastOf : List Values → Option Values → Type 0
IsLeastOf keys None = (x : Values) → times x keys ≡ 0
IsLeastOf keys (Some k) = (n : ℕ) × (times k keys ≡ suc n) × ((x : Values) (m : ℕ) → times x keys ≡ suc m → is_gt (values_cmp k x) ≡ false)

not_above : (k : Values) → is_gt (values_cmp k k) ≡ false
not_above k = ap is_gt (tied_itself values_cmp_total k)

pub turned : (a b : Values) → is_gt (values_cmp a b) ≡ true → is_gt (values_cmp b a) ≡ false
turned a b above = ap is_gt (values_cmp_total.antisymm b a) ∙ by (values_cmp a b) above
  where
    by : (r : Ordering) → is_gt r ≡ true → is_gt (ordering_reverse r) ≡ false
    by Less is = absurd cc
    by Equal is = absurd cc
    by Greater is = refl

one_of : (a b : Values) → is_gt (values_cmp a b) ≡ false → is_gt (values_cmp b a) ≡ false → a ≡ b
one_of a b left right = values_cmp_exact a b (by (values_cmp a b) left (ap is_gt (sym (values_cmp_total.antisymm b a)) ∙ right))
  where
    by : (r : Ordering) → is_gt r ≡ false → is_gt (ordering_reverse r) ≡ false → r ≡ Equal
    by Less l r = absurd cc
    by Equal l r = refl
    by Greater l r = absurd cc

module _ (key : Values) (keys more : List Values) (one : (x : Values) → times x more ≡ (if is_same x key then 1 else 0) + times x keys) where
  at_key : (n : ℕ) → times key keys ≡ n → times key more ≡ suc n
  at_key n is = one key ∙ (λ i. (if same_itself key i then 1 else 0) + is i) ∙ omega arith

  either : (own : Values) → is_gt (values_cmp own key) ≡ false → ((x : Values) (m : ℕ) → times x keys ≡ suc m → is_gt (values_cmp own x) ≡ false)
      → (x : Values) (m : ℕ) → times x more ≡ suc m → is_gt (values_cmp own x) ≡ false
  either own first rest x m there = by (is_same x key) refl
    where
      by : (b : Bool) → is_same x key ≡ b → is_gt (values_cmp own x) ≡ false
      by true same = ap (λ x. is_gt (values_cmp own x)) (same_is x key same) ∙ first
      by false other =
          let less : times x keys ≡ suc m =
          let a : (if is_same x key then 1 else 0) + times x keys ≡ suc m = sym (one x) ∙ there in
          let b : 0 + times x keys ≡ suc m = ap (λ b. (if b then 1 else 0) + times x keys) (sym other) ∙ a in
          omega (arith, b) in
          rest x m less

  extended : (own : Option Values) → IsLeastOf keys own → IsLeastOf more (Some (lesser_key key own))
  extended None none = (0, at_key 0 (none key), either key (not_above key) (λ x m there. let no : 0 ≡ suc m = sym (none x) ∙ there in absurd (omega (arith, no))))
  extended (Some other) least = by (is_gt (values_cmp key other)) refl
    where
      there : (x : Values) (n : ℕ) → times x keys ≡ suc n → (m : ℕ) × (times x more ≡ suc m)
      there x n is = ((if is_same x key then 1 else 0) + n, one x ∙ ap (λ t. (if is_same x key then 1 else 0) + t) is ∙ omega arith)

      by : (b : Bool) → is_gt (values_cmp key other) ≡ b → IsLeastOf more (Some (if b then other else key))
      by true above =
          let at = there other least.0 least.1 in
          (at.0, at.1, either other (turned key other above) least.2)
      by false below =
          (times key keys, at_key (times key keys) refl, either key (not_above key) (λ x m has. upto values_cmp_total key other x below (least.2 x m has)))

pub is_least : (keys : List Values) → IsLeastOf keys (least_key keys)
is_least [] = λ x. refl
is_least (key ∷ keys) = extended key keys (key ∷ keys) (λ x. times-cons x key keys) (least_key keys) (is_least keys)

pub only_least : (keys : List Values) (a b : Option Values) → IsLeastOf keys a → IsLeastOf keys b → a ≡ b
only_least keys None None a b = refl
only_least keys None (Some y) a b = let no : 0 ≡ suc b.0 = sym (a y) ∙ b.1 in absurd (omega (arith, no))
only_least keys (Some x) None a b = let no : 0 ≡ suc a.0 = sym (b x) ∙ a.1 in absurd (omega (arith, no))
only_least keys (Some x) (Some y) a b = ap (λ k. Some k) (one_of x y (a.2 y b.0 b.1) (b.2 x a.0 a.1))

pub as_often : (xs ys : List Values) → ((key : Values) → times key xs ≡ times key ys) → (own : Option Values) → IsLeastOf xs own → IsLeastOf ys own
as_often xs ys same None none = λ x. sym (same x) ∙ none x
as_often xs ys same (Some k) least = (least.0, sym (same k) ∙ least.1, λ x m there. least.2 x m (same x ∙ there))

-- lists in which each key stands as often have one least key
pub same_least : (xs ys : List Values) → ((key : Values) → times key xs ≡ times key ys) → least_key xs ≡ least_key ys
same_least xs ys same = only_least ys (least_key xs) (least_key ys) (as_often xs ys same (least_key xs) (is_least xs)) (is_least ys)
