-- A change that is made of entries one after the other says what the last one of each key says.
use Rattle.std.proofs.Common.{◌≡◌, ℕ, Bool, true, false, cond, Option, Some, None, List, [], ◌∷◌, All, refl, sym, ap, subst, ◌∙◌}
use Rattle.std.specs.Prelude.{if◌then◌else◌}
use Rattle.std.specs.Option.{option_or}
use Rattle.std.specs.Ordering.{eq_by_cmp}
use Rattle.std.specs.BTreeMap.{BTreeMap, IsFromIterResult, is_at}
use Rattle.std.specs.List.{AllByRecursion}
use Rattle.std.specs.Map.{keys_of, values_of, update, update_all}
use Rattle.std.proofs.lemmas.List.Elements.{All-from_recursion, recursion_from_All}
use Rattle.ssq_version.specs.State.{Change, IsChange, IsShort, IsShortEntry, IsShortOrNone, by_bytes, last_at, value_at}
use Rattle.ssq_version.proofs.Values.{IsRest, either_way, less_rest, one_key, whole_rest}

pub or_none : {X : Type 0} (o : Option X) → option_or o None ≡ o
or_none None = refl
or_none (Some x) = refl

updated : {X : Type 0} (f : List ℕ → Option X) (es : List (List ℕ × X)) (q : List ℕ) → update_all (eq_by_cmp by_bytes) f es q ≡ option_or (last_at es q) (f q)
updated f [] q = refl
updated {X} f (e ∷ es) q =
    updated (update (eq_by_cmp by_bytes) f e.0 (Some e.1)) es q
    ∙ ap (λ b. option_or (last_at es q) (cond b (Some e.1) (f q))) (either_way e.0 q)
    ∙ by (last_at es q) (is_at (by_bytes q) e.0)
  where
    by : (o : Option X) (b : Bool) → option_or o (cond b (Some e.1) (f q)) ≡ option_or (option_or o (if b then Some e.1 else None)) (f q)
    by (Some x) b = refl
    by None true = refl
    by None false = refl

pub last_is : {X : Type 0} (es : List (List ℕ × X)) (made : BTreeMap (List ℕ) X) → IsFromIterResult by_bytes es made → (key : List ℕ) → value_at made.entries key ≡ last_at es key
last_is es made is key = is.0 key ∙ updated (λ _. None) es key ∙ or_none (last_at es key)

-- what holds of each entry holds of what a key has in the end
pub last_has : {X : Type 0} (P : List ℕ × X → Type 0) (es : List (List ℕ × X)) → AllByRecursion P es → (q : List ℕ) (x : X) → last_at es q ≡ Some x → P (q, x)
last_has P [] all q x is = absurd cc
last_has {X} P (e ∷ es) all q x is = by (last_at es q) refl (is_at (by_bytes q) e.0) refl (last_has P es all.1 q x) is
  where
    by : (o : Option X) → last_at es q ≡ o → (b : Bool) → is_at (by_bytes q) e.0 ≡ b → (last_at es q ≡ Some x → P (q, x)) → option_or o (if b then Some e.1 else None) ≡ Some x → P (q, x)
    by (Some y) there b at rest has = rest (there ∙ has)
    by None there true at rest has =
        let same : e.1 ≡ x = cc in
        subst (λ k. P (k, x)) (sym (one_key q e.0 at)) (subst (λ y. P (e.0, y)) same all.0)
    by None there false at rest has = absurd cc

pub each_has : {X : Type 0} (P : List ℕ × X → Type 0) (all left : List (List ℕ × X)) → IsRest all left → ((q : List ℕ) (x : X) → value_at all q ≡ Some x → P (q, x)) → AllByRecursion P left
each_has P all [] rest has = tt
each_has P all (e ∷ left) rest has =
    let less = less_rest all (e ∷ left) left e.0 e.1 refl rest in
    (has e.0 e.1 less.1, each_has P all left less.0 has)

short_keys : (es : Change) → AllByRecursion IsShortEntry es → AllByRecursion IsShort (keys_of es)
short_keys [] all = tt
short_keys (e ∷ es) all = (all.0.0, short_keys es all.1)

short_values : (es : Change) → AllByRecursion IsShortEntry es → AllByRecursion IsShortOrNone (values_of es)
short_values [] all = tt
short_values (e ∷ es) all = (all.0.1, short_values es all.1)

pub change_is_made : (es : Change) (made : BTreeMap (List ℕ) (Option (List ℕ))) → All IsShortEntry es → IsFromIterResult by_bytes es made → IsChange made.entries
change_is_made es made short is =
    let each : AllByRecursion IsShortEntry made.entries =
    each_has IsShortEntry made.entries made.entries (whole_rest made.entries made.entries refl is.1)
    (λ q x at. last_has IsShortEntry es (recursion_from_All IsShortEntry es short) q x (sym (last_is es made is q) ∙ at)) in
    record {
      ascend = is.1;
      keys = All-from_recursion IsShort (keys_of made.entries) (short_keys made.entries each);
      values = All-from_recursion IsShortOrNone (values_of made.entries) (short_values made.entries each);
    }
