-- Entries of a table, sorted.
use Rattle.std.proofs.Common.{◌≡◌, ℕ, zero, suc, ◌+◌, ◌<◌, ◌≤◌, arith, length, slice_index_or, Bool, true, false, true≢false, cond, nat_eq, Option, Some, None, is_lt, is_le, is_some, List, [], ◌∷◌, ◌++◌, filter, Ordering, Less, Equal, Greater, Bor, refl, sym, ap, ap₂, subst, ◌∙◌}
use Rattle.std.specs.Cmp.Lexicographic.{nat_list_cmp_total, nat_list_eq_equiv, bytes_decides, pointwise}
use Rattle.std.specs.BTreeMap.{is_at}
use Rattle.std.specs.List.{IsDistinct}
use Rattle.std.specs.List.Sorted.{IsPermutation, IsStrictlySortedBy}
use Rattle.std.specs.Map.{keys_of, lookup}
use Rattle.std.specs.Map.Iter.{deref_pair}
use Rattle.std.specs.Ordering.{ordering_reverse, ordering_then}
use Rattle.std.proofs.lemmas.List.{append-nil, length-map}
use Rattle.std.proofs.lemmas.List.Kept.{IsStrictlySortedBy-filter}
use Rattle.std.proofs.lemmas.List.Sorted.{Contains-permutation, IsPermutation-map, IsPermutation-sym}
use Rattle.std.proofs.lemmas.Map.Entries.{lookup-filter-keys}
use Rattle.std.proofs.lemmas.Map.Keys.{IsDistinct-IsPermutation, apart_from_distinct, sorted_from_all_adjacent}
use Rattle.std.proofs.lemmas.Map.Lookups.{exact_bytes}
use Rattle.std.proofs.lemmas.Map.Made.{IsDistinct-keys_filter}
use Rattle.std.proofs.lemmas.Map.Views.{Contains-from_lookup, lookup-from_Contains}
use Rattle.ssq_version.specs.State.{Ascends, State, by_bytes, from_key, in_order, value_at}
use Rattle.ssq_version.specs.Map.{shown}
use Rattle.ssq_version.proofs.Collected.{same_entries}
use Rattle.ssq_version.proofs.Tables.{order_ascends, order_at, ordered_are, same_lookup}
use Rattle.ssq_version.proofs.Values.{one_key}

abbrev Lent : Type 0
Lent = Bor (List ℕ) × Bor (List ℕ)

-- what a sort by keys, and then by values, says
abbrev AreSorted : List Lent → Type 0
AreSorted list = (k : ℕ) (d : Lent) → 0 ≤ k → k + 1 < length list
    → is_lt (ordering_then (by_bytes (slice_index_or list (k + 1) d).0.now (slice_index_or list k d).0.now) (by_bytes (slice_index_or list (k + 1) d).1.now (slice_index_or list k d).1.now)) ≡ false

key_at : (list : List Lent) (k : ℕ) (d : Lent) → slice_index_or (keys_of (shown list)) k d.0.now ≡ (slice_index_or list k d).0.now
key_at [] k d = refl
key_at (x ∷ xs) zero d = refl
key_at (x ∷ xs) (suc k) d = key_at xs k d

as_many : (list : List Lent) → length (keys_of (shown list)) ≡ length list
as_many list = length-map (shown list) (λ e. e.0) ∙ length-map list deref_pair

-- two keys that differ and are not the wrong way round
rises : (a b : List ℕ) (behind : Ordering) → is_lt (ordering_then (by_bytes b a) behind) ≡ false → pointwise nat_eq a b ≡ false → by_bytes a b ≡ Less
rises a b behind not_less apart = nat_list_cmp_total.antisymm a b ∙ by (by_bytes b a) refl not_less
  where
    by : (o : Ordering) → by_bytes b a ≡ o → is_lt (ordering_then o behind) ≡ false → ordering_reverse (by_bytes b a) ≡ Less
    by Less is says = absurd (true≢false says)
    by Equal is says =
        let same : b ≡ a = exact_bytes b a is in
        absurd (true≢false (sym ((bytes_decides a b).1 (sym same)) ∙ apart))
    by Greater is says = ap ordering_reverse is

ascends : (list : List Lent) → AreSorted list → IsDistinct (pointwise nat_eq) (keys_of (shown list)) → Ascends (shown list)
unfolding IsStrictlySortedBy
ascends [] sorted distinct = tt
ascends (x ∷ xs) sorted distinct = sorted_from_all_adjacent nat_list_cmp_total (keys_of (shown (x ∷ xs))) x.0.now step
  where
    list : List Lent
    list = x ∷ xs

    step : (k : ℕ) → k + 1 < length (keys_of (shown list)) → by_bytes (slice_index_or (keys_of (shown list)) k x.0.now) (slice_index_or (keys_of (shown list)) (k + 1) x.0.now) ≡ Less
    step k within =
        let inside : k + 1 < length list = subst (λ (n : ℕ). k + 1 < n) (as_many list) within in
        let apart : pointwise nat_eq (slice_index_or list k x).0.now (slice_index_or list (k + 1) x).0.now ≡ false =
        ap₂ (pointwise nat_eq) (sym (key_at list k x)) (sym (key_at list (k + 1) x))
        ∙ apart_from_distinct (pointwise nat_eq) (keys_of (shown list)) k (k + 1) x.0.now distinct (omega arith) within in
        ap₂ by_bytes (key_at list k x) (key_at list (k + 1) x)
        ∙ rises (slice_index_or list k x).0.now (slice_index_or list (k + 1) x).0.now (by_bytes (slice_index_or list (k + 1) x).1.now (slice_index_or list k x).1.now) (sorted k x (omega arith) inside) apart

exact : (x y : List ℕ) → pointwise nat_eq x y ≡ true → x ≡ y
exact x y = (bytes_decides x y).0

-- entries in another order, where the keys differ
module _ (es fs : State) (same : IsPermutation es fs) (distinct : IsDistinct (pointwise nat_eq) (keys_of es)) where
  pub distinct_too : IsDistinct (pointwise nat_eq) (keys_of fs)
  distinct_too = IsDistinct-IsPermutation (pointwise nat_eq) nat_list_eq_equiv.symm (keys_of es) (keys_of fs) (IsPermutation-map (λ e. e.0) es fs same) distinct

  moved_at : (q : List ℕ) → lookup (pointwise nat_eq q) es ≡ lookup (pointwise nat_eq q) fs
  moved_at q = by (lookup (pointwise nat_eq q) es) refl (lookup (pointwise nat_eq q) fs) refl
    where
      over : (v : List ℕ) → lookup (pointwise nat_eq q) es ≡ Some v → lookup (pointwise nat_eq q) fs ≡ Some v
      over v is = lookup-from_Contains nat_list_eq_equiv q v fs distinct_too (Contains-permutation es fs (q, v) same (Contains-from_lookup exact q v es is))

      back : (v : List ℕ) → lookup (pointwise nat_eq q) fs ≡ Some v → lookup (pointwise nat_eq q) es ≡ Some v
      back v is = lookup-from_Contains nat_list_eq_equiv q v es distinct (Contains-permutation fs es (q, v) (IsPermutation-sym es fs same) (Contains-from_lookup exact q v fs is))

      by : (o : Option (List ℕ)) → lookup (pointwise nat_eq q) es ≡ o → (p : Option (List ℕ)) → lookup (pointwise nat_eq q) fs ≡ p → lookup (pointwise nat_eq q) es ≡ lookup (pointwise nat_eq q) fs
      by None is None also = is ∙ sym also
      by None is (Some v) also = absurd (true≢false (sym (ap is_some (sym is ∙ back v also))))
      by (Some v) is p also = is ∙ sym (over v is)

-- ---- those from a key on

keys_from : (p : List ℕ → Bool) (es : State) → keys_of (filter (λ e. p e.0) es) ≡ filter p (keys_of es)
keys_from p [] = refl
keys_from p (e ∷ es) = by (p e.0) (keys_from p es)
  where
    by : (b : Bool) → keys_of (filter (λ e. p e.0) es) ≡ filter p (keys_of es) → keys_of (cond b (e ∷ filter (λ e. p e.0) es) (filter (λ e. p e.0) es)) ≡ cond b (e.0 ∷ filter p (keys_of es)) (filter p (keys_of es))
    by true rest = ap (λ (ks : List (List ℕ)). e.0 ∷ ks) rest
    by false rest = rest

from_ascends : (key : List ℕ) (es : State) → Ascends es → Ascends (from_key key es)
from_ascends key es ascend =
    subst (IsStrictlySortedBy by_bytes) (sym (keys_from (λ other. is_le (by_bytes key other)) es)) (IsStrictlySortedBy-filter by_bytes (λ other. is_le (by_bytes key other)) (keys_of es) ascend)

from_at : (key : List ℕ) (es : State) (q : List ℕ) → value_at (from_key key es) q ≡ cond (is_le (by_bytes key q)) (value_at es q) None
from_at key es q = lookup-filter-keys (is_at (by_bytes q)) (λ other. is_le (by_bytes key other)) (is_le (by_bytes key q)) (λ k at. ap (λ (k : List ℕ). is_le (by_bytes key k)) (sym (one_key q k at))) es

order_from : (key : List ℕ) (es : State) → in_order (from_key key es) ≡ from_key key (in_order es)
order_from key es =
    same_entries (in_order (from_key key es)) (from_key key (in_order es)) (order_ascends (from_key key es)) (from_ascends key (in_order es) (order_ascends es))
    (λ q. order_at (from_key key es) q ∙ from_at key es q ∙ sym (ap (λ (o : Option (List ℕ)). cond (is_le (by_bytes key q)) o None) (order_at es q)) ∙ sym (from_at key (in_order es) q))

-- a sorted list of the entries from a key on
pub sorted_from : (key : List ℕ) (es : State) (raw list : List Lent) → IsDistinct (pointwise nat_eq) (keys_of es) → shown raw ≡ from_key key es → IsPermutation raw list → AreSorted list
    → shown list ≡ from_key key (in_order es)
sorted_from key es raw list distinct is moved sorted =
    let same : IsPermutation (from_key key es) (shown list) = subst (λ (fs : State). IsPermutation fs (shown list)) is (IsPermutation-map deref_pair raw list moved) in
    let apart : IsDistinct (pointwise nat_eq) (keys_of (from_key key es)) = IsDistinct-keys_filter (pointwise nat_eq) (λ e. is_le (by_bytes key e.0)) es distinct in
    sym (ordered_are (from_key key es) (shown list) (ascends list sorted (distinct_too (from_key key es) (shown list) same apart)) (values (from_key key es) same apart))
    ∙ order_from key es
  where
    values : (fs : State) → IsPermutation fs (shown list) → IsDistinct (pointwise nat_eq) (keys_of fs) → (q : List ℕ) → lookup (pointwise nat_eq q) fs ≡ value_at (shown list) q
    values fs same apart q = moved_at fs (shown list) same apart q ∙ same_lookup (shown list) q

least : (key : List ℕ) → is_le (by_bytes [] key) ≡ true
least [] = refl
least (x ∷ key) = refl

-- from nothing on they are all
pub from_nothing : (es : State) → from_key [] es ≡ es
from_nothing [] = refl
from_nothing (e ∷ es) = ap (λ (b : Bool). cond b (e ∷ from_key [] es) (from_key [] es)) (least e.0) ∙ ap (λ (fs : State). e ∷ fs) (from_nothing es)

-- nothing is left
pub none_left : (key : List ℕ) (raw : List Lent) (left all : State) → left ≡ [] → shown raw ++ from_key key left ≡ all → shown raw ≡ all
none_left key raw left all none is = sym (append-nil (shown raw)) ∙ sym (ap (λ (es : State). shown raw ++ from_key key es) none) ∙ is
