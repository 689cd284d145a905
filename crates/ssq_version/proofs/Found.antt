-- What a search among entries in order finds.
use Rattle.std.proofs.Common.{◌≡◌, ℕ, zero, suc, ◌<◌, ◌≤◌, arith, length, slice_index_or, List, Some, None, true, false, Ordering, Less, Equal, Greater, is_eq, option_copied, [], ◌∷◌, refl, sym, ap, subst, ◌∙◌, inl, inr}
use Rattle.std.specs.Cmp.Lexicographic.{nat_list_cmp_total}
use Rattle.std.specs.BTreeMap.{is_at}
use Rattle.std.specs.List.{AllByRecursion}
use Rattle.std.specs.List.Sorted.{IsNonDecreasingBy, IsPartitionPoint, IsStrictlySortedBy}
use Rattle.std.specs.Map.{keys_of}
use Rattle.std.specs.Ordering.{ordering_index, ordering_reverse}
use Rattle.std.proofs.lemmas.Bool.{cases_lt}
use Rattle.std.proofs.lemmas.Map.Lookups.{exact_bytes}
use Rattle.ssq_version.specs.declared.entry.Entry.{Entry}
use Rattle.ssq_version.specs.State.{Ascends, by_bytes, value_at}
use Rattle.ssq_version.specs.Text.{shown}
use Rattle.ssq_version.proofs.Listing.{below_all}
use Rattle.ssq_version.proofs.Values.{first_at, is_itself, others_at}

below_rest : (entry : Entry) (entries : List Entry) → Ascends (shown (entry ∷ entries)) → AllByRecursion (λ y. by_bytes entry.key.now y ≡ Less) (keys_of (shown entries)) × Ascends (shown entries)
unfolding IsStrictlySortedBy
below_rest entry entries ascend = ascend

below_each : (key : List ℕ) (entries : List Entry) (n : ℕ) (d : Entry) → n < length entries → AllByRecursion (λ y. by_bytes key y ≡ Less) (keys_of (shown entries)) → by_bytes key (slice_index_or entries n d).key.now ≡ Less
below_each key [] n d within below = absurd (omega (arith, within))
below_each key (entry ∷ entries) zero d within below = below.0
below_each key (entry ∷ entries) (suc n) d within below = below_each key entries n d (omega (arith, within)) below.1

reversed : (one other : List ℕ) (o : Ordering) → by_bytes one other ≡ o → by_bytes other one ≡ ordering_reverse o
reversed one other o is = nat_list_cmp_total.antisymm other one ∙ ap ordering_reverse is

less_apart : (key other : List ℕ) → by_bytes other key ≡ Less → is_at (by_bytes key) other ≡ false
less_apart key other less = ap is_eq (reversed other key Less less)

greater_apart : (key other : List ℕ) → by_bytes other key ≡ Greater → is_at (by_bytes key) other ≡ false
greater_apart key other more = ap is_eq (reversed other key Greater more)

-- the entry that is found
pub found : (entries : List Entry) (n : ℕ) (key : List ℕ) (d : Entry) → Ascends (shown entries) → n < length entries → by_bytes (slice_index_or entries n d).key.now key ≡ Equal
    → Some (option_copied (slice_index_or entries n d).value) ≡ value_at (shown entries) key
found [] n key d ascend within is = absurd (omega (arith, within))
found (entry ∷ entries) zero key d ascend within is =
    let same : entry.key.now ≡ key = exact_bytes entry.key.now key is in
    sym (first_at entry.key.now (option_copied entry.value) (shown entries) key (subst (λ (k : List ℕ). is_at (by_bytes key) k ≡ true) (sym same) (is_itself key)))
found (entry ∷ entries) (suc n) key d ascend within is =
    let below = below_rest entry entries ascend in
    let same : (slice_index_or entries n d).key.now ≡ key = exact_bytes (slice_index_or entries n d).key.now key is in
    let less : by_bytes entry.key.now key ≡ Less = subst (λ (k : List ℕ). by_bytes entry.key.now k ≡ Less) same (below_each entry.key.now entries n d (omega (arith, within)) below.0) in
    found entries n key d below.1 (omega (arith, within)) is
    ∙ sym (others_at entry.key.now (option_copied entry.value) (shown entries) key (less_apart key entry.key.now less))

-- a search by a key goes from what is less to what is greater
rises_by : (key one other : List ℕ) → by_bytes one other ≡ Less → ordering_index (by_bytes one key) ≤ ordering_index (by_bytes other key)
rises_by key one other less = go (by_bytes other key) refl
  where
    go : (o : Ordering) → by_bytes other key ≡ o → ordering_index (by_bytes one key) ≤ ordering_index o
    go Less is = let e : by_bytes one key ≡ Less = (below_all one other (key ∷ []) less (is, tt)).0 in omega (arith, ap ordering_index e)
    go Equal is =
        let e : by_bytes one key ≡ Less = subst (λ (k : List ℕ). by_bytes one k ≡ Less) (exact_bytes other key is) less in omega (arith, ap ordering_index e)
    go Greater is = by (by_bytes one key)
      where
        by : (o : Ordering) → ordering_index o ≤ ordering_index Greater
        by Less = omega arith
        by Equal = omega arith
        by Greater = omega arith

rises : (entries : List Entry) (key : List ℕ) → Ascends (shown entries) → IsNonDecreasingBy (λ entry. ordering_index (by_bytes entry.key.now key)) entries
rises [] key ascend i j d before within = absurd (omega (arith, within))
rises (entry ∷ entries) key ascend zero zero d before within = omega arith
rises (entry ∷ entries) key ascend zero (suc j) d before within =
    rises_by key entry.key.now (slice_index_or entries j d).key.now (below_each entry.key.now entries j d (omega (arith, within)) (below_rest entry entries ascend).0)
rises (entry ∷ entries) key ascend (suc i) zero d before within = absurd (omega (arith, before))
rises (entry ∷ entries) key ascend (suc i) (suc j) d before within = rises entries key (below_rest entry entries ascend).1 i j d (omega (arith, before)) (omega (arith, within))

none_of : (entries : List Entry) (key : List ℕ) → ((n : ℕ) (d : Entry) → n < length entries → is_at (by_bytes key) (slice_index_or entries n d).key.now ≡ false) → value_at (shown entries) key ≡ None
none_of [] key apart = refl
none_of (entry ∷ entries) key apart =
    others_at entry.key.now (option_copied entry.value) (shown entries) key (apart 0 entry (omega arith))
    ∙ none_of entries key (λ n d within. apart (suc n) d (omega (arith, within)))

-- that nothing is found
pub absent : (entries : List Entry) (at : ℕ) (key : List ℕ) → Ascends (shown entries)
    → (IsNonDecreasingBy (λ (entry : Entry). ordering_index (by_bytes entry.key.now key)) entries → IsPartitionPoint (λ (entry : Entry). by_bytes entry.key.now key ≡ Less) (λ (entry : Entry). by_bytes entry.key.now key ≡ Greater) entries at)
    → value_at (shown entries) key ≡ None
absent entries at key ascend parted =
    none_of entries key (λ n d within. elim (cases_lt n at) [
      | inl before ↦ less_apart key (slice_index_or entries n d).key.now ((parted (rises entries key ascend)).0 n d (omega arith) before)
      | inr behind ↦ greater_apart key (slice_index_or entries n d).key.now ((parted (rises entries key ascend)).1 n d behind within)
    ])
