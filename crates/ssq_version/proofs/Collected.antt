-- A map that is made of entries in order has these entries.
use Rattle.std.proofs.Common.{◌≡◌, List, ℕ, refl, ◌∙◌, inl}
use Rattle.std.specs.Cmp.{eq_by_cmp_equiv}
use Rattle.std.specs.Ordering.{eq_by_cmp}
use Rattle.std.specs.Cmp.Lexicographic.{nat_list_cmp_total}
use Rattle.std.specs.BTreeMap.{BTreeMap, IsFromIterResult}
use Rattle.std.specs.Map.{keys_of}
use Rattle.std_collections.specs.Layout.BTreeMap.{btree_map}
use Rattle.std.proofs.lemmas.Map.Keys.{IsDistinct-from_sorted}
use Rattle.std.proofs.lemmas.Map.Made.{update_all_none}
use Rattle.std.proofs.lemmas.Map.Lookups.{btree_map_from_get, exact_bytes}
use Rattle.ssq_version.specs.State.{by_bytes, Ascends, value_at}

-- entries in order are determined by what each key has
pub same_entries : {X : Type 0} (es fs : List (List ℕ × X)) → Ascends es → Ascends fs → ((key : List ℕ) → value_at es key ≡ value_at fs key) → es ≡ fs
same_entries es fs one other same = btree_map_from_get nat_list_cmp_total (btree_map es (inl tt)) (btree_map fs (inl tt)) one other same exact_bytes

pub collected : {X : Type 0} (es : List (List ℕ × X)) (m : BTreeMap (List ℕ) X) → Ascends es → IsFromIterResult by_bytes es m → m.entries ≡ es
collected es m ascend is =
    same_entries m.entries es is.1 ascend (λ key. is.0 key ∙ update_all_none (eq_by_cmp_equiv nat_list_cmp_total) (eq_by_cmp by_bytes) (λ x y. refl) es key (IsDistinct-from_sorted by_bytes (keys_of es) ascend))
