-- That keys ascend and that keys and values are short, through a change of one key.
use Rattle.std.proofs.Common.{◌≡◌, List, ℕ, All, subst, sym}
use Rattle.std.proofs.lemmas.Map.Views.{All-keys-insert_entry, All-values-insert_entry, All-map-remove_entry}
use Rattle.std.specs.BTreeMap.{insert_entry, is_at}
use Rattle.std.specs.Map.{keys_of, values_of, remove_entry}
use Rattle.ssq_version.specs.State.{by_bytes, Ascends, IsShort, IsKept}

pub kept_inserted : {X : Type 0} (P : X → Type 0) (old new : List (List ℕ × X)) (key : List ℕ) (value : X) → new ≡ insert_entry by_bytes old key value → Ascends new → IsKept P old → IsShort key → P value → IsKept P new
kept_inserted {X} P old new key value is ascend kept short fits = record {
  ascend = ascend;
  keys = subst (λ (es : List (List ℕ × X)). All IsShort (keys_of es)) (sym is) (All-keys-insert_entry by_bytes key value IsShort old kept.keys short);
  values = subst (λ (es : List (List ℕ × X)). All P (values_of es)) (sym is) (All-values-insert_entry by_bytes key value P old kept.values fits);
}

pub kept_removed : {X : Type 0} (P : X → Type 0) (old new : List (List ℕ × X)) (key : List ℕ) → new ≡ remove_entry (is_at (by_bytes key)) old → Ascends new → IsKept P old → IsKept P new
kept_removed {X} P old new key is ascend kept = record {
  ascend = ascend;
  keys = subst (λ (es : List (List ℕ × X)). All IsShort (keys_of es)) (sym is) (All-map-remove_entry (is_at (by_bytes key)) (λ e. e.0) IsShort old kept.keys);
  values = subst (λ (es : List (List ℕ × X)). All P (values_of es)) (sym is) (All-map-remove_entry (is_at (by_bytes key)) (λ e. e.1) P old kept.values);
}
