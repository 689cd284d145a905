-- The change of a step leads to the state over its rows too.
use Rattle.std.proofs.Common.{◌≡◌, ◌++◌, ℕ, ℤ, Some, None, List, Option, Bool, true, false, refl, ap, sym, ◌∙◌, length}
use Rattle.std.specs.Prelude.{option_map}
use Rattle.std.specs.List.{AllByRecursion}
use Rattle.std.proofs.lemmas.List.Elements.{recursion_from_All}
use Rattle.ssq_value.specs.Key.{keys_of}
use Rattle.ssq_version.specs.State.{Change, IsAfter, State, value_after, value_at}
use Rattle.ssq_shape.specs.declared.bound.Bound.{Bound}
use Rattle.ssq_shape.specs.declared.bound.Grouping.{Grouping}
use Rattle.ssq_meaning.specs.FedRows.{FedRow}
use Rattle.ssq_meaning.specs.declared.total.Total.{Total}
use Rattle.ssq_meaning.specs.Group.{kept}
use Rattle.ssq_meaning.specs.GroupLaws.{held}
use Rattle.ssq_meaning.specs.Meaning.{Values}
use Rattle.ssq_meaning.specs.Totals.{totals_bytes}
use Rattle.ssq_step.specs.Indexing.{Timed}
use Rattle.ssq_step.proofs.Lists.{front_all}
use Rattle.ssq_agg.specs.declared.kept.Group.{Group}
use Rattle.ssq_agg.specs.Groups.{Held}
use Rattle.ssq_agg.specs.Readable.{IsKey}
use Rattle.ssq_agg.specs.Steps.{Given, IsKept, Says, after_if, is_among, said_if}
use Rattle.ssq_agg.proofs.Given.{AreFound, kept_at, kept_key, spelled_rows}

after_is : (o : Option (List Total)) (b : Bool) (own : Option (List Total)) → option_map totals_bytes (after_if o b own) ≡ value_after (said_if o b) (option_map totals_bytes own)
after_is (Some totals) b own = refl
after_is None true own = refl
after_is None false own = refl

module _ (query : Bound) (grouping : Grouping) (state : State) (closing : List Timed) (old new : List FedRow) (before now : Option ℤ) (touched : Held) (closed : List Group) (change : Change)
    (found : AreFound) (given : Given query grouping state closing old new before now)
    (held_after : (key : Values) → after_if (touched key) (is_among closed key) (held query grouping old before key) ≡ held query grouping (old ++ new) now key) (says : Says (length grouping.keys) touched closed change) where
  all_rows : AllByRecursion (IsKept grouping) (old ++ new)
  all_rows = recursion_from_All (IsKept grouping) (old ++ new) given.rows

  -- at a key
  at_key : (key : Values) → IsKey grouping key → value_at (kept query grouping (old ++ new) now) (keys_of key) ≡ value_after (value_at change (keys_of key)) (value_at state (keys_of key))
  at_key key is_key =
      kept_at found query grouping (old ++ new) now (spelled_rows grouping (old ++ new) all_rows) key is_key
      ∙ ap (option_map totals_bytes) (sym (held_after key))
      ∙ after_is (touched key) (is_among closed key) (held query grouping old before key)
      ∙ (λ i. value_after (sym (says.told key is_key) i) (sym (kept_at found query grouping old before (spelled_rows grouping old (front_all (IsKept grouping) old new all_rows)) key is_key) i))
      ∙ ap (λ (s : State). value_after (value_at change (keys_of key)) (value_at s (keys_of key))) (sym given.kept)

  at_bytes : (q : List ℕ) (key : Values) → q ≡ keys_of key → IsKey grouping key → value_at (kept query grouping (old ++ new) now) q ≡ value_after (value_at change q) (value_at state q)
  at_bytes q key same is_key =
      ap (value_at (kept query grouping (old ++ new) now)) same ∙ at_key key is_key ∙ ap (λ k. value_after (value_at change k) (value_at state k)) (sym same)

  pub leads : IsAfter change state (kept query grouping (old ++ new) now)
  leads q = by (value_at change q) refl (value_at state q) refl (value_at (kept query grouping (old ++ new) now) q) refl
    where
      by : (c : Option (Option (List ℕ))) → value_at change q ≡ c → (s : Option (List ℕ)) → value_at state q ≡ s → (n : Option (List ℕ)) → value_at (kept query grouping (old ++ new) now) q ≡ n
          → value_at (kept query grouping (old ++ new) now) q ≡ value_after (value_at change q) (value_at state q)
      by (Some said) c s state_is n new_is = let key = says.only q said c in at_bytes q key.0 key.1 key.2
      by None c (Some v) s n new_is =
          let key = kept_key query grouping old before (spelled_rows grouping old (front_all (IsKept grouping) old new all_rows)) q v (ap (λ (s : State). value_at s q) (sym given.kept) ∙ s) in at_bytes q key.0 key.1 key.2
      by None c None s (Some v) n = let key = kept_key query grouping (old ++ new) now (spelled_rows grouping (old ++ new) all_rows) q v n in at_bytes q key.0 key.1 key.2
      by None c None s None n = n ∙ (λ i. value_after (sym c i) (sym s i))
