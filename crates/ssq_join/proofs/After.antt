-- The change of an epoch leads to what is kept after it.
use Rattle.std.proofs.Common.{◌≡◌, ◌++◌, ℕ, List, Option, Some, None, Bool, true, false, refl, ap, sym, ◌∙◌, filter, map}
use Rattle.std.specs.Prelude.{◌&&◌, ◌||◌, not, if◌then◌else◌, option_map}
use Rattle.ssq_version.specs.State.{Change, IsAfter, State, value_after, value_at}
use Rattle.ssq_meaning.specs.FedRows.{FedRow}
use Rattle.ssq_meaning.specs.Feeding.{or_else}
use Rattle.ssq_meaning.specs.Join.{row_value}
use Rattle.ssq_meaning.specs.JoinLaws.{AreApart}
use Rattle.ssq_join.specs.Changing.{SaysRows, find_row, said_of_row}
use Rattle.ssq_join.specs.Meeting.{entry_with}
use Rattle.ssq_join.proofs.Finding.{found_append, found_filter, keep_if, value_found}

-- Rows are held, each with whether it had met a partner; those that are not over, and the new ones, are the next, each with whether it has met one.
module _ (over was_met meets is_met : FedRow → Bool) (held new next : List FedRow) (apart : AreApart held)
    (same : (key : List ℕ) → find_row key next ≡ find_row key (filter (λ row. not (over row)) held ++ new)) where
  what_is : Option FedRow → Option FedRow
  what_is found = keep_if (λ row. not (over row)) found

  next_found : (key : List ℕ) → find_row key next ≡ or_else (what_is (find_row key held)) (find_row key new)
  unfolding what_is
  next_found key =
      same key
      ∙ found_append key (filter (λ row. not (over row)) held) new
      ∙ ap (λ o. or_else o (find_row key new)) (found_filter (λ row. not (over row)) key held apart)

  -- what is said of some bytes leads from what was kept there to what is kept there now; no new row is kept under the bytes of one that was held
  leads_at : (old fresh : Option FedRow) → ((row : FedRow) → old ≡ Some row → fresh ≡ None) → ((row : FedRow) → old ≡ Some row → is_met row ≡ (was_met row || meets row)) → ((row : FedRow) → fresh ≡ Some row → is_met row ≡ meets row)
      → option_map (λ row. row_value (is_met row) row) (or_else (what_is old) fresh) ≡ value_after (said_of_row over was_met meets old fresh) (option_map (λ row. row_value (was_met row) row) old)
  unfolding what_is
  leads_at (Some row) fresh none older own = by (over row) (was_met row) (meets row) (older row refl) fresh (none row refl)
    where
      by : (o w m : Bool) → is_met row ≡ (w || m) → (f : Option FedRow) → f ≡ None
          → option_map (λ (own : FedRow). row_value (is_met own) own) (or_else (if not o then Some row else None) f)
          ≡ value_after (if o then Some None else (if m && not w then Some (Some (row_value true row)) else None)) (Some (row_value w row))
      by true w m is f no_new = ap (option_map (λ (own : FedRow). row_value (is_met own) own)) no_new
      by false true true is f no_new = ap (λ met. Some (row_value met row)) is
      by false true false is f no_new = ap (λ met. Some (row_value met row)) is
      by false false true is f no_new = ap (λ met. Some (row_value met row)) is
      by false false false is f no_new = ap (λ met. Some (row_value met row)) is
  leads_at None (Some row) none older own = ap (λ m. Some (row_value m row)) (own row refl)
  leads_at None None none older own = refl

  -- the whole
  pub leads : (change : Change) (old after : State) → old ≡ map (entry_with was_met) held → after ≡ map (entry_with is_met) next → SaysRows over was_met meets held new change
      → ((key : List ℕ) (row : FedRow) → find_row key held ≡ Some row → find_row key new ≡ None) → ((key : List ℕ) (row : FedRow) → find_row key held ≡ Some row → is_met row ≡ (was_met row || meets row))
      → ((key : List ℕ) (row : FedRow) → find_row key new ≡ Some row → is_met row ≡ meets row)
      → IsAfter change old after
  leads change old after old_is after_is says none older own key =
      ap (λ (s : State). value_at s key) after_is
      ∙ value_found is_met next key
      ∙ ap (option_map (λ row. row_value (is_met row) row)) (next_found key)
      ∙ leads_at (find_row key held) (find_row key new) (none key) (older key) (own key)
      ∙ (λ i. value_after (sym (says key) i) (sym (ap (λ (s : State). value_at s key) old_is ∙ value_found was_met held key) i))
