-- What an epoch comes to, by the rows that are kept.
use Rattle.std.proofs.Common.{◌≡◌, ◌++◌, ℕ, ℤ, List, Option, Some, None, Bool, All, refl, ap, sym, ◌∙◌, subst, filter, map}
use Rattle.std.specs.Prelude.{◌&&◌, ◌||◌, FitsSigned, IfSome, not, if◌then◌else◌}
use Rattle.std.specs.Int.{w64}
use Rattle.std.specs.List.{AllByRecursion}
use Rattle.std.specs.List.Sorted.{IsPermutation}
use Rattle.std.proofs.lemmas.List.Elements.{recursion_from_All}
use Rattle.std.proofs.lemmas.List.Sorted.{IsPermutation-append, IsPermutation-append_comm, IsPermutation-map, IsPermutation-sym, IsPermutation-trans, list_any-IsPermutation}
use Rattle.ssq_version.specs.State.{Change, IsAfter, State, value_at}
use Rattle.ssq_shape.specs.declared.bound.Bound.{Bound}
use Rattle.ssq_shape.specs.declared.bound.Joining.{Joining}
use Rattle.ssq_shape.specs.declared.bound.Shape.{Shape}
use Rattle.ssq_meaning.specs.FedRows.{FedRow}
use Rattle.ssq_meaning.specs.Group.{least_key}
use Rattle.ssq_meaning.specs.Join.{alone_of, entry_of, faulty_among, faulty_key, has_partner, is_alone, is_over, is_partner, kept, open_rows, row_key, row_of, shown_among}
use Rattle.ssq_meaning.specs.JoinLaws.{AreApart, Follows, IsBounded, IsReordered, considered_by, pairs_in_turn}
use Rattle.ssq_meaning.specs.Operator.{join}
use Rattle.ssq_meaning.specs.Times.{is_past}
use Rattle.ssq_meaning.proofs.Coding.{AreApart as KeysAreApart}
use Rattle.ssq_meaning.proofs.Keys.{All-by}
use Rattle.ssq_meaning.proofs.Reordered.{permutes, reordered_append, reordered_filter}
use Rattle.ssq_meaning.proofs.Shuffled.{least_shuffled, shown_shuffled}
use Rattle.ssq_meaning.proofs.Together.{filter_both}
use Rattle.ssq_step.specs.declared.shown.Shown.{Shown}
use Rattle.ssq_step.specs.Indexing.{IsIndexBy, Timed, stands}
use Rattle.ssq_step.specs.Rows.{IndexesRows, StandsAt}
use Rattle.ssq_step.proofs.ByBytes.{any_by}
use Rattle.ssq_step.proofs.Lists.{back_all, front_all}
use Rattle.ssq_join.specs.Changing.{SaysBytes, SaysRows, find_row}
use Rattle.ssq_join.specs.Meeting.{AreKept}
use Rattle.ssq_join.specs.Overs.{AreOver, IsHeld, TellsAlone, alones, is_shown_alone}
use Rattle.ssq_join.specs.Steps.{Given, IsKept}
use Rattle.ssq_join.specs.Telling.{Meets, Pair, among, considered_of, touches}
use Rattle.ssq_join.specs.Turning.{AreFresh, turns}
use Rattle.ssq_join.proofs.After as After
use Rattle.ssq_join.proofs.Dueing.{due_rows}
use Rattle.ssq_join.proofs.Ends.{over_at_is}
use Rattle.ssq_join.proofs.Finding.{found_key, found_reordered, value_found}
use Rattle.ssq_join.proofs.MetRows.{any_turned, held_met, new_met, none_elsewhere, others_elsewhere}
use Rattle.ssq_join.proofs.Placed.{filtered_apart, found_has, front_apart, held_each, reordered_all, reordered_apart}
use Rattle.ssq_join.proofs.Saying.{over_at, says_rows}
use Rattle.ssq_join.proofs.Turning.{turns_are}

-- ---- the laws

abbrev pub AreListed : Type 0
AreListed = (joining : Joining) (rows : List FedRow) (now : Option ℤ) → AreApart rows
    → (ordered : List FedRow) × IsReordered (open_rows joining rows now) ordered × (kept joining rows now ≡ map (entry_of joining rows) ordered)

abbrev pub AreShown : Type 0
AreShown = (query : Bound) (joining : Joining) (old held new : List FedRow) (before now : Option ℤ) → IsBounded joining → Follows new before now → IsReordered (open_rows joining old before) held
    → IsPermutation (shown_among (considered_by query joining old held new now)) ((join query joining).added old new before now)

abbrev pub IsFaulty : Type 0
IsFaulty = (query : Bound) (joining : Joining) (old held new : List FedRow) (before now : Option ℤ) → IsBounded joining → Follows new before now → IsReordered (open_rows joining old before) held
    → least_key (faulty_among (considered_by query joining old held new now)) ≡ (join query joining).fault old new before now

abbrev pub AreNext : Type 0
AreNext = (joining : Joining) (old new : List FedRow) (before now : Option ℤ) → IsBounded joining → Follows new before now
    → open_rows joining (old ++ new) now ≡ filter (λ row. not (is_over joining now row)) (open_rows joining old before) ++ new

abbrev pub HaveMet : Type 0
HaveMet = (joining : Joining) (old new : List FedRow) (row : FedRow) → has_partner joining (old ++ new) row ≡ (has_partner joining old row || has_partner joining new row)

abbrev pub NewHaveMet : Type 0
NewHaveMet = (joining : Joining) (old new : List FedRow) (before now : Option ℤ) → Follows new before now
    → All (λ (row : FedRow). has_partner joining old row ≡ has_partner joining (open_rows joining old before) row) new

module _ (query : Bound) (joining : Joining) (state : State) (closing : List Timed) (old new : List FedRow) (before now : Option ℤ) (given : Given query joining state closing old new before now)
    (listed : AreListed) where
  -- ---- the rows that are kept

  all_rows : AllByRecursion (IsKept query joining) (old ++ new)
  all_rows = recursion_from_All (IsKept query joining) (old ++ new) given.rows

  pub new_rows : AllByRecursion (IsKept query joining) new
  new_rows = back_all (IsKept query joining) old new all_rows

  pub in_order : (ordered : List FedRow) × IsReordered (open_rows joining old before) ordered × (kept joining old before ≡ map (entry_of joining old) ordered)
  in_order = listed joining old before (front_apart old new given.apart)

  abbrev pub held : List FedRow
  held = in_order.0

  abbrev pub was_met : FedRow → Bool
  was_met row = has_partner joining old row

  pub are_kept : AreKept query joining was_met held state
  are_kept = record {
    listed = given.kept ∙ in_order.2;
    each = reordered_all (IsKept query joining) (open_rows joining old before) held in_order.1
        (All-by (IsKept query joining) (λ row. not (is_over joining before row)) old (front_all (IsKept query joining) old new all_rows));
  }

  open_apart : AreApart (open_rows joining old before ++ new)
  open_apart = filtered_apart (λ row. not (is_over joining before row)) old new given.apart

  pub are_apart : AreApart (held ++ new)
  are_apart = reordered_apart (open_rows joining old before ++ new) (held ++ new) (reordered_append new (open_rows joining old before) held in_order.1) open_apart

  held_apart : AreApart held
  held_apart = front_apart held new are_apart

  -- ---- those that are over

  indexes : IndexesRows query joining state closing
  indexes = subst (λ (shape : Shape). IsIndexBy shape query state closing) given.joins given.indexed

  module _ (apart : KeysAreApart) (fits : IfSome now (FitsSigned w64)) (keys : List (List ℕ))
      (due : (key : List ℕ) (time : Option ℤ) → StandsAt closing key time → stands key keys ≡ (if is_past now time then 1 else 0)) where
    are_due : (key : List ℕ) → stands key keys ≡ (if over_at (is_over joining now) (find_row key held) then 1 else 0)
    are_due key =
        let at = indexes key in
        due key at.0 at.2
        ∙ ap (λ b. if b then 1 else 0)
        (over_at_is apart query joining given.bounded now fits was_met key (find_row key held) (λ row is. (found_key key held row is, found_has (IsKept query joining) key held row are_kept.each is))
        (value_at state key) (ap (λ (s : State). value_at s key) are_kept.listed ∙ value_found was_met held key) at.0 at.1)

    pub over_rows : (over : List FedRow) × (keys ≡ map row_key over) × IsReordered (filter (is_over joining now) held) over
    over_rows = due_rows (is_over joining now) held held_apart keys are_due

    abbrev pub over : List FedRow
    over = over_rows.0

    pub are_over : AreOver query joining state was_met over keys
    are_over = record {
      keys_are = over_rows.1;
      each = reordered_all (IsHeld query joining state was_met) (filter (is_over joining now) held) over over_rows.2
          (All-by (IsHeld query joining state was_met) (is_over joining now) held (held_each query joining was_met held state are_kept held_apart));
    }

    -- ---- what is considered

    module _ (found : Shown) (pairs : List Pair) (taken : IsPermutation pairs (turns joining held new)) (told : TellsAlone query joining was_met over (map (considered_of query joining) pairs) found) where
      alones_are : IsPermutation (alones query joining was_met over) (map (alone_of query) (filter (λ row. is_over joining now row && is_alone joining old row) held))
      alones_are =
          let test : FedRow → Bool = is_shown_alone joining was_met in
          subst (λ (rows : List FedRow). IsPermutation (alones query joining was_met over) (map (alone_of query) rows))
          (filter_both test (is_over joining now) (λ row. is_over joining now row && is_alone joining old row) (λ row. refl) held)
          (IsPermutation-sym _ _ (IsPermutation-map (alone_of query) (filter test (filter (is_over joining now) held)) (filter test over)
          (permutes (filter test (filter (is_over joining now) held)) (filter test over) (reordered_filter test (filter (is_over joining now) held) over over_rows.2))))

      pairs_are : IsPermutation (map (considered_of query joining) pairs) (pairs_in_turn query joining held new)
      pairs_are = subst (IsPermutation (map (considered_of query joining) pairs)) (turns_are query joining held new) (IsPermutation-map (considered_of query joining) pairs (turns joining held new) taken)

      all_are : IsPermutation told.0 (considered_by query joining old held new now)
      all_are =
          IsPermutation-trans _ _ _ told.1
          (IsPermutation-trans _ _ _ (IsPermutation-append_comm (alones query joining was_met over) (map (considered_of query joining) pairs))
          (IsPermutation-append (map (considered_of query joining) pairs) (pairs_in_turn query joining held new) (alones query joining was_met over)
          (map (alone_of query) (filter (λ row. is_over joining now row && is_alone joining old row) held)) pairs_are alones_are))

      pub shown : AreShown → IsPermutation found.rows.items ((join query joining).added old new before now)
      shown law =
          IsPermutation-trans _ _ _ told.2.rows
          (IsPermutation-trans _ _ _ (shown_shuffled row_of told.0 (considered_by query joining old held new now) all_are) (law query joining old held new before now given.bounded given.follows in_order.1))

      pub fault : IsFaulty → found.fault ≡ (join query joining).fault old new before now
      fault law =
          told.2.fault ∙ least_shuffled faulty_key told.0 (considered_by query joining old held new now) all_are ∙ law query joining old held new before now given.bounded given.follows in_order.1

    -- ---- what changes

    module _ (next_law : AreNext) (met_law : HaveMet) (new_law : NewHaveMet) (met : List (List ℕ)) (fresh : State) (pairs : List Pair) (found : Shown) (taken : IsPermutation pairs (turns joining held new))
        (meets : Meets query joining pairs found met) (are_fresh : AreFresh query joining new fresh) (change : Change) (says : SaysBytes state fresh met keys change) where
      in_next : (ordered : List FedRow) × IsReordered (open_rows joining (old ++ new) now) ordered × (kept joining (old ++ new) now ≡ map (entry_of joining (old ++ new)) ordered)
      in_next = listed joining (old ++ new) now given.apart

      next : List FedRow
      next = in_next.0

      -- no new row is kept under the bytes of one that is held
      no_new : (key : List ℕ) (row : FedRow) → find_row key held ≡ Some row → find_row key new ≡ None
      no_new key row is = none_elsewhere key new (others_elsewhere key held new row are_apart is)

      says_so : SaysRows (is_over joining now) was_met (λ row. among met (row_key row)) held new change
      says_so =
          says_rows (is_over joining now) was_met held new state fresh met keys are_kept.listed are_fresh.found
          (λ key. any_by key keys (over_at (is_over joining now) (find_row key held)) (are_due key)) no_new change says

      abbrev stays : FedRow → Bool
      stays row = not (is_over joining now row)

      next_is : (key : List ℕ) → find_row key next ≡ find_row key (filter stays held ++ new)
      unfolding next in_next
      next_is key =
          let first : List FedRow = filter stays (open_rows joining old before) ++ new in
          let is_apart : AreApart first = filtered_apart stays (open_rows joining old before) new open_apart in
          sym (found_reordered key first next is_apart (subst (λ (rows : List FedRow). IsReordered rows next) (next_law joining old new before now given.bounded given.follows) in_next.1))
          ∙ found_reordered key first (filter stays held ++ new) is_apart
          (reordered_append new (filter stays (open_rows joining old before)) (filter stays held) (reordered_filter stays (open_rows joining old before) held in_order.1))

      -- which rows met one
      met_is : (key : List ℕ) → among met key ≡ any_turned joining key held new
      met_is key = meets.known key ∙ list_any-IsPermutation (touches joining key) pairs (turns joining held new) taken

      older : (key : List ℕ) (row : FedRow) → find_row key held ≡ Some row → has_partner joining (old ++ new) row ≡ (was_met row || among met (row_key row))
      older key row is =
          met_law joining old new row
          ∙ ap (λ b. was_met row || b) (sym (ap (among met) (sym (found_key key held row is)) ∙ met_is key ∙ held_met joining held new are_apart key row is))

      own : (key : List ℕ) (row : FedRow) → find_row key new ≡ Some row → has_partner joining (old ++ new) row ≡ among met (row_key row)
      own key row is =
          met_law joining old new row
          ∙ ap (λ b. b || has_partner joining new row)
          (found_has (λ (row : FedRow). has_partner joining old row ≡ has_partner joining (open_rows joining old before) row) key new row
          (recursion_from_All _ new (new_law joining old new before now given.follows)) is
          ∙ list_any-IsPermutation (is_partner joining row) (open_rows joining old before) held (permutes (open_rows joining old before) held in_order.1))
          ∙ sym (ap (among met) (sym (found_key key new row is)) ∙ met_is key ∙ new_met joining held new are_apart key row is ∙ met_law joining held new row)

      pub leads : IsAfter change state ((join query joining).state (old ++ new) now)
      unfolding next in_next
      leads =
          After.leads (is_over joining now) was_met (λ row. among met (row_key row)) (λ row. has_partner joining (old ++ new) row) held new next held_apart next_is
          change state (kept joining (old ++ new) now) are_kept.listed in_next.2 says_so no_new older own
