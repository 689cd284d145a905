-- Joined rows over the epochs of a job: how rows are fed, that epochs follow one another, what they show, and that no partner is lost.
use Rattle.std.proofs.Common.{◌≡◌, ◌+◌, ◌++◌, [], ◌∷◌, ℕ, zero, suc, ℤ, List, Option, Bool, true, false, refl, ap, sym, ◌∙◌, subst, filter}
use Rattle.std.specs.Prelude.{◌&&◌, ◌||◌, ◌==◌, All, IfOk, IfSome, not, if◌then◌else◌}
use Rattle.std.specs.List.{AllByRecursion}
use Rattle.std.specs.List.Sorted.{IsPermutation}
use Rattle.std.proofs.lemmas.List.Elements.{All-filter, All-from_recursion}
use Rattle.std.proofs.lemmas.List.Sorted.{IsPermutation-append_left, IsPermutation-refl, IsPermutation-trans}
use Rattle.ssq_value.specs.Key.{keys_of}
use Rattle.ssq_route.specs.Place.{place_of}
use Rattle.ssq_shape.specs.declared.bound.Bound.{Bound}
use Rattle.ssq_shape.specs.declared.bound.Joining.{Joining}
use Rattle.ssq_shape.specs.declared.bound.Shape.{Shape}
use Rattle.ssq_shape.specs.declared.bound.Shape.TheVariants.{Join}
use Rattle.ssq_meaning.specs.FedRows.{FedRow}
use Rattle.ssq_meaning.specs.Cut.{Cuts}
use Rattle.ssq_meaning.specs.Epochs.{accepted, bucket, fed, on_time, out, watermark, watermark_before}
use Rattle.ssq_meaning.specs.Feeding.{fed_in, line_handed, read_at}
use Rattle.ssq_meaning.specs.Handed.{Handed}
use Rattle.ssq_meaning.specs.Join.{due_rows, is_candidate, is_due, is_over, join_key, join_time, meant, open_rows, rows_alone}
use Rattle.ssq_meaning.specs.JoinLaws.{FindsAll, Follows, IsBounded, IsJoinRow, IsOpenTo, alone_at, alone_so_far, are_candidates, meaning_at, times_over}
use Rattle.ssq_meaning.specs.Laws.{outs}
use Rattle.ssq_meaning.specs.Meaning.{Line, Values}
use Rattle.ssq_meaning.specs.Operator.{join, operator_for, operator_of}
use Rattle.ssq_meaning.specs.Parts.{Part}
use Rattle.ssq_meaning.specs.Times.{is_past}
use Rattle.ssq_meaning.proofs.Handing.{Gives, IsFed, IsGiven, any_read, line_has, part_all, fed_all, on_time_all, accepted_all, weaker}
use Rattle.ssq_meaning.proofs.Nearby.{left_opens, over_stays, right_opens, was_open}
use Rattle.ssq_meaning.proofs.Pairing.{alone_all, shown_all}
use Rattle.ssq_meaning.proofs.Water.{water_rose, water_stays}

-- rows that are not late
timely_rows : (now : Option ℤ) (rows : List FedRow) → AllByRecursion (λ (row : FedRow). is_past now row.time ≡ false) (filter (λ (row : FedRow). not (is_past now row.time)) rows)
timely_rows now [] = tt
timely_rows now (row ∷ rows) = by (is_past now row.time) refl (timely_rows now rows)
  where
    by : (b : Bool) → is_past now row.time ≡ b → AllByRecursion (λ (row : FedRow). is_past now row.time ≡ false) (filter (λ (row : FedRow). not (is_past now row.time)) rows)
        → AllByRecursion (λ (row : FedRow). is_past now row.time ≡ false)
        (if not b then row ∷ filter (λ (row : FedRow). not (is_past now row.time)) rows else filter (λ (row : FedRow). not (is_past now row.time)) rows)
    by true late rest = rest
    by false is rest = (is, rest)

-- tests that agree on rows that pass another
module _ {X : Type 0} (p q : X → Bool) (within : (x : X) → p x ≡ true → q x ≡ true) where
  pub found_within : (xs : List X) → filter p (filter q xs) ≡ filter p xs
  found_within [] = refl
  found_within (x ∷ xs) = by (q x) refl (p x) refl (found_within xs)
    where
      by : (b : Bool) → q x ≡ b → (c : Bool) → p x ≡ c → filter p (filter q xs) ≡ filter p xs → filter p (if b then x ∷ filter q xs else filter q xs) ≡ (if p x then x ∷ filter p xs else filter p xs)
      by true is c has rest = ap (λ l. if p x then x ∷ l else l) rest
      by false is false has rest = rest ∙ ap (λ b. if b then x ∷ filter p xs else filter p xs) (sym has)
      by false is true has rest = let no : false ≡ true = sym is ∙ within x has in absurd cc

-- a row that meets the bound with one that is not late is not over
pub candidate_opens : (joining : Joining) (now : Option ℤ) (row other : FedRow) → is_past now row.time ≡ false → are_candidates joining row other ≡ true → is_over joining now other ≡ false
candidate_opens joining now row other timely is = by (is_candidate joining row other) refl is
  where
    by : (b : Bool) → is_candidate joining row other ≡ b → (b || is_candidate joining other row) ≡ true → is_over joining now other ≡ false
    by true meets is = right_opens joining now other row meets timely
    by false apart is = left_opens joining now other row is timely

module _ (joining : Joining) (old new : List FedRow) (before now : Option ℤ) (follows : Follows new before now) where
  -- each row that was accepted and meets the bound with a new one is kept
  pub all_found : (row : FedRow) → is_past now row.time ≡ false → filter (are_candidates joining row) (open_rows joining old before) ≡ filter (are_candidates joining row) old
  all_found row timely =
      found_within (are_candidates joining row) (λ (other : FedRow). not (is_over joining before other))
      (λ other meets. ap not (was_open joining before now follows.rises other (candidate_opens joining now row other timely meets))) old

module _ (query : Bound) (joining : Joining) where
  -- ---- how rows are fed

  abbrev IsMade : (stream : ℕ) → (key : Values) → (time : Option ℤ) → (values : Values) → Type 0
  IsMade stream key time values = (key ≡ join_key joining.keys stream values) × (time ≡ join_time joining.bound stream values)

  abbrev AreMade : ℕ → List Handed → Type 0
  AreMade stream rows = AllByRecursion (IsGiven query IsMade stream) rows

  is_join_row : (row : FedRow) → IsMade row.stream row.key row.time row.values → IsJoinRow joining row
  is_join_row row made = record { key = made.0; time = made.1 }

  join_rows : (rows : List FedRow) → AllByRecursion (IsFed query IsMade) rows → All (IsJoinRow joining) rows
  join_rows rows all = All-from_recursion (IsJoinRow joining) rows (weaker (IsFed query IsMade) (IsJoinRow joining) is_join_row rows all)

  module _ (is : query.shape ≡ Join joining) where
    line_made : (stream : ℕ) (line : Line) → IfOk (line_handed query stream line) (AreMade stream)
    line_made stream line =
        line_has query (AreMade stream) tt stream line
        (subst (λ (of : Shape). IfOk (read_at query stream line) (λ row. IfSome row (Gives query (AreMade stream) stream of))) (sym is)
        (any_read (Gives query (AreMade stream) stream (Join joining)) (λ row. ((refl, refl), tt)) (read_at query stream line)))

    pub part_joined : (epoch : ℕ) (part : Part) (from to : ℕ) → All (IsJoinRow joining) (fed_in query epoch part from to)
    part_joined epoch part from to = join_rows (fed_in query epoch part from to) (part_all query IsMade line_made epoch part from to)

    module _ (parts : List Part) (cuts : Cuts) where
      pub fed_joined : (e : ℕ) → All (IsJoinRow joining) (fed query parts cuts e)
      fed_joined e = join_rows (fed query parts cuts e) (fed_all query IsMade line_made parts cuts e)

      pub on_time_joined : (e : ℕ) → All (IsJoinRow joining) (on_time query parts cuts e)
      on_time_joined e = join_rows (on_time query parts cuts e) (on_time_all query IsMade line_made parts cuts e)

      pub accepted_joined : (e : ℕ) → All (IsJoinRow joining) (accepted query parts cuts e)
      accepted_joined e = join_rows (accepted query parts cuts e) (accepted_all query IsMade line_made parts cuts e)

      -- ---- epochs follow one another

      on_time_timely : (e : ℕ) → AllByRecursion (λ (row : FedRow). is_past (watermark query parts cuts e) row.time ≡ false) (on_time query parts cuts e)
      unfolding operator_of
      on_time_timely e =
          let now = watermark query parts cuts e in
          let rows = fed query parts cuts e in
          subst (λ (shape : Shape). AllByRecursion (λ (row : FedRow). is_past now row.time ≡ false) (filter (λ (row : FedRow). not ((operator_for shape query).is_late now row)) rows)) (sym is)
          (timely_rows now rows)

      pub follows_at : (e : ℕ) → Follows (on_time query parts cuts e) (watermark_before query parts cuts e) (watermark query parts cuts e)
      follows_at e = record {
        rises = water_rose query parts cuts e;
        timely = All-from_recursion _ (on_time query parts cuts e) (on_time_timely e);
      }

      pub follows_in : (partitions p e : ℕ) → Follows (bucket partitions p (on_time query parts cuts e)) (watermark_before query parts cuts e) (watermark query parts cuts e)
      follows_in partitions p e =
          let all = follows_at e in
          record {
            rises = all.rises;
            timely = All-filter (λ (row : FedRow). place_of (keys_of row.key) partitions == p) (λ (row : FedRow). is_past (watermark query parts cuts e) row.time ≡ false) (on_time query parts cuts e) all.timely;
          }

      -- ---- what the epochs show

      join_is : operator_of query ≡ join query joining
      unfolding operator_of
      join_is = ap (λ (shape : Shape). operator_for shape query) is

      out_is : (e : ℕ) → out query parts cuts e ≡ (join query joining).added (accepted query parts cuts e) (on_time query parts cuts e) (watermark_before query parts cuts e) (watermark query parts cuts e)
      out_is e = ap (λ operator. operator.added (accepted query parts cuts e) (on_time query parts cuts e) (watermark_before query parts cuts e) (watermark query parts cuts e)) join_is

      module _ (bounded : IsBounded joining) where
        pub epochs_add_up : (n : ℕ) → IsPermutation (outs query parts cuts n) (meaning_at query joining parts cuts n)
        unfolding outs accepted
        epochs_add_up zero = IsPermutation-refl []
        epochs_add_up (suc n) =
            let old = accepted query parts cuts n in
            let new = on_time query parts cuts n in
            let before = watermark_before query parts cuts n in
            let now = watermark query parts cuts n in
            let added = (join query joining).added old new before now in
            let so_far : IsPermutation (outs query parts cuts n ++ added) (meant query joining old before ++ added) = IsPermutation-append_left added (outs query parts cuts n) (meant query joining old before) (epochs_add_up n) in
            let last : IsPermutation (meant query joining old before ++ added) (meant query joining (old ++ new) now) = shown_all joining old new before now (follows_at n) bounded query in
            subst (λ l. IsPermutation (outs query parts cuts n ++ l) (meant query joining (old ++ new) now)) (sym (out_is n)) (IsPermutation-trans _ _ _ so_far last)

        -- each row that is alone in the end was considered once
        pub alone_adds_up : (n : ℕ) → IsPermutation (alone_so_far query joining parts cuts n) (alone_at query joining parts cuts n)
        unfolding alone_so_far accepted
        alone_adds_up zero = IsPermutation-refl []
        alone_adds_up (suc n) =
            let old = accepted query parts cuts n in
            let new = on_time query parts cuts n in
            let before = watermark_before query parts cuts n in
            let now = watermark query parts cuts n in
            let due = due_rows joining (old ++ new) before now in
            let so_far : IsPermutation (alone_so_far query joining parts cuts n ++ due) (rows_alone joining old before ++ due) =
            IsPermutation-append_left due (alone_so_far query joining parts cuts n) (rows_alone joining old before) (alone_adds_up n) in
            IsPermutation-trans _ _ _ so_far (alone_all joining old new before now (follows_at n) bounded)

      -- ---- no partner is lost

      stays_open : (row : FedRow) (e : ℕ) → is_over joining (watermark query parts cuts e) row ≡ false → IsOpenTo query joining parts cuts e row
      stays_open row e opens f le = was_open joining (watermark query parts cuts f) (watermark query parts cuts e) (water_stays query parts cuts f e le) row opens

      pub partners_are_open : (e : ℕ) → All (λ (row : FedRow). (other : FedRow) → are_candidates joining row other ≡ true → IsOpenTo query joining parts cuts e other) (on_time query parts cuts e)
      partners_are_open e = All-from_recursion _ (on_time query parts cuts e)
          (weaker (λ (row : FedRow). is_past (watermark query parts cuts e) row.time ≡ false) (λ (row : FedRow). (other : FedRow) → are_candidates joining row other ≡ true → IsOpenTo query joining parts cuts e other)
          (λ row timely other meets. stays_open other e (candidate_opens joining (watermark query parts cuts e) row other timely meets)) (on_time query parts cuts e) (on_time_timely e))

      pub partners_are_found : (e : ℕ) → All (λ (row : FedRow). FindsAll query joining parts cuts e row) (on_time query parts cuts e)
      partners_are_found e = All-from_recursion _ (on_time query parts cuts e)
          (weaker (λ (row : FedRow). is_past (watermark query parts cuts e) row.time ≡ false) (λ (row : FedRow). FindsAll query joining parts cuts e row)
          (all_found joining (accepted query parts cuts e) (on_time query parts cuts e) (watermark_before query parts cuts e) (watermark query parts cuts e) (follows_at e)) (on_time query parts cuts e) (on_time_timely e))

-- ---- each row is over first in one epoch

module _ (query : Bound) (joining : Joining) (parts : List Part) (cuts : Cuts) (row : FedRow) where
  pub over_once : (n : ℕ) → times_over query joining parts cuts row n ≡ (if is_over joining (watermark_before query parts cuts n) row then 1 else 0)
  unfolding times_over
  over_once zero = refl
  over_once (suc n) =
      ap (λ times. times + (if is_due joining (watermark_before query parts cuts n) (watermark query parts cuts n) row then 1 else 0)) (over_once n)
      ∙ by (is_over joining (watermark_before query parts cuts n) row) (is_over joining (watermark query parts cuts n) row)
      (over_stays joining (watermark_before query parts cuts n) (watermark query parts cuts n) (water_rose query parts cuts n) row)
    where
      by : (b m : Bool) → (b ≡ true → m ≡ true) → ◌≡◌ {A = ℕ} ((if b then 1 else 0) + (if (m && not b) then 1 else 0)) (if m then 1 else 0)
      by true true stays = refl
      by true false stays = let no : false ≡ true = stays refl in absurd cc
      by false true stays = refl
      by false false stays = refl
