-- What a desk holds once a map task is back.
use Rattle.std.proofs.Common.{◌≡◌, ◌<◌, ◌≤◌, ◌+◌, [], ◌∷◌, ℕ, zero, suc, true, true≢false, List, length, get_or, Option, Some, None, refl, sym, ap, ◌∙◌, subst, arith}
use Rattle.std.specs.Prelude.{All, ◌==◌, slice_get, option_map}
use mathlib.Core.Option.{some}
use lib.ListN.{get_elem?}
use Rattle.ssq_json.specs.declared.bad_row.BadRow.TheVariants as bad
use Rattle.ssq_shape.specs.declared.bound.Bound.{Bound}
use Rattle.ssq_meaning.specs.Parts.{Part}
use Rattle.ssq_meaning.specs.Cut.{Cut, of_parts}
use Rattle.ssq_meaning.specs.Feeding.{LineAt, fault_in, or_else}
use Rattle.ssq_meaning.specs.Epochs.{fault, fault_between, key_fault, of_line, of_key}
use Rattle.ssq_meaning.specs.Meaning.{Line, Values}
use Rattle.ssq_route.specs.Buckets.{bucket_at}
use Rattle.ssq_feed.specs.declared.task.FedRows.{FedRows}
use Rattle.ssq_feed.specs.declared.fault.FeedFault.{FeedFault}
use Rattle.ssq_feed.specs.declared.fault.FeedFault.TheVariants as feed
use Rattle.ssq_meaning.specs.Fit.{IsFitRow}
use Rattle.ssq_feed.specs.Rows.{IsFedFrom}
use Rattle.ssq_core.specs.Course.{Cuts}
use Rattle.ssq_course.specs.Setting.{Setting, parts_in, cut_of, cuts_of}
use Rattle.ssq_board.specs.declared.front.Cause.{Cause}
use Rattle.ssq_board.specs.declared.front.Cause.TheVariants as cause
use Rattle.ssq_board.specs.declared.front.Place.{Place}
use Rattle.ssq_board.specs.declared.front.Place.TheVariants as place
use Rattle.ssq_board.specs.Core.{is_here, is_of_epoch, due_stop}
use Rattle.ssq_board.specs.Laws.{IsCauseOf}
use Rattle.ssq_board.proofs.Leasts.{cause_counts}
use Rattle.ssq_board.proofs.Lists.{all_fine, at_length, there_at}
use Rattle.ssq_terms.proofs.Showing.{are_quiet}
use Rattle.ssq_desk.specs.declared.desk.PartLog.{PartLog}
use Rattle.std.proofs.lemmas.List.{get_or_default}
use Rattle.std.proofs.lemmas.List.Elements.{All-filter}
use Rattle.std.proofs.lemmas.Option.{same_Some}
use Rattle.ssq_value.specs.Key.{keys_of}
use Rattle.ssq_route.specs.Place.{place_of}
use Rattle.ssq_meaning.specs.Epochs.{bucket}
use Rattle.ssq_feed.specs.Causes.{FeedCause}
use Rattle.ssq_feed.proofs.Dealing.{buckets_are, buckets_count}
use Rattle.ssq_sink.proofs.Passes.{get_some as part_there}
use Rattle.ssq_desk.specs.Results.{cause_of_feed}
use Rattle.ssq_desk.specs.Contents.{IsBrought, IsMapped, IsCauseIn, IsStopOf, line_of}
use Rattle.ssq_desk.proofs.Beginnings.{slice_below}

first_own : {L : Type 0} {at : Option LineAt} (tells logs : Type 0) (lines : L → List Line) (query : Bound) (part : Part) (from to : ℕ) (before : L) → tells → (tells → logs) → (tells → lines before ≡ part.lines)
    → fault_in query (record { stream = part.stream; part = part.part; lines = lines before }) from to ≡ at → fault_in query part from to ≡ at
first_own tells logs lines query part from to before t so own is = ap (λ l. fault_in query (record { stream = part.stream; part = part.part; lines = l }) from to) (sym (own t)) ∙ is

-- what a map task brought of its lines is what a desk keeps of it
pub brought_of : (tells : Type 0) (query : Bound) (epoch : ℕ) (part : Part) (from to partitions : ℕ) (reduces : List Place) (brought : FedRows) → ((p : ℕ) → get_elem? reduces p ≡ some place.Waits → p < partitions)
    → IsFedFrom tells query epoch part from to partitions brought.time brought.buckets → IsBrought tells query epoch part from to partitions reduces brought
brought_of tells query epoch part from to partitions reduces brought below f = record {
  count = ap length f.apart ∙ buckets_count partitions f.rows;
  years = f.years;
  fit = λ p d less. (let in_range : p < partitions = (let n = ap length f.apart ∙ buckets_count partitions f.rows in omega (arith, less, n)) in
      subst (All IsFitRow) (sym (get_or_default brought.buckets p d [] less ∙ ap (λ l. bucket_at l p) f.apart ∙ buckets_are partitions p f.rows in_range))
      (All-filter (λ row. place_of (keys_of row.key) partitions == p) IsFitRow f.rows f.fit));
  time = f.greatest;
  good = f.good;
  rows = λ t p waits. ap (λ l. bucket_at l p) f.apart ∙ buckets_are partitions p f.rows (below p waits) ∙ ap (bucket partitions p) (f.are t);
}

-- and why it brought nothing
pub cause_of_fed : {L : Type 0} (tells logs : Type 0) (lines : L → List Line) (available : L → ℕ) (answers : L → List ℕ) (faults : L → ℕ) (query : Bound) (part : Part) (from to : ℕ) (before after : L) (f : FeedFault) → (tells → logs) → (tells → lines before ≡ part.lines)
    → (tells → to ≤ available after)
    → FeedCause logs lines available answers faults query part.stream part.part from to before after f → IsCauseIn tells query part from to (cause_of_feed part.stream part.part f)
cause_of_fed tells logs lines available answers faults query part from to before after (feed.BadLine offset bad.TooLong) so own enough c = λ t. first_own tells logs lines query part from to before t so own (c.0 (so t))
cause_of_fed tells logs lines available answers faults query part from to before after (feed.BadLine offset bad.NotJson) so own enough c = λ t. first_own tells logs lines query part from to before t so own (c.0 (so t))
cause_of_fed tells logs lines available answers faults query part from to before after (feed.BadLine offset bad.NotObject) so own enough c = λ t. first_own tells logs lines query part from to before t so own (c.0 (so t))
cause_of_fed tells logs lines available answers faults query part from to before after (feed.BadLine offset (bad.WrongType column)) so own enough c = λ t. first_own tells logs lines query part from to before t so own (c.0 (so t))
cause_of_fed tells logs lines available answers faults query part from to before after (feed.BadLine offset bad.NoEventTime) so own enough c = λ t. first_own tells logs lines query part from to before t so own (c.0 (so t))
cause_of_fed tells logs lines available answers faults query part from to before after (feed.BadLine offset bad.NoMemory) so own enough c = absurd (c.1 refl)
cause_of_fed tells logs lines available answers faults query part from to before after (feed.Overflow offset) so own enough c = λ t. first_own tells logs lines query part from to before t so own (c (so t))
cause_of_fed tells logs lines available answers faults query part from to before after feed.LogFault so own enough c = tt
cause_of_fed tells logs lines available answers faults query part from to before after (feed.LogShort logged short) so own enough c = (c.0, c.1, λ t. (let long = enough t in let is = c.2 (so t) in let short = c.1 in omega (arith, long, is, short)))
cause_of_fed tells logs lines available answers faults query part from to before after feed.NoMemory so own enough c = tt

-- the first fault is that of the first part that has one
first_between : (query : Bound) (parts : List Part) (froms tos : Cut) (p : ℕ) (part : Part) (at : LineAt) → length froms ≡ length parts → length tos ≡ length parts → slice_get parts p ≡ Some part
    → fault_in query part (get_or froms p 0) (get_or tos p 0) ≡ Some at → ((i : ℕ) (q : Part) → i < p → slice_get parts i ≡ Some q → fault_in query q (get_or froms i 0) (get_or tos i 0) ≡ None) → fault_between query parts froms tos ≡ Some at
unfolding of_parts
first_between query [] froms tos p part at a b there is before = absurd (omega (arith, slice_below [] p part there))
first_between query (x ∷ parts) [] tos p part at a b there is before = absurd (omega (arith, a))
first_between query (x ∷ parts) (from ∷ froms) [] p part at a b there is before = absurd (omega (arith, b))
first_between query (x ∷ parts) (from ∷ froms) (to ∷ tos) zero part at a b there is before =
    ap (λ o. or_else o (fault_between query parts froms tos)) (ap (λ q. fault_in query q from to) (same_Some x part there) ∙ is)
first_between query (x ∷ parts) (from ∷ froms) (to ∷ tos) (suc p) part at a b there is before =
    ap (λ o. or_else o (fault_between query parts froms tos)) (before 0 x (omega arith) refl)
    ∙ first_between query parts froms tos p part at (omega (arith, a)) (omega (arith, b)) there is (λ i q less here. before (suc i) q (omega (arith, less)) here)

-- a part without a fault: it was read, or has no new lines
good_of : {L : Type 0} (tells : Type 0) (query : Bound) (epoch : ℕ) (part : Part) (from to partitions : ℕ) (reduces : List Place) (at : Place) (part_log : PartLog L) → tells → is_here at ≡ true → ((f : Cause) → at ≡ place.Back (Some f) → ⊥)
    → IsMapped tells query epoch part from to partitions reduces at part_log → fault_in query part from to ≡ None
good_of tells query epoch part from to partitions reduces place.Rests part_log t here no_fault m = (are_quiet query part from to (m.quiet refl)).fault
good_of tells query epoch part from to partitions reduces (place.Back None) part_log t here no_fault m = (m.brought refl).2.good t
good_of tells query epoch part from to partitions reduces (place.Back (Some f)) part_log t here no_fault m = absurd (no_fault f refl)
good_of tells query epoch part from to partitions reduces place.Waits part_log t here no_fault m = absurd (true≢false (sym here))
good_of tells query epoch part from to partitions reduces place.Away part_log t here no_fault m = absurd (true≢false (sym here))

module _ {L : Type 0} (tells : Type 0) (s : Setting) (cuts : Cuts) (e : ℕ) (reduces places : List Place) (part_logs : List (PartLog L)) where
  -- all map tasks of an epoch
  abbrev pub AllMapped : Type 0
  AllMapped = (i : ℕ) (part : Part) (at : Place) (part_log : PartLog L) → slice_get (parts_in s) i ≡ Some part → get_elem? places i ≡ some at → get_elem? part_logs i ≡ some part_log
      → IsMapped tells s.job.bound e part (get_or (cut_of (cuts e)) i 0) (get_or (cut_of (cuts (e + 1))) i 0) s.job.partitions reduces at part_log

  module _ (mapped : AllMapped) (each_place : length places ≡ length (parts_in s)) (each_part_log : length part_logs ≡ length (parts_in s)) (froms : length (cut_of (cuts e)) ≡ length (parts_in s)) (tos : length (cut_of (cuts (e + 1))) ≡ length (parts_in s)) where
    -- what a task of the phase met is its own cause
    cause_at : (f : Cause) (p : ℕ) → get_elem? places p ≡ some (place.Back (Some f)) → (part : Part) × (slice_get (parts_in s) p ≡ Some part) × IsCauseIn tells s.job.bound part (get_or (cut_of (cuts e)) p 0) (get_or (cut_of (cuts (e + 1))) p 0) f
    cause_at f p here =
        let less = at_length places p (place.Back (Some f)) here in
        let part = part_there (parts_in s) p (omega (arith, less, each_place)) in
        let part_log = there_at part_logs p (omega (arith, less, each_place, each_part_log)) in
        (part.0, part.1, (mapped p part.0 (place.Back (Some f)) part_log.0 part.1 here part_log.1).fault f refl)

    -- a line's cause for which the phase stops is the epoch's fault
    line_stops : (f : Cause) (at : LineAt) → tells → line_of f ≡ Some at → is_of_epoch f ≡ true → (c : IsCauseOf places f) → (part : Part) → slice_get (parts_in s) c.place_of ≡ Some part
        → fault_in s.job.bound part (get_or (cut_of (cuts e)) c.place_of 0) (get_or (cut_of (cuts (e + 1))) c.place_of 0) ≡ line_of f → fault s.job.bound (parts_in s) (cuts_of cuts) e ≡ Some (of_line at)
    line_stops f at t is line c part there found =
        let all = (c.first line).0 in
        let between = first_between s.job.bound (parts_in s) (cut_of (cuts e)) (cut_of (cuts (e + 1))) c.place_of part at froms tos there (found ∙ is)
        (λ i q less here. (
        let placed = there_at places i (let b = slice_below (parts_in s) i q here in omega (arith, b, each_place)) in
        let part_log = there_at part_logs i (let b = slice_below (parts_in s) i q here in omega (arith, b, each_part_log)) in
        good_of tells s.job.bound e q _ _ s.job.partitions reduces placed.0 part_log.0 t (all_fine is_here places i placed.0 all placed.1)
        (λ g back. (let later = ((c.first line).1 i g (placed.1 ∙ ap some back)).1 in omega (arith, less, later))) (mapped i q placed.0 part_log.0 here placed.1 part_log.1))) in
        ap (λ o. or_else (option_map of_line o) (option_map of_key (key_fault s.job.bound (parts_in s) (cuts_of cuts) e))) between

    -- The phase stops for a cause that a Stop of the desk may have.
    pub map_stops : (owned : Type 0) (f : Cause) → due_stop places ≡ Some f → (key : Option Values) → IsStopOf tells owned s cuts e key f
    map_stops owned f due key = by f (cause_counts places f due) (cause_at f (cause_counts places f due).place_of (cause_counts places f due).here)
      where
        by : (f : Cause) → (c : IsCauseOf places f) → (part : Part) × (slice_get (parts_in s) c.place_of ≡ Some part) × IsCauseIn tells s.job.bound part (get_or (cut_of (cuts e)) c.place_of 0) (get_or (cut_of (cuts (e + 1))) c.place_of 0) f → IsStopOf tells owned s cuts e key f
        by (cause.BadLine st p o w) c own = λ t. (_, refl, line_stops (cause.BadLine st p o w) _ t refl refl c own.0 own.1 (own.2 t))
        by (cause.Overflow st p o) c own = λ t. (_, refl, line_stops (cause.Overflow st p o) _ t refl refl c own.0 own.1 (own.2 t))
        by (cause.LogShort st p logged found) c own = (let a = own.2.0 in let b = own.2.1 in (omega (arith, a, b), own.2.2))
        by cause.KeyOverflow c own = absurd own.2
        by cause.LogFault c own = tt
        by cause.NoMemory c own = tt
        by cause.DiskFault c own = tt
        by (cause.Damaged q) c own = absurd own.2
        by cause.Full c own = tt
