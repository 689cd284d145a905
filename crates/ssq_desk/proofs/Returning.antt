-- A map task is taken back.
use Rattle.std.proofs.Common.{◌≡◌, ◌<◌, ◌≤◌, ◌+◌, ℕ, Bool, true, false, true≢false, List, length, get_or, set, Option, Some, None, Result, Ok, Err, inl, inr, refl, sym, ap, ◌∙◌, subst, arith}
use Rattle.std.specs.Prelude.{slice_get, is_some, IfOk, IfErr, if◌then◌else◌}
use Rattle.std.proofs.lemmas.List.{length-map}
use Rattle.std.proofs.lemmas.Bool.{cases_eq}
use mathlib.Core.Option.{some}
use lib.ListN.{get_elem?}
use Rattle.ssq_outside.specs.History.{History}
use Rattle.ssq_outside.specs.declared.gate.Kind.TheVariants as kind
use Rattle.ssq_json.specs.declared.bad_row.BadRow.TheVariants as bad
use Rattle.ssq_shape.specs.declared.bound.Bound.{Bound}
use Rattle.ssq_board.specs.declared.front.Cause.TheVariants as cause
use Rattle.ssq_meaning.specs.Parts.{Part}
use Rattle.ssq_meaning.specs.Meaning.{Line, Values}
use Rattle.std.specs.List.{list_all}
use Rattle.std.proofs.lemmas.Option.{same_Some}
use Rattle.ssq_meaning.specs.Feeding.{fed_in, time_in, fault_in}
use Rattle.ssq_plans.specs.declared.part.PartEnd.{PartEnd}
use Rattle.ssq_feed.specs.declared.task.FedRows.{FedRows}
use Rattle.ssq_feed.specs.declared.task.MapTask.{MapTask}
use Rattle.ssq_feed.specs.declared.task.Fed.{Fed}
use Rattle.ssq_feed.specs.declared.fault.FeedFault.{FeedFault}
use Rattle.ssq_feed.specs.declared.fault.FeedFault.TheVariants as feed
use Rattle.ssq_feed.specs.Rows.{IsFedFrom}
use Rattle.ssq_feed.specs.Causes.{LogWent, FeedCause}
use Rattle.ssq_feed.specs.Outcome.{IsFed}
use Rattle.ssq_core.specs.Course.{Cuts}
use Rattle.ssq_course.specs.Setting.{Setting, parts_in, cut_of, course_of}
use Rattle.ssq_board.specs.declared.front.Cause.{Cause}
use Rattle.ssq_board.specs.declared.front.Entry.TheVariants as entry
use Rattle.ssq_board.specs.declared.front.Place.{Place}
use Rattle.ssq_board.specs.declared.front.Place.TheVariants as place
use Rattle.ssq_board.specs.Core.{Core, May, after, due_stop, due, or_stop, is_stopped, is_of_epoch, is_here, is_open, fault_at}
use Rattle.ssq_board.specs.Follows.{IsOwn, IsOwnBy}
use Rattle.ssq_board.proofs.Leasts.{cause_counts}
use Rattle.ssq_board.proofs.Lists.{at_length, there_at, set_length, put_here, put_else}
use Rattle.ssq_board.proofs.Keeping.{or_stop_none}
use Rattle.ssq_ledger.specs.Shown.{Shown, IsLegal, IsInOrder, cuts_of}
use Rattle.ssq_terms.specs.Laws.{FaultsAreOfTasks}
use Rattle.ssq_desk.specs.declared.desk.Load.{Load}
use Rattle.ssq_desk.specs.declared.desk.PartLog.{PartLog}
use Rattle.ssq_desk.specs.declared.round.Round.{Round}
use Rattle.ssq_desk.specs.Round.{setting_of, Owns}
use Rattle.ssq_desk.specs.Tasks.{map_id}
use Rattle.ssq_desk.specs.Handed.{IsMapOf}
use Rattle.ssq_desk.specs.Results.{cause_of_feed, fault_of}
use Rattle.ssq_desk.specs.Contents.{IsPartLogOf, IsMapped, IsCauseIn, IsStopOf, key_in}
use Rattle.ssq_desk.specs.Closing.{HasFaulty}
use Rattle.ssq_desk.specs.Whole.{IsWhole, HoldsIn, opening_in}
use Rattle.ssq_desk.proofs.Holding.{holds_map, put_both, put_is}
use Rattle.ssq_desk.proofs.Reducing.{faulty_by, not_calm, back_rests}
use Rattle.ssq_desk.proofs.Handing.{parts_count, tos_count, tos_within}
use Rattle.ssq_desk.proofs.Wholes.{rises_some}
use Rattle.ssq_desk.proofs.Reporting.{brought_of, cause_of_fed, map_stops}

-- the rows of a task's lines are those of its part, where the logs tell
fed_own : (tells logs : Type 0) (query : Bound) (epoch : ℕ) (part : Part) (st pt : ℕ) (ls : List Line) (from to partitions : ℕ) (fed : FedRows) → (tells → logs) → part.stream ≡ st → part.part ≡ pt → (tells → ls ≡ part.lines)
    → IsFedFrom logs query epoch (record { stream = st; part = pt; lines = ls }) from to partitions fed.time fed.buckets → IsFedFrom tells query epoch part from to partitions fed.time fed.buckets
fed_own tells logs query epoch part st pt ls from to partitions fed so stream number own f = record {
  rows = f.rows;
  apart = f.apart;
  fit = f.fit;
  years = f.years;
  are = λ t. f.are (so t) ∙ ap (λ q. fed_in query epoch q from to) (same t);
  greatest = λ t. f.greatest (so t) ∙ ap (λ q. time_in query q from to) (same t);
  good = λ t. sym (ap (λ q. fault_in query q from to) (same t)) ∙ f.good (so t);
}
  where
    same : tells → ◌≡◌ {A = Part} (record { stream = st; part = pt; lines = ls }) part
    same t = (let a = sym stream in let b = sym number in let c = own t in λ i. record { stream = a i; part = b i; lines = c i })

no_fault : (f : Option Cause) (g : Cause) → f ≡ None → place.Back f ≡ place.Back (Some g) → ⊥
no_fault f g is e = true≢false (ap (λ o. is_some (fault_at o)) (sym e) ∙ ap is_some is)

same_fault : (f : Option Cause) (g h : Cause) → f ≡ Some h → place.Back f ≡ place.Back (Some g) → h ≡ g
same_fault f g h is e = same_Some h g (sym is ∙ ap fault_at e)

has_fault : (f : Option Cause) (h : Cause) → f ≡ Some h → place.Back f ≡ place.Back None → ⊥
has_fault f h is e = true≢false (ap is_some (sym is) ∙ ap (λ o. is_some (fault_at o)) e)

module _ {L : Type 0} (tells logs : Type 0) (lines : L → List Line) (available : L → ℕ) (answers : L → List ℕ) (faults : L → ℕ) (so : tells → logs) where
  -- what a desk keeps of a map task that is back
  pub back_mapped : (query : Bound) (epoch : ℕ) (part : Part) (from to partitions : ℕ) (reduces : List Place) (before after : L) (outcome : Result FedRows FeedFault) (f : Option Cause) (x : PartLog L)
      → ((p : ℕ) → get_elem? reduces p ≡ some place.Waits → p < partitions) → (tells → lines before ≡ part.lines) → (tells → to ≤ available after)
      → x.from ≡ from → f ≡ fault_of (cause_of_feed part.stream part.part) outcome → IfOk outcome (λ fed. x.fed ≡ Some fed)
      → IfOk outcome (λ fed. IsFedFrom logs query epoch (record { stream = part.stream; part = part.part; lines = lines before }) from to partitions fed.time fed.buckets)
      → IfErr outcome (FeedCause logs lines available answers faults query part.stream part.part from to before after)
      → IsMapped tells query epoch part from to partitions reduces (place.Back f) x
  back_mapped query epoch part from to partitions reduces before after (Ok fed) f x below own enough begins is has rows why = record {
    begins = begins;
    quiet = λ e. absurd (back_rests f e);
    none = λ e. absurd (back_rests f e);
    brought = λ e. (fed, has, brought_of tells query epoch part from to partitions reduces fed below (fed_own tells logs query epoch part part.stream part.part (lines before) from to partitions fed so refl refl own rows));
    fault = λ g e. absurd (no_fault f g is e);
  }
  back_mapped query epoch part from to partitions reduces before after (Err w) f x below own enough begins is has rows why = record {
    begins = begins;
    quiet = λ e. absurd (back_rests f e);
    none = λ e. absurd (back_rests f e);
    brought = λ e. absurd (has_fault f (cause_of_feed part.stream part.part w) is e);
    fault = λ g e. subst (IsCauseIn tells query part from to) (same_fault f g (cause_of_feed part.stream part.part w) is e)
        (cause_of_fed tells logs lines available answers faults query part from to before after w so own enough why);
  }

  -- and whether the task has a fault
  back_own : (s : Setting) (cuts : Cuts) (e i : ℕ) (part : Part) (before after : L) (outcome : Result FedRows FeedFault) (f : Option Cause) → FaultsAreOfTasks → slice_get (parts_in s) i ≡ Some part → (tells → lines before ≡ part.lines)
      → (tells → get_or (cut_of (cuts (e + 1))) i 0 ≤ available after)
      → f ≡ fault_of (cause_of_feed part.stream part.part) outcome
      → IfOk outcome (λ fed. IsFedFrom logs s.job.bound e (record { stream = part.stream; part = part.part; lines = lines before }) (get_or (cut_of (cuts e)) i 0) (get_or (cut_of (cuts (e + 1))) i 0) s.job.partitions fed.time fed.buckets)
      → IfErr outcome (FeedCause logs lines available answers faults s.job.bound part.stream part.part (get_or (cut_of (cuts e)) i 0) (get_or (cut_of (cuts (e + 1))) i 0) before after)
      → tells → IsOwn (course_of s cuts) (map_id e i) f
  back_own s cuts e i part before after (Ok fed) f faulty there own enough is rows why t =
      subst (IsOwn (course_of s cuts) (map_id e i)) (sym is)
      ((faulty s cuts e).maps i part there ∙ ap is_some ((fed_own tells logs s.job.bound e part part.stream part.part (lines before) _ _ s.job.partitions fed so refl refl own rows).good t))
  back_own s cuts e i part before after (Err w) f faulty there own enough is rows why t =
      subst (IsOwn (course_of s cuts) (map_id e i)) (sym is)
      (own_cause (cause_of_feed part.stream part.part w) (cause_of_fed tells logs lines available answers faults s.job.bound part _ _ before after w so own enough why))
    where
      own_cause : (g : Cause) → IsCauseIn tells s.job.bound part (get_or (cut_of (cuts e)) i 0) (get_or (cut_of (cuts (e + 1))) i 0) g → IsOwnBy ((course_of s cuts).is_fault (map_id e i)) (is_of_epoch g)
      own_cause (cause.BadLine a b c d) c' = (faulty s cuts e).maps i part there ∙ ap is_some (c' t)
      own_cause (cause.Overflow a b c) c' = (faulty s cuts e).maps i part there ∙ ap is_some (c' t)
      own_cause (cause.LogShort a b c d) c' = tt
      own_cause cause.KeyOverflow c' = absurd c'
      own_cause cause.LogFault c' = tt
      own_cause cause.NoMemory c' = tt
      own_cause cause.DiskFault c' = tt
      own_cause (cause.Damaged q) c' = tt
      own_cause cause.Full c' = tt

-- the part whose log is with a worker
pub old_part_log : {L : Type 0} (c : Core) (part_logs : List (PartLog L)) (i : ℕ) → length c.maps ≡ length part_logs → get_elem? c.maps i ≡ some place.Away → (old : PartLog L) × (get_elem? part_logs i ≡ some old)
old_part_log c part_logs i each away = there_at part_logs i (let less = at_length c.maps i place.Away away in omega (arith, less, each))

is_logs : Option Cause → Bool
is_logs (Some cause.LogFault) = true
is_logs _ = false

-- where it failed since its log did, the log counts it
log_counts : {L : Type 0} (logs : Type 0) (lines : L → List Line) (available : L → ℕ) (answers : L → List ℕ) (faults : L → ℕ) (query : Bound) (stream part from to : ℕ) (before after : L) (st pt : ℕ) (outcome : Result FedRows FeedFault)
    → fault_of (cause_of_feed st pt) outcome ≡ Some cause.LogFault → IfErr outcome (FeedCause logs lines available answers faults query stream part from to before after) → 0 < faults after
unfolding is_logs
log_counts logs lines available answers faults query stream part from to before after st pt (Ok fed) is why = absurd (true≢false (sym (ap is_logs is)))
log_counts logs lines available answers faults query stream part from to before after st pt (Err feed.LogFault) is why = rises_some (faults before) (faults after) why
log_counts logs lines available answers faults query stream part from to before after st pt (Err (feed.Overflow offset)) is why = absurd (true≢false (sym (ap is_logs is)))
log_counts logs lines available answers faults query stream part from to before after st pt (Err (feed.LogShort logged short)) is why = absurd (true≢false (sym (ap is_logs is)))
log_counts logs lines available answers faults query stream part from to before after st pt (Err feed.NoMemory) is why = absurd (true≢false (sym (ap is_logs is)))
log_counts logs lines available answers faults query stream part from to before after st pt (Err (feed.BadLine offset bad.TooLong)) is why = absurd (true≢false (sym (ap is_logs is)))
log_counts logs lines available answers faults query stream part from to before after st pt (Err (feed.BadLine offset bad.NotJson)) is why = absurd (true≢false (sym (ap is_logs is)))
log_counts logs lines available answers faults query stream part from to before after st pt (Err (feed.BadLine offset bad.NotObject)) is why = absurd (true≢false (sym (ap is_logs is)))
log_counts logs lines available answers faults query stream part from to before after st pt (Err (feed.BadLine offset (bad.WrongType column))) is why = absurd (true≢false (sym (ap is_logs is)))
log_counts logs lines available answers faults query stream part from to before after st pt (Err (feed.BadLine offset bad.NoEventTime)) is why = absurd (true≢false (sym (ap is_logs is)))
log_counts logs lines available answers faults query stream part from to before after st pt (Err (feed.BadLine offset bad.NoMemory)) is why = absurd (true≢false (sym (ap is_logs is)))

-- a log that went on, and then on
goes_on : {L : Type 0} (logs : Type 0) (lines : L → List Line) (available : L → ℕ) (answers : L → List ℕ) (faults : L → ℕ) (before mid after : L) → LogWent logs lines available answers faults before mid → LogWent logs lines available answers faults mid after
    → LogWent logs lines available answers faults before after
goes_on logs lines available answers faults before mid after one other = record {
  same = λ t. other.same t ∙ one.same t;
  grown = λ t. (let a = one.grown t in let b = other.grown t in omega (arith, a, b));
  unasked = λ t. other.unasked t ∙ one.unasked t;
  counted = (let a = one.counted in let b = other.counted in omega (arith, a, b));
}

module _ {D L S F : Type 0} (stores logs : Type 0) (history : D → History) (lines : L → List Line) (available : L → ℕ) (answers : L → List ℕ) (faults : L → ℕ) (written : S → List ℕ) (sealed : F → List ℕ) (shown : Shown D (Round L)) (load : Load L S F)
    (whole : IsWhole stores logs history lines available answers faults written sealed shown load) (legal : IsLegal (Owns stores logs history lines shown) history (opening_in lines) shown) (order : IsInOrder shown.scope shown.core)
    (task : MapTask L) (done : Fed L) (of : IsMapOf stores logs history lines available answers faults shown task) (is : IsFed logs lines available answers faults task done) where
  -- the result, said of the part of the task
  pub record IsBackHere : Type 0 where
    pub there : slice_get (parts_in (setting_of lines shown.opening)) done.number ≡ Some of.part
    pub lines_are : stores × logs → lines task.log ≡ of.part.lines
    pub rows : IfOk done.outcome (λ fed. IsFedFrom logs (setting_of lines shown.opening).job.bound shown.core.front.committed (record { stream = of.part.stream; part = of.part.part; lines = lines task.log })
        (get_or (cut_of (cuts_of (opening_in lines) shown shown.core.front.committed)) done.number 0) (get_or (cut_of (cuts_of (opening_in lines) shown (shown.core.front.committed + 1))) done.number 0) (setting_of lines shown.opening).job.partitions fed.time fed.buckets)
    pub why : IfErr done.outcome (FeedCause logs lines available answers faults (setting_of lines shown.opening).job.bound of.part.stream of.part.part
        (get_or (cut_of (cuts_of (opening_in lines) shown shown.core.front.committed)) done.number 0) (get_or (cut_of (cuts_of (opening_in lines) shown (shown.core.front.committed + 1))) done.number 0) task.log done.log)
    pub fault : fault_of (cause_of_feed done.stream done.part) done.outcome ≡ fault_of (cause_of_feed of.part.stream of.part.part) done.outcome
    -- no more lines are asked of the log than are known to be there
    pub enough : is_open shown.core ≡ true → stores × logs → get_or (cut_of (cuts_of (opening_in lines) shown (shown.core.front.committed + 1))) done.number 0 ≤ available done.log

  back_here : IsBackHere
  back_here =
      let cuts : Cuts = cuts_of (opening_in lines) shown in
      let e : ℕ = shown.core.front.committed in
      let query = of.view.bound in
      let epoch = of.epoch in
      let stream = sym of.stream in
      let part = sym of.number in
      let from = of.from ∙ ap (λ n. get_or (cut_of (cuts e)) n 0) (sym is.number) in
      let to = of.to ∙ ap (λ n. get_or (cut_of (cuts (e + 1))) n 0) (sym is.number) in
      let partitions = of.view.partitions in record {
        there = ap (λ n. slice_get (parts_in (setting_of lines shown.opening)) n) is.number ∙ of.there;
        lines_are = of.log.lines_are;
        rows = subst (λ (z : Bound × ℕ × ℕ × ℕ × ℕ × ℕ × ℕ). IfOk done.outcome (λ fed. IsFedFrom logs z.0 z.1 (record { stream = z.2; part = z.3; lines = lines task.log }) z.4 z.5 z.6 fed.time fed.buckets))
            (λ i. (query i, epoch i, stream i, part i, from i, to i, partitions i)) is.rows;
        why = subst (λ (z : Bound × ℕ × ℕ × ℕ × ℕ). IfErr done.outcome (FeedCause logs lines available answers faults z.0 z.1 z.2 z.3 z.4 task.log done.log)) (λ i. (query i, stream i, part i, from i, to i)) is.fault;
        enough = λ opened t. (let within = tos_within stores logs history lines available answers faults written sealed shown load whole legal order opened task.number in
            let long = of.log.long t in
            let grown = is.log.grown t.1 in
            let to_is = ap (λ n. get_or (cut_of (cuts (e + 1))) n 0) is.number in omega (arith, within, long, grown, to_is));
        fault = (let a = is.stream ∙ stream in let b = is.part ∙ part in λ i. fault_of (cause_of_feed (a i) (b i)) done.outcome);
      }

  -- the result is the task's own
  pub map_right : FaultsAreOfTasks → is_open shown.core ≡ true → Owns stores logs history lines shown → IsOwn (course_of (setting_of lines shown.opening) (cuts_of (opening_in lines) shown)) (map_id shown.core.front.committed done.number) (fault_of (cause_of_feed done.stream done.part) done.outcome)
  map_right faulty opened t = back_own (stores × logs) logs lines available answers faults (λ both. both.1) (setting_of lines shown.opening) (cuts_of (opening_in lines) shown) shown.core.front.committed done.number of.part task.log done.log done.outcome
      (fault_of (cause_of_feed done.stream done.part) done.outcome) faulty back_here.there back_here.lines_are (back_here.enough opened) back_here.fault back_here.rows back_here.why (t.0, t.1.0)

  -- where it is taken back, in place of this one
  pub map_back : (old x : PartLog L) → (may : May shown.scope shown.core (entry.Report (map_id done.epoch done.number) (fault_of (cause_of_feed done.stream done.part) done.outcome))) → get_elem? load.part_logs.items done.number ≡ some old
      → x.stream ≡ old.stream → x.part ≡ old.part → x.from ≡ old.from → x.log ≡ Some done.log → IfOk done.outcome (λ fed. x.fed ≡ Some fed)
      → HoldsIn stores logs history lines available answers faults written sealed shown (cuts_of (opening_in lines) shown)
      (after shown.scope shown.core (entry.Report (map_id done.epoch done.number) (fault_of (cause_of_feed done.stream done.part) done.outcome))) (set load.part_logs.items done.number x) load.shares.items load.held.items load.out load.seen load.pending
  map_back old x may here stream part from log fed =
      let s : Setting = setting_of lines shown.opening in
      let cuts : Cuts = cuts_of (opening_in lines) shown in
      let c : Core = shown.core in
      let f : Option Cause = fault_of (cause_of_feed done.stream done.part) done.outcome in
      let away : get_elem? c.maps done.number ≡ some place.Away = may.2 in
      let h : IsBackHere = back_here in
      let part_log : (q : Part) → slice_get (parts_in s) done.number ≡ Some q → IsPartLogOf (stores × logs) lines available (LogWent logs lines available answers faults) shown.opening.logs.items done.number q (get_or shown.scope.available done.number 0) (place.Back f) x = λ q there.
      (let was = whole.holds.logs done.number q place.Away old there away here in
      let same = same_Some of.part q (sym h.there ∙ there) in record {
        stream = was.stream ∙ sym stream;
        number = was.number ∙ sym part;
        log = λ here. (
          done.log,
          log,
          record {
            lines_are = λ t. is.log.same t.1 ∙ h.lines_are t ∙ ap (λ (z : Part). z.lines) same;
            long = λ t. (let a = of.log.long t in let b = is.log.grown t.1 in let n = ap (λ k. get_or shown.scope.available k 0) is.number in omega (arith, a, b, n));
            before = of.log.before;
            before_is = subst (λ (k : ℕ). get_elem? shown.opening.logs.items k ≡ some of.log.before) (sym is.number) of.log.before_is;
            has_gone = goes_on logs lines available answers faults of.log.before task.log done.log of.log.has_gone is.log;
          },
        );
      }) in
      let mapped : c.front.stop ≡ None → is_open c ≡ true → (q : Part) → slice_get (parts_in s) done.number ≡ Some q
      → IsMapped (stores × logs) s.job.bound c.front.committed q (get_or (cut_of (cuts c.front.committed)) done.number 0) (get_or (cut_of (cuts (c.front.committed + 1))) done.number 0) s.job.partitions c.reduces (place.Back f) x = λ run opened q there.
      (let same = same_Some of.part q (sym h.there ∙ there) in
      let was = (whole.holds.epoch run opened).mapped done.number of.part place.Away old h.there away here in
      subst (λ (z : Part). IsMapped (stores × logs) s.job.bound c.front.committed z (get_or (cut_of (cuts c.front.committed)) done.number 0) (get_or (cut_of (cuts (c.front.committed + 1))) done.number 0) s.job.partitions c.reduces (place.Back f) x) same
      (back_mapped (stores × logs) logs lines available answers faults (λ both. both.1) s.job.bound c.front.committed of.part _ _ s.job.partitions c.reduces task.log done.log done.outcome f x
      (λ p waits. (let l = at_length c.reduces p place.Waits waits in let reduces = order.sound.reduces in let scoped = whole.round.partitions in omega (arith, l, reduces, scoped)))
      h.lines_are (h.enough opened) (from ∙ was.begins) h.fault fed h.rows h.why)) in
      holds_map (stores × logs) (Owns stores logs history lines shown) lines available (LogWent logs lines available answers faults) shown.opening.logs.items written sealed s cuts shown.scope.available c (or_stop c.front.stop (due c (map_id done.epoch done.number) f)) done.number (place.Back f) x load.part_logs.items load.shares.items load.held.items load.out load.seen load.pending
      (or_stop_none c.front.stop (due c (map_id done.epoch done.number) f)) whole.holds part_log mapped (stills mapped c.front.stop refl) (stops mapped c.front.stop refl)
    where
      f : Option Cause
      f = fault_of (cause_of_feed done.stream done.part) done.outcome

      due_stops : (shown.core.front.stop ≡ None → is_open shown.core ≡ true → (q : Part) → slice_get (parts_in (setting_of lines shown.opening)) done.number ≡ Some q
          → IsMapped (stores × logs) (setting_of lines shown.opening).job.bound shown.core.front.committed q (get_or (cut_of (cuts_of (opening_in lines) shown shown.core.front.committed)) done.number 0) (get_or (cut_of (cuts_of (opening_in lines) shown (shown.core.front.committed + 1))) done.number 0) (setting_of lines shown.opening).job.partitions shown.core.reduces (place.Back f) x)
          → shown.core.front.stop ≡ None → (g : Cause) → or_stop shown.core.front.stop (due shown.core (map_id done.epoch done.number) f) ≡ Some g → (key : Option Values) → IsStopOf (stores × logs) (Owns stores logs history lines shown) (setting_of lines shown.opening) (cuts_of (opening_in lines) shown) shown.core.front.committed key g
      due_stops mapped run g e =
          let c : Core = shown.core in
          let s : Setting = setting_of lines shown.opening in
          let cuts : Cuts = cuts_of (opening_in lines) shown in
          let epoch = whole.holds.epoch run may.0 in
          let due_is : due_stop (set c.maps done.number (place.Back f)) ≡ Some g = sym (ap (λ o. or_stop o (if is_stopped o then None else due_stop (set c.maps done.number (place.Back f)))) run) ∙ e in
          map_stops (stores × logs) s cuts c.front.committed c.reduces (set c.maps done.number (place.Back f)) (set load.part_logs.items done.number x)
          (λ j part at own there place_is own_is.
          put_both (λ j at own. (part : Part) → slice_get (parts_in s) j ≡ Some part
          → IsMapped (stores × logs) s.job.bound c.front.committed part (get_or (cut_of (cuts c.front.committed)) j 0) (get_or (cut_of (cuts (c.front.committed + 1))) j 0) s.job.partitions c.reduces at own) c.maps load.part_logs.items done.number (place.Back f) x
          (λ j at own p o part there. epoch.mapped j part at own there p o) (mapped run may.0) j at own place_is own_is part there)
          (set_length c.maps done.number (place.Back f) ∙ order.sound.maps ∙ sym (parts_count stores logs history lines available answers faults written sealed shown load whole legal order))
          (set_length load.part_logs.items done.number x ∙ whole.holds.parts)
          (length-map (cuts c.front.committed) (λ (e : PartEnd). e.end) ∙ epoch.froms)
          (tos_count stores logs history lines available answers faults written sealed shown load whole legal order may.0) (Owns stores logs history lines shown) g due_is

      stops : (shown.core.front.stop ≡ None → is_open shown.core ≡ true → (q : Part) → slice_get (parts_in (setting_of lines shown.opening)) done.number ≡ Some q
          → IsMapped (stores × logs) (setting_of lines shown.opening).job.bound shown.core.front.committed q (get_or (cut_of (cuts_of (opening_in lines) shown shown.core.front.committed)) done.number 0) (get_or (cut_of (cuts_of (opening_in lines) shown (shown.core.front.committed + 1))) done.number 0) (setting_of lines shown.opening).job.partitions shown.core.reduces (place.Back f) x)
          → (o : Option Cause) → shown.core.front.stop ≡ o → (g : Cause) → or_stop shown.core.front.stop (due shown.core (map_id done.epoch done.number) f) ≡ Some g
          → IsStopOf (stores × logs) (Owns stores logs history lines shown) (setting_of lines shown.opening) (cuts_of (opening_in lines) shown) shown.core.front.committed (key_in load.shares.items) g
      stops mapped (Some w) stopped g e = whole.holds.stop g (stopped ∙ sym (ap (λ o. or_stop o (due shown.core (map_id done.epoch done.number) f)) stopped) ∙ e)
      stops mapped None run g e = due_stops mapped run g e (key_in load.shares.items)

      -- no map task meets a key's overflow
      stills : (shown.core.front.stop ≡ None → is_open shown.core ≡ true → (q : Part) → slice_get (parts_in (setting_of lines shown.opening)) done.number ≡ Some q
          → IsMapped (stores × logs) (setting_of lines shown.opening).job.bound shown.core.front.committed q (get_or (cut_of (cuts_of (opening_in lines) shown shown.core.front.committed)) done.number 0) (get_or (cut_of (cuts_of (opening_in lines) shown (shown.core.front.committed + 1))) done.number 0) (setting_of lines shown.opening).job.partitions shown.core.reduces (place.Back f) x)
          → (o : Option Cause) → shown.core.front.stop ≡ o → or_stop shown.core.front.stop (due shown.core (map_id done.epoch done.number) f) ≡ Some cause.KeyOverflow → list_all is_here shown.core.reduces ≡ true
      stills mapped (Some w) stopped e = whole.holds.still (stopped ∙ sym (ap (λ o. or_stop o (due shown.core (map_id done.epoch done.number) f)) stopped) ∙ e)
      stills mapped None run e = absurd (due_stops mapped run cause.KeyOverflow e None)

  -- and where a log stopped the desk, that log counts a fault
  pub map_faulty : (old x : PartLog L) → (may : May shown.scope shown.core (entry.Report (map_id done.epoch done.number) (fault_of (cause_of_feed done.stream done.part) done.outcome))) → get_elem? load.part_logs.items done.number ≡ some old → x.log ≡ Some done.log
      → (after shown.scope shown.core (entry.Report (map_id done.epoch done.number) (fault_of (cause_of_feed done.stream done.part) done.outcome))).front.stop ≡ Some cause.LogFault
      → HasFaulty faults (set shown.core.maps done.number (place.Back (fault_of (cause_of_feed done.stream done.part) done.outcome))) (set load.part_logs.items done.number x)
  map_faulty old x may here log stopped = faulty_by shown.core.front.stop (due_stop (set shown.core.maps done.number (place.Back f))) before now stopped
    where
      f : Option Cause
      f = fault_of (cause_of_feed done.stream done.part) done.outcome

      not_both : some place.Away ≡ some (place.Back (Some cause.LogFault)) → ⊥
      not_both e = cc

      before : shown.core.front.stop ≡ Some cause.LogFault → HasFaulty faults (set shown.core.maps done.number (place.Back f)) (set load.part_logs.items done.number x)
      before e =
          let was = whole.faulty e in
          let other : was.at ≡ done.number → ⊥ = λ same. not_both (sym may.2 ∙ ap (λ k. get_elem? shown.core.maps k) (sym same) ∙ was.here) in record {
            at = was.at;
            part_log = was.part_log;
            log = was.log;
            here = put_else shown.core.maps done.number was.at (place.Back f) other ∙ was.here;
            part_log_is = put_else load.part_logs.items done.number was.at x other ∙ was.part_log_is;
            log_is = was.log_is;
            counted = was.counted;
          }

      now : shown.core.front.stop ≡ None → due_stop (set shown.core.maps done.number (place.Back f)) ≡ Some cause.LogFault → HasFaulty faults (set shown.core.maps done.number (place.Back f)) (set load.part_logs.items done.number x)
      now run is_due =
          let c = cause_counts (set shown.core.maps done.number (place.Back f)) cause.LogFault is_due in
          elim (cases_eq c.place_of done.number) [
            | inl same ↦ (
                let own : f ≡ Some cause.LogFault = ap fault_at (put_is shown.core.maps done.number (place.Back f) (place.Back (Some cause.LogFault))
                (subst (λ (k : ℕ). get_elem? (set shown.core.maps done.number (place.Back f)) k ≡ some (place.Back (Some cause.LogFault))) same c.here)) in record {
                  at = done.number;
                  part_log = x;
                  log = done.log;
                  here = put_here shown.core.maps done.number place.Away (place.Back f) may.2 ∙ ap (λ (o : Option Cause). some (place.Back o)) own;
                  part_log_is = put_here load.part_logs.items done.number old x here;
                  log_is = log;
                  counted = log_counts logs lines available answers faults task.view.bound.now task.stream task.part task.from task.to task.log done.log done.stream done.part done.outcome own is.fault;
                })
            | inr other ↦ absurd (not_calm shown.core.maps c.place_of cause.LogFault (sym (put_else shown.core.maps done.number c.place_of (place.Back f) other) ∙ c.here) refl (order.sound.calm run kind.Map))
          ]
