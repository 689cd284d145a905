-- The out task is taken back, and its rows are published.
use Rattle.std.proofs.Common.{◌≡◌, ◌≤◌, ◌+◌, ◌++◌, [], ◌∷◌, ℕ, Bool, true, false, true≢false, List, map, length, set, Option, Some, None, Result, Ok, Err, inl, inr, refl, sym, ap, ◌∙◌, subst, arith}
use Rattle.std.specs.Prelude.{is_some, IfOk, IfErr, IfSome, OnOk, OnErr, if◌then◌else◌}
use Rattle.std.proofs.lemmas.Option.{same_Some}
use Rattle.ssq_outside.specs.History.{History}
use mathlib.Core.Option.{some}
use lib.ListN.{get_elem?}
use Rattle.ssq_outside.specs.Faults.{Rises}
use Rattle.ssq_shape.specs.declared.bound.Bound.{Bound}
use Rattle.ssq_meaning.specs.Meaning.{Line, Values}
use Rattle.ssq_meaning.specs.Times.{Delay, delays}
use Rattle.ssq_water.specs.Water.{seen_at}
use Rattle.ssq_plans.specs.Records.{commit_text}
use Rattle.ssq_sink.specs.Sink.{sink_text}
use Rattle.ssq_task.specs.declared.out.OutTask.{OutTask}
use Rattle.ssq_task.specs.declared.out.Gathered.{Gathered}
use Rattle.ssq_task.specs.declared.out.GatherFault.{GatherFault}
use Rattle.ssq_task.specs.declared.out.GatherFault.TheVariants as gather
use Rattle.ssq_task.specs.declared.stages.Stages.{Stages}
use Rattle.ssq_task.specs.declared.stages.SealedEpoch.{SealedEpoch}
use Rattle.ssq_task.specs.declared.stages.Remnant.{Remnant}
use Rattle.ssq_task.specs.Lists.{joined_vecs}
use Rattle.ssq_task.specs.Gathering.{HasEpoch, GatherCause, SealCause, IsGathered}
use Rattle.ssq_feed.specs.Causes.{LogWent}
use Rattle.ssq_core.specs.Course.{Cuts}
use Rattle.ssq_course.specs.Setting.{Setting, rows_at}
use Rattle.ssq_board.specs.declared.front.Cause.{Cause}
use Rattle.ssq_board.specs.declared.front.Cause.TheVariants as cause
use Rattle.ssq_board.specs.declared.front.Entry.TheVariants as entry
use Rattle.ssq_board.specs.declared.front.Place.{Place}
use Rattle.ssq_board.specs.declared.front.Place.TheVariants as place
use Rattle.ssq_board.specs.Core.{Scope, Core, May, HasCause, is_stopped, fault_at, due, due_stop, or_stop}
use Rattle.ssq_board.proofs.Leasts.{cause_counts}
use Rattle.ssq_board.proofs.Lists.{at_length, set_length}
use Rattle.ssq_board.proofs.Keeping.{or_stop_none}
use Rattle.ssq_ledger.specs.Shown.{Shown, IsInOrder, HasRisen, cuts_of, did, answer}
use Rattle.ssq_terms.specs.Rows.{PartitionsShowRows, PartitionsCountRows}
use Rattle.ssq_desk.specs.declared.desk.Load.{Load}
use Rattle.ssq_desk.specs.declared.desk.Pending.{Pending}
use Rattle.ssq_desk.specs.declared.round.Round.{Round}
use Rattle.ssq_desk.specs.Round.{setting_of, Owns}
use Rattle.ssq_desk.specs.Tasks.{IsOutTask, out_id}
use Rattle.ssq_desk.specs.Handed.{IsOutOf}
use Rattle.ssq_desk.specs.Results.{cause_of_gather}
use Rattle.ssq_desk.specs.Contents.{AreSeen, IsPending, IsStopOf, key_in}
use Rattle.ssq_desk.specs.Whole.{IsWhole, opening_in}
use Rattle.ssq_desk.specs.Published.{AreRowsOf, IsCommitOf}
use Rattle.ssq_desk.proofs.Holding.{put_is, holds_on, holds_out, never_key}
use Rattle.ssq_desk.proofs.Handing.{moved_whole}
use Rattle.ssq_desk.proofs.Reducing.{stops_by, faulty_by}
use Rattle.ssq_desk.proofs.Settling.{disk_no_log}
use Rattle.ssq_desk.proofs.Wholes.{cause_stops, cuts_then, stopped_whole, with_pending}

-- ---- the files of the epoch

module _ {S F : Type 0} (owned stages : Type 0) (so : owned → stages) (written : S → List ℕ) (sealed : F → List ℕ) (faults : S → ℕ) (s : Setting) (cuts : Cuts) (e : ℕ) (task : OutTask S F) (done : Gathered S F)
    (of : IsOutTask owned written s cuts e task) (is : IsGathered stages written sealed faults task done) (files : SealedEpoch F) (brought : done.outcome ≡ Ok files) where
  has_epoch : owned → HasEpoch stages written sealed faults task files
  has_epoch t = subst (λ (o : Result (SealedEpoch F) (GatherFault × Remnant S F)). IfOk o (HasEpoch stages written sealed faults task)) brought (is.files (so t))

  -- the rows are those of the epoch
  pub rows_are : PartitionsShowRows → 1 ≤ s.job.partitions → owned → sealed files.rows ≡ rows_at s cuts e
  rows_are show many t =
      (has_epoch t).rows ∙ ap (λ (l : List ℕ). l ++ sink_text task.view.bound.now (joined_vecs task.rows.items)) (of.rows_empty t)
      ∙ ap (λ (query : Bound). sink_text query (joined_vecs task.rows.items)) of.view.bound
      ∙ show s cuts e (map (λ rows. rows.items) task.rows.items) many (of.rows t)

  -- and the commit is the epoch's
  pub commit_is : PartitionsCountRows → 1 ≤ s.job.partitions → IsPending owned sealed s cuts e (record { commit = files.commit; seen = done.seen; count = files.count })
  commit_is counts many = record {
    commit = λ t. (has_epoch t).commit ∙ ap (λ (l : List ℕ). l ++ commit_text (record { epoch = task.epoch; seen = map (λ (d : Delay). record { stream = d.0; time = seen_at task.seen d.0 }) (delays task.view.bound.now) })) (of.commit_empty t)
        ∙ (let query = of.view.bound in let epoch = of.epoch in let times = of.times.are t in λ i. commit_text (record { epoch = epoch i; seen = map (λ (d : Delay). record { stream = d.0; time = times d.0 i }) (delays (query i)) }));
    times = subst (AreSeen owned s cuts (e + 1)) (sym is.seen) of.times;
    rows = λ t. subst (λ (o : Result (SealedEpoch F) (GatherFault × Remnant S F)). IfOk o (λ files. files.count ≡ length (joined_vecs task.rows.items))) brought is.count
        ∙ counts s cuts e (map (λ rows. rows.items) task.rows.items) many (of.rows t);
  }

-- ---- what is held

-- a key's Stop was there before
still_by : {P : Type 0} (old more : Option Cause) → (old ≡ Some cause.KeyOverflow → P) → (more ≡ Some cause.KeyOverflow → ⊥) → or_stop old (if is_stopped old then None else more) ≡ Some cause.KeyOverflow → P
still_by None more before own is = absurd (own is)
still_by (Some f) more before own is = before is

-- the Stop that the out task's report brings about is for its own cause
out_stops : (outs : List Place) (f : Option Cause) (g : Cause) → length outs ≤ 1 → due_stop (set outs 0 (place.Back f)) ≡ Some g → f ≡ Some g
out_stops outs f g few is =
    let c = cause_counts (set outs 0 (place.Back f)) g is in
    let less = at_length (set outs 0 (place.Back f)) c.place_of (place.Back (Some g)) c.here in
    let first : c.place_of ≡ 0 = (let count = set_length outs 0 (place.Back f) in omega (arith, less, few, count)) in
    ap fault_at (put_is outs 0 (place.Back f) (place.Back (Some g)) (subst (λ (k : ℕ). get_elem? (set outs 0 (place.Back f)) k ≡ some (place.Back (Some g))) first c.here))

may_stop : (reads owned : Type 0) (s : Setting) (cuts : Cuts) (e : ℕ) (r : Scope) (c : Core) (f : Option Cause) (g : Cause) → IfSome f (HasCause r c) → f ≡ Some g → (key : Option Values) → IsStopOf reads owned s cuts e key g
may_stop reads owned s cuts e r c f g has is = cause_stops reads owned s cuts e r c g (subst (λ (o : Option Cause). IfSome o (HasCause r c)) is has)

module _ {D L F : Type 0} (stores logs : Type 0) (history : D → History) (lines : L → List Line) (sealed : F → List ℕ) (shown now : Shown D (Round L)) (disk : D) (epoch : ℕ) (f : Option Cause) (reported : now ≡ did shown disk (entry.Report (out_id epoch) f ∷ [])) where
  -- the cuts stay as they were by a report
  cuts_kept : cuts_of (opening_in lines) (did shown disk (entry.Report (out_id epoch) f ∷ [])) ≡ cuts_of (opening_in lines) shown
  cuts_kept = cuts_then (opening_in lines shown.opening) shown.scope shown.history (entry.Report (out_id epoch) f)

  pub rows_kept : (file : F) → AreRowsOf stores logs history lines sealed shown file → AreRowsOf stores logs history lines sealed now file
  rows_kept file are = subst (λ (x : Shown D (Round L)). AreRowsOf stores logs history lines sealed x file) (sym reported)
      (λ t. are t ∙ ap (λ (cuts : Cuts). rows_at (setting_of lines shown.opening) cuts shown.core.front.committed) (sym cuts_kept))

  pub commit_kept : (p : Pending F) → IsCommitOf stores logs history lines sealed shown p → IsCommitOf stores logs history lines sealed now p
  commit_kept p is = subst (λ (x : Shown D (Round L)). IsCommitOf stores logs history lines sealed x p) (sym reported)
      (subst (λ (cuts : Cuts). IsPending (Owns stores logs history lines shown) sealed (setting_of lines shown.opening) cuts shown.core.front.committed p) (sym cuts_kept) is)

module _ {D L S F : Type 0} (stores logs : Type 0) (history : D → History) (lines : L → List Line) (available : L → ℕ) (answers : L → List ℕ) (faults : L → ℕ) (written : S → List ℕ) (sealed : F → List ℕ) (shown : Shown D (Round L)) (load : Load L S F)
    (whole : IsWhole stores logs history lines available answers faults written sealed shown load) where
  -- the files are those of the epoch that runs
  pub rows_right : PartitionsShowRows → (stages : Type 0) (so : Owns stores logs history lines shown → stages) (faults : S → ℕ) (task : OutTask S F) (done : Gathered S F) → IsOutOf stores logs history lines written shown task → IsGathered stages written sealed faults task done → (files : SealedEpoch F) → done.outcome ≡ Ok files
      → AreRowsOf stores logs history lines sealed shown files.rows
  rows_right show stages so faults task done of is files brought t = rows_are (Owns stores logs history lines shown) stages so written sealed faults (setting_of lines shown.opening) (cuts_of (opening_in lines) shown) shown.core.front.committed task done of is files brought
      show whole.round.some_partitions t

  pub commit_right : PartitionsCountRows → (stages : Type 0) (so : Owns stores logs history lines shown → stages) (faults : S → ℕ) (task : OutTask S F) (done : Gathered S F) → IsOutOf stores logs history lines written shown task → IsGathered stages written sealed faults task done → (files : SealedEpoch F) → done.outcome ≡ Ok files
      → IsCommitOf stores logs history lines sealed shown (record { commit = files.commit; seen = done.seen; count = files.count })
  commit_right counts stages so faults task done of is files brought = commit_is (Owns stores logs history lines shown) stages so written sealed faults (setting_of lines shown.opening) (cuts_of (opening_in lines) shown) shown.core.front.committed task done of is files brought
      counts whole.round.some_partitions

  -- what is held once the out task is back
  pub out_back : (order : IsInOrder shown.scope shown.core) (disk : D) (epoch : ℕ) (f : Option Cause) → May shown.scope shown.core (entry.Report (out_id epoch) f) → IfSome f (HasCause shown.scope shown.core)
      → IsWhole stores logs history lines available answers faults written sealed (did shown disk (entry.Report (out_id epoch) f ∷ [])) load
  out_back order disk epoch f may has =
      let s : Setting = setting_of lines shown.opening in
      let cuts : Cuts = cuts_of (opening_in lines) shown in
      let old : Option Cause = shown.core.front.stop in
      let more : Option Cause = due_stop (set shown.core.outs 0 (place.Back f)) in
      moved_whole stores logs history lines available answers faults written sealed shown load whole disk (entry.Report (out_id epoch) f) load (λ cuts c. refl) refl refl refl refl whole.told whole.told_room
      (λ stopped. faulty_by old more (λ e. whole.faulty e) (λ run is_due. absurd (no_log (out_stops shown.core.outs f cause.LogFault order.sound.outs is_due))) stopped)
      (holds_out (stores × logs) (Owns stores logs history lines shown) lines available (LogWent logs lines available answers faults) shown.opening.logs.items written sealed s cuts shown.scope.available shown.core (or_stop old (if is_stopped old then None else more)) (place.Back f) load.part_logs.items load.shares.items load.shares.items load.held.items load.out load.out load.seen load.pending
      (or_stop_none old (if is_stopped old then None else more)) whole.holds back_waits refl
      (λ run opened. elim (whole.holds.epoch run opened).last [ inl waits ↦ absurd (waits_away (sym waits ∙ may.2)) | inr fine ↦ fine ])
      (still_by old more whole.holds.still (λ is_due. never_key (stores × logs) (Owns stores logs history lines shown) s cuts shown.core.front.committed cause.KeyOverflow (may_stop (stores × logs) (Owns stores logs history lines shown) s cuts shown.core.front.committed shown.scope shown.core f cause.KeyOverflow has (out_stops shown.core.outs f cause.KeyOverflow order.sound.outs is_due)) refl))
      (λ g stopped. stops_by (stores × logs) (Owns stores logs history lines shown) s cuts shown.core.front.committed (key_in load.shares.items) old more g stopped whole.holds.stop
      (λ run is_due. may_stop (stores × logs) (Owns stores logs history lines shown) s cuts shown.core.front.committed shown.scope shown.core f g has (out_stops shown.core.outs f g order.sound.outs is_due) (key_in load.shares.items))))
    where
      no_log : f ≡ Some cause.LogFault → ⊥
      no_log is = subst (λ (o : Option Cause). IfSome o (HasCause shown.scope shown.core)) is has

      back_waits : place.Back f ≡ place.Waits → ⊥
      back_waits e = cc

      waits_away : some place.Waits ≡ some place.Away → ⊥
      waits_away e = cc

  -- its rows are published, and its commit is kept
  pub published_whole : (disk : D) (p : Pending F) → May shown.scope shown.core (entry.OutFile shown.core.front.committed) → IsCommitOf stores logs history lines sealed shown p
      → IsWhole stores logs history lines available answers faults written sealed (did shown disk (entry.OutFile shown.core.front.committed ∷ [])) (with_pending load (Some p))
  published_whole disk p may is =
      moved_whole stores logs history lines available answers faults written sealed shown load whole disk (entry.OutFile shown.core.front.committed) (with_pending load (Some p)) (λ cuts c. refl) refl refl refl refl whole.told whole.told_room (λ e. absurd (true≢false (sym (ap is_some e))))
      (holds_on (stores × logs) (Owns stores logs history lines shown) lines available (LogWent logs lines available answers faults) shown.opening.logs.items written sealed (setting_of lines shown.opening) (cuts_of (opening_in lines) shown) shown.scope.available shown.core shown.core.front.fresh false true
      load.part_logs.items load.shares.items load.held.items load.out load.seen load.pending (Some p) whole.holds may.0 (λ opened written_is. (p, refl, is)))

  -- so it is once they are to be published, or that failed
  pub after_rows : {E : Type 0} (now : Shown D (Round L)) (result : Result (Unit {0}) E) (risen : Type 0) (p : Pending F) → May shown.scope shown.core (entry.OutFile shown.core.front.committed) → IsCommitOf stores logs history lines sealed shown p
      → OnOk result (now ≡ did shown now.disk (entry.OutFile shown.core.front.committed ∷ [])) → OnErr result ((now ≡ did shown now.disk (entry.Stop cause.DiskFault ∷ [])) × risen)
      → IsWhole stores logs history lines available answers faults written sealed now (with_pending load (Some p))
  after_rows now (Ok x) risen p may is done stopped = subst (λ (x : Shown D (Round L)). IsWhole stores logs history lines available answers faults written sealed x (with_pending load (Some p))) (sym done) (published_whole now.disk p may is)
  after_rows now (Err f) risen p may is done stopped = subst (λ (x : Shown D (Round L)). IsWhole stores logs history lines available answers faults written sealed x (with_pending load (Some p))) (sym stopped.0)
      (stopped_whole stores logs history lines available answers faults written sealed shown load whole now.disk cause.DiskFault (Some p) disk_no_log (λ key. tt))

-- ---- how the result is taken

-- an answer with a Stop has that of the task
answered_by : (P : Cause → Type 0) (o : Option Cause) → ((g : Cause) → o ≡ Some g → P g) → IfErr (answer o) P
answered_by P None each = tt
answered_by P (Some g) each = each g refl

due_is : (c : Core) (epoch : ℕ) (f : Option Cause) (g : Cause) → length c.outs ≤ 1 → due c (out_id epoch) f ≡ Some g → f ≡ Some g
due_is c epoch f g few is = by (is_stopped c.front.stop) is
  where
    by : (b : Bool) → (if b then None else due_stop (set c.outs 0 (place.Back f))) ≡ Some g → f ≡ Some g
    by true e = absurd (true≢false (sym (ap is_some e)))
    by false e = out_stops c.outs f g few e

gather_risen : (fault : GatherFault) (before now : ℕ) → (fault ≡ gather.DiskFault → Rises before now) → HasRisen (cause_of_gather fault) before now
gather_risen gather.DiskFault before now rises = rises refl
gather_risen gather.NoMemory before now rises = tt

-- where the task failed since the disk did, the disk counted it
pub left_risen : (c : Core) (epoch : ℕ) (fault : GatherFault) (result : Result (Unit {0}) Cause) (before now : ℕ) → length c.outs ≤ 1 → result ≡ answer (due c (out_id epoch) (Some (cause_of_gather fault)))
    → (fault ≡ gather.DiskFault → Rises before now) → IfErr result (λ g. HasRisen g before now)
left_risen c epoch fault result before now few answered rises =
    subst (λ (r : Result (Unit {0}) Cause). IfErr r (λ g. HasRisen g before now)) (sym answered)
    (answered_by (λ g. HasRisen g before now) (due c (out_id epoch) (Some (cause_of_gather fault)))
    (λ g is. subst (λ (h : Cause). HasRisen h before now) (same_Some (cause_of_gather fault) g (due_is c epoch (Some (cause_of_gather fault)) g few is)) (gather_risen fault before now rises)))

pub seal_cause : {S F : Type 0} (faults : S → ℕ) (fault : GatherFault) (before : Stages S) (left : Remnant S F) → GatherCause faults fault before left → fault ≡ gather.DiskFault → SealCause faults before left
seal_cause faults gather.DiskFault before left has is = has
seal_cause faults gather.NoMemory before left has is = absurd (other is)
  where
    other : gather.NoMemory ≡ gather.DiskFault → ⊥
    other e = cc
