-- What a desk holds once a reduce task is back.
use Rattle.std.proofs.Common.{◌≡◌, ◌<◌, ◌≤◌, ◌+◌, ◌++◌, ◌&&◌, [], ◌∷◌, ℕ, ℤ, Bool, true, false, true≢false, List, length, set, Option, Some, None, Result, Ok, Err, inl, inr, refl, sym, ap, ◌∙◌, subst, arith}
use Rattle.std.specs.Prelude.{All, is_some, IfOk, IfSome, IsErrOf, IsSomeAnd, nat_lt, if◌then◌else◌}
use Rattle.std.specs.Global.{Vec}
use Rattle.std.proofs.lemmas.List.{append-nil}
use Rattle.std.proofs.lemmas.Option.{same_Some}
use mathlib.Core.Option.{some}
use lib.ListN.{get_elem?}
use Rattle.ssq_time.specs.Time.{IsStampTime}
use Rattle.ssq_value.specs.Kind.{IfTime}
use Rattle.ssq_outside.specs.History.{History}
use Rattle.ssq_outside.specs.declared.gate.Kind.TheVariants as kind
use Rattle.ssq_outside.specs.declared.name.Name.TheVariants as name
use Rattle.ssq_meaning.specs.Epochs.{fault_between}
use Rattle.ssq_meaning.specs.Meaning.{Line}
use Rattle.ssq_task.specs.declared.partition.Held.{Held}
use Rattle.ssq_task.specs.declared.partition.ReduceTask.{ReduceTask}
use Rattle.ssq_task.specs.declared.partition.Reduced.{Reduced}
use Rattle.ssq_task.specs.declared.partition.ReducedRows.{ReducedRows}
use Rattle.ssq_task.specs.declared.partition.ReduceFault.{ReduceFault}
use Rattle.ssq_task.specs.declared.partition.ReduceFault.TheVariants as reduce
use Rattle.ssq_task.specs.declared.partition.State.{State}
use Rattle.ssq_task.specs.Reducing.{HasBrought, IsAsideAfter, IsBack, IsReduced, timely_in, written_in}
use Rattle.ssq_feed.specs.Causes.{LogWent}
use Rattle.ssq_core.specs.Course.{Cuts, truth}
use Rattle.ssq_course.specs.Setting.{Setting, cut_of, course_of, delta_at, parts_in}
use Rattle.ssq_board.specs.declared.front.Cause.{Cause}
use Rattle.ssq_board.specs.declared.front.Cause.TheVariants as cause
use Rattle.ssq_board.specs.declared.front.Entry.{Entry}
use Rattle.ssq_board.specs.declared.front.Entry.TheVariants as entry
use Rattle.ssq_board.specs.declared.front.Place.{Place}
use Rattle.ssq_board.specs.declared.front.Place.TheVariants as place
use Rattle.ssq_board.specs.Core.{Core, after, due, fault_at, is_here, is_open, is_stopped, due_stop, or_stop, with_front}
use Rattle.ssq_board.specs.Follows.{BringsNone, BringsVersion, IsOwn}
use Rattle.ssq_board.proofs.Leasts.{cause_counts}
use Rattle.ssq_board.proofs.Lists.{all_fine, at_length, set_length, there_at}
use Rattle.ssq_board.proofs.Keeping.{or_stop_none}
use Rattle.ssq_ledger.specs.Shown.{HasNone, HasVersion, IsInOrder, IsLegal, IsTrue, IsVersioned, Shown, answer, cuts_after, cuts_of, did}
use Rattle.ssq_terms.specs.Laws.{FaultsAreOfTasks}
use Rattle.ssq_terms.specs.Partitions.{BringsPartition, IsVersionOf, KeysAreLeast, PartitionsAreBrought}
use Rattle.ssq_terms.specs.Rows.{IsShownOf}
use Rattle.ssq_desk.specs.declared.desk.Load.{Load}
use Rattle.ssq_desk.specs.declared.desk.OutWork.{OutWork}
use Rattle.ssq_desk.specs.declared.desk.Pending.{Pending}
use Rattle.ssq_desk.specs.declared.desk.Share.{Share}
use Rattle.ssq_desk.specs.declared.desk.PartLog.{PartLog}
use Rattle.ssq_desk.specs.declared.round.Round.{Round}
use Rattle.ssq_desk.specs.Closing.{HasFaulty}
use Rattle.ssq_desk.specs.Contents.{Holds, IsHeldAt, IsKeyOf, IsReducedCause, IsShare, IsStopOf, key_in, keeping_in}
use Rattle.ssq_desk.specs.Handed.{IsReduceOf}
use Rattle.ssq_desk.specs.Results.{cause_of_failed, cause_of_reduce, fault_of, key_of_outcome, reduced_by}
use Rattle.ssq_desk.specs.Round.{Owns, setting_of}
use Rattle.ssq_desk.specs.Tasks.{IsReduceTask, IsStateFor, reduce_id}
use Rattle.ssq_desk.specs.Whole.{HoldsIn, IsWhole, opening_in}
use Rattle.ssq_desk.proofs.Covers.{cover}
use Rattle.ssq_desk.proofs.Handing.{moved_whole}
use Rattle.ssq_desk.proofs.Holding.{holds_reduced, put_both, put_dealt, put_reduced, with_reduce}
use Rattle.ssq_desk.proofs.Overflows.{key_stops, lines_good}
use Rattle.ssq_desk.proofs.Phases.{maps_done}
use Rattle.ssq_desk.proofs.Wholes.{rises_some}
use Rattle.ssq_desk.proofs.Reducing.{Outcome, back_held, back_rests, back_share, given_empty, given_keeps, none_due, own_brought, own_of, own_cause, own_key, own_reduced, partition_task, reduce_stops, rekeyed}

-- a Stop that was there, or one that is due now
by_stop : {P : Type 0} (old more : Option Cause) (g : Cause) → or_stop old (if is_stopped old then None else more) ≡ Some g → (old ≡ Some g → P) → (old ≡ None → more ≡ Some g → P) → P
by_stop None more g is before own = own refl is
by_stop (Some f) more g is before own = before is

-- names that are settled, or not any more
abbrev with_settled : Core → Bool → Core
with_settled c settled = with_front c (record { planned = c.front.planned; committed = c.front.committed; fresh = c.front.fresh; settled = settled; written = c.front.written; has_lines = c.front.has_lines; due = c.front.due; stop = c.front.stop })

module _ {L S F : Type 0} (reads owned : Type 0) (lines : L → List Line) (available : L → ℕ) (went : L → L → Type 0) (opened : List L) (written : S → List ℕ) (sealed : F → List ℕ) (s : Setting) (cuts : Cuts) (found : List ℕ) where
  -- what is held says nothing of that
  resettled : (c : Core) (settled : Bool) (part_logs : List (PartLog L)) (shares : List (Share S)) (held : List (Option Held)) (out : Option (OutWork S F)) (times : List (Option ℤ)) (pending : Option (Pending F))
      → Holds reads owned lines available went opened written sealed s cuts found c part_logs shares held out times pending → Holds reads owned lines available went opened written sealed s cuts found (with_settled c settled) part_logs shares held out times pending
  resettled c settled part_logs shares held out times pending h = record {
    parts = h.parts;
    partitions = h.partitions;
    keeping = h.keeping;
    logs = h.logs;
    epoch = λ run is_opened. (let e = h.epoch run is_opened in record { froms = e.froms; mapped = e.mapped; shared = e.shared; last = e.last; outs = e.outs });
    dealt = h.dealt;
    reduced = h.reduced;
    keys = h.keys;
    still = h.still;
    kept = h.kept;
    seen_so_far = h.seen_so_far;
    commit = h.commit;
    stop = h.stop;
  }

-- with another share of a partition, and with what it keeps
abbrev pub with_share : {L S F : Type 0} → Load L S F → Vec (Share S) → Vec (Option Held) → Load L S F
with_share load shares held = record { view = load.view; plans = load.plans; part_logs = load.part_logs; shares = shares; held = held; out = load.out; seen = load.seen; pending = load.pending; told = load.told; kept = load.kept }

-- A reduce task is back with its outcome, under the number of its partition: what is so of the desk, and of the task.
pub record IsBackAt {D L S F : Type 0} (stores logs : Type 0) (history : D → History) (lines : L → List Line) (available : L → ℕ) (answers : L → List ℕ) (faults : L → ℕ) (tells : Type 0) (written : S → List ℕ) (sealed : F → List ℕ) (counts : S → ℕ) (shown : Shown D (Round L)) (load : Load L S F)
    (task : ReduceTask S F) (held : Option Held) (o : Outcome S F) (epoch p : ℕ) : Type 0 where
  pub whole : IsWhole stores logs history lines available answers faults written sealed shown load
  pub legal : IsLegal (Owns stores logs history lines shown) history (opening_in lines) shown
  pub order : IsInOrder shown.scope shown.core
  pub opened : is_open shown.core ≡ true
  pub epoch_is : epoch ≡ shown.core.front.committed
  pub away : get_elem? shown.core.reduces p ≡ some place.Away
  pub laws : PartitionsAreBrought tells written sealed counts
  pub leasts : KeysAreLeast
  pub partition_is : task.partition ≡ p
  pub of : IsReduceOf stores logs history lines written shown task
  pub brought : IsReduced tells written sealed counts task (reduced_by task held o)

module _ {D L S F : Type 0} {stores logs : Type 0} {history : D → History} {lines : L → List Line} {available : L → ℕ} {answers : L → List ℕ} {faults : L → ℕ} {written : S → List ℕ} {sealed : F → List ℕ} {shown : Shown D (Round L)} {load : Load L S F}
    (whole : IsWhole stores logs history lines available answers faults written sealed shown load) (legal : IsLegal (Owns stores logs history lines shown) history (opening_in lines) shown) (order : IsInOrder shown.scope shown.core) (opened : is_open shown.core ≡ true) where
  abbrev owned : Type 0
  owned = Owns stores logs history lines shown

  abbrev c : Core
  c = shown.core

  abbrev s : Setting
  s = setting_of lines shown.opening

  abbrev e : ℕ
  e = shown.core.front.committed

  abbrev cuts : Cuts
  cuts = cuts_of (opening_in lines) shown

  -- no line of the epoch has a fault, once a reduce task is with a worker
  lines_are_good : (p : ℕ) → c.front.stop ≡ None → get_elem? c.reduces p ≡ some place.Away → owned → fault_between s.job.bound (parts_in s) (cut_of (cuts e)) (cut_of (cuts (e + 1))) ≡ None
  lines_are_good p run away t =
      lines_good (stores × logs) s cuts e c.reduces c.maps load.part_logs.items (whole.holds.epoch run opened).mapped (order.sound.maps ∙ whole.round.parts) whole.holds.parts
      (maps_done owned history (opening_in lines) shown legal p away) (t.0, t.1.0)

  module _ (leasts : KeysAreLeast) (p : ℕ) (f : Option Cause) (x : Share S) (own : Option Held) (away : get_elem? c.reduces p ≡ some place.Away) (causes : (g : Cause) → f ≡ Some g → IsReducedCause g)
      (key : IsKeyOf owned s cuts e p (place.Back f) x.key) where
    abbrev places : List Place
    places = set c.reduces p (place.Back f)

    abbrev shares : List (Share S)
    shares = set load.shares.items p x

    abbrev stop : Option Cause
    stop = or_stop c.front.stop (due c (reduce_id e p) f)

    no_key_before : c.front.stop ≡ Some cause.KeyOverflow → ⊥
    no_key_before stopped = true≢false (sym (all_fine is_here c.reduces p place.Away (whole.holds.still stopped) away))

    met : (q : ℕ) (g : Cause) → get_elem? places q ≡ some (place.Back (Some g)) → IsReducedCause g
    met = put_reduced c.reduces p (place.Back f) whole.holds.reduced (λ g back. causes g (ap fault_at back))

    due_stops : c.front.stop ≡ None → (g : Cause) → due_stop places ≡ Some g → IsStopOf (stores × logs) owned s cuts e (key_in shares) g
    due_stops run g is =
        reduce_stops (stores × logs) owned s cuts e places g (key_in shares) is met (λ of_key.
        key_stops owned s cuts e places shares (set_length c.reduces p (place.Back f) ∙ order.sound.reduces ∙ whole.round.partitions) (set_length load.shares.items p x ∙ whole.holds.partitions)
        (put_dealt c.reduces p (place.Back f) (whole.holds.dealt opened) (back_rests f)) met
        (put_both (λ q at share. IsKeyOf owned s cuts e q at share.key) c.reduces load.shares.items p (place.Back f) x (whole.holds.keys opened) key)
        (cause_counts places cause.KeyOverflow (is ∙ ap Some of_key)) (stores × logs) leasts whole.round.some_partitions (lines_are_good p run away))

    -- what is held then
    holds_back : (c.front.stop ≡ None → IsShare owned written s cuts e p (place.Back f) x) → (c.front.stop ≡ None → p < length load.held.items → IsHeldAt owned s cuts (is_open c) e p (place.Back f) own)
        → HoldsIn stores logs history lines available answers faults written sealed shown cuts (with_reduce c stop p (place.Back f)) load.part_logs.items shares (set load.held.items p own) load.out load.seen load.pending
    holds_back share held =
        holds_reduced (stores × logs) owned lines available (LogWent logs lines available answers faults) shown.opening.logs.items written sealed s cuts shown.scope.available c stop f p x own load.part_logs.items load.shares.items load.held.items load.out load.seen load.pending
        (or_stop_none c.front.stop (due c (reduce_id e p) f)) whole.holds away (λ run _. share run) held (λ _. key) causes
        (λ stopped. by_stop c.front.stop (due_stop places) cause.KeyOverflow stopped (λ before. absurd (no_key_before before)) (λ run is. ((cause_counts places cause.KeyOverflow is).first refl).0))
        (λ g stopped. by_stop c.front.stop (due_stop places) g stopped
        (λ before. rekeyed (stores × logs) owned s cuts e (key_in load.shares.items) (key_in shares) g (λ is. no_key_before (before ∙ ap Some is)) (whole.holds.stop g before))
        (λ run is. due_stops run g is))

    -- and where a log stopped the desk, that was before
    no_log : stop ≡ Some cause.LogFault → HasFaulty faults c.maps load.part_logs.items
    no_log stopped =
        by_stop c.front.stop (due_stop places) cause.LogFault stopped whole.faulty
        (λ run is. absurd (causes cause.LogFault (none_due c.reduces p f cause.LogFault refl (order.sound.calm run kind.Reduce) is)))

  module _ {tells : Type 0} {counts : S → ℕ} (laws : PartitionsAreBrought tells written sealed counts) (leasts : KeysAreLeast) (task : ReduceTask S F) (held : Option Held) (o : Outcome S F) (of : IsReduceOf stores logs history lines written shown task) (is : IsReduced tells written sealed counts task (reduced_by task held o)) where
    brings : owned → BringsPartition tells written sealed s cuts e task (reduced_by task held o)
    brings t =
        let own = t.1.1 in
        laws s s.job.bound own.asks own.lens cuts e task (reduced_by task held o) own.setting own.lines (cover stores logs history lines available answers faults written sealed shown load whole legal order opened own) (partition_task owned written s cuts e task of t) is

    own_all : owned → own_of s cuts e task.partition o
    own_all t = own_brought tells written sealed s cuts e task.partition task.state held o (brings t).brought (brings t).failed

    -- the result is the task's own
    pub right : FaultsAreOfTasks → owned → IsOwn (course_of s cuts) (reduce_id e task.partition) (fault_of cause_of_failed o)
    right faulty t = own_reduced s cuts e task.partition o faulty (own_all t)

    -- what is kept of its partition is there, or it keeps nothing
    pub keeps_nothing : held ≡ None → length load.held.items ≤ task.partition
    keeps_nothing none = by task.state of.state is.held
      where
        by : (state : Option (State S)) → IsStateFor owned written s cuts e task.partition state → IsBack state held → length load.held.items ≤ task.partition
        by None given back = omega (arith, given, whole.holds.keeping)
        by (Some state) given back = absurd (subst (λ (held : Option Held). IsBack (Some state) held) none back)

    pub keeps_some : IfSome held (λ held. task.partition < length load.held.items)
    keeps_some = by task.state held of.state is.held
      where
        by : (state : Option (State S)) (held : Option Held) → IsStateFor owned written s cuts e task.partition state → IsBack state held → IfSome held (λ held. task.partition < length load.held.items)
        by state None given back = tt
        by None (Some held) given back = absurd (true≢false (ap is_some back))
        by (Some state) (Some held) given back = omega (arith, given.0, whole.holds.keeping)

    shown_of : (o : Outcome S F) → (owned → IfOk o (IsVersionOf tells written sealed s cuts e task.partition task.state held)) → IfOk o (λ own. owned → IsShownOf s cuts e task.partition own.rows.items)
    shown_of (Ok own) all = λ t. (all t).shown
    shown_of (Err failed) all = tt

    printable_of : (o : Outcome S F) → IfOk o (HasBrought tells written sealed task.view.bound.now task.epoch task.partition task.watermark (timely_in task) task.state held) → IfOk o (λ own. All (All (IfTime IsStampTime)) own.rows.items)
    printable_of (Ok own) all = all.printable
    printable_of (Err failed) all = tt

    module _ (f : Option Cause) (x : Share S) (away : get_elem? c.reduces task.partition ≡ some place.Away) (fault : f ≡ fault_of cause_of_failed o) (key_is : x.key ≡ key_of_outcome o) (rows_are : IfOk o (λ own. x.rows ≡ own.rows)) where
      causes : (g : Cause) → f ≡ Some g → IsReducedCause g
      causes g met = own_cause o g (sym fault ∙ met)

      key : IsKeyOf owned s cuts e task.partition (place.Back f) x.key
      key = own_key owned s cuts e task.partition o f x.key fault own_all key_is

      holds : HoldsIn stores logs history lines available answers faults written sealed shown cuts (with_reduce c (or_stop c.front.stop (due c (reduce_id e task.partition) f)) task.partition (place.Back f)) load.part_logs.items (set load.shares.items task.partition x)
          (set load.held.items task.partition held) load.out load.seen load.pending
      holds =
          holds_back leasts task.partition f x held away causes key
          (λ run. back_share owned written s cuts e task.partition o f x (shown_of o (λ t. (brings t).brought)) (printable_of o is.brought) fault rows_are)
          (λ run less. subst (λ (b : Bool). IsHeldAt owned s cuts b e task.partition (place.Back f) held) (sym opened)
          (back_held owned tells written sealed counts s cuts e task held o f of is brings fault (omega (arith, less, whole.holds.keeping))))

      -- it is reported
      pub reported : (disk : D) (epoch : ℕ) (shares : Vec (Share S)) (helds : Vec (Option Held)) → shares.items ≡ set load.shares.items task.partition x → helds.items ≡ set load.held.items task.partition held
          → IsWhole stores logs history lines available answers faults written sealed (did shown disk (entry.Report (reduce_id epoch task.partition) f ∷ [])) (with_share load shares helds)
      reported disk epoch shares helds shares_are helds_are =
          moved_whole stores logs history lines available answers faults written sealed shown load whole disk (entry.Report (reduce_id epoch task.partition) f) (with_share load shares helds) (λ cuts c. refl) refl refl refl refl whole.told whole.told_room
          (no_log leasts task.partition f x held away causes key)
          (subst (λ (l : List (Option Held)). HoldsIn stores logs history lines available answers faults written sealed shown cuts (after shown.scope c (entry.Report (reduce_id epoch task.partition) f)) load.part_logs.items shares.items l load.out load.seen load.pending) (sym helds_are)
          (subst (λ (l : List (Share S)). HoldsIn stores logs history lines available answers faults written sealed shown cuts (after shown.scope c (entry.Report (reduce_id epoch task.partition) f)) load.part_logs.items l (set load.held.items task.partition held) load.out load.seen load.pending) (sym shares_are) holds))

  -- a reduce task is back with its rows
  module _ {tells : Type 0} {counts : S → ℕ} (laws : PartitionsAreBrought tells written sealed counts) (leasts : KeysAreLeast) (task : ReduceTask S F) (held : Option Held) (brought : ReducedRows F) (of : IsReduceOf stores logs history lines written shown task) (is : IsReduced tells written sealed counts task (reduced_by task held (Ok brought))) where
    -- it brings a delta exactly where its partition keeps state
    seals_is : nat_lt task.partition (keeping_in s) ≡ is_some brought.delta
    seals_is = given_keeps owned written s cuts e task.partition task.state of.state ∙ sym is.brought.delta

    pub bare : brought.delta ≡ None → BringsNone (course_of s cuts) (reduce_id e task.partition) None
    bare none = seals_is ∙ ap is_some none

    pub version : FaultsAreOfTasks → (owned → tells) → (file : F) → brought.delta ≡ Some file → owned → BringsVersion (course_of s cuts) (reduce_id e task.partition) × (sealed file ≡ truth (course_of s cuts) (name.Delta task.partition e))
    version faulty so file there t =
        let own = (brings laws leasts task held (Ok brought) of is t).brought in
        let bytes : sealed file ≡ written_in written task.state ++ delta_at s cuts task.partition e = subst (λ (o : Option F). IfSome o (λ file. sealed file ≡ written_in written task.state ++ delta_at s cuts task.partition e)) there (own.changed (so t)) in (
          (right laws leasts task held (Ok brought) of is faulty t, seals_is ∙ ap is_some there),
          bytes ∙ ap (λ (before : List ℕ). before ++ delta_at s cuts task.partition e) (given_empty owned written s cuts e task.partition task.state of.state t),
        )

    module _ (x : Share S) (away : get_elem? c.reduces task.partition ≡ some place.Away) (key_is : x.key ≡ None) (rows_are : x.rows ≡ brought.rows) (disk : D) (epoch : ℕ) (shares : Vec (Share S)) (helds : Vec (Option Held))
        (shares_are : shares.items ≡ set load.shares.items task.partition x) (helds_are : helds.items ≡ set load.held.items task.partition held) where
      -- its delta is published
      pub versioned : IsWhole stores logs history lines available answers faults written sealed (did shown disk (entry.Version (reduce_id epoch task.partition) ∷ [])) (with_share load shares helds)
      versioned =
          moved_whole stores logs history lines available answers faults written sealed shown load whole disk (entry.Version (reduce_id epoch task.partition)) (with_share load shares helds) (λ cuts c. refl) refl refl refl refl whole.told whole.told_room
          (no_log leasts task.partition None x held away (causes laws leasts task held (Ok brought) of is None x away refl key_is rows_are) (key laws leasts task held (Ok brought) of is None x away refl key_is rows_are))
          (subst (λ (l : List (Option Held)). HoldsIn stores logs history lines available answers faults written sealed shown cuts (after shown.scope c (entry.Version (reduce_id epoch task.partition))) load.part_logs.items shares.items l load.out load.seen load.pending) (sym helds_are)
          (subst (λ (l : List (Share S)). HoldsIn stores logs history lines available answers faults written sealed shown cuts (after shown.scope c (entry.Version (reduce_id epoch task.partition))) load.part_logs.items l (set load.held.items task.partition held) load.out load.seen load.pending) (sym shares_are)
          (resettled (stores × logs) owned lines available (LogWent logs lines available answers faults) shown.opening.logs.items written sealed s cuts shown.scope.available
          (with_reduce c (or_stop c.front.stop (due c (reduce_id e task.partition) None)) task.partition (place.Back None)) (is_stopped c.front.stop && c.front.settled) load.part_logs.items (set load.shares.items task.partition x) (set load.held.items task.partition held) load.out load.seen load.pending
          (holds laws leasts task held (Ok brought) of is None x away refl key_is rows_are))))

      -- that failed
      pub missed : IsWhole stores logs history lines available answers faults written sealed (did shown disk (entry.Missed (reduce_id epoch task.partition) ∷ [])) (with_share load shares helds)
      missed =
          moved_whole stores logs history lines available answers faults written sealed shown load whole disk (entry.Missed (reduce_id epoch task.partition)) (with_share load shares helds) (λ cuts c. refl) refl refl refl refl whole.told whole.told_room
          (λ stopped. absurd (subst IsReducedCause (same_Some cause.DiskFault cause.LogFault stopped) tt))
          (subst (λ (l : List (Option Held)). HoldsIn stores logs history lines available answers faults written sealed shown cuts (after shown.scope c (entry.Missed (reduce_id epoch task.partition))) load.part_logs.items shares.items l load.out load.seen load.pending) (sym helds_are)
          (subst (λ (l : List (Share S)). HoldsIn stores logs history lines available answers faults written sealed shown cuts (after shown.scope c (entry.Missed (reduce_id epoch task.partition))) load.part_logs.items l (set load.held.items task.partition held) load.out load.seen load.pending) (sym shares_are)
          (holds_reduced (stores × logs) owned lines available (LogWent logs lines available answers faults) shown.opening.logs.items written sealed s cuts shown.scope.available c (Some cause.DiskFault) (Some cause.DiskFault) task.partition x held load.part_logs.items load.shares.items load.held.items load.out load.seen load.pending
          (λ none. absurd (true≢false (ap is_some none))) whole.holds away
          (λ run _. back_share owned written s cuts e task.partition failed (Some cause.DiskFault) x tt tt refl tt)
          (λ run less here. absurd (here tt)) (λ _. key_is) (λ g met. subst IsReducedCause (same_Some cause.DiskFault g met) tt)
          (λ stopped. absurd (true≢false (sym (ap is_key stopped))))
          (λ g stopped. subst (IsStopOf (stores × logs) owned s cuts e (key_in (set load.shares.items task.partition x))) (same_Some cause.DiskFault g stopped) tt))))
        where
          failed : Outcome S F
          failed = Err (reduce.DiskFault, None)

          is_key : Option Cause → Bool
          is_key (Some cause.KeyOverflow) = true
          is_key _ = false

-- the same, by the number under which a task comes back
module _ {D L S F : Type 0} {stores logs : Type 0} {history : D → History} {lines : L → List Line} {available : L → ℕ} {answers : L → List ℕ} {faults : L → ℕ} {tells : Type 0} {written : S → List ℕ} {sealed : F → List ℕ} {counts : S → ℕ} {shown : Shown D (Round L)} {load : Load L S F} {task : ReduceTask S F}
    {held : Option Held} {epoch p : ℕ} where
  module _ {o : Outcome S F} (back : IsBackAt stores logs history lines available answers faults tells written sealed counts shown load task held o epoch p) where
    -- the share of a task that is with a worker is there, and no key is told of it
    pub share_away : (old : Share S) × (get_elem? load.shares.items p ≡ some old) × (old.key ≡ None)
    share_away =
        let less = at_length shown.core.reduces p place.Away back.away in
        let old = there_at load.shares.items p (omega (arith, less, back.order.sound.reduces, back.whole.round.partitions, back.whole.holds.partitions)) in
        (old.0, old.1, back.whole.holds.keys back.opened p place.Away old.0 back.away old.1)

    pub share_below : p < length load.shares.items
    share_below = at_length load.shares.items p share_away.0 share_away.1

    pub right_at : FaultsAreOfTasks → Owns stores logs history lines shown → IsTrue (opening_in lines) shown (reduce_id epoch p) (fault_of cause_of_failed o)
    right_at faulty t =
        subst (λ (n : ℕ). IsOwn (course_of (setting_of lines shown.opening) (cuts_of (opening_in lines) shown)) (reduce_id n p) (fault_of cause_of_failed o)) (sym back.epoch_is)
        (subst (λ (q : ℕ). IsOwn (course_of (setting_of lines shown.opening) (cuts_of (opening_in lines) shown)) (reduce_id shown.core.front.committed q) (fault_of cause_of_failed o)) back.partition_is
        (right back.whole back.legal back.order back.opened back.laws back.leasts task held o back.of back.brought faulty t))

    pub is_there : IfSome held (λ held. p < length load.held.items)
    is_there = subst (λ (q : ℕ). IfSome held (λ held. q < length load.held.items)) back.partition_is (keeps_some back.whole back.legal back.order back.opened back.laws back.leasts task held o back.of back.brought)

    pub is_nowhere : held ≡ None → length load.held.items ≤ p
    is_nowhere none = subst (λ (q : ℕ). length load.held.items ≤ q) back.partition_is (keeps_nothing back.whole back.legal back.order back.opened back.laws back.leasts task held o back.of back.brought none)

    pub reported_at : (f : Option Cause) (x : Share S) (disk : D) (shares : Vec (Share S)) (helds : Vec (Option Held)) → f ≡ fault_of cause_of_failed o → x.key ≡ key_of_outcome o
        → IfOk o (λ own. x.rows ≡ own.rows) → shares.items ≡ set load.shares.items p x → helds.items ≡ set load.held.items p held
        → IsWhole stores logs history lines available answers faults written sealed (did shown disk (entry.Report (reduce_id epoch p) f ∷ [])) (with_share load shares helds)
    reported_at f x disk shares helds fault key_is rows_are shares_are helds_are =
        subst (λ (q : ℕ). get_elem? shown.core.reduces q ≡ some place.Away → shares.items ≡ set load.shares.items q x → helds.items ≡ set load.held.items q held
        → IsWhole stores logs history lines available answers faults written sealed (did shown disk (entry.Report (reduce_id epoch q) f ∷ [])) (with_share load shares helds)) back.partition_is
        (λ away shares_are helds_are. reported back.whole back.legal back.order back.opened back.laws back.leasts task held o back.of back.brought f x away fault key_is rows_are disk epoch shares helds shares_are helds_are) back.away shares_are helds_are

  module _ {brought : ReducedRows F} (back : IsBackAt stores logs history lines available answers faults tells written sealed counts shown load task held (Ok brought) epoch p) where
    pub bare_at : brought.delta ≡ None → HasNone (opening_in lines) shown (reduce_id epoch p) None
    bare_at none =
        subst (λ (n : ℕ). BringsNone (course_of (setting_of lines shown.opening) (cuts_of (opening_in lines) shown)) (reduce_id n p) None) (sym back.epoch_is)
        (subst (λ (q : ℕ). BringsNone (course_of (setting_of lines shown.opening) (cuts_of (opening_in lines) shown)) (reduce_id shown.core.front.committed q) None) back.partition_is
        (bare back.whole back.legal back.order back.opened back.laws back.leasts task held brought back.of back.brought none))

    pub version_at : FaultsAreOfTasks → (Owns stores logs history lines shown → tells) → (file : F) → brought.delta ≡ Some file → Owns stores logs history lines shown → HasVersion (opening_in lines) shown (reduce_id epoch p) (sealed file)
    version_at faulty so file there t =
        let course = course_of (setting_of lines shown.opening) (cuts_of (opening_in lines) shown) in
        subst (λ (n : ℕ). BringsVersion course (reduce_id n p) × (sealed file ≡ truth course (name.Delta p n))) (sym back.epoch_is)
        (subst (λ (q : ℕ). BringsVersion course (reduce_id shown.core.front.committed q) × (sealed file ≡ truth course (name.Delta q shown.core.front.committed))) back.partition_is
        (version back.whole back.legal back.order back.opened back.laws back.leasts task held brought back.of back.brought faulty so file there t))

    pub versioned_at : (x : Share S) (now : Shown D (Round L)) (shares : Vec (Share S)) (helds : Vec (Option Held)) (result : Result (Unit {0}) Cause) (risen : Type 0) → x.key ≡ None → x.rows ≡ brought.rows
        → shares.items ≡ set load.shares.items p x → helds.items ≡ set load.held.items p held → IsVersioned shown now (reduce_id epoch p) result risen
        → IsWhole stores logs history lines available answers faults written sealed now (with_share load shares helds)
    versioned_at x now shares helds result risen key_is rows_are shares_are helds_are did_is =
        subst (λ (q : ℕ). get_elem? shown.core.reduces q ≡ some place.Away → shares.items ≡ set load.shares.items q x → helds.items ≡ set load.held.items q held → IsVersioned shown now (reduce_id epoch q) result risen
        → IsWhole stores logs history lines available answers faults written sealed now (with_share load shares helds)) back.partition_is
        (λ away shares_are helds_are did_is. elim did_is [
          | inl d ↦ subst (λ (x : Shown D (Round L)). IsWhole stores logs history lines available answers faults written sealed x (with_share load shares helds)) (sym d.0)
              (versioned back.whole back.legal back.order back.opened back.laws back.leasts task held brought back.of back.brought x away key_is rows_are now.disk epoch shares helds shares_are helds_are)
          | inr d ↦ subst (λ (x : Shown D (Round L)). IsWhole stores logs history lines available answers faults written sealed x (with_share load shares helds)) (sym d.1)
              (missed back.whole back.legal back.order back.opened back.laws back.leasts task held brought back.of back.brought x away key_is rows_are now.disk epoch shares helds shares_are helds_are)
        ]) back.away shares_are helds_are did_is

-- the outcome of a task, with its own number
pub reduced_as : {S F : Type 0} (tells : Type 0) (written : S → List ℕ) (sealed : F → List ℕ) (counts : S → ℕ) (task : ReduceTask S F) (done : Reduced S F) (o : Outcome S F) → done.outcome ≡ o → IsReduced tells written sealed counts task done → IsReduced tells written sealed counts task (reduced_by task done.held o)
reduced_as {S} {F} tells written sealed counts task done o brought is =
    subst (λ (o : Outcome S F). IsReduced tells written sealed counts task (reduced_by task done.held o)) brought (record { view = refl; epoch = refl; partition = refl; watermark = refl; held = is.held; brought = is.brought; failed = is.failed })

-- why a Stop is a fault of the disk, that a reduce task without a fault brings about: it is none
pub none_risen : (c : Core) (epoch p : ℕ) → (c.front.stop ≡ None → due_stop c.reduces ≡ None) → due c (reduce_id epoch p) None ≡ Some cause.DiskFault → ⊥
none_risen c epoch p calm is = by c.front.stop refl is
  where
    by : (o : Option Cause) → c.front.stop ≡ o → (if is_stopped o then None else due_stop (set c.reduces p (place.Back None))) ≡ Some cause.DiskFault → ⊥
    by None run is = true≢false (sym (ap is_some (none_due c.reduces p None cause.DiskFault refl (calm run) is)))
    by (Some g) run is = true≢false (sym (ap is_some is))

-- a fault of the disk that a task brings about is its own
pub own_risen : (c : Core) (epoch p : ℕ) (f : Cause) → (c.front.stop ≡ None → due_stop c.reduces ≡ None) → due c (reduce_id epoch p) (Some f) ≡ Some cause.DiskFault → f ≡ cause.DiskFault
own_risen c epoch p f calm is = by c.front.stop refl is
  where
    by : (o : Option Cause) → c.front.stop ≡ o → (if is_stopped o then None else due_stop (set c.reduces p (place.Back (Some f)))) ≡ Some cause.DiskFault → f ≡ cause.DiskFault
    by None run is = same_Some f cause.DiskFault (none_due c.reduces p (Some f) cause.DiskFault refl (calm run) is)
    by (Some g) run is = absurd (true≢false (sym (ap is_some is)))

-- the Stop that an answer tells
stop_of : (o : Option Cause) (f : Cause) → answer o ≡ Err f → o ≡ Some f
stop_of o f is = own o ∙ ap err_of is
  where
    err_of : Result (Unit {0}) Cause → Option Cause
    err_of (Ok x) = None
    err_of (Err g) = Some g

    own : (o : Option Cause) → o ≡ err_of (answer o)
    own None = refl
    own (Some g) = refl

module _ (c : Core) (epoch p : ℕ) (calm : c.front.stop ≡ None → due_stop c.reduces ≡ None) (result : Result (Unit {0}) Cause) (is : IsErrOf result cause.DiskFault) where
  -- a task that is back without a fault brings none of the disk about
  pub never_risen : result ≡ answer (due c (reduce_id epoch p) None) → ⊥
  never_risen answered = none_risen c epoch p calm (stop_of (due c (reduce_id epoch p) None) cause.DiskFault (sym answered ∙ is))

  pub failed_risen : (f : Cause) → result ≡ answer (due c (reduce_id epoch p) (Some f)) → f ≡ cause.DiskFault
  failed_risen f answered = own_risen c epoch p f calm (stop_of (due c (reduce_id epoch p) (Some f)) cause.DiskFault (sym answered ∙ is))

pub versioned_risen : {D O : Type 0} (old new : Shown D O) (epoch p : ℕ) → (old.core.front.stop ≡ None → due_stop old.core.reduces ≡ None) → (result : Result (Unit {0}) Cause) (risen : Type 0) → IsErrOf result cause.DiskFault → IsVersioned old new (reduce_id epoch p) result risen → risen
versioned_risen old new epoch p calm result risen is did_is = elim did_is [ inl d ↦ absurd (never_risen old.core epoch p calm result is d.1) | inr d ↦ d.3 ]

-- where the disk failed the file aside counted it
pub aside_risen : {S : Type 0} (faults : S → ℕ) (fault : ReduceFault) (state : Option (State S)) (left : Option S) → IsAsideAfter faults fault state left → cause_of_reduce fault ≡ cause.DiskFault → IsSomeAnd left (λ stage. 0 < faults stage)
aside_risen faults (reduce.Overflow own) state left aside is = absurd (subst is_outside is tt)
  where
    is_outside : Cause → Type 0
    is_outside cause.DiskFault = ⊥
    is_outside _ = Unit {0}
aside_risen faults reduce.NoMemory state left aside is = absurd (subst is_outside is tt)
  where
    is_outside : Cause → Type 0
    is_outside cause.DiskFault = ⊥
    is_outside _ = Unit {0}
aside_risen faults reduce.DiskFault None left aside is = absurd (subst is_other aside.0 tt)
  where
    is_other : ReduceFault → Type 0
    is_other reduce.NoMemory = ⊥
    is_other _ = Unit {0}
aside_risen faults reduce.DiskFault (Some state) None aside is = absurd aside
aside_risen faults reduce.DiskFault (Some state) (Some stage) aside is = rises_some (faults state.stage) (faults stage) aside

-- a task that is with a worker, once a file was taken away
pub still_task : {D L S F : Type 0} (stores logs : Type 0) (history : D → History) (lines : L → List Line) (written : S → List ℕ) (shown : Shown D (Round L)) (disk : D) (task : ReduceTask S F) → IsReduceOf stores logs history lines written shown task → IsReduceOf stores logs history lines written (did shown disk []) task
still_task stores logs history lines written shown disk task of =
    subst (λ (h : List Entry). IsReduceTask (Owns stores logs history lines shown) written (setting_of lines shown.opening) (cuts_after (opening_in lines shown.opening) shown.scope h) shown.core.front.committed task) (sym (append-nil shown.history)) of
