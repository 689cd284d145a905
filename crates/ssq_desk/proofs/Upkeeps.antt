-- How a snapshot is handed out and taken back.
use Rattle.std.proofs.Common.{◌≡◌, ◌<◌, ◌≤◌, ◌+◌, ◌^◌, ◌++◌, ◌||◌, [], ◌∷◌, ℕ, Bool, false, true, List, length, Option, Some, None, Result, Ok, Err, inl, inr, refl, sym, ap, ◌∙◌, subst, arith}
use Rattle.std.specs.Prelude.{IfErr, IfOk, IfSome}
use Rattle.std.proofs.lemmas.List.{append-nil}
use Rattle.std.proofs.lemmas.Bool.{or_right}
use Rattle.ssq_outside.specs.declared.disk.DiskError.{DiskError}
use Rattle.ssq_outside.specs.declared.disk.DiskError.TheVariants as disk_error
use Rattle.ssq_outside.specs.declared.name.Name.{Name}
use Rattle.ssq_outside.specs.declared.name.Name.TheVariants as name
use Rattle.ssq_outside.specs.Faults.{Rises}
use Rattle.ssq_outside.specs.Files.{Files}
use Rattle.ssq_outside.specs.History.{History, files_now}
use Rattle.ssq_outside.proofs.Names.{same_name-same}
use Rattle.ssq_upkeep.specs.Upkeep.{is_among}
use Rattle.ssq_meaning.specs.Meaning.{Line, Values}
use Rattle.ssq_version.specs.State.{State, IsState, between}
use Rattle.ssq_version.specs.Text.{delta_text, snapshot_text}
use Rattle.ssq_store.specs.declared.fault.SnapshotFault.{SnapshotFault}
use Rattle.ssq_store.specs.declared.fault.SnapshotFault.TheVariants as snapshot
use Rattle.ssq_store.specs.Loaded.{AreTrue, IsDamaged, IsDelta, Makes, SnapshotFails, files_in}
use Rattle.ssq_store.specs.Fault.{SnapshotRises}
use Rattle.ssq_upkeep.proofs.Among.{among_both}
use Rattle.ssq_task.specs.declared.partition.Held.{Held}
use Rattle.ssq_core.specs.Course.{Course, Cuts, truth}
use Rattle.ssq_course.specs.Setting.{Setting, course_of}
use Rattle.ssq_terms.specs.Laws.{StatesAreJobs, TasksHaveTerms}
use Rattle.ssq_terms.specs.Opening.{DeskOpensAsFound}
use Rattle.ssq_board.specs.declared.front.Cause.{Cause}
use Rattle.ssq_board.specs.declared.front.Cause.TheVariants as cause
use Rattle.ssq_board.specs.declared.front.Entry.{Entry}
use Rattle.ssq_board.specs.declared.front.Entry.TheVariants as entry
use Rattle.ssq_board.specs.Causes.{cause_of_disk}
use Rattle.ssq_board.specs.Core.{is_of_epoch}
use Rattle.ssq_board.specs.Shelf.{Shelf, shelf_by, there_in}
use Rattle.ssq_ledger.specs.Shown.{LeadsHere, Shown, cuts_of, did, shelf_after, shelf_of}
use Rattle.ssq_ledger.specs.Upkept.{IsClaimed, IsTaken}
use Rattle.ssq_desk.specs.declared.desk.Load.{Load}
use Rattle.ssq_desk.specs.declared.round.Round.{Round}
use Rattle.ssq_desk.specs.declared.upkeep.UpkeepDone.{UpkeepDone}
use Rattle.ssq_desk.specs.declared.upkeep.UpkeepTask.{UpkeepTask}
use Rattle.ssq_desk.specs.Contents.{IsStopOf, keeping_in}
use Rattle.ssq_desk.specs.Round.{Owns, setting_of}
use Rattle.ssq_desk.specs.Upkeep.{AreReadFor, FailsFor, IsMalformed, IsMissing, IsNextDue, IsUnread, IsUpkeepDone, IsUpkeepOf, IsUpkeepTask, NeverDamaged, cause_of_snapshot}
use Rattle.ssq_desk.specs.Whole.{IsWhole, opening_in}
use Rattle.ssq_desk.proofs.Entries.{claimed_whole, fails_no_log, fails_so, fails_stop, memory_whole, unmade_whole}
use Rattle.ssq_desk.proofs.Leaving.{keeping_most}
use Rattle.ssq_desk.proofs.Readings.{damaged_among, floor_of}
use Rattle.ssq_desk.proofs.Snapshots.{never_missing, newest_older, read_makes}
use Rattle.ssq_desk.proofs.Wholes.{cuts_then, did_then, rises_some}

-- ---- why it fails

-- a call of the disk failed
pub disk_fails : (IsBad : Name → Type 0) (before now : ℕ) (error : DiskError) → (error ≡ disk_error.Fault → Rises before now) → FailsFor IsBad before now (cause_of_disk error)
disk_fails IsBad before now disk_error.Fault rises = rises refl
disk_fails IsBad before now disk_error.NoMemory rises = tt

-- from earlier on, and with another reading of what is bad
pub fails_later : (IsBad Other : Name → Type 0) (before mid now : ℕ) (f : Cause) → before ≤ mid → ((q : Name) → IsBad q → Other q) → FailsFor IsBad mid now f → FailsFor Other before now f
fails_later IsBad Other before mid now (cause.Damaged q) le so fails = so q fails
fails_later IsBad Other before mid now cause.DiskFault le so fails = risen before mid now le fails
  where
    risen : (before mid now : ℕ) → before ≤ mid → Rises mid now → Rises before now
    risen before mid now le rises = omega (arith, le, rises)
fails_later IsBad Other before mid now cause.NoMemory le so fails = tt
fails_later IsBad Other before mid now cause.Full le so fails = absurd fails
fails_later IsBad Other before mid now (cause.BadLine t p o f) le so fails = absurd fails
fails_later IsBad Other before mid now (cause.Overflow t p o) le so fails = absurd fails
fails_later IsBad Other before mid now cause.LogFault le so fails = absurd fails
fails_later IsBad Other before mid now cause.KeyOverflow le so fails = absurd fails
fails_later IsBad Other before mid now (cause.LogShort t p l f) le so fails = absurd fails

pub if_fails_later : {A : Type 0} (IsBad Other : Name → Type 0) (before mid now : ℕ) (result : Result A Cause) → before ≤ mid → ((q : Name) → IsBad q → Other q) → IfErr result (FailsFor IsBad mid now) → IfErr result (FailsFor Other before now)
if_fails_later IsBad Other before mid now (Ok a) le so fails = tt
if_fails_later IsBad Other before mid now (Err f) le so fails = fails_later IsBad Other before mid now f le so fails

-- a snapshot that was not made is no fault of the epoch, nor of a log
pub snapshot_outside : (f : SnapshotFault) → is_of_epoch (cause_of_snapshot f) ≡ false
snapshot_outside (snapshot.Damaged q) = refl
snapshot_outside snapshot.DiskFault = refl
snapshot_outside snapshot.NoMemory = refl

pub snapshot_no_log : (f : SnapshotFault) → cause_of_snapshot f ≡ cause.LogFault → ⊥
snapshot_no_log (snapshot.Damaged q) e = cc
snapshot_no_log snapshot.DiskFault e = cc
snapshot_no_log snapshot.NoMemory e = cc

pub snapshot_stops : (reads owned : Type 0) (s : Setting) (cuts : Cuts) (e : ℕ) (f : SnapshotFault) → NeverDamaged owned f → (key : Option Values) → IsStopOf reads owned s cuts e key (cause_of_snapshot f)
snapshot_stops reads owned s cuts e (snapshot.Damaged q) never key = never
snapshot_stops reads owned s cuts e snapshot.DiskFault never key = tt
snapshot_stops reads owned s cuts e snapshot.NoMemory never key = tt

-- ---- names

-- the last of a list is among them
among_last : (names : List Name) (q : Name) → is_among (names ++ q ∷ []) q ≡ true
among_last names q = among_both names (q ∷ []) q ∙ or_right (is_among names q) (is_among (q ∷ []) q) (ap (λ (b : Bool). b || false) (same_name-same q))

-- calls that change no name
pub did_still : {D O : Type 0} (s mid new : Shown D O) → mid ≡ did s mid.disk [] → new ≡ did mid new.disk [] → new ≡ did s new.disk []
did_still {D} {O} s mid new first later = later ∙ ap (λ (x : Shown D O). did x new.disk []) first ∙ did_then s mid.disk new.disk [] []

pub shelf_still : {D L : Type 0} (lines : L → List Line) (shown : Shown D (Round L)) (disk : D) → shelf_of (opening_in lines) (did shown disk []) ≡ shelf_of (opening_in lines) shown
shelf_still lines shown disk = ap (shelf_after (opening_in lines shown.opening) shown.scope) (append-nil shown.history)

-- ---- a snapshot is handed out

module _ {D L S F : Type 0} (stores logs : Type 0) (history : D → History) (lines : L → List Line) (available : L → ℕ) (answers : L → List ℕ) (faults : L → ℕ) (written : S → List ℕ) (sealed : F → List ℕ) (shown : Shown D (Round L)) (load : Load L S F)
    (whole : IsWhole stores logs history lines available answers faults written sealed shown load) where
  -- how many partitions keep state, in 32 bits
  pub few_keep : (held : List (Option Held)) → held ≡ load.held.items → length held < 2 ^ 32
  few_keep held is =
      let s = setting_of lines shown.opening in
      let most = keeping_most s.job.bound.shape s.job.partitions in
      let few = whole.round.few_partitions in
      let count : length held ≡ keeping_in s = ap length is ∙ whole.holds.keeping in omega (arith, most, few, count)

  pub keeping_is : (keeping : ℕ) (held : List (Option Held)) → keeping ≡ length held → held ≡ load.held.items → keeping ≡ keeping_in (setting_of lines shown.opening)
  keeping_is keeping held count is = count ∙ ap length is ∙ whole.holds.keeping

  -- memory ran out
  pub unclaimed_whole : (keeping : ℕ) (mid : Shown D (Round L)) (f : Cause) → IsClaimed (opening_in lines) keeping shown mid (Err f) → IsWhole stores logs history lines available answers faults written sealed mid load
  unclaimed_whole keeping mid f none =
      subst (λ (x : Shown D (Round L)). IsWhole stores logs history lines available answers faults written sealed x load) (sym (none.1 ∙ ap (λ (g : Cause). did shown shown.disk (entry.Stop g ∷ [])) none.0))
      (memory_whole stores logs history lines available answers faults written sealed shown load whole shown.disk)

-- A snapshot is under way: it is claimed as the one that is due next, and the disk was read for it.
pub record IsUnderway {D L S F : Type 0} (stores logs : Type 0) (history : D → History) (lines : L → List Line) (available : L → ℕ) (answers : L → List ℕ) (faults : L → ℕ) (written : S → List ℕ) (sealed : F → List ℕ) (shown : Shown D (Round L)) (load : Load L S F)
    (keeping : ℕ) (mid : Shown D (Round L)) (p v : ℕ) (now : Shown D (Round L)) : Type 0 where
  pub whole : IsWhole stores logs history lines available answers faults written sealed shown load
  pub shelf : (disk : D) (e : Entry) → shelf_of (opening_in lines) (did shown disk (e ∷ [])) ≡ shelf_by shown.core (shelf_of (opening_in lines) shown) e
  pub keeps : keeping ≡ keeping_in (setting_of lines shown.opening)
  pub claimed : IsClaimed (opening_in lines) keeping shown mid (Ok (Some (p, v)))
  pub begun : now ≡ did mid now.disk []

module _ {D L S F : Type 0} {stores logs : Type 0} {history : D → History} {lines : L → List Line} {available : L → ℕ} {answers : L → List ℕ} {faults : L → ℕ} {written : S → List ℕ} {sealed : F → List ℕ} {shown : Shown D (Round L)} {load : Load L S F} {keeping : ℕ} {mid : Shown D (Round L)}
    {p v : ℕ} {now : Shown D (Round L)} (way : IsUnderway stores logs history lines available answers faults written sealed shown load keeping mid p v now) where
  abbrev owned : Type 0
  owned = Owns stores logs history lines shown

  abbrev names : List Name
  names = there_in (shelf_of (opening_in lines) shown)

  same_names : there_in (shelf_of (opening_in lines) mid) ≡ names
  same_names = ap (λ (x : Shown D (Round L)). there_in (shelf_of (opening_in lines) x)) way.claimed.0 ∙ ap there_in (way.shelf shown.disk (entry.Upkeep p v))

  same_disk : mid.disk ≡ shown.disk
  same_disk = ap (λ (x : Shown D (Round L)). x.disk) way.claimed.0

  -- it was handed out, and nothing else was done
  pub handed_is : now ≡ did shown now.disk (entry.Upkeep p v ∷ [])
  handed_is = way.begun ∙ ap (λ (x : Shown D (Round L)). did x now.disk []) way.claimed.0 ∙ did_then shown shown.disk now.disk (entry.Upkeep p v ∷ []) []

  pub handed_whole : IsWhole stores logs history lines available answers faults written sealed now load
  handed_whole = subst (λ (x : Shown D (Round L)). IsWhole stores logs history lines available answers faults written sealed x load) (sym handed_is) (claimed_whole stores logs history lines available answers faults written sealed shown load way.whole now.disk p v)

  -- it is being made
  pub handed_claimed : is_among (shelf_of (opening_in lines) now).claimed (name.Snapshot p v) ≡ true
  handed_claimed =
      ap (λ (x : Shown D (Round L)). is_among (shelf_of (opening_in lines) x).claimed (name.Snapshot p v)) handed_is
      ∙ ap (λ (k : Shelf). is_among k.claimed (name.Snapshot p v)) (way.shelf now.disk (entry.Upkeep p v))
      ∙ among_last (shelf_of (opening_in lines) shown).claimed (name.Snapshot p v)

  pub handed_next : IsNextDue (opening_in lines) (keeping_in (setting_of lines shown.opening)) shown p v
  handed_next = (subst (λ (n : ℕ). p < n) way.keeps way.claimed.1, way.claimed.2, way.claimed.3)

  -- what was read, by what there was before
  pub read_before : (task : UpkeepTask S) → AreReadFor stores (files_now (history mid.disk)) (there_in (shelf_of (opening_in lines) mid)) task → AreReadFor stores (files_now (history shown.disk)) names task
  read_before task read =
      subst (λ (d : D). AreReadFor stores (files_now (history d)) names task) same_disk
      (subst (λ (l : List Name). AreReadFor stores (files_now (history mid.disk)) l task) same_names read)

  module _ (have : TasksHaveTerms) (opens : DeskOpensAsFound) (of : StatesAreJobs) (here : Owns stores logs history lines shown → LeadsHere (Owns stores logs history lines shown) history (opening_in lines) shown) (runs : shown.core.front.stop ≡ None) where
    -- a file that was not found
    pub missing : (q : Name) → IsUnread stores (files_now (history mid.disk)) p v (there_in (shelf_of (opening_in lines) mid)) q → IsMissing stores owned (files_now (history shown.disk)) p v names q
    missing q read =
        let unread = subst (λ (d : D). IsUnread stores (files_now (history d)) p v names q) same_disk (subst (λ (l : List Name). IsUnread stores (files_now (history mid.disk)) p v l q) same_names read) in (
          unread,
          (λ t. never_missing stores logs history lines shown way.whole.round have opens of here runs p v handed_next.0 handed_next.2.due t t.0 q unread),
        )

    -- so this is why it came back
    pub back_fails : (disk_faults : D → ℕ) (last : Shown D (Round L)) (f : Cause) → FailsFor (IsUnread stores (files_now (history mid.disk)) p v (there_in (shelf_of (opening_in lines) mid))) (disk_faults mid.disk) (disk_faults now.disk) f → last ≡ did now now.disk (entry.Unmade p v f ∷ [])
        → FailsFor (IsMissing stores owned (files_now (history shown.disk)) p v names) (disk_faults shown.disk) (disk_faults last.disk) f
    back_fails disk_faults last f failed unmade =
        let bad : Name → Type 0 = IsMissing stores owned (files_now (history shown.disk)) p v names in
        subst (λ (d : D). FailsFor bad (disk_faults shown.disk) (disk_faults d) f) (sym (ap (λ (x : Shown D (Round L)). x.disk) unmade))
        (subst (λ (d : D). FailsFor bad (disk_faults d) (disk_faults now.disk) f) same_disk
        (fails_so (IsUnread stores (files_now (history mid.disk)) p v (there_in (shelf_of (opening_in lines) mid))) bad (disk_faults mid.disk) (disk_faults now.disk) f missing failed))

    -- all that was read makes the state
    pub handed_task : (change : (p v : ℕ) (before after : State) → IsState before → IsState after → length (between before after) < 2 ^ 64 → IsDelta (Some (delta_text p v (between before after))) p v before after)
        → ((files : Files) (p n floor : ℕ) (states : ℕ → State) → AreTrue files p n floor states → Makes files p n (states n))
        → (stage_faults : S → ℕ) (task : UpkeepTask S) → task.partition ≡ p → task.version ≡ v → AreReadFor stores (files_now (history mid.disk)) (there_in (shelf_of (opening_in lines) mid)) task
        → (stores → written task.stage ≡ []) → stage_faults task.stage ≡ 0 → IsUpkeepOf stores logs history lines written stage_faults now task
    handed_task change made stage_faults task p_is v_is read empty fresh =
        let is = read_before task read in
        let due = subst (λ (n : ℕ). IsNextDue (opening_in lines) (keeping_in (setting_of lines shown.opening)) shown task.partition n) (sym v_is) (subst (λ (n : ℕ). IsNextDue (opening_in lines) (keeping_in (setting_of lines shown.opening)) shown n v) (sym p_is) handed_next) in
        let at : IsUpkeepTask owned written stage_faults (course_of (setting_of lines shown.opening) (cuts_of (opening_in lines) shown)) task = record {
          below = is.below;
          older = newest_older task.partition task.version names is.below is.newest;
          are = is.are;
          state = λ t. read_makes stores logs history lines shown way.whole.round have opens of here runs task.partition task.version due.0 due.2.due t change made task.files.items is;
          empty = λ t. empty t.0;
          fresh = fresh;
        } in
        subst (λ (x : Shown D (Round L)). IsUpkeepOf stores logs history lines written stage_faults x task) (sym handed_is)
        (subst (λ (cuts : Cuts). IsUpkeepTask owned written stage_faults (course_of (setting_of lines shown.opening) cuts) task) (sym (cuts_then (opening_in lines shown.opening) shown.scope shown.history (entry.Upkeep p v))) at)

  -- it came back at once
  pub back_is : (last : Shown D (Round L)) (f : Cause) → last ≡ did now now.disk (entry.Unmade p v f ∷ []) → last ≡ did shown last.disk (entry.Upkeep p v ∷ entry.Unmade p v f ∷ [])
  back_is last f unmade =
      let all = unmade ∙ ap (λ (x : Shown D (Round L)). did x now.disk (entry.Unmade p v f ∷ [])) handed_is ∙ did_then shown now.disk now.disk (entry.Upkeep p v ∷ []) (entry.Unmade p v f ∷ []) in
      all ∙ ap (λ (d : D). did shown d (entry.Upkeep p v ∷ entry.Unmade p v f ∷ [])) (sym (ap (λ (x : Shown D (Round L)). x.disk) all))

  pub back_whole : (last : Shown D (Round L)) (f : Cause) (before after : ℕ) → FailsFor (IsMissing stores owned (files_now (history shown.disk)) p v names) before after f → last ≡ did now now.disk (entry.Unmade p v f ∷ [])
      → IsWhole stores logs history lines available answers faults written sealed last load
  back_whole last f before after fails unmade =
      let bad : Name → Type 0 = IsMissing stores owned (files_now (history shown.disk)) p v names in
      let at : Shown D (Round L) = did shown now.disk (entry.Upkeep p v ∷ []) in
      let is = claimed_whole stores logs history lines available answers faults written sealed shown load way.whole now.disk p v in
      subst (λ (x : Shown D (Round L)). IsWhole stores logs history lines available answers faults written sealed x load) (sym (unmade ∙ ap (λ (x : Shown D (Round L)). did x now.disk (entry.Unmade p v f ∷ [])) handed_is))
      (unmade_whole stores logs history lines available answers faults written sealed at load is now.disk p v f (fails_no_log bad before after f fails)
      (fails_stop bad (stores × logs) owned (λ q is_bad. is_bad.1) (setting_of lines shown.opening) (cuts_of (opening_in lines) at) shown.core.front.committed before after f fails))

-- ---- a snapshot is taken back

-- the floor lies below the version that comes next
floor_least : (v : ℕ) (below : Option ℕ) → IfSome below (λ b. b < v) → floor_of below ≤ v + 1
floor_least v None older = omega arith
floor_least v (Some b) older = omega (arith, older)

module _ {S F : Type 0} (owned stages : Type 0) (written : S → List ℕ) (sealed : F → List ℕ) (faults : S → ℕ) (course : Course) (task : UpkeepTask S) (done : UpkeepDone S F)
    (of : IsUpkeepTask owned written faults course task) (is : IsUpkeepDone stages written sealed faults task done) (few : done.partition < 2 ^ 32) (fits : done.version + 1 ≤ 2 ^ 32) where
  abbrev files : Files
  files = files_in task.files.items

  few_task : task.partition < 2 ^ 32
  few_task = subst (λ (n : ℕ). n < 2 ^ 32) is.partition_is few

  fits_task : task.version + 1 ≤ 2 ^ 32
  fits_task = subst (λ (n : ℕ). n + 1 ≤ 2 ^ 32) is.version_is fits

  abbrev HasText : F → Type 0
  HasText file = (state : State) × Makes files task.partition (task.version + 1) state × (sealed file ≡ written task.stage ++ snapshot_text task.partition task.version state)

  abbrev Fails : S × SnapshotFault → Type 0
  Fails failed = SnapshotFails files task.partition (task.version + 1) failed.1

  -- the sealed file is the true one
  pub snapshot_right : ((files : Files) (partition count : ℕ) (one other : State) → partition < 2 ^ 32 → count ≤ 2 ^ 32 → Makes files partition count one → Makes files partition count other → one ≡ other)
      → (owned → stages) → (file : F) → done.outcome ≡ Ok file → owned → sealed file ≡ truth course (name.Snapshot done.partition done.version)
  snapshot_right one tell file out t =
      let own = of.state t in
      let made : HasText file = subst (λ (o : Result F (S × SnapshotFault)). IfOk o HasText) out (is.sealed_is (tell t)) in
      made.2
      ∙ ap (λ (l : List ℕ). l ++ snapshot_text task.partition task.version made.0) (of.empty t)
      ∙ ap (snapshot_text task.partition task.version) (one files task.partition (task.version + 1) made.0 own.0 few_task fits_task made.1 own.1)
      ∙ sym own.2
      ∙ ap (λ (n : ℕ). truth course (name.Snapshot n task.version)) (sym is.partition_is)
      ∙ ap (λ (n : ℕ). truth course (name.Snapshot done.partition n)) (sym is.version_is)

  module _ (sound : (files : Files) (partition count : ℕ) (state : State) (at : Name) → partition < 2 ^ 32 → count ≤ 2 ^ 32 → Makes files partition count state → IsDamaged files partition count at → ⊥) (stage : S) (fault : SnapshotFault) (out : done.outcome ≡ Err (stage, fault)) where
    why : SnapshotFails files task.partition (task.version + 1) fault
    why = subst (λ (o : Result F (S × SnapshotFault)). IfErr o Fails) out is.damaged

    never_so : (f : SnapshotFault) → SnapshotFails files task.partition (task.version + 1) f → NeverDamaged owned f
    never_so (snapshot.Damaged q) damaged = λ t. sound files task.partition (task.version + 1) (of.state t).0 q few_task fits_task (of.state t).1 damaged
    never_so snapshot.DiskFault damaged = tt
    never_so snapshot.NoMemory damaged = tt

    -- none of its files is damaged where what was opened is the job's own
    pub never_malformed : NeverDamaged owned fault
    never_malformed = never_so fault why

    -- and else the first such is told, and a fault of the file aside where the disk counted it
    pub malformed : (before now : ℕ) → (0 < faults stage → Rises before now) → FailsFor (IsMalformed owned task.files.items task.partition task.version) before now (cause_of_snapshot fault)
    malformed before now rises = by fault why (subst (λ (o : Result F (S × SnapshotFault)). IfErr o (λ failed. SnapshotRises failed.1 (faults task.stage) (faults failed.0))) out is.risen) never_malformed
      where
        by : (f : SnapshotFault) → SnapshotFails files task.partition (task.version + 1) f → SnapshotRises f (faults task.stage) (faults stage) → NeverDamaged owned f → FailsFor (IsMalformed owned task.files.items task.partition task.version) before now (cause_of_snapshot f)
        by (snapshot.Damaged q) damaged risen never = record {
          among = damaged_among task.files.items task.partition task.version of.below of.older of.are (task.version + 1) (floor_least task.version of.below of.older) (omega arith) q damaged;
          is = damaged;
          never = never;
        }
        by snapshot.DiskFault damaged risen never = rises (rises_some (faults task.stage) (faults stage) risen)
        by snapshot.NoMemory damaged risen never = tt

-- its publishing failed where the disk counted that
pub taken_fails : {D O : Type 0} (old new : Shown D O) (p v : ℕ) (result : Result (Unit {0}) Cause) (IsBad : Name → Type 0) (before now : ℕ) → IsTaken old new p v result (Rises before now) → IfErr result (FailsFor IsBad before now)
taken_fails old new p v result IsBad before now is = elim is [
  | inl taken ↦ subst (λ (r : Result (Unit {0}) Cause). IfErr r (FailsFor IsBad before now)) (sym taken.1) tt
  | inr missed ↦ subst (λ (r : Result (Unit {0}) Cause). IfErr r (FailsFor IsBad before now)) (sym missed.2) missed.3
]
