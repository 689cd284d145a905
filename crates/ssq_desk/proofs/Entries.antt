-- A desk after the entries of upkeep.
use Rattle.std.proofs.Common.{◌≡◌, ◌<◌, [], ◌∷◌, ℕ, Bool, true, false, List, length, Option, Some, None, Result, Ok, Err, inl, inr, refl, sym, ap, ◌∙◌, subst}
use Rattle.std.specs.Prelude.{vec_capacity}
use Rattle.std.proofs.lemmas.List.{append-nil}
use Rattle.ssq_outside.specs.declared.name.Name.{Name}
use Rattle.ssq_outside.specs.History.{History}
use Rattle.ssq_meaning.specs.Meaning.{Line, Values}
use Rattle.ssq_core.specs.Course.{Cuts}
use Rattle.ssq_course.specs.Setting.{Setting}
use Rattle.ssq_board.specs.declared.front.Cause.{Cause}
use Rattle.ssq_board.specs.declared.front.Cause.TheVariants as cause
use Rattle.ssq_board.specs.declared.front.Entry.{Entry}
use Rattle.ssq_board.specs.declared.front.Entry.TheVariants as entry
use Rattle.ssq_board.specs.Core.{Core, after, after_all, is_of_epoch, is_open, or_stop, stopped_front, with_front}
use Rattle.ssq_ledger.specs.Shown.{Shown, cuts_after, cuts_of, did}
use Rattle.ssq_ledger.specs.Upkept.{IsDropped, IsTaken}
use Rattle.ssq_desk.specs.declared.desk.Load.{Load}
use Rattle.ssq_desk.specs.declared.round.Round.{Round}
use Rattle.ssq_desk.specs.Closing.{AreTold, HasFaulty}
use Rattle.ssq_desk.specs.Contents.{IsStopOf}
use Rattle.ssq_desk.specs.Round.{Owns, setting_of}
use Rattle.ssq_desk.specs.Upkeep.{FailsFor}
use Rattle.ssq_desk.specs.Whole.{ArePlans, HoldsIn, IsWhole, opening_in}
use Rattle.ssq_desk.proofs.Wholes.{cuts_then, still_whole, stopped_whole}

-- ---- why upkeep fails

-- it stops a desk
pub fails_stop : (IsBad : Name → Type 0) (reads owned : Type 0) → ((q : Name) → IsBad q → owned → ⊥) → (s : Setting) (cuts : Cuts) (e before now : ℕ) (f : Cause) → FailsFor IsBad before now f → (key : Option Values) → IsStopOf reads owned s cuts e key f
fails_stop IsBad reads owned never s cuts e before now (cause.Damaged q) fails key = never q fails
fails_stop IsBad reads owned never s cuts e before now cause.DiskFault fails key = tt
fails_stop IsBad reads owned never s cuts e before now cause.NoMemory fails key = tt
fails_stop IsBad reads owned never s cuts e before now cause.Full fails key = absurd fails
fails_stop IsBad reads owned never s cuts e before now (cause.BadLine t p o f) fails key = absurd fails
fails_stop IsBad reads owned never s cuts e before now (cause.Overflow t p o) fails key = absurd fails
fails_stop IsBad reads owned never s cuts e before now cause.LogFault fails key = absurd fails
fails_stop IsBad reads owned never s cuts e before now cause.KeyOverflow fails key = absurd fails
fails_stop IsBad reads owned never s cuts e before now (cause.LogShort t p l f) fails key = absurd fails

-- it is no fault of a log, and none of the epoch's
pub fails_no_log : (IsBad : Name → Type 0) (before now : ℕ) (f : Cause) → FailsFor IsBad before now f → f ≡ cause.LogFault → ⊥
fails_no_log IsBad before now f fails is = subst (FailsFor IsBad before now) is fails

pub fails_outside : (IsBad : Name → Type 0) (before now : ℕ) (f : Cause) → FailsFor IsBad before now f → is_of_epoch f ≡ false
fails_outside IsBad before now (cause.Damaged q) fails = refl
fails_outside IsBad before now cause.DiskFault fails = refl
fails_outside IsBad before now cause.NoMemory fails = refl
fails_outside IsBad before now cause.Full fails = refl
fails_outside IsBad before now (cause.BadLine t p o f) fails = absurd fails
fails_outside IsBad before now (cause.Overflow t p o) fails = absurd fails
fails_outside IsBad before now cause.LogFault fails = refl
fails_outside IsBad before now cause.KeyOverflow fails = absurd fails
fails_outside IsBad before now (cause.LogShort t p l f) fails = refl

-- another reading of what is bad
pub fails_so : (IsBad Other : Name → Type 0) (before now : ℕ) (f : Cause) → ((q : Name) → IsBad q → Other q) → FailsFor IsBad before now f → FailsFor Other before now f
fails_so IsBad Other before now (cause.Damaged q) so fails = so q fails
fails_so IsBad Other before now cause.DiskFault so fails = fails
fails_so IsBad Other before now cause.NoMemory so fails = fails
fails_so IsBad Other before now cause.Full so fails = fails
fails_so IsBad Other before now (cause.BadLine t p o f) so fails = fails
fails_so IsBad Other before now (cause.Overflow t p o) so fails = fails
fails_so IsBad Other before now cause.LogFault so fails = fails
fails_so IsBad Other before now cause.KeyOverflow so fails = fails
fails_so IsBad Other before now (cause.LogShort t p l f) so fails = fails

-- ---- the desk

module _ {D L S F : Type 0} (stores logs : Type 0) (history : D → History) (lines : L → List Line) (available : L → ℕ) (answers : L → List ℕ) (faults : L → ℕ) (written : S → List ℕ) (sealed : F → List ℕ) (shown : Shown D (Round L)) (load : Load L S F) where
  -- other entries that come to the same
  pub same_whole : (one other : List Entry) (disk : D) → after_all shown.scope shown.core other ≡ after_all shown.scope shown.core one → cuts_of (opening_in lines) (did shown disk other) ≡ cuts_of (opening_in lines) (did shown disk one)
      → IsWhole stores logs history lines available answers faults written sealed (did shown disk one) load → IsWhole stores logs history lines available answers faults written sealed (did shown disk other) load
  same_whole one other disk cores cuts w =
      let s : Setting = setting_of lines shown.opening in
      let was : Core = after_all shown.scope shown.core one in
      let now : Cuts = cuts_of (opening_in lines) (did shown disk other) in record {
        round = w.round;
        view = w.view;
        holds = subst (λ (c : Core). HoldsIn stores logs history lines available answers faults written sealed shown now c load.part_logs.items load.shares.items load.held.items load.out load.seen load.pending) (sym cores)
            (subst (λ (x : Cuts). HoldsIn stores logs history lines available answers faults written sealed shown x was load.part_logs.items load.shares.items load.held.items load.out load.seen load.pending) (sym cuts) w.holds);
        plans = subst (λ (c : Core). ArePlans (Owns stores logs history lines shown) shown.opening.opened.plans s now c.front.planned load.plans.items) (sym cores)
            (subst (λ (x : Cuts). ArePlans (Owns stores logs history lines shown) shown.opening.opened.plans s x was.front.planned load.plans.items) (sym cuts) w.plans);
        told = subst (λ (c : Core). AreTold (Owns stores logs history lines shown) s now shown.opening.opened.committed c.front.committed load.told.items) (sym cores)
            (subst (λ (x : Cuts). AreTold (Owns stores logs history lines shown) s x shown.opening.opened.committed was.front.committed load.told.items) (sym cuts) w.told);
        told_room = subst (λ (c : Core). is_open c ≡ true → length load.told.items < vec_capacity load.told) (sym cores) w.told_room;
        faulty = subst (λ (c : Core). c.front.stop ≡ Some cause.LogFault → HasFaulty faults c.maps load.part_logs.items) (sym cores) w.faulty;
        kept = w.kept;
      }

  module _ (whole : IsWhole stores logs history lines available answers faults written sealed shown load) (disk : D) where
    abbrev cuts_here : Cuts
    cuts_here = cuts_of (opening_in lines) shown

    -- an entry that changes nothing but names
    quiet : (e : Entry) → after_all shown.scope shown.core (e ∷ []) ≡ shown.core → cuts_of (opening_in lines) (did shown disk (e ∷ [])) ≡ cuts_here → IsWhole stores logs history lines available answers faults written sealed (did shown disk (e ∷ [])) load
    quiet e core cuts = same_whole [] (e ∷ []) disk core (cuts ∙ sym (ap (cuts_after (opening_in lines shown.opening) shown.scope) (append-nil shown.history))) (still_whole stores logs history lines available answers faults written sealed shown load whole disk)

    pub claimed_whole : (p v : ℕ) → IsWhole stores logs history lines available answers faults written sealed (did shown disk (entry.Upkeep p v ∷ [])) load
    claimed_whole p v = quiet (entry.Upkeep p v) refl (cuts_then (opening_in lines shown.opening) shown.scope shown.history (entry.Upkeep p v))

    pub taken_whole : (p v : ℕ) → IsWhole stores logs history lines available answers faults written sealed (did shown disk (entry.Snapshot p v ∷ [])) load
    taken_whole p v = quiet (entry.Snapshot p v) refl (cuts_then (opening_in lines shown.opening) shown.scope shown.history (entry.Snapshot p v))

    pub dropped_whole : (q : Name) → IsWhole stores logs history lines available answers faults written sealed (did shown disk (entry.Drop q ∷ [])) load
    dropped_whole q = quiet (entry.Drop q) refl (cuts_then (opening_in lines shown.opening) shown.scope shown.history (entry.Drop q))

    -- one that stops it
    halted : (e : Entry) (f : Cause) → after shown.scope shown.core e ≡ after shown.scope shown.core (entry.Stop f) → cuts_of (opening_in lines) (did shown disk (e ∷ [])) ≡ cuts_here
        → (f ≡ cause.LogFault → ⊥) → ((key : Option Values) → IsStopOf (stores × logs) (Owns stores logs history lines shown) (setting_of lines shown.opening) cuts_here shown.core.front.committed key f)
        → IsWhole stores logs history lines available answers faults written sealed (did shown disk (e ∷ [])) load
    halted e f core cuts no_log right =
        same_whole (entry.Stop f ∷ []) (e ∷ []) disk core (cuts ∙ sym (cuts_then (opening_in lines shown.opening) shown.scope shown.history (entry.Stop f)))
        (stopped_whole stores logs history lines available answers faults written sealed shown load whole disk f load.pending no_log right)

    pub untaken_whole : (p v : ℕ) → IsWhole stores logs history lines available answers faults written sealed (did shown disk (entry.Untaken p v ∷ [])) load
    untaken_whole p v = halted (entry.Untaken p v) cause.DiskFault refl (cuts_then (opening_in lines shown.opening) shown.scope shown.history (entry.Untaken p v)) no (λ key. tt)
      where
        no : cause.DiskFault ≡ cause.LogFault → ⊥
        no e = cc

    pub undropped_whole : (q : Name) → IsWhole stores logs history lines available answers faults written sealed (did shown disk (entry.Undropped q ∷ [])) load
    undropped_whole q = halted (entry.Undropped q) cause.DiskFault refl (cuts_then (opening_in lines shown.opening) shown.scope shown.history (entry.Undropped q)) no (λ key. tt)
      where
        no : cause.DiskFault ≡ cause.LogFault → ⊥
        no e = cc

    pub memory_whole : IsWhole stores logs history lines available answers faults written sealed (did shown disk (entry.Stop cause.NoMemory ∷ [])) load
    memory_whole = stopped_whole stores logs history lines available answers faults written sealed shown load whole disk cause.NoMemory load.pending no (λ key. tt)
      where
        no : cause.NoMemory ≡ cause.LogFault → ⊥
        no e = cc

    -- what came back in place of a snapshot
    pub unmade_whole : (p v : ℕ) (f : Cause) → (f ≡ cause.LogFault → ⊥) → ((key : Option Values) → IsStopOf (stores × logs) (Owns stores logs history lines shown) (setting_of lines shown.opening) cuts_here shown.core.front.committed key f)
        → IsWhole stores logs history lines available answers faults written sealed (did shown disk (entry.Unmade p v f ∷ [])) load
    unmade_whole p v f no_log right = by shown.core.front.stop refl
      where
        cuts : cuts_of (opening_in lines) (did shown disk (entry.Unmade p v f ∷ [])) ≡ cuts_here
        cuts = cuts_then (opening_in lines shown.opening) shown.scope shown.history (entry.Unmade p v f)

        core : (stop : Option Cause) → Core
        core stop = with_front shown.core (stopped_front shown.core.front stop)

        by : (stop : Option Cause) → shown.core.front.stop ≡ stop → IsWhole stores logs history lines available answers faults written sealed (did shown disk (entry.Unmade p v f ∷ [])) load
        by None is = halted (entry.Unmade p v f) f (ap (λ (o : Option Cause). with_front shown.core (stopped_front shown.core.front (or_stop o (Some f)))) is) cuts no_log right
        by (Some g) is = quiet (entry.Unmade p v f) (ap (λ (o : Option Cause). with_front shown.core (stopped_front shown.core.front (or_stop o (Some f)))) is ∙ ap (λ (o : Option Cause). with_front shown.core (stopped_front shown.core.front o)) (sym is)) cuts

  -- what the calls of the ledger leave
  module _ (whole : IsWhole stores logs history lines available answers faults written sealed shown load) (now : Shown D (Round L)) (risen : Type 0) where
    pub after_taken : (p v : ℕ) (result : Result (Unit {0}) Cause) → IsTaken shown now p v result risen → IsWhole stores logs history lines available answers faults written sealed now load
    after_taken p v result is = elim is [
      | inl taken ↦ subst (λ (x : Shown D (Round L)). IsWhole stores logs history lines available answers faults written sealed x load) (sym taken.0) (taken_whole whole now.disk p v)
      | inr missed ↦ subst (λ (x : Shown D (Round L)). IsWhole stores logs history lines available answers faults written sealed x load) (sym missed.1) (untaken_whole whole now.disk p v)
    ]

    pub after_drop : (result : Result Bool Cause) → IsDropped (opening_in lines) shown now result risen → IsWhole stores logs history lines available answers faults written sealed now load
    after_drop (Ok false) is = subst (λ (x : Shown D (Round L)). IsWhole stores logs history lines available answers faults written sealed x load) (sym is.0) whole
    after_drop (Ok true) is = subst (λ (x : Shown D (Round L)). IsWhole stores logs history lines available answers faults written sealed x load) (sym is.2) (dropped_whole whole now.disk is.0)
    after_drop (Err f) is = elim is [
      | inl memory ↦ subst (λ (x : Shown D (Round L)). IsWhole stores logs history lines available answers faults written sealed x load) (sym (memory.1 ∙ ap (λ (g : Cause). did shown shown.disk (entry.Stop g ∷ [])) memory.0)) (memory_whole whole shown.disk)
      | inr failed ↦ subst (λ (x : Shown D (Round L)). IsWhole stores logs history lines available answers faults written sealed x load) (sym failed.3) (undropped_whole whole now.disk failed.0)
    ]
