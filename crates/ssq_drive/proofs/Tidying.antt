-- All of upkeep: snapshots one after another, files that are removed one after another, and names that are settled after both.
use Rattle.std.proofs.Common.{◌≡◌, ◌<◌, ◌≤◌, ℕ, Bool, true, false, List, [], ◌∷◌, None, Result, Ok, Err, IfErr, OnOk, OnErr, sym, refl, ap, ◌∙◌, subst, inl, inr}
use Rattle.ssq_outside.specs.declared.name.Name.{Name}
use Rattle.ssq_outside.specs.Faults.{Rises}
use Rattle.ssq_outside.specs.History.{History}
use Rattle.ssq_shape.specs.Late.{closes}
use Rattle.ssq_meaning.specs.Meaning.{Line}
use Rattle.ssq_board.specs.declared.front.Cause.{Cause}
use Rattle.ssq_board.specs.declared.front.Entry.{Entry}
use Rattle.ssq_board.specs.declared.front.Entry.TheVariants as entry
use Rattle.ssq_board.specs.declared.front.Ready.TheVariants as ready
use Rattle.ssq_board.specs.Core.{Scope, Core, after_all, is_stopped, ready_of}
use Rattle.ssq_board.specs.Rounds.{IsAtRest}
use Rattle.ssq_board.specs.Shelf.{Shelf}
use Rattle.ssq_board.specs.Shown.{first}
use Rattle.ssq_board.proofs.Telling.{runs_of}
use Rattle.ssq_ledger.specs.Shown.{Opening, Shown, HasRisen, IsLegal, cuts_of, did, first_state, shelf_of, state}
use Rattle.ssq_ledger.specs.Upkept.{IsDropped, NoneIsDue, NoneGoes}
use Rattle.ssq_desk.specs.declared.round.Round.{Round}
use Rattle.ssq_desk.specs.Contents.{keeping_in}
use Rattle.ssq_desk.specs.Round.{setting_of}
use Rattle.ssq_desk.specs.Whole.{opening_in}
use Rattle.ssq_desk.proofs.Wholes.{after_more}
use Rattle.ssq_drive.specs.Driven.{IsCleared, IsEnded, IsMade, IsTidied, IsUpkept, KeepsUp, unmade}
use Rattle.ssq_drive.specs.Good.{IsGood}
use Rattle.ssq_drive.proofs.Goods.{good_on}
use Rattle.ssq_drive.proofs.KeepLemmas.{IsBetween, IsClearing, IsLed, count_of, fewer_files, keeps_drop, keeps_more, keeps_stop, keeps_sync, keeps_undropped, old_desk, one_cleared, over_kept, runs_core, stopped_ready, tidied_due, tidied_goes, tidied_news, tidied_runs, tidied_settled, tidied_tidy}

-- a desk's history led to what it knows
pub led_by : {D O : Type 0} (tells : Type 0) (history : D → History) (opening : O → Opening) (s : Shown D O) → IsLegal tells history opening s → IsLed opening s
led_by tells history opening s legal =
    let begun = first s.scope (opening s.opening).start in
    runs_core s.scope begun s.history s.core (runs_of tells (opening s.opening).job s.scope (opening s.opening).due s.history (first_state (opening s.opening) s.scope (history s.opened)) (state legal.0 s.core (shelf_of opening s) (cuts_of opening s)) legal.2)

led_on : {D O : Type 0} (opening : O → Opening) (old new : Shown D O) (es : List Entry) → new ≡ did old new.disk es → IsLed opening old → IsLed opening new
led_on {D} {O} opening old new es is led =
    subst (λ (s : Shown D O). IsLed opening s) (sym is)
    (ap (λ (c : Core). after_all old.scope c es) led ∙ after_more old.scope (first old.scope (opening old.opening).start) old.history es)

module _ {D L : Type 0} (lines : L → List Line) (faults : D → ℕ) (P : Shown D (Round L) → Name → Type 0) where
  -- whether the query of a desk closes, how many of its partitions keep state, and its shelf
  abbrev pub closing : Shown D (Round L) → Bool
  closing s = closes s.opening.view.bound.now

  abbrev pub keeping : Shown D (Round L) → ℕ
  keeping s = keeping_in (setting_of lines s.opening)

  abbrev pub shelf : Shown D (Round L) → Shelf
  shelf s = shelf_of (opening_in lines) s

  abbrev pub Keeps : (old new : Shown D (Round L)) → Type 0
  Keeps old new = KeepsUp faults P (closing old) old new

  -- the round is the same in the end
  pub same_round : (old new : Shown D (Round L)) → Keeps old new → new.opening ≡ old.opening
  same_round old new kept = ap (λ (s : Shown D (Round L)). s.opening) kept.driven.entries.1

  pub same_scope : (old new : Shown D (Round L)) → Keeps old new → new.scope ≡ old.scope
  same_scope old new kept = ap (λ (s : Shown D (Round L)). s.scope) kept.driven.entries.1

  same_keeping : (old new : Shown D (Round L)) → Keeps old new → keeping new ≡ keeping old
  same_keeping old new kept = ap (λ (x : Round L). keeping_in (setting_of lines x)) (same_round old new kept)

  pub keeps_on : (a b c : Shown D (Round L)) → Keeps a b → b.core.front.stop ≡ None → Keeps b c → Keeps a c
  keeps_on a b c kept running later = keeps_more faults P (closing a) a b c kept running (subst (λ (x : Round L). KeepsUp faults P (closes x.view.bound.now) b c) (same_round a b kept) later)

  -- ---- snapshots, one after another

  pub record IsMaking (old now : Shown D (Round L)) : Type 0 where
    pub kept : Keeps old now
    pub core : now.core ≡ old.core

  pub making_runs : (old now : Shown D (Round L)) → IsMaking old now → old.core.front.stop ≡ None → now.core.front.stop ≡ None
  making_runs old now before running = ap (λ (c : Core). c.front.stop) before.core ∙ running

  module _ (old now new : Shown D (Round L)) (before : IsMaking old now) (running : old.core.front.stop ≡ None) where
    pub making_keeps : Keeps now new → Keeps old new
    making_keeps kept = keeps_on old now new before.kept (making_runs old now before running) kept

    pub making_on : Keeps now new → IsMade (opening_in lines) (keeping now) now new true → IsMaking old new
    making_on kept made = record { kept = making_keeps kept; core = made.0 ∙ before.core }

    pub making_less : IsMade (opening_in lines) (keeping now) now new true → unmade (keeping old) new.core (shelf new) < unmade (keeping old) now.core (shelf now)
    making_less made = subst (λ (n : ℕ). unmade n new.core (shelf new) < unmade n now.core (shelf now)) (same_keeping old now before.kept) made.1

    pub making_ends : IsMade (opening_in lines) (keeping now) now new false → (new.core ≡ old.core) × NoneIsDue (keeping old) new.core (shelf new)
    making_ends made = (
      ap (λ (s : Shown D (Round L)). s.core) made.0 ∙ before.core,
      subst (λ (s : Shown D (Round L)). NoneIsDue (keeping old) s.core (shelf s)) (sym made.0) (subst (λ (n : ℕ). NoneIsDue n now.core (shelf now)) (same_keeping old now before.kept) made.1),
    )

  -- ---- names

  module _ (old new : Shown D (Round L)) (running : old.core.front.stop ≡ None) (rest : IsAtRest old.core) (counted : faults old.disk ≤ faults new.disk) where
    abbrev pub Synced : Result (Unit {0}) Cause → Type 0
    Synced result = OnOk result ((clock : ℕ) × (new ≡ did old new.disk (entry.Sync clock ∷ [])))

    abbrev pub Unsynced : Result (Unit {0}) Cause → Type 0
    Unsynced result = IfErr result (λ f. (new ≡ did old new.disk (entry.Stop f ∷ [])) × HasRisen f (faults old.disk) (faults new.disk))

    pub sync_keeps : (result : Result (Unit {0}) Cause) → Synced result → Unsynced result → Keeps old new
    sync_keeps (Ok x) done stopped = keeps_sync faults P (closing old) old new done.0 done.1 running rest counted
    sync_keeps (Err f) done stopped = keeps_stop faults P (closing old) old new f stopped.0 running rest stopped.1 counted

    pub sync_tidies : (result : Result (Unit {0}) Cause) → Synced result → OnOk result (IsTidied (opening_in lines) old new)
    sync_tidies (Ok x) done = inr done
    sync_tidies (Err f) done = tt

    pub sync_stops : (result : Result (Unit {0}) Cause) → Unsynced result → OnErr result (is_stopped new.core.front.stop ≡ true)
    sync_stops (Ok x) stopped = tt
    sync_stops (Err f) stopped = ap (λ (s : Shown D (Round L)). is_stopped s.core.front.stop) stopped.0

  -- ---- files that go, one after another

  pub record IsDropping (old now : Shown D (Round L)) : Type 0 where
    pub kept : Keeps old now
    pub clearing : IsClearing (opening_in lines) (keeping old) old now

  pub dropping_runs : (old now : Shown D (Round L)) → IsDropping old now → old.core.front.stop ≡ None → now.core.front.stop ≡ None
  dropping_runs old now before running = ap (λ (c : Core). c.front.stop) before.clearing.core ∙ running

  module _ (old now new : Shown D (Round L)) (before : IsDropping old now) (running : old.core.front.stop ≡ None) (counted : faults now.disk ≤ faults new.disk) where
    abbrev pub Dropped : Result Bool Cause → Type 0
    Dropped result = IsDropped (opening_in lines) now new result (Rises (faults now.disk) (faults new.disk))

    runs : now.core.front.stop ≡ None
    runs = dropping_runs old now before running

    rest : IsAtRest now.core
    rest = before.kept.driven.rest

    pub dropping_on : Dropped (Ok true) → IsDropping old new
    dropping_on dropped = record {
      kept = keeps_on old now new before.kept runs (keeps_drop faults P (closing now) now new dropped.0 dropped.2 runs rest counted);
      clearing = one_cleared (opening_in lines) (keeping old) old now new dropped.0 before.clearing dropped.2 dropped.1.goes;
    }

    pub dropping_less : Dropped (Ok true) → count_of (opening_in lines) new < count_of (opening_in lines) now
    dropping_less dropped = fewer_files (opening_in lines) now new dropped.0 dropped.2 dropped.1.goes.there

    pub dropping_good : Dropped (Ok true) → IsGood lines now → IsGood lines new
    dropping_good dropped good = good_on lines now new (entry.Drop dropped.0 ∷ []) dropped.2 (tt, tt) good

    pub dropping_still : Dropped (Ok false) → Keeps old new
    dropping_still dropped = subst (Keeps old) (sym dropped.0) before.kept

    pub dropping_same : Dropped (Ok false) → IsGood lines now → IsGood lines new
    dropping_same dropped good = subst (IsGood lines) (sym dropped.0) good

    pub dropping_ends : Dropped (Ok false) → IsCleared (opening_in lines) (keeping old) old new
    dropping_ends dropped = subst (λ (s : Shown D (Round L)). IsCleared (opening_in lines) (keeping old) old s) (sym dropped.0) (record {
      core = before.clearing.core;
      none_due = before.clearing.none_due;
      news = before.clearing.news;
      none_goes = dropped.1;
    })

    pub dropping_fails : (f : Cause) → Dropped (Err f) → Keeps old new × (is_stopped new.core.front.stop ≡ true) × (IsGood lines now → IsGood lines new)
    dropping_fails f (inl (same, is)) =
        let here : new ≡ did now new.disk (entry.Stop f ∷ []) = is ∙ ap (λ (d : D). did now d (entry.Stop f ∷ [])) (sym (ap (λ (s : Shown D (Round L)). s.disk) is)) in (
          keeps_on old now new before.kept runs (keeps_stop faults P (closing now) now new f here runs rest (subst (λ (x : Cause). HasRisen x (faults now.disk) (faults new.disk)) (sym same) tt) counted),
          ap (λ (s : Shown D (Round L)). is_stopped s.core.front.stop) is,
          λ good. good_on lines now new (entry.Stop f ∷ []) here (tt, tt) good,
        )
    dropping_fails f (inr (q, goes, same, is, risen)) = (
      keeps_on old now new before.kept runs (keeps_undropped faults P (closing now) now new q is runs rest risen counted),
      ap (λ (s : Shown D (Round L)). is_stopped s.core.front.stop) is,
      λ good. good_on lines now new (entry.Undropped q ∷ []) is (tt, tt) good,
    )

  -- ---- all of it

  pub made_run : (old made : Shown D (Round L)) → IsBetween old.core → made.core ≡ old.core → made.core.front.stop ≡ None
  made_run old made between same = ap (λ (c : Core). c.front.stop) same ∙ between.running

  -- snapshots were made, and names settled, on a desk between two epochs
  module _ (old made tidied : Shown D (Round L)) (between : IsBetween old.core) (kept : Keeps old made) (none : (made.core ≡ old.core) × NoneIsDue (keeping old) made.core (shelf made)) (after : Keeps made tidied)
      (tidy : IsTidied (opening_in lines) made tidied) where
    made_runs : made.core.front.stop ≡ None
    made_runs = made_run old made between none.0

    made_settled : made.core.front.settled ≡ true
    made_settled = ap (λ (c : Core). c.front.settled) none.0 ∙ between.settled

    pub tidied_keeps : Keeps old tidied
    tidied_keeps = keeps_on old made tidied kept made_runs after

    pub tidied_run : tidied.core.front.stop ≡ None
    tidied_run = tidied_runs (opening_in lines) made tidied tidy made_runs

    tidied_set : tidied.core.front.settled ≡ true
    tidied_set = tidied_settled (opening_in lines) made tidied tidy made_settled

    tidied_none : NoneIsDue (keeping old) tidied.core (shelf tidied)
    tidied_none = tidied_due (opening_in lines) made tidied (keeping old) tidy made_settled none.1

    no_news : IsLed (opening_in lines) old → (shelf tidied).news ≡ []
    no_news led = tidied_news (opening_in lines) made tidied tidy made_settled (old_desk (opening_in lines) made refl (led_on (opening_in lines) old made kept.driven.entries.0 kept.driven.entries.1 led))

    -- then files were removed, and names settled once more
    module _ (cleared last : Shown D (Round L)) (more : Keeps tidied cleared) (clear : IsCleared (opening_in lines) (keeping tidied) tidied cleared) (end : Keeps cleared last) where
      cleared_keeps : Keeps old cleared
      cleared_keeps = keeps_on old tidied cleared tidied_keeps tidied_run more

      cleared_runs : cleared.core.front.stop ≡ None
      cleared_runs = ap (λ (c : Core). c.front.stop) clear.core ∙ tidied_run

      cleared_settled : cleared.core.front.settled ≡ true
      cleared_settled = ap (λ (c : Core). c.front.settled) clear.core ∙ tidied_set

      pub last_keeps : Keeps old last
      last_keeps = keeps_on old cleared last cleared_keeps cleared_runs end

      cleared_none : NoneIsDue (keeping old) cleared.core (shelf cleared)
      cleared_none = subst (λ (n : ℕ). NoneIsDue n cleared.core (shelf cleared)) (same_keeping old tidied tidied_keeps)
          (clear.none_due (subst (λ (n : ℕ). NoneIsDue n tidied.core (shelf tidied)) (sym (same_keeping old tidied tidied_keeps)) tidied_none))

      upkept : IsLed (opening_in lines) old → IsTidied (opening_in lines) cleared last → IsUpkept (keeping old) last.scope.partitions last.core (shelf last)
      upkept led tidy_last = record {
        tidy = tidied_tidy (opening_in lines) cleared last tidy_last;
        none_due = tidied_due (opening_in lines) cleared last (keeping old) tidy_last cleared_settled cleared_none;
        none_goes = subst (λ (r : Scope). NoneGoes r.partitions last.core (shelf last)) (sym (same_scope cleared last end))
            (tidied_goes (opening_in lines) cleared last cleared.scope.partitions tidy_last cleared_settled (clear.news (no_news led)) clear.none_goes);
      }

      pub all_upkept : IsLed (opening_in lines) old → (result : Result (Unit {0}) Cause) → OnOk result (IsTidied (opening_in lines) cleared last) → OnOk result (IsUpkept (keeping old) last.scope.partitions last.core (shelf last))
      all_upkept led (Ok x) tidy_last = upkept led tidy_last
      all_upkept led (Err f) tidy_last = tt

      pub all_running : (result : Result (Unit {0}) Cause) → OnOk result (IsTidied (opening_in lines) cleared last) → OnOk result (is_stopped last.core.front.stop ≡ false)
      all_running (Ok x) tidy_last = ap is_stopped (tidied_runs (opening_in lines) cleared last tidy_last cleared_runs)
      all_running (Err f) tidy_last = tt

  -- how a round ends, by what came of upkeep at its end
  pub ended : (old new : Shown D (Round L)) (result : Result (Unit {0}) Cause) → ready_of old.scope old.core ≡ ready.Over → Keeps old new → OnOk result (IsUpkept (keeping old) new.scope.partitions new.core (shelf new))
      → OnOk result (is_stopped new.core.front.stop ≡ false) → OnErr result (is_stopped new.core.front.stop ≡ true) → IsEnded (opening_in lines) (keeping old) new
  ended old new (Ok x) over kept done running stopped =
      inl (subst (λ (r : Scope). ready_of r new.core ≡ ready.Over) (sym (same_scope old new kept)) (over_kept old.scope old.core new.core over kept.same running), done)
  ended old new (Err f) over kept done running stopped = inr (stopped_ready new.scope new.core stopped)
