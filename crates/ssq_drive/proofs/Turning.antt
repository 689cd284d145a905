-- What a turn on one thread does to what a desk knows.
use Rattle.std.proofs.Common.{◌≡◌, ◌⊎◌, ◌<◌, ◌≤◌, ◌+◌, ◌*◌, ◌&&◌, ◌||◌, not, ℕ, Bool, true, false, true≢false, List, [], ◌∷◌, Some, None, IfSome, Result, Ok, Err, OnOk, OnErr, IfErr, IsErrOf, if◌then◌else◌, sym, refl, ap, ◌∙◌, subst, inl, inr, arith}
use Rattle.std.specs.List.{list_any}
use Rattle.std.proofs.lemmas.Bool.{cases_lt}
use Rattle.ssq_outside.specs.declared.gate.Kind.{Kind}
use Rattle.ssq_outside.specs.declared.disk.DiskFault.{DiskFault}
use Rattle.ssq_outside.specs.Faults.{Rises}
use Rattle.ssq_board.specs.declared.front.Cause.{Cause}
use Rattle.ssq_board.specs.declared.front.Cause.TheVariants as cause
use Rattle.ssq_board.specs.declared.front.Entry.{Entry}
use Rattle.ssq_board.specs.declared.front.Entry.TheVariants as entry
use Rattle.ssq_board.specs.declared.front.Ready.TheVariants as ready
use Rattle.ssq_board.specs.Core.{Scope, Core, May, after, after_all, is_open, is_stopped, need, ready_of, tasks_of}
use Rattle.ssq_board.specs.Shelf.{Shelf, shelf_all}
use Rattle.ssq_board.specs.Shown.{IsSound}
use Rattle.ssq_board.specs.Rounds.{HasCap, IsAtRest, is_away, one_if, weigh, epochs_left, weight, left}
use Rattle.ssq_board.proofs.Falls.{plan_falls, sync_falls, commit_falls}
use Rattle.ssq_board.proofs.Readies.{plan_may, full_is, commit_may, sync_due}
use Rattle.ssq_board.proofs.Resting.{plan_turn, sync_turn, commit_turn, front_here}
use Rattle.ssq_ledger.specs.Shown.{Shown, HasRisen, IsUnplanned, did}
use Rattle.ssq_ledger.proofs.Planning.{plan_runs}
use Rattle.ssq_drive.specs.Driven.{StopsFor, no_file, IsTurn, brings_due}

-- a turn, as far as it goes by what a desk knows
pub record Goes (r : Scope) (c n : Core) (before now : ℕ) : Type 0 where
  pub running : c.front.stop ≡ None
  pub less : left r n < left r c
  pub rest : IsAtRest n
  pub cause : IfSome n.front.stop (StopsFor no_file r n before now)

pub goes_turn : {D O : Type 0} (faults : D → ℕ) (closing : Bool) (old new : Shown D O) (es : List Entry) → new ≡ did old new.disk es → (closing ≡ false → list_any brings_due es ≡ false)
    → ((k : Shelf) → k.claimed ≡ [] → (shelf_all old.scope old.core k es).claimed ≡ []) → Goes old.scope old.core (after_all old.scope old.core es) (faults old.disk) (faults new.disk)
    → faults old.disk ≤ faults new.disk → IsTurn faults closing old new
goes_turn faults closing old new es is undue back goes counted =
    let g = subst (λ (n : Core). Goes old.scope old.core n (faults old.disk) (faults new.disk)) (sym (ap (λ s. s.core) is)) goes in
    record { running = g.running; less = g.less; driven = record { entries = (es, is); quiet = undue; returned = back; stopped = λ f stops. absurd (both f stops g.running); rest = g.rest; cause = λ run. g.cause; counted = counted } }
  where
    both : (f : Cause) → old.core.front.stop ≡ Some f → old.core.front.stop ≡ None → ⊥
    both f stops running = cc

-- a desk that stopped is at rest where nobody has a task
pub rests : (n : Core) → ((k : Kind) → list_any is_away (tasks_of k n) ≡ false) → IsAtRest n ⊎ (is_stopped n.front.stop ≡ true) → IsAtRest n
rests n here (inl rest) = rest
rests n here (inr stopped) = record { here = here; outs = λ o running. absurd (true≢false (sym stopped ∙ ap is_stopped running)) }

-- and one that runs in any case
pub runs_rest : (n : Core) → n.front.stop ≡ None → IsAtRest n ⊎ (is_stopped n.front.stop ≡ true) → IsAtRest n
runs_rest n running (inl rest) = rest
runs_rest n running (inr stopped) = absurd (true≢false (sym stopped ∙ ap is_stopped running))

-- a Stop leaves nothing to do
pub none_left : (r : Scope) (c n : Core) → c.front.stop ≡ None → is_stopped n.front.stop ≡ true → left r n < left r c
none_left r c n running stopped = by (is_stopped c.front.stop) (is_stopped n.front.stop) (rest r c) (rest r n) (ap is_stopped running) stopped
  where
    rest : Scope → Core → ℕ
    rest r c = weigh (weight r) (epochs_left r c) + 2 * need c + one_if (not c.front.settled) + one_if (is_open c && not c.front.fresh)

    by : (a b : Bool) (x y : ℕ) → a ≡ false → b ≡ true → (if b then 0 else 1 + y) < (if a then 0 else 1 + x)
    by false true x y runs stops = omega arith
    by false false x y runs stops = absurd (true≢false (sym stops))
    by true b x y runs stops = absurd (true≢false runs)

pub stop_goes : (r : Scope) (c : Core) (f : Cause) (before now : ℕ) → c.front.stop ≡ None → IsAtRest c → StopsFor no_file r (after r c (entry.Stop f)) before now f → Goes r c (after r c (entry.Stop f)) before now
stop_goes r c f before now running rest why = record {
  running = running;
  less = none_left r c (after r c (entry.Stop f)) running refl;
  rest = rests (after r c (entry.Stop f)) (front_here c (after r c (entry.Stop f)) refl refl refl rest.here) (inr refl);
  cause = why;
}

pub risen_stops : (r : Scope) (c : Core) (f : Cause) (before now : ℕ) → HasRisen f before now → StopsFor no_file r c before now f
risen_stops r c (cause.BadLine s p o x) before now risen = absurd risen
risen_stops r c (cause.Overflow s p o) before now risen = absurd risen
risen_stops r c cause.KeyOverflow before now risen = absurd risen
risen_stops r c cause.LogFault before now risen = absurd risen
risen_stops r c (cause.LogShort s p l x) before now risen = absurd risen
risen_stops r c (cause.Damaged q) before now risen = absurd risen
risen_stops r c cause.DiskFault before now risen = risen
risen_stops r c cause.Full before now risen = absurd risen
risen_stops r c cause.NoMemory before now risen = tt

unplanned_stops : (r : Scope) (c : Core) (f : Cause) (before now : ℕ) → ready_of r c ≡ ready.Plan → IsUnplanned c.front.planned before now f → StopsFor no_file r (after r c (entry.Stop f)) before now f
unplanned_stops r c (cause.BadLine s p o x) before now is risen = absurd risen
unplanned_stops r c (cause.Overflow s p o) before now is risen = absurd risen
unplanned_stops r c cause.KeyOverflow before now is risen = absurd risen
unplanned_stops r c cause.LogFault before now is risen = absurd risen
unplanned_stops r c (cause.LogShort s p l x) before now is risen = absurd risen
unplanned_stops r c (cause.Damaged q) before now is risen = absurd risen
unplanned_stops r c cause.DiskFault before now is risen = risen
unplanned_stops r c cause.Full before now is full = full_is r c is full
unplanned_stops r c cause.NoMemory before now is risen = tt

-- what is due of a query that closes alone is not of another
not_due : {closing : Bool} (due : Bool) → closing ≡ false → (due ≡ true → closing ≡ true) → due ≡ false
not_due false none so = refl
not_due true none so = absurd (true≢false (sym (so refl) ∙ none))

module _ {D O : Type 0} (faults : D → ℕ) (closing : Bool) (old new : Shown D O) where
  -- a plan
  pub planned : (result : Result (Unit {0}) Cause) → HasCap old.scope.cap → IsSound old.scope old.core → IsAtRest old.core → ready_of old.scope old.core ≡ ready.Plan → old.core.front.planned ≤ 4294967295
      → OnOk result (new ≡ did old new.disk (entry.Plan old.core.front.planned ∷ []))
      → IfErr result (λ f. (new ≡ did old new.disk (entry.Stop f ∷ [])) × IsUnplanned old.core.front.planned (faults old.disk) (faults new.disk) f)
      → (old.core.front.planned ≡ 4294967295 → IsErrOf result cause.Full) → faults old.disk ≤ faults new.disk → IsTurn faults closing old new
  planned (Ok x) has_cap sound rest next few done stopped full counted =
      let r = old.scope in
      let c = old.core in
      let running = plan_runs r c next in
      let may : May r c (entry.Plan c.front.planned) = plan_may r c next (below few full) in
      let n = after r c (entry.Plan c.front.planned) in
      let goes : Goes r c n (faults old.disk) (faults new.disk) = record {
        running = running;
        less = plan_falls r c n c.front.planned sound has_cap may (inl refl);
        rest = runs_rest n refl (plan_turn r c n c.front.planned (inl refl));
        cause = tt;
      } in
      goes_turn faults closing old new (entry.Plan c.front.planned ∷ []) done (λ none. refl) (λ k none. none) goes counted
    where
      ok_err : Ok x ≡ Err cause.Full → ⊥
      ok_err e = cc

      below : old.core.front.planned ≤ 4294967295 → (old.core.front.planned ≡ 4294967295 → IsErrOf (Ok x) cause.Full) → old.core.front.planned < 4294967295
      below few full = elim (cases_lt old.core.front.planned 4294967295) [ inl less ↦ less | inr most ↦ absurd (ok_err (full (omega (arith, few, most)))) ]
  planned (Err f) has_cap sound rest next few done stopped full counted =
      goes_turn faults closing old new (entry.Stop f ∷ []) stopped.0 (λ none. refl) (λ k none. none) (stop_goes old.scope old.core f (faults old.disk) (faults new.disk) (plan_runs old.scope old.core next) rest (unplanned_stops old.scope old.core f (faults old.disk) (faults new.disk) next stopped.1)) counted

  -- a sync
  pub synced : (result : Result (Unit {0}) Cause) → IsAtRest old.core → ready_of old.scope old.core ≡ ready.Sync
      → OnOk result ((clock : ℕ) × (new ≡ did old new.disk (entry.Sync clock ∷ [])))
      → IfErr result (λ f. (new ≡ did old new.disk (entry.Stop f ∷ [])) × HasRisen f (faults old.disk) (faults new.disk))
      → faults old.disk ≤ faults new.disk → IsTurn faults closing old new
  synced (Ok x) rest next done stopped counted =
      let r = old.scope in
      let c = old.core in
      let d = sync_due r c next in
      let n = after r c (entry.Sync done.0) in
      let goes : Goes r c n (faults old.disk) (faults new.disk) = record {
        running = d.0;
        less = sync_falls r c n done.0 d.0 d.1 (inl refl);
        rest = runs_rest n refl (sync_turn r c n done.0 d.0 rest (inl refl));
        cause = tt;
      } in
      goes_turn faults closing old new (entry.Sync done.0 ∷ []) done.1 (λ none. refl) (λ k none. none) goes counted
  synced (Err f) rest next done stopped counted =
      goes_turn faults closing old new (entry.Stop f ∷ []) stopped.0 (λ none. refl) (λ k none. none) (stop_goes old.scope old.core f (faults old.disk) (faults new.disk) (sync_due old.scope old.core next).0 rest (risen_stops old.scope (after old.scope old.core (entry.Stop f)) f (faults old.disk) (faults new.disk) stopped.1)) counted

  -- a commit
  pub committed : (result : Result (Unit {0}) DiskFault) → IsSound old.scope old.core → IsAtRest old.core → ready_of old.scope old.core ≡ ready.Commit
      → OnOk result ((due : Bool) × (new ≡ did old new.disk (entry.Commit old.core.front.committed due ∷ [])) × (due ≡ true → closing ≡ true))
      → OnErr result ((new ≡ did old new.disk (entry.Stop cause.DiskFault ∷ [])) × Rises (faults old.disk) (faults new.disk))
      → faults old.disk ≤ faults new.disk → IsTurn faults closing old new
  committed (Ok x) sound rest next done stopped counted =
      let r = old.scope in
      let c = old.core in
      let due = done.0 in
      let may : May r c (entry.Commit c.front.committed due) = commit_may r c due next in
      let n = after r c (entry.Commit c.front.committed due) in
      let goes : Goes r c n (faults old.disk) (faults new.disk) = record {
        running = may.0;
        less = commit_falls r c n c.front.committed due sound may (inl refl);
        rest = runs_rest n refl (commit_turn r c n c.front.committed due sound rest (inl refl));
        cause = tt;
      } in
      goes_turn faults closing old new (entry.Commit c.front.committed due ∷ []) done.1 (λ none. ap (λ (b : Bool). b || false) (not_due due none done.2)) (λ k none. none) goes counted
  committed (Err f) sound rest next done stopped counted =
      goes_turn faults closing old new (entry.Stop cause.DiskFault ∷ []) stopped.0 (λ none. refl) (λ k none. none) (stop_goes old.scope old.core cause.DiskFault (faults old.disk) (faults new.disk) (commit_may old.scope old.core false next).0 rest stopped.1) counted
