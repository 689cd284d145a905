-- Upkeep, by what a desk knows.
use Rattle.std.proofs.Common.{◌≡◌, ◌⊎◌, ◌<◌, ◌≤◌, ◌+◌, ◌*◌, ◌-◌, ◌&&◌, ◌||◌, ◌++◌, not, ℕ, Bool, true, false, true≢false, List, [], ◌∷◌, length, Option, Some, None, IfSome, if◌then◌else◌, sym, refl, ap, ◌∙◌, subst, inl, inr, le_refl, append_assoc, arith, ltb-true, le-ltb}
use Rattle.std.specs.List.{list_any}
use Rattle.std.proofs.lemmas.Bool.{or_left}
use borrow.Author.Tests.{not-false}
use Rattle.ssq_outside.specs.declared.name.Name.{Name}
use Rattle.ssq_outside.specs.declared.name.Name.TheVariants as name
use Rattle.ssq_outside.specs.Files.{same_name}
use Rattle.ssq_outside.specs.Faults.{Rises}
use Rattle.ssq_outside.proofs.Names.{same_name-same}
use Rattle.ssq_upkeep.specs.Upkeep.{Goes, IsDue, is_among}
use Rattle.ssq_upkeep.proofs.Among.{among_both}
use Rattle.ssq_board.specs.declared.front.Cause.{Cause}
use Rattle.ssq_board.specs.declared.front.Cause.TheVariants as cause
use Rattle.ssq_board.specs.declared.front.Entry.{Entry}
use Rattle.ssq_board.specs.declared.front.Entry.TheVariants as entry
use Rattle.ssq_board.specs.declared.front.Ready.TheVariants as ready
use Rattle.ssq_board.specs.Core.{Scope, Core, after, after_all, is_open, is_more, is_stopped, need, or_stop, ready_of, ready_tasks}
use Rattle.ssq_board.specs.Rounds.{IsAtRest, epochs_left, left, one_if, weigh, weight}
use Rattle.ssq_board.specs.Shelf.{Shelf, acknowledged_in, asked_in, last_before, last_of, shelf_all, shelf_by, snapshot_on, there_in, version_on, without}
use Rattle.ssq_board.specs.Shown.{first}
use Rattle.ssq_board.proofs.Keeping.{up_to_is}
use Rattle.ssq_board.proofs.Readies.{past, over_is}
use Rattle.ssq_board.proofs.Resting.{front_here}
use Rattle.ssq_board.proofs.Telling.{Runs, now_stopped}
use Rattle.ssq_board.proofs.Sounds.{running_of}
use Rattle.ssq_promise.proofs.Truths.{either_of}
use Rattle.ssq_ledger.specs.Shown.{Opening, Shown, HasRisen, did, shelf_of}
use Rattle.ssq_ledger.specs.Upkept.{NoneIsDue, NoneGoes}
use Rattle.ssq_ledger.proofs.Ledgers.{shelf_more}
use Rattle.ssq_ledger.proofs.Shelves.{without_most}
use Rattle.ssq_desk.specs.Upkeep.{FailsFor}
use Rattle.ssq_desk.proofs.Betweens.{tasks_not}
use Rattle.ssq_drive.specs.Driven.{StopsFor, IsTidied, KeepsUp, brings_due, lacking_in, rested, unmade}
use Rattle.ssq_drive.proofs.Dueness.{among_first, among_second, due_before, due_without, first_of, goes_settled}
use Rattle.ssq_drive.proofs.Going.{driven_more, shelf_on, undriven}
use Rattle.ssq_drive.proofs.Lacking.{one_made_in, one_gone}
use Rattle.ssq_drive.proofs.Turning.{rests}

-- a desk that is stopped does not run
no_stop : (f : Cause) (o : Option Cause) → o ≡ Some f → o ≡ None → ⊥
no_stop f o stops running = cc

pub stops_not : (o : Option Cause) → o ≡ None → is_stopped o ≡ true → ⊥
stops_not o running stopped = true≢false (sym stopped ∙ ap is_stopped running)

-- why a call of upkeep failed is why the desk stopped
pub fails_stop : (IsBad P : Name → Type 0) (r : Scope) (c : Core) (before now : ℕ) (f : Cause) → ((q : Name) → IsBad q → P q) → FailsFor IsBad before now f → StopsFor P r c before now f
fails_stop IsBad P r c before now (cause.BadLine s p o x) bad why = absurd why
fails_stop IsBad P r c before now (cause.Overflow s p o) bad why = absurd why
fails_stop IsBad P r c before now cause.KeyOverflow bad why = absurd why
fails_stop IsBad P r c before now cause.LogFault bad why = absurd why
fails_stop IsBad P r c before now (cause.LogShort s p l x) bad why = absurd why
fails_stop IsBad P r c before now (cause.Damaged q) bad why = bad q why
fails_stop IsBad P r c before now cause.DiskFault bad why = why
fails_stop IsBad P r c before now cause.Full bad why = absurd why
fails_stop IsBad P r c before now cause.NoMemory bad why = tt

-- and so is a fault of the disk
pub rises_stop : (P : Name → Type 0) (r : Scope) (c : Core) (before now : ℕ) (f : Cause) → HasRisen f before now → StopsFor P r c before now f
rises_stop P r c before now (cause.BadLine s p o x) risen = absurd risen
rises_stop P r c before now (cause.Overflow s p o) risen = absurd risen
rises_stop P r c before now cause.KeyOverflow risen = absurd risen
rises_stop P r c before now cause.LogFault risen = absurd risen
rises_stop P r c before now (cause.LogShort s p l x) risen = absurd risen
rises_stop P r c before now (cause.Damaged q) risen = absurd risen
rises_stop P r c before now cause.DiskFault risen = risen
rises_stop P r c before now cause.Full risen = absurd risen
rises_stop P r c before now cause.NoMemory risen = tt

-- ---- what is being made

snapshot_claims : (b : Bool) (q : Name) (s : Shelf) → (snapshot_on b q s).claimed ≡ without q s.claimed
snapshot_claims true q s = refl
snapshot_claims false q s = refl

one_claimed : (q : Name) (l : List Name) → l ≡ [] → without q (l ++ q ∷ []) ≡ []
one_claimed q l none =
    subst (λ (l : List Name). without q (l ++ q ∷ []) ≡ []) (sym none)
    (let is : without q (q ∷ []) ≡ [] = ap (λ (b : Bool). if not b then q ∷ [] else []) (same_name-same q) in is)

-- ---- what the desk knows

-- entries of upkeep move no task
record Stays (c n : Core) : Type 0 where
  maps : n.maps ≡ c.maps
  reduces : n.reduces ≡ c.reduces
  outs : n.outs ≡ c.outs
  same : (n ≡ c) ⊎ ((n ≡ rested c) ⊎ (is_stopped n.front.stop ≡ true))

rest_on : (c n : Core) → c.front.stop ≡ None → IsAtRest c → Stays c n → IsAtRest n
rest_on c n running rest s = by s.same
  where
    by : (n ≡ c) ⊎ ((n ≡ rested c) ⊎ (is_stopped n.front.stop ≡ true)) → IsAtRest n
    by (inl is) = subst IsAtRest (sym is) rest
    by (inr (inl is)) = subst IsAtRest (sym is) (record { here = front_here c (rested c) refl refl refl rest.here; outs = λ opened run. rest.outs opened running })
    by (inr (inr stopped)) = rests n (front_here c n s.maps s.reduces s.outs rest.here) (inr stopped)

all_same : (c : Core) → Stays c c
all_same c = record { maps = refl; reduces = refl; outs = refl; same = inl refl }

module _ {D O : Type 0} (faults : D → ℕ) (P : Shown D O → Name → Type 0) (closing : Bool) where
  keeps : (old new : Shown D O) (es : List Entry) → new ≡ did old new.disk es → old.core.front.stop ≡ None → IsAtRest old.core → list_any brings_due es ≡ false
      → ((k : Shelf) → k.claimed ≡ [] → (shelf_all old.scope old.core k es).claimed ≡ []) → Stays old.core (after_all old.scope old.core es)
      → IfSome (after_all old.scope old.core es).front.stop (StopsFor (P new) old.scope new.core (faults old.disk) (faults new.disk)) → faults old.disk ≤ faults new.disk → KeepsUp faults P closing old new
  keeps old new es is running rest undue back stays why counted =
      let core : new.core ≡ after_all old.scope old.core es = ap (λ s. s.core) is in
      record {
        driven = record {
          entries = (es, is);
          quiet = λ none. undue;
          returned = back;
          stopped = λ f stops. absurd (no_stop f old.core.front.stop stops running);
          rest = subst IsAtRest (sym core) (rest_on old.core (after_all old.scope old.core es) running rest stays);
          cause = λ run. subst (λ (c : Core). IfSome c.front.stop (StopsFor (P new) old.scope new.core (faults old.disk) (faults new.disk))) (sym core) why;
          counted = counted;
        };
        same = subst (λ (c : Core). (c ≡ old.core) ⊎ ((c ≡ rested old.core) ⊎ (is_stopped c.front.stop ≡ true))) (sym core) stays.same;
      }

  -- nothing was done
  keeps_none : (old : Shown D O) → IsAtRest old.core → KeepsUp faults P closing old old
  keeps_none old rest = record { driven = undriven faults P closing old rest; same = inl refl }

  pub keeps_still : (old new : Shown D O) → new ≡ old → IsAtRest old.core → KeepsUp faults P closing old new
  keeps_still old new is rest = subst (KeepsUp faults P closing old) (sym is) (keeps_none old rest)

  -- a call failed that did nothing
  pub keeps_stop : (old new : Shown D O) (f : Cause) → new ≡ did old new.disk (entry.Stop f ∷ []) → old.core.front.stop ≡ None → IsAtRest old.core → HasRisen f (faults old.disk) (faults new.disk) → faults old.disk ≤ faults new.disk
      → KeepsUp faults P closing old new
  keeps_stop old new f is running rest risen counted =
      keeps old new (entry.Stop f ∷ []) is running rest refl (λ k none. none) (record { maps = refl; reduces = refl; outs = refl; same = inr (inr refl) })
      (rises_stop (P new) old.scope new.core (faults old.disk) (faults new.disk) f risen) counted

  pub keeps_sync : (old new : Shown D O) (clock : ℕ) → new ≡ did old new.disk (entry.Sync clock ∷ []) → old.core.front.stop ≡ None → IsAtRest old.core → faults old.disk ≤ faults new.disk → KeepsUp faults P closing old new
  keeps_sync old new clock is running rest counted =
      keeps old new (entry.Sync clock ∷ []) is running rest refl (λ k none. none) (record { maps = refl; reduces = refl; outs = refl; same = inr (inl refl) }) tt counted

  pub keeps_drop : (old new : Shown D O) (q : Name) → new ≡ did old new.disk (entry.Drop q ∷ []) → old.core.front.stop ≡ None → IsAtRest old.core → faults old.disk ≤ faults new.disk → KeepsUp faults P closing old new
  keeps_drop old new q is running rest counted =
      keeps old new (entry.Drop q ∷ []) is running rest refl (λ k none. none) (all_same old.core)
      (subst (λ (o : Option Cause). IfSome o (StopsFor (P new) old.scope new.core (faults old.disk) (faults new.disk))) (sym running) tt) counted

  pub keeps_undropped : (old new : Shown D O) (q : Name) → new ≡ did old new.disk (entry.Undropped q ∷ []) → old.core.front.stop ≡ None → IsAtRest old.core → Rises (faults old.disk) (faults new.disk) → faults old.disk ≤ faults new.disk
      → KeepsUp faults P closing old new
  keeps_undropped old new q is running rest risen counted =
      keeps old new (entry.Undropped q ∷ []) is running rest refl (λ k none. none) (record { maps = refl; reduces = refl; outs = refl; same = inr (inr refl) }) risen counted

  -- a snapshot was made
  pub keeps_made : (old new : Shown D O) (p v : ℕ) → new ≡ did old new.disk (entry.Upkeep p v ∷ entry.Snapshot p v ∷ []) → old.core.front.stop ≡ None → IsAtRest old.core → faults old.disk ≤ faults new.disk → KeepsUp faults P closing old new
  keeps_made old new p v is running rest counted =
      keeps old new (entry.Upkeep p v ∷ entry.Snapshot p v ∷ []) is running rest refl
      (λ k none. snapshot_claims (is_stopped old.core.front.stop) (name.Snapshot p v) (shelf_by old.core k (entry.Upkeep p v)) ∙ one_claimed (name.Snapshot p v) k.claimed none) (all_same old.core)
      (subst (λ (o : Option Cause). IfSome o (StopsFor (P new) old.scope new.core (faults old.disk) (faults new.disk))) (sym running) tt) counted

  -- or it was not
  pub keeps_unmade : (old new : Shown D O) (p v : ℕ) (f : Cause) → new ≡ did old new.disk (entry.Upkeep p v ∷ entry.Unmade p v f ∷ []) → old.core.front.stop ≡ None → IsAtRest old.core
      → StopsFor (P new) old.scope new.core (faults old.disk) (faults new.disk) f → faults old.disk ≤ faults new.disk → KeepsUp faults P closing old new
  keeps_unmade old new p v f is running rest why counted =
      keeps old new (entry.Upkeep p v ∷ entry.Unmade p v f ∷ []) is running rest refl (λ k none. one_claimed (name.Snapshot p v) k.claimed none)
      (record { maps = refl; reduces = refl; outs = refl; same = inr (inr (now_stopped old.core.front.stop f)) })
      (subst (λ (o : Option Cause). IfSome (or_stop o (Some f)) (StopsFor (P new) old.scope new.core (faults old.disk) (faults new.disk))) (sym running) why) counted

  pub keeps_untaken : (old new : Shown D O) (p v : ℕ) → new ≡ did old new.disk (entry.Upkeep p v ∷ entry.Untaken p v ∷ []) → old.core.front.stop ≡ None → IsAtRest old.core → Rises (faults old.disk) (faults new.disk)
      → faults old.disk ≤ faults new.disk → KeepsUp faults P closing old new
  keeps_untaken old new p v is running rest risen counted =
      keeps old new (entry.Upkeep p v ∷ entry.Untaken p v ∷ []) is running rest refl (λ k none. one_claimed (name.Snapshot p v) k.claimed none)
      (record { maps = refl; reduces = refl; outs = refl; same = inr (inr refl) }) risen counted

  -- what was done, and what was done then
  pub keeps_more : (a b c : Shown D O) → KeepsUp faults P closing a b → b.core.front.stop ≡ None → KeepsUp faults P closing b c → KeepsUp faults P closing a c
  keeps_more a b c first running later = record { driven = driven_more faults P closing a b c first.driven later.driven; same = by first.same later.same }
    where
      by : (b.core ≡ a.core) ⊎ ((b.core ≡ rested a.core) ⊎ (is_stopped b.core.front.stop ≡ true)) → (c.core ≡ b.core) ⊎ ((c.core ≡ rested b.core) ⊎ (is_stopped c.core.front.stop ≡ true))
          → (c.core ≡ a.core) ⊎ ((c.core ≡ rested a.core) ⊎ (is_stopped c.core.front.stop ≡ true))
      by (inl e) (inl f) = inl (f ∙ e)
      by (inl e) (inr (inl f)) = inr (inl (f ∙ ap rested e))
      by (inr (inl e)) (inl f) = inr (inl (f ∙ e))
      by (inr (inl e)) (inr (inl f)) = inr (inl (f ∙ ap rested e))
      by (inr (inr stopped)) later = absurd (stops_not b.core.front.stop running stopped)
      by first (inr (inr stopped)) = inr (inr stopped)

-- ---- what is left to do

left_less : (stopped settled fresh opened : Bool) (w n : ℕ) → stopped ≡ false → 1 + (w + 2 * n + one_if false + one_if (opened && false)) ≤ (if stopped then 0 else 1 + (w + 2 * n + one_if (not settled) + one_if (opened && not fresh)))
left_less true settled fresh opened w n runs = absurd (true≢false runs)
left_less false settled fresh false w n runs = omega arith
left_less false settled fresh true w n runs = omega arith

none_of : (stopped : Bool) (n m : ℕ) → stopped ≡ true → (if stopped then 0 else n) ≤ m
none_of true n m is = omega arith
none_of false n m is = absurd (true≢false (sym is))

-- upkeep leaves no more to do
pub left_kept : (r : Scope) (c n : Core) → c.front.stop ≡ None → (n ≡ c) ⊎ ((n ≡ rested c) ⊎ (is_stopped n.front.stop ≡ true)) → left r n ≤ left r c
left_kept r c n running (inl is) = subst (λ (x : Core). left r x ≤ left r c) (sym is) (le_refl (left r c))
left_kept r c n running (inr (inl is)) = subst (λ (x : Core). left r x ≤ left r c) (sym is) (
    let most : need (rested c) ≡ need c = ap (λ (o : Option Cause). need (record { front = record { planned = c.front.planned; committed = c.front.committed; fresh = true; settled = true; written = c.front.written; has_lines = c.front.has_lines; due = c.front.due; stop = o }; ends = c.ends; maps = c.maps; reduces = c.reduces; outs = c.outs })) (sym running) in
    subst (λ (m : ℕ). 1 + (weigh (weight r) (epochs_left r c) + 2 * m + one_if false + one_if (is_open c && false)) ≤ left r c) (sym most)
    (left_less (is_stopped c.front.stop) c.front.settled c.front.fresh (is_open c) (weigh (weight r) (epochs_left r c)) (need c) (ap is_stopped running)))
left_kept r c n running (inr (inr stopped)) = none_of (is_stopped n.front.stop) (1 + (weigh (weight r) (epochs_left r n) + 2 * need n + one_if (not n.front.settled) + one_if (is_open n && not n.front.fresh))) (left r c) stopped

-- ---- where an epoch may be planned, or the round is over

pub record IsBetween (c : Core) : Type 0 where
  pub running : c.front.stop ≡ None
  pub settled : c.front.settled ≡ true

pub plan_between : (r : Scope) (c : Core) → ready_of r c ≡ ready.Plan → IsBetween c
plan_between r c next =
    let a = past (is_stopped c.front.stop) _ _ _ next (λ x. cc) in
    let b = past (is_open c) (ready_tasks c) _ _ a.1 (tasks_not c) in
    let d = past (not c.front.settled) _ _ _ b.1 (λ x. cc) in
    record { running = running_of c.front.stop a.0; settled = not-false c.front.settled d.0 }

over_between : (r : Scope) (c : Core) → ready_of r c ≡ ready.Over → IsBetween c
over_between r c next = (let o = over_is r c next in record { running = o.0; settled = o.2 })

pub between_of : (r : Scope) (c : Core) → (ready_of r c ≡ ready.Plan) ⊎ (ready_of r c ≡ ready.Over) → IsBetween c
between_of r c (inl plan) = plan_between r c plan
between_of r c (inr over) = over_between r c over

-- a round that is over stays so
pub over_kept : (r : Scope) (c n : Core) → ready_of r c ≡ ready.Over → (n ≡ c) ⊎ ((n ≡ rested c) ⊎ (is_stopped n.front.stop ≡ true)) → is_stopped n.front.stop ≡ false → ready_of r n ≡ ready.Over
over_kept r c n over (inl is) runs = subst (λ (x : Core). ready_of r x ≡ ready.Over) (sym is) over
over_kept r c n over (inr (inl is)) runs =
    let o = over_is r c over in
    subst (λ (x : Core). ready_of r x ≡ ready.Over) (sym is)
    (λ i. if le-ltb c.front.committed c.front.planned o.1 i then ready_tasks (rested c) else (if (o.3 i || o.4 i) then ready.Plan else ready.Over))
over_kept r c n over (inr (inr stopped)) runs = absurd (true≢false (sym stopped ∙ runs))

pub stopped_ready : (r : Scope) (c : Core) → is_stopped c.front.stop ≡ true → ready_of r c ≡ ready.Stopped
stopped_ready r c is = ap (λ (b : Bool). if b then ready.Stopped else (if is_open c then ready_tasks c else (if not c.front.settled then ready.Sync else (if is_more r c then ready.Plan else ready.Over)))) is

-- ---- the last acknowledged epoch

acknowledged_all : (c : Core) → c.front.settled ≡ true → acknowledged_in c ≡ c.front.committed
acknowledged_all c settled = by (is_open c) c.front.settled settled
  where
    by : (a b : Bool) → b ≡ true → (if a || b then c.front.committed else c.front.committed - 1) ≡ c.front.committed
    by true b is = refl
    by false true is = refl
    by false false is = absurd (true≢false (sym is))

pub last_rested : (c : Core) → c.front.settled ≡ true → last_of (rested c) ≡ last_of c
last_rested c settled = ap last_before (acknowledged_all (rested c) refl ∙ sym (acknowledged_all c settled))

-- ---- the files of the state

pub runs_core : (r : Scope) (c : Core) (es : List Entry) (n : Core) → Runs r c es n → n ≡ after_all r c es
runs_core r c [] n runs = sym runs
runs_core r c (e ∷ es) n runs = runs_core r (after r c e) es n runs.1

-- where nothing is to be settled no file is new
abbrev pub IsOld : Core → Shelf → Type 0
IsOld c k = c.front.settled ≡ true → k.tidy ≡ true → k.news ≡ []

version_old : (b s : Bool) (q : Name) (k : Shelf) → (s ≡ true → k.tidy ≡ true → k.news ≡ []) → (b && s) ≡ true → (version_on b q k).tidy ≡ true → (version_on b q k).news ≡ []
version_old true s q k before settled tidy = before settled tidy
version_old false s q k before settled tidy = absurd (true≢false (sym settled))

snapshot_old : (b s : Bool) (q : Name) (k : Shelf) → (s ≡ true → k.tidy ≡ true → k.news ≡ []) → s ≡ true → (snapshot_on b q k).tidy ≡ true → (snapshot_on b q k).news ≡ []
snapshot_old true s q k before settled tidy = before settled tidy
snapshot_old false s q k before settled tidy = absurd (true≢false (sym tidy))

old_by : (r : Scope) (c : Core) (k : Shelf) (e : Entry) → IsOld c k → IsOld (after r c e) (shelf_by c k e)
old_by r c k (entry.Plan e) before settled tidy = absurd (true≢false (sym settled))
old_by r c k (entry.Claim t) before settled tidy = before settled tidy
old_by r c k (entry.Report t f) before settled tidy = before settled tidy
old_by r c k (entry.Version t) before settled tidy = version_old (is_stopped c.front.stop) c.front.settled (name.Delta t.number t.epoch) k before settled tidy
old_by r c k (entry.Missed t) before settled tidy = before settled tidy
old_by r c k (entry.OutFile e) before settled tidy = absurd (true≢false (sym settled))
old_by r c k (entry.Sync clock) before settled tidy = refl
old_by r c k (entry.Commit e due) before settled tidy = absurd (true≢false (sym settled))
old_by r c k (entry.Upkeep p v) before settled tidy = before settled tidy
old_by r c k (entry.Snapshot p v) before settled tidy = snapshot_old (is_stopped c.front.stop) c.front.settled (name.Snapshot p v) k before settled tidy
old_by r c k (entry.Unmade p v f) before settled tidy = before settled tidy
old_by r c k (entry.Untaken p v) before settled tidy = before settled tidy
old_by r c k (entry.Drop q) before settled tidy = absurd (true≢false (sym tidy))
old_by r c k (entry.Undropped q) before settled tidy = before settled tidy
old_by r c k (entry.Stop f) before settled tidy = before settled tidy

pub old_all : (r : Scope) (c : Core) (k : Shelf) (es : List Entry) → IsOld c k → IsOld (after_all r c es) (shelf_all r c k es)
old_all r c k [] before = before
old_all r c k (e ∷ es) before = old_all r (after r c e) (shelf_by c k e) es (old_by r c k e before)

module _ {D O : Type 0} (opening : O → Opening) where
  -- what a desk knows is what its history led to
  abbrev pub IsLed : Shown D O → Type 0
  IsLed s = s.core ≡ after_all s.scope (first s.scope (opening s.opening).start) s.history

  pub old_desk : (s : Shown D O) → (opening s.opening).shelf.news ≡ [] → IsLed s → IsOld s.core (shelf_of opening s)
  old_desk s none led = subst (λ (c : Core). IsOld c (shelf_of opening s)) (sym led) (old_all s.scope (first s.scope (opening s.opening).start) (opening s.opening).shelf s.history (λ settled tidy. none))

  pub shelf_did : (old new : Shown D O) (e : Entry) → new ≡ did old new.disk (e ∷ []) → shelf_of opening new ≡ shelf_by (after_all old.scope (first old.scope (opening old.opening).start) old.history) (shelf_of opening old) e
  shelf_did old new e is = ap (shelf_of opening) is ∙ shelf_more old.scope (opening old.opening).shelf (first old.scope (opening old.opening).start) old.history e

  module _ (old new : Shown D O) where
    abbrev pub k : Shelf
    k = shelf_of opening old

    abbrev pub synced : Shelf
    synced = record { settled = there_in k; news = []; claimed = k.claimed; tidy = true }

    synced_is : (clock : ℕ) → new ≡ did old new.disk (entry.Sync clock ∷ []) → shelf_of opening new ≡ synced
    synced_is clock is = shelf_did old new (entry.Sync clock) is

    core_is : (clock : ℕ) → new ≡ did old new.disk (entry.Sync clock ∷ []) → new.core ≡ rested old.core
    core_is clock is = ap (λ s. s.core) is

    pub tidied_core : IsTidied opening old new → (new.core ≡ old.core) ⊎ (new.core ≡ rested old.core)
    tidied_core (inl same) = inl (ap (λ s. s.core) same.0)
    tidied_core (inr synced) = inr (core_is synced.0 synced.1)

    pub tidied_runs : IsTidied opening old new → old.core.front.stop ≡ None → new.core.front.stop ≡ None
    tidied_runs tidied running = elim (tidied_core tidied) [ inl is ↦ ap (λ (c : Core). c.front.stop) is ∙ running | inr is ↦ ap (λ (c : Core). c.front.stop) is ]

    pub tidied_settled : IsTidied opening old new → old.core.front.settled ≡ true → new.core.front.settled ≡ true
    tidied_settled tidied settled = elim (tidied_core tidied) [ inl is ↦ ap (λ (c : Core). c.front.settled) is ∙ settled | inr is ↦ ap (λ (c : Core). c.front.settled) is ]

    pub tidied_tidy : IsTidied opening old new → (shelf_of opening new).tidy ≡ true
    tidied_tidy (inl same) = ap (λ (s : Shown D O). (shelf_of opening s).tidy) same.0 ∙ same.1
    tidied_tidy (inr synced) = ap (λ (s : Shelf). s.tidy) (synced_is synced.0 synced.1)

    pub tidied_news : IsTidied opening old new → old.core.front.settled ≡ true → IsOld old.core k → (shelf_of opening new).news ≡ []
    tidied_news (inl same) settled old_files = ap (λ (s : Shown D O). (shelf_of opening s).news) same.0 ∙ old_files settled same.1
    tidied_news (inr synced) settled old_files = ap (λ (s : Shelf). s.news) (synced_is synced.0 synced.1)

    pub tidied_due : (keeping : ℕ) → IsTidied opening old new → old.core.front.settled ≡ true → NoneIsDue keeping old.core k → NoneIsDue keeping new.core (shelf_of opening new)
    tidied_due keeping (inl same) settled none = subst (λ (s : Shown D O). NoneIsDue keeping s.core (shelf_of opening s)) (sym same.0) none
    tidied_due keeping (inr is) settled none =
        subst (λ (s : Shelf). NoneIsDue keeping new.core s) (sym (synced_is is.0 is.1)) (subst (λ (c : Core). NoneIsDue keeping c synced) (sym (core_is is.0 is.1)) (λ p v less due.
        none p v less (due_before k.settled k.news k.claimed p (last_of old.core) v
        (subst (λ (l : Option ℕ). IsDue (asked_in synced) synced.settled p l v) (last_rested old.core settled) due))))

    pub tidied_goes : (partitions : ℕ) → IsTidied opening old new → old.core.front.settled ≡ true → k.news ≡ [] → NoneGoes partitions old.core k → NoneGoes partitions new.core (shelf_of opening new)
    tidied_goes partitions (inl same) settled nothing none = subst (λ (s : Shown D O). NoneGoes partitions s.core (shelf_of opening s)) (sym same.0) none
    tidied_goes partitions (inr is) settled nothing none =
        subst (λ (s : Shelf). NoneGoes partitions new.core s) (sym (synced_is is.0 is.1)) (subst (λ (c : Core). NoneGoes partitions c synced) (sym (core_is is.0 is.1)) (λ q goes.
        none q (goes_settled k.settled k.news partitions (last_of old.core) q nothing
        (subst (λ (l : Option ℕ). Goes (there_in synced) synced.settled partitions l q) (last_rested old.core settled) goes))))

    -- ---- a file is removed

    abbrev pub cleared : Name → Shelf
    cleared q = record { settled = without q k.settled; news = without q k.news; claimed = k.claimed; tidy = false }

    dropped_is : (q : Name) → new ≡ did old new.disk (entry.Drop q ∷ []) → shelf_of opening new ≡ cleared q
    dropped_is q is = shelf_did old new (entry.Drop q) is

    -- ---- a snapshot is made

    module _ (keeping p v : ℕ) (led : IsLed old) (running : old.core.front.stop ≡ None) (is : new ≡ did old new.disk (entry.Upkeep p v ∷ entry.Snapshot p v ∷ [])) (of : p < keeping)
        (due : IsDue (asked_in k) k.settled p (last_of old.core) v) where
      abbrev pub q : Name
      q = name.Snapshot p v

      abbrev pub asked : Shelf
      asked = record { settled = k.settled; news = k.news; claimed = k.claimed ++ q ∷ []; tidy = k.tidy }

      shelf_is : shelf_of opening new ≡ snapshot_on (is_stopped old.core.front.stop) q asked
      shelf_is =
          ap (shelf_of opening) is ∙ sym (shelf_on old.scope (opening old.opening).shelf (first old.scope (opening old.opening).start) old.history (entry.Upkeep p v ∷ entry.Snapshot p v ∷ []))
          ∙ ap (λ (c : Core). shelf_all old.scope c k (entry.Upkeep p v ∷ entry.Snapshot p v ∷ [])) (sym led)

      absent : is_among (there_in k) q ≡ false
      absent = first_of (is_among (there_in k) q) (is_among k.claimed q) (sym (among_both (there_in k) k.claimed q) ∙ due.absent)

      there_is : there_in (shelf_of opening new) ≡ there_in k ++ q ∷ []
      there_is =
          ap there_in shelf_is ∙ ap (λ (b : Bool). there_in (snapshot_on b q asked)) (ap is_stopped running)
          ∙ ap (λ (b : Bool). k.settled ++ (if b then k.news else k.news ++ q ∷ [])) absent ∙ sym (append_assoc k.settled k.news (q ∷ []))

      there_now : is_among (there_in k ++ q ∷ []) q ≡ true
      there_now = among_second (there_in k) (q ∷ []) q (or_left (same_name q q) false (same_name-same q))

      early : v < acknowledged_in old.core
      early = ltb-true v (acknowledged_in old.core) (sym (up_to_is (acknowledged_in old.core) v) ∙ due.acknowledged)

      same_core : new.core ≡ old.core
      same_core = ap (λ s. s.core) is

      pub made_less : unmade keeping new.core (shelf_of opening new) < unmade keeping old.core k
      made_less =
          subst (λ (c : Core). lacking_in (there_in (shelf_of opening new)) keeping (acknowledged_in c) < unmade keeping old.core k) (sym same_core)
          (subst (λ (l : List Name). lacking_in l keeping (acknowledged_in old.core) < unmade keeping old.core k) (sym there_is)
          (one_made_in (there_in k) (there_in k ++ q ∷ []) keeping (acknowledged_in old.core) p v (λ x here. among_first (there_in k) (q ∷ []) x here) of early absent there_now))

  -- files were removed: as long as some may go
  pub record IsClearing (keeping : ℕ) (old new : Shown D O) : Type 0 where
    pub core : new.core ≡ old.core
    pub none_due : NoneIsDue keeping old.core (shelf_of opening old) → NoneIsDue keeping new.core (shelf_of opening new)
    pub news : (shelf_of opening old).news ≡ [] → (shelf_of opening new).news ≡ []

  pub none_cleared : (keeping : ℕ) (old : Shown D O) → IsClearing keeping old old
  none_cleared keeping old = record { core = refl; none_due = λ none. none; news = λ none. none }

  pub one_cleared : (keeping : ℕ) (old mid new : Shown D O) (q : Name) → IsClearing keeping old mid → new ≡ did mid new.disk (entry.Drop q ∷ []) → Goes (there_in (shelf_of opening mid)) (shelf_of opening mid).settled mid.scope.partitions (last_of mid.core) q
      → IsClearing keeping old new
  one_cleared keeping old mid new q before is goes =
      let m = shelf_of opening mid in
      let shelf = dropped_is mid new q is in
      let core : new.core ≡ mid.core = ap (λ s. s.core) is in
      record {
        core = core ∙ before.core;
        none_due = λ none.
            subst (λ (s : Shelf). NoneIsDue keeping new.core s) (sym shelf) (subst (λ (c : Core). NoneIsDue keeping c (cleared mid new q)) (sym core) (λ p v less due.
            before.none_due none p v less (due_without m.settled (last_of mid.core) q goes.may m.news m.claimed p v due)));
        news = λ none. ap (λ (s : Shelf). s.news) shelf ∙ ap (without q) (before.news none);
      }

  -- how many files there are
  abbrev pub count_of : Shown D O → ℕ
  count_of s = length (shelf_of opening s).settled + length (shelf_of opening s).news

  pub fewer_files : (old new : Shown D O) (q : Name) → new ≡ did old new.disk (entry.Drop q ∷ []) → is_among (there_in (shelf_of opening old)) q ≡ true → count_of new < count_of old
  fewer_files old new q is there =
      let m = shelf_of opening old in
      let settled = without_most q m.settled in
      let news = without_most q m.news in
      subst (λ (s : Shelf). length s.settled + length s.news < count_of old) (sym (dropped_is old new q is))
      (elim (either_of (is_among m.settled q) (is_among m.news q) (sym (among_both m.settled m.news q) ∙ there)) [
        | inl first ↦ (let less = one_gone q m.settled first in omega (arith, less, news))
        | inr second ↦ (let less = one_gone q m.news second in omega (arith, less, settled))
      ])
