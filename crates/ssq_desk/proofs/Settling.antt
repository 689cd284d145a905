-- What a desk holds after a sync, a commit, or a Stop of either.
use Rattle.std.proofs.Common.{◌≡◌, ◌≤◌, ◌+◌, [], ◌∷◌, ℕ, Bool, true, false, true≢false, List, Option, Some, None, Result, Ok, Err, refl, sym, ap, ◌∙◌, subst, arith, le-ltb}
use Rattle.std.specs.Prelude.{is_some, OnOk, IfErr}
use Rattle.std.specs.Global.{Vec}
use Rattle.std.proofs.lemmas.Option.{same_Some}
use mathlib.Core.Option.{some}
use Rattle.ssq_meaning.specs.Meaning.{Line, Values}
use Rattle.ssq_outside.specs.declared.name.Name.TheVariants as name
use Rattle.ssq_core.specs.Course.{Cuts, truth}
use Rattle.ssq_course.specs.Setting.{Setting}
use Rattle.ssq_board.specs.declared.front.Cause.{Cause}
use Rattle.ssq_board.specs.declared.front.Cause.TheVariants as cause
use Rattle.ssq_board.specs.declared.front.Entry.TheVariants as entry
use Rattle.ssq_board.specs.declared.front.Ready.TheVariants as ready
use Rattle.std.specs.List.{list_all}
use Rattle.ssq_outside.specs.History.{History}
use Rattle.ssq_board.specs.Core.{Core, after, ready_of, is_open, is_fine}
use Rattle.ssq_board.proofs.Lists.{all_fine}
use Rattle.ssq_board.proofs.Readies.{commit_may}
use Rattle.ssq_board.proofs.Sounds.{open_less}
use Rattle.ssq_ledger.specs.Shown.{Shown, HasRisen, cuts_of, did}
use Rattle.ssq_desk.specs.declared.desk.Load.{Load}
use Rattle.ssq_desk.specs.declared.desk.Pending.{Pending}
use Rattle.ssq_desk.specs.declared.round.Round.{Round}
use Rattle.ssq_desk.specs.Round.{setting_of, Owns}
use Rattle.ssq_desk.specs.Contents.{IsPending, IsStopOf, IsHeldAt}
use Rattle.ssq_desk.proofs.Keeping.{commit_fine, next_held}
use Rattle.ssq_desk.proofs.Holding.{holds_on}
use Rattle.ssq_desk.proofs.Wholes.{stopped_whole, with_pending}
use Rattle.ssq_feed.specs.Causes.{LogWent}
use Rattle.ssq_desk.specs.declared.told.Told.{Told}
use Rattle.ssq_desk.specs.Closing.{AreTold}
use Rattle.ssq_desk.specs.Whole.{IsWhole, opening_in}
use Rattle.ssq_desk.proofs.Handing.{moved_whole}

-- for what a call of the disk failed, a desk may be stopped
pub risen_no_log : (f : Cause) (before now : ℕ) → HasRisen f before now → f ≡ cause.LogFault → ⊥
risen_no_log f before now has is = subst (λ (g : Cause). HasRisen g before now) is has

pub risen_stops : (reads owned : Type 0) (s : Setting) (cuts : Cuts) (e : ℕ) (f : Cause) (before now : ℕ) → HasRisen f before now → (key : Option Values) → IsStopOf reads owned s cuts e key f
risen_stops reads owned s cuts e cause.DiskFault before now has key = tt
risen_stops reads owned s cuts e cause.NoMemory before now has key = tt
risen_stops reads owned s cuts e cause.Full before now has key = tt
risen_stops reads owned s cuts e cause.LogFault before now has key = tt
risen_stops reads owned s cuts e cause.KeyOverflow before now has key = absurd has
risen_stops reads owned s cuts e (cause.BadLine t p o f) before now has key = absurd has
risen_stops reads owned s cuts e (cause.Overflow t p o) before now has key = absurd has
risen_stops reads owned s cuts e (cause.LogShort t p l f) before now has key = absurd has
risen_stops reads owned s cuts e (cause.Damaged q) before now has key = absurd has

pub disk_no_log : cause.DiskFault ≡ cause.LogFault → ⊥
disk_no_log e = cc

-- with as many epochs committed as are planned, none runs
closed_then : (c : Core) → c.front.planned ≤ c.front.committed → is_open c ≡ false
closed_then c near = le-ltb c.front.committed c.front.planned near

-- with a commit that was published
abbrev pub with_commit : {L S F : Type 0} → Load L S F → Pending F → Vec Told → Load L S F
with_commit load p told = record { view = load.view; plans = load.plans; part_logs = load.part_logs; shares = load.shares; held = load.held; out = load.out; seen = p.seen; pending = None; told = told; kept = load.kept }

module _ {D L S F : Type 0} (stores logs : Type 0) (history : D → History) (lines : L → List Line) (available : L → ℕ) (answers : L → List ℕ) (faults : L → ℕ) (written : S → List ℕ) (sealed : F → List ℕ) (shown : Shown D (Round L)) (load : Load L S F)
    (whole : IsWhole stores logs history lines available answers faults written sealed shown load) (disk : D) where
  -- names were synced
  pub synced_whole : (clock : ℕ) → shown.core.front.stop ≡ None → IsWhole stores logs history lines available answers faults written sealed (did shown disk (entry.Sync clock ∷ [])) load
  synced_whole clock runs =
      moved_whole stores logs history lines available answers faults written sealed shown load whole disk (entry.Sync clock) load (λ cuts c. refl) refl refl refl refl whole.told whole.told_room (λ e. absurd (true≢false (sym (ap is_some e))))
      (holds_on (stores × logs) (Owns stores logs history lines shown) lines available (LogWent logs lines available answers faults) shown.opening.logs.items written sealed (setting_of lines shown.opening) (cuts_of (opening_in lines) shown) shown.scope.available shown.core true true shown.core.front.written
      load.part_logs.items load.shares.items load.held.items load.out load.seen load.pending load.pending whole.holds runs (whole.holds.commit runs))

  -- the epoch is committed, and no other is planned
  pub committed_whole : (due : Bool) (p : Pending F) (told : Vec Told) → shown.core.front.stop ≡ None → is_open shown.core ≡ true → list_all is_fine shown.core.reduces ≡ true → shown.core.front.planned ≤ shown.core.front.committed + 1
      → AreTold (Owns stores logs history lines shown) (setting_of lines shown.opening) (cuts_of (opening_in lines) shown) shown.opening.opened.committed (shown.core.front.committed + 1) told.items
      → IsPending (Owns stores logs history lines shown) sealed (setting_of lines shown.opening) (cuts_of (opening_in lines) shown) shown.core.front.committed p
      → IsWhole stores logs history lines available answers faults written sealed (did shown disk (entry.Commit shown.core.front.committed due ∷ [])) (with_commit load p told)
  committed_whole due p told runs opened fine near are is =
      let h = whole.holds in
      let c : Core = after shown.scope shown.core (entry.Commit shown.core.front.committed due) in
      moved_whole stores logs history lines available answers faults written sealed shown load whole disk (entry.Commit shown.core.front.committed due) (with_commit load p told) (λ cuts c. refl) refl refl refl refl are (λ opened. absurd (let less = open_less c opened in omega (arith, less, near))) (λ e. absurd (true≢false (sym (ap is_some e)))) (record {
        parts = h.parts;
        partitions = h.partitions;
        keeping = h.keeping;
        logs = h.logs;
        reduced = h.reduced;
        dealt = λ opened. absurd (let less = open_less c opened in omega (arith, less, near));
        keys = λ opened. absurd (let less = open_less c opened in omega (arith, less, near));
        still = λ stopped. absurd (true≢false (sym (ap is_some stopped)));
        kept = λ run q at own here mine. subst (λ (b : Bool). IsHeldAt (Owns stores logs history lines shown) (setting_of lines shown.opening) (cuts_of (opening_in lines) shown) b (shown.core.front.committed + 1) q at own) (sym (closed_then c near))
            (next_held (Owns stores logs history lines shown) (setting_of lines shown.opening) (cuts_of (opening_in lines) shown) shown.core.front.committed q at own (all_fine is_fine shown.core.reduces q at fine here) (λ rests. h.dealt opened q (here ∙ ap some rests))
            (subst (λ (b : Bool). IsHeldAt (Owns stores logs history lines shown) (setting_of lines shown.opening) (cuts_of (opening_in lines) shown) b shown.core.front.committed q at own) opened (h.kept runs q at own here mine)));
        seen_so_far = λ run. is.times;
        epoch = λ run opened. absurd (let less = open_less c opened in omega (arith, less, near));
        commit = λ run opened written_is. absurd (let less = open_less c opened in omega (arith, less, near));
        stop = λ f stopped. absurd (true≢false (sym (ap is_some stopped)));
      })

module _ {D L S F : Type 0} (stores logs : Type 0) (history : D → History) (lines : L → List Line) (available : L → ℕ) (answers : L → List ℕ) (faults : L → ℕ) (written : S → List ℕ) (sealed : F → List ℕ) (shown : Shown D (Round L)) (load : Load L S F)
    (whole : IsWhole stores logs history lines available answers faults written sealed shown load) where
  -- the commit that is to be published is there
  pub pending_here : ready_of shown.scope shown.core ≡ ready.Commit
      → (p : Pending F) × (load.pending ≡ Some p) × IsPending (Owns stores logs history lines shown) sealed (setting_of lines shown.opening) (cuts_of (opening_in lines) shown) shown.core.front.committed p
  pending_here next = (let m = commit_may shown.scope shown.core false next in whole.holds.commit m.0 m.2 m.4)

  -- names were synced, or that failed
  pub after_sync : (now : Shown D (Round L)) (result : Result (Unit {0}) Cause) (before later : ℕ) → shown.core.front.stop ≡ None
      → OnOk result ((clock : ℕ) × (now ≡ did shown now.disk (entry.Sync clock ∷ []))) → IfErr result (λ f. (now ≡ did shown now.disk (entry.Stop f ∷ [])) × HasRisen f before later)
      → IsWhole stores logs history lines available answers faults written sealed now load
  after_sync now (Ok x) before later runs done stopped =
      subst (λ (x : Shown D (Round L)). IsWhole stores logs history lines available answers faults written sealed x load) (sym done.1) (synced_whole stores logs history lines available answers faults written sealed shown load whole now.disk done.0 runs)
  after_sync now (Err f) before later runs done stopped =
      subst (λ (x : Shown D (Round L)). IsWhole stores logs history lines available answers faults written sealed x load) (sym stopped.0)
      (stopped_whole stores logs history lines available answers faults written sealed shown load whole now.disk f load.pending (risen_no_log f before later stopped.1)
      (risen_stops (stores × logs) (Owns stores logs history lines shown) (setting_of lines shown.opening) (cuts_of (opening_in lines) shown) shown.core.front.committed f before later stopped.1))

  -- the epoch is committed, with what is left of the load
  pub after_commit : (now : Shown D (Round L)) (p : Pending F) (none : Option (Pending F)) (told : Vec Told) → shown.core.front.planned ≤ shown.core.front.committed + 1 → none ≡ None → load.pending ≡ Some p
      → ready_of shown.scope shown.core ≡ ready.Commit → ((due : Bool) × (now ≡ did shown now.disk (entry.Commit shown.core.front.committed due ∷ [])))
      → AreTold (Owns stores logs history lines shown) (setting_of lines shown.opening) (cuts_of (opening_in lines) shown) shown.opening.opened.committed (shown.core.front.committed + 1) told.items
      → IsWhole stores logs history lines available answers faults written sealed now (record { view = load.view; plans = load.plans; part_logs = load.part_logs; shares = load.shares; held = load.held; out = load.out; seen = p.seen; pending = none; told = told; kept = load.kept })
  after_commit now p none told near none_is p_is next done are =
      let h = pending_here next in
      let own = subst (IsPending (Owns stores logs history lines shown) sealed (setting_of lines shown.opening) (cuts_of (opening_in lines) shown) shown.core.front.committed) (same_Some h.0 p (sym h.1 ∙ p_is)) h.2 in
      subst (λ (x : Shown D (Round L)). IsWhole stores logs history lines available answers faults written sealed x (record { view = load.view; plans = load.plans; part_logs = load.part_logs; shares = load.shares; held = load.held; out = load.out; seen = p.seen; pending = none; told = told; kept = load.kept })) (sym done.1)
      (subst (λ (o : Option (Pending F)). IsWhole stores logs history lines available answers faults written sealed (did shown now.disk (entry.Commit shown.core.front.committed done.0 ∷ [])) (record { view = load.view; plans = load.plans; part_logs = load.part_logs; shares = load.shares; held = load.held; out = load.out; seen = p.seen; pending = o; told = told; kept = load.kept })) (sym none_is)
      (let m = commit_may shown.scope shown.core false next in committed_whole stores logs history lines available answers faults written sealed shown load whole now.disk done.0 p told m.0 m.2 (commit_fine shown.scope shown.core next) near are own))

  -- its commit could not be published
  pub uncommitted : (now : Shown D (Round L)) (none : Option (Pending F)) → now ≡ did shown now.disk (entry.Stop cause.DiskFault ∷ []) → IsWhole stores logs history lines available answers faults written sealed now (with_pending load none)
  uncommitted now none stopped =
      subst (λ (x : Shown D (Round L)). IsWhole stores logs history lines available answers faults written sealed x (with_pending load none)) (sym stopped)
      (stopped_whole stores logs history lines available answers faults written sealed shown load whole now.disk cause.DiskFault none disk_no_log (λ key. tt))

  -- and it is the epoch's
  pub pending_right : (p : Pending F) → load.pending ≡ Some p → ready_of shown.scope shown.core ≡ ready.Commit
      → Owns stores logs history lines shown → sealed p.commit ≡ truth ((opening_in lines shown.opening).job.course (cuts_of (opening_in lines) shown)) (name.Commit shown.core.front.committed)
  pending_right p p_is next t =
      let h = pending_here next in ap (λ (x : Pending F). sealed x.commit) (same_Some p h.0 (sym p_is ∙ h.1)) ∙ h.2.commit t
