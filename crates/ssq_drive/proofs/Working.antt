-- What a task that is done on one thread does to a desk.
use Rattle.std.proofs.Common.{◌≡◌, ◌≤◌, ℕ, Bool, true, false, List, [], ◌∷◌, Option, Some, None, IfSome, Result, Ok, Err, IfErr, IsErrOf, if◌then◌else◌, sym, refl, ap, ◌∙◌, subst, inl, inr, append_assoc, le_refl}
use Rattle.std.specs.List.{list_any}
use Rattle.ssq_outside.specs.declared.gate.TaskId.{TaskId}
use Rattle.ssq_outside.specs.declared.gate.Kind.{Kind}
use Rattle.ssq_outside.specs.declared.gate.Kind.TheVariants as kind
use Rattle.ssq_outside.specs.declared.name.Name.{Name}
use Rattle.ssq_outside.specs.declared.name.Name.TheVariants as name
use Rattle.ssq_outside.specs.Faults.{Rises}
use Rattle.ssq_board.specs.declared.front.Cause.{Cause}
use Rattle.ssq_board.specs.declared.front.Cause.TheVariants as cause
use Rattle.ssq_board.specs.declared.front.Entry.{Entry}
use Rattle.ssq_board.specs.declared.front.Entry.TheVariants as entry
use Rattle.ssq_board.specs.declared.front.Place.TheVariants as place
use Rattle.ssq_board.specs.Core.{Scope, Core, May, after, after_all, due, due_stop, is_open, is_stopped, moved, or_stop, tasks_of}
use Rattle.ssq_board.specs.Shelf.{Shelf, version_on}
use Rattle.ssq_board.specs.Shown.{IsSound}
use Rattle.ssq_board.specs.Rounds.{IsAtRest, Worked, Versioned, brings_rows, is_away}
use Rattle.ssq_board.proofs.Falls.{version_falls, work_falls}
use Rattle.ssq_board.proofs.Resting.{version_turn, work_turn, back_all, front_here, work_here}
use Rattle.ssq_board.proofs.Sounds.{step_sound}
use Rattle.ssq_ledger.specs.Shown.{Shown, HasRisen, did, answer}
use Rattle.ssq_drive.specs.Driven.{StopsFor, no_file, IsTurn}
use Rattle.ssq_desk.specs.Contents.{IsReducedCause}
use Rattle.ssq_desk.specs.Published.{IsOut, brings}
use Rattle.ssq_desk.specs.Results.{IsReturned}
use Rattle.ssq_drive.proofs.Causes.{report_stops}
use Rattle.ssq_drive.proofs.Turning.{Goes, goes_turn, rests, runs_rest, none_left, risen_stops}
use Rattle.ssq_drive.proofs.Cutting.{none_some as no_cause}
use Rattle.ssq_drive.proofs.Goods.{still as here}

version_here : (r : Scope) (c : Core) (t : TaskId) → ((k : Kind) → list_any is_away (tasks_of k c) ≡ false) → (k : Kind) → list_any is_away (tasks_of k (after r (after r c (entry.Claim t)) (entry.Version t))) ≡ false
version_here r c t h = front_here (moved (moved c t place.Away) t (place.Back None)) (after r (after r c (entry.Claim t)) (entry.Version t)) refl refl refl (back_all c t None h)

missed_here : (r : Scope) (c : Core) (t : TaskId) → ((k : Kind) → list_any is_away (tasks_of k c) ≡ false) → (k : Kind) → list_any is_away (tasks_of k (after r (after r c (entry.Claim t)) (entry.Missed t))) ≡ false
missed_here r c t h = front_here (moved (moved c t place.Away) t (place.Back (Some cause.DiskFault))) (after r (after r c (entry.Claim t)) (entry.Missed t)) refl refl refl (back_all c t (Some cause.DiskFault) h)

-- a version makes no snapshot
version_claims : (b : Bool) (q : Name) (s : Shelf) → (version_on b q s).claimed ≡ s.claimed
version_claims true q s = refl
version_claims false q s = refl

-- a cause, where there is one
given_all : (o : Option Cause) (Q : Cause → Type 0) → ((g : Cause) → o ≡ Some g → Q g) → IfSome o Q
given_all None Q why = tt
given_all (Some g) Q why = why g refl

module _ (r : Scope) (c : Core) (t : TaskId) (before now : ℕ) (sound : IsSound r c) (rest : IsAtRest c) (may : May r c (entry.Claim t)) where
  -- a task that publishes nothing
  report_goes : (f : Option Cause) → brings_rows t.kind f ≡ false
      → ((g : Cause) → due (after r c (entry.Claim t)) t f ≡ Some g → StopsFor no_file r (after_all r c (entry.Claim t ∷ entry.Report t f ∷ [])) before now g)
      → Goes r c (after_all r c (entry.Claim t ∷ entry.Report t f ∷ [])) before now
  report_goes f none why =
      let n = after_all r c (entry.Claim t ∷ entry.Report t f ∷ []) in
      let d = due (after r c (entry.Claim t)) t f in
      let w : Worked r c n = (t, f, may, inl (ap (λ (b : Bool). after_all r c (entry.Claim t ∷ entry.Report t f ∷ (if b then entry.OutFile c.front.committed ∷ [] else []))) (sym none))) in
      record {
        running = may.0;
        less = work_falls r c n w;
        rest = rests n (work_here r c t f rest.here) (work_turn r c n sound rest w);
        cause = subst (λ (o : Option Cause). IfSome o (StopsFor no_file r n before now)) (sym (ap (λ (o : Option Cause). or_stop o d) may.0)) (given_all d (StopsFor no_file r n before now) why);
      }

  -- a reduce task whose version is published
  version_goes : t.kind ≡ kind.Reduce → ((g : Cause) → due (after r c (entry.Claim t)) t None ≡ Some g → StopsFor no_file r (after_all r c (entry.Claim t ∷ entry.Version t ∷ [])) before now g)
      → Goes r c (after_all r c (entry.Claim t ∷ entry.Version t ∷ [])) before now
  version_goes is why =
      let n = after_all r c (entry.Claim t ∷ entry.Version t ∷ []) in
      let d = due (after r c (entry.Claim t)) t None in
      let w : Versioned r c n = (t, is, may, inl refl) in
      record {
        running = may.0;
        less = version_falls r c n w;
        rest = rests n (version_here r c t rest.here) (version_turn r c n rest w);
        cause = subst (λ (o : Option Cause). IfSome o (StopsFor no_file r n before now)) (sym (ap (λ (o : Option Cause). or_stop o d) may.0)) (given_all d (StopsFor no_file r n before now) why);
      }

  -- and one whose version could not be published
  missed_goes : Rises before now → Goes r c (after_all r c (entry.Claim t ∷ entry.Missed t ∷ [])) before now
  missed_goes risen =
      let n = after_all r c (entry.Claim t ∷ entry.Missed t ∷ []) in
      record { running = may.0; less = none_left r c n may.0 refl; rest = rests n (missed_here r c t rest.here) (inr refl); cause = risen }

  -- an out task whose rows are published
  rows_goes : (e : ℕ) → brings_rows t.kind None ≡ true → e ≡ c.front.committed → Goes r c (after_all r c (entry.Claim t ∷ entry.Report t None ∷ entry.OutFile e ∷ [])) before now
  rows_goes e rows is =
      let n = after_all r c (entry.Claim t ∷ entry.Report t None ∷ entry.OutFile e ∷ []) in
      let w : Worked r c n = (
        t,
        None,
        may,
        inl (ap (λ (x : ℕ). after_all r c (entry.Claim t ∷ entry.Report t None ∷ entry.OutFile x ∷ [])) is
            ∙ ap (λ (b : Bool). after_all r c (entry.Claim t ∷ entry.Report t None ∷ (if b then entry.OutFile c.front.committed ∷ [] else []))) (sym rows)),
      ) in
      record { running = may.0; less = work_falls r c n w; rest = runs_rest n refl (work_turn r c n sound rest w); cause = tt }

  -- and one whose rows could not be published
  unpublished_goes : (f : Option Cause) (g : Cause) → StopsFor no_file r (after_all r c (entry.Claim t ∷ entry.Report t f ∷ entry.Stop g ∷ [])) before now g → Goes r c (after_all r c (entry.Claim t ∷ entry.Report t f ∷ entry.Stop g ∷ [])) before now
  unpublished_goes f g why =
      let mid = after_all r c (entry.Claim t ∷ entry.Report t f ∷ []) in
      let n = after_all r c (entry.Claim t ∷ entry.Report t f ∷ entry.Stop g ∷ []) in
      record { running = may.0; less = none_left r c n may.0 refl; rest = rests n (front_here mid n refl refl refl (work_here r c t f rest.here)) (inr refl); cause = why }

module _ {D O : Type 0} where
  -- entries after a claim
  behind : (old mid new : Shown D O) (t : TaskId) (es : List Entry) → mid ≡ did old old.disk (entry.Claim t ∷ []) → new ≡ did mid new.disk es → new ≡ did old new.disk (entry.Claim t ∷ es)
  behind old mid new t es claimed is =
      let more = append_assoc old.history (entry.Claim t ∷ []) es in
      is ∙ ap (λ (m : Shown D O). did m new.disk es) claimed
      ∙ (λ i. record { opening = old.opening; opened = old.opened; scope = old.scope; disk = new.disk; core = after_all old.scope old.core (entry.Claim t ∷ es); history = more i })

-- the cause of a reduce task, where it told one
abbrev pub IsOfReduce : Option Cause → Type 0
IsOfReduce f = IfSome f IsReducedCause

-- the desk accounts for it, where a failure of the disk was counted
reduce_stops : (r : Scope) (n : Core) (before now : ℕ) (g : Cause) → IsReducedCause g → (g ≡ cause.DiskFault → Rises before now) → StopsFor no_file r n before now g
reduce_stops r n before now (cause.BadLine s p o x) is risen = absurd is
reduce_stops r n before now (cause.Overflow s p o) is risen = absurd is
reduce_stops r n before now cause.KeyOverflow is risen = tt
reduce_stops r n before now cause.LogFault is risen = absurd is
reduce_stops r n before now (cause.LogShort s p l x) is risen = absurd is
reduce_stops r n before now (cause.Damaged q) is risen = absurd is
reduce_stops r n before now cause.DiskFault is risen = risen refl
reduce_stops r n before now cause.Full is risen = absurd is
reduce_stops r n before now cause.NoMemory is risen = tt

module _ {D O : Type 0} (faults : D → ℕ) (closing : Bool) (old mid new : Shown D O) (t : TaskId) (sound : IsSound old.scope old.core) (rest : IsAtRest old.core) (may : May old.scope old.core (entry.Claim t))
    (claimed : mid ≡ did old old.disk (entry.Claim t ∷ [])) where
  claimed_core : mid.core ≡ after old.scope old.core (entry.Claim t)
  claimed_core = ap (λ s. s.core) claimed

  claimed_faults : faults mid.disk ≡ faults old.disk
  claimed_faults = ap (λ s. faults s.disk) claimed

  -- a map or a reduce task is back, with a cause that is none of the desk's
  pub reported : (f : Option Cause) → new ≡ did mid mid.disk (entry.Report t f ∷ []) → brings_rows t.kind f ≡ false
      → ((g : Cause) → f ≡ Some g → (r : Scope) (n : Core) (before now : ℕ) → is_open n ≡ true → StopsFor no_file r n before now g) → IsTurn faults closing old new
  reported f is none own =
      let r = old.scope in
      let c = old.core in
      let n = after_all r c (entry.Claim t ∷ entry.Report t f ∷ []) in
      let calm = (step_sound r c (entry.Claim t) may sound).calm may.0 t.kind in
      let same : faults new.disk ≡ faults old.disk = ap (λ s. faults s.disk) is ∙ claimed_faults in
      goes_turn faults closing old new (entry.Claim t ∷ entry.Report t f ∷ []) (behind old mid new t (entry.Report t f ∷ []) claimed (here mid new (entry.Report t f ∷ []) is)) (λ none. refl) (λ k none. none)
      (report_goes r c t (faults old.disk) (faults new.disk) sound rest may f none
      (report_stops r (after r c (entry.Claim t)) n t f (faults old.disk) (faults new.disk) may.0 calm (λ g own_is due_is. own g own_is r n (faults old.disk) (faults new.disk) may.1)))
      (subst (λ (x : ℕ). faults old.disk ≤ x) (sym same) (le_refl (faults old.disk)))

  -- A reduce task is back, and told what it brings: a failure of the disk, where that stops the desk, was counted.
  pub returned : {F : Type 0} (delta : Option F) (f : Option Cause) (result : Result (Unit {0}) Cause) → t.kind ≡ kind.Reduce → IsOfReduce f
      → IsReturned delta mid new t f result (Rises (faults mid.disk) (faults new.disk)) → (IsErrOf result cause.DiskFault → Rises (faults mid.disk) (faults new.disk))
      → faults mid.disk ≤ faults new.disk → IsTurn faults closing old new
  returned {F} delta f result is own came risen counted =
      by delta came (subst (λ (x : ℕ). IsErrOf result cause.DiskFault → Rises x (faults new.disk)) claimed_faults risen)
      (subst (λ (x : ℕ). x ≤ faults new.disk) claimed_faults counted)
    where
      r : Scope
      r = old.scope

      c : Core
      c = old.core

      now : Core
      now = after r c (entry.Claim t)

      none_reduce : (k : Kind) (o : Option Cause) → k ≡ kind.Reduce → brings_rows k o ≡ false
      none_reduce k o same = subst (λ (x : Kind). brings_rows x o ≡ false) (sym same) refl

      answered : (o : Option Cause) → result ≡ answer (due mid.core t o) → (IsErrOf result cause.DiskFault → Rises (faults old.disk) (faults new.disk)) → due now t o ≡ Some cause.DiskFault → Rises (faults old.disk) (faults new.disk)
      answered o told risen stops = risen (told ∙ ap (λ (x : Core). answer (due x t o)) claimed_core ∙ ap answer stops)

      calm : due_stop (tasks_of t.kind now) ≡ None
      calm = (step_sound r c (entry.Claim t) may sound).calm may.0 t.kind

      by : (delta : Option F) → IsReturned delta mid new t f result (Rises (faults mid.disk) (faults new.disk)) → (IsErrOf result cause.DiskFault → Rises (faults old.disk) (faults new.disk)) → faults old.disk ≤ faults new.disk → IsTurn faults closing old new
      by None came risen counted =
          let n = after_all r c (entry.Claim t ∷ entry.Report t f ∷ []) in
          goes_turn faults closing old new (entry.Claim t ∷ entry.Report t f ∷ []) (behind old mid new t (entry.Report t f ∷ []) claimed came.0) (λ none. refl) (λ k none. none)
          (report_goes r c t (faults old.disk) (faults new.disk) sound rest may f (none_reduce t.kind f is)
          (report_stops r now n t f (faults old.disk) (faults new.disk) may.0 calm
          (λ g own_is due_is. reduce_stops r n (faults old.disk) (faults new.disk) g (subst (λ (o : Option Cause). IfSome o IsReducedCause) own_is own)
          (λ disk. answered f came.1 risen (due_is ∙ ap Some disk)))))
          counted
      by (Some file) (inl came) risen counted =
          let n = after_all r c (entry.Claim t ∷ entry.Version t ∷ []) in
          goes_turn faults closing old new (entry.Claim t ∷ entry.Version t ∷ []) (behind old mid new t (entry.Version t ∷ []) claimed came.0) (λ none. refl) (λ k none. version_claims (is_stopped old.core.front.stop) (name.Delta t.number t.epoch) k ∙ none)
          (version_goes r c t (faults old.disk) (faults new.disk) sound rest may is
          (report_stops r now n t None (faults old.disk) (faults new.disk) may.0 calm (λ g own_is. absurd (no_cause g own_is))))
          counted
      by (Some file) (inr missed) risen counted =
          goes_turn faults closing old new (entry.Claim t ∷ entry.Missed t ∷ []) (behind old mid new t (entry.Missed t ∷ []) claimed missed.1) (λ none. refl) (λ k none. none)
          (missed_goes r c t (faults old.disk) (faults new.disk) sound rest may (risen missed.2))
          counted

  -- the out task is back
  pub published : (f : Option Cause) (result : Result (Unit {0}) Cause) → brings_rows t.kind None ≡ true → ((g : Cause) → brings_rows t.kind (Some g) ≡ false)
      → IsOut (brings mid.core.front.stop f) mid new t f result (Rises (faults mid.disk) (faults new.disk)) → IfErr result (λ g. HasRisen g (faults mid.disk) (faults new.disk))
      → faults mid.disk ≤ faults new.disk → IsTurn faults closing old new
  published f result rows no_rows out risen counted =
      let runs : mid.core.front.stop ≡ None = ap (λ (x : Core). x.front.stop) claimed_core ∙ may.0 in
      by f result (subst (λ (o : Option Cause). IsOut (brings o f) mid new t f result (Rises (faults mid.disk) (faults new.disk))) runs out)
      (subst (λ (x : ℕ). IfErr result (λ g. HasRisen g x (faults new.disk))) claimed_faults risen)
      (subst (λ (x : ℕ). x ≤ faults new.disk) claimed_faults counted)
    where
      by : (f : Option Cause) (result : Result (Unit {0}) Cause) → IsOut (brings None f) mid new t f result (Rises (faults mid.disk) (faults new.disk)) → IfErr result (λ g. HasRisen g (faults old.disk) (faults new.disk))
          → faults old.disk ≤ faults new.disk → IsTurn faults closing old new
      by None (Ok x) out risen counted =
          let es = entry.Report t None ∷ entry.OutFile mid.core.front.committed ∷ [] in
          goes_turn faults closing old new (entry.Claim t ∷ es) (behind old mid new t es claimed out.0) (λ none. refl) (λ k none. none)
          (rows_goes old.scope old.core t (faults old.disk) (faults new.disk) sound rest may mid.core.front.committed rows (ap (λ (x : Core). x.front.committed) claimed_core)) counted
      by None (Err g) out risen counted =
          let es = entry.Report t None ∷ entry.Stop g ∷ [] in
          goes_turn faults closing old new (entry.Claim t ∷ es) (behind old mid new t es claimed out.1.1) (λ none. refl) (λ k none. none)
          (unpublished_goes old.scope old.core t (faults old.disk) (faults new.disk) sound rest may None g (risen_stops old.scope (after_all old.scope old.core (entry.Claim t ∷ es)) g (faults old.disk) (faults new.disk) risen)) counted
      by (Some f) result out risen counted =
          let r = old.scope in
          let c = old.core in
          let n = after_all r c (entry.Claim t ∷ entry.Report t (Some f) ∷ []) in
          let es = entry.Report t (Some f) ∷ [] in
          goes_turn faults closing old new (entry.Claim t ∷ es) (behind old mid new t es claimed out.0) (λ none. refl) (λ k none. none)
          (report_goes r c t (faults old.disk) (faults new.disk) sound rest may (Some f) (no_rows f)
          (λ g is. risen_stops r n g (faults old.disk) (faults new.disk)
          (subst (λ (x : Result (Unit {0}) Cause). IfErr x (λ h. HasRisen h (faults old.disk) (faults new.disk))) (out.1 ∙ ap (λ (x : Core). answer (due x t (Some f))) claimed_core ∙ ap answer is) risen)))
          counted
