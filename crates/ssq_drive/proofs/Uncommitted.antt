-- Where a desk stopped for a cause that tasks of the open epoch bring, no image has the commit of that epoch.
use Rattle.std.proofs.Common.{◌≡◌, ◌∷◌, [], ◌∙◌, ℕ, Bool, true, true≢false, List, Option, Some, None, refl, sym, ap, subst, inl, inr, arith}
use Rattle.std.specs.Prelude.{is_some}
use Rattle.std.proofs.lemmas.Bool.{ltb-true}
use Rattle.ssq_outside.specs.declared.name.Name.TheVariants as name
use Rattle.ssq_outside.specs.Files.{Content, Files, Had, MayBe, added}
use Rattle.ssq_outside.specs.History.{History, LeavesNow, had_now}
use Rattle.ssq_core.specs.Course.{Cuts, Job, truth}
use Rattle.ssq_core.specs.Machine.{Desk}
use Rattle.ssq_core.specs.Sound.{Sound, IsSoundAt}
use Rattle.ssq_core.proofs.Hads.{added_cases}
use Rattle.ssq_core.proofs.Moves.{moves_on, open_sound}
use Rattle.ssq_board.specs.declared.front.Cause.{Cause}
use Rattle.ssq_board.specs.declared.front.Cause.TheVariants as cause
use Rattle.ssq_board.specs.declared.front.Entry.{Entry}
use Rattle.ssq_board.specs.declared.front.Entry.TheVariants as entry
use Rattle.ssq_board.specs.Core.{Scope, Core, HasCause, due, events_all, is_of_epoch, or_stop}
use Rattle.ssq_board.specs.Shown.{Start, IsSound}
use Rattle.ssq_board.specs.Follows.{Terms, State, Step, Leads, Goes, Shows, ShowsShelf, makes_by, publishes_by, shown}
use Rattle.ssq_board.proofs.Following.{list_follows}
use Rattle.ssq_board.proofs.Opening.{shows_first}
use Rattle.ssq_board.proofs.Sounds.{first_sound, step_sound}
use Rattle.ssq_board.proofs.Leasts.{some_is as same_cause}
use Rattle.ssq_promise.specs.Run.{Begins}
use Rattle.ssq_promise.proofs.Joining.{begins_shelf, shown_first}
use Rattle.ssq_promise.proofs.Leaving.{sound_by}
use Rattle.ssq_desk.proofs.Settling.{disk_no_log}
use Rattle.ssq_drive.specs.Rounds.{IsOfOpen}
use Rattle.ssq_drive.proofs.Cutting.{none_some, not_of_epoch}
use Rattle.ssq_drive.proofs.Planned.{or_first}

-- the commit of this epoch may have no content
abbrev HasNone : Had → ℕ → Type 0
HasNone had k = (x : Content) → MayBe (had (name.Commit k)) x → x ≡ None

commit_plan : (k b : ℕ) → name.Commit k ≡ name.Plan b → ⊥
commit_plan k b is = cc

commit_delta : (k p v : ℕ) → name.Commit k ≡ name.Delta p v → ⊥
commit_delta k p v is = cc

-- so it is of the first epoch that is not committed
sound_none : (job : Job) (d : Desk) (had : Had) → IsSoundAt job d had → HasNone had d.committed
sound_none job d had sound x may = elim (sound.holds.are_true (name.Commit d.committed) x may) [
  | inl none ↦ none
  | inr is ↦ elim (sound.holds.allowed (name.Commit d.committed) x may (ap is_some is)) [
    | inl below ↦ absurd (let l = ltb-true d.committed d.committed below in omega (arith, l))
    | inr plan ↦ absurd (commit_plan d.committed sound.b plan.0)
  ]
]

-- a delta more is no commit
delta_none : (had : Had) (p v k : ℕ) (bytes : List ℕ) → HasNone had k → HasNone (added (name.Delta p v) bytes had) k
delta_none had p v k bytes none x may = elim (added_cases (name.Delta p v) (name.Commit k) bytes x had may) [ inl old ↦ none x old | inr new ↦ absurd (commit_delta k p v new.0) ]

disk_not_open : (f : Cause) → Some cause.DiskFault ≡ Some f → IsOfOpen f → ⊥
disk_not_open f is (inl own) = true≢false (sym own ∙ ap is_of_epoch (sym (same_cause cause.DiskFault f is)))
disk_not_open f is (inr log) = disk_no_log (same_cause cause.DiskFault f is ∙ log)

call_not_open : (r : Scope) (c : Core) (f : Cause) → HasCause r c f → IsOfOpen f → ⊥
call_not_open r c f has (inl own) = not_of_epoch r c f has own
call_not_open r c f has (inr log) = subst (HasCause r c) log has

or_none : (o : Option Cause) → o ≡ or_stop o None
or_none None = refl
or_none (Some f) = refl

module _ (tells : Type 0) (t : tells) (job : Job) (r : Scope) (next : Cuts → ℕ → Bool) (terms : Terms job r next) where
  -- so it is where the desk stopped for such a cause
  abbrev StopsNone : State → Type 0
  StopsNone s = (f : Cause) → s.core.front.stop ≡ Some f → IsOfOpen f → HasNone (had_now s.disk) s.core.front.committed

  module _ (e : Entry) (s n : State) (d : Desk) (shows : Shows job r next terms s.core d) (sound : Sound job (shown s.disk s.core d)) (step : Step tells job r next s e n) where
    running_none : s.core.front.stop ≡ None → HasNone (had_now s.disk) s.core.front.committed
    running_none runs = subst (HasNone (had_now s.disk)) shows.committed (sound_none job d (had_now s.disk) (sound_by job s.core.front.stop d (had_now s.disk) runs sound))

    -- the disk is as it was
    still_so : (later : Option Cause) → n.disk ≡ s.disk → n.core.front.committed ≡ s.core.front.committed → n.core.front.stop ≡ or_stop s.core.front.stop later → StopsNone s → StopsNone n
    still_so later same count stop so f stops inside =
        subst (λ (h : History). HasNone (had_now h) n.core.front.committed) (sym same) (subst (HasNone (had_now s.disk)) (sym count) (by s.core.front.stop refl))
      where
        by : (o : Option Cause) → s.core.front.stop ≡ o → HasNone (had_now s.disk) s.core.front.committed
        by None runs = running_none runs
        by (Some g) is = so f (or_first s.core.front.stop later g f is (sym stop ∙ stops)) inside

    -- it runs
    runs_so : n.core.front.stop ≡ None → StopsNone n
    runs_so runs f stops inside = absurd (none_some f (sym runs ∙ stops))

    -- the disk failed
    disk_so : n.core.front.stop ≡ Some cause.DiskFault → StopsNone n
    disk_so is f stops inside = absurd (disk_not_open f (sym is ∙ stops) inside)

  one_none : (e : Entry) (s n : State) (d : Desk) → Shows job r next terms s.core d → Sound job (shown s.disk s.core d) → Step tells job r next s e n → StopsNone s → StopsNone n
  one_none (entry.Plan k) s n d shows sound step so = runs_so (entry.Plan k) s n d shows sound step (ap (λ (c : Core). c.front.stop) step.core)
  one_none (entry.Claim u) s n d shows sound step so = runs_so (entry.Claim u) s n d shows sound step (ap (λ (c : Core). c.front.stop) step.core ∙ step.may.0)
  one_none (entry.Report u g) s n d shows sound step so =
      still_so (entry.Report u g) s n d shows sound step (due s.core u g) (step.moves t) (ap (λ (c : Core). c.front.committed) step.core) (ap (λ (c : Core). c.front.stop) step.core) so
  one_none (entry.Version u) s n d shows sound step so = by s.core.front.stop refl
    where
      by : (o : Option Cause) → s.core.front.stop ≡ o → StopsNone n
      by None runs = λ f stops inside.
          let moves : Goes (publishes_by job s.cuts u None) s.disk n.disk = subst (λ (o : Option Cause). Goes (publishes_by job s.cuts u o) s.disk n.disk) runs (step.moves t) in
          subst (λ (h : Had). HasNone h n.core.front.committed) (sym moves.1)
          (subst (HasNone (added (name.Delta u.number u.epoch) (truth (job.course s.cuts) (name.Delta u.number u.epoch)) (had_now s.disk))) (sym (ap (λ (c : Core). c.front.committed) step.core))
          (delta_none (had_now s.disk) u.number u.epoch s.core.front.committed (truth (job.course s.cuts) (name.Delta u.number u.epoch)) (running_none (entry.Version u) s n d shows sound step runs)))
      by (Some g) is =
          still_so (entry.Version u) s n d shows sound step (due s.core u None) (subst (λ (o : Option Cause). Goes (publishes_by job s.cuts u o) s.disk n.disk) is (step.moves t))
          (ap (λ (c : Core). c.front.committed) step.core) (ap (λ (c : Core). c.front.stop) step.core) so
  one_none (entry.Missed u) s n d shows sound step so = disk_so (entry.Missed u) s n d shows sound step (ap (λ (c : Core). c.front.stop) step.core)
  one_none (entry.OutFile k) s n d shows sound step so = runs_so (entry.OutFile k) s n d shows sound step (ap (λ (c : Core). c.front.stop) step.core)
  one_none (entry.Sync clock) s n d shows sound step so = runs_so (entry.Sync clock) s n d shows sound step (ap (λ (c : Core). c.front.stop) step.core)
  one_none (entry.Commit k more) s n d shows sound step so = runs_so (entry.Commit k more) s n d shows sound step (ap (λ (c : Core). c.front.stop) step.core)
  one_none (entry.Upkeep p v) s n d shows sound step so = runs_so (entry.Upkeep p v) s n d shows sound step (ap (λ (c : Core). c.front.stop) step.core ∙ step.may)
  one_none (entry.Snapshot p v) s n d shows sound step so = by s.core.front.stop refl
    where
      by : (o : Option Cause) → s.core.front.stop ≡ o → StopsNone n
      by None runs = runs_so (entry.Snapshot p v) s n d shows sound step (ap (λ (c : Core). c.front.stop) step.core ∙ runs)
      by (Some g) is =
          still_so (entry.Snapshot p v) s n d shows sound step None (subst (λ (o : Option Cause). Goes (makes_by job s.cuts p v o) s.disk n.disk) is (step.moves t))
          (ap (λ (c : Core). c.front.committed) step.core) (ap (λ (c : Core). c.front.stop) step.core ∙ or_none s.core.front.stop) so
  one_none (entry.Unmade p v g) s n d shows sound step so =
      still_so (entry.Unmade p v g) s n d shows sound step (Some g) (step.moves t) (ap (λ (c : Core). c.front.committed) step.core) (ap (λ (c : Core). c.front.stop) step.core) so
  one_none (entry.Untaken p v) s n d shows sound step so = disk_so (entry.Untaken p v) s n d shows sound step (ap (λ (c : Core). c.front.stop) step.core)
  one_none (entry.Drop q) s n d shows sound step so = runs_so (entry.Drop q) s n d shows sound step (ap (λ (c : Core). c.front.stop) step.core ∙ step.may)
  one_none (entry.Undropped q) s n d shows sound step so = disk_so (entry.Undropped q) s n d shows sound step (ap (λ (c : Core). c.front.stop) step.core)
  one_none (entry.Stop g) s n d shows sound step so =
      λ f stops inside. absurd (call_not_open r s.core g step.may.1 (subst IsOfOpen (sym (same_cause g f (sym (ap (λ (c : Core). c.front.stop) step.core) ∙ stops))) inside))

  all_none : (es : List Entry) (s n : State) (d : Desk) → IsSound r s.core → d.cuts ≡ s.cuts → Shows job r next terms s.core d → ShowsShelf s.core s.shelf d → Sound job (shown s.disk s.core d) → StopsNone s → Leads tells job r next s es n → StopsNone n
  all_none [] s n d core cuts shows held sound so l = subst StopsNone l so
  all_none (e ∷ es) s n d core cuts shows held sound so l =
      let mid = l.0 in
      let one = list_follows tells job r next terms t (e ∷ []) s mid d core cuts shows held (mid, l.1, refl) in
      let later : Sound job (shown mid.disk mid.core one.0) = (moves_on tells job (events_all r s.core (e ∷ [])) (shown s.disk s.core d) (shown mid.disk mid.core one.0) t terms.causal sound one.1).sound in
      all_none es mid n one.0 (subst (IsSound r) (sym l.1.core) (step_sound r s.core e l.1.may core)) one.2 one.3 one.4 later (one_none e s mid d shows sound l.1 so) l.2

-- where the desk of a round stopped for such a cause, no image has the commit of the first epoch that is not committed
pub stop_uncommitted : (tells : Type 0) → tells → (job : Job) (r : Scope) (next : Cuts → ℕ → Bool) (terms : Terms job r next) (st : Start) (es : List Entry) (s n : State) → Begins job r next terms st s → Leads tells job r next s es n
    → (f : Cause) → n.core.front.stop ≡ Some f → IsOfOpen f → LeavesNow n.disk (λ (image : Files). image (name.Commit n.core.front.committed) ≡ None)
stop_uncommitted tells t job r next terms st es s n b l f stops inside =
    let here : Shows job r next terms s.core b.desk = subst (λ (x : Core). Shows job r next terms x b.desk) (sym b.core)
    (shows_first job r next terms st b.files b.desk b.at.committed b.at.begins b.at.from b.is st.is_planned b.at.planned b.at.to b.at.due) in
    let sound : IsSound r s.core = subst (IsSound r) (sym b.core) (first_sound r st b.at.start) in
    let sound_first : IsSoundAt job b.desk (had_now s.disk) = subst (λ (h : Had). IsSoundAt job b.desk h) (sym b.settled.is) (open_sound job b.files b.desk b.is) in
    let begun : Sound job (shown s.disk s.core b.desk) = subst (Sound job) (sym (shown_first r st s.disk s.core b.desk b.core)) sound_first in
    let none = all_none tells t job r next terms es s n b.desk sound (sym b.cuts) here (begins_shelf job r next terms st s b) begun (λ g stopped of. absurd (none_some g (sym (ap (λ (c : Core). c.front.stop) b.core) ∙ stopped))) l f stops inside in
    record { each = λ image may. none (image (name.Commit n.core.front.committed)) (may (name.Commit n.core.front.committed)) }
