-- Where a desk stopped for a cause of its epoch, each image has the plan of that epoch.
use Rattle.std.proofs.Common.{◌≡◌, ◌∷◌, [], ◌∙◌, ℕ, Bool, true, false, true≢false, List, Option, Some, None, refl, sym, ap, subst, inl, inr, le_refl}
use Rattle.ssq_outside.specs.declared.name.Name.TheVariants as name
use Rattle.ssq_outside.specs.declared.gate.TaskId.{TaskId}
use Rattle.ssq_outside.specs.Files.{Files, Had}
use Rattle.ssq_outside.specs.History.{History, LeavesNow, had_now}
use Rattle.ssq_core.specs.Course.{Cuts, Job}
use Rattle.ssq_core.specs.Standing.{IsThere}
use Rattle.ssq_core.specs.Machine as machine
use Rattle.ssq_core.specs.Machine.{Desk}
use Rattle.ssq_core.specs.Sound.{Sound, IsSoundAt}
use Rattle.ssq_core.proofs.Moves.{moves_on, open_sound}
use Rattle.ssq_core.proofs.Opening.{sure_stay}
use Rattle.ssq_board.specs.declared.front.Cause.{Cause}
use Rattle.ssq_board.specs.declared.front.Cause.TheVariants as cause
use Rattle.ssq_board.specs.declared.front.Entry.{Entry}
use Rattle.ssq_board.specs.declared.front.Entry.TheVariants as entry
use Rattle.ssq_board.specs.declared.front.Place.TheVariants as place
use mathlib.Core.Option.{some}
use Rattle.ssq_board.specs.Core.{Scope, Core, at, events_all, is_of_epoch, is_open, or_stop}
use Rattle.ssq_board.specs.Shown.{Start, IsSound}
use Rattle.ssq_board.specs.Follows.{Terms, State, Step, Leads, Goes, Shows, ShowsShelf, life_of, makes_by, publishes_by, shown}
use Rattle.ssq_board.proofs.Following.{list_follows}
use Rattle.ssq_board.proofs.Opening.{shows_first}
use Rattle.ssq_board.proofs.Sounds.{first_sound, step_sound}
use Rattle.ssq_board.proofs.Leasts.{some_is as same_cause}
use Rattle.ssq_promise.specs.Run.{Begins}
use Rattle.ssq_promise.proofs.Joining.{begins_shelf, shown_first}
use Rattle.ssq_drive.proofs.Cutting.{none_some, not_of_epoch}

waits_out : machine.waits ≡ machine.out → ⊥
waits_out is = cc

-- of two causes the first
pub or_first : (o later : Option Cause) (g f : Cause) → o ≡ Some g → or_stop o later ≡ Some f → o ≡ Some f
or_first None later g f is stops = absurd (none_some g is)
or_first (Some h) later g f is stops = stops

-- the disk failed, which is no cause of an epoch
disk_not : {A : Type 0} (f : Cause) → Some cause.DiskFault ≡ Some f → is_of_epoch f ≡ true → A
disk_not f is own = absurd (true≢false (sym own ∙ ap is_of_epoch (sym (same_cause cause.DiskFault f is))))

module _ (tells : Type 0) (t : tells) (job : Job) (r : Scope) (next : Cuts → ℕ → Bool) (terms : Terms job r next) where
  -- each image has the plan of the first epoch that is not committed
  abbrev HasPlan : History → Core → Type 0
  HasPlan h c = LeavesNow h (λ (image : Files). IsThere image (name.Plan c.front.committed))

  -- so it is where the desk stopped for a cause of that epoch
  abbrev StopsPlanned : State → Type 0
  StopsPlanned s = (f : Cause) → s.core.front.stop ≡ Some f → is_of_epoch f ≡ true → HasPlan s.disk s.core

  -- the disk is as it was
  kept_so : (s n : State) → n.disk ≡ s.disk → n.core.front.committed ≡ s.core.front.committed → HasPlan s.disk s.core → HasPlan n.disk n.core
  kept_so s n same count has =
      subst (λ (h : History). LeavesNow h (λ (image : Files). IsThere image (name.Plan n.core.front.committed))) (sym same)
      (subst (λ (k : ℕ). LeavesNow s.disk (λ (image : Files). IsThere image (name.Plan k))) (sym count) has)

  module _ (e : Entry) (s n : State) (d : Desk) (core : IsSound r s.core) (cuts : d.cuts ≡ s.cuts) (shows : Shows job r next terms s.core d) (held : ShowsShelf s.core s.shelf d) (sound : Sound job (shown s.disk s.core d)) (step : Step tells job r next s e n) where
    -- a task that is with a worker was claimed, where the plan was settled
    plan_sure : (u : TaskId) → is_open s.core ≡ true → u.epoch ≡ s.core.front.committed → at s.core u ≡ some place.Away → d.sure (name.Plan s.core.front.committed) ≡ true
    plan_sure u opened epoch away = shows.plan_settled opened (elim (shows.claimed u epoch) [
      | inl waits ↦ absurd (waits_out (sym waits ∙ shows.tasks opened u place.Away epoch away))
      | inr fresh ↦ fresh
    ])

    -- and what is settled stays
    plan_stays : s.core.front.stop ≡ None → n.core.front.committed ≡ s.core.front.committed → d.sure (name.Plan s.core.front.committed) ≡ true → HasPlan n.disk n.core
    plan_stays runs count sure =
        let one = list_follows tells job r next terms t (e ∷ []) s n d core cuts shows held (n, step, refl) in
        let stay = sure_stay tells t job (events_all r s.core (e ∷ [])) (shown s.disk s.core d) (shown n.disk n.core one.0) d (name.Plan s.core.front.committed) terms.causal sound refl (ap life_of runs) one.1 refl sure in
        subst (λ (k : ℕ). LeavesNow n.disk (λ (image : Files). IsThere image (name.Plan k))) (sym count) (record { each = λ image may. (stay.each n.disk.moment stay.later (le_refl n.disk.moment) image may).0 })

    -- a task came back that stopped the desk; or it was stopped, and the disk is as it was
    back_so : (u : TaskId) (later : Option Cause) → is_open s.core ≡ true → u.epoch ≡ s.core.front.committed → at s.core u ≡ some place.Away → n.core.front.committed ≡ s.core.front.committed → n.core.front.stop ≡ or_stop s.core.front.stop later
        → ((g : Cause) → s.core.front.stop ≡ Some g → n.disk ≡ s.disk) → StopsPlanned s → StopsPlanned n
    back_so u later opened epoch away count stop still so f stops own = by s.core.front.stop refl
      where
        by : (o : Option Cause) → s.core.front.stop ≡ o → HasPlan n.disk n.core
        by None runs = plan_stays runs count (plan_sure u opened epoch away)
        by (Some g) is = kept_so s n (still g is) count (so f (or_first s.core.front.stop later g f is (sym stop ∙ stops)) own)

    -- nothing stopped it, and the disk is as it was where it was stopped
    same_so : n.core.front.committed ≡ s.core.front.committed → n.core.front.stop ≡ s.core.front.stop → ((g : Cause) → s.core.front.stop ≡ Some g → n.disk ≡ s.disk) → StopsPlanned s → StopsPlanned n
    same_so count stop still so f stops own = (let is = sym stop ∙ stops in kept_so s n (still f is) count (so f is own))

    -- it runs
    runs_so : n.core.front.stop ≡ None → StopsPlanned n
    runs_so runs f stops own = absurd (none_some f (sym runs ∙ stops))

    -- it stopped, and for no cause of an epoch
    other_so : (g : Cause) → n.core.front.stop ≡ Some g → is_of_epoch g ≡ false → StopsPlanned n
    other_so g stop other f stops own = absurd (true≢false (sym own ∙ ap is_of_epoch (sym (same_cause g f (sym stop ∙ stops))) ∙ other))

    never : s.core.front.stop ≡ None → (g : Cause) → s.core.front.stop ≡ Some g → n.disk ≡ s.disk
    never runs g stops = absurd (none_some g (sym runs ∙ stops))

  one_planned : (e : Entry) (s n : State) (d : Desk) → IsSound r s.core → d.cuts ≡ s.cuts → Shows job r next terms s.core d → ShowsShelf s.core s.shelf d → Sound job (shown s.disk s.core d) → Step tells job r next s e n → StopsPlanned s → StopsPlanned n
  one_planned (entry.Plan k) s n d core cuts shows held sound step so = runs_so (entry.Plan k) s n d core cuts shows held sound step (ap (λ (c : Core). c.front.stop) step.core)
  one_planned (entry.Claim u) s n d core cuts shows held sound step so = runs_so (entry.Claim u) s n d core cuts shows held sound step (ap (λ (c : Core). c.front.stop) step.core ∙ step.may.0)
  one_planned (entry.Report u g) s n d core cuts shows held sound step so =
      back_so (entry.Report u g) s n d core cuts shows held sound step u _ step.may.0 step.may.1 step.may.2 (ap (λ (c : Core). c.front.committed) step.core) (ap (λ (c : Core). c.front.stop) step.core) (λ h is. step.moves t) so
  one_planned (entry.Version u) s n d core cuts shows held sound step so =
      back_so (entry.Version u) s n d core cuts shows held sound step u _ step.may.0 step.may.1 step.may.2 (ap (λ (c : Core). c.front.committed) step.core) (ap (λ (c : Core). c.front.stop) step.core)
      (λ h is. subst (λ (o : Option Cause). Goes (publishes_by job s.cuts u o) s.disk n.disk) is (step.moves t)) so
  one_planned (entry.Missed u) s n d core cuts shows held sound step so = other_so (entry.Missed u) s n d core cuts shows held sound step cause.DiskFault (ap (λ (c : Core). c.front.stop) step.core) refl
  one_planned (entry.OutFile k) s n d core cuts shows held sound step so = runs_so (entry.OutFile k) s n d core cuts shows held sound step (ap (λ (c : Core). c.front.stop) step.core)
  one_planned (entry.Sync clock) s n d core cuts shows held sound step so = runs_so (entry.Sync clock) s n d core cuts shows held sound step (ap (λ (c : Core). c.front.stop) step.core)
  one_planned (entry.Commit k due) s n d core cuts shows held sound step so = runs_so (entry.Commit k due) s n d core cuts shows held sound step (ap (λ (c : Core). c.front.stop) step.core)
  one_planned (entry.Upkeep p v) s n d core cuts shows held sound step so = runs_so (entry.Upkeep p v) s n d core cuts shows held sound step (ap (λ (c : Core). c.front.stop) step.core ∙ step.may)
  one_planned (entry.Snapshot p v) s n d core cuts shows held sound step so =
      same_so (entry.Snapshot p v) s n d core cuts shows held sound step (ap (λ (c : Core). c.front.committed) step.core) (ap (λ (c : Core). c.front.stop) step.core)
      (λ h is. subst (λ (o : Option Cause). Goes (makes_by job s.cuts p v o) s.disk n.disk) is (step.moves t)) so
  one_planned (entry.Unmade p v g) s n d core cuts shows held sound step so = by s.core.front.stop refl
    where
      now : n.core.front.stop ≡ or_stop s.core.front.stop (Some g)
      now = ap (λ (c : Core). c.front.stop) step.core

      by : (o : Option Cause) → s.core.front.stop ≡ o → StopsPlanned n
      by None runs = other_so (entry.Unmade p v g) s n d core cuts shows held sound step g (now ∙ ap (λ (o : Option Cause). or_stop o (Some g)) runs) step.may
      by (Some h) is = same_so (entry.Unmade p v g) s n d core cuts shows held sound step (ap (λ (c : Core). c.front.committed) step.core) (now ∙ ap (λ (o : Option Cause). or_stop o (Some g)) is ∙ sym is) (λ x stops. step.moves t) so
  one_planned (entry.Untaken p v) s n d core cuts shows held sound step so = other_so (entry.Untaken p v) s n d core cuts shows held sound step cause.DiskFault (ap (λ (c : Core). c.front.stop) step.core) refl
  one_planned (entry.Drop q) s n d core cuts shows held sound step so = runs_so (entry.Drop q) s n d core cuts shows held sound step (ap (λ (c : Core). c.front.stop) step.core ∙ step.may)
  one_planned (entry.Undropped q) s n d core cuts shows held sound step so = other_so (entry.Undropped q) s n d core cuts shows held sound step cause.DiskFault (ap (λ (c : Core). c.front.stop) step.core) refl
  one_planned (entry.Stop g) s n d core cuts shows held sound step so =
      λ f stops own. absurd (not_of_epoch r s.core g step.may.1 (ap is_of_epoch (same_cause g f (sym (ap (λ (c : Core). c.front.stop) step.core) ∙ stops)) ∙ own))

  all_planned : (es : List Entry) (s n : State) (d : Desk) → IsSound r s.core → d.cuts ≡ s.cuts → Shows job r next terms s.core d → ShowsShelf s.core s.shelf d → Sound job (shown s.disk s.core d) → StopsPlanned s → Leads tells job r next s es n → StopsPlanned n
  all_planned [] s n d core cuts shows held sound so l = subst StopsPlanned l so
  all_planned (e ∷ es) s n d core cuts shows held sound so l =
      let mid = l.0 in
      let one = list_follows tells job r next terms t (e ∷ []) s mid d core cuts shows held (mid, l.1, refl) in
      let later : Sound job (shown mid.disk mid.core one.0) = (moves_on tells job (events_all r s.core (e ∷ [])) (shown s.disk s.core d) (shown mid.disk mid.core one.0) t terms.causal sound one.1).sound in
      all_planned es mid n one.0 (subst (IsSound r) (sym l.1.core) (step_sound r s.core e l.1.may core)) one.2 one.3 one.4 later (one_planned e s mid d core cuts shows held sound l.1 so) l.2

-- where the desk of a round stopped for a cause of its epoch, each image has the plan of that epoch
pub stop_planned : (tells : Type 0) → tells → (job : Job) (r : Scope) (next : Cuts → ℕ → Bool) (terms : Terms job r next) (st : Start) (es : List Entry) (s n : State) → Begins job r next terms st s → Leads tells job r next s es n
    → (f : Cause) → n.core.front.stop ≡ Some f → is_of_epoch f ≡ true → LeavesNow n.disk (λ (image : Files). IsThere image (name.Plan n.core.front.committed))
stop_planned tells t job r next terms st es s n b l =
    let here : Shows job r next terms s.core b.desk = subst (λ (x : Core). Shows job r next terms x b.desk) (sym b.core)
    (shows_first job r next terms st b.files b.desk b.at.committed b.at.begins b.at.from b.is st.is_planned b.at.planned b.at.to b.at.due) in
    let sound : IsSound r s.core = subst (IsSound r) (sym b.core) (first_sound r st b.at.start) in
    let sound_first : IsSoundAt job b.desk (had_now s.disk) = subst (λ (h : Had). IsSoundAt job b.desk h) (sym b.settled.is) (open_sound job b.files b.desk b.is) in
    let begun : Sound job (shown s.disk s.core b.desk) = subst (Sound job) (sym (shown_first r st s.disk s.core b.desk b.core)) sound_first in
    all_planned tells t job r next terms es s n b.desk sound (sym b.cuts) here (begins_shelf job r next terms st s b) begun (λ f stops own. absurd (none_some f (sym (ap (λ (c : Core). c.front.stop) b.core) ∙ stops))) l
