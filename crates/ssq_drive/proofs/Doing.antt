-- A turn with each kind of task.
use Rattle.std.proofs.Common.{◌≡◌, ◌≤◌, ℕ, Bool, List, [], ◌∷◌, Option, Some, None, Result, IfSome, IfErr, IsErrOf, sym, refl, ap, ◌∙◌, subst}
use Rattle.ssq_outside.specs.declared.gate.TaskId.{TaskId}
use Rattle.ssq_outside.specs.Faults.{Rises}
use Rattle.ssq_outside.specs.History.{History}
use Rattle.ssq_meaning.specs.Meaning.{Line}
use Rattle.ssq_feed.specs.declared.task.MapTask.{MapTask}
use Rattle.ssq_feed.specs.declared.task.Fed.{Fed}
use Rattle.ssq_feed.specs.Outcome.{IsFed}
use Rattle.ssq_store.specs.Loaded.{count_to}
use Rattle.ssq_core.specs.Course.{Cuts}
use Rattle.ssq_course.specs.Setting.{Setting}
use Rattle.ssq_task.specs.declared.partition.State.{State}
use Rattle.ssq_task.specs.declared.partition.ReduceTask.{ReduceTask}
use Rattle.ssq_task.specs.declared.partition.Reduced.{Reduced}
use Rattle.ssq_task.specs.declared.out.OutTask.{OutTask}
use Rattle.ssq_task.specs.declared.out.Gathered.{Gathered}
use Rattle.ssq_task.specs.Reducing.{IsReduced}
use Rattle.ssq_task.specs.Gathering.{IsGathered}
use Rattle.ssq_board.specs.declared.front.Cause.{Cause}
use Rattle.ssq_board.specs.declared.front.Cause.TheVariants as cause
use Rattle.ssq_board.specs.declared.front.Entry.TheVariants as entry
use Rattle.ssq_board.specs.Core.{Scope, Core, May}
use Rattle.ssq_board.specs.Shown.{IsSound}
use Rattle.ssq_board.specs.Rounds.{IsAtRest}
use Rattle.ssq_ledger.specs.Shown.{Shown, HasRisen, did}
use Rattle.ssq_desk.specs.declared.round.Round.{Round}
use Rattle.ssq_desk.specs.declared.task.Task.{Task}
use Rattle.ssq_desk.specs.Handed.{IsTaskOf}
use Rattle.ssq_desk.specs.Tasks.{IsReduceTask, IsStateFor, id_of, map_id, reduce_id, out_id}
use Rattle.ssq_desk.specs.Results.{IsReturned, cause_of_feed, cause_of_failed, delta_of, fault_of}
use Rattle.ssq_desk.specs.Published.{IsOut, brings, cause_of_left}
use Rattle.ssq_drive.specs.Driven.{IsTurn}
use Rattle.ssq_drive.proofs.Working.{reported, returned, published}
use Rattle.ssq_drive.proofs.Inputs.{fed_stops, reduce_cause}

-- what was claimed, once it is seen of which kind it is
module _ {D O L S F : Type 0} (one task : Task L S F) (is : one ≡ task) where
  pub claimed_as : (old mid : Shown D O) → May old.scope old.core (entry.Claim (id_of one)) × (mid ≡ did old old.disk (entry.Claim (id_of one) ∷ [])) → May old.scope old.core (entry.Claim (id_of task)) × (mid ≡ did old old.disk (entry.Claim (id_of task) ∷ []))
  claimed_as old mid = subst (λ (x : Task L S F). May old.scope old.core (entry.Claim (id_of x)) × (mid ≡ did old old.disk (entry.Claim (id_of x) ∷ []))) is

  pub back_as : (mid : Shown D O) → ((fault : Option Cause) → May mid.scope mid.core (entry.Report (id_of one) fault)) → (fault : Option Cause) → May mid.scope mid.core (entry.Report (id_of task) fault)
  back_as mid = subst (λ (x : Task L S F). (fault : Option Cause) → May mid.scope mid.core (entry.Report (id_of x) fault)) is

module _ {D L S F : Type 0} (one task : Task L S F) (is : one ≡ task) where
  pub task_as : (stores logs : Type 0) (history : D → History) (lines : L → List Line) (available : L → ℕ) (answers : L → List ℕ) (faults : L → ℕ) (written : S → List ℕ) (mid : Shown D (Round L)) → IsTaskOf stores logs history lines available answers faults written mid one
      → IsTaskOf stores logs history lines available answers faults written mid task
  task_as stores logs history lines available answers faults written mid = subst (IsTaskOf stores logs history lines available answers faults written mid) is

module _ {L : Type 0} (tells : Type 0) (lines : L → List Line) (available : L → ℕ) (answers : L → List ℕ) (counts : L → ℕ) (task : MapTask L) (done : Fed L) (is : IsFed tells lines available answers counts task done) where
  fed_id : map_id done.epoch done.number ≡ map_id task.epoch task.number
  fed_id = (let e = is.epoch in let n = is.number in λ i. map_id (e i) (n i))

  -- what may be reported of the task may be of its result
  pub fed_may : (r : Scope) (c : Core) → ((fault : Option Cause) → May r c (entry.Report (map_id task.epoch task.number) fault)) → (fault : Option Cause) → May r c (entry.Report (map_id done.epoch done.number) fault)
  fed_may r c back fault = subst (λ (t : TaskId). May r c (entry.Report t fault)) (sym fed_id) (back fault)

  pub fed_turn : {D O : Type 0} (faults : D → ℕ) (closing : Bool) (old mid new : Shown D O) → IsSound old.scope old.core → IsAtRest old.core → May old.scope old.core (entry.Claim (map_id task.epoch task.number))
      → mid ≡ did old old.disk (entry.Claim (map_id task.epoch task.number) ∷ [])
      → new ≡ did mid mid.disk (entry.Report (map_id done.epoch done.number) (fault_of (cause_of_feed done.stream done.part) done.outcome) ∷ []) → IsTurn faults closing old new
  fed_turn faults closing old mid new sound rest may claimed came =
      let f = fault_of (cause_of_feed done.stream done.part) done.outcome in
      reported faults closing old mid new (map_id task.epoch task.number) sound rest may claimed f (came ∙ ap (λ (t : TaskId). did mid mid.disk (entry.Report t f ∷ [])) fed_id) refl (fed_stops done.stream done.part done.outcome)

-- a partition's state is at the version before the task's epoch
pub at_version : {S F : Type 0} (owned : Type 0) (written : S → List ℕ) (s : Setting) (cuts : Cuts) (e : ℕ) (task : ReduceTask S F) → IsReduceTask owned written s cuts e task
    → IfSome task.state (λ state. count_to state.held.store.version ≡ task.epoch)
at_version {S} owned written s cuts e task is = by task.state is.state
  where
    by : (state : Option (State S)) → IsStateFor owned written s cuts e task.partition state → IfSome state (λ state. count_to state.held.store.version ≡ task.epoch)
    by None none = tt
    by (Some state) own = own.1.version ∙ sym is.epoch

module _ {S F : Type 0} (tells : Type 0) (written : S → List ℕ) (sealed : F → List ℕ) (counts : S → ℕ) (task : ReduceTask S F) (done : Reduced S F) (is : IsReduced tells written sealed counts task done) where
  reduced_id : reduce_id done.epoch done.partition ≡ reduce_id task.epoch task.partition
  reduced_id = (let e = is.epoch in let p = is.partition in λ i. reduce_id (e i) (p i))

  pub reduced_may : (r : Scope) (c : Core) → ((fault : Option Cause) → May r c (entry.Report (reduce_id task.epoch task.partition) fault)) → (fault : Option Cause) → May r c (entry.Report (reduce_id done.epoch done.partition) fault)
  reduced_may r c back fault = subst (λ (t : TaskId). May r c (entry.Report t fault)) (sym reduced_id) (back fault)

  pub reduced_turn : {D O : Type 0} (faults : D → ℕ) (closing : Bool) (old mid new : Shown D O) (result : Result (Unit {0}) Cause) → IsSound old.scope old.core → IsAtRest old.core → May old.scope old.core (entry.Claim (reduce_id task.epoch task.partition))
      → mid ≡ did old old.disk (entry.Claim (reduce_id task.epoch task.partition) ∷ [])
      → IsReturned (delta_of done.outcome) mid new (reduce_id done.epoch done.partition) (fault_of cause_of_failed done.outcome) result (Rises (faults mid.disk) (faults new.disk))
      → (IsErrOf result cause.DiskFault → Rises (faults mid.disk) (faults new.disk)) → faults mid.disk ≤ faults new.disk → IsTurn faults closing old new
  reduced_turn faults closing old mid new result sound rest may claimed came risen counted =
      let f = fault_of cause_of_failed done.outcome in
      returned faults closing old mid new (reduce_id task.epoch task.partition) sound rest may claimed (delta_of done.outcome) f result refl (reduce_cause done.outcome)
      (subst (λ (t : TaskId). IsReturned (delta_of done.outcome) mid new t f result (Rises (faults mid.disk) (faults new.disk))) reduced_id came) risen counted

module _ {S F : Type 0} (tells : Type 0) (written : S → List ℕ) (sealed : F → List ℕ) (counts : S → ℕ) (task : OutTask S F) (done : Gathered S F) (is : IsGathered tells written sealed counts task done) where
  gathered_id : out_id done.epoch ≡ out_id task.epoch
  gathered_id = ap out_id is.epoch

  pub gathered_may : (r : Scope) (c : Core) → ((fault : Option Cause) → May r c (entry.Report (out_id task.epoch) fault)) → (fault : Option Cause) → May r c (entry.Report (out_id done.epoch) fault)
  gathered_may r c back fault = subst (λ (t : TaskId). May r c (entry.Report t fault)) (sym gathered_id) (back fault)

  pub gathered_turn : {D O : Type 0} (faults : D → ℕ) (closing : Bool) (old mid new : Shown D O) (result : Result (Unit {0}) Cause) → IsSound old.scope old.core → IsAtRest old.core → May old.scope old.core (entry.Claim (out_id task.epoch))
      → mid ≡ did old old.disk (entry.Claim (out_id task.epoch) ∷ [])
      → IsOut (brings mid.core.front.stop (fault_of cause_of_left done.outcome)) mid new (out_id done.epoch) (fault_of cause_of_left done.outcome) result (Rises (faults mid.disk) (faults new.disk))
      → IfErr result (λ f. HasRisen f (faults mid.disk) (faults new.disk)) → faults mid.disk ≤ faults new.disk → IsTurn faults closing old new
  gathered_turn faults closing old mid new result sound rest may claimed out risen counted =
      let f = fault_of cause_of_left done.outcome in
      published faults closing old mid new (out_id task.epoch) sound rest may claimed f result refl (λ g. refl)
      (subst (λ (t : TaskId). IsOut (brings mid.core.front.stop f) mid new t f result (Rises (faults mid.disk) (faults new.disk))) gathered_id out) risen counted
