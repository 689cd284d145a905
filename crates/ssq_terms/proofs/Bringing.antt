-- What a reduce task brings is its partition's own.
use Rattle.std.proofs.Common.{◌≡◌, ◌+◌, ◌++◌, ℕ, List, Option, Some, None, ap, sym, ◌∙◌, subst, add-one}
use Rattle.std.specs.Prelude.{IfSome, is_some}
use Rattle.std.specs.List.Sorted.{IsPermutation}
use Rattle.std.proofs.lemmas.Option.{IfSome_then}
use Rattle.std.proofs.lemmas.Result.{IfOk-weaker, IfErr-weaker}
use Rattle.ssq_shape.specs.declared.bound.Bound.{Bound}
use Rattle.ssq_meaning.specs.Epochs.{watermark_before}
use Rattle.ssq_meaning.specs.Operator.{operator_of}
use Rattle.ssq_version.specs.State.{between}
use Rattle.ssq_version.specs.Text.{delta_text}
use Rattle.ssq_core.specs.Course.{Cuts}
use Rattle.ssq_course.specs.Setting.{Setting, parts_in, cuts_of, watermark_at, state_at, partition_out}
use Rattle.ssq_task.specs.declared.partition.Held.{Held}
use Rattle.ssq_task.specs.declared.partition.State.{State}
use Rattle.ssq_task.specs.declared.partition.ReduceTask.{ReduceTask}
use Rattle.ssq_task.specs.declared.partition.Reduced.{Reduced}
use Rattle.ssq_task.specs.declared.partition.ReducedRows.{ReducedRows}
use Rattle.ssq_task.specs.declared.partition.ReduceFault.{ReduceFault}
use Rattle.ssq_task.specs.declared.partition.ReduceFault.TheVariants as fault
use Rattle.ssq_task.specs.Reducing.{HasBrought, HasFailed, IsAsBefore, IsBack, IsCause, IsIndexed, IsReduced, timely_in, written_in}
use Rattle.ssq_terms.specs.Partitions.{accepted_by, on_time_to, mark_before, overflow_of, HoldsStateOf, held_in, store_of, IsReduceOf, IsGivenPartition, IsVersionOf, IsFaultOf, IsNoVersionOf, BringsPartition, PartitionsAreBrought}
use Rattle.ssq_terms.proofs.Continuing.{PartitionLaws, continue, rows_are}

-- the store that comes back holds the state that it is to hold
back : {S : Type 0} (s : Setting) (cuts : Cuts) (e n p : ℕ) (state : Option (State S)) (held : Option Held) → IsBack state held → HoldsStateOf s cuts e p (store_of (held_in state))
    → IfSome held (λ held. held.store.state ≡ state_at s cuts p n) → HoldsStateOf s cuts n p (store_of held)
back s cuts e n p None None is there holds = there
back s cuts e n p None (Some held) is there holds = cc
back s cuts e n p (Some state) None is there holds = absurd is
back s cuts e n p (Some state) (Some held) is there holds = (there.0, is ∙ there.1, holds)

-- the index of what a task is given
index_in : {S : Type 0} (query : Bound) (state : Option (State S)) → IfSome (held_in state) (IsIndexed query) → IfSome state (λ state. IsIndexed query state.held)
index_in query None indexed = tt
index_in query (Some state) indexed = indexed

-- after a fault it holds what it held
held_before : {S : Type 0} (s : Setting) (cuts : Cuts) (e p : ℕ) (state : Option (State S)) (held : Option Held) → IsAsBefore state held → HoldsStateOf s cuts e p (store_of (held_in state))
    → IfSome held (λ held. held.store.state ≡ state_at s cuts p e)
held_before s cuts e p state None is there = tt
held_before s cuts e p None (Some held) is there = cc
held_before s cuts e p (Some state) (Some held) is there = is.1 ∙ there.2

module _ {S F : Type 0} (laws : PartitionLaws) (tells : Type 0) (written : S → List ℕ) (sealed : F → List ℕ) (faults : S → ℕ) (s : Setting) (cuts : Cuts) (e : ℕ) (task : ReduceTask S F) (of : IsReduceOf s cuts e task)
    (given : IsGivenPartition s cuts e task) where
  -- what all accepted rows leave is the state after the epoch
  next_state : (operator_of task.view.bound.now).state (accepted_by s cuts e task.partition ++ timely_in task) task.watermark ≡ state_at s cuts task.partition (e + 1)
  next_state =
      let p = task.partition in
      let new = rows_are s cuts e task of in
      let rows : accepted_by s cuts e p ++ on_time_to s cuts e p ≡ accepted_by s cuts (e + 1) p = sym (laws.joins s.job.bound (parts_in s) (cuts_of cuts) s.job.partitions p e) in
      let mark : watermark_at s cuts e ≡ mark_before s cuts (e + 1) = sym (ap (watermark_before s.job.bound (parts_in s) (cuts_of cuts)) (add-one e)) in
      (λ i. (operator_of (of.query i)).state (accepted_by s cuts e p ++ new i) (of.watermark i)) ∙ (λ i. (operator_of s.job.bound).state (rows i) (mark i))

  old_state : (operator_of task.view.bound.now).state (accepted_by s cuts e task.partition) (mark_before s cuts e) ≡ state_at s cuts task.partition e
  old_state = ap (λ (query : Bound). (operator_of query).state (accepted_by s cuts e task.partition) (mark_before s cuts e)) of.query

  own_out : (operator_of task.view.bound.now).added (accepted_by s cuts e task.partition) (timely_in task) (mark_before s cuts e) task.watermark ≡ partition_out s cuts e task.partition
  own_out = let new = rows_are s cuts e task of in λ i. (operator_of (of.query i)).added (accepted_by s cuts e task.partition) (new i) (mark_before s cuts e) (of.watermark i)

  own_fault : (operator_of task.view.bound.now).fault (accepted_by s cuts e task.partition) (timely_in task) (mark_before s cuts e) task.watermark ≡ overflow_of s cuts e task.partition
  own_fault = let new = rows_are s cuts e task of in λ i. (operator_of (of.query i)).fault (accepted_by s cuts e task.partition) (new i) (mark_before s cuts e) (of.watermark i)

  version_of : (held : Option Held) (brought : ReducedRows F) → IsBack task.state held
      → HasBrought tells written sealed task.view.bound.now task.epoch task.partition task.watermark (timely_in task) task.state held brought → IsVersionOf tells written sealed s cuts e task.partition task.state held brought
  version_of held brought is has =
      let p = task.partition in
      let own = has.meaning (accepted_by s cuts e p) (mark_before s cuts e) given in
      record {
        shown = subst (IsPermutation brought.rows.items) own_out own.shown;
        faultless = ap is_some (sym own_fault ∙ own.faultless);
        kept = record {
          store = back s cuts e (e + 1) p task.state held is of.held.store (IfSome_then held own.kept (λ held kept. kept ∙ next_state));
          indexed = subst (λ (query : Bound). IfSome held (IsIndexed query)) of.query (has.indexed (index_in task.view.bound.now task.state (subst (λ (query : Bound). IfSome (held_in task.state) (IsIndexed query)) (sym of.query) of.held.indexed)));
        };
        changed = λ told. IfSome_then brought.delta (own.changed told)
            (λ file same. same ∙ (λ i. written_in written task.state ++ delta_text p (of.epoch i) (between (old_state i) (next_state i))));
      }

  fault_of : (failed : ReduceFault) → IsCause faults task.view.bound.now task.partition task.watermark (timely_in task) (accepted_by s cuts e task.partition) (mark_before s cuts e) failed → IsFaultOf s cuts e task.partition failed
  fault_of (fault.Overflow key) cause = sym own_fault ∙ cause
  fault_of fault.DiskFault cause = tt
  fault_of fault.NoMemory cause = tt

  no_version_of : (held : Option Held) (failed : ReduceFault × Option S) → IsBack task.state held
      → HasFailed faults task.view.bound.now task.partition task.watermark (timely_in task) task.state held failed → IsNoVersionOf s cuts e task.partition held failed
  no_version_of held failed is has = record {
    same = back s cuts e e task.partition task.state held is of.held.store (held_before s cuts e task.partition task.state held has.same of.held.store);
    cause = fault_of failed.0 (has.cause (accepted_by s cuts e task.partition) (mark_before s cuts e) given);
  }

  brings : (done : Reduced S F) → IsReduced tells written sealed faults task done → BringsPartition tells written sealed s cuts e task done
  brings done is = record {
    brought = IfOk-weaker done.outcome _ _ (λ brought has. version_of done.held brought is.held has) is.brought;
    failed = IfErr-weaker done.outcome _ _ (λ failed has. no_version_of done.held failed is.held has) is.failed;
  }

pub are_brought : {S F : Type 0} → PartitionLaws → (tells : Type 0) (written : S → List ℕ) (sealed : F → List ℕ) (faults : S → ℕ) → PartitionsAreBrought tells written sealed faults
are_brought laws tells written sealed faults s bound partitions lens cuts e task done is found covered of reduced =
    brings laws tells written sealed faults s cuts e task of (continue laws s bound partitions lens cuts e task is found covered of) done reduced
