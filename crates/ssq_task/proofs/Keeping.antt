-- What a query that keeps state keeps.
use Rattle.std.proofs.Common.{◌≡◌, ◌++◌, List, Option, Result, Some, true≢false, refl, ap, sym, ◌∙◌, subst}
use Rattle.std.specs.Prelude.{ℕ, ℤ, All, IfErr, IfOk, filter, not, is_some}
use Rattle.std.proofs.lemmas.Result.{IfErr-weaker}
use Rattle.ssq_time.specs.Time.{IsStampTime}
use Rattle.ssq_value.specs.Kind.{IfTime}
use Rattle.ssq_shape.specs.declared.bound.Bound.{Bound}
use Rattle.ssq_shape.specs.declared.bound.Grouping.{Grouping}
use Rattle.ssq_shape.specs.declared.bound.Joining.{Joining}
use Rattle.ssq_shape.specs.declared.bound.Shape.{Shape}
use Rattle.ssq_shape.specs.declared.bound.Shape.TheVariants.{Plain, Group, Dedup, Join}
use Rattle.ssq_meaning.specs.FedRows.{FedRow}
use Rattle.ssq_meaning.specs.Epochs.{timely}
use Rattle.ssq_meaning.specs.Operator.{dedup, group, join, operator_for, operator_of}
use Rattle.ssq_step.specs.declared.fault.StepFault.{StepFault}
use Rattle.ssq_step.specs.declared.fault.StepFault.TheVariants as step
use Rattle.ssq_step.specs.declared.stepped.Stepped.{Stepped}
use Rattle.ssq_step.specs.Indexing.{IsIndex, Timed}
use Rattle.ssq_step.specs.Steps as steps
use Rattle.ssq_step.specs.Steps.{IsStep}
use Rattle.ssq_agg.specs.Steps as groups
use Rattle.ssq_dedup.specs.Steps as repeats
use Rattle.ssq_join.specs.Steps as pairs
use Rattle.ssq_version.specs.State.{Ascends, IsAfter, between}
use Rattle.ssq_version.specs.State as version
use Rattle.ssq_version.specs.Text.{delta_text}
use Rattle.ssq_store.specs.declared.fault.SealFault.{SealFault}
use Rattle.ssq_store.specs.declared.fault.SealFault.TheVariants as seal
use Rattle.ssq_store.specs.Loaded.{count_to}
use Rattle.ssq_task.specs.declared.partition.Held.{Held}
use Rattle.ssq_task.specs.declared.partition.State.{State}
use Rattle.ssq_task.specs.Reducing.{not_past, fault_of_step, fault_of_seal, IsAsBefore, IsStageAfter, IsGivenBy, IsGivenState, IsEpoch, HasBrought, IsCause, HasFailed}
use Rattle.ssq_task.specs.Stepping.{CanStep, CanStepBy}

-- ---- the step of the shape

module _ (query : Bound) (state : version.State) (closing : List Timed) (old new : List FedRow) (before now : Option ℤ) where
  -- the rows that are not late are those whose time is not past
  timely_by : (shape : Shape) → CanStepBy shape query state closing old new before now → (rows : List FedRow) → not_past now rows ≡ filter (λ row. not ((operator_for shape query).is_late now row)) rows
  timely_by Plain can rows = absurd can
  timely_by (Group grouping) can rows = refl
  timely_by (Dedup columns) can rows = refl
  timely_by (Join joining) can rows = refl

  pub timely_is : CanStep query state closing old new before now → (rows : List FedRow) → not_past now rows ≡ timely query now rows
  unfolding operator_of
  timely_is can rows = timely_by query.shape can rows

  was_by : (shape : Shape) → CanStepBy shape query state closing old new before now → state ≡ (operator_for shape query).state old before
  was_by Plain can = absurd can
  was_by (Group grouping) can = can.kept
  was_by (Dedup columns) can = can.kept
  was_by (Join joining) can = can.kept

  -- the state is what the operator keeps over the rows before
  pub was_kept : CanStep query state closing old new before now → state ≡ (operator_of query).state old before
  unfolding operator_of
  was_kept can = was_by query.shape can

  module _ (result : Result Stepped StepFault) (can : CanStep query state closing old new before now) where
    -- what holds of the step by the query's shape holds of the step
    by_shape : (P : Shape → Type 0) (shape : Shape) → query.shape ≡ shape → (CanStepBy shape query state closing old new before now → P shape) → P query.shape
    by_shape P shape is gives = subst P (sym is) (gives (subst (λ (shape : Shape). CanStepBy shape query state closing old new before now) is can))

    pub groups_step : (grouping : Grouping) → query.shape ≡ Group grouping → (groups.Given query grouping state closing old new before now → IfOk result (IsStep (group query grouping) state old new before now))
        → IfOk result (IsStep (operator_of query) state old new before now)
    unfolding operator_of
    groups_step grouping is gives = by_shape (λ shape. IfOk result (IsStep (operator_for shape query) state old new before now)) (Group grouping) is gives

    pub groups_cause : (grouping : Grouping) → query.shape ≡ Group grouping → (groups.Given query grouping state closing old new before now → IfErr result (steps.IsCause (group query grouping) old new before now))
        → IfErr result (steps.IsCause (operator_of query) old new before now)
    unfolding operator_of
    groups_cause grouping is gives = by_shape (λ shape. IfErr result (steps.IsCause (operator_for shape query) old new before now)) (Group grouping) is gives

    pub repeats_step : (columns : List ℕ) → query.shape ≡ Dedup columns → (repeats.Given query columns state closing old new before now → IfOk result (IsStep (dedup query columns) state old new before now))
        → IfOk result (IsStep (operator_of query) state old new before now)
    unfolding operator_of
    repeats_step columns is gives = by_shape (λ shape. IfOk result (IsStep (operator_for shape query) state old new before now)) (Dedup columns) is gives

    -- that memory ran out is a cause
    no_memory : (fault : StepFault) → fault ≡ step.NoMemory → steps.IsCause (operator_of query) old new before now fault
    no_memory fault is = subst (steps.IsCause (operator_of query) old new before now) (sym is) tt

    pub repeats_cause : IfErr result (λ fault. fault ≡ step.NoMemory) → IfErr result (steps.IsCause (operator_of query) old new before now)
    repeats_cause none = IfErr-weaker result (λ fault. fault ≡ step.NoMemory) (steps.IsCause (operator_of query) old new before now) no_memory none

    pub pairs_step : (joining : Joining) → query.shape ≡ Join joining → (pairs.Given query joining state closing old new before now → IfOk result (IsStep (join query joining) state old new before now))
        → IfOk result (IsStep (operator_of query) state old new before now)
    unfolding operator_of
    pairs_step joining is gives = by_shape (λ shape. IfOk result (IsStep (operator_for shape query) state old new before now)) (Join joining) is gives

    pub pairs_cause : (joining : Joining) → query.shape ≡ Join joining → (pairs.Given query joining state closing old new before now → IfErr result (steps.IsCause (join query joining) old new before now))
        → IfErr result (steps.IsCause (operator_of query) old new before now)
    unfolding operator_of
    pairs_cause joining is gives = by_shape (λ shape. IfErr result (steps.IsCause (operator_for shape query) old new before now)) (Join joining) is gives

-- ---- the task

-- a state is given to a query that keeps one alone
given_by : {S : Type 0} (shape : Shape) (query : Bound) (partition : ℕ) (old new : List FedRow) (before now : Option ℤ) (state : State S) → IsGivenBy shape query partition old new before now (Some state)
    → IsGivenState shape query partition old new before now state
given_by Plain query partition old new before now state given = absurd (true≢false (ap is_some given))
given_by (Group grouping) query partition old new before now state given = given
given_by (Dedup columns) query partition old new before now state given = given
given_by (Join joining) query partition old new before now state given = given

module _ {S F : Type 0} (tells : Type 0) (written : S → List ℕ) (sealed : F → List ℕ) (query : Bound) (epoch partition : ℕ) (now : Option ℤ) (new : List FedRow) (state : State S)
    (ascend : (rows : List FedRow) (at : Option ℤ) → Ascends ((operator_of query).state rows at)) (stepped : Stepped) (held : Held) (file : F)
    (at_epoch : count_to state.held.store.version ≡ epoch)
    (moved : tells → (after : version.State) → Ascends after → IsAfter stepped.change state.held.store.state after
    → sealed file ≡ written state.stage ++ delta_text state.held.store.partition (count_to state.held.store.version) (between state.held.store.state after))
    (advanced : (after : version.State) → Ascends after → IsAfter stepped.change state.held.store.state after → held.store.state ≡ after)
    (followed : IsIndex query state.held.store.state state.held.closing → IsIndex query held.store.state held.closing) where
  -- what is shown and kept is the operator's
  shown_so : (old : List FedRow) (before : Option ℤ) → IsGivenState query.shape query partition old new before now state → IsStep (operator_of query) state.held.store.state old new before now stepped
      → IsEpoch tells written sealed query epoch partition now new old before (Some state) (Some held) (record { rows = stepped.rows; delta = Some file })
  shown_so old before given keyed =
      let after = (operator_of query).state (old ++ new) now in
      let was = was_kept query state.held.store.state state.held.closing old new before now given.given in
      record {
        shown = keyed.shown;
        faultless = keyed.faultless;
        kept = advanced after (ascend (old ++ new) now) keyed.leads;
        changed = λ told. moved told after (ascend (old ++ new) now) keyed.leads ∙ (λ i. written state.stage ++ delta_text (given.own i) (at_epoch i) (between (was i) after));
      }

  pub brought_so : ((old : List FedRow) (before : Option ℤ) → CanStep query state.held.store.state state.held.closing old new before now
      → IsStep (operator_of query) state.held.store.state old new before now stepped)
      → All (All (IfTime IsStampTime)) stepped.rows.items → held.store.version ≡ Some (count_to state.held.store.version)
      → HasBrought tells written sealed query epoch partition now new (Some state) (Some held) (record { rows = stepped.rows; delta = Some file })
  brought_so steps printable version = record {
    delta = refl;
    version = version ∙ ap Some at_epoch;
    indexed = followed;
    printable = printable;
    meaning = λ old before given. let own = given_by query.shape query partition old new before now state given in shown_so old before own (steps old before own.given);
  }

module _ {S : Type 0} (faults : S → ℕ) (query : Bound) (partition : ℕ) (now : Option ℤ) (new : List FedRow) (state : State S) (held : Held) (same : IsAsBefore (Some state) (Some held)) where
  step_aside : (fault : StepFault) → IsStageAfter faults (fault_of_step fault) state.stage (Some state.stage)
  step_aside (step.Overflow key) = refl
  step_aside step.NoMemory = refl

  step_cause : (old : List FedRow) (before : Option ℤ) (fault : StepFault) → steps.IsCause (operator_of query) old new before now fault → IsCause faults query partition now new old before (fault_of_step fault)
  step_cause old before (step.Overflow key) cause = cause
  step_cause old before step.NoMemory cause = tt

  -- no epoch is brought, since the step failed
  pub step_failed : (fault : StepFault)
      → ((old : List FedRow) (before : Option ℤ) → CanStep query state.held.store.state state.held.closing old new before now → steps.IsCause (operator_of query) old new before now fault)
      → HasFailed faults query partition now new (Some state) (Some held) (fault_of_step fault, Some state.stage)
  step_failed fault causes = record {
    same = same;
    aside = step_aside fault;
    cause = λ old before given. step_cause old before fault (causes old before (given_by query.shape query partition old new before now state given).given);
  }

  seal_cause : (old : List FedRow) (before : Option ℤ) (fault : SealFault) → IsCause faults query partition now new old before (fault_of_seal fault)
  seal_cause old before seal.DiskFault = tt
  seal_cause old before seal.NoMemory = tt

  -- or since its delta was not sealed, or the store not taken to its version
  pub seal_failed : (fault : SealFault) (aside : Option S) → IsStageAfter faults (fault_of_seal fault) state.stage aside → HasFailed faults query partition now new (Some state) (Some held) (fault_of_seal fault, aside)
  seal_failed fault aside is = record { same = same; aside = is; cause = λ old before given. seal_cause old before fault }
