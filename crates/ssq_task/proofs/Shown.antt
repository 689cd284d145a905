-- What a query that keeps nothing shows, and what a task brings by the state that it has.
use Rattle.std.proofs.Common.{◌≡◌, List, Option, None, Result, Ok, Err, refl, ap, sym, ◌∙◌, filter, subst}
use Rattle.std.specs.Prelude.{ℕ, ℤ, not, is_some, All, IfSome, IfOk, IfErr}
use Rattle.std.specs.List.Sorted.{IsPermutation}
use Rattle.std.proofs.lemmas.List.Elements.{All-map, All-weaker}
use Rattle.std.proofs.lemmas.List.Sorted.{IsPermutation-refl}
use Rattle.ssq_time.specs.Time.{IsStampTime}
use Rattle.ssq_value.specs.Kind.{IfTime}
use Rattle.ssq_shape.specs.declared.bound.Bound.{Bound}
use Rattle.ssq_shape.specs.declared.bound.Shape.{Shape}
use Rattle.ssq_shape.specs.declared.bound.Shape.TheVariants.{Plain, Group, Dedup, Join}
use Rattle.ssq_meaning.specs.FedRows.{FedRow}
use Rattle.ssq_meaning.specs.Epochs.{timely}
use Rattle.ssq_meaning.specs.Fit.{IsFitRow}
use Rattle.ssq_meaning.specs.Meaning.{Values}
use Rattle.ssq_meaning.specs.Operator.{Operator, operator_for, operator_of, plain}
use Rattle.ssq_meaning.proofs.Adding.{filter_true}
use Rattle.ssq_step.proofs.Printing.{fit_times}
use Rattle.ssq_task.specs.declared.partition.Held.{Held}
use Rattle.ssq_task.specs.declared.partition.State.{State}
use Rattle.ssq_task.specs.declared.partition.ReduceTask.{ReduceTask}
use Rattle.ssq_task.specs.declared.partition.ReducedRows.{ReducedRows}
use Rattle.ssq_task.specs.declared.partition.ReduceFault.{ReduceFault}
use Rattle.ssq_task.specs.declared.partition.ReduceFault.TheVariants as fault
use Rattle.ssq_task.specs.Reducing.{values_of, IsGivenBy, IsGiven, IsEpoch, HasBrought, IsCause, HasFailed, IsBack, IsReduced, timely_in}

if_none : {A : Type 0} (P : A → Type 0) (o : Option A) → o ≡ None → IfSome o P
if_none {A = A} P o none = subst (λ (own : Option A). IfSome own P) (sym none) tt

-- its operator is the plain one
plain_by : (S : Type 0) (shape : Shape) (query : Bound) (partition : ℕ) (old new : List FedRow) (before now : Option ℤ) → IsGivenBy {S = S} shape query partition old new before now None → operator_for shape query ≡ plain
plain_by S Plain query partition old new before now given = refl
plain_by S (Group grouping) query partition old new before now given = absurd given
plain_by S (Dedup columns) query partition old new before now given = absurd given
plain_by S (Join joining) query partition old new before now given = absurd given

plain_of : (S : Type 0) (query : Bound) (partition : ℕ) (old new : List FedRow) (before now : Option ℤ) → IsGiven {S = S} query partition old new before now None → operator_of query ≡ plain
unfolding operator_of
plain_of S query partition old new before now given = plain_by S query.shape query partition old new before now given

-- rows that can be kept can be printed
printable_of : (rows : List FedRow) → All IsFitRow rows → All (All (IfTime IsStampTime)) (values_of rows)
printable_of rows fit = All-map (All (IfTime IsStampTime)) (λ (row : FedRow). row.values) rows
    (All-weaker IsFitRow (λ (row : FedRow). All (IfTime IsStampTime) row.values) (λ row is. fit_times row.values is.values) rows fit)

module _ {S F : Type 0} (tells : Type 0) (written : S → List ℕ) (sealed : F → List ℕ) (faults : S → ℕ) (query : Bound) (epoch partition : ℕ) (now : Option ℤ) (rows : List FedRow) where
  all_shown : (brought : ReducedRows F) → brought.rows.items ≡ values_of rows → brought.delta ≡ None → (old : List FedRow) (before : Option ℤ)
      → IsGiven {S = S} query partition old (timely query now rows) before now None → IsEpoch tells written sealed query epoch partition now (timely query now rows) old before None None brought
  all_shown brought shows nothing old before given =
      let operator : plain ≡ operator_of query = sym (plain_of S query partition old (timely query now rows) before now given) in
      record {
        shown = subst (λ (o : Operator). IsPermutation brought.rows.items (o.added old (filter (λ row. not (o.is_late now row)) rows) before now)) operator
            (subst (λ (values : List Values). IsPermutation brought.rows.items values) (shows ∙ ap values_of (sym (filter_true rows))) (IsPermutation-refl brought.rows.items));
        faultless = subst (λ (o : Operator). o.fault old (timely query now rows) before now ≡ None) operator refl;
        kept = tt;
        changed = λ told. if_none _ brought.delta nothing;
      }

  -- what it brings
  pub all_brought : All IsFitRow rows → (outcome : Result (ReducedRows F) (ReduceFault × Option S)) → IfOk outcome (λ brought. brought.rows.items ≡ values_of rows) → IfOk outcome (λ brought. brought.delta ≡ None)
      → IfOk outcome (HasBrought tells written sealed query epoch partition now (timely query now rows) None None)
  all_brought fit (Ok brought) shows nothing = record {
    delta = ap is_some nothing;
    version = tt;
    indexed = λ none. tt;
    printable = subst (λ (values : List Values). All (All (IfTime IsStampTime)) values) (sym shows) (printable_of rows fit);
    meaning = all_shown brought shows nothing;
  }
  all_brought fit (Err failed) shows nothing = tt

  -- it fails only where memory ran out
  pub none_failed : (outcome : Result (ReducedRows F) (ReduceFault × Option S)) → IfErr outcome (λ failed. (failed.0 ≡ fault.NoMemory) × (failed.1 ≡ None))
      → IfErr outcome (HasFailed faults query partition now (timely query now rows) None None)
  none_failed (Ok brought) is = tt
  none_failed (Err failed) is = record {
    same = refl;
    aside = is;
    cause = λ old before given. subst (λ (own : ReduceFault). IsCause faults query partition now (timely query now rows) old before own) (sym is.0) tt;
  }

module _ {S F : Type 0} (tells : Type 0) (written : S → List ℕ) (sealed : F → List ℕ) (faults : S → ℕ) (task : ReduceTask S F) (held : Option Held) (outcome : Result (ReducedRows F) (ReduceFault × Option S)) where
  -- by the state that it has
  pub reduced_with : (state : Option (State S)) → task.state ≡ state → IsBack state held
      → IfOk outcome (HasBrought tells written sealed task.view.bound.now task.epoch task.partition task.watermark (timely_in task) state held)
      → IfErr outcome (HasFailed faults task.view.bound.now task.partition task.watermark (timely_in task) state held)
      → IsReduced tells written sealed faults task (record { view = task.view; epoch = task.epoch; partition = task.partition; watermark = task.watermark; held = held; outcome = outcome })
  reduced_with state same back brought failed = record {
    view = refl;
    epoch = refl;
    partition = refl;
    watermark = refl;
    held = subst (λ (s : Option (State S)). IsBack s held) (sym same) back;
    brought = subst (λ (s : Option (State S)). IfOk outcome (HasBrought tells written sealed task.view.bound.now task.epoch task.partition task.watermark (timely_in task) s held)) (sym same) brought;
    failed = subst (λ (s : Option (State S)). IfErr outcome (HasFailed faults task.view.bound.now task.partition task.watermark (timely_in task) s held)) (sym same) failed;
  }
