use Rattle.std.proofs.Common.{◌≡◌, ◌++◌, ℤ, List, Option, map, sym, subst, ◌∙◌}
use Rattle.std.specs.List.Sorted.{IsPermutation}
use Rattle.std.proofs.lemmas.List.Elements.{All-from_recursion}
use Rattle.std.proofs.lemmas.Result.{err_from_is_err_and}
use Rattle.ssq_version.specs.State.{Change, IsAfter}
use Rattle.ssq_meaning.specs.FedRows.{FedRow}
use Rattle.ssq_meaning.specs.Meaning.{Values}
use Rattle.ssq_meaning.specs.Operator.{join}
use Rattle.ssq_step.specs.Indexing.{seen}
use Rattle.ssq_step.specs.Shown.{ArePrintable}
use Rattle.ssq_step.proofs.Exceeding.{excess_is_cause}
use Rattle.ssq_join.specs.Changing.{SaysBytes}
use Rattle.ssq_join.specs.Overs.{AreOver}
use Rattle.ssq_join.specs.Steps.{Given, IsKept}
use Rattle.ssq_join.specs.Telling.{considered_of}
use Rattle.ssq_join.proofs.Stepping.{are_apart, are_kept, are_over, fault, held, leads, new_rows, over, shown, was_met}
use Rattle.ssq_join.proofs.epoch.step_rows.Goals as goal
use Rattle.ssq_join.proofs.epoch.step_rows.Goals.{After-into_rows}

-- What is known once the rows that are over are taken: what is shown is the epoch's, the least key on which it overflows is told, and a change that
-- says so leads to what is kept next.
record ComesTo (c : After-into_rows) (old : List FedRow) (before : Option ℤ) : Type 0 where
  pub shown : IsPermutation c.take_all_over.new.found.rows.items ((join c.args.bound.now c.args.joining.now).added old c.args.rows.now before c.args.now)
  pub fault : c.take_all_over.new.found.fault ≡ (join c.args.bound.now c.args.joining.now).fault old c.args.rows.now before c.args.now
  pub leads : (change : Change) → SaysBytes c.args.state.now c.in_ok-taken.taken.fresh.entries c.in_ok-taken.taken.met.keys (seen c.in_ok-over.over.items) change
      → IsAfter change c.args.state.now ((join c.args.bound.now c.args.joining.now).state (old ++ c.args.rows.now) c.args.now)

comes_to : (c : After-into_rows) (old : List FedRow) (before : Option ℤ) → Given c.args.bound.now c.args.joining.now c.args.state.now c.args.closing.now old c.args.rows.now before c.args.now → ComesTo c old before
comes_to c old before given =
    let query = c.args.bound.now in
    let joining = c.args.joining.now in
    let state = c.args.state.now in
    let closing = c.args.closing.now in
    let new = c.args.rows.now in
    let now = c.args.now in
    let listed = c.kept_rows_are_listed.ensures.listed in
    let met = was_met query joining state closing old new before now given listed in
    let kept = are_kept query joining state closing old new before now given listed in
    let apart = are_apart query joining state closing old new before now given listed in
    let rows = All-from_recursion (IsKept query joining) new (new_rows query joining state closing old new before now given listed) in
    let taken = c.in_ok-taken.ensures.taken (held query joining state closing old new before now given listed) met kept rows apart in
    let keys = seen c.in_ok-over.over.items in
    let keys_apart = c.keys_are_apart.ensures.whatever_follows in
    let fits = c.watermark_fits.ensures in
    let due = c.in_ok-over.ensures.rows in
    let all_over = over query joining state closing old new before now given listed keys_apart fits keys due in
    let is_over = are_over query joining state closing old new before now given listed keys_apart fits keys due in
    let told = c.in_ok-take_all_over.ensures.told met all_over (map (considered_of query joining) taken.0.0) (subst (λ l. AreOver query joining state met all_over (seen l)) (sym c.as_slice-keys.ensures.value) is_over) taken.0.2.told in
    let laws = c.joined_rows_are_told_by_what_is_kept.ensures in
    record {
      shown = shown query joining state closing old new before now given listed keys_apart fits keys due c.take_all_over.new.found taken.0.0 taken.0.1 told laws.shown;
      fault = fault query joining state closing old new before now given listed keys_apart fits keys due c.take_all_over.new.found taken.0.0 taken.0.1 told laws.fault;
      leads = λ change says.
          leads query joining state closing old new before now given listed keys_apart fits keys due laws.rows laws.met laws.new c.in_ok-taken.taken.met.keys c.in_ok-taken.taken.fresh.entries
          taken.0.0 c.in_ok-taken.taken.found taken.0.1 taken.0.2 taken.1 change says;
    }

pub returns-in_err-rows-clause-cause : goal.returns-in_err-rows-clause-cause
returns-in_err-rows-clause-cause c = λ old before given.
    let moved = comes_to (goal.at.returns-in_err-rows-clause-cause c).After-into_rows old before given in
    let p = err_from_is_err_and c.from_residual-in_err-rows.result c.from_residual-in_err-rows.ensures.1 in
    rw (p.1, p.2) (excess_is_cause (join c.args.bound.now c.args.joining.now) old c.args.rows.now before c.args.now c.take_all_over.new.found.fault c.in_err-rows.field-0.0 moved.fault c.in_err-rows.ensures.cause)

pub returns-clause-stepped : goal.returns-clause-stepped
returns-clause-stepped c = λ old before given.
    let moved = comes_to (goal.at.returns-clause-stepped c).After-into_rows old before given in
    record {
      leads = moved.leads c.in_ok-change.change
          (subst (λ l. SaysBytes c.args.state.now c.in_ok-taken.taken.fresh.entries c.in_ok-taken.taken.met.keys (seen l) c.in_ok-change.change) c.as_slice-keys.ensures.value c.in_ok-change.ensures);
      shown = subst (λ (rows : List Values). IsPermutation rows ((join c.args.bound.now c.args.joining.now).added old c.args.rows.now before c.args.now)) (sym c.in_ok-rows.ensures.rows) moved.shown;
      faultless = sym moved.fault ∙ c.in_ok-rows.ensures.faultless;
    }

pub returns-clause-printable : goal.returns-clause-printable
returns-clause-printable c = subst ArePrintable (sym c.in_ok-rows.ensures.rows) c.in_ok-take_all_over.ensures.printable
