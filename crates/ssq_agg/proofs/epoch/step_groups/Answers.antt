use Rattle.std.proofs.Common.{◌≡◌, ◌++◌, [], ℤ, true, List, None, Option, length, sym, ◌∙◌, subst}
use Rattle.std.specs.Prelude.{All}
use Rattle.std.specs.HashMap.{get}
use Rattle.std.specs.List.Sorted.{IsPermutation}
use Rattle.std.proofs.lemmas.List.Elements.{All-nil}
use Rattle.std.proofs.lemmas.Result.{err_from_is_err_and}
use Rattle.ssq_time.specs.Time.{IsStampTime}
use Rattle.ssq_value.specs.Kind.{IfTime}
use Rattle.ssq_shape.specs.declared.bound.Bound.{Bound}
use Rattle.ssq_shape.specs.declared.bound.Grouping.{Grouping}
use Rattle.ssq_meaning.specs.FedRows.{FedRow}
use Rattle.ssq_meaning.specs.Group.{closing_time, is_closed, is_same, members}
use Rattle.ssq_meaning.specs.GroupLaws.{held, next_held}
use Rattle.ssq_meaning.specs.Meaning.{Values}
use Rattle.ssq_meaning.specs.Operator.{group}
use Rattle.ssq_step.specs.Shown.{ArePrintable}
use Rattle.ssq_step.proofs.Exceeding.{excess_is_cause}
use Rattle.ssq_agg.specs.Closed.{AreClosed, is_ended}
use Rattle.ssq_agg.specs.Groups.{Held, touched}
use Rattle.ssq_agg.specs.Shown.{Pair, least_fault, shown_rows}
use Rattle.ssq_agg.specs.Readable.{AreFit}
use Rattle.ssq_agg.specs.Steps.{AreDue, AreKeys, GivenGroups, Says, keys_of_groups}
use Rattle.ssq_agg.proofs.Changing.{leads}
use Rattle.ssq_agg.proofs.Given.{given_groups}
use Rattle.ssq_agg.proofs.Found.{held_keys, touched_keys}
use Rattle.ssq_agg.proofs.Stepping.{state_is, rows_are, fault_are}
use Rattle.ssq_agg.proofs.epoch.step_groups.Goals as goal
use Rattle.ssq_agg.proofs.epoch.step_groups.Goals.{After-show_due}

-- what is known once the due groups are shown, by the rows that were taken before
module _ (c : After-show_due) (old : List FedRow) (before : Option ℤ) (given : GivenGroups c.args.bound.now c.args.grouping.now c.args.state.now c.args.closing.now old c.args.rows.now before c.args.now) where
  abbrev query : Bound
  query = c.args.bound.now

  abbrev grouping : Grouping
  grouping = c.args.grouping.now

  abbrev own : Held
  own = held query grouping old before

  abbrev found : Held
  found = get is_same c.in_ok-touched.touched

  -- what was touched of a key
  found_is : (key : Values) → found key ≡ touched grouping.aggregates (own key) (members c.args.rows.now key)
  found_is = c.in_ok-touched.ensures.groups own given.holds given.keys given.steady

  closed_are : AreClosed own (closing_time query grouping) c.args.now c.in_ok-closed.closed.items
  closed_are = c.in_ok-closed.ensures.closed query own given.holds given.indexes

  shown_closed : AreClosed own (closing_time query grouping) c.args.now c.as_slice-gone.result.now
  shown_closed = subst (AreClosed own (closing_time query grouping) c.args.now) (sym c.as_slice-gone.ensures.value) closed_are

  whole : (key : Values) → held query grouping (old ++ c.args.rows.now) c.args.now key ≡ next_held grouping.aggregates (is_closed query grouping c.args.now key) (own key) (members c.args.rows.now key)
  whole = c.groups_are_kept_whole.ensures query grouping old c.args.rows.now before c.args.now given.follows

  ended : (key : Values) → is_closed query grouping c.args.now key ≡ true → members c.args.rows.now key ≡ []
  ended = c.groups_are_due_by_what_is_kept.ensures.ended query grouping old c.args.rows.now before c.args.now given.follows

  -- the rows and the fault of the epoch
  module _ (pairs : List Pair) (are : AreDue own (closing_time query grouping) c.args.now found query.mode pairs) where
    rows_told : IsPermutation (shown_rows query grouping pairs) ((group query grouping).added old c.args.rows.now before c.args.now)
    rows_told =
        rows_are query grouping old c.args.rows.now before c.args.now found found_is whole ended (c.groups_are_due_by_what_is_kept.ensures.totals grouping old c.args.rows.now) pairs are
        (c.groups_are_due_by_what_is_kept.ensures.due query grouping old c.args.rows.now before c.args.now given.follows) c.groups_come_in_any_order.ensures.rows

    fault_told : least_fault query grouping None pairs ≡ (group query grouping).fault old c.args.rows.now before c.args.now
    fault_told =
        fault_are query grouping old c.args.rows.now before c.args.now found found_is whole ended (c.groups_are_due_by_what_is_kept.ensures.totals grouping old c.args.rows.now) pairs are
        (c.groups_are_due_by_what_is_kept.ensures.due query grouping old c.args.rows.now before c.args.now given.follows) c.groups_come_in_any_order.ensures.least

pub show_due-requires-clause-closed : goal.show_due-requires-clause-closed
show_due-requires-clause-closed c = subst AreFit (sym c.as_slice-gone.ensures.value) c.in_ok-closed.ensures.fit

pub show_due-requires-clause-printable : goal.show_due-requires-clause-printable
show_due-requires-clause-printable c = subst ArePrintable (sym c.nothing-shown.ensures.rows) (All-nil (All (IfTime IsStampTime)))

pub changed-requires-clause-closed : goal.changed-requires-clause-closed
changed-requires-clause-closed c = subst AreFit (sym c.as_slice-gone.ensures.value) c.in_ok-closed.ensures.fit

pub returns-in_err-rows-clause-cause : goal.returns-in_err-rows-clause-cause
returns-in_err-rows-clause-cause c = λ old before all.
    let at = (goal.at.returns-in_err-rows-clause-cause c).After-show_due in
    let operator = group c.args.bound.now c.args.grouping.now in
    let given = given_groups c.kept_groups_are_found.ensures.found c.args.bound.now c.args.grouping.now c.args.state.now c.args.closing.now old c.args.rows.now before c.args.now all in
    let shown = c.in_ok-show_due.ensures.due (own at old before given) c.nothing-shown.ensures.rows c.nothing-shown.ensures.fault given.holds (shown_closed at old before given) in
    let p = err_from_is_err_and c.from_residual-in_err-rows.result c.from_residual-in_err-rows.ensures.1 in
    rw (p.1, p.2) (excess_is_cause operator old c.args.rows.now before c.args.now c.show_due.new.shown.fault c.in_err-rows.field-0.0 (shown.fault ∙ fault_told at old before given shown.pairs shown.are) c.in_err-rows.ensures.cause)

pub returns-clause-stepped : goal.returns-clause-stepped
returns-clause-stepped c = λ old before all.
    let at = (goal.at.returns-clause-stepped c).After-show_due in
    let query = c.args.bound.now in
    let grouping = c.args.grouping.now in
    let many = length grouping.keys in
    let given = given_groups c.kept_groups_are_found.ensures.found query grouping c.args.state.now c.args.closing.now old c.args.rows.now before c.args.now all in
    let kept = own at old before given in
    let shown = c.in_ok-show_due.ensures.due kept c.nothing-shown.ensures.rows c.nothing-shown.ensures.fault given.holds (shown_closed at old before given) in
    let closed = closed_are at old before given in
    let closed_keys = held_keys grouping c.args.state.now kept (λ key. is_ended c.args.now (closing_time query grouping key) (kept key)) c.in_ok-closed.closed.items given.holds closed.each in
    let says = c.in_ok-change.ensures many (subst (λ groups. AreKeys many (keys_of_groups groups)) (sym c.as_slice-gone.ensures.value) closed_keys)
    (λ key totals there. touched_keys grouping kept c.args.rows.now key totals given.keys (sym (found_is at old before given key) ∙ there)) in
    record {
      leads = leads query grouping c.args.state.now c.args.closing.now old c.args.rows.now before c.args.now (found at old before given) c.in_ok-closed.closed.items c.in_ok-change.change c.kept_groups_are_found.ensures.found all
          (state_is query grouping old c.args.rows.now before c.args.now (found at old before given) (found_is at old before given) (whole at old before given) (ended at old before given) c.in_ok-closed.closed.items closed)
          (subst (λ groups. Says many (found at old before given) groups c.in_ok-change.change) c.as_slice-gone.ensures.value says);
      shown = subst (λ l. IsPermutation l ((group query grouping).added old c.args.rows.now before c.args.now)) (sym (c.in_ok-rows.ensures.rows ∙ shown.rows)) (rows_told at old before given shown.pairs shown.are);
      faultless = sym (fault_told at old before given shown.pairs shown.are) ∙ sym shown.fault ∙ c.in_ok-rows.ensures.faultless;
    }

pub returns-clause-printable : goal.returns-clause-printable
returns-clause-printable c = subst ArePrintable (sym c.in_ok-rows.ensures.rows) c.in_ok-show_due.ensures.printable
