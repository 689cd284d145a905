use Rattle.std.proofs.Common.{◌≡◌, Some, All, ap, sym, ◌∙◌, subst}
use Rattle.std.specs.Prelude.{if◌then◌else◌}
use Rattle.std.specs.HashMap.{get as found}
use Rattle.std.proofs.lemmas.Result.{on_ok_weaker}
use Rattle.ssq_meaning.specs.Fit.{IsFit}
use Rattle.ssq_meaning.specs.Group.{is_same}
use Rattle.ssq_meaning.specs.Totals.{with_row}
use Rattle.ssq_agg.specs.Fits.{AllFit}
use Rattle.ssq_agg.specs.Groups.{goes_on, started}
use Rattle.ssq_agg.specs.Readable.{IsKey}
use Rattle.ssq_agg.proofs.Fitting.{fit_after}
use Rattle.ssq_agg.proofs.Taking.{fresh, again, is_there}
use Rattle.ssq_agg.proofs.groups.take_row.Goals as goal

pub returns-in-Some-clause-taken : goal.returns-in-Some-clause-taken
returns-in-Some-clause-taken c = λ own holds is_key fits.
    let aggregates = c.args.grouping.now.aggregates in
    let key = c.args.row.now.key in
    let of = c.of-key.ensures ∙ c.key.ensures in
    let row = c.args.row.now.values in
    let at = found is_same c.args.groups.now key in
    let there = c.in-Some.ensures.value ∙ ap (found is_same c.args.groups.now) of in
    let goes : goes_on aggregates (own key) at ≡ c.in-Some.totals.now = again aggregates (own key) at c.in-Some.totals.now there in
    let same : c.values.result.now ≡ row = c.values.ensures in
    on_ok_weaker c.add_row.result (λ more q.
    ((c.get_mut.follows.holds c.add_row.new.self).3 (is_there (found is_same c.args.groups.now c.of-key.result) c.in-Some.totals.now c.in-Some.ensures.value)).0 q
    ∙ ap (λ k. if is_same k q then Some c.add_row.new.self else found is_same c.args.groups.now q) of
    ∙ ap (λ t. if is_same key q then Some t else found is_same c.args.groups.now q) (more ∙ ap (λ r. with_row c.in-Some.totals.now r) same ∙ ap (λ t. with_row t row) (sym goes)))
    (c.add_row.ensures.added (subst (λ r. AllFit (with_row c.in-Some.totals.now r)) (sym same) (subst (λ t. AllFit (with_row t row)) goes fits)))

pub returns-in-Some-clause-fit : goal.returns-in-Some-clause-fit
returns-in-Some-clause-fit c = λ was.
    let key = c.args.row.now.key in
    let of = c.of-key.ensures ∙ c.key.ensures in
    on_ok_weaker c.add_row.result (λ fits.
    fit_after (found is_same c.args.groups.now) (found is_same (c.get_mut.follows.lender c.add_row.new.self)) key c.add_row.new.self
    (λ q. ((c.get_mut.follows.holds c.add_row.new.self).3 (is_there (found is_same c.args.groups.now c.of-key.result) c.in-Some.totals.now c.in-Some.ensures.value)).0 q
    ∙ ap (λ k. if is_same k q then Some c.add_row.new.self else found is_same c.args.groups.now q) of)
    c.requires.key fits was)
    (c.add_row.ensures.fit (was c.of-key.result c.in-Some.totals.now (sym c.in-Some.ensures.value)).totals_fit (subst (All IsFit) (sym c.values.ensures) c.requires.values))

pub returns-clause-taken : goal.returns-clause-taken
returns-clause-taken c = λ own holds is_key fits q.
    let aggregates = c.args.grouping.now.aggregates in
    let key = c.args.row.now.key in
    let of = c.of-key.ensures ∙ c.key.ensures in
    let row = c.args.row.now.values in
    let at = found is_same c.args.groups.now key in
    let more : c.add_row-2.new.self ≡ with_row (goes_on aggregates (own key) at) row =
    fresh aggregates (own key) at c.in_ok-totals.totals c.add_row-2.new.self row (c.in_default.ensures.value ∙ ap (found is_same c.args.groups.now) of)
    (c.in_ok-totals.ensures.totals own holds (subst (IsKey c.args.grouping.now) (sym c.key-2.ensures) is_key) ∙ ap (λ k. started aggregates (own k)) c.key-2.ensures)
    (λ fit. c.in_ok-add_row.ensures.added (subst (λ r. AllFit (with_row c.in_ok-totals.totals r)) (sym c.values-2.ensures) fit) ∙ ap (λ r. with_row c.in_ok-totals.totals r) c.values-2.ensures) fits in
    c.in_ok-insert.ensures.updates.0 q
    ∙ (λ i. if is_same (of i) q then Some (more i) else found is_same (c.get_mut.follows.holds-at-none i) q)

pub returns-clause-fit : goal.returns-clause-fit
returns-clause-fit c = λ was.
    let key = c.args.row.now.key in
    let of = c.of-key.ensures ∙ c.key.ensures in
    let fits = c.in_ok-add_row.ensures.fit c.in_ok-totals.ensures.fit (subst (All IsFit) (sym c.values-2.ensures) c.requires.values) in
    fit_after (found is_same c.args.groups.now) (found is_same c.insert.new.self) key c.add_row-2.new.self
    (λ q. c.in_ok-insert.ensures.updates.0 q ∙ (λ i. if is_same (of i) q then Some c.add_row-2.new.self else found is_same (c.get_mut.follows.holds-at-none i) q))
    c.requires.key fits was
