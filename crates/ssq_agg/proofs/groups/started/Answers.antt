use Rattle.std.proofs.Common.{◌≡◌, List, [], Option, None, sym, subst, ◌∙◌}
use Rattle.std.specs.Prelude.{IfOk}
use Rattle.ssq_value.specs.Key.{keys_of}
use Rattle.ssq_meaning.specs.declared.total.Total.{Total}
use Rattle.ssq_meaning.specs.Totals.{totals_of}
use Rattle.ssq_agg.specs.Groups.{started}
use Rattle.ssq_agg.specs.Holding.{IsReadAt}
use Rattle.ssq_agg.proofs.Fitting.{found_fits, found_is}
use Rattle.ssq_agg.proofs.groups.started.Goals as goal

pub returns-in-Some-clause-fit : goal.returns-in-Some-clause-fit
returns-in-Some-clause-fit c =
    found_fits c.args.grouping.now.aggregates c.args.state.now (keys_of c.args.key.now) c.in-Some.totals (subst (IsReadAt c.args.grouping.now.aggregates c.args.state.now (keys_of c.args.key.now)) c.in-Some.is c.in_ok-totals.ensures)

pub returns-in-None-clause-totals : goal.returns-in-None-clause-totals
returns-in-None-clause-totals c own holds is_key =
    let none : None ≡ own c.args.key.now = sym c.in-None.is ∙ found_is c.args.grouping.now c.args.state.now own c.args.key.now c.in_ok-totals.field-0 holds is_key c.in_ok-totals.ensures in
    subst (λ (o : Option (List Total)). IfOk c.of_nothing.result (λ totals. totals ≡ started c.args.grouping.now.aggregates o)) none
    (subst (λ aggregates. IfOk c.of_nothing.result (λ totals. totals ≡ totals_of aggregates [])) c.as_slice.ensures c.of_nothing.ensures.totals)
