use Rattle.std.proofs.Common.{refl, sym, subst, ◌∙◌}
use Rattle.std.specs.Prelude.{not, is_some}
use Rattle.std.specs.HashMap.{get}
use Rattle.std.proofs.lemmas.List.Elements.{All-filter}
use Rattle.std.proofs.lemmas.Result.{on_ok_weaker}
use Rattle.ssq_meaning.specs.Group.{closing_time, is_same}
use Rattle.ssq_agg.specs.Readable.{AreFit, IsFitGroup}
use Rattle.ssq_agg.proofs.Dueing.{append_due, update_due, complete_due}
use Rattle.ssq_agg.proofs.Fitting.{read_fit}
use Rattle.ssq_agg.proofs.Found.{all_are}
use Rattle.ssq_agg.proofs.epoch.show_due.Goals as goal

pub show_each-requires-in-Complete-clause-fit : goal.show_each-requires-in-Complete-clause-fit
show_each-requires-in-Complete-clause-fit c =
    let are = c.in_ok-others-in-Complete.ensures in
    subst AreFit (sym (c.as_slice.ensures.value ∙ are.2))
    (All-filter (λ group. not (is_some (get is_same c.args.touched.now group.key))) (λ group. IsFitGroup group.key group.totals) are.0 (read_fit c.args.grouping.now c.args.state.now are.0 are.1))

pub returns-in-Append-clause-due : goal.returns-in-Append-clause-due
returns-in-Append-clause-due c own rows fault holds closed =
    on_ok_weaker c.show_each.result (λ shows.
    append_due c.args.bound.now c.args.grouping.now own (closing_time c.args.bound.now c.args.grouping.now) c.args.now (get is_same c.args.touched.now) c.in-Append.is
    c.args.closed.now closed c.args.shown.now c.show_each.new.shown rows fault shows)
    c.show_each.ensures.shown

pub returns-in-Update-clause-due : goal.returns-in-Update-clause-due
returns-in-Update-clause-due c own rows fault holds closed =
    on_ok_weaker c.show_touched.result (λ shows.
    update_due c.args.bound.now c.args.grouping.now own (closing_time c.args.bound.now c.args.grouping.now) c.args.now (get is_same c.args.touched.now) c.in-Update.is
    c.args.touched.now.entries c.show_touched.ensures.unique (λ key. refl) c.show_touched.ensures.found
    c.args.shown.now c.show_touched.new.shown rows fault shows)
    c.show_touched.ensures.shown

pub returns-in_ok-others-in-Complete-clause-due : goal.returns-in_ok-others-in-Complete-clause-due
returns-in_ok-others-in-Complete-clause-due c own rows fault holds closed =
    let are = c.in_ok-others-in-Complete.ensures in
    let all = all_are c.args.grouping.now c.args.state.now own are.0 c.states_are_kept.ensures.kept.ascend holds are.1 in
    on_ok_weaker c.show_each-in-Complete.result (λ shows.
    complete_due c.args.bound.now c.args.grouping.now own (closing_time c.args.bound.now c.args.grouping.now) c.args.now (get is_same c.args.touched.now) c.in-Complete.is
    c.args.touched.now.entries c.show_touched-in-Complete.ensures.unique (λ key. refl) c.show_touched-in-Complete.ensures.found
    are.0 c.as_slice.result.now all (c.as_slice.ensures.value ∙ are.2)
    c.args.shown.now c.show_touched-in-Complete.new.shown c.show_each-in-Complete.new.shown rows fault c.in_ok-show_touched-in-Complete.ensures.shown shows)
    c.show_each-in-Complete.ensures.shown
