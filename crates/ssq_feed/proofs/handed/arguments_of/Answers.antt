use Rattle.std.proofs.Common.{Vec, Global, ◌≡◌, ◌+◌, ◌++◌, [], ◌∷◌, rules, arith, sym, subst, drop}
use Rattle.std.specs.Prelude.{All}
use Rattle.std.proofs.lemmas.List.Elements.{All-push}
use Rattle.std.proofs.lemmas.Result.{err_from_is_err_and}
use Rattle.ssq_value.specs.declared.value.Value.{Value}
use Rattle.ssq_meaning.specs.Fit.{IsFit}
use Rattle.ssq_feed.proofs.ArgumentLemmas.{arguments_fail, arguments_on, step_is}
use Rattle.ssq_feed.proofs.handed.arguments_of.Goals as goal

pub loop-aggregate-preserved : goal.loop-aggregate-preserved
loop-aggregate-preserved c =
    let all = c.args.aggregates.now in
    let aggregate = c.aggregate-item.result in
    let step = step_is all c.loop-aggregate.aggregate-index aggregate (omega (arith, c.loop-aggregate-test.true)) c.aggregate-item.is in
    let push : c.push.new.self.items ≡ c.loop-aggregate.values.items ++ c.in_ok-value.value ∷ [] = search rules in
    record {
      values =
          arguments_on (drop c.loop-aggregate.aggregate-index all) (drop (c.loop-aggregate.aggregate-index + 1) all) aggregate c.args.row.now c.loop-aggregate.values.items c.push.new.self.items c.in_ok-value.value _
          step c.in_ok-value.ensures.value push c.loop-aggregate.invariant.values;
      fit = subst (All IsFit) (sym push) (All-push IsFit c.loop-aggregate.values.items c.in_ok-value.value c.loop-aggregate.invariant.fit c.in_ok-value.ensures.fit);
    }

pub returns-in_err-value-clause-values : goal.returns-in_err-value-clause-values
returns-in_err-value-clause-values c =
    let all = c.args.aggregates.now in
    let aggregate = c.aggregate-item.result in
    let step = step_is all c.loop-aggregate.aggregate-index aggregate (omega (arith, c.loop-aggregate-test.true)) c.aggregate-item.is in
    let p = err_from_is_err_and c.from_residual-in_err-value.result c.from_residual-in_err-value.ensures.1 in
    rw (p.1, p.2) (arguments_fail (λ (values : Vec Value Global). values.items) (drop c.loop-aggregate.aggregate-index all) (drop (c.loop-aggregate.aggregate-index + 1) all) aggregate c.args.row.now
    c.loop-aggregate.values.items _ c.in_err-value.field-0.0 step c.in_err-value.ensures.value c.loop-aggregate.invariant.values)
