use Rattle.std.proofs.Common.{Vec, Global, ◌≡◌, ◌+◌, ◌++◌, [], ◌∷◌, All, rules, arith, sym, subst, drop}
use Rattle.std.proofs.lemmas.List.Elements.{All-push}
use Rattle.std.proofs.lemmas.Result.{err_from_is_err_and}
use Rattle.ssq_time.specs.Time.{IsStampTime}
use Rattle.ssq_value.specs.Kind.{IfTime}
use Rattle.ssq_value.specs.declared.value.Value.{Value}
use Rattle.ssq_agg.proofs.Showing.{items_fail, items_on}
use Rattle.ssq_agg.proofs.Totalling.{step_is}
use Rattle.ssq_agg.proofs.show.items_of.Goals as goal

pub loop-output-preserved : goal.loop-output-preserved
loop-output-preserved c =
    let all = c.args.outputs.now in
    let output = c.output-item.result in
    let step = step_is all c.loop-output.output-index output (omega (arith, c.loop-output-test.true)) c.output-item.is in
    let push : c.push.new.self.items ≡ c.loop-output.values.items ++ c.in_ok-value.value ∷ [] = search rules in (
      items_on (drop c.loop-output.output-index all) (drop (c.loop-output.output-index + 1) all) output c.args.key.now c.args.aggregates.now c.loop-output.values.items c.push.new.self.items c.in_ok-value.value _
          step c.in_ok-value.ensures.value push c.loop-output.invariant.0,
      subst (All (IfTime IsStampTime)) (sym push) (All-push (IfTime IsStampTime) c.loop-output.values.items c.in_ok-value.value c.loop-output.invariant.1
          (c.in_ok-value.ensures.years c.requires.aggregates c.requires.key)),
    )

pub returns-in_err-value-clause-items : goal.returns-in_err-value-clause-items
returns-in_err-value-clause-items c =
    let all = c.args.outputs.now in
    let output = c.output-item.result in
    let step = step_is all c.loop-output.output-index output (omega (arith, c.loop-output-test.true)) c.output-item.is in
    let p = err_from_is_err_and c.from_residual-in_err-value.result c.from_residual-in_err-value.ensures.1 in
    rw (p.1, p.2) (items_fail (λ (values : Vec Value Global). values.items) (drop c.loop-output.output-index all) (drop (c.loop-output.output-index + 1) all) output c.args.key.now c.args.aggregates.now
    c.loop-output.values.items _ c.in_err-value.field-0.0 step c.in_err-value.ensures.value c.loop-output.invariant.0)
