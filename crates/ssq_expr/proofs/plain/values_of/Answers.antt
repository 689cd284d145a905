use Rattle.std.proofs.Common.{Vec, Global, ◌≡◌, ◌++◌, [], ◌∷◌, rules, arith}
use Rattle.std.proofs.lemmas.Result.{err_from_is_err_and}
use Rattle.ssq_value.specs.declared.value.Value.{Value}
use Rattle.ssq_shape.specs.Plain.{projected}
use Rattle.ssq_expr.proofs.Projecting.{item_fails, item_on, items_end, none_so_far}
use Rattle.ssq_expr.proofs.plain.values_of.Goals as goal

pub loop-output-init : goal.loop-output-init
loop-output-init c = none_so_far c.in_ok-values.values.items (projected c.args.outputs.now c.args.row.now) c.in_ok-values.ensures.items

pub loop-output-preserved : goal.loop-output-preserved
loop-output-preserved c =
    let push : c.push.new.self.items ≡ c.loop-output.values.items ++ c.in_ok-value.value ∷ [] = search rules in
    item_on c.args.outputs.now c.args.row.now c.loop-output.output-index c.loop-output.values.items _ c.loop-output.invariant c.output-item.result c.push.new.self.items c.in_ok-value.value
    (omega (arith, c.loop-output-test.true)) c.output-item.is c.in_ok-value.ensures.value push

pub returns-in_err-value : goal.returns-in_err-value
returns-in_err-value c =
    let p = err_from_is_err_and c.from_residual-in_err-value.result c.from_residual-in_err-value.ensures.1 in
    rw (p.1, p.2) (item_fails c.args.outputs.now c.args.row.now c.loop-output.output-index c.loop-output.values.items _ c.loop-output.invariant (λ (values : Vec Value Global). values.items) c.output-item.result
    c.in_err-value.field-0.0 (omega (arith, c.loop-output-test.true)) c.output-item.is c.in_err-value.ensures.value)

pub returns : goal.returns
returns c = items_end c.args.outputs.now c.args.row.now c.loop-output.output-index c.loop-output.values.items _ c.loop-output.invariant (omega (arith, c.loop-output-test.false))
