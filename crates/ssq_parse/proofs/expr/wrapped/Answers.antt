use Rattle.std.proofs.Common.{arith, sym, ap, ◌∙◌}
use Rattle.std.proofs.lemmas.Result.{err_from_is_err_and}
use Rattle.ssq_parse.specs.Trees.{wrapped}
use Rattle.ssq_parse.proofs.Wrapped.{wrapped_goes_on, wrapped_fails, all_taken, none_left}
use Rattle.ssq_parse.proofs.expr.wrapped.Goals as goal

pub loop-left-init : goal.loop-left-init
loop-left-init c = (omega arith, ap (λ tokens. wrapped c.args.op tokens c.args.operand) (all_taken c.args.tokens.now))

pub loop-left-preserved : goal.loop-left-preserved
loop-left-preserved c = (omega arith, wrapped_goes_on c.args.op c.args.tokens.now c.loop-left.left _ c.loop-left.tree _ c.loop-left-test.true c.loop-left.invariant.0 c.loop-left.invariant.1 c.in_ok-tree.tree c.in_ok-tree.ensures)

pub returns-in_err-tree : goal.returns-in_err-tree
returns-in_err-tree c =
    let p = err_from_is_err_and c.from_residual.result c.from_residual.ensures.1 in
    rw (p.1, p.2) (wrapped_fails c.args.op c.args.tokens.now c.loop-left.left _ c.loop-left.tree _ c.loop-left-test.true c.loop-left.invariant.0 c.loop-left.invariant.1 _ c.in_err-tree.ensures)

pub returns : goal.returns
returns c = sym c.loop-left.invariant.1 ∙ none_left c.args.op c.args.tokens.now c.loop-left.left c.loop-left.tree (omega arith)
