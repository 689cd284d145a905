use Rattle.std.proofs.Common.{sym, ◌∙◌, arith}
use Rattle.ssq_sink.proofs.Rows.{no_key_left, tied_so_far, told_apart}
use Rattle.ssq_sink.proofs.order.order_by.Goals as goal

pub returns-then-is_ne : goal.returns-then-is_ne
returns-then-is_ne c =
    sym (c.loop-key.invariant ∙ told_apart c.args.order.now c.loop-key.key-index _ _ _ _ c.loop-key-test.true c.order_by_key-by_key.ensures (sym c.is_ne.ensures ∙ c.if-is_ne.true))

pub loop-key-preserved : goal.loop-key-preserved
loop-key-preserved c =
    c.loop-key.invariant ∙ tied_so_far c.args.order.now c.loop-key.key-index _ _ _ _ c.loop-key-test.true c.order_by_key-by_key.ensures (sym c.is_ne.ensures ∙ c.if-is_ne.false)

pub returns : goal.returns
returns c = c.order_rows.ensures ∙ sym (c.loop-key.invariant ∙ no_key_left c.args.order.now c.loop-key.key-index _ _ (omega (arith, c.loop-key-test.false)))
