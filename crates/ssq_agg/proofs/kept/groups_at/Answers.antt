use Rattle.std.proofs.Common.{arith, sym}
use Rattle.ssq_agg.proofs.Reading.{none_at, some_at}
use Rattle.ssq_agg.proofs.kept.groups_at.Goals as goal

pub loop-key-preserved : goal.loop-key-preserved
loop-key-preserved c =
    some_at c.args.state.now c.args.keys.now c.loop-key.key-index c.key-item.result (omega (arith, c.loop-key-test.true)) c.key-item.is c.args.grouping.now c.loop-key.groups.items c.add_group.new.groups.items
    c.in-Some.value.now (sym c.in-Some.ensures) c.in_ok-add_group.ensures c.loop-key.invariant

pub loop-key-preserved-in_default : goal.loop-key-preserved-in_default
loop-key-preserved-in_default c =
    none_at c.args.state.now c.args.keys.now c.loop-key.key-index c.key-item.result (omega (arith, c.loop-key-test.true)) c.key-item.is c.args.grouping.now c.loop-key.groups.items (sym c.in_default.ensures) c.loop-key.invariant
