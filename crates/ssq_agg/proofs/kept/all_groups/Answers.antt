use Rattle.ssq_agg.proofs.Reading.{read_on}
use Rattle.ssq_agg.proofs.kept.all_groups.Goals as goal

pub loop-key-preserved : goal.loop-key-preserved
loop-key-preserved c = (
  tt,
  tt,
  read_on c.args.grouping.now c.args.state.now c.loop-key.key-iterator c.next.new.self (c.in-Some.key.now, c.in-Some.value.now) c.loop-key.groups.items c.add_group.new.groups.items c.in-Some.ensures.steps
      c.in_ok-add_group.ensures c.loop-key.invariant.2,
)
