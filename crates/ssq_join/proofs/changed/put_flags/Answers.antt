use Rattle.std.proofs.Common.{◌∙◌}
use Rattle.ssq_join.proofs.Saying.{flags_all, flags_begin, flags_on}
use Rattle.ssq_join.proofs.changed.put_flags.Goals as goal

pub loop-key-init : goal.loop-key-init
loop-key-init c = flags_begin c.args.state.now c.args.met.now.keys c.args.draft.now c.into_iter-key-iterator.result (c.into_iter-key-iterator.ensures.into_iter_gives ∙ c.iter-key-items.ensures.rest)

pub loop-key-preserved : goal.loop-key-preserved
loop-key-preserved c =
    flags_on c.args.state.now c.args.met.now.keys c.args.draft.now c.loop-key.key-iterator c.next.new.self c.in-Some.key.now c.loop-key.draft c.put_flag.new.draft c.in-Some.ensures.steps c.in_ok-put_flag.ensures c.loop-key.invariant

pub returns : goal.returns
returns c = flags_all c.args.state.now c.args.met.now.keys c.args.draft.now c.loop-key.key-iterator c.loop-key.draft c.in-None.ensures.steps.0 c.loop-key.invariant
