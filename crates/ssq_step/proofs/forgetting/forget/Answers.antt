use Rattle.std.proofs.Common.{arith, ◌∙◌}
use Rattle.ssq_step.proofs.ByBytes.{gone_all, gone_on}
use Rattle.ssq_step.proofs.forgetting.forget.Goals as goal

pub loop-key-preserved : goal.loop-key-preserved
loop-key-preserved c =
    gone_on c.args.keys.now c.loop-key.key-index c.key-item.result (omega (arith, c.loop-key-test.true)) c.key-item.is (c.in_ok-short.ensures.bytes ∙ c.in_ok-clone.ensures.cases) c.args.draft.now c.loop-key.draft c.remove.new.self c.in_ok-remove.ensures.told c.loop-key.invariant

pub returns : goal.returns
returns c = gone_all c.args.keys.now c.loop-key.key-index c.args.draft.now c.loop-key.draft (omega (arith, c.loop-key-test.false)) c.loop-key.invariant
