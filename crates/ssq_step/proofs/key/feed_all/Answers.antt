use Rattle.std.proofs.Common.{◌∙◌, arith, ap}
use Rattle.std.specs.Prelude.{fold}
use Rattle.ssq_step.specs.Hashing.{value_writes}
use Rattle.ssq_step.proofs.Hashed.{fed_more}
use Rattle.ssq_step.proofs.key.feed_all.Goals as goal

pub loop-value-preserved : goal.loop-value-preserved
loop-value-preserved g c =
    c.feed.ensures ∙ ap (λ s. fold g.H.Hasher.write s (value_writes c.value-item.result)) c.loop-value.invariant
    ∙ fed_more g.H.Hasher.write value_writes c.args.state.now c.args.values.now c.loop-value.value-index c.value-item.result (omega (arith, c.loop-value-test.true)) c.value-item.is
