use Rattle.ssq_bind.proofs.Joined.{pair_put}
use Rattle.ssq_bind.proofs.join.put.Goals as goal

pub returns-in-Some-default : goal.returns-in-Some-default
returns-in-Some-default c =
    pair_put c.push.result c.args.context.now c.args.parts.now c.push.new.self c.args.value.now c.key_pair-pair.result c.in-Some-default.pair
    c.key_pair-pair.ensures c.in-Some-default.is-0 c.push.ensures.ok
