use Rattle.std.proofs.Common.{◌∙◌, arith}
use Rattle.ssq_route.proofs.Filling.{contents-len, empty_more, empty_len}
use Rattle.ssq_route.proofs.buckets.Buckets.new.Goals as goal

pub loop-preserved : goal.loop-preserved
loop-preserved g c = empty_more c.args.partitions c.loop.counter c.loop.buckets.items c.push.new.self.items c.new.result c.loop.invariant c.new.ensures.items c.in_ok-push.ensures.items

pub invariant_of-result : goal.invariant_of-result
invariant_of-result g c = (c.requires, empty_len c.args.partitions c.loop.counter c.loop.buckets.items c.loop.invariant ∙ omega arith)

pub returns-clause-len : goal.returns-clause-len
returns-clause-len g c = contents-len c.loop.buckets.items ∙ empty_len c.args.partitions c.loop.counter c.loop.buckets.items c.loop.invariant ∙ omega arith
