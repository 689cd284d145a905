use Rattle.std.proofs.Common.{◌≡◌, take}
use Rattle.std.specs.Prelude.{fold}
use Rattle.ssq_step.specs.Hashing.{key_writes}
use Rattle.ssq_step.proofs.key.feed_all.Given as goal

abbrev pub invariant-loop-value : goal.invariant-loop-value
invariant-loop-value g l = l.state ≡ fold g.H.Hasher.write l.initial.state (key_writes (take l.value-index l.values))
