use Rattle.ssq_version.proofs.Laid.{rest_ascends}
use Rattle.ssq_version.proofs.layers.merge.Goals as goal

pub first_of-requires : goal.first_of-requires
first_of-requires c = rest_ascends c.args.newer.now c.loop-entry.new c.requires
