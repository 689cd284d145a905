use Rattle.std.proofs.Common.{◌∙◌}
use Rattle.ssq_upkeep.proofs.Among.{among_three}
use Rattle.ssq_upkeep.proofs.snapshots.is_there.Goals as goal

pub returns : goal.returns
returns c = c.is_in_one.ensures ∙ among_three c.args.settled.now c.args.news.now c.args.claimed.now c.args.name
