use Rattle.std.proofs.Common.{◌++◌, sym, subst}
use Rattle.ssq_upkeep.proofs.Leasts.{IsSoFar, lesser_is}
use Rattle.ssq_upkeep.proofs.files.least_in.Goals as goal

pub returns : goal.returns
returns c =
    subst (IsSoFar (c.args.settled.now ++ c.args.news.now) c.args.settled.now c.args.partitions c.args.last) (sym c.lesser.ensures)
    (lesser_is c.args.settled.now c.args.news.now c.args.settled.now c.args.partitions c.args.last c.least_to-old.result c.least_to-new.result c.least_to-old.ensures c.least_to-new.ensures)
