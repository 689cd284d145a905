use Rattle.std.proofs.Common.{length}
use Rattle.ssq_agg.proofs.total.+add_from.Given as goal

abbrev pub decreases-add_from : goal.decreases-add_from
decreases-add_from l = length l.totals.now
