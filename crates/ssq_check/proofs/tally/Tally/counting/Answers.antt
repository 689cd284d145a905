use Rattle.std.proofs.Common.{rules}
use Rattle.ssq_check.proofs.Tallied.{counts_next}
use Rattle.ssq_check.proofs.tally.Tally.counting.Goals as goal

pub returns-in-Some : goal.returns-in-Some
returns-in-Some c = rw c.or-in-Some.ensures (counts_next c.args.self c.args.at c.in-Some.more c.in-Some.is (search rules))
