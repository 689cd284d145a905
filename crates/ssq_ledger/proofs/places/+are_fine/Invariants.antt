use Rattle.std.proofs.Common.{length}
use Rattle.ssq_ledger.proofs.places.+are_fine.Given as goal

abbrev pub decreases-are_fine : goal.decreases-are_fine
decreases-are_fine l = length l.places.now
