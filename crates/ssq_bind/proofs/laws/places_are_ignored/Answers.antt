use Rattle.ssq_bind.proofs.SameQueries.{places_are_ignored}
use Rattle.ssq_bind.proofs.laws.places_are_ignored.Goals as goal

pub returns : goal.returns
returns c = places_are_ignored
