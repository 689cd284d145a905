use Rattle.std.proofs.lemmas.List.Elements.{Decides-contains, contains_decides}
use Rattle.ssq_outside.proofs.Derived.{decides_same}
use Rattle.ssq_open.proofs.listing.has.Goals as goal

pub returns : goal.returns
returns c = Decides-contains _ _ _ (contains_decides _ decides_same _ _ _ c.contains.ensures.cases)
