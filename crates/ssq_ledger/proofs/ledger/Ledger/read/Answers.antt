use Rattle.ssq_ledger.proofs.Ledgers.{still}
use Rattle.ssq_ledger.proofs.ledger.Ledger.read.Goals as goal

pub invariant_of-self : goal.invariant_of-self
invariant_of-self g c = (still _ _ _ _ _ _ _ _ c.self.invariant.0 _ (λ t. c.read.ensures.same t.0), c.self.invariant.1)
