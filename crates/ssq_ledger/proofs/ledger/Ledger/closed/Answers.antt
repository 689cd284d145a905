use Rattle.std.proofs.Common.{◌∙◌, ap}
use Rattle.ssq_ledger.specs.Shown.{Shown, shelf_of}
use Rattle.ssq_ledger.proofs.ledger.Ledger.closed.Goals as goal

pub returns-clause-names : goal.returns-clause-names
returns-clause-names g c = c.self.invariant.1.settled ∙ ap (λ (x : Shown g.row.D.Denot g.row.O.Denot). (shelf_of g.O.Opening.opening x).settled) c.self.view_is
