use Rattle.std.proofs.Common.{◌∙◌, ap}
use Rattle.ssq_ledger.specs.Shown.{Shown, shelf_of}
use Rattle.ssq_ledger.proofs.ledger.Ledger.is_tidy.Goals as goal

pub returns : goal.returns
returns g c = c.self.invariant.1.tidy ∙ ap (λ (x : Shown g.row.D.Denot g.row.O.Denot). (shelf_of g.O.Opening.opening x).tidy) c.self.view_is
