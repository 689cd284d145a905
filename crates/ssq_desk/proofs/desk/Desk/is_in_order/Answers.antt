use Rattle.std.proofs.Common.{subst}
use Rattle.ssq_ledger.specs.Shown.{Shown, IsInOrder}
use Rattle.ssq_desk.specs.declared.round.Round.{Round}
use Rattle.ssq_desk.proofs.desk.Desk.is_in_order.Goals as goal

pub returns : goal.returns
returns g c = subst (λ (x : Shown g.row.D.Denot (Round g.row.L.Denot)). IsInOrder x.scope x.core) c.self.view_is c.is_in_order.ensures
