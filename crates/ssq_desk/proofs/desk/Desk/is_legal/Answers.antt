use Rattle.std.proofs.Common.{subst}
use Rattle.ssq_ledger.specs.Shown.{Shown, IsLegal}
use Rattle.ssq_desk.specs.declared.round.Round.{Round}
use Rattle.ssq_desk.specs.Round.{Owns}
use Rattle.ssq_desk.specs.Whole.{opening_in}
use Rattle.ssq_desk.proofs.desk.Desk.is_legal.Goals as goal

pub returns : goal.returns
returns g c = subst (λ (x : Shown g.row.D.Denot (Round g.row.L.Denot)). IsLegal (Owns g.D.Disk.tells g.L.Log.tells g.D.Disk.history g.L.Log.lines x) g.D.Disk.history (opening_in g.L.Log.lines) x) c.self.view_is c.is_legal.ensures.legal
