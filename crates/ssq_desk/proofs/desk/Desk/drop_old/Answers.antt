use Rattle.std.proofs.Common.{subst}
use Rattle.ssq_outside.specs.Faults.{Rises}
use Rattle.ssq_ledger.specs.Shown.{Shown}
use Rattle.ssq_ledger.specs.Upkept.{IsDropped}
use Rattle.ssq_desk.specs.declared.round.Round.{Round}
use Rattle.ssq_desk.specs.Whole.{opening_in}
use Rattle.ssq_desk.proofs.Entries.{after_drop}
use Rattle.ssq_desk.proofs.desk.Desk.drop_old.Goals as goal

pub invariant_of-self : goal.invariant_of-self
invariant_of-self g c =
    let s = c.self.inside in
    after_drop g.D.Disk.tells g.L.Log.tells g.D.Disk.history g.L.Log.lines g.L.Log.available g.L.Log.answers g.L.Log.faults g.D.Stage.Stage.written g.D.Stage.Stage.sealed s.ledger s.load c.self.invariant c.drop_old.new.self
    (Rises (g.D.Disk.faults s.ledger.disk) (g.D.Disk.faults c.drop_old.new.self.disk)) c.drop_old.result c.drop_old.ensures.did

pub returns-clause-did : goal.returns-clause-did
returns-clause-did g c =
    subst (λ (x : Shown g.row.D.Denot (Round g.row.L.Denot)). IsDropped (opening_in g.L.Log.lines) x c.drop_old.new.self c.drop_old.result (Rises (g.D.Disk.faults x.disk) (g.D.Disk.faults c.drop_old.new.self.disk))) c.self.view_is c.drop_old.ensures.did
