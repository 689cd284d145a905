use Rattle.std.proofs.Common.{◌≡◌, None, sym, subst}
use Rattle.ssq_ledger.specs.Shown.{Shown}
use Rattle.ssq_desk.specs.declared.round.Round.{Round}
use Rattle.ssq_desk.proofs.Settling.{after_sync}
use Rattle.ssq_desk.proofs.desk.Desk.sync.Goals as goal

pub invariant_of-self : goal.invariant_of-self
invariant_of-self g c =
    let runs = subst (λ (x : Shown g.row.D.Denot (Round g.row.L.Denot)). x.core.front.stop ≡ None) (sym c.self.view_is) c.requires in
    after_sync _ _ _ _ _ _ _ _ _ c.self.inside.ledger c.self.inside.load c.self.invariant c.sync.new.self c.sync.result _ _ runs c.sync.ensures.done c.sync.ensures.stopped
