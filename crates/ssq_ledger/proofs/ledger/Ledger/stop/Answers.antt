use Rattle.std.proofs.Common.{◌≤◌, sym, refl, subst, inl, arith}
use Rattle.ssq_core.specs.Machine.{nothing}
use Rattle.ssq_board.specs.declared.front.Entry.TheVariants as entry
use Rattle.ssq_board.specs.Core.{May}
use Rattle.ssq_ledger.specs.Shown.{Shown}
use Rattle.ssq_ledger.proofs.Ledgers.{has_room}
use Rattle.ssq_ledger.proofs.Shelves.{spent_both}
use Rattle.ssq_ledger.proofs.ledger.Ledger.stop.Goals as goal

pub halt-requires : goal.halt-requires
halt-requires g c =
    let s = c.self.inside in
    let m : May s.scope s.board (entry.Stop c.args.cause) = subst (λ (x : Shown g.row.D.Denot g.row.O.Denot). May x.scope x.core (entry.Stop c.args.cause)) (sym c.self.view_is) (c.requires.running, c.requires.cause) in
    has_room _ _ _ _ _ _ _ _ c.self.invariant.0 (entry.Stop c.args.cause) m refl

pub invariant_of-self : goal.invariant_of-self
invariant_of-self g c =
    let s = c.self.inside in
    let m : May s.scope s.board (entry.Stop c.args.cause) = subst (λ (x : Shown g.row.D.Denot g.row.O.Denot). May x.scope x.core (entry.Stop c.args.cause)) (sym c.self.view_is) (c.requires.running, c.requires.cause) in
    let kept : s.entries.cap ≤ c.halt.new.entries.cap = (let k = c.halt.ensures.capacity in omega arith) in
    spent_both _ _ _ _ _ _ _ _ c.self.invariant.0 _ _ c.self.invariant.1 _ _ _ _ (entry.Stop c.args.cause) refl refl m (λ t. (nothing, inl refl, refl)) (λ t. tt) c.halt.ensures.board c.halt.ensures.items kept kept
