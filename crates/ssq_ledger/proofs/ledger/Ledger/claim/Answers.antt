use Rattle.std.proofs.Common.{◌≤◌, ◌<◌, sym, refl, subst, arith}
use Rattle.ssq_board.specs.declared.front.Entry.TheVariants as entry
use Rattle.ssq_board.specs.Core.{May}
use Rattle.ssq_ledger.specs.Shown.{Shown}
use Rattle.ssq_ledger.proofs.Ledgers.{has_room}
use Rattle.ssq_ledger.proofs.Shelves.{spent_both}
use Rattle.ssq_ledger.proofs.ledger.Ledger.claim.Goals as goal

pub claim-requires : goal.claim-requires
claim-requires g c =
    let s = c.self.inside in
    let m : May s.scope s.board (entry.Claim c.args.id) = subst (λ (x : Shown g.row.D.Denot g.row.O.Denot). May x.scope x.core (entry.Claim c.args.id)) (sym c.self.view_is) c.requires in
    m.4

pub push_reserved-requires : goal.push_reserved-requires
push_reserved-requires g c =
    let s = c.self.inside in
    let m : May s.scope s.board (entry.Claim c.args.id) = subst (λ (x : Shown g.row.D.Denot g.row.O.Denot). May x.scope x.core (entry.Claim c.args.id)) (sym c.self.view_is) c.requires in
    subst (λ n. n < s.entries.cap) (sym s.entries.ok.0) (has_room _ _ _ _ _ _ _ _ c.self.invariant.0 (entry.Claim c.args.id) m refl)

pub invariant_of-self : goal.invariant_of-self
invariant_of-self g c =
    let s = c.self.inside in
    let m : May s.scope s.board (entry.Claim c.args.id) = subst (λ (x : Shown g.row.D.Denot g.row.O.Denot). May x.scope x.core (entry.Claim c.args.id)) (sym c.self.view_is) c.requires in
    let kept : s.entries.cap ≤ c.push_reserved.new.self.cap = (let k = c.push_reserved.ensures.capacity in omega arith) in
    spent_both _ _ _ _ _ _ _ _ c.self.invariant.0 _ _ c.self.invariant.1 _ _ _ _ (entry.Claim c.args.id) refl refl m (λ t. refl) (λ t. tt) c.claim.ensures c.push_reserved.ensures.items kept kept
