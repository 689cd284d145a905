use Rattle.std.proofs.Common.{◌≤◌, ◌<◌, Some, sym, refl, subst}
use Rattle.ssq_outside.specs.declared.name.Name.TheVariants as name
use Rattle.ssq_board.specs.declared.front.Entry.TheVariants as entry
use Rattle.ssq_board.specs.Core.{Core, need}
use Rattle.ssq_board.proofs.Needs.{stop_less}
use Rattle.ssq_ledger.proofs.Shelves.{claimed_inside, claimed_room, stops_need, unclaimed_are, unclaimed_both}
use Rattle.ssq_ledger.proofs.ledger.Ledger.report_unmade.Goals as goal

pub push_reserved-requires : goal.push_reserved-requires
push_reserved-requires g c = subst (λ n. n < c.self.inside.entries.cap) (sym c.self.inside.entries.ok.0) (claimed_room _ _ _ _ _ _ _ _ c.self.invariant.0 _ _ c.self.invariant.1 _ (claimed_inside g.O.Opening.opening _ _ c.self.view_is _ c.requires.claimed))

pub invariant_of-self : goal.invariant_of-self
invariant_of-self g c =
    let s = c.self.inside in
    let p = c.args.partition in
    let v = c.args.version in
    let q = name.Snapshot p v in
    let claimed = claimed_inside g.O.Opening.opening _ _ c.self.view_is _ c.requires.claimed in
    unclaimed_both _ _ _ _ _ _ _ _ c.self.invariant.0 _ _ c.self.invariant.1 _ _ _ _ _ (entry.Unmade p v c.args.cause) q claimed c.requires.outside claimed (λ t. refl) (λ t. tt) c.stop_by.ensures c.push_reserved.ensures.items
    (subst (λ (x : Core). need x ≤ need s.board) (sym c.stop_by.ensures) (stops_need s.board _ (stop_less s.board.front.stop (Some c.args.cause))))
    (unclaimed_are _ _ _ _ _ _ _ _ c.self.invariant.0 _ _ c.self.invariant.1 q _ refl refl c.leave_out.ensures.items refl)
    refl c.leave_out.ensures.items c.push_reserved.ensures.capacity
