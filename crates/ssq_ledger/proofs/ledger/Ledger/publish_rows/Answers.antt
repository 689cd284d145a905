use Rattle.std.proofs.Common.{◌≤◌, ◌<◌, sym, ap, ◌∙◌, refl, subst, inr, le_refl, arith}
use Rattle.ssq_outside.specs.declared.name.Name.TheVariants as name
use Rattle.ssq_core.specs.Machine.{publishes}
use Rattle.ssq_board.specs.declared.front.Front.{Front}
use Rattle.ssq_board.specs.declared.front.Cause.TheVariants as cause
use Rattle.ssq_board.specs.declared.front.Entry.TheVariants as entry
use Rattle.ssq_ledger.specs.Shown.{Shown, cuts_of}
use Rattle.ssq_ledger.proofs.Ledgers.{has_room, may_inside, stop_room}
use Rattle.ssq_ledger.proofs.Shelves.{halted_both, spent_both}
use Rattle.ssq_ledger.proofs.Moves.{right_inside, tried, went}
use Rattle.ssq_ledger.proofs.ledger.Ledger.publish_rows.Goals as goal

pub write-requires : goal.write-requires
write-requires g c = ap (λ (x : Shown g.row.D.Denot g.row.O.Denot). x.core.front.stop) c.self.view_is ∙ c.requires.may.0

pub push_reserved-requires : goal.push_reserved-requires
push_reserved-requires g c =
    let s = c.self.inside in
    let m = may_inside _ _ c.self.view_is entry.OutFile (λ f. f.committed) _ refl c.requires.may in
    subst (λ n. n < s.entries.cap) (sym s.entries.ok.0) (has_room _ _ _ _ _ _ _ _ c.self.invariant.0 (entry.OutFile s.board.front.committed) m refl)

pub halt-requires : goal.halt-requires
halt-requires g c =
    let m = may_inside _ _ c.self.view_is entry.OutFile (λ f. f.committed) _ refl c.requires.may in
    stop_room _ _ _ _ _ _ _ _ c.self.invariant.0 _ _ m.0 refl (le_refl _)

pub invariant_of-self : goal.invariant_of-self
invariant_of-self g c =
    let s = c.self.inside in
    let epoch = ap (λ (f : Front). f.committed) c.front-epoch.ensures in
    let m = may_inside _ _ c.self.view_is entry.OutFile (λ f. f.committed) _ epoch c.requires.may in
    let right = right_inside g.D.Disk.tells g.D.Disk.history g.O.Opening.tells g.O.Opening.opening (cuts_of g.O.Opening.opening) _ _ c.self.view_is name.Out (λ f. f.committed) _ epoch _ c.requires.right in
    let kept : s.entries.cap ≤ c.push_reserved.new.self.cap = (let k = c.push_reserved.ensures.capacity in omega arith) in
    spent_both _ _ _ _ _ _ _ _ c.self.invariant.0 _ _ c.self.invariant.1 _ _ _ _ (entry.OutFile c.front-epoch.result.committed) refl refl m (λ t. went (name.Out c.front-epoch.result.committed) _ _ _ _ (right t) (c.publish.ensures.steps t.0) (c.in-Ok.ensures.ok t.0)) (λ t. tt) c.write.ensures c.push_reserved.ensures.items kept kept

pub invariant_of-self-in-Err : goal.invariant_of-self-in-Err
invariant_of-self-in-Err g c =
    let epoch = ap (λ (f : Front). f.committed) c.front-epoch.ensures in
    let m = may_inside _ _ c.self.view_is entry.OutFile (λ f. f.committed) _ epoch c.requires.may in
    let right = right_inside g.D.Disk.tells g.D.Disk.history g.O.Opening.tells g.O.Opening.opening (cuts_of g.O.Opening.opening) _ _ c.self.view_is name.Out (λ f. f.committed) _ epoch _ c.requires.right in
    halted_both _ _ _ _ _ _ _ _ c.self.invariant.0 _ _ c.self.invariant.1 _ _ _ _ _ _ cause.DiskFault m.0 tt
    (λ t. (publishes (name.Out c.front-epoch.result.committed) _, inr (entry.OutFile c.front-epoch.result.committed, m, refl, refl), tried (name.Out c.front-epoch.result.committed) _ _ _ _ (right t) (c.publish.ensures.steps t.0)))
    c.halt.ensures.board refl c.halt.ensures.items (le_refl _) (le_refl _) c.halt.ensures.capacity
