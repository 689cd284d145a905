use Rattle.std.proofs.Common.{◌≡◌, ◌≤◌, ◌<◌, ◌+◌, sym, ap, ◌∙◌, refl, subst, inr, le_refl, arith}
use Rattle.ssq_outside.specs.declared.name.Name.TheVariants as name
use Rattle.ssq_core.specs.Machine.{publishes}
use Rattle.ssq_board.specs.declared.front.Front.{Front}
use Rattle.ssq_board.specs.declared.front.Cause.TheVariants as cause
use Rattle.ssq_board.specs.declared.front.Entry.TheVariants as entry
use Rattle.ssq_board.specs.declared.front.Ready.TheVariants as ready
use Rattle.ssq_board.specs.Core.{May, ready_of}
use Rattle.ssq_board.proofs.Readies.{commit_may}
use Rattle.ssq_board.proofs.Sounds.{open_less}
use Rattle.ssq_ledger.specs.Shown.{Shown, cuts_of, cuts_after}
use Rattle.ssq_ledger.proofs.Ledgers.{held, has_room}
use Rattle.ssq_ledger.proofs.Shelves.{halted_both, spent_both}
use Rattle.ssq_ledger.proofs.Moves.{right_inside, tried, went}
use Rattle.ssq_ledger.proofs.ledger.Ledger.commit.Goals as goal

pub commit-requires-clause-running : goal.commit-requires-clause-running
commit-requires-clause-running g c =
    let s = c.self.inside in
    let m = commit_may s.scope s.board c.args.due (subst (λ (x : Shown g.row.D.Denot g.row.O.Denot). ready_of x.scope x.core ≡ ready.Commit) (sym c.self.view_is) c.requires.ready) in
    m.0

pub commit-requires-clause-last : goal.commit-requires-clause-last
commit-requires-clause-last g c =
    let s = c.self.inside in
    let m = commit_may s.scope s.board c.args.due (subst (λ (x : Shown g.row.D.Denot g.row.O.Denot). ready_of x.scope x.core ≡ ready.Commit) (sym c.self.view_is) c.requires.ready) in
    let less : s.board.front.committed < s.board.front.planned = open_less s.board m.2 in
    let d = held _ _ _ _ _ _ _ _ c.self.invariant.0 in
    omega (arith, less, d.near)

pub push_reserved-requires : goal.push_reserved-requires
push_reserved-requires g c =
    let s = c.self.inside in
    let m = commit_may s.scope s.board c.args.due (subst (λ (x : Shown g.row.D.Denot g.row.O.Denot). ready_of x.scope x.core ≡ ready.Commit) (sym c.self.view_is) c.requires.ready) in
    subst (λ n. n < s.entries.cap) (sym s.entries.ok.0) (has_room _ _ _ _ _ _ _ _ c.self.invariant.0 (entry.Commit s.board.front.committed c.args.due) m refl)

pub halt-requires : goal.halt-requires
halt-requires g c =
    let s = c.self.inside in
    let m = commit_may s.scope s.board c.args.due (subst (λ (x : Shown g.row.D.Denot g.row.O.Denot). ready_of x.scope x.core ≡ ready.Commit) (sym c.self.view_is) c.requires.ready) in
    has_room _ _ _ _ _ _ _ _ c.self.invariant.0 (entry.Stop cause.DiskFault) (m.0, tt) refl

pub invariant_of-self : goal.invariant_of-self
invariant_of-self g c =
    let s = c.self.inside in
    let m = commit_may s.scope s.board c.args.due (subst (λ (x : Shown g.row.D.Denot g.row.O.Denot). ready_of x.scope x.core ≡ ready.Commit) (sym c.self.view_is) c.requires.ready) in
    let o = g.O.Opening.opening s.opening.value in
    let epoch = ap (λ (f : Front). f.committed) c.front-epoch.ensures in
    let e = entry.Commit c.front-epoch.result.committed c.args.due in
    let m' : May s.scope s.board e = (m.0, epoch, m.2, m.3, m.4, m.5) in
    let right = right_inside g.D.Disk.tells g.D.Disk.history g.O.Opening.tells g.O.Opening.opening (cuts_of g.O.Opening.opening) _ _ c.self.view_is name.Commit (λ f. f.committed) _ epoch _ c.requires.right in
    let due : g.D.Disk.tells × g.O.Opening.tells s.opening.value s.scope (g.D.Disk.history s.opened.value) → c.args.due ≡ o.due (cuts_after o s.scope s.entries.items) (c.front-epoch.result.committed + 1) =
    (λ t. subst (λ (x : Shown g.row.D.Denot g.row.O.Denot). g.D.Disk.tells × g.O.Opening.tells x.opening x.scope (g.D.Disk.history x.opened) → c.args.due ≡ (g.O.Opening.opening x.opening).due (cuts_of g.O.Opening.opening x) (x.core.front.committed + 1)) (sym c.self.view_is) c.requires.due t
    ∙ ap (λ n. o.due (cuts_after o s.scope s.entries.items) (n + 1)) (sym epoch)) in
    let kept : s.entries.cap ≤ c.push_reserved.new.self.cap = (let k = c.push_reserved.ensures.capacity in omega arith) in
    spent_both _ _ _ _ _ _ _ _ c.self.invariant.0 _ _ c.self.invariant.1 _ _ _ _ e refl refl m' (λ t. went (name.Commit c.front-epoch.result.committed) _ _ _ _ (right t) (c.publish.ensures.steps t.0) (c.in-Ok.ensures.ok t.0)) due c.commit.ensures c.push_reserved.ensures.items kept kept

pub invariant_of-self-in-Err : goal.invariant_of-self-in-Err
invariant_of-self-in-Err g c =
    let s = c.self.inside in
    let m = commit_may s.scope s.board c.args.due (subst (λ (x : Shown g.row.D.Denot g.row.O.Denot). ready_of x.scope x.core ≡ ready.Commit) (sym c.self.view_is) c.requires.ready) in
    let epoch = ap (λ (f : Front). f.committed) c.front-epoch.ensures in
    let e = entry.Commit c.front-epoch.result.committed c.args.due in
    let m' : May s.scope s.board e = (m.0, epoch, m.2, m.3, m.4, m.5) in
    let right = right_inside g.D.Disk.tells g.D.Disk.history g.O.Opening.tells g.O.Opening.opening (cuts_of g.O.Opening.opening) _ _ c.self.view_is name.Commit (λ f. f.committed) _ epoch _ c.requires.right in
    halted_both _ _ _ _ _ _ _ _ c.self.invariant.0 _ _ c.self.invariant.1 _ _ _ _ _ _ cause.DiskFault m.0 tt
    (λ t. (publishes (name.Commit c.front-epoch.result.committed) _, inr (e, m', refl, refl), tried (name.Commit c.front-epoch.result.committed) _ _ _ _ (right t) (c.publish.ensures.steps t.0)))
    c.halt.ensures.board refl c.halt.ensures.items (le_refl _) (le_refl _) c.halt.ensures.capacity
