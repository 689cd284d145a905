use Rattle.std.proofs.Common.{◌≤◌, ◌<◌, sym, refl, subst, arith}
use Rattle.ssq_board.specs.declared.front.Entry.TheVariants as entry
use Rattle.ssq_board.specs.Core.{May}
use Rattle.ssq_ledger.specs.Shown.{Shown, IsTrue, HasNone}
use Rattle.ssq_ledger.proofs.Ledgers.{has_room, did_still}
use Rattle.ssq_ledger.proofs.Shelves.{spent_both}
use Rattle.ssq_ledger.proofs.ledger.Ledger.report.Goals as goal

pub report-stop-requires : goal.report-stop-requires
report-stop-requires g c =
    let s = c.self.inside in
    let e = entry.Report c.args.id c.args.fault in
    let m : May s.scope s.board e = subst (λ (x : Shown g.row.D.Denot g.row.O.Denot). May x.scope x.core e) (sym c.self.view_is) c.requires.may in
    m.2

pub push_reserved-requires : goal.push_reserved-requires
push_reserved-requires g c =
    let s = c.self.inside in
    let e = entry.Report c.args.id c.args.fault in
    let m : May s.scope s.board e = subst (λ (x : Shown g.row.D.Denot g.row.O.Denot). May x.scope x.core e) (sym c.self.view_is) c.requires.may in
    subst (λ n. n < s.entries.cap) (sym s.entries.ok.0) (has_room _ _ _ _ _ _ _ _ c.self.invariant.0 e m refl)

pub invariant_of-self : goal.invariant_of-self
invariant_of-self g c =
    let s = c.self.inside in
    let e = entry.Report c.args.id c.args.fault in
    let m : May s.scope s.board e = subst (λ (x : Shown g.row.D.Denot g.row.O.Denot). May x.scope x.core e) (sym c.self.view_is) c.requires.may in
    let kept : s.entries.cap ≤ c.push_reserved.new.self.cap = (let k = c.push_reserved.ensures.capacity in omega arith) in
    spent_both _ _ _ _ _ _ _ _ c.self.invariant.0 _ _ c.self.invariant.1 _ _ _ _ e refl refl m (λ t. refl)
    (λ t. (
      subst (λ (x : Shown g.row.D.Denot g.row.O.Denot). g.D.Disk.tells × g.O.Opening.tells x.opening x.scope (g.D.Disk.history x.opened) → IsTrue g.O.Opening.opening x c.args.id c.args.fault) (sym c.self.view_is) c.requires.right t,
      subst (λ (x : Shown g.row.D.Denot g.row.O.Denot). g.D.Disk.tells × g.O.Opening.tells x.opening x.scope (g.D.Disk.history x.opened) → HasNone g.O.Opening.opening x c.args.id c.args.fault) (sym c.self.view_is) c.requires.bare t,
    ))
    (c.report-stop.ensures.now s.scope) c.push_reserved.ensures.items kept kept

pub returns-clause-did : goal.returns-clause-did
returns-clause-did g c =
    let s = c.self.inside in
    did_still _ _ c.self.view_is (entry.Report c.args.id c.args.fault) _ _ (c.report-stop.ensures.now s.scope) c.push_reserved.ensures.items
