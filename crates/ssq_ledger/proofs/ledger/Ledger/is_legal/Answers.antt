use Rattle.std.proofs.Common.{◌≡◌, sym, ap, ◌∙◌, subst}
use Rattle.ssq_outside.specs.History.{History}
use Rattle.ssq_board.specs.Core.{after_all, cuts_by}
use Rattle.ssq_board.specs.Shown.{first}
use Rattle.ssq_board.specs.Shelf.{shelf_by}
use Rattle.ssq_board.specs.Follows.{Leads}
use Rattle.ssq_ledger.specs.Shown.{Shown, IsLegal, LeadsHere, first_state, state, cuts_after, cuts_of, shelf_after, shelf_of}
use Rattle.ssq_ledger.proofs.Ledgers.{known, cuts_more, shelf_more}
use Rattle.ssq_ledger.proofs.ledger.Ledger.is_legal.Goals as goal

pub returns-clause-legal : goal.returns-clause-legal
returns-clause-legal g c =
    let d = c.self.invariant.0 in
    subst (λ (x : Shown g.row.D.Denot g.row.O.Denot). IsLegal (g.D.Disk.tells × g.O.Opening.tells x.opening x.scope (g.D.Disk.history x.opened)) g.D.Disk.history g.O.Opening.opening x) c.self.view_is (d.until, d.is_disk, d.leads)

pub returns-clause-here : goal.returns-clause-here
returns-clause-here g c =
    let s = c.self.inside in
    let d = c.self.invariant.0 in
    let o = g.O.Opening.opening s.opening.value in
    let tells = g.D.Disk.tells × g.O.Opening.tells s.opening.value s.scope (g.D.Disk.history s.opened.value) in
    subst (λ (x : Shown g.row.D.Denot g.row.O.Denot). g.D.Disk.tells × g.O.Opening.tells x.opening x.scope (g.D.Disk.history x.opened) → LeadsHere (g.D.Disk.tells × g.O.Opening.tells x.opening x.scope (g.D.Disk.history x.opened)) g.D.Disk.history g.O.Opening.opening x) c.self.view_is
    (λ t. subst (λ (h : History). Leads tells o.job s.scope o.due (first_state o s.scope (g.D.Disk.history s.opened.value)) s.entries.items (state h s.board (shelf_after o s.scope s.entries.items) (cuts_after o s.scope s.entries.items))) (d.is_disk t) d.leads)

pub returns-clause-core : goal.returns-clause-core
returns-clause-core g c =
    let is = known _ _ _ _ _ _ _ _ c.self.invariant.0 in
    subst (λ (x : Shown g.row.D.Denot g.row.O.Denot). x.core ≡ after_all x.scope (first x.scope (g.O.Opening.opening x.opening).start) x.history) c.self.view_is is

pub returns-clause-cuts : goal.returns-clause-cuts
returns-clause-cuts g c disk e =
    let x = c.args.self.now in
    let o = g.O.Opening.opening x.opening in
    let is = subst (λ (x : Shown g.row.D.Denot g.row.O.Denot). x.core ≡ after_all x.scope (first x.scope (g.O.Opening.opening x.opening).start) x.history) c.self.view_is (known _ _ _ _ _ _ _ _ c.self.invariant.0) in
    cuts_more x.scope o.cuts (first x.scope o.start) x.history e ∙ ap (λ core. cuts_by x.scope (cuts_of g.O.Opening.opening x) core e) (sym is)

pub returns-clause-shelf : goal.returns-clause-shelf
returns-clause-shelf g c disk e =
    let x = c.args.self.now in
    let o = g.O.Opening.opening x.opening in
    let is = subst (λ (x : Shown g.row.D.Denot g.row.O.Denot). x.core ≡ after_all x.scope (first x.scope (g.O.Opening.opening x.opening).start) x.history) c.self.view_is (known _ _ _ _ _ _ _ _ c.self.invariant.0) in
    shelf_more x.scope o.shelf (first x.scope o.start) x.history e ∙ ap (λ core. shelf_by core (shelf_of g.O.Opening.opening x) e) (sym is)
