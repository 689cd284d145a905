use Rattle.std.proofs.Common.{refl, subst}
use Rattle.ssq_ledger.specs.Shown.{Shown, IsInOrder, first_state, state, cuts_after, shelf_after}
use Rattle.ssq_ledger.proofs.Ledgers.{held}
use Rattle.ssq_ledger.proofs.Closings.{between_epochs, out_between}
use Rattle.ssq_ledger.proofs.Written.{unwritten}
use Rattle.ssq_ledger.proofs.Publishing.{out_file_may}
use Rattle.ssq_ledger.proofs.ledger.Ledger.is_in_order.Goals as goal

pub returns : goal.returns
returns g c =
    let s = c.self.inside in
    let d = c.self.invariant.0 in
    let o = g.O.Opening.opening s.opening.value in
    let tells = g.D.Disk.tells × g.O.Opening.tells s.opening.value s.scope (g.D.Disk.history s.opened.value) in
    let from = first_state o s.scope (g.D.Disk.history s.opened.value) in
    let to = state d.until s.board (shelf_after o s.scope s.entries.items) (cuts_after o s.scope s.entries.items) in
    let sound = held _ _ _ _ _ _ _ _ d in
    let order : IsInOrder s.scope s.board = record {
      sound = sound;
      few = d.few;
      between = between_epochs tells o.job s.scope o.due s.entries.items from to o.start d.start d.leads refl;
      out_between = out_between tells o.job s.scope o.due s.entries.items from to o.start d.start d.leads refl;
      unwritten = unwritten tells o.job s.scope o.due s.entries.items from to o.start d.leads refl;
      brings = λ e running may. out_file_may s.scope s.board _ e sound running (unwritten tells o.job s.scope o.due s.entries.items from to o.start d.leads refl may.2) may refl;
    } in
    subst (λ (x : Shown g.row.D.Denot g.row.O.Denot). IsInOrder x.scope x.core) c.self.view_is order
