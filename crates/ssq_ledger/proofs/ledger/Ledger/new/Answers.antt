use Rattle.std.proofs.Common.{◌≡◌, List, length, sym, ap, ◌∙◌, refl, subst, arith}
use Rattle.ssq_board.specs.declared.front.Entry.{Entry}
use Rattle.ssq_board.specs.Shelf.{Shelf, first_shelf}
use Rattle.ssq_board.specs.Shown.{IsStart, first}
use Rattle.ssq_board.specs.Follows.{Leads}
use Rattle.ssq_ledger.specs.Shown.{first_state, state, cuts_after, shelf_after}
use Rattle.ssq_ledger.proofs.ledger.Ledger.new.Goals as goal

pub invariant_of-result : goal.invariant_of-result
invariant_of-result g c =
    let o = g.O.Opening.opening c.args.opening.value in
    let tells = g.D.Disk.tells × g.O.Opening.tells c.args.opening.value c.args.scope (g.D.Disk.history c.of-opened.result.value) in
    let r = c.args.scope in
    let disk = g.D.Disk.history c.args.disk in
    let core : first r o.start ≡ c.in-Ok.board = sym (c.in-Ok.ensures.board ∙ ap (first r) c.requires.opened) in
    let begins : first_state o r (g.D.Disk.history c.of-opened.result.value) ≡ state disk c.in-Ok.board o.shelf o.cuts = (λ i. state (g.D.Disk.history (c.of-opened.ensures i)) (core i) o.shelf o.cuts) in
    let shelf : shelf_after o r c.in-Ok.entries.items ≡ first_shelf c.args.names.items = ap (shelf_after o r) c.in-Ok.ensures.entries ∙ c.requires.listed in (
      record {
        until = disk;
        is_disk = λ t. refl;
        leads = subst (λ (es : List Entry). Leads tells o.job r o.due (first_state o r (g.D.Disk.history c.of-opened.result.value)) es (state disk c.in-Ok.board (shelf_after o r es) (cuts_after o r es))) (sym c.in-Ok.ensures.entries) begins;
        start = subst (IsStart r) c.requires.opened c.requires.start;
        terms = λ t. c.requires.terms (t.0, subst (λ (d : g.row.D.Denot). g.O.Opening.tells c.args.opening.value r (g.D.Disk.history d)) c.of-opened.ensures t.1);
        plans = c.requires.plans;
        room = (let a = ap length c.in-Ok.ensures.entries in let b = c.in-Ok.ensures.room in omega arith);
        few = c.requires.few;
      },
      record {
        settled = ap (λ (k : Shelf). k.settled) (sym shelf);
        news = c.in-Ok.ensures.names ∙ ap (λ (k : Shelf). k.news) (sym shelf);
        claimed = c.new.ensures.items ∙ ap (λ (k : Shelf). k.claimed) (sym shelf);
        tidy = ap (λ (k : Shelf). k.tidy) (sym shelf);
        room = (let a = ap length c.in-Ok.ensures.names in let b = c.in-Ok.ensures.names_room in let d = ap length c.new.ensures.items in omega arith);
        entries = (let a = ap length c.in-Ok.ensures.entries in let b = c.in-Ok.ensures.room in let d = ap length c.new.ensures.items in omega arith);
      },
    )
