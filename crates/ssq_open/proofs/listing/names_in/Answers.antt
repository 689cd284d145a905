use Rattle.std.proofs.Common.{◌∙◌, List, subst, sym}
use Rattle.ssq_outside.specs.declared.name.Name.{Name}
use Rattle.ssq_outside.specs.Files.{AreNames}
use Rattle.ssq_outside.specs.History.{files_now}
use Rattle.ssq_open.proofs.Opens.{empty_listed, no_items, none_listed, some_item}
use Rattle.ssq_open.proofs.listing.names_in.Goals as goal

pub returns-then-is_empty-clause-none : goal.returns-then-is_empty-clause-none
returns-then-is_empty-clause-none g c = λ tells.
    let N : List Name → Type 0 = AreNames (files_now (g.D.Disk.history c.args.disk.now)) in
    none_listed _ c.from_vec-names.result (subst N (sym c.from_vec-names.ensures) (c.in_ok-names.ensures.found tells)) (no_items c.from_vec-names.result (sym c.is_empty.ensures ∙ c.if-is_empty.true))

pub returns-else-is_empty-clause-names : goal.returns-else-is_empty-clause-names
returns-else-is_empty-clause-names g c = λ tells.
    let N : List Name → Type 0 = AreNames (files_now (g.D.Disk.history c.args.disk.now)) in
    subst N (sym c.from_vec-names.ensures) (c.in_ok-names.ensures.found tells)

pub returns-else-is_empty-clause-some : goal.returns-else-is_empty-clause-some
returns-else-is_empty-clause-some g c = λ tells empty.
    let N : List Name → Type 0 = AreNames (files_now (g.D.Disk.history c.args.disk.now)) in
    some_item c.from_vec-names.result (sym c.is_empty.ensures ∙ c.if-is_empty.false) (empty_listed _ _ (subst N (sym c.from_vec-names.ensures) (c.in_ok-names.ensures.found tells)) empty)
