use Rattle.std.proofs.Common.{◌≡◌, List, IfOk, replicate, length, sym, ap, ◌∙◌, subst}
use Rattle.ssq_board.specs.declared.front.Place.{Place}
use Rattle.ssq_board.specs.declared.front.Place.TheVariants as place
use Rattle.ssq_board.specs.Shown.{Start, first_maps}
use Rattle.ssq_ledger.proofs.Boards.{all_at}
use Rattle.ssq_ledger.proofs.board.first_maps.Goals as goal

pub returns-else-start : goal.returns-else-start
returns-else-start c =
    let start = c.args.start.now in
    let to = c.as_slice-else-start.ensures.value ∙ ap (λ (x : Start). x.to) c.start.view_is in
    let planned = sym c.if-start.false ∙ ap (λ (x : Start). x.is_planned) c.start.view_is in
    let is = ap (λ l. replicate (length l) place.Rests) to ∙ all_at start.to place.Rests ∙ ap (λ b. first_maps b start.from start.to) planned in
    subst (λ (l : List Place). IfOk c.all_at.result (λ places. places.items ≡ l)) is c.all_at.ensures
