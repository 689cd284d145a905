use Rattle.std.proofs.Common.{replicate, length, ap, ◌∙◌}
use Rattle.ssq_board.specs.declared.front.Place.TheVariants as place
use Rattle.ssq_board.specs.Core.{Core, dealt}
use Rattle.ssq_ledger.proofs.Boards.{all_at}
use Rattle.ssq_ledger.proofs.board.Board.planned.Goals as goal

pub returns : goal.returns
returns c =
    let from = c.as_slice.ensures.value ∙ ap (λ (x : Core). x.ends) c.self.view_is in
    let to = c.as_slice-2.ensures.value ∙ c.requires.ends in
    let old = c.as_slice-3.ensures.value ∙ ap (λ (x : Core). x.reduces) c.self.view_is in
    let maps = c.in_ok-maps.ensures ∙ (λ i. dealt (from i) (to i)) in
    let reduces = c.in_ok-reduces.ensures ∙ ap (λ l. replicate (length l) place.Waits) old ∙ all_at c.args.self.now.reduces place.Waits in
    (λ i. record { front = c.planned_front-front.ensures i; ends = c.requires.ends i; maps = maps i; reduces = reduces i; outs = c.in_ok-outs.ensures i })
