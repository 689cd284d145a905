use Rattle.std.proofs.Common.{ap, sym, ◌∙◌}
use Rattle.ssq_meaning.specs.Placed.{end_at, placed_time}
use Rattle.ssq_meaning.proofs.KeyPlaces.{at_place, end_placed}
use Rattle.ssq_meaning.proofs.place.place_of_window.Goals as goal

pub returns-in_err-window_part-clause-time : goal.returns-in_err-window_part-clause-time
returns-in_err-window_part-clause-time c key =
    ap (λ place. placed_time place key) c.from_residual.ensures
    ∙ sym (end_placed c.args.event c.args.keys.now key ∙ ap (at_place end_at c.args.keys.now key) (sym c.in_err-window_part.ensures))

pub returns-clause-time : goal.returns-clause-time
returns-clause-time c key = c.window_at.ensures.time key ∙ sym (end_placed c.args.event c.args.keys.now key ∙ ap (at_place end_at c.args.keys.now key) (sym c.in_ok-window_part.ensures))
