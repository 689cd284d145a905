use Rattle.std.proofs.Common.{ap, sym, ◌∙◌}
use Rattle.ssq_meaning.specs.Placed.{placed_time}
use Rattle.ssq_meaning.proofs.KeyPlaces.{at_place, column_placed, time_at}
use Rattle.ssq_meaning.proofs.place.place_among.Goals as goal

pub returns-in_err-at-clause-time : goal.returns-in_err-at-clause-time
returns-in_err-at-clause-time c key =
    ap (λ place. placed_time place key) c.from_residual.ensures
    ∙ sym (column_placed c.args.event c.args.columns.now key ∙ ap (at_place time_at c.args.columns.now key) (sym c.in_err-at.ensures))

pub returns-clause-time : goal.returns-clause-time
returns-clause-time c key = sym (column_placed c.args.event c.args.columns.now key ∙ ap (at_place time_at c.args.columns.now key) (sym c.in_ok-at.ensures))
