use Rattle.std.proofs.Common.{◌∙◌, Some, ap, sym, subst, w64}
use Rattle.std.specs.Prelude.{option_map}
use Rattle.std.proofs.lemmas.Int.{to_z-of_z}
use Rattle.ssq_time.specs.Time.{IsStampTime}
use Rattle.ssq_shape.specs.Evaluation.{cell_at, time_in}
use Rattle.ssq_meaning.specs.Placed.{placed_time, time_from}
use Rattle.ssq_meaning.proofs.KeyPlaces.{as_number, stamp_at}
use Rattle.ssq_meaning.proofs.place.placed_time.Goals as goal

pub time-requires-clause-years : goal.time-requires-clause-years
time-requires-clause-years c =
    let years : IsStampTime c.in_ok-own.own = stamp_at c.args.key.now c.requires.fit c.at.result c.in_ok-own.own (sym c.in_ok-own.ensures) in
    subst IsStampTime (sym (as_number c.in_ok-own.own years)) years

pub returns-in_err-own : goal.returns-in_err-own
returns-in_err-own c =
    c.from_residual-in_err-own.ensures
    ∙ ap (option_map (time_from c.in_ok-place.place)) (c.in_err-own.ensures ∙ ap (λ at. time_in (cell_at c.args.key.now at)) c.at.ensures)
    ∙ ap (λ place. placed_time place c.args.key.now) (sym c.in_ok-place.was)

pub returns : goal.returns
returns c =
    let years : IsStampTime c.in_ok-own.own = stamp_at c.args.key.now c.requires.fit c.at.result c.in_ok-own.own (sym c.in_ok-own.ensures) in
    ap Some (to_z-of_z w64 c.time.result (record { sfits = c.time.type_inv }) ∙ c.time.ensures ∙ ap (time_from c.in_ok-place.place) (as_number c.in_ok-own.own years))
    ∙ ap (option_map (time_from c.in_ok-place.place)) (c.in_ok-own.ensures ∙ ap (λ at. time_in (cell_at c.args.key.now at)) c.at.ensures)
    ∙ ap (λ place. placed_time place c.args.key.now) (sym c.in_ok-place.was)
