use Rattle.std.proofs.Common.{Some, w64, ap, sym, subst, ◌∙◌}
use Rattle.std.specs.Prelude.{option_map}
use Rattle.std.proofs.lemmas.Int.{to_z-of_z}
use Rattle.ssq_time.specs.Time.{IsStampTime}
use Rattle.ssq_shape.specs.Evaluation.{cell_at, time_in}
use Rattle.ssq_meaning.specs.Placed.{time_from}
use Rattle.ssq_meaning.proofs.KeyPlaces.{as_number, stamp_at}
use Rattle.ssq_step.proofs.index.time_of.Goals as goal

pub time-requires-clause-years : goal.time-requires-clause-years
time-requires-clause-years c =
    let found = c.in_ok-own.ensures.found in
    let years : IsStampTime c.in_ok-own.own = stamp_at found.0 found.1 c.at.result c.in_ok-own.own found.4 in
    subst IsStampTime (sym (as_number c.in_ok-own.own years)) years

pub returns-in_err-place : goal.returns-in_err-place
returns-in_err-place c own readable same = c.from_residual.ensures ∙ sym (c.in_err-place.ensures.time own)

pub returns-in_err-own : goal.returns-in_err-own
returns-in_err-own c own readable same =
    c.from_residual-in_err-own.ensures
    ∙ ap (option_map (time_from c.in_ok-place.place)) (c.in_err-own.ensures.each own readable.values (readable.many ∙ sym c.key_length.ensures) same ∙ ap (λ at. time_in (cell_at own at)) c.at.ensures)
    ∙ sym (c.in_ok-place.ensures.time own)

pub returns : goal.returns
returns c own readable same =
    let found = c.in_ok-own.ensures.found in
    let years : IsStampTime c.in_ok-own.own = stamp_at found.0 found.1 c.at.result c.in_ok-own.own found.4 in
    ap Some (to_z-of_z w64 c.time.result (record { sfits = c.time.type_inv }) ∙ c.time.ensures ∙ ap (time_from c.in_ok-place.place) (as_number c.in_ok-own.own years))
    ∙ ap (option_map (time_from c.in_ok-place.place)) (c.in_ok-own.ensures.each own readable.values (readable.many ∙ sym c.key_length.ensures) same ∙ ap (λ at. time_in (cell_at own at)) c.at.ensures)
    ∙ sym (c.in_ok-place.ensures.time own)
