use Rattle.std.proofs.Common.{◌≡◌, true, sym, ap, ◌∙◌, subst, arith, ℕ, get_or}
use mathlib.Core.Logic.{dite}
use native.Mathlib.Decide.{ℕ_discrete}
use mathlib.Core.Option.{some, some-injective}
use lib.ListN.{get_elem?}
use Rattle.std.proofs.Common.{refl, true≢false}
use Rattle.ssq_board.specs.declared.front.Place.{Place}
use Rattle.ssq_board.specs.declared.front.Place.TheVariants as place
use Rattle.ssq_board.specs.Core.{is_waiting}
use Rattle.ssq_board.proofs.Lists.{at_length}
use Rattle.ssq_ledger.proofs.Lists.{at_index, any_at, none_at}
use Rattle.ssq_ledger.proofs.places.first_waiting.Goals as goal

is_waits : (p : Place) → is_waiting p ≡ true → p ≡ place.Waits
is_waits place.Waits e = refl
is_waits place.Rests e = absurd (true≢false (sym e))
is_waits place.Away e = absurd (true≢false (sym e))
is_waits (place.Back f) e = absurd (true≢false (sym e))

pub returns-then-is_waiting : goal.returns-then-is_waiting
returns-then-is_waiting c =
    let at = at_index c.args.places.now c.loop-number.number place.Rests c.loop-number-test.true in
    let waits : is_waiting (get_or c.args.places.now c.loop-number.number place.Rests) ≡ true = sym c.is_waiting.ensures ∙ c.if-is_waiting.true in
    (any_at is_waiting c.args.places.now c.loop-number.number (get_or c.args.places.now c.loop-number.number place.Rests) at waits, at ∙ ap some (is_waits _ waits))

pub loop-number-preserved : goal.loop-number-preserved
loop-number-preserved c t p less e =
    let at = at_index c.args.places.now c.loop-number.number place.Rests c.loop-number-test.true in
    dite (ℕ_discrete t c.loop-number.number)
    (λ here. ap is_waiting (some-injective _ _ (sym (subst (λ (u : ℕ). get_elem? c.args.places.now u ≡ some p) here e) ∙ at)) ∙ sym c.is_waiting.ensures ∙ c.if-is_waiting.false)
    (λ before. c.loop-number.invariant t p (omega arith) e)

pub returns : goal.returns
returns c =
    let f = c.loop-number-test.false in
    none_at is_waiting c.args.places.now (λ t p e. let l = at_length c.args.places.now t p e in c.loop-number.invariant t p (omega arith) e)
