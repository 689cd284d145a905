use Rattle.std.proofs.Common.{◌≡◌, Bool, false, true, ap, sym, ◌∙◌}
use Rattle.std.specs.Prelude.{◌&&◌, not}
use Rattle.std.proofs.lemmas.Result.{on_ok_weaker}
use Rattle.ssq_version.specs.State.{value_at}
use Rattle.ssq_meaning.specs.Join.{is_left, is_outer_side, row_value}
use Rattle.ssq_join.specs.Changing.{is_flagged}
use Rattle.ssq_join.proofs.Alone.{both_fail, found_value, if_shown, not_shown}
use Rattle.ssq_join.proofs.Saying.{is_flagged_row}
use Rattle.ssq_join.proofs.over.take_over.Goals as goal

pub returns-then-is_flagged-clause-told : goal.returns-then-is_flagged-clause-told
returns-then-is_flagged-clause-told c = λ met row all held key tells.
    let value = found_value c.get.result c.in-Some.value (row_value (met row) row) c.in-Some.is (c.get.ensures ∙ ap (value_at c.args.state.now) key ∙ held.value) in
    let was : met row ≡ true = sym (is_flagged_row (met row) row) ∙ ap is_flagged (sym value) ∙ sym c.is_flagged.ensures ∙ c.if-is_flagged.true in
    not_shown c.args.bound.now c.args.joining.now met row all c.args.found.now (both_fail (is_outer_side c.args.joining.now.kind (is_left row.stream)) (met row) was) tells

pub returns-clause-told : goal.returns-clause-told
returns-clause-told c = λ met row all held key tells.
    let value = found_value c.get.result c.in-Some.value (row_value (met row) row) c.in-Some.is (c.get.ensures ∙ ap (value_at c.args.state.now) key ∙ held.value) in
    let outer : is_outer_side c.args.joining.now.kind (is_left row.stream) ≡ true = sym (c.is_of_outer_side.ensures row (c.as_slice.ensures ∙ key)) ∙ c.if-not-is_of_outer_side.false in
    let unmet : met row ≡ false = sym (is_flagged_row (met row) row) ∙ ap is_flagged (sym value) ∙ sym c.is_flagged.ensures ∙ c.if-is_flagged.false in
    on_ok_weaker c.take_alone.result (if_shown c.args.bound.now c.args.joining.now met row all c.take_alone.new.found (λ i. outer i && not (unmet i)))
    (c.take_alone.ensures.told row all held.own key (value ∙ ap (λ (b : Bool). row_value b row) unmet) tells)
