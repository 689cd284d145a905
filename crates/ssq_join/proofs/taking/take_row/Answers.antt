use Rattle.std.proofs.Common.{◌∷◌, List, ap, not, sym, ◌∙◌}
use Rattle.std.specs.List.{list_any}
use Rattle.std.proofs.lemmas.Result.{on_ok_weaker}
use Rattle.ssq_value.specs.declared.value.Value.{Value}
use Rattle.ssq_shape.specs.Evaluation.{is_null}
use Rattle.ssq_meaning.specs.Join.{is_left, side_byte}
use Rattle.ssq_join.proofs.Earlier.{earlier_null, earlier_of}
use Rattle.ssq_join.proofs.taking.take_row.Goals as goal

pub returns-then-has_null-clause-meets : goal.returns-then-has_null-clause-meets
returns-then-has_null-clause-meets c =
    earlier_null c.args.bound.now c.args.joining.now c.args.comer.row.now (ap (λ (key : List Value). list_any is_null key) (sym c.key.ensures) ∙ sym c.has_null.ensures ∙ c.if-has_null.true) c.args.state.now
    c.args.fresh.now.entries c.args.found.now c.args.met.now.keys

pub returns-clause-meets : goal.returns-clause-meets
returns-clause-meets c =
    let query = c.args.bound.now in
    let joining = c.args.joining.now in
    let row = c.args.comer.row.now in
    on_ok_weaker c.meet-2.result
    (λ second.
    earlier_of c.keys_are_apart.ensures.whatever_follows c.beginnings_stand_together.ensures query joining row
    (ap (λ (key : List Value). list_any is_null key) (sym c.key.ensures) ∙ sym c.has_null.ensures ∙ c.if-has_null.false) c.in_ok-prefix.prefix
    (c.in_ok-prefix.ensures ∙ (λ i. side_byte (not (is_left (c.stream.ensures i))) ∷ c.requires.key i)) c.args.state.now c.args.fresh.now.entries c.in_ok-kept.kept c.entries_from-between.result
    c.states_are_kept.ensures.kept.ascend c.entries_from-between.ensures.ascend c.in_ok-kept.ensures c.entries_from-between.ensures.entries c.args.found.now c.meet.new.found c.meet-2.new.found c.args.met.now.keys
    c.meet.new.met.keys c.meet-2.new.met.keys c.in_ok-meet.ensures.meets second)
    c.meet-2.ensures.meets
