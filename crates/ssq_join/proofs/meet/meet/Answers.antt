use Rattle.std.proofs.Common.{ap, sym, subst, ◌∙◌}
use Rattle.ssq_version.specs.State.{State, front_with}
use Rattle.ssq_join.specs.Meeting.{MeetsFront}
use Rattle.ssq_join.proofs.Fronts.{fronts_end, fronts_on, nothing_begins}
use Rattle.ssq_join.proofs.meet.meet.Goals as goal
use Rattle.ssq_join.proofs.meet.meet.Goals.{in-None, in-Some+then-not-begins_with}

pub loop-key-init : goal.loop-key-init
loop-key-init c = (
  (λ now met leads.
      subst (λ (entries : State). MeetsFront c.args.bound.now c.args.joining.now c.args.comer.row.now c.args.prefix.now entries c.args.found.now now c.args.met.now.keys met) c.into_iter-key-iterator.ensures.into_iter_gives leads),
  c.requires.printable,
)

pub loop-key-preserved : goal.loop-key-preserved
loop-key-preserved c = (
  (λ now met leads.
      c.loop-key.invariant.0 now met
      (fronts_on c.args.bound.now c.args.joining.now c.args.comer.row.now c.args.prefix.now (c.in-Some.key.now, c.in-Some.value.now) c.loop-key.key-iterator c.next.new.self c.loop-key.found c.meet_row.new.found
      c.loop-key.met.keys c.meet_row.new.met.keys c.in-Some.ensures.steps (sym c.begins_with.ensures ∙ c.if-not-begins_with.false) c.in_ok-meet_row.ensures.meets now met leads)),
  c.in_ok-meet_row.ensures.printable,
)

pub returns-clause-meets : goal.returns-clause-meets
returns-clause-meets c =
    c.loop-key.invariant.0 c.loop-key.found c.loop-key.met.keys
    (fronts_end c.args.bound.now c.args.joining.now c.args.comer.row.now c.args.prefix.now c.loop-key.key-iterator c.loop-key.found c.loop-key.met.keys
    (elim c.match-next.branch [
      | in-None w ↦ ap (front_with c.args.prefix.now) w.in-None.ensures.steps.0
      | in-Some+then-not-begins_with w ↦ nothing_begins c.args.bound.now c.args.joining.now c.args.comer.row.now c.args.prefix.now (w.in-Some.key.now, w.in-Some.value.now) c.loop-key.key-iterator c.next.new.self w.in-Some.ensures.steps (sym w.begins_with.ensures ∙ w.if-not-begins_with.true)
    ]))
