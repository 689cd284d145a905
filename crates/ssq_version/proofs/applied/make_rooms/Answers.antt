use Rattle.std.proofs.Common.{◌≡◌, true, false, is_some, refl, subst, sym, rules}
use Rattle.std.specs.List.{AllByRecursion}
use Rattle.ssq_version.specs.declared.form.Form.TheVariants.{Delta}
use Rattle.ssq_version.specs.State.{IsChange}
use Rattle.ssq_version.specs.Text.{IsSpelled}
use Rattle.ssq_version.proofs.Spelled.{change_spelled, spelled_first}
use Rattle.ssq_version.proofs.Values.{whole_rest, less_rest, room_begins, room_made_some, room_passed_none, same_but_some}
use Rattle.ssq_version.proofs.applied.make_rooms.Goals as goal

pub loop-key-init : goal.loop-key-init
loop-key-init c =
    let same : c.into_iter-key-iterator.result ≡ c.args.change.now = search rules in
    let kept : IsChange c.args.change.now = search rules in (
      tt,
      tt,
      whole_rest c.args.change.now c.into_iter-key-iterator.result same kept.ascend,
      room_begins c.args.state.now c.args.change.now c.into_iter-key-iterator.result same,
      (λ q. refl),
      (λ start without. without),
      subst (AllByRecursion (IsSpelled Delta)) (sym same) (change_spelled c.args.change.now kept),
    )

pub loop-key-preserved-in-Continue-1 : goal.loop-key-preserved-in-Continue-1
loop-key-preserved-in-Continue-1 c =
    let some : is_some c.in-Some.value.now ≡ true = search rules in
    let rest = less_rest c.args.change.now c.loop-key.key-iterator c.next.new.self c.in-Some.key.now c.in-Some.value.now c.in-Some.ensures.steps c.loop-key.invariant.2 in (
      tt,
      tt,
      rest.0,
      room_made_some c.args.change.now c.loop-key.key-iterator c.next.new.self c.loop-key.state c.make_room_for.new.state c.in-Some.key.now c.in-Some.value.now some c.in-Some.ensures.steps c.in_ok-make_room_for.ensures.there c.in_ok-make_room_for.ensures.others c.loop-key.invariant.3,
      same_but_some c.args.change.now c.args.state.now c.loop-key.state c.make_room_for.new.state c.in-Some.key.now c.in-Some.value.now some rest.1 c.in_ok-make_room_for.ensures.others c.loop-key.invariant.4,
      (λ start without. c.in_ok-make_room_for.ensures.without start (c.loop-key.invariant.5 start without)),
      (spelled_first Delta c.loop-key.key-iterator c.next.new.self (c.in-Some.key.now, c.in-Some.value.now) c.in-Some.ensures.steps c.loop-key.invariant.6).1,
    )

pub returns-in_err-make_room_for-clause-same : goal.returns-in_err-make_room_for-clause-same
returns-in_err-make_room_for-clause-same c =
    let some : is_some c.in-Some.value.now ≡ true = search rules in
    let rest = less_rest c.args.change.now c.loop-key.key-iterator c.next.new.self c.in-Some.key.now c.in-Some.value.now c.in-Some.ensures.steps c.loop-key.invariant.2 in
    same_but_some c.args.change.now c.args.state.now c.loop-key.state c.make_room_for.new.state c.in-Some.key.now c.in-Some.value.now some rest.1 c.in_err-make_room_for.ensures.others c.loop-key.invariant.4

pub returns-in_err-make_room_for-clause-without : goal.returns-in_err-make_room_for-clause-without
returns-in_err-make_room_for-clause-without c start without = c.in_err-make_room_for.ensures.without start (c.loop-key.invariant.5 start without)

pub loop-key-preserved : goal.loop-key-preserved
loop-key-preserved c =
    let none : is_some c.in-Some.value.now ≡ false = search rules in
    let rest = less_rest c.args.change.now c.loop-key.key-iterator c.next.new.self c.in-Some.key.now c.in-Some.value.now c.in-Some.ensures.steps c.loop-key.invariant.2 in (
      tt,
      tt,
      rest.0,
      room_passed_none c.args.change.now c.loop-key.key-iterator c.next.new.self c.loop-key.state c.in-Some.key.now c.in-Some.value.now none c.in-Some.ensures.steps rest.1 c.loop-key.invariant.3,
      c.loop-key.invariant.4,
      c.loop-key.invariant.5,
      (spelled_first Delta c.loop-key.key-iterator c.next.new.self (c.in-Some.key.now, c.in-Some.value.now) c.in-Some.ensures.steps c.loop-key.invariant.6).1,
    )
