use Rattle.std.proofs.Common.{◌≡◌, subst, sym, rules}
use Rattle.std.specs.List.{AllByRecursion}
use Rattle.ssq_version.specs.declared.form.Form.TheVariants.{Delta}
use Rattle.ssq_version.specs.State.{Ascends, IsChange}
use Rattle.ssq_version.specs.Text.{IsSpelled}
use Rattle.ssq_version.proofs.Spelled.{change_spelled, spelled_first}
use Rattle.ssq_version.proofs.Values.{begins, room_same, room_if, leads_on, room_on, ascends_behind}
use Rattle.ssq_version.proofs.applied.settle.Goals as goal

pub loop-key-init : goal.loop-key-init
loop-key-init c =
    let same : c.into_iter-key-iterator.result ≡ c.args.change = search rules in
    let kept : IsChange c.args.change = search rules in (
      tt,
      tt,
      begins c.args.change c.into_iter-key-iterator.result c.args.state.now same,
      room_same c.args.change c.into_iter-key-iterator.result c.args.state.now same c.requires,
      subst Ascends (sym same) kept.ascend,
      subst (AllByRecursion (IsSpelled Delta)) (sym same) (change_spelled c.args.change kept),
    )

pub change_at-requires-clause-there : goal.change_at-requires-clause-there
change_at-requires-clause-there c = room_if c.loop-key.key-iterator c.next.new.self c.loop-key.state c.in-Some.key c.in-Some.value c.in-Some.ensures.steps c.loop-key.invariant.3

pub loop-key-preserved : goal.loop-key-preserved
loop-key-preserved c = (
  tt,
  tt,
  leads_on c.args.change c.loop-key.key-iterator c.next.new.self c.args.state.now c.loop-key.state c.change_at.new.state c.in-Some.key c.in-Some.value c.in-Some.ensures.steps c.loop-key.invariant.4 c.change_at.ensures c.loop-key.invariant.2,
  room_on c.loop-key.key-iterator c.next.new.self c.loop-key.state c.change_at.new.state c.in-Some.key c.in-Some.value c.in-Some.ensures.steps c.loop-key.invariant.4 c.change_at.ensures c.loop-key.invariant.3,
  ascends_behind c.in-Some.key c.in-Some.value c.next.new.self (subst Ascends c.in-Some.ensures.steps c.loop-key.invariant.4),
  (spelled_first Delta c.loop-key.key-iterator c.next.new.self (c.in-Some.key, c.in-Some.value) c.in-Some.ensures.steps c.loop-key.invariant.5).1,
)
