use Rattle.std.proofs.Common.{◌≡◌, ◌++◌, ap, subst, sym, rules}
use Rattle.std.specs.List.{AllByRecursion}
use Rattle.ssq_version.specs.declared.form.Form.TheVariants.{Delta}
use Rattle.ssq_version.specs.State.{Change}
use Rattle.ssq_version.specs.Text.{entries_text, IsSpelled}
use Rattle.ssq_version.proofs.Spelled.{change_spelled, put_more, put_all, spelled_first, short_or_none}
use Rattle.ssq_version.proofs.delta.put_change.Goals as goal

pub loop-key-init : goal.loop-key-init
loop-key-init c =
    let same : c.into_iter-key-iterator.result ≡ c.args.change.now = search rules in
    (tt, tt, ap (λ (es : Change). c.args.out.now ++ entries_text Delta es) same, subst (AllByRecursion (IsSpelled Delta)) (sym same) (change_spelled c.args.change.now (search rules)))

pub put_changed-requires-clause-key : goal.put_changed-requires-clause-key
put_changed-requires-clause-key c = (spelled_first Delta c.loop-key.key-iterator c.next.new.self (c.in-Some.key.now, c.in-Some.value.now) c.in-Some.ensures.steps c.loop-key.invariant.3).0.0

pub put_changed-requires-clause-value : goal.put_changed-requires-clause-value
put_changed-requires-clause-value c =
    short_or_none c.in-Some.value.now (spelled_first Delta c.loop-key.key-iterator c.next.new.self (c.in-Some.key.now, c.in-Some.value.now) c.in-Some.ensures.steps c.loop-key.invariant.3).0.1

pub loop-key-preserved : goal.loop-key-preserved
loop-key-preserved c = (
  tt,
  tt,
  put_more Delta c.loop-key.out c.put_changed.new.out _ c.loop-key.key-iterator c.next.new.self (c.in-Some.key.now, c.in-Some.value.now) c.in-Some.ensures.steps c.in_ok-put_changed.ensures c.loop-key.invariant.2,
  (spelled_first Delta c.loop-key.key-iterator c.next.new.self (c.in-Some.key.now, c.in-Some.value.now) c.in-Some.ensures.steps c.loop-key.invariant.3).1,
)

pub returns : goal.returns
returns c = put_all Delta c.loop-key.out _ c.loop-key.key-iterator c.in-None.ensures.steps.0 c.loop-key.invariant.2
