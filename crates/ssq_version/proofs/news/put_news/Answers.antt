use Rattle.std.proofs.Common.{◌≡◌, ◌<◌, ◌^◌, suc, ◌++◌, length, true, false, ap, subst, sym, ◌∙◌, rules, arith}
use Rattle.std.specs.List.{AllByRecursion}
use Rattle.ssq_version.specs.declared.form.Form.TheVariants.{Delta}
use Rattle.ssq_version.specs.State.{Change, is_news, news}
use Rattle.ssq_version.specs.Text.{entries_text, IsSpelled}
use Rattle.ssq_version.proofs.Spelled.{change_spelled, put_more, put_all, spelled_first, short_or_none}
use Rattle.ssq_version.proofs.WhatIsNew.{news_first, news_others}
use Rattle.ssq_version.proofs.news.put_news.Goals as goal

pub loop-key-init : goal.loop-key-init
loop-key-init c =
    let same : c.into_iter-key-iterator.result ≡ c.args.change.now = search rules in
    let many : length (news c.args.state.now c.into_iter-key-iterator.result) ≡ length (news c.args.state.now c.args.change.now) = ap (λ (es : Change). length (news c.args.state.now es)) same in
    let all : length c.into_iter-key-iterator.result ≡ length c.args.change.now = ap (λ (es : Change). length es) same in (
      tt,
      tt,
      ap (λ (es : Change). c.args.out.now ++ entries_text Delta (news c.args.state.now es)) same,
      omega (arith, many),
      omega (arith, all),
      subst (AllByRecursion (IsSpelled Delta)) (sym same) (change_spelled c.args.change.now (search rules)),
    )

pub put_changed-requires-clause-key : goal.put_changed-requires-clause-key
put_changed-requires-clause-key c = (spelled_first Delta c.loop-key.key-iterator c.next.new.self (c.in-Some.key.now, c.in-Some.value.now) c.in-Some.ensures.steps c.loop-key.invariant.5).0.0

pub put_changed-requires-clause-value : goal.put_changed-requires-clause-value
put_changed-requires-clause-value c =
    short_or_none c.in-Some.value.now (spelled_first Delta c.loop-key.key-iterator c.next.new.self (c.in-Some.key.now, c.in-Some.value.now) c.in-Some.ensures.steps c.loop-key.invariant.5).0.1

pub loop-key-preserved-then-says_news : goal.loop-key-preserved-then-says_news
loop-key-preserved-then-says_news c =
    let is : is_news c.args.state.now (c.in-Some.key.now, c.in-Some.value.now) ≡ true = search rules in
    let first = news_first c.args.state.now c.loop-key.key-iterator c.next.new.self c.in-Some.key.now c.in-Some.value.now c.in-Some.ensures.steps is in
    let all : length c.loop-key.key-iterator ≡ suc (length c.next.new.self) = ap (λ (es : Change). length es) c.in-Some.ensures.steps in
    let many : length (news c.args.state.now c.loop-key.key-iterator) ≡ suc (length (news c.args.state.now c.next.new.self)) = ap (λ (es : Change). length es) first in (
      tt,
      tt,
      put_more Delta c.loop-key.out c.put_changed.new.out _ (news c.args.state.now c.loop-key.key-iterator) (news c.args.state.now c.next.new.self) (c.in-Some.key.now, c.in-Some.value.now) first c.in_ok-put_changed.ensures c.loop-key.invariant.2,
      omega (arith, c.loop-key.invariant.3, many),
      omega (arith, c.loop-key.invariant.4, all),
      (spelled_first Delta c.loop-key.key-iterator c.next.new.self (c.in-Some.key.now, c.in-Some.value.now) c.in-Some.ensures.steps c.loop-key.invariant.5).1,
    )

pub loop-key-preserved : goal.loop-key-preserved
loop-key-preserved c =
    let is : is_news c.args.state.now (c.in-Some.key.now, c.in-Some.value.now) ≡ false = search rules in
    let others = news_others c.args.state.now c.loop-key.key-iterator c.next.new.self c.in-Some.key.now c.in-Some.value.now c.in-Some.ensures.steps is in
    let all : length c.loop-key.key-iterator ≡ suc (length c.next.new.self) = ap (λ (es : Change). length es) c.in-Some.ensures.steps in
    let many : length (news c.args.state.now c.loop-key.key-iterator) ≡ length (news c.args.state.now c.next.new.self) = ap (λ (es : Change). length es) others in (
      tt,
      tt,
      ap (λ (es : Change). c.loop-key.out ++ entries_text Delta es) (sym others) ∙ c.loop-key.invariant.2,
      omega (arith, c.loop-key.invariant.3, many),
      omega (arith, c.loop-key.invariant.4, all),
      (spelled_first Delta c.loop-key.key-iterator c.next.new.self (c.in-Some.key.now, c.in-Some.value.now) c.in-Some.ensures.steps c.loop-key.invariant.5).1,
    )

pub returns-clause-text : goal.returns-clause-text
returns-clause-text c = put_all Delta c.loop-key.out _ (news c.args.state.now c.loop-key.key-iterator) (ap (news c.args.state.now) c.in-None.ensures.steps.0) c.loop-key.invariant.2

pub returns-clause-count : goal.returns-clause-count
returns-clause-count c =
    let none : length (news c.args.state.now c.loop-key.key-iterator) ≡ 0 = ap (λ (es : Change). length (news c.args.state.now es)) c.in-None.ensures.steps.0 in
    omega (arith, c.loop-key.invariant.3, none)

pub overflow_add-count : goal.overflow_add-count
overflow_add-count c =
    let few : length c.args.change.now < 2 ^ 63 = subst (λ (es : Change). length es < 2 ^ 63) c.change.view_is c.iter-key-items.ensures.fits in
    let all : length c.loop-key.key-iterator ≡ suc (length c.next.new.self) = ap (λ (es : Change). length es) c.in-Some.ensures.steps in
    omega (arith, few, all, c.loop-key.invariant.4)
