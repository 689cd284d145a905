use Rattle.std.proofs.Common.{◌≡◌, ◌∙◌, true, false, true≢false, subst, sym, rules}
use Rattle.ssq_version.specs.State.{AreNews, is_news}
use Rattle.ssq_version.proofs.WhatIsNew.{are_more, are_first, are_none}
use Rattle.ssq_version.proofs.news.are_news.Goals as goal

pub loop-key-init : goal.loop-key-init
loop-key-init c =
    let same : c.into_iter-key-iterator.result ≡ c.args.change.now = search rules in
    (tt, tt, (λ are. subst (AreNews c.args.state.now) same are), (λ are. subst (AreNews c.args.state.now) (sym same) are))

pub loop-key-preserved : goal.loop-key-preserved
loop-key-preserved c =
    let is : is_news c.args.state.now (c.in-Some.key.now, c.in-Some.value.now) ≡ true = search rules in (
      tt,
      tt,
      (λ are. are_more c.args.state.now c.loop-key.key-iterator c.next.new.self c.args.change.now c.in-Some.key.now c.in-Some.value.now c.in-Some.ensures.steps is c.loop-key.invariant.2 are),
      (λ are. (are_first c.args.state.now c.loop-key.key-iterator c.next.new.self c.in-Some.key.now c.in-Some.value.now c.in-Some.ensures.steps (c.loop-key.invariant.3 are)).1),
    )

pub returns-then-not-says_news-clause-each : goal.returns-then-not-says_news-clause-each
returns-then-not-says_news-clause-each c are =
    let is : is_news c.args.state.now (c.in-Some.key.now, c.in-Some.value.now) ≡ false = search rules in
    absurd (true≢false (sym (are_first c.args.state.now c.loop-key.key-iterator c.next.new.self c.in-Some.key.now c.in-Some.value.now c.in-Some.ensures.steps (c.loop-key.invariant.3 are)).0 ∙ is))

pub returns-clause-only : goal.returns-clause-only
returns-clause-only c all = c.loop-key.invariant.2 (are_none c.args.state.now c.loop-key.key-iterator c.in-None.ensures.steps.0)
