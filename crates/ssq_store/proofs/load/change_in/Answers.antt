use Rattle.std.proofs.Common.{arith, ◌≡◌, true≢false, is_some, sym, ap, subst}
use Rattle.ssq_version.specs.State.{AreNews}
use Rattle.ssq_version.specs.Text.{delta_text}
use Rattle.ssq_version.proofs.WhatIsNew.{between_news}
use Rattle.ssq_store.proofs.load.change_in.Goals as goal

pub returns-in_default-clause-none : goal.returns-in_default-clause-none
returns-in_default-clause-none c new is =
    let text : c.args.text.now ≡ delta_text c.args.partition c.args.version is.change = let same = is.is in cc in
    let read = c.in_ok-read.ensures.each c.args.partition c.args.version is.change (omega arith) (omega arith) is.kept is.few text in
    absurd (true≢false (sym (ap is_some (c.in_default.ensures.each is.change read))))

pub returns-else-are_news-clause-none : goal.returns-else-are_news-clause-none
returns-else-are_news-clause-none c new is =
    let text : c.args.text.now ≡ delta_text c.args.partition c.args.version is.change = let same = is.is in cc in
    let read = c.in_ok-read.ensures.each c.args.partition c.args.version is.change (omega arith) (omega arith) is.kept is.few text in
    let both = c.in-Some.ensures.each is.change read in
    let same : c.in-Some.change ≡ is.change = cc in
    let are : AreNews c.args.state.now c.in-Some.change = subst (AreNews c.args.state.now) (sym same) (between_news c.args.state.now new is.change is.kept.ascend is.between) in
    absurd (true≢false (sym (c.if-are_news.ensures.each are)))
