use Rattle.std.proofs.Common.{◌≡◌, arith, true≢false, sym, ap, subst, ◌∙◌}
use Rattle.ssq_version.specs.State.{AreNews, layered}
use Rattle.ssq_version.specs.Text.{delta_text, shown}
use Rattle.ssq_version.proofs.Spelled.{kept_is_entries}
use Rattle.ssq_version.proofs.WhatIsNew.{between_news}
use Rattle.ssq_store.proofs.Layers.{is_read, is_there, told_change}
use Rattle.ssq_store.proofs.Making.{if_some}
use Rattle.ssq_store.proofs.listed.change_in.Goals as goal
use Rattle.ssq_store.proofs.Exact.{some_once}

pub returns-in_default-clause-none : goal.returns-in_default-clause-none
returns-in_default-clause-none c new is =
    let text : c.args.text.now ≡ delta_text c.args.partition c.args.version is.change = let same = is.is in cc in
    let read = is_read c.in_ok-read.read c.of_version.result c.args.partition c.args.version (λ entries. shown entries.items ≡ is.change)
    (c.in_ok-read.ensures.each c.args.partition c.args.version is.change (omega arith) (omega arith) (kept_is_entries is.change is.kept is.few) text) c.of_version.ensures.each in
    absurd (is_there c.of_version.result (λ entries. shown entries.items ≡ is.change) c.in_default.is read)

pub returns-then-say_news-clause-found : goal.returns-then-say_news-clause-found
returns-then-say_news-clause-found c =
    let file = if_some _ c.in_ok-read.read (c.args.partition, c.args.version, c.in-Some.change) c.in-Some.ensures.found c.in_ok-read.ensures.found in
    told_change c.args.text.now c.args.partition c.args.version (layered (shown c.args.older.now) (shown c.args.newer.now)) (shown c.in-Some.change.items) file.0 file.1
    (subst (λ es. AreNews (layered (shown c.args.older.now) (shown c.args.newer.now)) (shown es)) c.as_slice.ensures.value (c.say_news.ensures.only c.if-say_news.true))

pub returns-clause-none : goal.returns-clause-none
returns-clause-none c new is =
    let text : c.args.text.now ≡ delta_text c.args.partition c.args.version is.change = let same = is.is in cc in
    let read = is_read c.in_ok-read.read c.of_version.result c.args.partition c.args.version (λ entries. shown entries.items ≡ is.change)
    (c.in_ok-read.ensures.each c.args.partition c.args.version is.change (omega arith) (omega arith) (kept_is_entries is.change is.kept is.few) text) c.of_version.ensures.each in
    let kept : read.0 ≡ c.in-Some.change = some_once read.0 c.in-Some.change (sym read.1 ∙ c.in-Some.is) in
    let same : is.change ≡ shown c.as_slice.result.now = sym read.2 ∙ ap (λ entries. shown entries.items) kept ∙ ap shown (sym c.as_slice.ensures.value) in
    let are : AreNews (layered (shown c.args.older.now) (shown c.args.newer.now)) (shown c.as_slice.result.now) =
    subst (AreNews (layered (shown c.args.older.now) (shown c.args.newer.now))) same (between_news (layered (shown c.args.older.now) (shown c.args.newer.now)) new is.change is.kept.ascend is.between) in
    absurd (true≢false (sym (c.say_news.ensures.each are) ∙ c.if-say_news.false))
