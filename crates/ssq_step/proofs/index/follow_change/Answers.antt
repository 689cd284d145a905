use Rattle.std.proofs.Common.{◌∙◌}
use Rattle.ssq_step.proofs.Indexed.{as_index, as_timed, followed_all, followed_begins, followed_on, none_followed}
use Rattle.ssq_step.proofs.Timing.{walk_begins, walk_on}
use Rattle.ssq_step.proofs.index.follow_change.Goals as goal

pub loop-key-init : goal.loop-key-init
loop-key-init c =
    let query = c.args.bound.now in
    let same = c.into_iter-key-iterator.ensures.into_iter_gives ∙ c.iter-key-items.ensures in
    walk_begins c.args.change.now c.into_iter-key-iterator.result same c.changes_are_kept.ensures.kept.ascend
    (λ new after index.
    followed_begins query.shape query c.args.state.now new c.args.change.now c.into_iter-key-iterator.result c.args.entries.now.keys same after (as_timed query c.args.state.now c.args.entries.now.keys query.shape index))

pub loop-key-preserved : goal.loop-key-preserved
loop-key-preserved c =
    let query = c.args.bound.now in
    walk_on c.args.change.now c.loop-key.key-iterator c.next.new.self c.in-Some.key.now c.in-Some.value.now c.in-Some.ensures.steps c.loop-key.invariant.2
    (λ new after index.
    followed_on query.shape query c.args.state.now new c.args.change.now c.loop-key.key-iterator c.next.new.self c.in-Some.key.now c.in-Some.value.now _ _
    c.loop-key.entries.keys c.turn.new.entries.keys c.time_if-old.result c.time_if-new.result c.in-Some.ensures.steps c.loop-key.invariant.2 after c.get.ensures c.as_ref.ensures.value
    c.time_if-old.ensures c.time_if-new.ensures c.in_ok-turn.ensures (c.loop-key.invariant.3 new after index))

pub returns-then-not-have_times : goal.returns-then-not-have_times
returns-then-not-have_times c new after index =
    let query = c.args.bound.now in
    as_index query new c.args.entries.now.keys query.shape
    (none_followed query.shape query (c.have_times.ensures c.if-not-have_times.true) c.args.state.now new c.args.entries.now.keys (as_timed query c.args.state.now c.args.entries.now.keys query.shape index))

pub returns : goal.returns
returns c new after index =
    let query = c.args.bound.now in
    as_index query new c.loop-key.entries.keys query.shape
    (followed_all query.shape query c.args.state.now new c.loop-key.key-iterator c.loop-key.entries.keys c.in-None.ensures.steps.0 (c.loop-key.invariant.3 new after index))
