use Rattle.std.proofs.Common.{◌∙◌}
use Rattle.ssq_step.proofs.Indexed.{as_index, none_timed, timed_all, timed_begins, timed_on}
use Rattle.ssq_step.proofs.Timing.{walk_begins, walk_on}
use Rattle.ssq_step.proofs.index.entries_of.Goals as goal

pub loop-key-init : goal.loop-key-init
loop-key-init c =
    let same = c.into_iter-key-iterator.ensures.into_iter_gives ∙ c.in_ok-items.ensures in
    walk_begins c.args.state.now c.into_iter-key-iterator.result same c.states_are_kept.ensures.kept.ascend
    (timed_begins c.args.bound.now.shape c.args.bound.now c.args.state.now c.into_iter-key-iterator.result c.new-entries.result.keys same c.new-entries.ensures.empty)

pub loop-key-preserved : goal.loop-key-preserved
loop-key-preserved c =
    walk_on c.args.state.now c.loop-key.key-iterator c.next.new.self c.in-Some.key.now c.in-Some.value.now c.in-Some.ensures.steps c.loop-key.invariant.2
    (timed_on c.args.bound.now.shape c.args.bound.now c.args.state.now c.loop-key.key-iterator c.next.new.self c.in-Some.key.now c.in-Some.value.now c.loop-key.entries.keys c.put_under.new.entries.keys
    c.entry_time.result c.in-Some.ensures.steps c.loop-key.invariant.2 c.entry_time.ensures c.in_ok-put_under.ensures c.loop-key.invariant.3)

pub returns-then-not-have_times : goal.returns-then-not-have_times
returns-then-not-have_times c =
    as_index c.args.bound.now c.args.state.now c.new-entries.result.keys c.args.bound.now.shape
    (none_timed c.args.bound.now.shape c.args.bound.now (c.have_times.ensures c.if-not-have_times.true) c.args.state.now c.new-entries.result.keys c.new-entries.ensures.empty)

pub returns : goal.returns
returns c =
    as_index c.args.bound.now c.args.state.now c.loop-key.entries.keys c.args.bound.now.shape
    (timed_all c.args.bound.now.shape c.args.bound.now c.args.state.now c.loop-key.key-iterator c.loop-key.entries.keys c.in-None.ensures.steps.0 c.loop-key.invariant.3)
