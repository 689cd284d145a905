use Rattle.std.specs.Vec.Iter.{into_iter_items, into_iter_len}
use Rattle.ssq_version.proofs.Values.{without_less, without_none, less_items, no_items}
use Rattle.ssq_version.proofs.applied.take_back.Goals as goal

pub loop-key-preserved : goal.loop-key-preserved
loop-key-preserved c = (
  tt,
  tt,
  (λ start without.
      without_less (λ key. key.now) (into_iter_items c.loop-key.key-iterator) (into_iter_items c.next.new.self) c.in-Some.key start c.loop-key.state c.take_away.new.state c.in-Some.ensures.steps.0 c.take_away.ensures (c.loop-key.invariant.2 start without)),
  less_items (into_iter_items c.loop-key.key-iterator) (into_iter_items c.next.new.self) c.in-Some.key (into_iter_len c.loop-key.key-iterator) (into_iter_len c.next.new.self) c.in-Some.ensures.steps.0 c.in-Some.ensures.steps.1 c.loop-key.invariant.3,
)

pub returns : goal.returns
returns c start without ascend =
    without_none (λ key. key.now) (into_iter_items c.loop-key.key-iterator) start c.loop-key.state (no_items (into_iter_items c.loop-key.key-iterator) (into_iter_len c.loop-key.key-iterator) c.in-None.ensures.steps.0 c.loop-key.invariant.3) ascend c.states_are_kept.ensures.kept.ascend (c.loop-key.invariant.2 start without)
