-- All that is said is new exactly where what is left of it is.
use Rattle.std.proofs.Common.{drop}
use Rattle.ssq_version.specs.State.{AreNews, layered}
use Rattle.ssq_version.specs.Text.{shown}
use Rattle.ssq_version.proofs.layers.say_news.Given as goal

abbrev pub invariant-loop-entry : goal.invariant-loop-entry
invariant-loop-entry l = record {
  only : AreNews (layered (shown l.older) (shown l.newer)) (shown (drop l.entry-index l.entries)) → AreNews (layered (shown l.older) (shown l.newer)) (shown l.entries);
  each : AreNews (layered (shown l.older) (shown l.newer)) (shown l.entries) → AreNews (layered (shown l.older) (shown l.newer)) (shown (drop l.entry-index l.entries));
}
