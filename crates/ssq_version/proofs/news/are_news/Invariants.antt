-- All that is said is new exactly where what is left of it is.
use Rattle.ssq_version.specs.State.{AreNews}
use Rattle.ssq_version.proofs.news.are_news.Given as goal

abbrev pub invariant-loop-key : goal.invariant-loop-key
invariant-loop-key l =
    (goal.iterator-loop-key).can_next l.key-iterator
    × (goal.iterator-loop-key).is_finite l.key-iterator
    × (AreNews l.state l.key-iterator → AreNews l.state l.change)
    × (AreNews l.state l.change → AreNews l.state l.key-iterator)
