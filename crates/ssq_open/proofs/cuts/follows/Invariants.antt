use Rattle.std.proofs.Common.{◌≡◌}
use Rattle.ssq_open.specs.Epochs.{follows}
use Rattle.ssq_open.proofs.Walks.{keep_up_from}
use Rattle.ssq_open.proofs.cuts.follows.Given as goal

abbrev pub invariant-loop-at : goal.invariant-loop-at
invariant-loop-at l = follows l.before l.ends ≡ keep_up_from l.at l.before l.ends
