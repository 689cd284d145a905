use Rattle.ssq_open.proofs.Planning.{AreSame}
use Rattle.ssq_open.proofs.commits.first_mismarked.Given as goal

abbrev pub invariant-loop-epoch : goal.invariant-loop-epoch
invariant-loop-epoch l = AreSame l.plans l.marks l.epoch
