use Rattle.std.proofs.Common.{◌≡◌, ◌++◌, drop}
use Rattle.ssq_open.specs.Epochs.{starts}
use Rattle.ssq_open.proofs.cuts.starts.Given as goal

abbrev pub invariant-loop-part : goal.invariant-loop-part
invariant-loop-part l = l.ends ++ starts (drop l.part-index l.found) ≡ starts l.found
