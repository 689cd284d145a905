use Rattle.std.proofs.Common.{◌≡◌, ◌+◌, drop}
use Rattle.ssq_fakes.specs.Crashes.{index_of}
use Rattle.ssq_fakes.proofs.names.index_of.Given as goal

abbrev pub invariant-loop-i : goal.invariant-loop-i
invariant-loop-i l = index_of l.names l.name ≡ l.i + index_of (drop l.i l.names) l.name
