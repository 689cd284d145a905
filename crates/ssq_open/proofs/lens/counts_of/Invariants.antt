use Rattle.std.proofs.Common.{◌≡◌, ◌++◌, drop}
use Rattle.ssq_open.specs.Lens.{counts_of}
use Rattle.ssq_open.proofs.lens.counts_of.Given as goal

abbrev pub invariant-loop-parts : goal.invariant-loop-parts
invariant-loop-parts l = l.counts ++ counts_of (drop l.parts-index l.streams) ≡ counts_of l.streams
