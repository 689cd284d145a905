use Rattle.std.proofs.Common.{◌≡◌, ◌++◌, drop}
use Rattle.ssq_open.specs.Lens.{found_from}
use Rattle.ssq_open.proofs.lens.found_in.Given as goal

abbrev pub invariant-loop-stream : goal.invariant-loop-stream
invariant-loop-stream l = l.found ++ found_from l.stream (drop l.stream l.streams) ≡ found_from 0 l.streams
