use Rattle.std.proofs.Common.{◌≡◌, ◌++◌, drop}
use Rattle.ssq_open.specs.Looking.{begins_from, begins}
use Rattle.ssq_open.proofs.cuts.begins.Given as goal

abbrev pub invariant-loop-stream : goal.invariant-loop-stream
invariant-loop-stream l = l.ends ++ begins_from l.stream (drop l.stream l.parts) ≡ begins l.parts
