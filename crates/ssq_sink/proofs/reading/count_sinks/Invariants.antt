use Rattle.std.proofs.Common.{take}
use Rattle.ssq_sink.proofs.Passes.{CountsOuts}
use Rattle.ssq_sink.proofs.reading.count_sinks.Given as goal

-- one more than the greatest epoch of the names so far
abbrev pub invariant-loop-name : goal.invariant-loop-name
invariant-loop-name l = CountsOuts (take l.name-index l.names) l.count
