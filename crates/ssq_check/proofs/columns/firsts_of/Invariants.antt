use Rattle.std.proofs.Common.{take}
use Rattle.ssq_check.specs.Columns.{FindsFirsts}
use Rattle.ssq_check.proofs.columns.firsts_of.Given as goal

abbrev pub invariant-loop-at : goal.invariant-loop-at
invariant-loop-at l = FindsFirsts (take l.at l.columns) l.firsts
