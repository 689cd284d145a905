use Rattle.std.proofs.Common.{take}
use Rattle.ssq_check.specs.Fault.{FirstOf}
use Rattle.ssq_check.specs.Lists.{Each}
use Rattle.ssq_check.proofs.each.first_in.Given as goal

abbrev pub invariant-loop-item : goal.invariant-loop-item
invariant-loop-item g l = FirstOf (Each (g.T.Checked.faults l.names) (take l.item-index l.items)) l.first
