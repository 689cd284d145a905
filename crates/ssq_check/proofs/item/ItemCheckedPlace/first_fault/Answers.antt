use Rattle.std.proofs.Common.{subst, Result}
use Rattle.ssq_value.specs.declared.column.ColType.{ColType}
use Rattle.ssq_check.specs.declared.fault.BindFault.{BindFault}
use Rattle.ssq_check.specs.Fault.{FirstOf}
use Rattle.ssq_check.specs.Broken.{Told}
use Rattle.ssq_check.proofs.item.ItemCheckedPlace.first_fault.Goals as goal

pub returns-in-Column : goal.returns-in-Column
returns-in-Column c = rw (c.in-Column.is) (subst (λ (found : Result ColType BindFault). FirstOf (Told found) c.fault_in.result) c.column_kind.ensures c.fault_in.ensures.first)

pub returns-in-Named : goal.returns-in-Named
returns-in-Named c = rw (c.in-Named.is, c.fault_in-in-Named.ensures.is) c.check_expr.ensures.first
