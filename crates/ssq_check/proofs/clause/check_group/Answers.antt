use Rattle.std.proofs.Common.{subst, sym, Option}
use Rattle.std.specs.Prelude.{IfOk}
use Rattle.ssq_ast.specs.declared.query.GroupBy.{GroupBy}
use Rattle.ssq_check.specs.Fault.{FirstOf}
use Rattle.ssq_check.specs.Lists.{Where}
use Rattle.ssq_check.specs.Clauses.{GroupFaults}
use Rattle.ssq_check.proofs.clause.check_group.Goals as goal

pub returns-in-Some : goal.returns-in-Some
returns-in-Some c = subst (λ (o : Option GroupBy). IfOk c.check_groups.result (FirstOf (Where (GroupFaults c.args.scope.now) o))) (sym c.in-Some.is) c.check_groups.ensures
