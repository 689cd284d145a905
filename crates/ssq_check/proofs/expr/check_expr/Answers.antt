use Rattle.ssq_check.proofs.Found.{found, type_found}
use Rattle.ssq_check.proofs.Lists.{fault_first}
use Rattle.ssq_check.proofs.expr.check_expr.Goals as goal

pub returns-clause-answers : goal.returns-clause-answers
returns-clause-answers c = rw c.checked.ensures (found c.args.scope.now c.args.within c.args.value.now)

pub returns-clause-first : goal.returns-clause-first
returns-clause-first c = rw c.checked.ensures (fault_first _ _ _ (found c.args.scope.now c.args.within c.args.value.now))

pub returns-clause-kind : goal.returns-clause-kind
returns-clause-kind c = rw c.checked.ensures (type_found _ _ _ (found c.args.scope.now c.args.within c.args.value.now))
