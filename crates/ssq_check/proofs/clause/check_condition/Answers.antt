use Rattle.std.proofs.Common.{◌≡◌, ◌∙◌, ap, sym, subst, Bool, true, Option}
use Rattle.ssq_check.specs.declared.fault.BindFault.{BindFault}
use Rattle.ssq_check.specs.declared.fault.Cause.TheVariants as cause
use Rattle.ssq_check.specs.Fault.{FirstOf}
use Rattle.ssq_check.specs.Broken.{Rule, FaultsIn}
use Rattle.ssq_check.specs.Rules.{kind}
use Rattle.ssq_check.specs.Clauses.{is_no_truth}
use Rattle.ssq_check.proofs.Ends.{first_of_two}
use Rattle.ssq_check.proofs.clause.check_condition.Goals as goal

pub returns : goal.returns
returns c =
    let scope = c.args.scope.now in
    let condition = c.args.condition.now in
    let Parts = FaultsIn scope c.args.within condition.value in
    let Untrue = λ (untrue : Bool). Rule cause.WrongType condition.at (untrue ≡ true) in
    first_of_two Parts (Untrue (is_no_truth (kind scope c.args.within condition.value))) c.fault_in.result c.rule-own.result c.sooner.result c.sooner.ensures
    (subst (λ (o : Option BindFault). FirstOf Parts o) (sym c.fault_in.ensures.is) c.check_expr-kind.ensures.first)
    (subst (λ (b : Bool). FirstOf (Untrue b) c.rule-own.result) (c.is_no_truth.ensures ∙ ap is_no_truth c.check_expr-kind.ensures.kind) c.rule-own.ensures)
