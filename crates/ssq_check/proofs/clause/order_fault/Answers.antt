use Rattle.std.proofs.Common.{◌≡◌, ◌∙◌, ap, subst, ℕ, Bool, false, List}
use Rattle.std.specs.Prelude.{IfOk}
use Rattle.ssq_ast.specs.declared.query.OrderBy.{OrderBy}
use Rattle.ssq_check.specs.declared.fault.Cause.TheVariants as cause
use Rattle.ssq_check.specs.Fault.{FirstOf}
use Rattle.ssq_check.specs.Broken.{Rule}
use Rattle.ssq_check.specs.Lists.{Each, has_name}
use Rattle.ssq_check.proofs.Outputs.{are_outputs}
use Rattle.ssq_check.proofs.clause.order_fault.Goals as goal

pub returns : goal.returns
returns c =
    subst (λ (is_there : List ℕ → Bool). IfOk c.first_in.result (FirstOf (Each (λ (order : OrderBy). Rule cause.UnknownName order.name.at (is_there order.name.text ≡ false)) c.args.orders.now)))
    (λ i name. (ap (has_name name) c.in_ok-take_all.ensures.names ∙ are_outputs name c.args.items.now) i) c.first_in.ensures
