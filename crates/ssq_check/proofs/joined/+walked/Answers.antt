use Rattle.std.proofs.Common.{rules, refl, subst, Bool, if◌then◌else◌, [], ◌∷◌}
use Rattle.ssq_check.specs.Counted.{Counts}
use Rattle.ssq_ast.specs.declared.expr.Expr.TheVariants as expr
use Rattle.ssq_ast.specs.Expression.{only}
use Rattle.ssq_check.specs.Joined.{conjuncts, is_pair, is_key_equality, between_at, is_misplaced}
use Rattle.ssq_check.proofs.OnWay.{meets_both, meets_and, meets_pair, meets_between, meets_other}
use Rattle.ssq_check.proofs.Opened.{binary_opened, between_opened}
use Rattle.ssq_check.proofs.joined.+walked.Goals as goal

pub returns-then-is_and : goal.returns-then-is_and
returns-then-is_and t c =
    let left = c.get.result.now in
    let right = c.get-then-is_and.result.now in
    rw (binary_opened c.args.value.now c.in-Binary.left_at c.in-Binary.left left c.in-Binary.op c.in-Binary.at c.in-Binary.right_at c.in-Binary.right right c.in-Binary.is c.get.ensures c.get-then-is_and.ensures)
    (meets_and c.args.scope.now c.args.walk c.walked.result c.args.at c.in-Binary.left_at left c.in-Binary.op c.in-Binary.at c.in-Binary.right_at right (search rules)
    (meets_both c.args.scope.now (conjuncts c.in-Binary.left_at left) (conjuncts c.in-Binary.right_at right) c.args.walk c.walked-half.result c.walked.result c.walked-half.ensures c.walked.ensures))

pub returns-else-is_and : goal.returns-else-is_and
returns-else-is_and t c =
    let left = c.get-else-is_and.result.now in
    let right = c.get-else-is_and-2.result.now in
    let keys : Counts c.args.walk.keys (if is_pair c.args.scope.now c.in-Binary.op left right then c.args.at ∷ [] else []) c.key_step.result.keys =
    subst (λ (d : Bool). Counts c.args.walk.keys (if d then c.args.at ∷ [] else []) c.key_step.result.keys) c.is_pair.ensures c.key_step.ensures.keys in
    rw (binary_opened c.args.value.now c.in-Binary.left_at c.in-Binary.left left c.in-Binary.op c.in-Binary.at c.in-Binary.right_at c.in-Binary.right right c.in-Binary.is c.get-else-is_and.ensures c.get-else-is_and-2.ensures)
    (meets_pair c.args.scope.now c.args.walk c.key_step.result c.args.at c.in-Binary.left_at left c.in-Binary.op c.in-Binary.at c.in-Binary.right_at right (search rules)
    c.key_step.ensures.rest.0 c.key_step.ensures.rest.1 keys)

pub returns-in-Between : goal.returns-in-Between
unfolding conjuncts is_key_equality between_at is_misplaced
returns-in-Between t c =
    let tested = c.get-in-Between.result.now in
    let low = c.get-in-Between-2.result.now in
    let high = c.get-in-Between-3.result.now in
    rw (between_opened c.args.value.now c.in-Between.operand tested c.in-Between.between_at c.in-Between.low low c.in-Between.high high c.in-Between.is c.get-in-Between.ensures c.get-in-Between-2.ensures c.get-in-Between-3.ensures)
    (meets_between c.args.scope.now c.args.walk c.bound_met.result c.args.at c.in-Between.between_at (expr.Between' tt (only tested) c.in-Between.between_at tt (only low) tt (only high)) c.is_misplaced-misplaced.result refl refl c.is_misplaced-misplaced.ensures
    c.bound_met.ensures.rest.0 c.bound_met.ensures.rest.1 c.bound_met.ensures.bound)

pub returns-in_default : goal.returns-in_default
returns-in_default t c = meets_other c.args.scope.now c.args.walk c.args.at c.args.value.now c.in_default.not-Binary c.in_default.not-Between
