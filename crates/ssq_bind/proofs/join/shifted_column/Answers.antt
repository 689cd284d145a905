use Rattle.std.proofs.Common.{rules, refl}
use Rattle.ssq_bind.specs.Joins.{shifted_column}
use Rattle.ssq_check.proofs.Opened.{binary_opened}
use Rattle.ssq_bind.proofs.join.shifted_column.Goals as goal

pub returns-in-Binary : goal.returns-in-Binary
unfolding shifted_column
returns-in-Binary c =
    rw (binary_opened c.args.value.now c.in-Binary.left_at c.in-Binary.left c.get.result.now c.in-Binary.op c.in-Binary.at c.in-Binary.right_at c.in-Binary.right c.in-Binary.right c.in-Binary.is c.get.ensures refl)
    (search rules)
