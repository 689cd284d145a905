use Rattle.std.proofs.Common.{rules, refl}
use Rattle.ssq_check.specs.Joined.{edge_column}
use Rattle.ssq_check.proofs.Opened.{binary_opened}
use Rattle.ssq_check.proofs.joined.edge_column.Goals as goal

pub returns-then-is_side : goal.returns-then-is_side
unfolding edge_column
returns-then-is_side c = rw (binary_opened c.args.value.now c.in-Binary.left_at c.in-Binary.left c.get-then-is_side.result.now c.in-Binary.op c.in-Binary.at c.in-Binary.right_at c.in-Binary.right c.get.result.now c.in-Binary.is c.get-then-is_side.ensures c.get.ensures) (search rules)

pub returns-else-is_side : goal.returns-else-is_side
unfolding edge_column
returns-else-is_side c = rw (binary_opened c.args.value.now c.in-Binary.left_at c.in-Binary.left c.in-Binary.left c.in-Binary.op c.in-Binary.at c.in-Binary.right_at c.in-Binary.right c.get.result.now c.in-Binary.is refl c.get.ensures) (search rules)
