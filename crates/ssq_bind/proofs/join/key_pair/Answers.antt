use Rattle.std.proofs.Common.{rules}
use Rattle.ssq_bind.specs.Joins.{key_pair}
use Rattle.ssq_check.proofs.Opened.{binary_opened}
use Rattle.ssq_bind.proofs.join.key_pair.Goals as goal

pub returns-in-Binary : goal.returns-in-Binary
unfolding key_pair
returns-in-Binary c =
    rw (binary_opened c.args.value.now c.in-Binary.left_at c.in-Binary.left c.get.result.now c.in-Binary.op c.in-Binary.at c.in-Binary.right_at c.in-Binary.right c.get-in-Binary.result.now c.in-Binary.is c.get.ensures c.get-in-Binary.ensures)
    (search rules)
