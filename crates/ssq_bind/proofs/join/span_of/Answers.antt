use Rattle.std.proofs.Common.{rules, refl}
use Rattle.ssq_bind.specs.Joins.{span_of}
use Rattle.ssq_check.proofs.Opened.{binary_opened}
use Rattle.ssq_bind.proofs.join.span_of.Goals as goal

pub returns-in-Binary : goal.returns-in-Binary
unfolding span_of
returns-in-Binary c =
    rw (binary_opened c.args.value.now c.in-Binary.left_at c.in-Binary.left c.in-Binary.left c.in-Binary.op c.in-Binary.at c.in-Binary.right_at c.in-Binary.right c.get.result.now c.in-Binary.is refl c.get.ensures)
    (search rules)
