use Rattle.std.proofs.Common.{arith}
use Rattle.ssq_field.proofs.BigEndian.{begins_64}
use Rattle.ssq_field.proofs.big_endian.take_be64.Goals as goal

pub returns-clause-found : goal.returns-clause-found
returns-clause-found c =
    begins_64 c.args.from.now _ _ (λ i. omega (arith, c.type_inv.from i)) (omega (arith, c.in_ok-bytes.ensures.cases.2)) c.in_ok-bytes.ensures.cases.0 c.from_be_bytes.ensures
