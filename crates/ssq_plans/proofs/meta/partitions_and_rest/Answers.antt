-- The number is read exactly where it is one of 1 to 64.
use Rattle.std.proofs.Common.{arith}
use Rattle.ssq_plans.proofs.meta.partitions_and_rest.Goals.{else-partitions-ge1-via-then-partitions-ge1+else-partitions-le64, else-partitions-ge1-via-else-partitions-ge1}
use Rattle.ssq_plans.proofs.meta.partitions_and_rest.Goals as goal

pub returns-then-partitions-le64-clause-each : goal.returns-then-partitions-le64-clause-each
returns-then-partitions-le64-clause-each c n rest one few is = c.in_ok-partitions.ensures.each n rest (omega (arith, few)) is

pub returns-else-partitions-ge1-clause-each : goal.returns-else-partitions-ge1-clause-each
returns-else-partitions-ge1-clause-each c n rest one few is =
    let same = c.in_ok-partitions.ensures.each n rest (omega (arith, few)) is in
    elim c.else-partitions-ge1.branch [
      | else-partitions-ge1-via-then-partitions-ge1+else-partitions-le64 w ↦ absurd (omega (arith, w.if-partitions-le64.false, few, same.0))
      | else-partitions-ge1-via-else-partitions-ge1 w ↦ absurd (omega (arith, w.if-partitions-ge1.false, one, same.0))
    ]
