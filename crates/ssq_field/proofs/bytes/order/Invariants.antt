use Rattle.std.proofs.Common.{◌≡◌, length}
use Rattle.std.specs.Ordering.{nat_cmp}
use Rattle.std.specs.Cmp.Lexicographic.{slice_cmp}
use Rattle.ssq_field.proofs.BigEndian.{IsBytes}
use Rattle.ssq_field.proofs.bytes.order.Given as goal

abbrev pub invariant-loop-front : goal.invariant-loop-front
invariant-loop-front l = IsBytes l.left × IsBytes l.right × (slice_cmp nat_cmp l.left l.right ≡ slice_cmp nat_cmp l.fn.left l.fn.right)

abbrev pub decreases-loop-front : goal.decreases-loop-front
decreases-loop-front l = length l.left
