use Rattle.std.proofs.Common.{◌≡◌, drop}
use Rattle.ssq_sink.specs.Sink.{row_cmp}
use Rattle.ssq_sink.proofs.order.order_by.Given as goal

-- on the keys so far the rows tie, so that the others tell them apart
abbrev pub invariant-loop-key : goal.invariant-loop-key
invariant-loop-key l = row_cmp l.order l.left l.right ≡ row_cmp (drop l.key-index l.order) l.left l.right
