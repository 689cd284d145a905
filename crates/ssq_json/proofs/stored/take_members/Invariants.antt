use Rattle.std.proofs.Common.{length}
use Rattle.ssq_json.proofs.Restoring.{AreTakenSo}
use Rattle.ssq_json.proofs.stored.take_members.Given as goal

-- what was taken so far, and that what is left is the members that are left
abbrev pub invariant-loop-head : goal.invariant-loop-head
invariant-loop-head l = AreTakenSo l.heads l.kinds l.text (length l.yielded) l.values.items l.rest
