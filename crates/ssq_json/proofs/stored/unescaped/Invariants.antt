use Rattle.std.proofs.Common.{length}
use Rattle.ssq_json.proofs.Restoring.{AreLeft}
use Rattle.ssq_json.proofs.stored.unescaped.Given as goal

abbrev pub invariant-loop-byte : goal.invariant-loop-byte
invariant-loop-byte l = AreLeft l.text l.bytes.items l.left

abbrev pub decreases-loop-byte : goal.decreases-loop-byte
decreases-loop-byte l = length l.left
