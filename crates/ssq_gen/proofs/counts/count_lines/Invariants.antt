use Rattle.std.proofs.Common.{◌≤◌, ◌+◌, length}
use Rattle.ssq_gen.specs.Counts.{AreWithin}
use Rattle.ssq_gen.proofs.Reading.{AreLeftOf, AreReadOf}
use Rattle.ssq_gen.proofs.counts.count_lines.Given as goal

-- of any rows that the bytes are, some are counted, and what is left is the lines of the others; what was read is rows; and no more of them are counted
-- than bytes were read
abbrev pub invariant-loop-rest : goal.invariant-loop-rest
invariant-loop-rest l = AreLeftOf l.heads l.kinds l.bytes l.rest l.counts × AreReadOf l.heads l.kinds l.bytes l.rest × AreWithin l.counts × (l.counts.rows + length l.rest ≤ length l.bytes)

abbrev pub decreases-loop-rest : goal.decreases-loop-rest
decreases-loop-rest l = length l.rest
