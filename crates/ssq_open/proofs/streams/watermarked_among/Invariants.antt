use Rattle.std.proofs.Common.{◌≡◌, ◌++◌, drop}
use Rattle.ssq_open.specs.Watermarks.{watermarked_from, watermarked}
use Rattle.ssq_open.proofs.streams.watermarked_among.Given as goal

abbrev pub invariant-loop-at : goal.invariant-loop-at
invariant-loop-at l = l.found ++ watermarked_from l.at (drop l.at l.streams) ≡ watermarked l.streams
