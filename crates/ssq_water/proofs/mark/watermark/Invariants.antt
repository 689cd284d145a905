use Rattle.std.proofs.Common.{◌≡◌, drop}
use Rattle.std.specs.Prelude.{IfSome}
use Rattle.ssq_time.specs.Time.{IsStampTime}
use Rattle.ssq_water.proofs.Marks.{least_with, marks_from}
use Rattle.ssq_water.proofs.mark.watermark.Given as goal

abbrev pub invariant-loop-at : goal.invariant-loop-at
invariant-loop-at l = record {
  left : least_with l.least (marks_from l.at (drop l.at l.bound.streams) l.times) ≡ least_with l.initial.least (marks_from 0 l.bound.streams l.times);
  years : IfSome l.least IsStampTime;
}
