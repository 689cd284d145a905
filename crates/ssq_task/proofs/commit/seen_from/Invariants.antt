-- The greatest times so far, with those of the lines that are left, are those of all.
use Rattle.std.proofs.Common.{◌≡◌, ℕ, drop, length}
use Rattle.ssq_meaning.specs.Times.{later}
use Rattle.ssq_water.specs.Water.{seen_at}
use Rattle.ssq_task.specs.Committing.{told}
use Rattle.ssq_task.proofs.commit.seen_from.Given as goal

abbrev pub invariant-loop-line : goal.invariant-loop-line
invariant-loop-line l = record {
  times : (stream : ℕ) → later (seen_at l.seen stream) (told (drop l.line-index l.lines) stream) ≡ told l.lines stream;
  streams : length l.seen ≡ length l.bound.streams;
}
