-- What is copied so far, and that there is room for what is left.
use Rattle.std.proofs.Common.{◌≡◌, ◌≤◌, ◌++◌, length, drop}
use Rattle.std.specs.Prelude.{vec_capacity}
use Rattle.ssq_desk.proofs.plan.copied.Given as goal

abbrev pub invariant-loop-end : goal.invariant-loop-end
invariant-loop-end l = record {
  items : l.copied.items ++ drop l.end-index l.ends ≡ l.ends;
  length_is : length l.copied.items ≡ l.end-index;
  room : length l.ends ≤ vec_capacity l.copied;
}
