use Rattle.std.proofs.Common.{◌≡◌, ◌++◌, take}
use Rattle.ssq_runner.specs.Told.{told_text}
use Rattle.ssq_runner.proofs.line.push_all.Given as goal

abbrev pub invariant-loop-one : goal.invariant-loop-one
invariant-loop-one l = l.text.items ≡ l.initial.text.items ++ told_text (take l.one-index l.told)
