-- What is written so far, with what the entries that are left give, is all.
use Rattle.std.proofs.Common.{◌≡◌, ◌++◌}
use Rattle.ssq_version.proofs.Laid.{left_text}
use Rattle.ssq_version.proofs.layers.put_all_given.Given as goal

abbrev pub invariant-loop-entry : goal.invariant-loop-entry
invariant-loop-entry l = l.out ++ left_text l.entry-index l.entries ≡ l.initial.out ++ left_text 0 l.entries
