-- What is kept of a line is at most the cap, after each part of it.
use Rattle.std.proofs.Common.{◌≤◌, vec_len}
use Rattle.ssq_files.proofs.log.Lines.take.Given as goal

abbrev pub invariant-parts : goal.invariant-parts
invariant-parts g l = vec_len l.into ≤ 1048577
