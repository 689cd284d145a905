use Rattle.std.proofs.Common.{◌≡◌, ◌++◌, drop}
use Rattle.std.specs.Prelude.{map}
use Rattle.ssq_fakes.specs.Logs.{lines_after, whole_lines}
use Rattle.ssq_fakes.proofs.log.MemLog.torn.Given as goal

abbrev pub invariant-loop-byte : goal.invariant-loop-byte
invariant-loop-byte l = whole_lines l.bytes ≡ map (λ line. line.items) l.lines.items ++ lines_after l.line.items (drop l.byte-index l.bytes)
