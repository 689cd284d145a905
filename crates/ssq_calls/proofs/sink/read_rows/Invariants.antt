use Rattle.std.specs.List.{All}
use Rattle.ssq_time.specs.Time.{IsStampTime}
use Rattle.ssq_value.specs.Kind.{IfTime}
use Rattle.ssq_calls.proofs.sink.read_rows.Given as goal

-- each row so far has a text
abbrev pub invariant-loop-line : goal.invariant-loop-line
invariant-loop-line l = All (All (IfTime IsStampTime)) l.rows.items
