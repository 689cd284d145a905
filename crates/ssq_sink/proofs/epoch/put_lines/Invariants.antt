use Rattle.std.proofs.Common.{◌≡◌, ◌++◌, take, IsUtf8}
use Rattle.std.specs.List.{flat_map}
use Rattle.ssq_sink.specs.Sink.{line_with}
use Rattle.ssq_sink.proofs.epoch.put_lines.Given as goal

-- the lines so far, and UTF-8 stays
abbrev pub invariant-loop-row : goal.invariant-loop-row
invariant-loop-row l =
    (l.text.items ≡ l.initial.text.items ++ flat_map (line_with l.heads) (take l.row-index l.rows))
    × (IsUtf8 l.initial.text.items → IsUtf8 l.text.items)
