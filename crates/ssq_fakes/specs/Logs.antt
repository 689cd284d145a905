-- What a log in memory holds.
use Rattle.std.specs.Prelude.{ℕ, ◌==◌, List, [], ◌∷◌, ◌++◌, length, map, replicate, if◌then◌else◌}
use Rattle.std.specs.Arc.{arc_value}
use Rattle.ssq_outside.specs.Logs.{Line}
use Rattle.ssq_fakes.specs.declared.log.MemLog.{MemLog}
use Rattle.ssq_fakes.specs.declared.log.Lines.{Lines}
use Rattle.ssq_fakes.specs.declared.log.Lines.TheVariants.{Each, Same}

abbrev pub lines_of : Lines → List Line
lines_of (Each lines) = map (λ line. line.items) lines.items
lines_of (Same line n) = replicate n line.items

-- its lines, without their ends
abbrev pub log_lines : MemLog → List Line
log_lines log = lines_of (arc_value log.lines)

-- what each call of `lines` answered that did not fail, the first one first
abbrev pub log_answers : MemLog → List ℕ
log_answers log = replicate log.asked (length (log_lines log))

-- how often it failed
abbrev pub log_faults : MemLog → ℕ
log_faults log = log.faults.count

-- the calls of `lines` and `line` that are to fail, by their numbers from 0
abbrev pub log_plan : MemLog → List ℕ
log_plan log = log.faults.plan.items

-- the number of the next call of `lines` or `line`
abbrev pub log_calls : MemLog → ℕ
log_calls log = log.faults.calls

-- the lines of these bytes, where the first has begun with `begun`
abbrev pub lines_after : Line → List ℕ → List Line
lines_after begun [] = []
lines_after begun (byte ∷ bytes) = if byte == 10 then begun ∷ lines_after [] bytes else lines_after (begun ++ byte ∷ []) bytes

-- The parts of these bytes that end in byte 0x0A, without their ends. A last part without an end is none.
abbrev pub whole_lines : List ℕ → List Line
whole_lines bytes = lines_after [] bytes
