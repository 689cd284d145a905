-- What inputs in memory hold.
use Rattle.std.specs.Prelude.{◌≡◌, ℕ, ◌+◌, ◌==◌, ◌&&◌, List, [], ◌∷◌, length, filter, slice_get, All, if◌then◌else◌}
use Rattle.std.specs.Option.{option_map_or}
use Rattle.std.specs.String.{string_bytes}
use Rattle.std.specs.Str.{bytes_eq}
use Rattle.ssq_outside.specs.Logs.{Held, Line}
use Rattle.ssq_fakes.specs.Logs.{log_lines, log_plan}
use Rattle.ssq_fakes.specs.Returned.{returned_of}
use Rattle.ssq_fakes.specs.declared.log.MemLog.{MemLog}
use Rattle.ssq_fakes.specs.declared.inputs.Text.{Text}
use Rattle.ssq_fakes.specs.declared.inputs.Part.{Part}
use Rattle.ssq_fakes.specs.declared.inputs.MemInputs.{MemInputs}

-- the bytes of the first text of this name; none without one
abbrev pub text_in : List Text → List ℕ → List ℕ
text_in [] name = []
text_in (text ∷ texts) name = if bytes_eq (string_bytes text.name) name then text.bytes.items else text_in texts name

-- the parts of a stream, in their order
abbrev pub parts_of : List Part → List ℕ → List Part
parts_of parts stream = filter (λ part. bytes_eq (string_bytes part.stream) stream) parts

-- the lines of the part with this number; none without one
abbrev pub lines_at : List Part → ℕ → List Line
lines_at parts number = option_map_or (λ part. log_lines part.log) (slice_get parts number) []

-- what inputs hold
abbrev pub inputs_held : MemInputs → Held
inputs_held inputs = record {
  text = text_in inputs.texts.items;
  parts = λ stream. length (parts_of inputs.parts.items stream);
  lines = λ stream. lines_at (parts_of inputs.parts.items stream);
}

-- of each log that was given back what its `lines` answered, the last one first
abbrev pub inputs_returned : MemInputs → List (List ℕ)
inputs_returned inputs = returned_of inputs.returned

-- how often they failed
abbrev pub input_faults : MemInputs → ℕ
input_faults inputs = inputs.faults.count

-- the calls of `text`, `parts` and `log` that are to fail, by their numbers from 0
abbrev pub input_plan : MemInputs → List ℕ
input_plan inputs = inputs.faults.plan.items

-- the number of the next call of these
abbrev pub input_calls : MemInputs → ℕ
input_calls inputs = inputs.faults.calls

-- the calls that are to fail on each log of the stream's part with this number; none without one
abbrev pub plan_at : List Part → ℕ → List ℕ
plan_at parts number = option_map_or (λ part. log_plan part.log) (slice_get parts number) []

abbrev pub part_plan : MemInputs → List ℕ → ℕ → List ℕ
part_plan inputs stream = plan_at (parts_of inputs.parts.items stream)

-- a log never fails
abbrev pub IsSureLog : MemLog → Type 0
IsSureLog log = log.faults.plan.items ≡ []

-- no call fails, and no log
abbrev pub IsSureInputs : MemInputs → Type 0
IsSureInputs inputs = (input_plan inputs ≡ []) × All (λ part. IsSureLog part.log) inputs.parts.items

-- these bytes are the text of this name, in place of what it was
abbrev pub holding_text : List ℕ → List ℕ → Held → Held
holding_text name bytes held = record {
  text = λ q. if bytes_eq name q then bytes else held.text q;
  parts = held.parts;
  lines = held.lines;
}

-- these lines are the next part of this stream
abbrev pub holding_part : List ℕ → List Line → Held → Held
holding_part stream lines held = record {
  text = held.text;
  parts = λ q. if bytes_eq stream q then held.parts q + 1 else held.parts q;
  lines = λ q number. if bytes_eq stream q && number == held.parts q then lines else held.lines q number;
}

-- these calls are to fail on the logs of the next part of this stream
abbrev pub planning_part : List ℕ → List ℕ → Held → (List ℕ → ℕ → List ℕ) → List ℕ → ℕ → List ℕ
planning_part stream calls held plans q number = if bytes_eq stream q && number == held.parts q then calls else plans q number
