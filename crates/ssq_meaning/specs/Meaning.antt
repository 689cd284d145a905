-- What the definitions of a query's meaning are about: lines, rows, and which rows a query takes and shows.
use Rattle.std.specs.Prelude.{ℕ, ◌-◌, Bool, false, List, [], take, drop, slice_get, Option, Some, None, Result, Ok, Err}
use Rattle.std.specs.List.{filter_map}
use Rattle.std.specs.Result.{result_ok}
use Rattle.ssq_value.specs.declared.value.Value.{Value}
use Rattle.ssq_value.specs.Layout.{Layout}
use Rattle.ssq_shape.specs.declared.bound.Bound.{Bound}
use Rattle.ssq_shape.specs.declared.bound.Stream.{Stream}
use Rattle.ssq_shape.specs.Evaluation.{Overflow as Excess}
use Rattle.ssq_shape.specs.Plain.{passes, projected}

-- a line of a log, without its end
abbrev pub Line : Type 0
Line = List ℕ

-- a row of a stream, or one that is shown
abbrev pub Values : Type 0
Values = List Value

-- the columns of a stream; there are none where there is no such stream
abbrev pub layout_in : Option Stream → Layout
layout_in None = record { columns = []; event = None }
layout_in (Some stream) = stream.schema

abbrev pub layout_at : Bound → ℕ → Layout
layout_at query stream = layout_in (slice_get query.streams stream)

-- whether WHERE is TRUE
abbrev pub is_true_answer : Result Bool Excess → Bool
is_true_answer (Ok passing) = passing
is_true_answer (Err fault) = false

abbrev pub is_fed : Bound → Values → Bool
is_fed query row = is_true_answer (passes query.filter row)

-- these rows as SELECT shows them
abbrev pub shown : Bound → List Values → List Values
shown query rows = filter_map (λ row. result_ok (projected query.outputs row)) rows

-- the lines from one offset up to another; offsets count from 0
abbrev pub lines_between : ℕ → ℕ → List Line → List Line
lines_between from end lines = take (end - from) (drop from lines)
