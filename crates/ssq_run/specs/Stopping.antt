-- How faults become the program's stop, its status, and when each may come.
use Rattle.std.specs.Prelude.{◌≡◌, ◌≢◌, ◌⊎◌, ℕ, List, [], Option, Some, None, Result, Ok, Err, IsSome}
use Rattle.ssq_outside.specs.Faults.{Rises}
use Rattle.ssq_outside.specs.Logs.{Held}
use Rattle.ssq_outside.specs.declared.inputs.InputError.{InputError}
use Rattle.ssq_outside.specs.declared.inputs.InputError.TheVariants as input
use Rattle.ssq_outside.specs.declared.output.OutError.{OutError}
use Rattle.ssq_outside.specs.declared.output.OutError.TheVariants as output
use Rattle.ssq_value.specs.declared.column.Column.{Column}
use Rattle.ssq_shape.specs.declared.bound.Stream.{Stream}
use Rattle.ssq_json.specs.declared.bad_row.BadRow.{BadRow}
use Rattle.ssq_json.specs.declared.bad_row.BadRow.TheVariants as bad
use Rattle.ssq_meaning.specs.declared.line.LineFault.{LineFault}
use Rattle.ssq_meaning.specs.declared.line.LineFault.TheVariants as line
use Rattle.ssq_meaning.specs.Epochs.{EpochFault, of_line, of_key}
use Rattle.ssq_board.specs.declared.front.RowFault.{RowFault}
use Rattle.ssq_board.specs.declared.front.RowFault.TheVariants as row
use Rattle.ssq_board.specs.declared.front.Cause.{Cause}
use Rattle.ssq_board.specs.declared.front.Cause.TheVariants as cause
use Rattle.ssq_logs.specs.declared.fault.PartsFault.{PartsFault}
use Rattle.ssq_logs.specs.declared.fault.PartsFault.TheVariants as parts
use Rattle.ssq_logs.specs.declared.fault.LengthFault.{LengthFault}
use Rattle.ssq_logs.specs.declared.fault.LengthFault.TheVariants as lengths
use Rattle.ssq_open.specs.declared.fault.OpenFault.{OpenFault}
use Rattle.ssq_open.specs.declared.fault.OpenFault.TheVariants as opening
use Rattle.ssq_sink.specs.declared.fault.SinkFault.{SinkFault}
use Rattle.ssq_sink.specs.declared.fault.SinkFault.TheVariants as sink
use Rattle.ssq_runner.specs.declared.fault.RunFault.{RunFault}
use Rattle.ssq_runner.specs.declared.fault.RunFault.TheVariants as run
use Rattle.ssq_accept.specs.declared.refusal.Refusal.{Refusal}
use Rattle.ssq_accept.specs.declared.refusal.Refusal.TheVariants as refusal
use Rattle.ssq_words.specs.Asking.{Asked, asked}
use Rattle.ssq_words.specs.declared.error.AskError.{AskError}
use Rattle.ssq_words.specs.declared.error.AskError.TheVariants as words
use Rattle.ssq_run.specs.declared.stop.Stop.{Stop}
use Rattle.ssq_run.specs.declared.stop.Stop.TheVariants.{Usage, Refused, BadLine, Overflow, KeyOverflow, LogFault, DiskFault, OutFault, OtherQuery, OtherPartitions, OtherParts, LogShort, Damaged, NoMemory, FullParts, FullLines, FullEpochs}
use Rattle.ssq_run.specs.declared.stop.Wrong.{Wrong}
use Rattle.ssq_run.specs.declared.stop.Wrong.TheVariants.{TooLong, NotJson, NotObject, WrongType, NoEventTime}
use Rattle.ssq_run.specs.Keys.{key_text}
use Rattle.ssq_run.specs.Places.{name_of, columns_of, column_of, part_at}
use Rattle.ssq_run.specs.Queries.{IsRefusedFor}

abbrev pub stop_of_ask : AskError → Stop
stop_of_ask words.Usage = Usage
stop_of_ask words.NoMemory = NoMemory

abbrev pub stop_of_input : InputError → Stop
stop_of_input input.Fault = LogFault
stop_of_input input.NoMemory = NoMemory

abbrev pub stop_of_output : OutError → Stop
stop_of_output output.Fault = OutFault
stop_of_output output.NoMemory = NoMemory

abbrev pub stop_of_refusal : Refusal → Stop
stop_of_refusal (refusal.Parse at own) = Refused (refusal.Parse at own)
stop_of_refusal (refusal.Bind fault) = Refused (refusal.Bind fault)
stop_of_refusal (refusal.Mode fault) = Refused (refusal.Mode fault)
stop_of_refusal refusal.NoMemory = NoMemory

-- what is wrong with a line of a stream that has these columns
abbrev pub wrong_of : List Column → RowFault → Wrong
wrong_of columns row.TooLong = TooLong
wrong_of columns row.NotJson = NotJson
wrong_of columns row.NotObject = NotObject
wrong_of columns (row.WrongType column) = WrongType (column_of columns column)
wrong_of columns row.NoEventTime = NoEventTime

abbrev pub stop_of_parts : List Stream → PartsFault → Stop
stop_of_parts streams (parts.Full stream) = FullParts (name_of streams stream)
stop_of_parts streams parts.LogFault = LogFault
stop_of_parts streams parts.NoMemory = NoMemory

abbrev pub stop_of_lines : List Stream → List ℕ → LengthFault → Stop
stop_of_lines streams counts (lengths.Full number lines) = FullLines (name_of streams (part_at counts number).stream) (part_at counts number).part lines
stop_of_lines streams counts lengths.LogFault = LogFault
stop_of_lines streams counts lengths.NoMemory = NoMemory

abbrev pub stop_of_open : List Stream → OpenFault → Stop
stop_of_open streams (opening.OtherQuery kept) = OtherQuery kept
stop_of_open streams (opening.OtherPartitions kept asked) = OtherPartitions kept asked
stop_of_open streams (opening.OtherParts stream kept found) = OtherParts (name_of streams stream) kept found
stop_of_open streams (opening.LogShort stream part logged found) = LogShort (name_of streams stream) part logged found
stop_of_open streams (opening.Damaged name) = Damaged name
stop_of_open streams opening.DiskFault = DiskFault
stop_of_open streams opening.NoMemory = NoMemory

-- (a cause alone does not say which key overflows: a run tells of one with its key)
abbrev pub stop_of_cause : List Stream → Cause → Stop
stop_of_cause streams (cause.BadLine stream part offset fault) = BadLine (name_of streams stream) part offset (wrong_of (columns_of streams stream) fault)
stop_of_cause streams (cause.Overflow stream part offset) = Overflow (name_of streams stream) part offset
stop_of_cause streams cause.KeyOverflow = KeyOverflow (key_text [])
stop_of_cause streams cause.LogFault = LogFault
stop_of_cause streams (cause.LogShort stream part logged found) = LogShort (name_of streams stream) part logged found
stop_of_cause streams (cause.Damaged name) = Damaged name
stop_of_cause streams cause.DiskFault = DiskFault
stop_of_cause streams cause.Full = FullEpochs
stop_of_cause streams cause.NoMemory = NoMemory

-- what is wrong with a line, by the meaning of the query
abbrev pub wrong_row : List Column → BadRow → Wrong
wrong_row columns bad.TooLong = TooLong
wrong_row columns bad.NotJson = NotJson
wrong_row columns bad.NotObject = NotObject
wrong_row columns (bad.WrongType column) = WrongType (column_of columns column)
wrong_row columns bad.NoEventTime = NoEventTime
-- (that memory ran out makes no line a bad one)
wrong_row columns bad.NoMemory = NotJson

abbrev pub stop_of_line : List Stream → (stream part offset : ℕ) → LineFault → Stop
stop_of_line streams stream part offset (line.Bad why) = BadLine (name_of streams stream) part offset (wrong_row (columns_of streams stream) why)
stop_of_line streams stream part offset line.Overflow = Overflow (name_of streams stream) part offset

-- the fault of an epoch, told by the names of its query
abbrev pub stop_of_fault : List Stream → EpochFault → Stop
stop_of_fault streams (of_line at) = stop_of_line streams at.stream at.part at.offset at.what
stop_of_fault streams (of_key key) = KeyOverflow (key_text key)

-- why there is no table
abbrev pub stop_of_sink : SinkFault → Stop
stop_of_sink (sink.Damaged at) = Damaged at
stop_of_sink sink.DiskFault = DiskFault
stop_of_sink sink.NoMemory = NoMemory

-- a run's fault, told by the names of its streams, which have so many parts each
abbrev pub stop_of_run : List Stream → List ℕ → RunFault → Stop
stop_of_run streams counts (run.Parts fault) = stop_of_parts streams fault
stop_of_run streams counts (run.Lines fault) = stop_of_lines streams counts fault
stop_of_run streams counts (run.Open fault) = stop_of_open streams fault
stop_of_run streams counts (run.Round why) = stop_of_cause streams why
stop_of_run streams counts (run.KeyOverflow key) = KeyOverflow (key_text key)
stop_of_run streams counts run.OutFault = OutFault
stop_of_run streams counts run.NoMemory = NoMemory

-- how a run ended, told so
abbrev pub stop_of_end : List Stream → List ℕ → Result (Unit {0}) RunFault → Option Stop
stop_of_end streams counts (Ok done) = None
stop_of_end streams counts (Err fault) = Some (stop_of_run streams counts fault)

-- it is told so; or it has a stop, and memory ran out for telling that
abbrev pub IsToldAs : Option Stop → Option Stop → Type 0
IsToldAs stop as_is = (stop ≡ as_is) ⊎ ((as_is ≢ None) × (stop ≡ Some NoMemory))

-- the stop of a result, if it is one
abbrev pub stop_in : {T : Type 0} → Result T Stop → Option Stop
stop_in (Ok done) = None
stop_in (Err stop) = Some stop

-- the status of a stop
abbrev pub status_of : Stop → ℕ
status_of Usage = 2
status_of (Refused why) = 3
status_of (BadLine stream part offset wrong) = 4
status_of (Overflow stream part offset) = 5
status_of (KeyOverflow key) = 5
status_of LogFault = 6
status_of DiskFault = 7
status_of OutFault = 8
status_of (OtherQuery kept) = 9
status_of (OtherPartitions kept asked) = 9
status_of (OtherParts stream kept found) = 9
status_of (LogShort stream part logged found) = 9
status_of (Damaged name) = 9
status_of NoMemory = 10
status_of (FullParts stream) = 11
status_of (FullLines stream part lines) = 11
status_of FullEpochs = 11

abbrev pub status_in : Option Stop → ℕ
status_in None = 0
status_in (Some stop) = status_of stop

-- a fault of the inputs, the disk or the output is told only where it was counted
abbrev pub HasCount : (inputs inputs_now disk disk_now out out_now : ℕ) → Option Stop → Type 0
HasCount inputs inputs_now disk disk_now out out_now (Some LogFault) = Rises inputs inputs_now
HasCount inputs inputs_now disk disk_now out out_now (Some DiskFault) = Rises disk disk_now
HasCount inputs inputs_now disk disk_now out out_now (Some OutFault) = Rises out out_now
HasCount inputs inputs_now disk disk_now out out_now _ = Unit {0}

-- what can come once the words are taken
abbrev pub IsPastWords : Option Stop → Type 0
IsPastWords (Some Usage) = ⊥
IsPastWords _ = Unit {0}

-- why the text of a query was not had: the inputs failed, or memory ran out
abbrev pub IsNoFile : Stop → Type 0
IsNoFile LogFault = Unit {0}
IsNoFile NoMemory = Unit {0}
IsNoFile _ = ⊥

-- why a command's query was not had: it is refused, the inputs failed, or memory ran out
abbrev pub IsUnread : Held → Asked → Stop → Type 0
IsUnread held what (Refused why) = IsRefusedFor held what why × (stop_of_refusal why ≡ Refused why)
IsUnread held what LogFault = Unit {0}
IsUnread held what NoMemory = Unit {0}
IsUnread held what _ = ⊥

-- The words are no command; or they are one, and there is another cause, or none. Memory may run out at any time.
abbrev pub WordsCause : List (List ℕ) → Option Stop → Type 0
WordsCause words (Some Usage) = asked words ≡ None
WordsCause words (Some NoMemory) = Unit {0}
WordsCause words _ = IsSome (asked words)
