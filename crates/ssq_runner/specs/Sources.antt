-- How a run over the parts of its streams goes.
use Rattle.std.specs.Prelude.{◌≡◌, ◌≤◌, ℕ, List, [], map, unwrap_or, Option, Result, Ok, Err}
use Rattle.std.specs.Option.{ForSome}
use Rattle.ssq_outside.specs.Faults.{Rises}
use Rattle.ssq_outside.specs.Files.{IsEmpty}
use Rattle.ssq_outside.specs.History.{History, files_now}
use Rattle.ssq_outside.specs.Logs.{Held, Line}
use Rattle.ssq_shape.specs.declared.bound.Bound.{Bound}
use Rattle.ssq_shape.specs.declared.bound.Stream.{Stream}
use Rattle.ssq_course.specs.Setting.{Setting}
use Rattle.ssq_board.specs.declared.front.Cause.TheVariants as cause
use Rattle.ssq_open.specs.declared.fault.OpenFault.TheVariants as opening
use Rattle.ssq_logs.specs.declared.fault.PartsFault.TheVariants as parts_fault
use Rattle.ssq_logs.specs.declared.fault.LengthFault.TheVariants as length_fault
use Rattle.ssq_logs.specs.Parts.{counts_in, lines_in, PartsCause}
use Rattle.ssq_logs.specs.Opened.{Part, parts_of, AreLogsOf}
use Rattle.ssq_logs.specs.Went.{returned_with}
use Rattle.ssq_runner.specs.declared.ask.Ask.{Ask}
use Rattle.ssq_runner.specs.declared.fault.RunFault.{RunFault}
use Rattle.ssq_runner.specs.declared.fault.RunFault.TheVariants as fault
use Rattle.ssq_runner.specs.Running.{Given, IsOf, IsRunOf, RunEnd}

-- The setting is that of the query over what inputs hold: all lines that the parts of its streams will come to hold; with 1 to 64 partitions, those that are asked for where that is asked. A new checkpoint gets the partitions that are asked for, or one.
pub record IsSettingFor (held : Held) (bound : Bound) (asks : Option ℕ) (start : History) (s : Setting) : Type 0 where
  pub query : s.job.bound ≡ bound
  pub parts : s.job.parts ≡ counts_in held bound.streams
  pub lines_are : s.lines ≡ lines_in held bound.streams
  pub some_partitions : 1 ≤ s.job.partitions
  pub few_partitions : s.job.partitions ≤ 64
  pub as_asked : ForSome asks (λ count. s.job.partitions ≡ count)
  pub first : IsEmpty (files_now start) → s.job.partitions ≡ unwrap_or asks 1

-- logs came back to the inputs that were asked nothing, and no others: those of these parts
abbrev pub CameUnasked : (returned returned_now : List (List ℕ)) → Type 0
CameUnasked returned returned_now = (opened : List Part) × (returned_now ≡ returned_with (map (λ _. []) opened) returned)

-- nothing was done to the disk, nothing was written, and nothing is left to be; and the logs that were opened came back and were asked nothing
pub record IsStill (told : Type 0) (start now : History) (returned returned_now : List (List ℕ)) (OutTells : Type 0) (old written text : List ℕ) : Type 0 where
  pub same : now ≡ start
  pub unwritten : OutTells → written ≡ old
  pub untold : text ≡ []
  pub unasked : told → CameUnasked returned returned_now

-- why a run did not come to its logs: a stream has too many parts, where inputs tell what they hold; the inputs failed; or memory ran out
abbrev pub IsUnparted : Type 0 → Held → List Stream → RunFault → Type 0
IsUnparted told held streams (fault.Parts why) = told → PartsCause held streams why
IsUnparted told held streams fault.NoMemory = Unit {0}
IsUnparted told held streams _ = ⊥

module _ {L : Type 0} (told tells : Type 0) (lines : L → List Line) (available : L → ℕ) (answers : L → List ℕ) (faults : L → ℕ) where
  -- How a run over inputs goes: its parts are not counted, or not all of them opened, and those that are come back; or it runs over their logs, as they were opened, for the query over
  -- what the inputs hold, and gives them back.
  pub data RunOver (held : Held) (known : List ℕ → ℕ → ℕ) (bound : Bound) (ask : Ask) (start now : History) (disk_faults disk_faults_now : ℕ) (returned returned_now : List (List ℕ)) (OutTells : Type 0) (old written text : List ℕ) (end : Result (Unit {0}) RunFault) : Type 0 where
    unparted : (why : RunFault) → IsUnparted told held bound.streams why → IsStill told start now returned returned_now OutTells old written text → end ≡ Err why → RunOver held known bound ask start now disk_faults disk_faults_now returned returned_now OutTells old written text end
    over : (g : Given L) → (told → g.counts ≡ counts_in held bound.streams) → IsOf bound ask g.counts g → g.start ≡ start → g.disk_faults ≡ disk_faults → g.written ≡ old
        → AreLogsOf told lines available answers faults held known (parts_of bound.streams g.counts) g.logs → (told → (s : Setting) → IsSettingFor held bound ask.partitions start s → IsRunOf lines g s) → (logs : List L)
        → RunEnd tells lines available answers faults g now disk_faults_now logs OutTells written text end → (told → returned_now ≡ returned_with (map answers logs) returned)
        → RunOver held known bound ask start now disk_faults disk_faults_now returned returned_now OutTells old written text end

-- A fault of the outside is told only where it was counted.
abbrev pub HasCount : (disk disk_now inputs inputs_now out out_now : ℕ) → Result (Unit {0}) RunFault → Type 0
HasCount disk disk_now inputs inputs_now out out_now (Ok done) = Unit {0}
HasCount disk disk_now inputs inputs_now out out_now (Err (fault.Parts parts_fault.LogFault)) = Rises inputs inputs_now
HasCount disk disk_now inputs inputs_now out out_now (Err (fault.Lines length_fault.LogFault)) = Rises inputs inputs_now
HasCount disk disk_now inputs inputs_now out out_now (Err (fault.Open opening.DiskFault)) = Rises disk disk_now
HasCount disk disk_now inputs inputs_now out out_now (Err (fault.Round cause.LogFault)) = Rises inputs inputs_now
HasCount disk disk_now inputs inputs_now out out_now (Err (fault.Round cause.DiskFault)) = Rises disk disk_now
HasCount disk disk_now inputs inputs_now out out_now (Err fault.OutFault) = Rises out out_now
HasCount disk disk_now inputs inputs_now out out_now (Err _) = Unit {0}
