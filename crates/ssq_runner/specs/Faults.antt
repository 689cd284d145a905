-- Why a run stops whose round did.
use Rattle.std.specs.Prelude.{Option, Some}
use Rattle.ssq_meaning.specs.Meaning.{Values}
use Rattle.ssq_board.specs.declared.front.Cause.{Cause}
use Rattle.ssq_board.specs.declared.front.Cause.TheVariants as cause
use Rattle.ssq_drive.specs.declared.round.Stopped.{Stopped}
use Rattle.ssq_runner.specs.declared.fault.RunFault.{RunFault}
use Rattle.ssq_runner.specs.declared.fault.RunFault.TheVariants as fault

-- by its cause, and by the key where one overflows
abbrev pub fault_by : Cause → Option Values → RunFault
fault_by cause.KeyOverflow (Some key) = fault.KeyOverflow key
fault_by why key = fault.Round why

abbrev pub fault_of : Stopped → RunFault
fault_of stopped = fault_by stopped.cause stopped.key
