-- How errors of the outside become causes.
use Rattle.ssq_outside.specs.declared.disk.DiskError.{DiskError}
use Rattle.ssq_outside.specs.declared.disk.DiskError.TheVariants as disk
use Rattle.ssq_board.specs.declared.front.Cause.{Cause}
use Rattle.ssq_board.specs.declared.front.Cause.TheVariants as cause

-- an error of the disk is told as it is
abbrev pub cause_of_disk : DiskError → Cause
cause_of_disk disk.Fault = cause.DiskFault
cause_of_disk disk.NoMemory = cause.NoMemory
