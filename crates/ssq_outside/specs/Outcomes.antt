-- How errors of the outside go up.
use Rattle.ssq_outside.specs.declared.disk.DiskError.{DiskError}
use Rattle.ssq_outside.specs.declared.disk.DiskError.TheVariants as disk
use Rattle.ssq_outside.specs.declared.disk.StageError.{StageError}
use Rattle.ssq_outside.specs.declared.disk.StageError.TheVariants as stage

-- a fault of a staged file is a fault of its disk
abbrev pub error_of_stage : StageError → DiskError
error_of_stage stage.Fault = disk.Fault
error_of_stage stage.NoMemory = disk.NoMemory
