-- How a look at the checkpoint of a query ends.
use Rattle.std.specs.Prelude.{◌≡◌, ℕ, List, [], Option, Some, None}
use Rattle.ssq_outside.specs.Files.{Files, IsEmpty}
use Rattle.ssq_shape.specs.declared.bound.Bound.{Bound}
use Rattle.ssq_core.specs.Course.{Job}
use Rattle.ssq_core.specs.Sound.{StandsOrEmpty}
use Rattle.ssq_open.specs.declared.fault.OpenFault.{OpenFault}
use Rattle.ssq_open.specs.declared.wanted.Opened.{Opened}
use Rattle.ssq_open.specs.Jobs.{IsWantedJob}
use Rattle.ssq_open.specs.Looking.{query_of, Holds, IsDenied, IsLookedFor}
use Rattle.ssq_open.specs.Opening.{IsOutside}
use Rattle.ssq_open.specs.Sought.{Sought}
use Rattle.ssq_run.specs.declared.stop.Stop.{Stop}
use Rattle.ssq_run.specs.declared.stop.Stop.TheVariants.{NoMemory}
use Rattle.ssq_run.specs.Stopping.{stop_of_open}
use Rattle.ssq_run.specs.Lines.{status_text, no_checkpoint}

-- No file is there; or the checkpoint meets every check of the job's record, the plans and the commits, and it is told what it
-- holds; or it is denied, which is for a fault of the outside alone where it stands for a job of the query; or memory ran out. Then
-- nothing is told.
pub data LookEnd (bound : Bound) (files : Files) (told : List ℕ) (stop : Option Stop) : Type 0 where
  nothing_there : IsEmpty files → told ≡ no_checkpoint → stop ≡ None → LookEnd bound files told stop
  shown : (found : Opened) → Holds (query_of bound) files found → told ≡ status_text found → stop ≡ None → LookEnd bound files told stop
  denied : (why : OpenFault) → IsDenied (query_of bound) files why → ((s : Sought) (job : Job) → IsLookedFor (query_of bound) s → IsWantedJob s job → StandsOrEmpty job files → IsOutside why)
      → told ≡ [] → stop ≡ Some (stop_of_open bound.streams why) → LookEnd bound files told stop
  starved : told ≡ [] → stop ≡ Some NoMemory → LookEnd bound files told stop
