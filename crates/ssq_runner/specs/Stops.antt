-- Why a round that is not the first does not begin.
use Rattle.std.specs.Prelude.{◌≡◌, ℕ, nat_lt, length, List, [], ◌∷◌, Option, Some, None, if◌then◌else◌}
use Rattle.ssq_outside.specs.Logs.{Line}
use Rattle.ssq_plans.specs.declared.part.PartEnd.{PartEnd}
use Rattle.ssq_board.specs.declared.front.Cause.{Cause}
use Rattle.ssq_board.specs.declared.front.Cause.TheVariants as cause
use Rattle.ssq_open.specs.declared.wanted.Opened.{Opened}
use Rattle.ssq_open.specs.Epochs.{cut_of}
use Rattle.ssq_logs.specs.declared.fault.LengthFault.{LengthFault}
use Rattle.ssq_logs.specs.Asked.{AreAsked, IsStopped}
use Rattle.ssq_runner.specs.declared.fault.RunFault.{RunFault}
use Rattle.ssq_runner.specs.declared.fault.RunFault.TheVariants as fault

-- the first part that has fewer lines than are planned of it
abbrev pub short_of : List PartEnd → List ℕ → Option Cause
short_of [] found = None
short_of (end ∷ ends) [] = None
short_of (end ∷ ends) (lines ∷ found) = if nat_lt lines end.end then Some (cause.LogShort end.stream end.part end.end lines) else short_of ends found

-- where the planned epochs end; nothing where none is planned
abbrev pub planned_ends : Opened → List PartEnd
planned_ends found = cut_of [] found.plans (length found.plans)

module _ {L : Type 0} (tells : Type 0) (lines : L → List Line) (available : L → ℕ) (answers : L → List ℕ) (faults : L → ℕ) where
  -- The lines were not counted; or they were, and a part has fewer than are planned.
  pub data IsUnready (opened : Opened) (before after : List L) (why : RunFault) : Type 0 where
    uncounted : (cause : LengthFault) → why ≡ fault.Lines cause → IsStopped tells lines available answers faults 0 before after cause → IsUnready opened before after why
    short : (found : List ℕ) (stop : Cause) → AreAsked tells lines available answers faults before after found → short_of (planned_ends opened) found ≡ Some stop → why ≡ fault.Round stop → IsUnready opened before after why
