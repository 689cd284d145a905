-- How the result of an out task is taken.
use Rattle.std.specs.Prelude.{◌≡◌, ℕ, Bool, true, false, List, [], ◌∷◌, Option, None, Result, OnOk, IfErr}
use Rattle.ssq_outside.specs.History.{History}
use Rattle.ssq_outside.specs.declared.name.Name.TheVariants as name
use Rattle.ssq_outside.specs.declared.gate.TaskId.{TaskId}
use Rattle.ssq_meaning.specs.Meaning.{Line}
use Rattle.ssq_task.specs.declared.out.GatherFault.{GatherFault}
use Rattle.ssq_task.specs.declared.stages.Remnant.{Remnant}
use Rattle.ssq_core.specs.Course.{truth}
use Rattle.ssq_course.specs.Setting.{course_of}
use Rattle.ssq_board.specs.declared.front.Cause.{Cause}
use Rattle.ssq_board.specs.declared.front.Cause.TheVariants as cause
use Rattle.ssq_board.specs.declared.front.Entry.TheVariants as entry
use Rattle.ssq_board.specs.Core.{due}
use Rattle.ssq_ledger.specs.Shown.{Shown, cuts_of, did, answer}
use Rattle.ssq_desk.specs.declared.desk.Pending.{Pending}
use Rattle.ssq_desk.specs.declared.round.Round.{Round}
use Rattle.ssq_desk.specs.Round.{setting_of, Owns}
use Rattle.ssq_desk.specs.Contents.{IsPending}
use Rattle.ssq_desk.specs.Results.{cause_of_gather}
use Rattle.ssq_desk.specs.Whole.{opening_in}

-- the cause of an out task that left its files
abbrev pub cause_of_left : {S F : Type 0} → GatherFault × Remnant S F → Cause
cause_of_left failed = cause_of_gather failed.0

-- the out task brought its files and the desk runs: its rows are published
abbrev pub brings : Option Cause → Option Cause → Bool
brings None None = true
brings _ fault = false

module _ {D O : Type 0} where
  -- How the result of an out task is taken. Where it brought its files and the desk runs, the rows are published after its report, or the
  -- disk failed at that; else there is its report alone, with the Stop that it brings about.
  abbrev pub IsOut : Bool → Shown D O → Shown D O → TaskId → Option Cause → Result (Unit {0}) Cause → Type 0 → Type 0
  IsOut true s n t fault result risen = OnOk result (n ≡ did s n.disk (entry.Report t fault ∷ entry.OutFile s.core.front.committed ∷ []))
      × IfErr result (λ stop. (stop ≡ cause.DiskFault) × (n ≡ did s n.disk (entry.Report t fault ∷ entry.Stop stop ∷ [])) × risen)
  IsOut false s n t fault result risen = (n ≡ did s n.disk (entry.Report t fault ∷ [])) × (result ≡ answer (due s.core t fault))

module _ {D L F : Type 0} (stores logs : Type 0) (history : D → History) (lines : L → List Line) (sealed : F → List ℕ) where
  -- a sealed file has the rows of the epoch that a desk runs
  abbrev pub AreRowsOf : Shown D (Round L) → F → Type 0
  AreRowsOf shown file = Owns stores logs history lines shown → sealed file ≡ truth (course_of (setting_of lines shown.opening) (cuts_of (opening_in lines) shown)) (name.Out shown.core.front.committed)

  -- and this is its commit
  abbrev pub IsCommitOf : Shown D (Round L) → Pending F → Type 0
  IsCommitOf shown pending = IsPending (Owns stores logs history lines shown) sealed (setting_of lines shown.opening) (cuts_of (opening_in lines) shown) shown.core.front.committed pending
