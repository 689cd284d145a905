-- What is so of every desk.
use Rattle.std.specs.Prelude.{◌≡◌, ◌<◌, ◌≤◌, ◌+◌, ◌++◌, ℕ, ℤ, true, List, [], All, IsTrue, length, get_or, vec_capacity, Option, Some}
use Rattle.std.specs.Option.{ForSome}
use Rattle.ssq_outside.specs.History.{History}
use Rattle.ssq_time.specs.Time.{IsStampTime}
use Rattle.ssq_meaning.specs.Meaning.{Line}
use Rattle.ssq_plans.specs.declared.plan.Plan.{Plan}
use Rattle.ssq_feed.specs.Causes.{LogWent}
use Rattle.ssq_task.specs.declared.partition.Held.{Held}
use Rattle.ssq_core.specs.Course.{Cuts, plan_of}
use Rattle.ssq_course.specs.Setting.{Setting, parts_in, first_ends, course_of}
use Rattle.ssq_open.specs.declared.wanted.Opened.{Opened}
use Rattle.ssq_open.specs.Epochs.{follows}
use Rattle.ssq_ledger.specs.Shown.{Shown, Opening, cuts_of}
use Rattle.ssq_desk.specs.declared.round.Round.{Round}
use Rattle.ssq_board.specs.declared.front.Cause.TheVariants as cause
use Rattle.ssq_board.specs.Core.{Core, is_open}
use Rattle.ssq_desk.specs.declared.desk.Kept.{Kept}
use Rattle.ssq_desk.specs.declared.desk.Load.{Load}
use Rattle.ssq_desk.specs.declared.desk.PartLog.{PartLog}
use Rattle.ssq_desk.specs.declared.desk.Share.{Share}
use Rattle.ssq_desk.specs.declared.desk.OutWork.{OutWork}
use Rattle.ssq_desk.specs.declared.desk.Pending.{Pending}
use Rattle.ssq_desk.specs.Round.{setting_of, opening_of, IsRound, Owns}
use Rattle.ssq_desk.specs.Closing.{AreTold, HasFaulty}
use Rattle.ssq_desk.specs.Contents.{Holds, keeping_in}
use Rattle.ssq_desk.specs.Tasks.{IsViewOf}

-- These are the plans of all planned epochs: those that were opened, and the others after them. Their lines end where the cuts say, which
-- begin where the parts do and do not fall; and their watermarks can be printed.
pub record ArePlans (owned : Type 0) (opened : List Plan) (s : Setting) (cuts : Cuts) (planned : ℕ) (plans : List Plan) : Type 0 where
  pub count : length plans ≡ planned
  pub on : (more : List Plan) × (plans ≡ opened ++ more)
  pub begins : cuts 0 ≡ first_ends s
  pub follow : (e : ℕ) → e < planned → IsTrue (follows (cuts e) (cuts (e + 1)))
  pub ends : (e : ℕ) (default : Plan) → e < planned → (get_or plans e default).ends ≡ cuts (e + 1)
  pub marks : All (λ plan. ForSome plan.watermark IsStampTime) plans
  pub each : owned → (e : ℕ) (default : Plan) → e < planned → get_or plans e default ≡ plan_of (course_of s cuts) e

-- What is kept for the end of a round: what was opened of the job, and room for the greatest times, the logs, the stores and
-- their indexes.
pub record IsKept {L : Type 0} (s : Setting) (opened : Opened) (kept : Kept L) : Type 0 where
  pub meta_is : kept.meta ≡ opened.meta
  pub no_lines : kept.lines.items ≡ []
  pub lines_room : length s.job.bound.streams ≤ vec_capacity kept.lines
  pub no_logs : kept.logs.items ≡ []
  pub logs_room : length (parts_in s) ≤ vec_capacity kept.logs
  pub no_stores : kept.stores.items ≡ []
  pub stores_room : keeping_in s ≤ vec_capacity kept.stores
  pub no_closings : kept.closings.items ≡ []
  pub closings_room : keeping_in s ≤ vec_capacity kept.closings

-- what the ledger of a round opened
abbrev pub opening_in : {L : Type 0} → (L → List Line) → Round L → Opening
opening_in lines round = opening_of (setting_of lines round) round.opened

module _ {D L S F : Type 0} (stores logs : Type 0) (history : D → History) (lines : L → List Line) (available : L → ℕ) (answers : L → List ℕ) (faults : L → ℕ) (written : S → List ℕ) (sealed : F → List ℕ) where
  -- what the desk of a round holds, with these cuts
  abbrev pub HoldsIn : Shown D (Round L) → Cuts → Core → List (PartLog L) → List (Share S) → List (Option Held) → Option (OutWork S F) → List (Option ℤ) → Option (Pending F) → Type 0
  HoldsIn shown cuts core part_logs shares held out times pending =
      Holds (stores × logs) (Owns stores logs history lines shown) lines available (LogWent logs lines available answers faults) shown.opening.logs.items written sealed (setting_of lines shown.opening) cuts shown.scope.available core
      part_logs shares held out times pending

  -- What was opened is in order, the load is that of the ledger, and it has the plans of all planned epochs. What is said of lines, and of
  -- what map tasks bring, holds where disk and logs tell what they hold; all else that is said of contents, where also what was opened is
  -- the job's own; and counts hold on any disk.
  pub record IsWhole (shown : Shown D (Round L)) (load : Load L S F) : Type 0 where
    pub round : IsRound (setting_of lines shown.opening) shown.opening.opened shown.scope
    pub view : IsViewOf (setting_of lines shown.opening) load.view
    pub holds : HoldsIn shown (cuts_of (opening_in lines) shown) shown.core load.part_logs.items load.shares.items load.held.items load.out load.seen load.pending
    pub plans : ArePlans (Owns stores logs history lines shown) shown.opening.opened.plans (setting_of lines shown.opening) (cuts_of (opening_in lines) shown) shown.core.front.planned load.plans.items
    -- each epoch that was committed is told, and there is room for the one that runs
    pub told : AreTold (Owns stores logs history lines shown) (setting_of lines shown.opening) (cuts_of (opening_in lines) shown) shown.opening.opened.committed shown.core.front.committed load.told.items
    pub told_room : is_open shown.core ≡ true → length load.told.items < vec_capacity load.told
    -- where a log stopped it, that log counts a fault
    pub faulty : shown.core.front.stop ≡ Some cause.LogFault → HasFaulty faults shown.core.maps load.part_logs.items
    pub kept : IsKept (setting_of lines shown.opening) shown.opening.opened load.kept
