-- What an opening found of a job's checkpoint, and where the round of a desk begins on it.
use Rattle.std.specs.Prelude.{◌≡◌, ◌⊎◌, ◌<◌, nat_lt, ℕ, Bool, false, [], length, get_or, slice_get, Option, IfSome}
use Rattle.ssq_outside.specs.History.{History, files_now}
use Rattle.ssq_outside.specs.Files.{Files}
use Rattle.ssq_shape.specs.declared.bound.Bound.{Bound}
use Rattle.ssq_plans.specs.declared.plan.Plan.{Plan}
use Rattle.ssq_core.specs.Course.{Job, plan_of}
use Rattle.ssq_course.specs.Setting.{Setting, state_at, job_of}
use Rattle.ssq_task.specs.declared.partition.Held.{Held}
use Rattle.ssq_task.specs.Reducing.{IsIndexed}
use Rattle.ssq_open.specs.declared.wanted.Lens.{Lens}
use Rattle.ssq_open.specs.declared.wanted.Opened.{Opened}
use Rattle.ssq_open.specs.Lens.{asked, found_from}
use Rattle.ssq_open.specs.Sought.{Sought}
use Rattle.ssq_open.specs.Epochs.{starts, cut_of, last_ends}
use Rattle.ssq_open.specs.Opening.{IsOpen}
use Rattle.ssq_open.specs.Stateful.{keeping_of}
use Rattle.ssq_open.specs.Stores.{AreStores}
use Rattle.ssq_open.specs.Jobs.{IsWantedJob, IsDeskOf, HoldStates}
use Rattle.ssq_board.specs.Core.{Scope}
use Rattle.ssq_board.specs.Shown.{Start}
use Rattle.ssq_board.specs.Follows.{Terms}
use Rattle.ssq_board.specs.Laws.{IsOpenedAt}
use Rattle.ssq_terms.specs.Setting.{IsSettingOf, AreFound, found_lines}
use Rattle.ssq_terms.specs.Laws.{due_at, IsScopeOf}
use Rattle.ssq_terms.specs.Partitions.{HoldsStateOf, HoldsPartition, store_of}

-- What was found is what the job's files hold of the epochs so far: each plan, and the greatest times over the committed epochs. Where none
-- is committed, no times are found.
pub record IsJobsFound (s : Sought) (job : Job) (files : Files) (found : Opened) (of : IsDeskOf s job files found) : Type 0 where
  pub plans : (e : ℕ) (default : Plan) → e < length found.plans → get_or found.plans e default ≡ plan_of (job.course of.desk.cuts) e
  pub seen : ((found.committed ≡ 0) × (found.seen ≡ [])) ⊎ (found.seen ≡ (job.course of.desk.cuts).seen found.committed)

abbrev pub FoundIsJobs : Type 0
FoundIsJobs = (s : Sought) (job : Job) (files : Files) (now : History) (found : Opened) → IsWantedJob s job → IsOpen s files now found
    → (of : IsDeskOf s job (files_now now) found) → IsJobsFound s job (files_now now) found of

-- Where a round begins on what was found: with the epochs that are committed, and the one that is planned and not committed, if one is; and
-- with whether one without lines is due.
abbrev pub start_of : Lens → Opened → Bool → Start
start_of lens found due = record {
  committed = found.committed;
  is_planned = nat_lt found.committed (length found.plans);
  from = cut_of (starts (found_from 0 lens.streams)) found.plans found.committed;
  to = last_ends (starts (found_from 0 lens.streams)) found.plans;
  due = due;
}

abbrev pub DeskOpensAsFound : Type 0
DeskOpensAsFound = (s : Setting) (bound : Bound) (partitions : Option ℕ) (lens : Lens) (r : Scope) (files : Files) (found : Opened) (due : Bool) → IsSettingOf s bound partitions lens → AreFound (found_lines lens) s.lines → IsScopeOf r s lens
    → (terms : Terms (job_of s) r (due_at s)) → terms.start ≡ starts (found_from 0 lens.streams) → (of : IsDeskOf (asked bound partitions lens) (job_of s) files found)
    → (nat_lt found.committed (length found.plans) ≡ false → due ≡ due_at s of.desk.cuts found.committed) → IsOpenedAt (job_of s) r (due_at s) terms (start_of lens found due) of.desk

-- The stores that were found, at the last committed epoch and with the job's states, are those from which the partitions go on: of each the
-- one at its place, and none beyond those that keep state.
abbrev pub StoresHoldStates : Type 0
StoresHoldStates = (s : Setting) (bound : Bound) (partitions : Option ℕ) (lens : Lens) (files : Files) (found : Opened) → IsSettingOf s bound partitions lens → s.job.partitions ≡ found.meta.partitions
    → AreStores (keeping_of bound.shape found.meta.partitions) found.committed found.stores → HoldStates (asked bound partitions lens) (state_at s) found
    → (of : IsDeskOf (asked bound partitions lens) (job_of s) files found) → (p : ℕ) → HoldsStateOf s of.desk.cuts found.committed p (slice_get found.stores p)

-- Each of them with the index that is made of what it keeps is what its partition holds where the round begins; and a partition without a store
-- holds nothing.
abbrev pub PartitionsBegin : Type 0
PartitionsBegin = (s : Setting) (bound : Bound) (partitions : Option ℕ) (lens : Lens) (files : Files) (found : Opened) → IsSettingOf s bound partitions lens → s.job.partitions ≡ found.meta.partitions
    → AreStores (keeping_of bound.shape found.meta.partitions) found.committed found.stores → HoldStates (asked bound partitions lens) (state_at s) found
    → (of : IsDeskOf (asked bound partitions lens) (job_of s) files found) → (p : ℕ) (held : Option Held) → store_of held ≡ slice_get found.stores p → IfSome held (IsIndexed bound)
    → HoldsPartition s of.desk.cuts found.committed p held
