-- The job that a checkpoint is opened for, and the desk that an opening gives.
use Rattle.std.specs.Prelude.{◌≡◌, ◌<◌, ◌≤◌, ◌+◌, ◌^◌, ℕ, true, [], length, get_or, None, IsTrue}
use Rattle.ssq_outside.specs.Files.{Files, IsEmpty}
use Rattle.ssq_plans.specs.Records.{IsMetaRecord, IsPlan, IsCommit}
use Rattle.ssq_version.specs.State.{State, IsState, between}
use Rattle.ssq_version.specs.Text.{delta_text, snapshot_text}
use Rattle.ssq_store.specs.declared.store.Store.{Store}
use Rattle.ssq_core.specs.Course.{Course, Cuts, Job, IsCausal, plan_of, commit_of}
use Rattle.ssq_core.specs.Standing.{Stands}
use Rattle.ssq_core.specs.Machine.{Desk, opened}
use Rattle.ssq_core.specs.Sound.{AreProper}
use Rattle.ssq_open.specs.declared.wanted.Opened.{Opened}
use Rattle.ssq_open.specs.Sought.{Sought, IsJob}
use Rattle.ssq_open.specs.Watermarks.{has_lines, mark_by}
use Rattle.ssq_open.specs.Epochs.{starts, follows, cut_of}
use Rattle.ssq_open.specs.Stateful.{keeping_in}
use Rattle.ssq_open.specs.Opening.{first_meta, first_short}

-- The job is the one that is wanted. Its files say: for any cuts one record, which is that of the job that is wanted; where the cuts are
-- proper, plans and commits that can be written, with the parts that were found, which begin at 0 and do not fall; a line for each
-- watermarked stream in each commit; and in each plan the watermark that the commit before it gives. As many of the record's partitions
-- keep state as the query that is wanted says.
pub record IsWantedJob (s : Sought) (job : Job) : Type 0 where
  pub causal : IsCausal job
  pub record_is : (cuts : Cuts) → IsMetaRecord (job.course cuts).meta
  pub wanted : (cuts : Cuts) → IsJob s (job.course cuts).meta
  pub one_record : (cuts other : Cuts) → (job.course cuts).meta ≡ (job.course other).meta
  pub keeping : (cuts : Cuts) → (job.course cuts).keeping ≡ keeping_in s.keeps (job.course cuts).meta.partitions
  pub ends : (cuts : Cuts) (e : ℕ) → (job.course cuts).ends e ≡ cuts e
  pub start : (cuts : Cuts) (e : ℕ) → job.is_next cuts e ≡ true → cuts 0 ≡ starts s.found
  pub follow : (cuts : Cuts) (e : ℕ) → job.is_next cuts e ≡ true → IsTrue (follows (cuts e) (cuts (e + 1)))
  pub plans : (cuts : Cuts) (n e : ℕ) → AreProper job cuts n → n ≤ 4294967295 → e < n → IsPlan (plan_of (job.course cuts) e)
  pub commits : (cuts : Cuts) (n e : ℕ) → AreProper job cuts n → n ≤ 4294967295 → e < n → IsCommit (commit_of (job.course cuts) e)
  pub lines : (cuts : Cuts) (e : ℕ) → IsTrue (has_lines s.streams ((job.course cuts).seen (e + 1)))
  pub first_mark : (cuts : Cuts) → (job.course cuts).watermark 0 ≡ None
  pub next_mark : (cuts : Cuts) (e : ℕ) → (job.course cuts).watermark (e + 1) ≡ mark_by s.streams ((job.course cuts).seen (e + 1))

-- The checkpoint is the job's: it is empty, and the job's record is the one that a new checkpoint gets; or it stands for the job, and
-- of each part as many lines are found as are planned.
pub data IsJobs (s : Sought) (job : Job) (files : Files) : Type 0 where
  is_empty : IsEmpty files → ((cuts : Cuts) → (job.course cuts).meta ≡ first_meta s) → IsJobs s job files
  stands : (is : Stands job files) → first_short (is.cuts is.planned) s.found ≡ None → IsJobs s job files

-- A desk opens on these files with what is found: with its cuts, and with as many planned and committed epochs.
pub record IsDeskOf (s : Sought) (job : Job) (files : Files) (found : Opened) : Type 0 where
  pub desk : Desk
  pub is : opened job files desk
  pub cuts : desk.cuts ≡ cut_of (starts s.found) found.plans
  pub planned : desk.planned ≡ length found.plans
  pub committed : desk.committed ≡ found.committed

-- the states of a job's partitions, for any cuts: of each its state after the first so many epochs
abbrev pub States : Type 0
States = Cuts → ℕ → ℕ → State

-- What epoch v leaves of a partition: its files say how the state after it differs from the one before it, and what that state is. Both files
-- can be written.
pub record IsVersion (course : Course) (p v : ℕ) (before after : State) : Type 0 where
  pub was_kept : IsState before
  pub is_kept : IsState after
  pub few : length after < 2 ^ 64
  pub few_changes : length (between before after) < 2 ^ 64
  pub change : course.delta p v ≡ delta_text p v (between before after)
  pub whole : course.state p (v + 1) ≡ snapshot_text p v after

-- These are the states of a job's partitions: each is empty before the first epoch, and where the cuts are proper, the files of each version
-- of a partition that keeps state are those of its states before and after it.
pub record AreStates (job : Job) (states : States) : Type 0 where
  pub first : (cuts : Cuts) (p : ℕ) → states cuts p 0 ≡ []
  pub versions : (cuts : Cuts) (n p v : ℕ) → AreProper job cuts n → n ≤ 4294967295 → v < n → p < (job.course cuts).keeping
      → IsVersion (job.course cuts) p v (states cuts p v) (states cuts p (v + 1))

-- The stores that were found hold these states, by the cuts of the plans: each partition that keeps state has its state after the committed
-- epochs.
pub record HoldStates (s : Sought) (states : States) (found : Opened) : Type 0 where
  pub each : (p : ℕ) (default : Store) → p < keeping_in s.keeps found.meta.partitions
      → (get_or found.stores p default).state ≡ states (cut_of (starts s.found) found.plans) p found.committed
