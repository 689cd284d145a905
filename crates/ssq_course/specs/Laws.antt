-- What holds of the job of each query.
use Rattle.std.specs.Prelude.{◌≡◌, ◌<◌, ◌≤◌, ◌+◌, ◌^◌, ℕ, List, [], All, get_or, length, true}
use Rattle.std.specs.List.Sorted.{IsPermutation}
use Rattle.std.specs.Option.{ForSome}
use Rattle.ssq_time.specs.Time.{IsStampTime}
use Rattle.ssq_meaning.specs.Epochs.{joined, out}
use Rattle.ssq_meaning.specs.Meaning.{Values}
use Rattle.ssq_meaning.specs.Parts.{Part}
use Rattle.ssq_outside.specs.Files.{Files}
use Rattle.ssq_plans.specs.Records.{meta_text, plan_text, commit_text, IsPlan}
use Rattle.ssq_core.specs.Course.{Course, Cuts, plan_of, commit_of, IsCausal}
use Rattle.ssq_core.specs.Standing.{StandsAt}
use Rattle.ssq_course.specs.Setting.{Setting, cuts_of, parts_in, watermark_at, rows_at, partition_out, course_of, job_of}
use Rattle.ssq_sink.specs.Sink.{sink_text}

-- what its files hold of the first epochs hangs on where these end, and an epoch has a fault only where one of its tasks has
abbrev pub AreCausal : Type 0
AreCausal = (s : Setting) → 1 ≤ s.job.partitions → IsCausal (job_of s)

-- Files that stand for two courses say of both the same: how many epochs are planned and committed, the record of the job, each plan and
-- each commit; and where the plans can be written, each end and watermark.
pub record AreSame (one other : Course) (n k m l : ℕ) : Type 0 where
  pub planned : n ≡ m
  pub committed : k ≡ l
  pub meta : meta_text one.meta ≡ meta_text other.meta
  pub plans : (e : ℕ) → e < n → plan_text (plan_of one e) ≡ plan_text (plan_of other e)
  pub commits : (e : ℕ) → e < k → commit_text (commit_of one e) ≡ commit_text (commit_of other e)
  pub ends : (e : ℕ) → e < n → IsPlan (plan_of one e) → IsPlan (plan_of other e) → one.ends (e + 1) ≡ other.ends (e + 1)
  pub watermarks : (e : ℕ) → e < n → IsPlan (plan_of one e) → IsPlan (plan_of other e) → one.watermark e ≡ other.watermark e

abbrev pub FilesSayTheirCourse : Type 0
FilesSayTheirCourse = (one other : Course) (n k m l : ℕ) (files : Files) → StandsAt one n k files → StandsAt other m l files → AreSame one other n k m l

-- the numbers of a part can be written: its place has 32 bits
abbrev pub IsFit : Part → Type 0
IsFit part = (part.stream < 2 ^ 32) × (part.part < 2 ^ 32)

-- The plan of an epoch that may follow those before it can be written, where its number has 32 bits, its watermark is none or of the
-- years 0001 to 9999, and the numbers of the parts can be written.
abbrev pub PlansCanBeWritten : Type 0
PlansCanBeWritten = (s : Setting) (cuts : Cuts) (e : ℕ) → All IsFit (parts_in s) → (job_of s).is_next cuts e ≡ true → e < 2 ^ 32 → ForSome (watermark_at s cuts e) IsStampTime
    → IsPlan (plan_of (course_of s cuts) e)

-- Of each partition, in order, the rows that it shows of an epoch, in any order.
pub record AreShownApart (s : Setting) (cuts : Cuts) (e : ℕ) (shown : List (List Values)) : Type 0 where
  pub count : length shown ≡ s.job.partitions
  pub each : (p : ℕ) → p < s.job.partitions → IsPermutation (get_or shown p []) (partition_out s cuts e p)

-- Put together they are the rows of the epoch, and their text is that of its sink file.
pub record AreShownTogether (s : Setting) (cuts : Cuts) (e : ℕ) (shown : List (List Values)) : Type 0 where
  pub rows : IsPermutation (joined shown) (out s.job.bound (parts_in s) (cuts_of cuts) e)
  pub text : sink_text s.job.bound (joined shown) ≡ rows_at s cuts e

abbrev pub PartitionsShowRows : Type 0
PartitionsShowRows = (s : Setting) (cuts : Cuts) (e : ℕ) (shown : List (List Values)) → 1 ≤ s.job.partitions → AreShownApart s cuts e shown → AreShownTogether s cuts e shown
