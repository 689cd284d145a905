-- What the tasks of an epoch bring, put together.
use Rattle.std.specs.Prelude.{◌≡◌, ◌≤◌, ◌+◌, ℕ, ℤ, List, [], length, Option, None}
use Rattle.std.specs.List.Sorted.{IsPermutation}
use Rattle.ssq_shape.specs.declared.bound.Bound.{Bound}
use Rattle.ssq_meaning.specs.FedRows.{FedRow}
use Rattle.ssq_meaning.specs.Meaning.{Values}
use Rattle.ssq_meaning.specs.Parts.{Part}
use Rattle.ssq_meaning.specs.Cut.{Cut, of_parts}
use Rattle.ssq_meaning.specs.Cut.{Cuts as Offsets}
use Rattle.ssq_meaning.specs.Times.{later}
use Rattle.ssq_meaning.specs.Feeding.{fed_in, time_in, fault_in}
use Rattle.ssq_meaning.specs.Epochs.{joined, fed_between, time_between, seen, bucket, out}
use Rattle.ssq_sink.specs.Sink.{sink_text}
use Rattle.ssq_core.specs.Course.{Cuts}
use Rattle.ssq_course.specs.Setting.{Setting, parts_in, cuts_of, rows_at, partition_out}
use Rattle.ssq_course.specs.Laws.{AreShownApart}

-- what the lines of a part feed to a partition in an epoch
abbrev pub bucket_in : Bound → (epoch partitions p : ℕ) → Part → (from to : ℕ) → List FedRow
bucket_in query epoch partitions p part from to = bucket partitions p (fed_in query epoch part from to)

-- a partition is fed the rows of each part, part by part in order
abbrev pub PartsFeedPartitions : Type 0
PartsFeedPartitions = (query : Bound) (epoch : ℕ) (parts : List Part) (froms tos : Cut) (partitions p : ℕ) → joined (of_parts (bucket_in query epoch partitions p) parts froms tos) ≡ bucket partitions p (fed_between query epoch parts froms tos)

-- a part without lines in an epoch feeds nothing, and has no time and no fault
pub record IsQuiet (query : Bound) (part : Part) (from to : ℕ) : Type 0 where
  pub rows : (epoch : ℕ) → fed_in query epoch part from to ≡ []
  pub time : time_in query part from to ≡ None
  pub fault : fault_in query part from to ≡ None

abbrev pub PartsWithoutLinesAreQuiet : Type 0
PartsWithoutLinesAreQuiet = (query : Bound) (part : Part) (from to : ℕ) → to ≤ from → IsQuiet query part from to

-- a reduce task of a partition showed these rows: those of the partition, in any order
abbrev pub IsShownOf : Setting → Cuts → (e p : ℕ) → List Values → Type 0
IsShownOf s cuts e p rows = IsPermutation rows (partition_out s cuts e p)

-- of each partition, in order, the rows that its task showed
abbrev pub AreShown : Setting → Cuts → (e : ℕ) → List (List Values) → Type 0
AreShown s cuts e shown = AreShownApart s cuts e shown

-- their text is that of the epoch's sink file
abbrev pub PartitionsShowRows : Type 0
PartitionsShowRows = (s : Setting) (cuts : Cuts) (e : ℕ) (shown : List (List Values)) → 1 ≤ s.job.partitions → AreShown s cuts e shown
    → sink_text s.job.bound (joined shown) ≡ rows_at s cuts e

-- and there are as many as the epoch shows
abbrev pub PartitionsCountRows : Type 0
PartitionsCountRows = (s : Setting) (cuts : Cuts) (e : ℕ) (shown : List (List Values)) → 1 ≤ s.job.partitions → AreShown s cuts e shown
    → length (joined shown) ≡ length (out s.job.bound (parts_in s) (cuts_of cuts) e)

-- the greatest time of a stream that was known, and that of an epoch's lines, give the greatest at the end of the epoch
abbrev pub LinesRaiseTimes : Type 0
LinesRaiseTimes = (query : Bound) (parts : List Part) (cuts : Offsets) (e stream : ℕ) (known : Option ℤ) → known ≡ seen query parts cuts stream e
    → later known (time_between query parts (cuts e) (cuts (e + 1)) stream) ≡ seen query parts cuts stream (e + 1)
