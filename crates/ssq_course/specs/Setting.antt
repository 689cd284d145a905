-- What the files of a query's checkpoint hold, epoch by epoch: the job of a query over its logs.
use Rattle.std.specs.Prelude.{◌+◌, ◌-◌, ◌&&◌, ◌||◌, ◌==◌, nat_lt, nat_le, ℕ, zero, suc, ℤ, Bool, true, false, List, [], ◌∷◌, map, get_or, length, slice_get, Option, Some, None, is_some}
use Rattle.ssq_outside.specs.declared.gate.Kind.{Kind}
use Rattle.ssq_outside.specs.declared.gate.Kind.TheVariants as kind
use Rattle.ssq_shape.specs.declared.bound.Bound.{Bound}
use Rattle.ssq_shape.specs.declared.bound.Shape.{Shape}
use Rattle.ssq_shape.specs.declared.bound.Shape.TheVariants.{Plain, Group, Dedup, Join}
use Rattle.ssq_shape.specs.declared.bound.Job.{Job as Query}
pub use Rattle.ssq_shape.specs.Late.{closes}
use Rattle.ssq_meaning.specs.Meaning.{Line, Values}
use Rattle.ssq_meaning.specs.Parts.{Part, parts_of}
use Rattle.ssq_meaning.specs.Cut.{Cut}
use Rattle.ssq_meaning.specs.Cut.{Cuts as Offsets}
use Rattle.ssq_meaning.specs.Times.{delays, is_above}
use Rattle.ssq_meaning.specs.Feeding.{fault_in}
use Rattle.ssq_meaning.specs.Operator.{operator_of}
use Rattle.ssq_meaning.specs.Epochs.{seen, watermark, watermark_before, accepted, on_time, bucket, out, fault, state}
use Rattle.ssq_plans.specs.declared.meta.Meta.{Meta}
use Rattle.ssq_plans.specs.declared.part.PartEnd.{PartEnd}
use Rattle.ssq_plans.specs.declared.seen.SeenBy.{SeenBy}
use Rattle.ssq_version.specs.State.{State, between}
use Rattle.ssq_version.specs.Text.{delta_text, snapshot_text}
use Rattle.ssq_sink.specs.Sink.{sink_text}
use Rattle.ssq_core.specs.Course.{Ends, Course, Cuts, Job}
use Rattle.ssq_logs.specs.Asked.{most_lines}

-- A query, with how its work is divided, over its logs: of each part in order all the lines that it will come to hold.
pub record Setting : Type 0 where
  pub job : Query
  pub lines : List (List Line)

-- the parts of all streams, in order
abbrev pub parts_in : Setting → List Part
parts_in s = parts_of s.job.parts s.lines

-- the record of the job
abbrev pub meta_of : Setting → Meta
meta_of s = record { partitions = s.job.partitions; parts = s.job.parts; query = s.job.bound.text }

-- a part with an end
abbrev pub end_at : Part → ℕ → PartEnd
end_at part end = record { stream = part.stream; part = part.part; end = end }

-- each part with end 0
abbrev pub first_ends : Setting → Ends
first_ends s = map (λ part. end_at part 0) (parts_in s)

-- how many lines of each part
abbrev pub cut_of : Ends → Cut
cut_of ends = map (λ end. end.end) ends

abbrev pub cuts_of : Cuts → Offsets
cuts_of cuts = λ e. cut_of (cuts e)

-- the watermark of an epoch, by the epochs before it
abbrev pub watermark_at : Setting → Cuts → ℕ → Option ℤ
watermark_at s cuts e = watermark s.job.bound (parts_in s) (cuts_of cuts) e

-- of each watermarked stream, in order, the greatest event time over the first e epochs
abbrev pub seen_at : Setting → Cuts → ℕ → List SeenBy
seen_at s cuts e = map (λ stream. record { stream = stream.0; time = seen s.job.bound (parts_in s) (cuts_of cuts) stream.0 e }) (delays s.job.bound)

-- the text of the sink file of an epoch
abbrev pub rows_at : Setting → Cuts → ℕ → List ℕ
rows_at s cuts e = sink_text s.job.bound (out s.job.bound (parts_in s) (cuts_of cuts) e)

-- whether an epoch has a fault
abbrev pub is_faulty_at : Setting → Cuts → ℕ → Bool
is_faulty_at s cuts e = is_some (fault s.job.bound (parts_in s) (cuts_of cuts) e)

-- How many partitions keep state: of a query that keeps nothing none, of any other each.
abbrev pub keeping_of : Shape → ℕ → ℕ
keeping_of Plain partitions = 0
keeping_of (Group grouping) partitions = partitions
keeping_of (Dedup columns) partitions = partitions
keeping_of (Join joining) partitions = partitions

-- the state of a partition after the first e epochs
abbrev pub state_at : Setting → Cuts → (p e : ℕ) → State
state_at s cuts p e = state s.job.bound (parts_in s) (cuts_of cuts) s.job.partitions p e

-- the file of that state, whose version is the last of these epochs
abbrev pub snapshot_at : Setting → Cuts → (p e : ℕ) → List ℕ
snapshot_at s cuts p e = snapshot_text p (e - 1) (state_at s cuts p e)

-- the file of what epoch v changes in the state of a partition
abbrev pub delta_at : Setting → Cuts → (p v : ℕ) → List ℕ
delta_at s cuts p v = delta_text p v (between (state_at s cuts p v) (state_at s cuts p (v + 1)))

-- whether the i-th part has lines between two cuts
abbrev pub has_lines : Cut → Cut → ℕ → Bool
has_lines [] tos i = false
has_lines (from ∷ froms) [] i = false
has_lines (from ∷ froms) (to ∷ tos) zero = nat_lt from to
has_lines (from ∷ froms) (to ∷ tos) (suc i) = has_lines froms tos i

-- the fault of the i-th part between two cuts
abbrev pub part_fault : Bound → Option Part → ℕ → ℕ → Bool
part_fault query None from to = false
part_fault query (Some part) from to = is_some (fault_in query part from to)

-- The tasks of an epoch: a map task for each part that has lines in it, a reduce task for each partition, and one for its rows.
abbrev pub is_task_by : Setting → Cuts → (e number : ℕ) → Kind → Bool
is_task_by s cuts e number kind.Map = has_lines (cut_of (cuts e)) (cut_of (cuts (e + 1))) number
is_task_by s cuts e number kind.Reduce = nat_lt number s.job.partitions
is_task_by s cuts e number kind.Out = number == 0
is_task_by s cuts e number kind.Upkeep = nat_lt number (keeping_of s.job.bound.shape s.job.partitions)

-- the rows that a partition shows of an epoch
abbrev pub partition_out : Setting → Cuts → (e p : ℕ) → List Values
partition_out s cuts e p =
    (operator_of s.job.bound).added (bucket s.job.partitions p (accepted s.job.bound (parts_in s) (cuts_of cuts) e)) (bucket s.job.partitions p (on_time s.job.bound (parts_in s) (cuts_of cuts) e))
    (watermark_before s.job.bound (parts_in s) (cuts_of cuts) e) (watermark_at s cuts e)

-- whether a key of a partition overflows in an epoch
abbrev pub partition_fault : Setting → Cuts → (e p : ℕ) → Bool
partition_fault s cuts e p =
    is_some ((operator_of s.job.bound).fault (bucket s.job.partitions p (accepted s.job.bound (parts_in s) (cuts_of cuts) e)) (bucket s.job.partitions p (on_time s.job.bound (parts_in s) (cuts_of cuts) e))
    (watermark_before s.job.bound (parts_in s) (cuts_of cuts) e) (watermark_at s cuts e))

-- Whether a task has a fault: a line of its part is bad or overflows, or a key of its partition overflows.
abbrev pub is_fault_by : Setting → Cuts → (e number : ℕ) → Kind → Bool
is_fault_by s cuts e number kind.Map =
    part_fault s.job.bound (slice_get (parts_in s) number) (get_or (cut_of (cuts e)) number 0) (get_or (cut_of (cuts (e + 1))) number 0)
is_fault_by s cuts e number kind.Reduce = partition_fault s cuts e number
is_fault_by s cuts e number kind.Out = false
is_fault_by s cuts e number kind.Upkeep = false

-- What the files of the job's checkpoint hold, for these cuts of its logs. Of a query that keeps nothing each state is empty, and there is
-- no file of it.
abbrev pub course_of : Setting → Cuts → Course
course_of s cuts = record {
  meta = meta_of s;
  ends = cuts;
  watermark = watermark_at s cuts;
  seen = seen_at s cuts;
  is_faulty = is_faulty_at s cuts;
  rows = rows_at s cuts;
  keeping = keeping_of s.job.bound.shape s.job.partitions;
  state = snapshot_at s cuts;
  delta = delta_at s cuts;
  is_task = λ t. is_task_by s cuts t.epoch t.number t.kind;
  is_fault = λ t. is_fault_by s cuts t.epoch t.number t.kind;
}

-- an end is of this part
abbrev pub is_end_of : Part → PartEnd → Bool
is_end_of part end = part.stream == end.stream && part.part == end.part

-- the ends are of the parts in order, and no line is covered
abbrev pub is_start : List Part → Ends → Bool
is_start [] [] = true
is_start [] (end ∷ ends) = false
is_start (part ∷ parts) [] = false
is_start (part ∷ parts) (end ∷ ends) = is_end_of part end && (end.end == 0 && is_start parts ends)

-- both ends are of the parts in order, none falls, and none is above the part's lines, nor above the most that are taken of a log
abbrev pub is_within : List Part → Ends → Ends → Bool
is_within [] [] [] = true
is_within [] [] (to ∷ tos) = false
is_within [] (from ∷ froms) tos = false
is_within (part ∷ parts) [] tos = false
is_within (part ∷ parts) (from ∷ froms) [] = false
is_within (part ∷ parts) (from ∷ froms) (to ∷ tos) =
    is_end_of part from && (is_end_of part to && (nat_le from.end to.end && (nat_le to.end (length part.lines) && (nat_le to.end most_lines && is_within parts froms tos))))

-- some part has a new line
abbrev pub has_line : Ends → Ends → Bool
has_line [] tos = false
has_line (from ∷ froms) [] = false
has_line (from ∷ froms) (to ∷ tos) = nat_lt from.end to.end || has_line froms tos

-- Epoch e may follow those before it: the cuts begin with no line, no end falls or passes its part's lines, and some part has a new
-- line, or the query closes and the watermark is above that of the epoch before.
abbrev pub is_next_of : Setting → Cuts → ℕ → Bool
is_next_of s cuts e =
    is_start (parts_in s) (cuts 0) && (is_within (parts_in s) (cuts e) (cuts (e + 1))
    && (has_line (cuts e) (cuts (e + 1)) || (closes s.job.bound && is_above (watermark_at s cuts e) (watermark_before s.job.bound (parts_in s) (cuts_of cuts) e))))

-- the job of a query over its logs
abbrev pub job_of : Setting → Job
job_of s = record { course = course_of s; is_next = is_next_of s }
