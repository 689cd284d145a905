-- What becomes of a log whose lines are read, and why a map task brings no rows.
use Rattle.std.specs.Prelude.{◌≡◌, ◌≢◌, ⊤, ◌<◌, ◌≤◌, ℕ, List}
use Rattle.ssq_outside.specs.Faults.{Rises}
use Rattle.ssq_json.specs.declared.bad_row.BadRow.TheVariants as bad
use Rattle.ssq_shape.specs.declared.bound.Bound.{Bound}
use Rattle.ssq_meaning.specs.declared.line.LineFault.TheVariants as line
use Rattle.ssq_meaning.specs.Meaning.{Line}
use Rattle.ssq_feed.specs.Rows.{IsFirst}
use Rattle.ssq_feed.specs.declared.fault.FeedFault.{FeedFault}
use Rattle.ssq_feed.specs.declared.fault.FeedFault.TheVariants.{BadLine, Overflow, LogFault, LogShort, NoMemory}

module _ {L : Type 0} (tells : Type 0) (lines : L → List Line) (available : L → ℕ) (answers : L → List ℕ) (faults : L → ℕ) where
  -- reading a log's lines leaves it with the same lines, of which no fewer are known to be there, and asks for no count; its faults rise
  pub record LogWent (before after : L) : Type 0 where
    pub same : tells → lines after ≡ lines before
    pub grown : tells → available before ≤ available after
    pub unasked : tells → answers after ≡ answers before
    pub counted : faults before ≤ faults after

  -- Why a task brings no rows: the first faulty line of its range; a fault of the log, where its count rose; the log's number of lines,
  -- where it is below the range's end; or memory ran out.
  abbrev pub FeedCause : (query : Bound) (stream part from to : ℕ) (before after : L) → FeedFault → Type 0
  FeedCause query stream part from to before after (BadLine offset cause) =
      (tells → IsFirst query (record { stream = stream; part = part; lines = lines before }) from to offset (line.Bad cause)) × (cause ≢ bad.NoMemory)
  FeedCause query stream part from to before after (Overflow offset) =
      tells → IsFirst query (record { stream = stream; part = part; lines = lines before }) from to offset line.Overflow
  FeedCause query stream part from to before after LogFault = Rises (faults before) (faults after)
  FeedCause query stream part from to before after (LogShort logged found) = (logged ≡ to) × (found < to) × (tells → available after ≡ found)
  FeedCause query stream part from to before after NoMemory = ⊤

  -- why the line at an offset is not read
  abbrev pub ReadCause : (at to : ℕ) (before after : L) → FeedFault → Type 0
  ReadCause at to before after (BadLine offset cause) = ⊥
  ReadCause at to before after (Overflow offset) = ⊥
  ReadCause at to before after LogFault = Rises (faults before) (faults after)
  ReadCause at to before after (LogShort logged found) = (logged ≡ to) × (found ≤ at) × (tells → available after ≡ found)
  ReadCause at to before after NoMemory = ⊤
