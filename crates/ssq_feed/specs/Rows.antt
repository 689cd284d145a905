-- What a map task makes of the lines of its part.
use Rattle.std.specs.Prelude.{◌≡◌, ◌≢◌, ⊤, ℕ, ℤ, List, map, take, slice_get, All, Option, Some, None, Ok, Err, IfSome}
use Rattle.ssq_time.specs.Time.{IsLineTime}
use Rattle.ssq_value.specs.Key.{keys_of}
use Rattle.ssq_route.specs.Buckets.{buckets_of}
use Rattle.ssq_json.specs.declared.bad_row.BadRow.TheVariants as bad
use Rattle.ssq_shape.specs.declared.bound.Bound.{Bound}
use Rattle.ssq_meaning.specs.FedRows.{FedRow}
use Rattle.ssq_meaning.specs.declared.line.LineFault.{LineFault}
use Rattle.ssq_meaning.specs.declared.line.LineFault.TheVariants as line
use Rattle.ssq_meaning.specs.Fit.{IsFitRow}
use Rattle.ssq_meaning.specs.Meaning.{Line}
use Rattle.ssq_meaning.specs.Parts.{Part}
use Rattle.ssq_meaning.specs.Feeding.{Handed, line_handed, time_at, fed_in, time_in, fault_in}
use Rattle.ssq_feed.specs.declared.fault.FeedFault.{FeedFault}
use Rattle.ssq_feed.specs.declared.fault.FeedFault.TheVariants.{BadLine, Overflow, LogFault, LogShort, NoMemory}

-- a row with the bytes of its key
abbrev pub keyed : FedRow → List ℕ × FedRow
keyed row = (keys_of row.key, row)

-- the rows apart: bucket p holds exactly the rows whose key's bytes have place p, in order
abbrev pub dealt : ℕ → List FedRow → List (List FedRow)
dealt partitions rows = buckets_of partitions (map keyed rows)

-- What a map task of an epoch brings of the lines of a part from one offset up to another, as its greatest event time and its buckets: that of
-- these lines, none of which has a fault, and their rows, each of which a state can hold.
pub record IsFedFrom (tells : Type 0) (query : Bound) (epoch : ℕ) (part : Part) (from to partitions : ℕ) (time : Option ℤ) (buckets : List (List FedRow)) : Type 0 where
  pub rows : List FedRow
  pub apart : buckets ≡ dealt partitions rows
  pub fit : All IsFitRow rows
  pub years : IfSome time IsLineTime
  pub are : tells → rows ≡ fed_in query epoch part from to
  pub greatest : tells → time ≡ time_in query part from to
  pub good : tells → fault_in query part from to ≡ None

-- the line at an offset as it was read: its first 1,048,577 bytes at most, which tell a longer line from others
pub record IsRead (lines : List Line) (at : ℕ) (bytes : List ℕ) : Type 0 where
  pub line : Line
  pub there : slice_get lines at ≡ Some line
  pub cut : bytes ≡ take 1048577 line

-- what a line gives: the event time of its row, and the rows that are handed on
pub record GivesOf (query : Bound) (stream : ℕ) (bytes : Line) (time : Option ℤ) (rows : List Handed) : Type 0 where
  pub handed : line_handed query stream bytes ≡ Ok rows
  pub timed : time_at query stream bytes ≡ time
  pub years : IfSome time IsLineTime

-- why a line at this offset gives nothing
abbrev pub LineCause : Bound → (stream : ℕ) → Line → (at : ℕ) → FeedFault → Type 0
LineCause query stream bytes at (BadLine offset cause) = (offset ≡ at) × (line_handed query stream bytes ≡ Err (line.Bad cause)) × (cause ≢ bad.NoMemory)
LineCause query stream bytes at (Overflow offset) = (offset ≡ at) × (line_handed query stream bytes ≡ Err line.Overflow)
LineCause query stream bytes at LogFault = ⊥
LineCause query stream bytes at (LogShort logged found) = ⊥
LineCause query stream bytes at NoMemory = ⊤

-- this is the first faulty line of the range, with what is wrong
abbrev pub IsFirst : Bound → Part → (from to at : ℕ) → LineFault → Type 0
IsFirst query part from to at what = fault_in query part from to ≡ Some (record { stream = part.stream; part = part.part; offset = at; what = what })
