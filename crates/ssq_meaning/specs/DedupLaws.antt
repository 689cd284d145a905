-- What holds of rows without repeats from epoch to epoch.
use Rattle.std.specs.Prelude.{◌≡◌, ◌≤◌, ◌&&◌, ◌||◌, ℕ, ℤ, Bool, true, false, not, List, [], All, length, Option, Some, None}
use Rattle.ssq_shape.specs.declared.bound.Bound.{Bound}
use Rattle.ssq_meaning.specs.FedRows.{FedRow}
use Rattle.ssq_meaning.specs.Cut.{Cuts}
use Rattle.ssq_meaning.specs.Dedup.{closing_time, is_closed, meant}
use Rattle.ssq_meaning.specs.Epochs.{accepted, watermark, watermark_before}
use Rattle.ssq_meaning.specs.Group.{has_key}
use Rattle.ssq_meaning.specs.Meaning.{Values}
use Rattle.ssq_meaning.specs.Parts.{Part}
use Rattle.ssq_meaning.specs.Times.{AtMost}

-- A row that is fed to DEDUPLICATE: its time is the closing time of its key, which has a value for each of the columns.
pub record IsDedupRow (query : Bound) (columns : List ℕ) (row : FedRow) : Type 0 where
  pub time : row.time ≡ closing_time query columns row.key
  pub key : length row.key ≡ length columns

-- An epoch's rows come after others: the watermark has not fallen, and none of the rows is late.
pub record Follows (query : Bound) (columns : List ℕ) (new : List FedRow) (before now : Option ℤ) : Type 0 where
  pub rises : AtMost before now
  pub timely : All (λ row. is_closed query columns now row.key ≡ false) new

-- whether a key is kept: it has rows and is not closed
abbrev pub is_held : Bound → List ℕ → List FedRow → Option ℤ → Values → Bool
is_held query columns rows now key = has_key rows key && not (is_closed query columns now key)

-- whether it is after the next epoch, by whether it is closed then, whether it was kept, and whether it has a new row
abbrev pub is_held_next : (closed was_held touched : Bool) → Bool
is_held_next closed was_held touched = not closed && (was_held || touched)

-- what is kept of a key: nothing beside the key itself
abbrev pub entry_if : Bool → Option (List ℕ)
entry_if true = Some []
entry_if false = None

-- ---- over the epochs of a job

-- what the query means after the first n epochs: over all rows accepted in them
abbrev pub meaning_at : Bound → List Part → Cuts → ℕ → List Values
meaning_at query parts cuts n = meant (accepted query parts cuts n)

-- no epoch up to this one has closed the key, nor has this one
abbrev pub IsOpenTo : Bound → List ℕ → List Part → Cuts → ℕ → Values → Type 0
IsOpenTo query columns parts cuts e key = (f : ℕ) → f ≤ e → is_closed query columns (watermark query parts cuts f) key ≡ false

-- as epoch e begins, the key is kept exactly where a row that was accepted before has it
abbrev pub IsKnownAt : Bound → List ℕ → List Part → Cuts → ℕ → Values → Type 0
IsKnownAt query columns parts cuts e key =
    is_held query columns (accepted query parts cuts e) (watermark_before query parts cuts e) key ≡ has_key (accepted query parts cuts e) key
