-- What holds of groups from epoch to epoch.
use Rattle.std.specs.Prelude.{◌≡◌, ◌≤◌, ◌+◌, ◌&&◌, ◌||◌, ℤ, Bool, true, false, not, if◌then◌else◌, ℕ, zero, suc, List, [], ◌∷◌, All, length, filter, fold, Option, Some, None}
use Rattle.ssq_value.specs.Key.{IsSpelled}
use Rattle.ssq_shape.specs.declared.bound.Aggregate.{Aggregate}
use Rattle.ssq_shape.specs.declared.bound.Bound.{Bound}
use Rattle.ssq_shape.specs.declared.bound.Grouping.{Grouping}
use Rattle.ssq_shape.specs.declared.bound.Mode.{Mode}
use Rattle.ssq_shape.specs.declared.bound.Mode.TheVariants as mode
use Rattle.ssq_meaning.specs.FedRows.{FedRow}
use Rattle.ssq_meaning.specs.declared.total.Total.{Total}
use Rattle.ssq_meaning.specs.Cut.{Cuts}
use Rattle.ssq_meaning.specs.Epochs.{accepted, on_time, watermark, watermark_before}
use Rattle.ssq_meaning.specs.Group.{closing_time, is_same, has_key, totals_in, is_closed, due_keys, meant}
use Rattle.ssq_meaning.specs.Meaning.{Values}
use Rattle.ssq_meaning.specs.Parts.{Part}
use Rattle.ssq_meaning.specs.Times.{AtMost}
use Rattle.ssq_meaning.specs.Totals.{totals_of, with_row}

-- A row that is fed to groups: its time is the closing time of its key, which has a value for each part of GROUP BY, and it has a value for
-- each aggregate.
pub record IsGroupRow (query : Bound) (grouping : Grouping) (row : FedRow) : Type 0 where
  pub time : row.time ≡ closing_time query grouping row.key
  pub key : length row.key ≡ length grouping.keys
  pub values : length row.values ≡ length grouping.aggregates

-- An epoch's rows come after others: the watermark has not fallen, and none of the rows is late.
pub record Follows (query : Bound) (grouping : Grouping) (new : List FedRow) (before now : Option ℤ) : Type 0 where
  pub rises : AtMost before now
  pub timely : All (λ row. is_closed query grouping now row.key ≡ false) new

-- how often a key is among some keys
abbrev pub times : Values → List Values → ℕ
times key keys = length (filter (is_same key) keys)

-- how often it is among those that an epoch considers
abbrev pub times_due : Bound → Grouping → (old new : List FedRow) → (before now : Option ℤ) → Values → ℕ
times_due query grouping old new before now key = times key (due_keys query grouping old new before now)

-- one where a key has rows and is closed, else none
abbrev pub times_closed : Bound → Grouping → List FedRow → Option ℤ → Values → ℕ
times_closed query grouping rows now key = if has_key rows key && is_closed query grouping now key then 1 else 0

-- what is kept of a key: its totals over all its rows, unless it is closed or has no row
abbrev pub held_if : Bool → List Total → Option (List Total)
held_if true totals = Some totals
held_if false totals = None

abbrev pub held : Bound → Grouping → List FedRow → Option ℤ → Values → Option (List Total)
held query grouping rows now key =
    held_if (has_key rows key && not (is_closed query grouping now key)) (totals_in grouping rows key)

-- What is kept of a key after the next epoch, by whether it is closed then, by what was kept of it, and by its new rows: nothing where it
-- is closed, else what was kept, or no values yet, with the new rows.
abbrev pub next_held : List Aggregate → Bool → Option (List Total) → List Values → Option (List Total)
next_held aggregates true own rows = None
next_held aggregates false None [] = None
next_held aggregates false None (row ∷ rows) = Some (fold with_row (totals_of aggregates []) (row ∷ rows))
next_held aggregates false (Some totals) rows = Some (fold with_row totals rows)

-- Whether an epoch considers a key, by whether it was kept before, is closed now, and has a new row: in Append where it was kept and is
-- closed, in Update where it has a new row, in Complete where it has any.
abbrev pub is_due_now : Mode → (was_kept closed touched : Bool) → Bool
is_due_now mode.Append was_kept closed touched = was_kept && closed
is_due_now mode.Update was_kept closed touched = touched
is_due_now mode.Complete was_kept closed touched = was_kept || touched

-- a key has so many values, each of which has a spelling
abbrev pub IsKeySpelled : ℕ → Values → Type 0
IsKeySpelled many key = All IsSpelled key × (length key ≡ many)

-- ---- over the epochs of a job

-- what the query means after the first n epochs: over all rows accepted in them, at the watermark of the last
abbrev pub meaning_at : Bound → Grouping → List Part → Cuts → ℕ → List Values
meaning_at query grouping parts cuts n = meant query grouping (accepted query parts cuts n) (watermark_before query parts cuts n)

-- how often a key is considered by the first n epochs
unfoldable pub times_considered : Bound → Grouping → List Part → Cuts → Values → ℕ → ℕ
times_considered query grouping parts cuts key zero = 0
times_considered query grouping parts cuts key (suc n) =
    times_considered query grouping parts cuts key n
    + times_due query grouping (accepted query parts cuts n) (on_time query parts cuts n) (watermark_before query parts cuts n) (watermark query parts cuts n) key

-- no epoch up to this one has closed the key, nor has this one
abbrev pub IsOpenTo : Bound → Grouping → List Part → Cuts → ℕ → Values → Type 0
IsOpenTo query grouping parts cuts e key = (f : ℕ) → f ≤ e → is_closed query grouping (watermark query parts cuts f) key ≡ false

-- what is kept of a key as epoch e begins has each row of the key that was accepted before
abbrev pub IsWholeAt : Bound → Grouping → List Part → Cuts → ℕ → Values → Type 0
IsWholeAt query grouping parts cuts e key =
    held query grouping (accepted query parts cuts e) (watermark_before query parts cuts e) key
    ≡ held_if (has_key (accepted query parts cuts e) key) (totals_in grouping (accepted query parts cuts e) key)
