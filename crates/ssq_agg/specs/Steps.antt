-- The step of an epoch.
use Rattle.std.specs.Prelude.{◌≡◌, ◌++◌, ℕ, ℤ, Bool, true, false, if◌then◌else◌, List, All, length, map, Option, Some, None, is_some}
use Rattle.std.specs.HashMap.{HashMap, get}
use Rattle.std.specs.List.{AllByRecursion, list_any}
use Rattle.ssq_value.specs.Key.{keys_of}
use Rattle.ssq_version.specs.State.{State, Change, value_at}
use Rattle.ssq_shape.specs.declared.bound.Bound.{Bound}
use Rattle.ssq_shape.specs.declared.bound.Grouping.{Grouping}
use Rattle.ssq_shape.specs.declared.bound.Mode.{Mode}
use Rattle.ssq_shape.specs.declared.bound.Mode.TheVariants as mode
use Rattle.ssq_shape.specs.declared.bound.Shape.{Shape}
use Rattle.ssq_shape.specs.declared.bound.Shape.TheVariants as shape
use Rattle.ssq_meaning.specs.FedRows.{FedRow}
use Rattle.ssq_meaning.specs.declared.total.Total.{Total}
use Rattle.ssq_meaning.specs.Fit.{IsFitRow}
use Rattle.ssq_meaning.specs.Group.{is_same}
use Rattle.ssq_meaning.specs.GroupLaws.{Follows, IsKeySpelled, held, times, is_due_now}
use Rattle.ssq_meaning.specs.Meaning.{Values}
use Rattle.ssq_meaning.specs.Operator.{group}
use Rattle.ssq_meaning.specs.Times.{is_past}
use Rattle.ssq_meaning.specs.Totals.{totals_bytes}
use Rattle.ssq_step.specs.declared.fault.StepFault.{StepFault}
use Rattle.ssq_step.specs.declared.stepped.Stepped.{Stepped}
use Rattle.ssq_step.specs.Steps as step
use Rattle.ssq_agg.specs.declared.kept.Group.{Group}
use Rattle.ssq_step.specs.declared.shown.Shown.{Shown}
use Rattle.ssq_agg.specs.Groups.{AreSteady, Held}
use Rattle.ssq_agg.specs.Holding.{Holds}
use Rattle.ssq_step.specs.Indexing.{IsIndex, Timed}
use Rattle.ssq_agg.specs.Indexing.{Indexes}
use Rattle.ssq_agg.specs.Readable.{IsKey}
use Rattle.ssq_agg.specs.Shown.{Pair, shown_rows, least_fault}

-- what is given of a row: a state can hold it, and its key has a value for each part of GROUP BY
pub record IsKept (grouping : Grouping) (row : FedRow) : Type 0 where
  pub fit : IsFitRow row
  pub many : length row.key ≡ length grouping.keys

-- What a step is given: the query groups so; the state is what it keeps over the rows that were accepted before, with the index of its keys
-- by time; the epoch's rows are not late at a watermark that has not fallen; the types of totals hold what comes out; and rows, old and
-- new, can be kept.
pub record Given (query : Bound) (grouping : Grouping) (state : State) (closing : List Timed) (old new : List FedRow) (before now : Option ℤ) : Type 0 where
  pub groups : query.shape ≡ shape.Group grouping
  pub kept : state ≡ (group query grouping).state old before
  pub indexed : IsIndex query state closing
  pub follows : Follows query grouping new before now
  pub steady : AreSteady grouping.aggregates (held query grouping old before) new
  pub rows : All (IsKept grouping) (old ++ new)

-- the same, by what the state holds
pub record GivenGroups (query : Bound) (grouping : Grouping) (state : State) (closing : List Timed) (old new : List FedRow) (before now : Option ℤ) : Type 0 where
  pub holds : Holds grouping state (held query grouping old before)
  pub indexes : Indexes query grouping state closing
  pub keys : AllByRecursion (λ (row : FedRow). IsKey grouping row.key) new
  pub follows : Follows query grouping new before now
  pub steady : AreSteady grouping.aggregates (held query grouping old before) new

-- the query does not group
abbrev pub IsUngrouped : Shape → Type 0
IsUngrouped shape.Plain = Unit {0}
IsUngrouped (shape.Group grouping) = ⊥
IsUngrouped (shape.Dedup columns) = Unit {0}
IsUngrouped (shape.Join joining) = Unit {0}

-- what a key has after a step: the totals of a key that was touched are new, a key that is closed goes, and each other key has what it had
abbrev pub after_if : Option (List Total) → Bool → Option (List Total) → Option (List Total)
after_if (Some totals) is_closed own = Some totals
after_if None true own = None
after_if None false own = own

abbrev pub keys_of_groups : List Group → List Values
keys_of_groups groups = map (λ (group : Group). group.key) groups

abbrev pub is_among : List Group → Values → Bool
is_among groups key = list_any (is_same key) (keys_of_groups groups)

-- keys of so many values, each of which has a spelling
abbrev pub AreKeys : ℕ → List Values → Type 0
AreKeys many keys = AllByRecursion (IsKeySpelled many) keys

abbrev pub AreTouchedKeys : {S : Type 0} → ℕ → HashMap Values (List Total) S → Type 0
AreTouchedKeys many groups = (key : Values) (totals : List Total) → get is_same groups key ≡ Some totals → IsKeySpelled many key

-- Its change leads from the state over the rows before to the state over these rows too, at the new watermark; it shows the epoch's rows, as
-- a bag; and no key overflows.
abbrev pub IsStep : Bound → Grouping → State → (old new : List FedRow) → (before now : Option ℤ) → Stepped → Type 0
IsStep query grouping state old new before now stepped = step.IsStep (group query grouping) state old new before now stepped

-- it shows nothing because the epoch overflows on this key, the least, or because memory ran out
abbrev pub IsCause : Bound → Grouping → (old new : List FedRow) → (before now : Option ℤ) → StepFault → Type 0
IsCause query grouping old new before now fault = step.IsCause (group query grouping) old new before now fault

-- what was touched, or else what was kept
abbrev pub or_kept : Option (List Total) → Option (List Total) → Option (List Total)
or_kept None own = own
or_kept (Some totals) own = Some totals

-- these totals are what is shown of a key: in Append what was kept of it, where it is closed; in Update what was touched; in Complete what was
-- touched, or else what was kept
abbrev pub IsShownOf : Mode → (past : Bool) → (found own : Option (List Total)) → List Total → Type 0
IsShownOf mode.Append past found own totals = (own ≡ Some totals) × (past ≡ true)
IsShownOf mode.Update past found own totals = found ≡ Some totals
IsShownOf mode.Complete past found own totals = or_kept found own ≡ Some totals

-- what is shown are these groups, each due key once, with its totals
pub record AreDue (own : Held) (time : Values → Option ℤ) (now : Option ℤ) (found : Held) (own_mode : Mode) (pairs : List Pair) : Type 0 where
  pub due : (key : Values) → times key (map (λ (pair : Pair). pair.0) pairs) ≡ (if is_due_now own_mode (is_some (own key)) (is_past now (time key)) (is_some (found key)) then 1 else 0)
  pub each : AllByRecursion (λ (pair : Pair). IsShownOf own_mode (is_past now (time pair.0)) (found pair.0) (own pair.0) pair.1) pairs

pub record ShowsDue (query : Bound) (grouping : Grouping) (own : Held) (time : Values → Option ℤ) (now : Option ℤ) (found : Held) (shown : Shown) : Type 0 where
  pub pairs : List Pair
  pub are : AreDue own time now found query.mode pairs
  pub rows : shown.rows.items ≡ shown_rows query grouping pairs
  pub fault : shown.fault ≡ least_fault query grouping None pairs

-- what a change says of a key: its totals where it was touched, else that it goes where it is closed
abbrev pub said_if : Option (List Total) → Bool → Option (Option (List ℕ))
said_if (Some totals) is_closed = Some (Some (totals_bytes totals))
said_if None true = Some None
said_if None false = None

-- the entry of a change that says of a group that it goes, and of one that was touched which totals it has
abbrev pub gone_entry : Group → List ℕ × Option (List ℕ)
gone_entry group = (keys_of group.key, None)

abbrev pub put_entry : Pair → List ℕ × Option (List ℕ)
put_entry pair = (keys_of pair.0, Some (totals_bytes pair.1))

-- the change says this of keys of so many values, and nothing else
pub record Says (many : ℕ) (found : Held) (closed : List Group) (change : Change) : Type 0 where
  pub told : (key : Values) → IsKeySpelled many key → value_at change (keys_of key) ≡ said_if (found key) (is_among closed key)
  pub only : (bytes : List ℕ) (said : Option (List ℕ)) → value_at change bytes ≡ Some said → (key : Values) × (bytes ≡ keys_of key) × IsKeySpelled many key
