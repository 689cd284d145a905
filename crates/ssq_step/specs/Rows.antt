-- The rows that a join keeps, by their bytes and by their times.
use Rattle.std.specs.Prelude.{◌≡◌, ◌++◌, ℕ, ℤ, Bool, true, false, List, [], ◌∷◌, All, FitsSigned, length, Option, Some, None, IfSome}
use Rattle.std.specs.BTreeMap.{is_at}
use Rattle.std.specs.Int.{w64}
use Rattle.ssq_value.specs.Key.{keys_of}
use Rattle.ssq_version.specs.State.{State, by_bytes, value_at}
use Rattle.ssq_shape.specs.declared.bound.Bound.{Bound}
use Rattle.ssq_shape.specs.declared.bound.Joining.{Joining}
use Rattle.ssq_meaning.specs.Fit.{IsFit}
use Rattle.ssq_meaning.specs.Join.{join_time, last_time, met_byte, side_byte}
use Rattle.ssq_meaning.specs.Meaning.{Values, layout_at}
use Rattle.ssq_step.specs.Timed.{Timed, has, is_time}

-- the stream of a side, and how many columns it has
abbrev pub stream_of : (left : Bool) → ℕ
stream_of true = 0
stream_of false = 1

abbrev pub width_of : Bound → (left : Bool) → ℕ
width_of query left = length (layout_at query (stream_of left)).columns

-- The bytes under which a row is kept begin with its side, and those that are kept of it are the bytes of its values, and whether it met a partner.
pub record HasParts (key value : List ℕ) (left : Bool) (values : List ℕ) (met : Bool) : Type 0 where
  pub rest : List ℕ
  pub side : key ≡ side_byte left ∷ rest
  pub spelled : value ≡ values ++ met_byte met ∷ []

-- A row of a side is kept under these bytes, with these after them: its values, and whether it met a partner.
pub record IsKeptRow (query : Bound) (left : Bool) (values : Values) (met : Bool) (key value : List ℕ) : Type 0 where
  pub bytes : HasParts key value left (keys_of values) met
  pub fit : All IsFit values
  pub many : length values ≡ width_of query left

-- The row that is kept so has this event time.
pub record IsEvent (query : Bound) (joining : Joining) (key value : List ℕ) (t : ℤ) : Type 0 where
  pub left : Bool
  pub values : Values
  pub met : Bool
  pub row : IsKeptRow query left values met key value
  pub time : join_time joining.bound (stream_of left) values ≡ Some t

-- the event time of what is kept under some bytes: of a row that of its values, if they have one, and of nothing else any
pub record HasEventTime (query : Bound) (joining : Joining) (key value : List ℕ) (time : Option ℤ) : Type 0 where
  pub found : IfSome time (IsEvent query joining key value)
  pub each : (left : Bool) (values : Values) (met : Bool) → IsKeptRow query left values met key value → time ≡ join_time joining.bound (stream_of left) values

-- the greatest time that a partner of a row can have
abbrev pub end_of : Joining → (left : Bool) → Values → Option ℤ
end_of joining left values = last_time joining.bound left (join_time joining.bound (stream_of left) values)

-- The row that is kept so has this time, a number of 64 bits.
pub record IsTimed (query : Bound) (joining : Joining) (key value : List ℕ) (t : ℤ) : Type 0 where
  pub left : Bool
  pub values : Values
  pub met : Bool
  pub row : IsKeptRow query left values met key value
  pub time : end_of joining left values ≡ Some t
  pub fits : FitsSigned w64 t

-- the time of what is kept under some bytes, if it is a row that has one
pub record HasTime (query : Bound) (joining : Joining) (key value : List ℕ) (time : Option ℤ) : Type 0 where
  pub found : IfSome time (IsTimed query joining key value)
  pub each : (t : ℤ) → IsTimed query joining key value t → time ≡ Some t

abbrev pub HasTimeIf : Bound → Joining → (key : List ℕ) → Option (List ℕ) → Option ℤ → Type 0
HasTimeIf query joining key None time = time ≡ None
HasTimeIf query joining key (Some value) time = HasTime query joining key value time

-- what stands at a key: its time, if it has one, and no other
abbrev pub StandsAt : List Timed → List ℕ → Option ℤ → Type 0
StandsAt entries key time = (t : ℤ) → has entries (t, key) ≡ is_time t time

-- Of each key that the state has the row's time stands there, where it has one, and nothing else does.
abbrev pub IndexesRows : Bound → Joining → State → List Timed → Type 0
IndexesRows query joining state entries =
    (key : List ℕ) → (time : Option ℤ) × HasTimeIf query joining key (value_at state key) time × StandsAt entries key time

-- what stands at one key is changed, if it was as is said, and at each other key it is as before
pub record TurnsAt (key : List ℕ) (was is : Option ℤ) (before after : List Timed) : Type 0 where
  pub here : StandsAt before key was → StandsAt after key is
  pub others : (other : List ℕ) → is_at (by_bytes key) other ≡ false → (t : ℤ) → has after (t, other) ≡ has before (t, other)
