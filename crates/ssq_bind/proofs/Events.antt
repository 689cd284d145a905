-- The event column is a column of times.
use Rattle.std.proofs.Common.{◌≡◌, ap, refl, ℕ, List, Option, Some, None}
use Rattle.std.specs.Option.{ForSome, option_map}
use Rattle.std.specs.Prelude.{slice_get}
use Rattle.ssq_value.specs.declared.column.ColType.{ColType}
use Rattle.ssq_value.specs.declared.column.ColType.TheVariants as type
use Rattle.ssq_value.specs.declared.column.Column.{Column}
use Rattle.ssq_value.specs.Layout.{IsEvent}
use Rattle.ssq_check.specs.declared.scope.Side.{Side}
use Rattle.ssq_check.specs.Scope.{spot_from, spot_where, in_columns}
use Rattle.ssq_bind.specs.Streams.{timed}

of_kind : (columns : List Column) (own : Side) (at : ℕ) (kind : ColType) → option_map (λ (column : Column). column.kind) (slice_get columns at) ≡ Some kind → (e : ℕ) → timed (Some (record { side = own; index = at; kind = kind })) ≡ Some e → IsEvent columns e
of_kind columns own at type.Timestamp has e is = ap (λ (o : Option ColType). o) (rw (some_is at e is) has)
  where
    some_is : (m n : ℕ) → Some m ≡ Some n → n ≡ m
    some_is m n same = cc
of_kind columns own at type.Bigint has e is = absurd cc
of_kind columns own at type.Str has e is = absurd cc
of_kind columns own at type.Bool has e is = absurd cc

of_column : (columns : List Column) (own : Side) (at : ℕ) (got : Option Column) → slice_get columns at ≡ got → (e : ℕ) → timed (spot_from own at got) ≡ Some e → IsEvent columns e
of_column columns own at None is e found = absurd cc
of_column columns own at (Some column) is e found = of_kind columns own at column.kind (ap (option_map (λ (x : Column). x.kind)) is) e found

of_place : (columns : List Column) (own : Side) (place : Option ℕ) (e : ℕ) → timed (spot_where own columns place) ≡ Some e → IsEvent columns e
of_place columns own None e found = absurd cc
of_place columns own (Some at) e found = of_column columns own at (slice_get columns at) refl e found

-- what a watermark names is an event column, where it is a column of times
pub event_of_columns : (columns : List Column) (own : Side) (name : List ℕ) → ForSome (timed (in_columns own columns name)) (IsEvent columns)
event_of_columns columns own name = of_place columns own _
