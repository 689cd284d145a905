-- Rows that are fed have the types of their streams, keys those of GROUP BY, and arguments those of their aggregates.
use Rattle.std.proofs.Common.{◌≡◌, sym, subst, ap, ◌++◌, ◌∷◌, [], ◌<◌, ℕ, ℤ, List, map, Option, Some, None, Result, Ok, Err, Bool, true, false}
use Rattle.std.specs.Prelude.{IfOk, IfSome, length, slice_get}
use Rattle.std.specs.List.{AllByRecursion, flat_map}
use Rattle.std.proofs.lemmas.Result.{IfOk-weaker}
use mathlib.Core.List.{append-nil}
use Rattle.ssq_value.specs.declared.column.ColType.{ColType}
use Rattle.ssq_value.specs.declared.column.ColType.TheVariants as type
use Rattle.ssq_value.specs.declared.column.Column.{Column}
use Rattle.ssq_value.specs.declared.value.Value.{Value}
use Rattle.ssq_value.specs.declared.value.Value.TheVariants as value
use Rattle.ssq_value.specs.Kind.{IsHeldBy, IsRowOf}
use Rattle.ssq_shape.specs.declared.bound.Aggregate.{Aggregate}
use Rattle.ssq_shape.specs.declared.bound.Bound.{Bound}
use Rattle.ssq_shape.specs.declared.bound.Function.{Function}
use Rattle.ssq_shape.specs.declared.bound.Function.TheVariants as function
use Rattle.ssq_shape.specs.declared.bound.GroupKey.{GroupKey}
use Rattle.ssq_shape.specs.declared.bound.GroupKey.TheVariants as key
use Rattle.ssq_shape.specs.declared.bound.Stream.{Stream}
use Rattle.ssq_shape.specs.declared.typed.Typed.{Typed}
use Rattle.ssq_shape.specs.declared.typed.Typed.TheVariants as typed
use Rattle.ssq_shape.specs.Evaluation.{Overflow, cell_at, evaluated, evaluated_with, time_in}
use Rattle.ssq_shape.specs.Kinds.{AreHeldBy, gives, kind_in, kind_with}
use Rattle.ssq_shape.specs.Laws.{value_held}
use Rattle.ssq_meaning.specs.Group.{argument_of, arguments_of, key_values, row_keys, starts_if, window_starts}
use Rattle.ssq_meaning.specs.Meaning.{Values, layout_in, layout_at}
use Rattle.ssq_meaning.proofs.Handing.{all_append, cons_ok}
use Rattle.ssq_bind.specs.Typed.{aggregate_kind, argument_kind, column_kinds, key_kind, read_kinds, stream_kinds}

-- ---- the row of a stream

-- the types of the columns of the stream of this place
abbrev pub kinds_in : List Stream → ℕ → List ColType
kinds_in streams stream = column_kinds (layout_in (slice_get streams stream)).columns

pub held_of : (columns : List Column) (row : Values) → IsRowOf columns row → AreHeldBy (column_kinds columns) row
held_of [] [] are = tt
held_of [] (v ∷ row) are = absurd are
held_of (column ∷ columns) [] are = absurd are
held_of (column ∷ columns) (v ∷ row) are = (are.0, held_of columns row are.1)

-- of one stream its columns are all that are read, of two those of the first and then those of the second
pub one_read : (streams : List Stream) → length streams ≡ 1 → read_kinds streams ≡ kinds_in streams 0
one_read [] is = absurd cc
one_read (own ∷ []) is = append-nil (stream_kinds own)
one_read (own ∷ next ∷ more) is = absurd cc

pub two_read : (streams : List Stream) → length streams ≡ 2 → read_kinds streams ≡ kinds_in streams 0 ++ kinds_in streams 1
two_read [] is = absurd cc
two_read (own ∷ []) is = absurd cc
two_read (own ∷ next ∷ []) is = ap (λ more. stream_kinds own ++ more) (append-nil (stream_kinds next))
two_read (own ∷ next ∷ third ∷ more) is = absurd cc

-- ---- arguments of aggregates

-- of the values that MIN and MAX choose from, each is of the aggregate's type
abbrev pub IsArgument : ColType → Function → Value → Type 0
IsArgument kind function.Count own = Unit {0}
IsArgument kind function.Sum own = Unit {0}
IsArgument kind function.Min own = IsHeldBy kind own
IsArgument kind function.Max own = IsHeldBy kind own

abbrev pub AreArguments : List ColType → List Aggregate → Values → Type 0
AreArguments [] [] [] = Unit {0}
AreArguments [] [] (own ∷ values) = ⊥
AreArguments [] (aggregate ∷ aggregates) values = ⊥
AreArguments (kind ∷ kinds) [] values = ⊥
AreArguments (kind ∷ kinds) (aggregate ∷ aggregates) [] = ⊥
AreArguments (kind ∷ kinds) (aggregate ∷ aggregates) (own ∷ values) = IsArgument kind aggregate.function own × AreArguments kinds aggregates values

any_value : (r : Result Value Overflow) → IfOk r (λ own. Unit {0})
any_value (Ok own) = tt
any_value (Err excess) = tt

module _ (rows : List ColType) (row : Values) (held : AreHeldBy rows row) where
  argument_held : (f : Function) (argument : Option Typed) (kind : ColType) → argument_kind rows f argument ≡ Some kind → IfOk (argument_of argument row) (IsArgument kind f)
  argument_held function.Count None kind is = tt
  argument_held function.Sum None kind is = tt
  argument_held function.Min None kind is = absurd cc
  argument_held function.Max None kind is = absurd cc
  argument_held function.Count (Some x) kind is = any_value (evaluated x row)
  argument_held function.Sum (Some x) kind is = any_value (evaluated x row)
  argument_held function.Min (Some x) kind is = value_held [] rows [] row x kind tt held is
  argument_held function.Max (Some x) kind is = value_held [] rows [] row x kind tt held is

  pub arguments_held : (aggregates : List Aggregate) (kinds : List ColType) → map (aggregate_kind rows) aggregates ≡ map Some kinds → IfOk (arguments_of aggregates row) (AreArguments kinds aggregates)
  unfolding arguments_of
  arguments_held [] [] is = tt
  arguments_held [] (kind ∷ kinds) is = absurd cc
  arguments_held (aggregate ∷ aggregates) [] is = absurd cc
  arguments_held (aggregate ∷ aggregates) (kind ∷ kinds) is =
      let first : aggregate_kind rows aggregate ≡ Some kind = cc in
      let rest : map (aggregate_kind rows) aggregates ≡ map Some kinds = cc in
      cons_ok (IsArgument kind aggregate.function) (AreArguments kinds aggregates) (AreArguments (kind ∷ kinds) (aggregate ∷ aggregates)) (λ own values one all. (one, all))
      (argument_of aggregate.argument row) (arguments_of aggregates row) (argument_held aggregate.function aggregate.argument kind first) (arguments_held aggregates kinds rest)

-- ---- keys

is_stamp : (kind : ColType) (b : Bool) → gives type.Timestamp b ≡ Some kind → type.Timestamp ≡ kind
is_stamp kind false is = absurd cc
is_stamp kind true is = cc

times_held : (kind : ColType) → type.Timestamp ≡ kind → (starts : List ℤ) → AllByRecursion (IsHeldBy kind) (map value.Time starts)
times_held kind is [] = tt
times_held kind is (start ∷ starts) = (is, times_held kind is starts)

starts_held : (kind : ColType) → type.Timestamp ≡ kind → (size slide : ℤ) (time : Option ℤ) → AllByRecursion (IsHeldBy kind) (starts_if size slide time)
starts_held kind is size slide None = tt
starts_held kind is size slide (Some t) = times_held kind is (window_starts t size slide)

front_held : (kind : ColType) (kinds : List ColType) (own : Value) (rests : List Values) → IsHeldBy kind own → AllByRecursion (AreHeldBy kinds) rests → AllByRecursion (AreHeldBy (kind ∷ kinds)) (map (λ rest. own ∷ rest) rests)
front_held kind kinds own [] held all = tt
front_held kind kinds own (rest ∷ rests) held all = ((held, all.0), front_held kind kinds own rests held all.1)

fronts_held : (kind : ColType) (kinds : List ColType) (values : Values) (rests : List Values) → AllByRecursion (IsHeldBy kind) values → AllByRecursion (AreHeldBy kinds) rests
    → AllByRecursion (AreHeldBy (kind ∷ kinds)) (flat_map (λ own. map (λ rest. own ∷ rest) rests) values)
fronts_held kind kinds [] rests held all = tt
fronts_held kind kinds (own ∷ values) rests held all =
    all_append (AreHeldBy (kind ∷ kinds)) (map (λ rest. own ∷ rest) rests) (flat_map (λ own. map (λ rest. own ∷ rest) rests) values) (front_held kind kinds own rests held.0 all) (fronts_held kind kinds values rests held.1 all)

module _ (rows : List ColType) (row : Values) (held : AreHeldBy rows row) where
  cell_held : (at : ℕ) (kind : ColType) → slice_get rows at ≡ Some kind → IsHeldBy kind (cell_at row at)
  unfolding evaluated_with kind_with
  cell_held at kind is = value_held [] rows [] row (typed.Column at) kind tt held is

  key_held : (own : GroupKey) (kind : ColType) → key_kind rows own ≡ Some kind → AllByRecursion (IsHeldBy kind) (key_values own row)
  key_held (key.Column at) kind is = (cell_held at kind is, tt)
  key_held (key.Window at size slide) kind is = starts_held kind (is_stamp kind _ is) size slide (time_in (cell_at row at))

  pub keys_held : (keys : List GroupKey) (kinds : List ColType) → map (key_kind rows) keys ≡ map Some kinds → AllByRecursion (AreHeldBy kinds) (row_keys keys row)
  unfolding row_keys
  keys_held [] [] is = (tt, tt)
  keys_held [] (kind ∷ kinds) is = absurd cc
  keys_held (own ∷ keys) [] is = absurd cc
  keys_held (own ∷ keys) (kind ∷ kinds) is =
      let first : key_kind rows own ≡ Some kind = cc in
      let rest : map (key_kind rows) keys ≡ map Some kinds = cc in
      fronts_held kind kinds (key_values own row) (row_keys keys row) (key_held own kind first) (keys_held keys kinds rest)
