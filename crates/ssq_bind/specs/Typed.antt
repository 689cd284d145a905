-- What is bound has the type that it has where it is written.
use Rattle.std.specs.Prelude.{◌≡◌, ◌<◌, List, [], ◌++◌, map, take, drop, length, slice_get, Option, Some, None, IfSome}
use Rattle.std.specs.List.{All, flat_map}
use Rattle.ssq_value.specs.declared.column.ColType.{ColType}
use Rattle.ssq_value.specs.declared.column.ColType.TheVariants as type
use Rattle.ssq_value.specs.declared.column.Column.{Column}
use Rattle.ssq_shape.specs.Kinds.{is_kind, is_typed, gives, kind_in, kind_with}
use Rattle.ssq_shape.specs.declared.bound.Aggregate.{Aggregate}
use Rattle.ssq_shape.specs.declared.bound.Bound.{Bound}
use Rattle.ssq_shape.specs.declared.bound.Function.{Function}
use Rattle.ssq_shape.specs.declared.bound.Function.TheVariants as function
use Rattle.ssq_shape.specs.declared.bound.GroupKey.{GroupKey}
use Rattle.ssq_shape.specs.declared.bound.GroupKey.TheVariants as group_key
use Rattle.ssq_shape.specs.declared.bound.Grouping.{Grouping}
use Rattle.ssq_shape.specs.declared.bound.Joining.{Joining}
use Rattle.ssq_shape.specs.declared.bound.KeyPair.{KeyPair}
use Rattle.ssq_shape.specs.declared.bound.Output.{Output}
use Rattle.ssq_shape.specs.declared.bound.Shape.{Shape}
use Rattle.ssq_shape.specs.declared.bound.Shape.TheVariants as shape
use Rattle.ssq_shape.specs.declared.bound.SortKey.{SortKey}
use Rattle.ssq_shape.specs.declared.bound.Stream.{Stream}
use Rattle.ssq_shape.specs.declared.bound.TimeBound.{TimeBound}
use Rattle.ssq_shape.specs.declared.typed.Typed.{Typed}
use Rattle.ssq_ast.specs.declared.expr.Expr.{Expr}
use Rattle.ssq_ast.specs.declared.query.Query.{Query}
use Rattle.ssq_check.specs.declared.scope.Scope.{Scope}
use Rattle.ssq_check.specs.declared.scope.Source.{Source}
use Rattle.ssq_check.specs.declared.scope.Within.TheVariants as within
use Rattle.ssq_check.specs.Fault.{AreNone}
use Rattle.ssq_check.specs.Rules.{kind}
use Rattle.ssq_check.specs.Whole.{QueryFaults}
use Rattle.ssq_bind.specs.declared.context.Context.{Context}
use Rattle.ssq_bind.specs.Bound.{bound_of}
use Rattle.ssq_bind.specs.Value.{row_value}

abbrev pub column_kinds : List Column → List ColType
column_kinds columns = map (λ column. column.kind) columns

abbrev pub source_kinds : Option Source → List ColType
source_kinds None = []
source_kinds (Some source) = column_kinds source.columns

-- the types of a row: of a joined row the left ones come first
abbrev pub row_kinds : Scope → List ColType
row_kinds scope = source_kinds scope.left ++ source_kinds scope.right

-- An expression on rows that has a type has the same type once it is bound.
abbrev pub RowsAreTyped : Type 0
RowsAreTyped = (context : Context) (e : Expr) →
    IfSome (kind context.scope within.Row e) (λ own. kind_in (row_kinds context.scope) (row_value context e) ≡ Some own)

-- ---- the bound query

abbrev pub stream_kinds : Stream → List ColType
stream_kinds stream = column_kinds stream.schema.columns

-- the types of a row of the streams that are read: of a joined row the left ones come first
abbrev pub read_kinds : List Stream → List ColType
read_kinds streams = flat_map stream_kinds streams

-- the type of what rows are grouped by: that of the column; a window is over a column of times, and its start is a time
abbrev pub key_kind : List ColType → GroupKey → Option ColType
key_kind rows (group_key.Column at) = slice_get rows at
key_kind rows (group_key.Window at size slide) = gives type.Timestamp (is_kind type.Timestamp (slice_get rows at))

-- the type of a function of values of this type
abbrev pub called_kind : Function → Option ColType → Option ColType
called_kind function.Count own = gives type.Bigint (is_typed own)
called_kind function.Sum own = gives type.Bigint (is_kind type.Bigint own)
called_kind function.Min own = own
called_kind function.Max own = own

-- COUNT alone may have no argument
abbrev pub argument_kind : List ColType → Function → Option Typed → Option ColType
argument_kind rows f (Some x) = called_kind f (kind_in rows x)
argument_kind rows function.Count None = Some type.Bigint
argument_kind rows function.Sum None = None
argument_kind rows function.Min None = None
argument_kind rows function.Max None = None

-- the type of an aggregate
abbrev pub aggregate_kind : List ColType → Aggregate → Option ColType
aggregate_kind rows aggregate = argument_kind rows aggregate.function aggregate.argument

-- an output has the type that is said of it, over keys and aggregates of these types
abbrev pub HasItsKind : List ColType → List ColType → Output → Type 0
HasItsKind aggregates kinds output = kind_with aggregates kinds output.value ≡ Some output.kind

-- Groups of rows of these types. What rows are grouped by and each aggregate has a type. Over these, HAVING is BOOLEAN, and
-- each output has its type.
pub record IsTypedGroup (rows : List ColType) (grouping : Grouping) (outputs : List Output) : Type 0 where
  pub key_kinds : List ColType
  pub aggregate_kinds : List ColType
  pub keyed : map (key_kind rows) grouping.keys ≡ map Some key_kinds
  pub counted : map (aggregate_kind rows) grouping.aggregates ≡ map Some aggregate_kinds
  pub having : IfSome grouping.having (λ x. kind_with aggregate_kinds key_kinds x ≡ Some type.Bool)
  pub shown : All (HasItsKind aggregate_kinds key_kinds) outputs

-- without groups, outputs are over rows
abbrev pub AreTypedBy : List ColType → List Output → Shape → Type 0
AreTypedBy rows outputs (shape.Group grouping) = IsTypedGroup rows grouping outputs
AreTypedBy rows outputs shape.Plain = All (HasItsKind [] rows) outputs
AreTypedBy rows outputs (shape.Dedup columns) = All (HasItsKind [] rows) outputs
AreTypedBy rows outputs (shape.Join joining) = All (HasItsKind [] rows) outputs

-- a key equality pairs columns of one type
pub record PairsOneType (left right : List ColType) (pair : KeyPair) : Type 0 where
  pub own : ColType
  pub of_left : slice_get left pair.left ≡ Some own
  pub of_right : slice_get right pair.right ≡ Some own

-- a bound is on two columns of times
pub record BoundsTimes (left right : List ColType) (bound : TimeBound) : Type 0 where
  pub of_left : slice_get left bound.left ≡ Some type.Timestamp
  pub of_right : slice_get right bound.right ≡ Some type.Timestamp

-- ON over two streams whose rows have these types: what is neither a key equality nor the bound is BOOLEAN over joined rows
pub record IsTypedJoin (left right : List ColType) (joining : Joining) : Type 0 where
  pub keys : All (PairsOneType left right) joining.keys
  pub bound : IfSome joining.bound (BoundsTimes left right)
  pub rest : All (λ (x : Typed). kind_in (left ++ right) x ≡ Some type.Bool) joining.rest

-- the types of a row of the first stream, and of the second
abbrev pub first_kinds : List Stream → List ColType
first_kinds streams = read_kinds (take 1 streams)

abbrev pub second_kinds : List Stream → List ColType
second_kinds streams = read_kinds (drop 1 streams)

abbrev pub IsJoinedBy : List ColType → List ColType → Shape → Type 0
IsJoinedBy left right (shape.Join joining) = IsTypedJoin left right joining
IsJoinedBy left right other = Unit {0}

-- WHERE is BOOLEAN over rows, each output has its type, ON compares what has one type, and ORDER BY names outputs
pub record IsTyped (bound : Bound) : Type 0 where
  pub filter : IfSome bound.filter (λ x. kind_in (read_kinds bound.streams) x ≡ Some type.Bool)
  pub shown : AreTypedBy (read_kinds bound.streams) bound.outputs bound.shape
  pub joined : IsJoinedBy (first_kinds bound.streams) (second_kinds bound.streams) bound.shape
  pub order : All (λ (key : SortKey). key.output < length bound.outputs) bound.order

-- A query that breaks no rule of binding is well typed once it is bound.
abbrev pub QueriesAreTyped : Type 0
QueriesAreTyped = (query : Query) → AreNone (QueryFaults query) → IsTyped (bound_of query)
