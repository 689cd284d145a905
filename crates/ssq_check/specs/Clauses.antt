-- The clauses of a query: which rules each of them breaks, and where.
use Rattle.std.specs.Prelude.{◌≡◌, ℕ, ℤ, pos, ◌*ℤ◌, Bool, true, false, not, ◌||◌, int_lt, List, [], ◌∷◌, map, Option, Some, None}
use Rattle.std.specs.List.{flat_map, list_any}
use Rattle.std.specs.Str.{bytes_eq}
use Rattle.ssq_value.specs.declared.column.ColType.{ColType}
use Rattle.ssq_value.specs.declared.column.ColType.TheVariants as type
use Rattle.ssq_value.specs.declared.column.Column.{Column}
use Rattle.ssq_shape.specs.Kinds.{is_kind}
use Rattle.ssq_ast.specs.declared.expr.Ident.{Ident}
use Rattle.ssq_ast.specs.declared.expr.Span.{Span}
use Rattle.ssq_ast.specs.declared.query.ColumnDecl.{ColumnDecl}
use Rattle.ssq_ast.specs.declared.query.Condition.{Condition}
use Rattle.ssq_ast.specs.declared.query.Deduplicate.{Deduplicate}
use Rattle.ssq_ast.specs.declared.query.Group.{Group}
use Rattle.ssq_ast.specs.declared.query.Group.TheVariants as group
use Rattle.ssq_ast.specs.declared.query.GroupBy.{GroupBy}
use Rattle.ssq_ast.specs.declared.query.Item.{Item}
use Rattle.ssq_ast.specs.declared.query.Join.{Join}
use Rattle.ssq_ast.specs.declared.query.OrderBy.{OrderBy}
use Rattle.ssq_ast.specs.declared.query.Stream.{Stream}
use Rattle.ssq_ast.specs.declared.query.Watermark.{Watermark}
use Rattle.ssq_ast.specs.declared.query.Window.{Window}
use Rattle.ssq_check.specs.declared.fault.Cause.TheVariants as cause
use Rattle.ssq_check.specs.declared.scope.Scope.{Scope}
use Rattle.ssq_check.specs.declared.scope.Side.TheVariants as side
use Rattle.ssq_check.specs.declared.scope.Source.{Source}
use Rattle.ssq_check.specs.declared.scope.Spot.{Spot}
use Rattle.ssq_check.specs.declared.scope.Within.{Within}
use Rattle.ssq_check.specs.declared.scope.Within.TheVariants as within
use Rattle.ssq_check.specs.Fault.{Faults}
use Rattle.ssq_check.specs.Scope.{in_columns, bare_spot, is_window_name}
use Rattle.ssq_check.specs.Broken.{Either, Rule, Told, FaultsIn}
use Rattle.ssq_check.specs.Rules.{kind}
use Rattle.ssq_check.specs.Lists.{Where, Each, Doubled, Past, Beyond, has_name, item_name}
use Rattle.ssq_check.specs.Names.{is_there, columns_of}
use Rattle.ssq_check.specs.Joined.{spot_in, conjuncts, ConjunctFaults}

-- ---- conditions

-- there is a type, and it is not BOOLEAN
abbrev pub is_no_truth : Option ColType → Bool
is_no_truth None = false
is_no_truth (Some type.Bool) = false
is_no_truth (Some _) = true

-- WHERE, ON, HAVING
abbrev pub ConditionFaults : Scope → Within → Condition → Faults
ConditionFaults scope w condition =
    Either (FaultsIn scope w condition.value) (Rule cause.WrongType condition.at (is_no_truth (kind scope w condition.value) ≡ true))

-- a condition that groups must meet stands only where rows are grouped
abbrev pub HavingFaults : Scope → Within → Bool → Condition → Faults
HavingFaults scope w is_group condition =
    Either (ConditionFaults scope w condition) (Rule cause.NotGrouped condition.at (is_group ≡ false))

-- ---- declarations

-- the column is known, and is no TIMESTAMP
abbrev pub is_no_time : Option Spot → Bool
is_no_time None = false
is_no_time (Some spot) = not (is_kind type.Timestamp (Some spot.kind))

abbrev pub EventFaults : Option Spot → ℕ → Faults
EventFaults spot at = Either (Rule cause.UnknownName at (is_there spot ≡ false)) (Rule cause.WrongType at (is_no_time spot ≡ true))

abbrev pub WatermarkFaults : Stream → Watermark → Faults
WatermarkFaults stream watermark = EventFaults (in_columns side.Left (columns_of stream) watermark.column.text) watermark.column.at

abbrev pub decl_name : ColumnDecl → List ℕ
decl_name decl = decl.name.text

abbrev pub decl_place : ColumnDecl → ℕ
decl_place decl = decl.name.at

abbrev pub StreamFaults : Stream → Faults
StreamFaults stream =
    Either (Doubled decl_name decl_place [] stream.columns)
    (Either (Beyond (map decl_place stream.columns))
    (Where (WatermarkFaults stream) stream.watermark))

abbrev pub stream_name : Stream → List ℕ
stream_name stream = stream.name.text

abbrev pub stream_name_place : Stream → ℕ
stream_name_place stream = stream.name.at

abbrev pub stream_first : Stream → ℕ
stream_first stream = stream.at

-- Two streams may be declared.
abbrev pub StreamsFaults : List Stream → Faults
StreamsFaults streams =
    Either (Each StreamFaults streams)
    (Either (Doubled stream_name stream_name_place [] streams)
    (Past cause.TooMany 2 (map stream_first streams)))

-- ---- JOIN

-- a stream that isn't declared, or that is joined with itself
abbrev pub JoinedFaults : Bool → List ℕ → Ident → Faults
JoinedFaults is_declared from stream =
    Either (Rule cause.UnknownName stream.at (is_declared ≡ false)) (Rule cause.DoubleName stream.at (bytes_eq stream.text from ≡ true))

abbrev pub OnFaults : Scope → Condition → Faults
OnFaults scope on =
    Either (ConditionFaults scope within.Row on) (ConjunctFaults scope (conjuncts on.at on.value))

abbrev pub JoinFaults : Scope → List ℕ → Join → Faults
JoinFaults scope from join = Either (JoinedFaults (is_there scope.right) from join.stream) (OnFaults scope join.on)

-- ---- DEDUPLICATE

abbrev pub ident_name : Ident → List ℕ
ident_name ident = ident.text

abbrev pub ident_place : Ident → ℕ
ident_place ident = ident.at

abbrev pub IdentFaults : Scope → Ident → Faults
IdentFaults scope ident = Told (bare_spot scope ident)

abbrev pub DeduplicateFaults : Scope → Deduplicate → Faults
DeduplicateFaults scope deduplicate =
    Either (Each (IdentFaults scope) deduplicate.columns)
    (Either (Doubled ident_name ident_place [] deduplicate.columns)
    (Beyond (map ident_place deduplicate.columns)))

-- ---- GROUP BY

abbrev pub slide_or : ℤ → Option Span → ℤ
slide_or size None = size
slide_or size (Some span) = span.micros

-- by how much windows are apart: by their size where nothing else is said
abbrev pub slide_of : Window → ℤ
slide_of window = slide_or window.size.micros window.slide

abbrev pub has_window_name : Column → Bool
has_window_name column = is_window_name column.name

-- a stream has a column of one of the window's names
abbrev pub has_window_column : Option Source → Bool
has_window_column None = false
has_window_column (Some source) = list_any has_window_name source.columns

abbrev pub has_window_columns : Scope → Bool
has_window_columns scope = has_window_column scope.left || has_window_column scope.right

-- The windows of a size may not be further apart than that, and 64 of them at most hold one time.
abbrev pub SizeFaults : ℕ → ℤ → ℤ → Faults
SizeFaults at size slide =
    Either (Rule cause.BadWindow at (int_lt size slide ≡ true)) (Rule cause.TooMany at (int_lt (pos 64 *ℤ slide) size ≡ true))

abbrev pub WindowFaults : Scope → Window → Faults
WindowFaults scope window =
    Either (IdentFaults scope window.column)
    (Either (Rule cause.WrongType window.column.at (is_no_time (spot_in (bare_spot scope window.column)) ≡ true))
    (Either (SizeFaults window.at window.size.micros (slide_of window))
    (Rule cause.DoubleName window.at (has_window_columns scope ≡ true))))

abbrev pub GroupItemFaults : Scope → Group → Faults
GroupItemFaults scope (group.Column ident) = IdentFaults scope ident
GroupItemFaults scope (group.Window window) = WindowFaults scope window

abbrev pub group_columns : Group → List Ident
group_columns (group.Column ident) = ident ∷ []
group_columns (group.Window window) = []

abbrev pub group_windows : Group → List ℕ
group_windows (group.Column ident) = []
group_windows (group.Window window) = window.at ∷ []

abbrev pub group_first : Group → ℕ
group_first (group.Column ident) = ident.at
group_first (group.Window window) = window.at

abbrev pub GroupFaults : Scope → GroupBy → Faults
GroupFaults scope by =
    Either (Each (GroupItemFaults scope) by.items)
    (Either (Doubled ident_name ident_place [] (flat_map group_columns by.items))
    (Either (Past cause.BadWindow 1 (flat_map group_windows by.items))
    (Beyond (map group_first by.items))))

-- ---- ORDER BY

-- a name that none of these is
abbrev pub OutputFaults : List (List ℕ) → OrderBy → Faults
OutputFaults names order = Rule cause.UnknownName order.name.at (has_name order.name.text names ≡ false)

abbrev pub is_output : List Item → List ℕ → Bool
is_output items name = list_any (λ (x : Item). bytes_eq (item_name x) name) items

abbrev pub OrderFaults : List Item → OrderBy → Faults
OrderFaults items order = Rule cause.UnknownName order.name.at (is_output items order.name.text ≡ false)
