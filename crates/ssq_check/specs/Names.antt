-- The streams of a query, and the names that its expressions may use.
use Rattle.std.specs.Prelude.{ℕ, Bool, if◌then◌else◌, List, [], ◌∷◌, map, Option, Some, None, Result, Ok, Err}
use Rattle.std.specs.List.{flat_map}
use Rattle.std.specs.Option.{is_some, option_map}
use Rattle.std.specs.Str.{bytes_eq}
use Rattle.ssq_value.specs.declared.column.Column.{Column}
use Rattle.ssq_ast.specs.declared.query.ColumnDecl.{ColumnDecl}
use Rattle.ssq_ast.specs.declared.query.Group.{Group}
use Rattle.ssq_ast.specs.declared.query.Group.TheVariants as group
use Rattle.ssq_ast.specs.declared.query.GroupBy.{GroupBy}
use Rattle.ssq_ast.specs.declared.query.Join.{Join}
use Rattle.ssq_ast.specs.declared.query.Query.{Query}
use Rattle.ssq_ast.specs.declared.query.Stream.{Stream}
use Rattle.ssq_ast.specs.declared.query.Watermark.{Watermark}
use Rattle.ssq_check.specs.declared.fault.BindFault.{BindFault}
use Rattle.ssq_check.specs.declared.scope.Key.{Key}
use Rattle.ssq_check.specs.declared.scope.Key.TheVariants as key
use Rattle.ssq_check.specs.declared.scope.Scope.{Scope}
use Rattle.ssq_check.specs.declared.scope.Source.{Source}
use Rattle.ssq_check.specs.declared.scope.Spot.{Spot}
use Rattle.ssq_check.specs.Scope.{bare_spot}

-- whether there is something
abbrev pub is_there : {A : Type 0} → Option A → Bool
is_there o = is_some o

-- the first stream that is declared under the name
abbrev pub declared : List Stream → List ℕ → Option Stream
declared [] name = None
declared (stream ∷ streams) name = if bytes_eq stream.name.text name then Some stream else declared streams name

abbrev pub column_of : ColumnDecl → Column
column_of decl = record { name = decl.name.text; kind = decl.kind }

abbrev pub columns_of : Stream → List Column
columns_of stream = map column_of stream.columns

abbrev pub watermark_name : Watermark → List ℕ
watermark_name watermark = watermark.column.text

-- what expressions see of a stream
abbrev pub source_of : Stream → Source
source_of stream = record { name = stream.name.text; columns = columns_of stream; watermark = option_map watermark_name stream.watermark }

-- the stream of FROM, where it is declared
abbrev pub left_stream : Query → Option Stream
left_stream query = declared query.streams query.select.from.text

abbrev pub join_stream : List Stream → Option Join → Option Stream
join_stream streams None = None
join_stream streams (Some join) = declared streams join.stream.text

-- the stream of JOIN, where it is declared
abbrev pub right_stream : Query → Option Stream
right_stream query = join_stream query.streams query.select.join

-- the names of rows
abbrev pub row_scope : Query → Scope
row_scope query = record {
  left = option_map source_of (left_stream query);
  right = option_map source_of (right_stream query);
  keys = [];
}

abbrev pub found_key : Result Spot BindFault → List Key
found_key (Ok spot) = key.Column spot ∷ []
found_key (Err f) = []

-- what GROUP BY lists, as far as its names are known; a window is a key even where its column is unknown
abbrev pub keys_of : Scope → Group → List Key
keys_of scope (group.Column ident) = found_key (bare_spot scope ident)
keys_of scope (group.Window window) = key.Window ∷ []

abbrev pub group_keys : Scope → Option GroupBy → List Key
group_keys scope None = []
group_keys scope (Some by) = flat_map (keys_of scope) by.items

-- the names of rows, with what GROUP BY lists
abbrev pub with_keys : Scope → List Key → Scope
with_keys names keys = record { left = names.left; right = names.right; keys = keys }

-- the names of rows and of groups
abbrev pub scope_of : Query → Scope
scope_of query = with_keys (row_scope query) (group_keys (row_scope query) query.select.group)
