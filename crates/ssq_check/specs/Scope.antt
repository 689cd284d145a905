-- What names mean.
use Rattle.std.specs.Prelude.{ℕ, Bool, false, ◌&&◌, ◌||◌, if◌then◌else◌, List, [], ◌∷◌, slice_get, position, Option, Some, None, Result, Ok, Err}
use Rattle.std.specs.Str.{bytes_eq}
use Rattle.ssq_value.specs.declared.column.ColType.{ColType}
use Rattle.ssq_value.specs.declared.column.ColType.TheVariants as kind
use Rattle.ssq_value.specs.declared.column.Column.{Column}
use Rattle.ssq_ast.specs.declared.expr.ColumnRef.{ColumnRef}
use Rattle.ssq_ast.specs.declared.expr.Ident.{Ident}
use Rattle.ssq_check.specs.declared.fault.Cause.TheVariants as cause
use Rattle.ssq_check.specs.declared.fault.BindFault.{BindFault}
use Rattle.ssq_check.specs.declared.scope.Key.{Key}
use Rattle.ssq_check.specs.declared.scope.Scope.{Scope}
use Rattle.ssq_check.specs.declared.scope.Side.{Side}
use Rattle.ssq_check.specs.declared.scope.Side.TheVariants as side
use Rattle.ssq_check.specs.declared.scope.Source.{Source}
use Rattle.ssq_check.specs.declared.scope.Spot.{Spot}
use Rattle.ssq_check.specs.declared.scope.Within.{Within}
use Rattle.ssq_check.specs.declared.scope.Within.TheVariants as within
pub use Rattle.ssq_check.specs.Keys.{is_window_key, has_window, is_same_side, is_key_of, is_key}

abbrev pub spot_from : Side → ℕ → Option Column → Option Spot
spot_from own at None = None
spot_from own at (Some column) = Some (record { side = own; index = at; kind = column.kind })

abbrev pub spot_at : Side → List Column → ℕ → Option Spot
spot_at own columns at = spot_from own at (slice_get columns at)

abbrev pub spot_where : Side → List Column → Option ℕ → Option Spot
spot_where own columns None = None
spot_where own columns (Some at) = spot_at own columns at

-- the first column of this name
abbrev pub in_columns : Side → List Column → List ℕ → Option Spot
in_columns own columns name = spot_where own columns (position (λ column. bytes_eq column.name name) columns)

abbrev pub in_source : Side → Option Source → List ℕ → Option Spot
in_source own None name = None
in_source own (Some source) name = in_columns own source.columns name

-- a bare name is that of a column of one stream; where both have it, it is doubled
abbrev pub only_one : Option Spot → Option Spot → ℕ → Result Spot BindFault
only_one (Some left) (Some right) at = Err (record { at = at; cause = cause.DoubleName })
only_one (Some left) None at = Ok left
only_one None (Some right) at = Ok right
only_one None None at = Err (record { at = at; cause = cause.UnknownName })

abbrev pub bare_spot : Scope → Ident → Result Spot BindFault
bare_spot scope name = only_one (in_source side.Left scope.left name.text) (in_source side.Right scope.right name.text) name.at

abbrev pub source_named : Option Source → List ℕ → Bool
source_named None name = false
source_named (Some source) name = bytes_eq source.name name

abbrev pub known : Option Spot → ℕ → Result Spot BindFault
known None at = Err (record { at = at; cause = cause.UnknownName })
known (Some spot) at = Ok spot

-- `s.v`: of two streams of one name the first; of two unknown names the first
abbrev pub named_spot : Scope → Ident → Ident → Result Spot BindFault
named_spot scope stream column =
    if source_named scope.left stream.text then known (in_source side.Left scope.left column.text) column.at
    else if source_named scope.right stream.text then known (in_source side.Right scope.right column.text) column.at
    else Err (record { at = stream.at; cause = cause.UnknownName })

-- `window_start` and `window_end`
abbrev pub is_window_name : List ℕ → Bool
is_window_name name =
    bytes_eq name (119 ∷ 105 ∷ 110 ∷ 100 ∷ 111 ∷ 119 ∷ 95 ∷ 115 ∷ 116 ∷ 97 ∷ 114 ∷ 116 ∷ [])
    || bytes_eq name (119 ∷ 105 ∷ 110 ∷ 100 ∷ 111 ∷ 119 ∷ 95 ∷ 101 ∷ 110 ∷ 100 ∷ [])

-- the name is that of the window's start or end, where the expression stands
abbrev pub is_window_here : Scope → Within → List ℕ → Bool
is_window_here scope within.Row name = false
is_window_here scope within.Group name = has_window scope.keys && is_window_name name

abbrev pub grouped : List Key → Within → ℕ → Result Spot BindFault → Result ColType BindFault
grouped keys w at (Err f) = Err f
grouped keys within.Row at (Ok spot) = Ok spot.kind
grouped keys within.Group at (Ok spot) = if is_key keys spot then Ok spot.kind else Err (record { at = at; cause = cause.NotGrouped })

abbrev pub bare_kind : Scope → Within → Ident → Result ColType BindFault
bare_kind scope w name =
    if is_window_here scope w name.text then Ok kind.Timestamp
    else grouped scope.keys w name.at (bare_spot scope name)

abbrev pub column_kind_by : Scope → Within → Option Ident → Ident → Result ColType BindFault
column_kind_by scope w None column = bare_kind scope w column
column_kind_by scope w (Some stream) column = grouped scope.keys w stream.at (named_spot scope stream column)

-- the type of a column, or what is wrong with its name where it stands
abbrev pub column_kind : Scope → Within → ColumnRef → Result ColType BindFault
column_kind scope w column = column_kind_by scope w column.stream column.column
