-- What holds of each column of a stream holds of the column that a name means.
use Rattle.std.proofs.Common.{◌≡◌, refl, ℕ, Bool, true, false, List, Option, Some, None, Result}
use Rattle.std.specs.Prelude.{slice_get, position, if◌then◌else◌, IfSome, IfOk}
use Rattle.std.specs.Str.{bytes_eq}
use Rattle.ssq_value.specs.declared.column.Column.{Column}
use Rattle.ssq_ast.specs.declared.expr.Ident.{Ident}
use Rattle.ssq_check.specs.declared.fault.BindFault.{BindFault}
use Rattle.ssq_check.specs.declared.scope.Scope.{Scope}
use Rattle.ssq_check.specs.declared.scope.Side.{Side}
use Rattle.ssq_check.specs.declared.scope.Side.TheVariants as side
use Rattle.ssq_check.specs.declared.scope.Source.{Source}
use Rattle.ssq_check.specs.declared.scope.Spot.{Spot}
use Rattle.ssq_check.specs.Joined.{spot_by}
use Rattle.ssq_check.specs.Scope.{spot_from, spot_where, in_source, only_one, known, source_named}

abbrev pub side_source : Scope → Side → Option Source
side_source scope side.Left = scope.left
side_source scope side.Right = scope.right

-- P holds of each column of the streams
abbrev pub OfColumns : Scope → (Spot → Type 0) → Type 0
OfColumns scope P = (own : Side) (source : Source) (at : ℕ) (column : Column) → side_source scope own ≡ Some source → slice_get source.columns at ≡ Some column
    → P (record { side = own; index = at; kind = column.kind })

module _ (scope : Scope) (P : Spot → Type 0) (each : OfColumns scope P) where
  from : (own : Side) (source : Source) (at : ℕ) (got : Option Column) → side_source scope own ≡ Some source → slice_get source.columns at ≡ got → IfSome (spot_from own at got) P
  from own source at None stands is = tt
  from own source at (Some column) stands is = each own source at column stands is

  placed : (own : Side) (source : Source) (place : Option ℕ) → side_source scope own ≡ Some source → IfSome (spot_where own source.columns place) P
  placed own source None stands = tt
  placed own source (Some at) stands = from own source at (slice_get source.columns at) stands refl

  sourced : (own : Side) (source : Option Source) (name : List ℕ) → side_source scope own ≡ source → IfSome (in_source own source name) P
  sourced own None name is = tt
  sourced own (Some source) name is = placed own source (position (λ (column : Column). bytes_eq column.name name) source.columns) is

  one_of_both : (left right : Option Spot) (at : ℕ) → IfSome left P → IfSome right P → IfOk (only_one left right at) P
  one_of_both (Some left) (Some right) at p q = tt
  one_of_both (Some left) None at p q = p
  one_of_both None (Some right) at p q = q
  one_of_both None None at p q = tt

  known_one : (o : Option Spot) (at : ℕ) → IfSome o P → IfOk (known o at) P
  known_one None at p = tt
  known_one (Some spot) at p = p

  chosen : (a b : Bool) (x y z : Result Spot BindFault) → IfOk x P → IfOk y P → IfOk z P → IfOk (if a then x else if b then y else z) P
  chosen true b x y z p q r = p
  chosen false true x y z p q r = q
  chosen false false x y z p q r = r

  pub of_spot : (stream : Option Ident) (column : Ident) → IfOk (spot_by scope stream column) P
  of_spot None column = one_of_both (in_source side.Left scope.left column.text) (in_source side.Right scope.right column.text) column.at (sourced side.Left scope.left column.text refl) (sourced side.Right scope.right column.text refl)
  of_spot (Some stream) column =
      chosen (source_named scope.left stream.text) (source_named scope.right stream.text) _ _ _
      (known_one (in_source side.Left scope.left column.text) column.at (sourced side.Left scope.left column.text refl))
      (known_one (in_source side.Right scope.right column.text) column.at (sourced side.Right scope.right column.text refl))
      tt
