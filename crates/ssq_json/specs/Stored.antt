-- Rows as they stand in a file: one line each.
use Rattle.std.specs.Prelude.{◌≡◌, ℕ, List, [], ◌∷◌, ◌++◌, FitsSigned}
use Rattle.std.specs.Int.{w64}
use Rattle.std.specs.List.{All, flat_map}
use Rattle.std.specs.Str.{IsUtf8}
use Rattle.ssq_time.specs.Time.{IsStampTime}
use Rattle.ssq_value.specs.declared.column.ColType.{ColType}
use Rattle.ssq_value.specs.declared.value.Value.{Value}
use Rattle.ssq_value.specs.Kind.{IsHeldBy, IfTime}
use Rattle.ssq_json.specs.Fits.{IfInt, IfText}
use Rattle.ssq_json.specs.RowText.{row_text}

-- A column of this type may hold the value, and it has a text: it is NULL or of the type, a number has 64 bits, a time is of the years 0001 to
-- 9999, and a text is UTF-8.
pub record IsStoredIn (kind : ColType) (value : Value) : Type 0 where
  pub held : IsHeldBy kind value
  pub number : IfInt (FitsSigned w64) value
  pub time : IfTime IsStampTime value
  pub text : IfText IsUtf8 value

-- the row has such a value for each column, from the left
abbrev pub AreStoredIn : List ColType → List Value → Type 0
AreStoredIn [] [] = Unit {0}
AreStoredIn [] (value ∷ row) = ⊥
AreStoredIn (kind ∷ kinds) [] = ⊥
AreStoredIn (kind ∷ kinds) (value ∷ row) = IsStoredIn kind value × AreStoredIn kinds row

-- the text of the row, whose columns have these names, and a line feed
abbrev pub line_of : List (List ℕ) → List Value → List ℕ
line_of names row = row_text names row ++ 10 ∷ []

-- the lines of rows
abbrev pub lines_of : List (List ℕ) → List (List Value) → List ℕ
lines_of names rows = flat_map (line_of names) rows

-- The bytes are canonical rows of columns with these names and types, and they are these rows. They need not be sorted.
pub record AreRows (names : List (List ℕ)) (kinds : List ColType) (bytes : List ℕ) (rows : List (List Value)) : Type 0 where
  pub stored : All (AreStoredIn kinds) rows
  pub text : bytes ≡ lines_of names rows
