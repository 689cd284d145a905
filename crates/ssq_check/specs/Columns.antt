-- Columns that are found by their names.
use Rattle.std.specs.Prelude.{◌≡◌, ℕ, List, position}
use Rattle.std.specs.Str.{bytes_eq}
use Rattle.indexmap.specs.IndexMap.{IndexMap, get}
use Rattle.ssq_value.specs.declared.column.Column.{Column}

-- the map has for each name the index of the first column of that name
abbrev pub FindsFirsts : {S : Type 0} → List Column → IndexMap (List ℕ) ℕ S → Type 0
FindsFirsts columns firsts = (name : List ℕ) → get bytes_eq firsts name ≡ position (λ column. bytes_eq column.name name) columns
