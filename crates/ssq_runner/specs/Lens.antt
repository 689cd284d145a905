-- The lines that were found in all parts, apart by stream.
use Rattle.std.specs.Prelude.{ℕ, List, [], ◌∷◌, take, drop}
use Rattle.ssq_open.specs.declared.wanted.Lens.{Lens}

-- as many of them as the first stream has parts, then those of the next, and so on
abbrev pub apart : (counts found : List ℕ) → List (List ℕ)
apart [] found = []
apart (count ∷ counts) found = take count found ∷ apart counts (drop count found)

abbrev pub lens_of : (counts found : List ℕ) → Lens
lens_of counts found = record { streams = apart counts found }
