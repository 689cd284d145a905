-- Vectors of vectors as lists.
use Rattle.std.specs.Prelude.{List, map}
use Rattle.std.specs.Global.{Vec}
use Rattle.ssq_meaning.specs.Epochs.{joined}

-- what they hold, one after the other
abbrev pub joined_vecs : {A : Type 0} → List (Vec A) → List A
joined_vecs vecs = joined (map (λ vec. vec.items) vecs)
