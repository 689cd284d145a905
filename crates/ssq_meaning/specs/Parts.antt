-- The parts of a job's streams.
use Rattle.std.specs.Prelude.{◌≡◌, ℕ, zero, suc, ◌+◌, List, [], ◌∷◌, ◌++◌}
use Rattle.ssq_meaning.specs.Meaning.{Line}

-- A part of a stream: the stream's place in the order of FROM, the part's own number, and all the lines that it will come to hold.
pub record Part : Type 0 where
  pub stream : ℕ
  pub part : ℕ
  pub lines : List Line

-- The parts from this one on, of a stream that still has so many, and then those of the streams after it. Where there are fewer lists
-- of lines than parts, there are no more parts.
unfoldable pub parts_from : (stream part left : ℕ) → (counts : List ℕ) → (lines : List (List Line)) → List Part
parts_from stream part left counts [] = []
parts_from stream part (suc left) counts (own ∷ lines) =
    record { stream = stream; part = part; lines = own } ∷ parts_from stream (part + 1) left counts lines
parts_from stream part zero [] (own ∷ lines) = []
parts_from stream part zero (count ∷ counts) (own ∷ lines) = parts_from (stream + 1) 0 count counts (own ∷ lines)

-- The parts of stream 0, of stream 1, and so on: how many parts each stream has, and the lines of each part in order.
abbrev pub parts_of : (counts : List ℕ) → (lines : List (List Line)) → List Part
parts_of [] lines = []
parts_of (count ∷ counts) lines = parts_from 0 0 count counts lines

-- A log has grown: the lines that it had come first, and then the others.
pub record IsGrown (old longer : List Line) : Type 0 where
  pub more : List Line
  pub is : longer ≡ old ++ more

-- There are as many logs as before, and each has grown, by no line or by some.
abbrev pub AreGrown : (lines longer : List (List Line)) → Type 0
AreGrown [] [] = Unit {0}
AreGrown [] (next ∷ longer) = ⊥
AreGrown (old ∷ lines) [] = ⊥
AreGrown (old ∷ lines) (next ∷ longer) = IsGrown old next × AreGrown lines longer
