-- Logs that were opened, part by part.
use Rattle.std.specs.Prelude.{◌≡◌, ◌≤◌, ◌+◌, ◌++◌, ℕ, zero, suc, List, [], ◌∷◌}
use Rattle.ssq_outside.specs.Logs.{Held, Line}
use Rattle.ssq_shape.specs.declared.bound.Stream.{Stream}

-- a part of the stream of this source
pub record Part : Type 0 where
  pub source : List ℕ
  pub number : ℕ

-- so many parts of a stream, from this one on
abbrev pub parts_from : List ℕ → (number left : ℕ) → List Part
parts_from source number zero = []
parts_from source number (suc left) = record { source = source; number = number } ∷ parts_from source (number + 1) left

-- so many parts of each stream, in order
abbrev pub parts_of : List Stream → List ℕ → List Part
parts_of [] counts = []
parts_of (stream ∷ streams) [] = []
parts_of (stream ∷ streams) (count ∷ counts) = parts_from stream.source 0 count ++ parts_of streams counts

module _ {L : Type 0} (tells : Type 0) (lines : L → List Line) (available : L → ℕ) (answers : L → List ℕ) (faults : L → ℕ) where
  -- The log of a part, as it is opened: it has the part's lines, of which those are there that were known to be; it was asked nothing, and
  -- has not failed.
  pub record IsLogOf (held : Held) (known : List ℕ → ℕ → ℕ) (part : Part) (log : L) : Type 0 where
    pub right : tells → lines log ≡ held.lines part.source part.number
    pub begins : tells → known part.source part.number ≤ available log
    pub unasked : tells → answers log ≡ []
    pub fresh : faults log ≡ 0

  -- one log for each part
  abbrev pub AreLogsOf : Held → (List ℕ → ℕ → ℕ) → List Part → List L → Type 0
  AreLogsOf held known [] [] = Unit {0}
  AreLogsOf held known [] (log ∷ logs) = ⊥
  AreLogsOf held known (part ∷ parts) [] = ⊥
  AreLogsOf held known (part ∷ parts) (log ∷ logs) = IsLogOf held known part log × AreLogsOf held known parts logs

  -- the logs of these parts stand after those that were there
  pub record AreOpened (held : Held) (known : List ℕ → ℕ → ℕ) (parts : List Part) (before after : List L) : Type 0 where
    pub more : List L
    pub behind : after ≡ before ++ more
    pub are : AreLogsOf held known parts more

  -- The logs of the first of these parts do; the next one's could not be had.
  pub record AreOpenedUpTo (held : Held) (known : List ℕ → ℕ → ℕ) (parts : List Part) (before after : List L) : Type 0 where
    pub first : List Part
    pub next : Part
    pub rest : List Part
    pub split : parts ≡ first ++ (next ∷ rest)
    pub opened : AreOpened held known first before after
