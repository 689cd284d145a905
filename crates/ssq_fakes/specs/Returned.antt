-- What logs answered that were given back.
use Rattle.std.specs.Prelude.{ℕ, List, [], ◌∷◌, replicate}
use Rattle.ssq_fakes.specs.declared.returned.Answers.{Answers}
use Rattle.ssq_fakes.specs.declared.returned.Returned.{Returned, Empty, Then'}

-- the answers of a log, the first one first: all are the number of its lines, since these are all there from the start
abbrev pub answers_of : Answers → List ℕ
answers_of answers = replicate answers.asked answers.lines

-- the answers of each log that was given back, the last one first
abbrev pub returned_of : Returned → List (List ℕ)
returned_of Empty = []
returned_of (Then' answers p older) = answers_of answers ∷ returned_of older
