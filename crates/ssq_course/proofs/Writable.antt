-- The plan of an epoch can be written.
use Rattle.std.proofs.Common.{◌≡◌, ◌<◌, ◌≤◌, ◌+◌, ◌^◌, ◌==◌, [], ◌∷◌, ℕ, List, true, subst, arith}
use Rattle.std.specs.Prelude.{All}
use Rattle.std.proofs.lemmas.Bool.{eqb-true}
use Rattle.std.proofs.lemmas.List.Elements.{All-cons, All-nil, All-head, All-tail}
use Rattle.ssq_plans.specs.declared.part.PartEnd.{PartEnd}
use Rattle.ssq_plans.specs.Records.{IsPart}
use Rattle.ssq_meaning.specs.Parts.{Part}
use Rattle.ssq_core.specs.Course.{Ends}
use Rattle.ssq_core.proofs.Holding.{both_are}
use Rattle.ssq_logs.specs.Asked.{most_lines}
use Rattle.ssq_course.specs.Setting.{parts_in, is_end_of, is_within}
use Rattle.ssq_course.specs.Laws.{IsFit, PlansCanBeWritten}
use Rattle.ssq_course.proofs.Proper.{going, is_next_if}

-- an end of a part that is not above the most that are taken of a log
end_is_part : (part : Part) (end : PartEnd) → IsFit part → is_end_of part end ≡ true → end.end ≤ most_lines → IsPart end
end_is_part part end fit of few =
    let same = both_are (part.stream == end.stream) (part.part == end.part) of in
    let stream = eqb-true part.stream end.stream same.0 in
    let number = eqb-true part.part end.part same.1 in
    (subst (λ (n : ℕ). n < 2 ^ 32) stream fit.0, subst (λ (n : ℕ). n < 2 ^ 32) number fit.1, omega (arith, few))

within_parts : (parts : List Part) (froms tos : Ends) → All IsFit parts → is_within parts froms tos ≡ true → All IsPart tos
within_parts [] [] [] fit is = All-nil IsPart
within_parts [] [] (to ∷ tos) fit is = cc
within_parts [] (from ∷ froms) tos fit is = cc
within_parts (part ∷ parts) [] tos fit is = cc
within_parts (part ∷ parts) (from ∷ froms) [] fit is = cc
within_parts (part ∷ parts) (from ∷ froms) (to ∷ tos) fit is =
    let goes = going part parts from to froms tos is in
    All-cons IsPart to tos (end_is_part part to (All-head IsFit part parts fit) goes.to_own goes.few) (within_parts parts froms tos (All-tail IsFit part parts fit) goes.rest)

pub can_be_written : PlansCanBeWritten
can_be_written s cuts e fit next few stamp = (few, stamp, within_parts (parts_in s) (cuts e) (cuts (e + 1)) fit (is_next_if s cuts e next).within)
