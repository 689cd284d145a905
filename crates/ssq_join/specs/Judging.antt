-- What is evaluated on joined rows, as the code has it.
use Rattle.std.specs.Prelude.{Bool, if◌then◌else◌, List, Option, None, Result, Ok}
use Rattle.ssq_shape.specs.declared.bound.Bound.{Bound}
use Rattle.ssq_shape.specs.declared.bound.Joining.{Joining}
use Rattle.ssq_shape.specs.declared.typed.Typed.{Typed}
use Rattle.ssq_shape.specs.Evaluation.{Overflow, and_then, is_true}
use Rattle.ssq_shape.specs.Plain.{shown}
use Rattle.ssq_meaning.specs.Join.{all_of}
use Rattle.ssq_meaning.specs.Meaning.{Values, is_true_answer}

-- whether all of some conditions are TRUE on a row
abbrev pub are_true : List Typed → Values → Result Bool Overflow
are_true conditions row = and_then (all_of conditions row) (λ on. Ok (is_true on))

-- the rest of ON on a joined row
abbrev pub on_row : Joining → Values → Result Bool Overflow
on_row joining row = are_true joining.rest row

abbrev pub is_met : Joining → Values → Bool
is_met joining row = is_true_answer (on_row joining row)

-- WHERE, where ON is TRUE, and where WHERE is TRUE the items of SELECT
abbrev pub judged_row : Bound → Joining → Values → Result (Option Values) Overflow
judged_row query joining row = and_then (on_row joining row) (λ on. if on then shown query row else Ok None)
