-- A text that is a time, and one that is a span.
use Rattle.std.proofs.Common.{◌≡◌, ℕ, ℤ, pos, true, refl, List, Option, Some, None}
use Rattle.std.specs.Prelude.{codes, is_some}
use Rattle.ssq_ast.specs.declared.expr.Moment.{Moment}
use Rattle.ssq_ast.specs.declared.expr.Span.{Span}
use Rattle.ssq_time.specs.Time.{digit_of, two_at, day_number, day_at_head, second_number, second_behind_day, micros_of, time_of, digits_after, number_of, unit_of, span_from, span_with, span_of}

held : (o : Option ℤ) → is_some o ≡ true → (micros : ℤ) × (o ≡ Some micros)
held (Some micros) is = (micros, refl)
held None is = absurd cc

abbrev some_text : List ℕ
some_text = codes "2000-01-01T00:00:00Z"

some_time : (micros : ℤ) × (time_of some_text ≡ Some micros)
unfolding time_of day_at_head two_at digit_of day_number second_behind_day second_number micros_of
some_time = held (time_of some_text) refl

pub some_moment : Moment
some_moment = record { text = some_text; micros = some_time.0 }

pub some_moment_is : time_of some_moment.text ≡ Some some_moment.micros
unfolding some_moment
some_moment_is = some_time.1

abbrev pub some_span : Span
some_span = record { text = codes "1 day"; micros = pos 86_400_000_000 }

pub some_span_is : span_of some_span.text ≡ Some some_span.micros
unfolding span_of span_with number_of digits_after digit_of unit_of span_from
some_span_is = refl
