-- Values that a query can give and keep.
use Rattle.std.specs.Prelude.{◌≤◌, length, FitsSigned}
use Rattle.std.specs.Int.{w64}
use Rattle.std.specs.Str.{IsUtf8}
use Rattle.ssq_time.specs.Time.{IsStampTime}
use Rattle.ssq_value.specs.declared.value.Value.{Value}
use Rattle.ssq_value.specs.declared.value.Value.TheVariants.{Null, Int, Text, Time, Truth}
use Rattle.ssq_shape.specs.Evaluation.{longest}

-- a number has 64 bits, a time is of the years 0001 to 9999, and a text is UTF-8 of at most 1,048,576 bytes
abbrev pub IsFit : Value → Type 0
IsFit Null = Unit {0}
IsFit (Int number) = FitsSigned w64 number
IsFit (Text text) = (length text ≤ longest) × IsUtf8 text
IsFit (Time time) = IsStampTime time
IsFit (Truth truth) = Unit {0}
