-- Values that can be kept can be printed.
use Rattle.std.specs.Prelude.{All}
use Rattle.std.proofs.lemmas.List.Elements.{All-weaker}
use Rattle.ssq_time.specs.Time.{IsStampTime}
use Rattle.ssq_value.specs.declared.value.Value.{Value}
use Rattle.ssq_value.specs.declared.value.Value.TheVariants.{Null, Int, Text, Time, Truth}
use Rattle.ssq_value.specs.Kind.{IfTime}
use Rattle.ssq_meaning.specs.Fit.{IsFit}
use Rattle.ssq_meaning.specs.Meaning.{Values}

-- a value that can be kept can be printed
fit_time : (value : Value) → IsFit value → IfTime IsStampTime value
fit_time Null fit = tt
fit_time (Int number) fit = tt
fit_time (Text text) fit = tt
fit_time (Time time) fit = fit
fit_time (Truth truth) fit = tt

-- and so can each of a list
pub fit_times : (values : Values) → All IsFit values → All (IfTime IsStampTime) values
fit_times values fit = All-weaker IsFit (IfTime IsStampTime) fit_time values fit
