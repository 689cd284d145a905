use Rattle.std.proofs.Common.{refl}
use Rattle.ssq_check.specs.Checked.{checked}
use Rattle.ssq_check.specs.Rules.{is_divisor}
use Rattle.ssq_check.proofs.whole.small_values.Goals as goal

pub returns : goal.returns
unfolding checked is_divisor
returns c = record { span = refl; shifted = refl; typed = refl; divisor = refl; unknown = refl; least = refl; nested = refl; inner = refl; aggregate = refl; grouped = refl; ungrouped = refl }
