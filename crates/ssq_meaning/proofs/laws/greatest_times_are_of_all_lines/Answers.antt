use Rattle.ssq_meaning.proofs.Greatest.{seen_is, water_is, water_before_is}
use Rattle.ssq_meaning.proofs.laws.greatest_times_are_of_all_lines.Goals as goal

pub returns-clause-seen : goal.returns-clause-seen
returns-clause-seen c = seen_is

pub returns-clause-watermark : goal.returns-clause-watermark
returns-clause-watermark c = water_is

pub returns-clause-before : goal.returns-clause-before
returns-clause-before c = water_before_is
