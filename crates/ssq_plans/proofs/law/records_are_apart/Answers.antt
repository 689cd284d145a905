-- The law of records rests on that of decimal numbers and on what is read back of a time.
use Rattle.ssq_plans.proofs.Apart.{records_apart}
use Rattle.ssq_plans.proofs.law.records_are_apart.Goals as goal

pub returns : goal.returns
returns c = records_apart
