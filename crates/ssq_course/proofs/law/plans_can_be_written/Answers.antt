use Rattle.ssq_course.proofs.Writable.{can_be_written}
use Rattle.ssq_course.proofs.law.plans_can_be_written.Goals as goal

pub returns : goal.returns
returns c = can_be_written
