use Rattle.ssq_course.proofs.Growing.{stands_grown, stands_or_empty_grown}
use Rattle.ssq_course.proofs.law.checkpoints_stand_as_logs_grow.Goals as goal

pub returns-clause-stands : goal.returns-clause-stands
returns-clause-stands c = stands_grown

pub returns-clause-or_empty : goal.returns-clause-or_empty
returns-clause-or_empty c = stands_or_empty_grown
