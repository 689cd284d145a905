use Rattle.ssq_course.proofs.Causal.{are_causal}
use Rattle.ssq_course.proofs.law.jobs_are_causal.Goals as goal

pub returns : goal.returns
returns c = are_causal
