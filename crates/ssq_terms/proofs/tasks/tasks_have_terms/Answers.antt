use Rattle.ssq_terms.proofs.Faults.{task_faults}
use Rattle.ssq_terms.proofs.Dealing.{have_terms, dues_are, ends_of_parts}
use Rattle.ssq_terms.proofs.tasks.tasks_have_terms.Goals as goal

pub returns-clause-terms : goal.returns-clause-terms
returns-clause-terms c = have_terms c.jobs_are_causal.ensures c.epochs_hang_on_their_cuts.ensures c.epochs_without_lines_are_quiet.ensures.watermark

pub returns-clause-dues : goal.returns-clause-dues
returns-clause-dues c = dues_are

pub returns-clause-ends : goal.returns-clause-ends
returns-clause-ends c = ends_of_parts

pub returns-clause-faults : goal.returns-clause-faults
returns-clause-faults c = task_faults
