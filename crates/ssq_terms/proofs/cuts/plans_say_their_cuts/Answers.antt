use Rattle.ssq_terms.proofs.Cutting.{plans_say, files_say}
use Rattle.ssq_terms.proofs.cuts.plans_say_their_cuts.Goals as goal

pub returns-clause-plans : goal.returns-clause-plans
returns-clause-plans c = plans_say c.records_are_apart.ensures

pub returns-clause-files : goal.returns-clause-files
returns-clause-files c = files_say c.records_are_apart.ensures c.files_say_their_course.ensures
