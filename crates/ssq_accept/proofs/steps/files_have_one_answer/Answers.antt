use Rattle.ssq_accept.proofs.OneAnswer.{accepted_are_taken, are_refused_alike}
use Rattle.ssq_accept.proofs.steps.files_have_one_answer.Goals as goal

pub returns-clause-accepted : goal.returns-clause-accepted
returns-clause-accepted c = accepted_are_taken

pub returns-clause-refused : goal.returns-clause-refused
returns-clause-refused c = are_refused_alike
