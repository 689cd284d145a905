use Rattle.ssq_run.proofs.Telling.{said}
use Rattle.ssq_run.proofs.tell.say.Goals as goal

pub returns-clause-wrote : goal.returns-clause-wrote
returns-clause-wrote g c = λ tells. said c.put.result _ _ c.args.line.now (c.put.ensures.ok tells) (c.put.ensures.fault tells)
