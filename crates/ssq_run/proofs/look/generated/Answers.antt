use Rattle.std.proofs.Common.{ap}
use Rattle.ssq_run.specs.Stopping.{stop_in}
use Rattle.ssq_run.proofs.Generating.{gen_as, gen_counts, gen_past}
use Rattle.ssq_run.proofs.look.generated.Goals as goal

pub returns-in-Err-clause-ended : goal.returns-in-Err-clause-ended
returns-in-Err-clause-ended g c = gen_as c.args.bound.now c.args.number c.args.lines _ (stop_in c.stopped.result.end) c.in-Err.stop c.stopped.ensures.1 (ap stop_in c.stopped.ensures.2) c.in-Err.ensures.stop

pub returns-in-Err-clause-only : goal.returns-in-Err-clause-only
returns-in-Err-clause-only g c = gen_past c.args.bound.now c.args.number c.args.lines _ (stop_in c.stopped.result.end) (returns-in-Err-clause-ended g c)

pub returns-in-Err-clause-cause : goal.returns-in-Err-clause-cause
returns-in-Err-clause-cause g c = gen_counts 0 0 0 0 0 0 c.args.bound.now c.args.number c.args.lines _ (stop_in c.stopped.result.end) (returns-in-Err-clause-ended g c)
