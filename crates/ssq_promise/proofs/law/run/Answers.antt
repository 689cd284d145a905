use Rattle.ssq_promise.proofs.Leaving.{run_is_kept}
use Rattle.ssq_promise.proofs.law.run.Goals as goal

pub returns : goal.returns
returns g c = run_is_kept (g.D.Disk.tells × g.L.Log.tells)
