use Rattle.ssq_promise.proofs.Knowing.{round_knows_state}
use Rattle.ssq_promise.proofs.law.states.Goals as goal

pub returns : goal.returns
returns g c = round_knows_state (g.D.Disk.tells × g.L.Log.tells)
