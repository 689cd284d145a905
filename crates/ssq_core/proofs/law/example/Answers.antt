use Rattle.ssq_core.proofs.OneEpoch.{example_runs}
use Rattle.ssq_core.proofs.law.example.Goals as goal

pub returns : goal.returns
returns g c = example_runs g.D.Disk.tells
