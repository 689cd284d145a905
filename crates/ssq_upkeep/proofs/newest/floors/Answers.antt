use Rattle.ssq_upkeep.proofs.Floors.{no_floors}
use Rattle.ssq_upkeep.proofs.newest.floors.Goals as goal

pub returns-in-None : goal.returns-in-None
returns-in-None c = rw c.no_versions.ensures (no_floors c.args.settled.now c.args.last 64 c.in-None.ensures)
