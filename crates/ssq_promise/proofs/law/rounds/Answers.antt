use Rattle.ssq_promise.proofs.Coming.{round_goes_on}
use Rattle.ssq_promise.proofs.Joining.{nothing_is_run, round_is_run, runs_are_joined}
use Rattle.ssq_promise.proofs.Leaving.{round_leaves_found}
use Rattle.ssq_promise.proofs.Truths.{opened_true, round_leaves_true}
use Rattle.ssq_promise.proofs.law.rounds.Goals as goal

pub returns-clause-nothing : goal.returns-clause-nothing
returns-clause-nothing g c = nothing_is_run (g.D.Disk.tells × g.L.Log.tells)

pub returns-clause-round : goal.returns-clause-round
returns-clause-round g c = round_is_run (g.D.Disk.tells × g.L.Log.tells)

pub returns-clause-joined : goal.returns-clause-joined
returns-clause-joined g c = runs_are_joined (g.D.Disk.tells × g.L.Log.tells)

pub returns-clause-over : goal.returns-clause-over
returns-clause-over g c = round_leaves_found (g.D.Disk.tells × g.L.Log.tells)

pub returns-clause-files : goal.returns-clause-files
returns-clause-files g c = round_leaves_true (g.D.Disk.tells × g.L.Log.tells)

pub returns-clause-opened : goal.returns-clause-opened
returns-clause-opened g c = opened_true

pub returns-clause-on : goal.returns-clause-on
returns-clause-on g c = round_goes_on (g.D.Disk.tells × g.L.Log.tells)
