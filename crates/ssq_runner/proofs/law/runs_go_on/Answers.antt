use Rattle.ssq_runner.proofs.Completing.{goes_on, finds_none, meets_none}
use Rattle.ssq_runner.proofs.law.runs_go_on.Goals as goal

pub returns-clause-goes_on : goal.returns-clause-goes_on
returns-clause-goes_on g c = goes_on g.I.Inputs.tells (g.D.Disk.tells × g.I.Log.Log.tells) g.I.Log.Log.lines g.I.Log.Log.available g.I.Log.Log.answers g.I.Log.Log.faults g.O.Output.tells

pub returns-clause-no_limit : goal.returns-clause-no_limit
returns-clause-no_limit g c =
    meets_none g.I.Inputs.tells (g.D.Disk.tells × g.I.Log.Log.tells) g.I.Log.Log.lines g.I.Log.Log.available g.I.Log.Log.answers g.I.Log.Log.faults g.O.Output.tells
    c.job_is_wanted.ensures.wanted c.job_is_wanted.ensures.parts c.plans_say_their_cuts.ensures.files c.tasks_have_terms.ensures.dues c.epochs_without_lines_are_quiet.ensures.watermark

pub returns-clause-no_fault : goal.returns-clause-no_fault
returns-clause-no_fault g c =
    finds_none g.I.Inputs.tells (g.D.Disk.tells × g.I.Log.Log.tells) g.I.Log.Log.lines g.I.Log.Log.available g.I.Log.Log.answers g.I.Log.Log.faults g.O.Output.tells
    c.job_is_wanted.ensures.wanted c.job_is_wanted.ensures.parts c.plans_say_their_cuts.ensures.files c.tasks_have_terms.ensures.dues c.epochs_without_lines_are_quiet.ensures.watermark
