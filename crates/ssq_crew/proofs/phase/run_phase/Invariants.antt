-- The places before this one are run, and the others as they were.
use Rattle.ssq_crew.specs.Places.{AreRunTo}
use Rattle.ssq_crew.proofs.phase.run_phase.Given as goal

abbrev pub invariant-loop-place : goal.invariant-loop-place
invariant-loop-place g l = AreRunTo g.T.Task.is_result l.fn.places l.places l.place-index
