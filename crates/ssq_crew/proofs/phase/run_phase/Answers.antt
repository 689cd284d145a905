use Rattle.ssq_crew.proofs.Phases.{none_run, one_more_run, all_run}
use Rattle.ssq_crew.proofs.phase.run_phase.Goals as goal

pub loop-place-init : goal.loop-place-init
loop-place-init g c = none_run g.T.Task.is_result c.args.places.now

pub loop-place-preserved : goal.loop-place-preserved
loop-place-preserved g c =
    one_more_run g.T.Task.is_result c.args.places.now c.loop-place.places c.loop-place.place-index c.place-item.result c.run.new.self c.loop-place.invariant c.loop-place.auto.places c.loop-place-test.true c.run.ensures

pub returns : goal.returns
returns g c = all_run g.T.Task.is_result c.args.places.now c.loop-place.places c.loop-place.place-index c.loop-place.invariant c.loop-place.auto.places c.loop-place-test.false
