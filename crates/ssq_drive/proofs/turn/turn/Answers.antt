use Rattle.std.proofs.Common.{◌∙◌, sym}
use Rattle.ssq_shape.specs.Late.{closes}
use Rattle.ssq_desk.specs.Results.{cause_of_feed, cause_of_failed, delta_of, fault_of}
use Rattle.ssq_desk.specs.Published.{cause_of_left}
use Rattle.ssq_board.proofs.Resting.{never_idle}
use Rattle.ssq_drive.proofs.Doing.{at_version, back_as, claimed_as, fed_may, fed_turn, reduced_may, reduced_turn, gathered_may, gathered_turn, task_as}
use Rattle.ssq_drive.proofs.Goods.{claimed_good, fed_good, published_good, reduced_good}
use Rattle.ssq_drive.proofs.turn.turn.Goals as goal

pub feed-requires-clause-windows : goal.feed-requires-clause-windows
feed-requires-clause-windows g c = (let of = task_as _ _ c.in-Map.is g.D.Disk.tells g.L.Log.tells g.D.Disk.history g.L.Log.lines g.L.Log.available g.L.Log.answers g.L.Log.faults g.D.Stage.Stage.written c.claim.new.self c.in-Some.ensures.task in of.view.windows)

pub report_fed-requires-clause-may : goal.report_fed-requires-clause-may
report_fed-requires-clause-may g c = fed_may g.L.Log.tells g.L.Log.lines g.L.Log.available g.L.Log.answers g.L.Log.faults c.in-Map.task c.feed.result c.feed.ensures c.claim.new.self.scope c.claim.new.self.core (back_as _ _ c.in-Map.is c.claim.new.self c.in-Some.ensures.back) (fault_of (cause_of_feed c.feed.result.stream c.feed.result.part) c.feed.result.outcome)

pub report_fed-requires-clause-of : goal.report_fed-requires-clause-of
report_fed-requires-clause-of g c = (let of = task_as _ _ c.in-Map.is g.D.Disk.tells g.L.Log.tells g.D.Disk.history g.L.Log.lines g.L.Log.available g.L.Log.answers g.L.Log.faults g.D.Stage.Stage.written c.claim.new.self c.in-Some.ensures.task in (c.in-Map.task, of, c.feed.ensures))

pub returns-in-Map-clause-done : goal.returns-in-Map-clause-done
returns-in-Map-clause-done g c = λ did_some.
    let old = c.args.desk.now in
    let claimed = claimed_as _ _ c.in-Map.is old c.claim.new.self c.in-Some.ensures.claimed in
    fed_turn g.L.Log.tells g.L.Log.lines g.L.Log.available g.L.Log.answers g.L.Log.faults c.in-Map.task c.feed.result c.feed.ensures g.D.Disk.faults (closes c.args.desk.now.opening.view.bound.now) old c.claim.new.self c.report_fed.new.self c.is_in_order.ensures.sound c.requires.rest claimed.0 claimed.1 c.report_fed.ensures.did

pub reduce-requires-clause-windows : goal.reduce-requires-clause-windows
reduce-requires-clause-windows g c = (let of = task_as _ _ c.in-Reduce.is g.D.Disk.tells g.L.Log.tells g.D.Disk.history g.L.Log.lines g.L.Log.available g.L.Log.answers g.L.Log.faults g.D.Stage.Stage.written c.claim.new.self c.in-Some.ensures.task in of.view.windows)

pub reduce-requires-clause-fit : goal.reduce-requires-clause-fit
reduce-requires-clause-fit g c = (let of = task_as _ _ c.in-Reduce.is g.D.Disk.tells g.L.Log.tells g.D.Disk.history g.L.Log.lines g.L.Log.available g.L.Log.answers g.L.Log.faults g.D.Stage.Stage.written c.claim.new.self c.in-Some.ensures.task in of.fit)

pub reduce-requires-clause-version : goal.reduce-requires-clause-version
reduce-requires-clause-version g c = (let of = task_as _ _ c.in-Reduce.is g.D.Disk.tells g.L.Log.tells g.D.Disk.history g.L.Log.lines g.L.Log.available g.L.Log.answers g.L.Log.faults g.D.Stage.Stage.written c.claim.new.self c.in-Some.ensures.task in at_version _ _ _ _ _ c.in-Reduce.task of)

pub report_reduced-requires-clause-may : goal.report_reduced-requires-clause-may
report_reduced-requires-clause-may g c = reduced_may g.D.Stage.Stage.tells g.D.Stage.Stage.written g.D.Stage.Stage.sealed g.D.Stage.Stage.faults c.in-Reduce.task c.reduce.result c.reduce.ensures c.claim.new.self.scope c.claim.new.self.core (back_as _ _ c.in-Reduce.is c.claim.new.self c.in-Some.ensures.back) (fault_of cause_of_failed c.reduce.result.outcome)

pub report_reduced-requires-clause-of : goal.report_reduced-requires-clause-of
report_reduced-requires-clause-of g c = (let of = task_as _ _ c.in-Reduce.is g.D.Disk.tells g.L.Log.tells g.D.Disk.history g.L.Log.lines g.L.Log.available g.L.Log.answers g.L.Log.faults g.D.Stage.Stage.written c.claim.new.self c.in-Some.ensures.task in (c.in-Reduce.task, of, c.reduce.ensures))

pub returns-in-Reduce-clause-done : goal.returns-in-Reduce-clause-done
returns-in-Reduce-clause-done g c = λ did_some.
    let old = c.args.desk.now in
    let claimed = claimed_as _ _ c.in-Reduce.is old c.claim.new.self c.in-Some.ensures.claimed in
    reduced_turn g.D.Stage.Stage.tells g.D.Stage.Stage.written g.D.Stage.Stage.sealed g.D.Stage.Stage.faults c.in-Reduce.task c.reduce.result c.reduce.ensures g.D.Disk.faults (closes c.args.desk.now.opening.view.bound.now) old c.claim.new.self c.report_reduced.new.self c.report_reduced.result c.is_in_order.ensures.sound c.requires.rest claimed.0 claimed.1
    c.report_reduced.ensures.did c.report_reduced.ensures.cause c.report_reduced.ensures.counted

pub publish_out-requires-clause-may : goal.publish_out-requires-clause-may
publish_out-requires-clause-may g c = gathered_may g.D.Stage.Stage.tells g.D.Stage.Stage.written g.D.Stage.Stage.sealed g.D.Stage.Stage.faults c.in-Out.task c.gather.result c.gather.ensures c.claim.new.self.scope c.claim.new.self.core (back_as _ _ c.in-Out.is c.claim.new.self c.in-Some.ensures.back) (fault_of cause_of_left c.gather.result.outcome)

pub publish_out-requires-clause-of : goal.publish_out-requires-clause-of
publish_out-requires-clause-of g c = (let of = task_as _ _ c.in-Out.is g.D.Disk.tells g.L.Log.tells g.D.Disk.history g.L.Log.lines g.L.Log.available g.L.Log.answers g.L.Log.faults g.D.Stage.Stage.written c.claim.new.self c.in-Some.ensures.task in (c.in-Out.task, of, c.gather.ensures))

pub returns-in-Out-clause-done : goal.returns-in-Out-clause-done
returns-in-Out-clause-done g c = λ did_some.
    let old = c.args.desk.now in
    let claimed = claimed_as _ _ c.in-Out.is old c.claim.new.self c.in-Some.ensures.claimed in
    gathered_turn g.D.Stage.Stage.tells g.D.Stage.Stage.written g.D.Stage.Stage.sealed g.D.Stage.Stage.faults c.in-Out.task c.gather.result c.gather.ensures g.D.Disk.faults (closes c.args.desk.now.opening.view.bound.now) old c.claim.new.self c.publish_out.new.self c.publish_out.result c.is_in_order.ensures.sound c.requires.rest claimed.0 claimed.1
    c.publish_out.ensures.out c.publish_out.ensures.cause c.publish_out.ensures.counted

pub returns-in-Map-clause-good : goal.returns-in-Map-clause-good
returns-in-Map-clause-good g c = λ t good.
    let task = task_as _ _ c.in-Map.is g.D.Disk.tells g.L.Log.tells g.D.Disk.history g.L.Log.lines g.L.Log.available g.L.Log.answers g.L.Log.faults g.D.Stage.Stage.written c.claim.new.self c.in-Some.ensures.task in
    fed_good g.L.Log.lines g.D.Disk.tells g.L.Log.tells g.D.Disk.history g.L.Log.available g.L.Log.answers g.L.Log.faults c.claim.new.self c.report_fed.new.self c.in-Map.task c.feed.result t task c.feed.ensures c.report_fed.ensures.did
    (claimed_good g.L.Log.lines c.args.desk.now c.claim.new.self _ c.in-Some.ensures.claimed.1 good)

pub returns-in-Reduce-clause-good : goal.returns-in-Reduce-clause-good
returns-in-Reduce-clause-good g c = λ t good.
    reduced_good g.L.Log.lines c.claim.new.self c.report_reduced.new.self (delta_of c.reduce.result.outcome) _ _ _ c.report_reduced.result _ c.report_reduced.ensures.did (claimed_good g.L.Log.lines c.args.desk.now c.claim.new.self _ c.in-Some.ensures.claimed.1 good)

pub returns-in-Out-clause-good : goal.returns-in-Out-clause-good
returns-in-Out-clause-good g c = λ t good.
    published_good g.L.Log.lines c.claim.new.self c.publish_out.new.self _ _ _ c.publish_out.result _ c.publish_out.ensures.out (claimed_good g.L.Log.lines c.args.desk.now c.claim.new.self _ c.in-Some.ensures.claimed.1 good)

pub unreachable-requires-in-Idle : goal.unreachable-requires-in-Idle
unreachable-requires-in-Idle g c = never_idle c.args.desk.now.scope c.args.desk.now.core c.is_in_order.ensures.sound c.requires.rest (sym c.ready.ensures ∙ c.in-Idle.is)
