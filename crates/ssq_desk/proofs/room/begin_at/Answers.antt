use Rattle.std.proofs.Common.{◌<◌, ap, length, arith, refl}
use Rattle.std.proofs.lemmas.List.{get_or_default}
use Rattle.ssq_plans.specs.declared.part.PartEnd.{PartEnd}
use Rattle.ssq_desk.specs.Room.{BeginsAt}
use Rattle.ssq_desk.proofs.Loops.{none_done, one_more, all_done}
use Rattle.ssq_desk.proofs.room.begin_at.Goals as goal

pub loop-at-preserved : goal.loop-at-preserved
loop-at-preserved g c =
    let none : PartEnd = record { stream = 0; part = 0; end = 0 } in
    let below : c.loop-at.at < length c.args.part_logs.now = omega (arith, c.loop-at-test.true, c.loop-at.auto.part_logs) in
    one_more (BeginsAt c.args.ends.now) c.args.part_logs.now c.loop-at.part_logs c.loop-at.at c.index-part_logs-at.result _ c.loop-at.invariant c.loop-at.auto.part_logs below (λ end. record {
      from_is = ap (λ (e : PartEnd). e.end) (get_or_default c.args.ends.now c.loop-at.at none end (omega (arith, below, c.requires)));
      nothing = refl;
      stream_is = refl;
      part_is = refl;
      log_is = refl;
    })

pub returns : goal.returns
returns g c =
    (c.loop-at.auto.part_logs, all_done (BeginsAt c.args.ends.now) c.args.part_logs.now c.loop-at.part_logs c.loop-at.at c.loop-at.invariant (omega (arith, c.loop-at-test.false, c.loop-at.auto.part_logs)))

pub loop-at-init : goal.loop-at-init
loop-at-init g c = none_done (BeginsAt c.args.ends.now) c.args.part_logs.now
