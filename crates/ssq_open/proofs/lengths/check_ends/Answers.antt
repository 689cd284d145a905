use Rattle.std.proofs.Common.{◌<◌, ◌∙◌, length, get_or, arith}
use Rattle.ssq_open.proofs.Walks.{nowhere, short-next, short-past, long_enough}
use Rattle.ssq_open.proofs.lengths.check_ends.Goals as goal
use Rattle.ssq_open.proofs.lengths.check_ends.Goals.{else-at-found-via-then-at-found+else-found-at, else-at-found-via-else-at-found}

pub loop-at-preserved : goal.loop-at-preserved
loop-at-preserved c =
    let less : c.loop-at.at < length c.args.ends.now = omega arith in
    elim c.else-at-found.branch [
      | else-at-found-via-then-at-found+else-found-at w ↦
          c.loop-at.invariant ∙ short-next _ _ _ less w.if-at-found.true (long_enough (get_or c.args.ends.now c.loop-at.at nowhere) (get_or c.args.found.now c.loop-at.at nowhere) w.if-found-at.false)
      | else-at-found-via-else-at-found w ↦ c.loop-at.invariant ∙ short-past _ _ _ w.if-at-found.false
    ]
