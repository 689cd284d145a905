use Rattle.ssq_sink.proofs.Rows.{lines-next}
use Rattle.ssq_sink.proofs.epoch.put_lines.Goals as goal

pub loop-row-preserved : goal.loop-row-preserved
loop-row-preserved c = (
  lines-next c.args.heads.now c.args.rows.now c.loop-row.row-index c.row-item.result _ _ _ c.loop-row-test.true c.row-item.is c.loop-row.invariant.0 c.in_ok-put_line.ensures.text,
  λ before. c.in_ok-put_line.ensures.utf8 (c.loop-row.invariant.1 before),
)
