use Rattle.std.proofs.Common.{arith}
use Rattle.ssq_agg.proofs.Totalling.{bytes_taken}
use Rattle.ssq_agg.proofs.total_bytes.bytes_of.Goals as goal

pub loop-total-preserved : goal.loop-total-preserved
loop-total-preserved c =
    bytes_taken c.args.totals.now c.loop-total.total-index c.total-item.result c.loop-total.bytes.items c.put_total.new.out.items (omega (arith, c.loop-total-test.true)) c.total-item.is c.loop-total.invariant
    c.in_ok-put_total.ensures
