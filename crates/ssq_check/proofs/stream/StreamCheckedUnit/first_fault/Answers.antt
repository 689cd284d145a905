use Rattle.ssq_check.proofs.Ends.{stream_first}
use Rattle.ssq_check.proofs.stream.StreamCheckedUnit.first_fault.Goals as goal

pub returns : goal.returns
returns c =
    stream_first c.args.self.now c.as_slice-columns.result.now c.in_ok-doubled.doubled c.beyond.result c.watermark_fault-event.result c.sooner.result c.sooner-2.result
    c.as_slice-columns.ensures c.sooner.ensures c.sooner-2.ensures c.in_ok-doubled.ensures c.beyond.ensures c.watermark_fault-event.ensures
