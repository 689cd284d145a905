-- The time is put after the bytes.
use Rattle.std.proofs.Common.{append_assoc, ◌∙◌}
use Rattle.ssq_plans.specs.Records.{time_or_none}
use Rattle.ssq_plans.proofs.writer.Writer.put_time.Goals as goal

pub returns : goal.returns
returns c held is whole =
    c.put_time_or_none.ensures _ (c.put.ensures held is) whole
    ∙ append_assoc held c.args.front.now (time_or_none c.args.time)
