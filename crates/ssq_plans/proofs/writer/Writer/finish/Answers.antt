-- They are the bytes that it holds.
use Rattle.std.proofs.Common.{◌∙◌}
use Rattle.ssq_plans.proofs.writer.Writer.finish.Goals as goal

pub returns : goal.returns
returns c held is = c.from_vec.ensures ∙ c.in_ok-into_vec.ensures held is
