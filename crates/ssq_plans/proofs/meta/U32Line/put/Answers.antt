-- The pieces are put one after the other.
use Rattle.std.proofs.Common.{codes, decimal, ◌∙◌}
use Rattle.ssq_plans.proofs.Spelled.{two_put}
use Rattle.ssq_plans.proofs.meta.U32Line.put.Goals as goal

pub returns : goal.returns
returns c held is whole =
    c.put_number_line.ensures _ (c.put_number.ensures held is) whole
    ∙ two_put held (codes "parts ") (decimal c.args.at) (codes " ") (decimal c.args.self.now) (codes "\n")
