-- The pieces are put one after the other.
use Rattle.std.proofs.Common.{codes, decimal, ◌∙◌}
use Rattle.ssq_plans.proofs.Spelled.{three_put}
use Rattle.ssq_plans.proofs.plan.PartEndLine.put.Goals as goal

pub returns : goal.returns
returns c held is whole =
    let part = c.args.self.now in
    c.put_number_line.ensures _ (c.put_number-2.ensures _ (c.put_number.ensures held is)) whole
    ∙ three_put held (codes "part ") (decimal part.stream) (codes " ") (decimal part.part) (codes " ") (decimal part.end) (codes "\n")
