-- Each part has a line.
use Rattle.ssq_plans.proofs.plan.put_ends.Goals as goal

pub put_lines-requires : goal.put_lines-requires
put_lines-requires c = λ k d h. tt
