use Rattle.ssq_agg.proofs.Steady.{steady_rows}
use Rattle.ssq_agg.proofs.laws.few_rows_are_steady.Goals as goal

pub returns : goal.returns
returns c = steady_rows c.groups_are_due_by_what_is_kept.ensures.totals
