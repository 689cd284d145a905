use Rattle.std.proofs.Common.{◌∙◌}
use Rattle.ssq_open.proofs.begin.first_meta.Goals as goal

pub returns : goal.returns
returns c = λ i. record { partitions = c.unwrap_or-partitions.ensures i; parts = (c.from_vec-parts.ensures ∙ c.in_ok-from_slice.ensures.items) i; query = c.in_ok-query.ensures.cases i }
