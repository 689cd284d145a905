use Rattle.std.proofs.Common.{◌∙◌}
use Rattle.std.specs.List.{list_any}
use Rattle.ssq_join.proofs.Earlier.{null_by_order}
use Rattle.ssq_join.proofs.near.has_null.Goals as goal

pub returns : goal.returns
returns c = c.contains.ensures.value ∙ λ i. list_any (λ value. null_by_order value i) c.args.key.now
