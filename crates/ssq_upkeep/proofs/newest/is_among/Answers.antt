use Rattle.std.proofs.Common.{◌∙◌}
use Rattle.std.specs.List.{list_any}
use Rattle.ssq_outside.proofs.Derived.{same_derived}
use Rattle.ssq_upkeep.proofs.newest.is_among.Goals as goal

pub returns : goal.returns
returns c = c.contains.ensures.value ∙ λ i. list_any (λ n. same_derived n c.args.name i) c.args.names.now
