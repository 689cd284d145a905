use Rattle.std.proofs.Common.{◌∙◌}
use Rattle.ssq_outside.proofs.Derived.{same_derived}
use Rattle.ssq_outside.proofs.name.Name.is.Goals as goal

pub returns : goal.returns
returns c = c.eq.ensures ∙ same_derived c.args.self c.args.other
