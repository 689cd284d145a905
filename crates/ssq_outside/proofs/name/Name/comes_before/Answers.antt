use Rattle.std.proofs.Common.{◌∙◌}
use Rattle.ssq_outside.proofs.Derived.{before_derived}
use Rattle.ssq_outside.proofs.name.Name.comes_before.Goals as goal

pub returns : goal.returns
returns c = c.lt.ensures ∙ before_derived c.args.self c.args.other
