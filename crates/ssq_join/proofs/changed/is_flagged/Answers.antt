use Rattle.std.proofs.Common.{ap, sym, ◌∙◌}
use Rattle.ssq_join.specs.Changing.{is_flagged}
use Rattle.ssq_join.proofs.Saying.{is_flagged_last}
use Rattle.ssq_join.proofs.changed.is_flagged.Goals as goal

pub returns-in-Some : goal.returns-in-Some
returns-in-Some c = sym (ap is_flagged (sym c.as_slice.ensures ∙ c.in-Some.ensures.cases.0) ∙ is_flagged_last c.in-Some.field-0-1.now c.in-Some.last.now)
