-- The law of names rests on that of decimal numbers.
use Rattle.ssq_plans.proofs.Texts.{texts_apart}
use Rattle.ssq_plans.proofs.law.names_are_apart.Goals as goal

pub returns : goal.returns
returns c = texts_apart c.fields_are_apart.ensures.decimals
