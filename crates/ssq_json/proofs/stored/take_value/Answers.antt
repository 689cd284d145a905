use Rattle.std.proofs.Common.{◌++◌, ap, ◌∙◌}
use Rattle.ssq_json.specs.RowText.{value_text}
use Rattle.ssq_json.proofs.Restoring.{null_is}
use Rattle.ssq_json.proofs.stored.take_value.Goals as goal

pub returns-in-Some-clause-each : goal.returns-in-Some-clause-each
returns-in-Some-clause-each c = λ value rest stored quiet is. null_is c.args.kind value rest c.in-Some.rest.now c.args.text.now stored c.in-Some.ensures.found is

pub returns-in-None-clause-each : goal.returns-in-None-clause-each
unfolding value_text
returns-in-None-clause-each c = λ value rest stored quiet is.
    c.take_held.ensures.each value rest (λ null. c.in-None.ensures.each rest (is ∙ ap (λ v. value_text v ++ rest) null)) stored quiet is
