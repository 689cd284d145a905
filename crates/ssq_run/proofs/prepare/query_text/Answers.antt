use Rattle.std.proofs.Common.{◌∙◌, ap, sym}
use Rattle.std.specs.Prelude.{option_map}
use Rattle.ssq_run.specs.Queries.{text_of}
use Rattle.ssq_run.proofs.prepare.query_text.Goals as goal

pub returns-in_ok-text-in-Some-clause-text : goal.returns-in_ok-text-in-Some-clause-text
returns-in_ok-text-in-Some-clause-text g c = λ tells.
    c.in_ok-text-in-Some.ensures.found tells
    ∙ ap (λ file. text_of (g.I.Inputs.held c.args.inputs.now) (option_map (λ name. name.now) file)) (sym c.in-Some.is)
    ∙ ap (text_of (g.I.Inputs.held c.args.inputs.now)) c.file_of.ensures
