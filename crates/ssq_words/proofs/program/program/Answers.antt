use Rattle.std.proofs.lemmas.Result.{IfOk-weaker}
use Rattle.ssq_words.specs.Program.{explain_app, gen_app, program, run_app, show_app, status_app, tables_app, top_app}
use Rattle.ssq_words.proofs.program.program.Goals as goal

pub returns : goal.returns
unfolding program tables_app show_app explain_app status_app
returns c =
    let running = c.subcommand.ensures top_app run_app c.top.ensures c.run.ensures in
    let showing = c.subcommand-2.ensures _ show_app running c.about_query.ensures in
    let explaining = c.subcommand-3.ensures _ explain_app showing c.about_query-2.ensures in
    let telling = c.subcommand-4.ensures _ status_app explaining c.about_query-3.ensures in
    let whole = c.subcommand-made.ensures _ gen_app telling c.generate.ensures in
    IfOk-weaker c.subcommand-made.result.made _ _ (λ r is. is.0) whole
