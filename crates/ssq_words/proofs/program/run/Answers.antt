use Rattle.std.proofs.Common.{codes}
use Rattle.clap.specs.Words.{new_app}
use Rattle.ssq_words.specs.Program.{max_lines_rule, partitions_rule, query_rule, rounds_rule, run_app}
use Rattle.ssq_words.proofs.program.run.Goals as goal

pub returns : goal.returns
unfolding run_app
returns c =
    let over = c.arg.ensures (new_app (codes "run")) query_rule c.new.ensures c.query.ensures in
    let split = c.arg-2.ensures _ partitions_rule over c.option.ensures in
    let cut = c.arg-3.ensures _ max_lines_rule split c.option-2.ensures in
    c.arg-4.ensures _ rounds_rule cut c.option-3.ensures
