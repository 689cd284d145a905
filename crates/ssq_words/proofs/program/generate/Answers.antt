use Rattle.std.proofs.Common.{codes}
use Rattle.clap.specs.Words.{new_app}
use Rattle.ssq_words.specs.Program.{count_rule, gen_app, number_rule}
use Rattle.ssq_words.proofs.program.generate.Goals as goal

pub returns : goal.returns
unfolding gen_app
returns c =
    let first = c.arg.ensures (new_app (codes "gen")) number_rule c.new.ensures c.number.ensures in
    c.arg-2.ensures _ count_rule first c.number-2.ensures
