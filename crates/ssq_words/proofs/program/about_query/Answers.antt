use Rattle.clap.specs.Words.{new_app}
use Rattle.ssq_words.specs.Program.{query_rule}
use Rattle.ssq_words.proofs.program.about_query.Goals as goal

pub returns : goal.returns
returns c = c.arg.ensures (new_app c.args.name.now) query_rule c.new.ensures c.query.ensures
