use Rattle.std.proofs.Common.{sym, ◌∙◌}
use Rattle.ssq_sink.proofs.kept.Kept.new.Goals as goal

pub returns-in-Latest : goal.returns-in-Latest
returns-in-Latest c = (sym c.of.ensures ∙ c.in-Latest.is, c.new-in-Latest.ensures c.args.bound.now.outputs)
