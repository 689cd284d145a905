use Rattle.std.proofs.Common.{rules}
use Rattle.ssq_sink.proofs.Keeping.{none_kept}
use Rattle.ssq_sink.proofs.latest.Latest.new.Goals as goal

pub returns : goal.returns
returns c = λ outputs. none_kept outputs c.new.result.entries (search rules)
