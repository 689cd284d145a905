use Rattle.ssq_sink.proofs.Rereading.{columns_same}
use Rattle.ssq_sink.proofs.columns.Columns.new.Goals as goal

pub returns-clause-same : goal.returns-clause-same
returns-clause-same c = columns_same c.args.outputs.now c.in_ok-heads.heads c.in_ok-kinds.kinds.items c.in_ok-heads.ensures c.in_ok-kinds.ensures
