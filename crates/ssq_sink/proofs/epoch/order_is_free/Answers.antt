use Rattle.ssq_sink.proofs.Rows.{sink_text-SameBag, sink_text-permutation}
use Rattle.ssq_sink.proofs.epoch.order_is_free.Goals as goal

pub returns-clause-permuted : goal.returns-clause-permuted
returns-clause-permuted c = sink_text-permutation

pub returns-clause-same_rows : goal.returns-clause-same_rows
returns-clause-same_rows c = sink_text-SameBag
