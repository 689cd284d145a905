use Rattle.ssq_bind.proofs.ReadLemmas.{queries_read_their_streams}
use Rattle.ssq_bind.proofs.laws.queries_read_their_streams.Goals as goal

pub returns : goal.returns
returns c = queries_read_their_streams
