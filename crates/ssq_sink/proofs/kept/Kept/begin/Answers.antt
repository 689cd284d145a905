use Rattle.ssq_shape.specs.Plain.{output_names}
use Rattle.ssq_sink.proofs.Passes.{each_begun, last_begun, latest_begun, none_utf8}
use Rattle.ssq_sink.proofs.kept.Kept.begin.Goals as goal

pub returns-in-Each : goal.returns-in-Each
returns-in-Each c = rw c.in-Each.is (λ query epochs so. (so.0, each_begun (output_names query) epochs _ so.1, so.2))

pub returns-in-Latest : goal.returns-in-Latest
returns-in-Latest c = rw c.in-Latest.is (λ query epochs so. (so.0, latest_begun query.outputs epochs _ so.1))

pub returns-in-Last : goal.returns-in-Last
returns-in-Last c = rw c.in-Last.is (λ query epochs so. (so.0, last_begun (output_names query) epochs c.clear.new.self.items c.clear.ensures.items, none_utf8 c.clear.new.self.items c.clear.ensures.items))
