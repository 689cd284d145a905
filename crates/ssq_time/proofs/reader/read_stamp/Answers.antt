use Rattle.ssq_time.proofs.Printed.{stamp_each}
use Rattle.ssq_time.proofs.reader.read_stamp.Goals as goal

pub returns-clause-each : goal.returns-clause-each
returns-clause-each c = stamp_each _ _ c.stamp_in.ensures
