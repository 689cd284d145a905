use Rattle.std.proofs.Common.{sym}
use Rattle.ssq_desk.proofs.Bringing.{reduced_as}
use Rattle.ssq_desk.proofs.desk.Desk.report_reduced.Goals as goal

pub take_brought-requires-clause-of : goal.take_brought-requires-clause-of
take_brought-requires-clause-of g c = (let of = c.requires.of in (of.0, of.1, sym of.2.epoch, sym of.2.partition, reduced_as _ _ _ _ of.0 c.args.done _ c.in-Ok.is of.2))

pub take_failed-requires-clause-of : goal.take_failed-requires-clause-of
take_failed-requires-clause-of g c = (let of = c.requires.of in (of.0, of.1, sym of.2.epoch, sym of.2.partition, reduced_as _ _ _ _ of.0 c.args.done _ c.in-Err.is of.2))
