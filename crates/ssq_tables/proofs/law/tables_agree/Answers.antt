use Rattle.ssq_tables.proofs.Agreeing.{tables_agree}
use Rattle.ssq_tables.proofs.Apart.{one_sink, one_text}
use Rattle.ssq_tables.proofs.law.tables_agree.Goals as goal

pub returns-clause-texts : goal.returns-clause-texts
returns-clause-texts c = one_text

pub returns-clause-sinks : goal.returns-clause-sinks
returns-clause-sinks c = one_sink

pub returns-clause-table : goal.returns-clause-table
returns-clause-table c = tables_agree c.checkpoints_hold_tables.ensures
