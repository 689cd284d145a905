use Rattle.ssq_meaning.proofs.Repeats.{rows_are_open, rows_are_known}
use Rattle.ssq_meaning.proofs.dedup.forgotten_keys_lose_no_row.Goals as goal

pub returns-clause-opens : goal.returns-clause-opens
returns-clause-opens c = rows_are_open

pub returns-clause-known : goal.returns-clause-known
returns-clause-known c = rows_are_known
