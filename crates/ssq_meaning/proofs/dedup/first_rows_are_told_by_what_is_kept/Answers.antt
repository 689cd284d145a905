use Rattle.ssq_meaning.proofs.Repeats.{held_next, new_known, none_new}
use Rattle.ssq_meaning.proofs.dedup.first_rows_are_told_by_what_is_kept.Goals as goal

pub returns-clause-next : goal.returns-clause-next
returns-clause-next c = held_next

pub returns-clause-known : goal.returns-clause-known
returns-clause-known c = new_known

pub returns-clause-ended : goal.returns-clause-ended
returns-clause-ended c = none_new
