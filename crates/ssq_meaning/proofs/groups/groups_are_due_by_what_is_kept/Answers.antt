use Rattle.ssq_meaning.proofs.Dues.{due_now, no_new_rows, totals_with}
use Rattle.ssq_meaning.proofs.groups.groups_are_due_by_what_is_kept.Goals as goal

pub returns-clause-due : goal.returns-clause-due
returns-clause-due c = due_now

pub returns-clause-ended : goal.returns-clause-ended
returns-clause-ended c = no_new_rows

pub returns-clause-totals : goal.returns-clause-totals
returns-clause-totals c = totals_with
