use Rattle.ssq_terms.proofs.Printing.{are_times, commits_written, marks_printed, plans_written}
use Rattle.ssq_terms.proofs.Unmarked.{unmarked_none}
use Rattle.ssq_terms.proofs.times.times_are_of_lines.Goals as goal

pub returns-clause-seen : goal.returns-clause-seen
returns-clause-seen c = are_times c.rows_fit_their_schema.ensures

pub returns-clause-unmarked : goal.returns-clause-unmarked
returns-clause-unmarked c = unmarked_none

pub returns-clause-commits : goal.returns-clause-commits
returns-clause-commits c = commits_written c.rows_fit_their_schema.ensures

pub returns-clause-watermarks : goal.returns-clause-watermarks
returns-clause-watermarks c = marks_printed c.rows_fit_their_schema.ensures

pub returns-clause-plans : goal.returns-clause-plans
returns-clause-plans c = plans_written c.rows_fit_their_schema.ensures c.plans_can_be_written.ensures
