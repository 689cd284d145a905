use Rattle.ssq_course.proofs.Widths.{accepted_wide, on_time_wide}
use Rattle.ssq_course.proofs.law.joined_rows_are_wide.Goals as goal

pub returns-clause-accepted : goal.returns-clause-accepted
returns-clause-accepted c = accepted_wide c.rows_fit_their_schema.ensures

pub returns-clause-on_time : goal.returns-clause-on_time
returns-clause-on_time c = on_time_wide c.rows_fit_their_schema.ensures
