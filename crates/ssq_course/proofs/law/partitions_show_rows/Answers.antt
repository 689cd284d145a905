use Rattle.ssq_course.proofs.Apart.{show_rows}
use Rattle.ssq_course.proofs.law.partitions_show_rows.Goals as goal

pub returns : goal.returns
returns c = show_rows c.partitions_show_all_rows.ensures
