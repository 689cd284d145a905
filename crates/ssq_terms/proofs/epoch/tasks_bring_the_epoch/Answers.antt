use Rattle.ssq_terms.proofs.Raising.{raise_times}
use Rattle.ssq_terms.proofs.Showing.{parts_feed, are_quiet, show_rows, count_rows}
use Rattle.ssq_terms.proofs.epoch.tasks_bring_the_epoch.Goals as goal

pub returns-clause-fed : goal.returns-clause-fed
returns-clause-fed c = parts_feed

pub returns-clause-quiet : goal.returns-clause-quiet
returns-clause-quiet c = are_quiet

pub returns-clause-shown : goal.returns-clause-shown
returns-clause-shown c = show_rows c.partitions_show_rows.ensures

pub returns-clause-counted : goal.returns-clause-counted
returns-clause-counted c = count_rows c.partitions_show_rows.ensures

pub returns-clause-seen : goal.returns-clause-seen
returns-clause-seen c = raise_times
