use Rattle.ssq_meaning.proofs.FewRows.{part_few, fed_few, on_time_few, accepted_few, bucket_few}
use Rattle.ssq_meaning.proofs.fed.fed_rows_are_few.Goals as goal

pub returns-clause-part : goal.returns-clause-part
returns-clause-part c = part_few c.windows_hold_their_time.ensures.few

pub returns-clause-fed : goal.returns-clause-fed
returns-clause-fed c = fed_few c.windows_hold_their_time.ensures.few

pub returns-clause-on_time : goal.returns-clause-on_time
returns-clause-on_time c = on_time_few c.windows_hold_their_time.ensures.few

pub returns-clause-accepted : goal.returns-clause-accepted
returns-clause-accepted c = accepted_few c.windows_hold_their_time.ensures.few

pub returns-clause-bucket : goal.returns-clause-bucket
returns-clause-bucket c = bucket_few
