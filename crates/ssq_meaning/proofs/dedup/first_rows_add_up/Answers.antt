use Rattle.ssq_meaning.proofs.Firsts.{meant-append}
use Rattle.ssq_meaning.proofs.Repeats.{epochs_add_up}
use Rattle.ssq_meaning.proofs.dedup.first_rows_add_up.Goals as goal

pub returns-clause-epoch : goal.returns-clause-epoch
returns-clause-epoch c = λ query columns old new before now. meant-append old new

pub returns-clause-rows : goal.returns-clause-rows
returns-clause-rows c = epochs_add_up
