use Rattle.ssq_meaning.proofs.JoinEpochs.{epochs_add_up}
use Rattle.ssq_meaning.proofs.Pairing.{shown_all}
use Rattle.ssq_meaning.proofs.join.joined_rows_add_up.Goals as goal

pub returns-clause-epoch : goal.returns-clause-epoch
returns-clause-epoch c = λ query joining old new before now bounded follows. shown_all joining old new before now follows bounded query

pub returns-clause-rows : goal.returns-clause-rows
returns-clause-rows c = λ query joining is bounded parts cuts n. epochs_add_up query joining is parts cuts bounded n
