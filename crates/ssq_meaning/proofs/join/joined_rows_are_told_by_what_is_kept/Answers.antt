use Rattle.ssq_meaning.proofs.InTurn.{all_met, fault_by_kept, new_met, rows_kept, shown_by_kept}
use Rattle.ssq_meaning.proofs.join.joined_rows_are_told_by_what_is_kept.Goals as goal

pub returns-clause-shown : goal.returns-clause-shown
returns-clause-shown c = λ query joining old held new before now bounded follows same. shown_by_kept joining old new before now follows bounded query held same

pub returns-clause-fault : goal.returns-clause-fault
returns-clause-fault c = λ query joining old held new before now bounded follows same. fault_by_kept joining old new before now follows bounded query held same

pub returns-clause-rows : goal.returns-clause-rows
returns-clause-rows c = λ joining old new before now bounded follows. rows_kept joining old new before now follows bounded

pub returns-clause-met : goal.returns-clause-met
returns-clause-met c = all_met

pub returns-clause-new : goal.returns-clause-new
returns-clause-new c = new_met
