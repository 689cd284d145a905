use Rattle.ssq_meaning.proofs.JoinEpochs.{alone_adds_up, over_once}
use Rattle.ssq_meaning.proofs.join.rows_alone_are_considered_once.Goals as goal

pub returns-clause-rows : goal.returns-clause-rows
returns-clause-rows c = λ query joining is bounded parts cuts n. alone_adds_up query joining is parts cuts bounded n

pub returns-clause-once : goal.returns-clause-once
returns-clause-once c = over_once
