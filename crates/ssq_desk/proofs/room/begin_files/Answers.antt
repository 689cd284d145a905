use Rattle.std.proofs.Common.{◌∙◌, refl, arith}
use Rattle.std.proofs.lemmas.Result.{err_from_is_err_and}
use Rattle.ssq_desk.proofs.Upkeeps.{did_still}
use Rattle.ssq_desk.proofs.room.begin_files.Goals as goal

-- the two of the out task could not be begun
pub returns-in_err-stages-clause-did : goal.returns-in_err-stages-clause-did
returns-in_err-stages-clause-did g c = c.stages.ensures.did

pub returns-in_err-stages-clause-same : goal.returns-in_err-stages-clause-same
returns-in_err-stages-clause-same g c = c.stages.ensures.same

pub returns-in_err-stages-clause-empty : goal.returns-in_err-stages-clause-empty
returns-in_err-stages-clause-empty g c = λ tells. (let p = err_from_is_err_and c.from_residual.result c.from_residual.ensures.1 in rw p.1 tt)

pub returns-in_err-stages-clause-staged : goal.returns-in_err-stages-clause-staged
returns-in_err-stages-clause-staged g c = (let p = err_from_is_err_and c.from_residual.result c.from_residual.ensures.1 in rw p.1 tt)

pub returns-in_err-stages-clause-kept : goal.returns-in_err-stages-clause-kept
returns-in_err-stages-clause-kept g c = (let p = err_from_is_err_and c.from_residual.result c.from_residual.ensures.1 in rw p.1 refl)

pub returns-in_err-stages-clause-count : goal.returns-in_err-stages-clause-count
returns-in_err-stages-clause-count g c = refl

pub returns-in_err-stages-clause-counted : goal.returns-in_err-stages-clause-counted
returns-in_err-stages-clause-counted g c = c.stages.ensures.counted

pub returns-in_err-stages-clause-cause : goal.returns-in_err-stages-clause-cause
returns-in_err-stages-clause-cause g c = (let p = err_from_is_err_and c.from_residual.result c.from_residual.ensures.1 in rw (p.1, p.2) c.in_err-stages.ensures.cause)

-- all are begun
pub returns-in-Ok-clause-did : goal.returns-in-Ok-clause-did
returns-in-Ok-clause-did g c = did_still c.args.ledger.now c.stages.new.ledger c.begin_deltas.new.ledger c.stages.ensures.did c.begin_deltas.ensures.did

pub returns-in-Ok-clause-same : goal.returns-in-Ok-clause-same
returns-in-Ok-clause-same g c = λ tells. c.begin_deltas.ensures.same tells ∙ c.stages.ensures.same tells

pub returns-in-Ok-clause-empty : goal.returns-in-Ok-clause-empty
returns-in-Ok-clause-empty g c = c.in_ok-stages.ensures.empty

pub returns-in-Ok-clause-staged : goal.returns-in-Ok-clause-staged
returns-in-Ok-clause-staged g c = c.in-Ok.ensures.staged

pub returns-in-Ok-clause-kept : goal.returns-in-Ok-clause-kept
returns-in-Ok-clause-kept g c = tt

pub returns-in-Ok-clause-count : goal.returns-in-Ok-clause-count
returns-in-Ok-clause-count g c = c.begin_deltas.ensures.count

pub returns-in-Ok-clause-counted : goal.returns-in-Ok-clause-counted
returns-in-Ok-clause-counted g c = (let first = c.stages.ensures.counted in let later = c.begin_deltas.ensures.counted in omega (arith, first, later))

-- one for a partition could not be begun: the two are discarded
pub returns-in-Err-clause-did : goal.returns-in-Err-clause-did
returns-in-Err-clause-did g c =
    did_still c.args.ledger.now c.begin_deltas.new.ledger c.discard_stages.new.ledger (did_still c.args.ledger.now c.stages.new.ledger c.begin_deltas.new.ledger c.stages.ensures.did c.begin_deltas.ensures.did) c.discard_stages.ensures.did

pub returns-in-Err-clause-same : goal.returns-in-Err-clause-same
returns-in-Err-clause-same g c = λ tells. c.discard_stages.ensures.same tells ∙ c.begin_deltas.ensures.same tells ∙ c.stages.ensures.same tells

pub returns-in-Err-clause-empty : goal.returns-in-Err-clause-empty
returns-in-Err-clause-empty g c = λ tells. tt

pub returns-in-Err-clause-staged : goal.returns-in-Err-clause-staged
returns-in-Err-clause-staged g c = tt

pub returns-in-Err-clause-kept : goal.returns-in-Err-clause-kept
returns-in-Err-clause-kept g c = c.in-Err.ensures.kept

pub returns-in-Err-clause-count : goal.returns-in-Err-clause-count
returns-in-Err-clause-count g c = c.begin_deltas.ensures.count

pub returns-in-Err-clause-counted : goal.returns-in-Err-clause-counted
returns-in-Err-clause-counted g c = (let first = c.stages.ensures.counted in let later = c.begin_deltas.ensures.counted in let last = c.discard_stages.ensures.counted in omega (arith, first, later, last))
