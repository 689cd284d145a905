use Rattle.std.proofs.Common.{true≢false, List, [], ◌∷◌, suc, length, Option, Some, Result, Ok, Err, refl, sym, ap, ◌∙◌, subst, arith}
use Rattle.std.proofs.lemmas.List.{nil_from_length}
use Rattle.std.specs.Prelude.{is_ok}
use Rattle.std.proofs.lemmas.Result.{err_from_is_err_and}
use Rattle.ssq_task.specs.declared.partition.Held.{Held}
use Rattle.ssq_desk.specs.declared.desk.Share.{Share}
use Rattle.ssq_desk.specs.Room.{AreStaged}
use Rattle.ssq_desk.proofs.Upkeeps.{did_still}
use Rattle.ssq_desk.proofs.Wholes.{did_nothing}
use Rattle.ssq_desk.proofs.room.+begin_deltas.Goals as goal

abbrev as_err : {A B E : Type 0} → E → Result A E → Result B E
as_err why (Ok x) = Err why
as_err why (Err other) = Err other

pub returns-in_default-clause-did : goal.returns-in_default-clause-did
returns-in_default-clause-did g t c = did_nothing c.args.ledger.now

pub returns-in_default-clause-same : goal.returns-in_default-clause-same
returns-in_default-clause-same g t c = λ tells. refl

pub returns-in_default-clause-staged : goal.returns-in_default-clause-staged
returns-in_default-clause-staged g t c =
    subst (λ (held : List (Option Held)). AreStaged g.D.Disk.tells g.D.Stage.Stage.written held c.args.shares.now c.args.shares.now) (sym (nil_from_length c.args.held.now c.in_default.ensures.cases)) refl

pub returns-in_default-clause-kept : goal.returns-in_default-clause-kept
returns-in_default-clause-kept g t c = tt

pub returns-in_default-clause-count : goal.returns-in_default-clause-count
returns-in_default-clause-count g t c = refl

pub returns-in_default-clause-counted : goal.returns-in_default-clause-counted
returns-in_default-clause-counted g t c = omega arith

pub returns-in_default-clause-cause : goal.returns-in_default-clause-cause
returns-in_default-clause-cause g t c = λ fault. absurd (true≢false (ap is_ok fault))

pub returns-in_default-split_first_mut-clause-did : goal.returns-in_default-split_first_mut-clause-did
returns-in_default-split_first_mut-clause-did g t c = did_nothing c.args.ledger.now

pub returns-in_default-split_first_mut-clause-same : goal.returns-in_default-split_first_mut-clause-same
returns-in_default-split_first_mut-clause-same g t c = λ tells. refl

pub returns-in_default-split_first_mut-clause-staged : goal.returns-in_default-split_first_mut-clause-staged
returns-in_default-split_first_mut-clause-staged g t c =
    subst (λ (shares : List (Share g.row.D-Stage.Denot)). AreStaged g.D.Disk.tells g.D.Stage.Stage.written c.args.held.now shares shares) (sym (nil_from_length c.args.shares.now c.in_default-split_first_mut.ensures.cases))
    (subst (λ (held : List (Option Held)). AreStaged {S = g.row.D-Stage.Denot} g.D.Disk.tells g.D.Stage.Stage.written held [] []) (sym c.in-Some.ensures.cases.0) refl)

pub returns-in_default-split_first_mut-clause-kept : goal.returns-in_default-split_first_mut-clause-kept
returns-in_default-split_first_mut-clause-kept g t c = tt

pub returns-in_default-split_first_mut-clause-count : goal.returns-in_default-split_first_mut-clause-count
returns-in_default-split_first_mut-clause-count g t c = refl

pub returns-in_default-split_first_mut-clause-counted : goal.returns-in_default-split_first_mut-clause-counted
returns-in_default-split_first_mut-clause-counted g t c = omega arith

pub returns-in_default-split_first_mut-clause-cause : goal.returns-in_default-split_first_mut-clause-cause
returns-in_default-split_first_mut-clause-cause g t c = λ fault. absurd (true≢false (ap is_ok fault))

pub returns-in_err-stage-clause-did : goal.returns-in_err-stage-clause-did
returns-in_err-stage-clause-did g t c = c.stage.ensures.did

pub returns-in_err-stage-clause-same : goal.returns-in_err-stage-clause-same
returns-in_err-stage-clause-same g t c = c.stage.ensures.same

pub returns-in_err-stage-clause-staged : goal.returns-in_err-stage-clause-staged
returns-in_err-stage-clause-staged g t c = (let p = err_from_is_err_and c.from_residual.result c.from_residual.ensures.1 in rw (p.1) tt)

pub returns-in_err-stage-clause-kept : goal.returns-in_err-stage-clause-kept
returns-in_err-stage-clause-kept g t c = (let p = err_from_is_err_and c.from_residual.result c.from_residual.ensures.1 in rw (p.1) (sym c.in-Some-split_first_mut.ensures.cases.0))

pub returns-in_err-stage-clause-count : goal.returns-in_err-stage-clause-count
returns-in_err-stage-clause-count g t c = sym (ap length c.in-Some-split_first_mut.ensures.cases.0)

pub returns-in_err-stage-clause-counted : goal.returns-in_err-stage-clause-counted
returns-in_err-stage-clause-counted g t c = c.stage.ensures.counted

pub returns-in_err-stage-clause-cause : goal.returns-in_err-stage-clause-cause
returns-in_err-stage-clause-cause g t c = (let p = err_from_is_err_and c.from_residual.result c.from_residual.ensures.1 in rw (p.1, p.2) (λ fault. c.in_err-stage.ensures.cause (ap (as_err c.in_err-stage.field-0.0) fault)))

pub begin_deltas-requires : goal.begin_deltas-requires
begin_deltas-requires g t c κs within = (omega (arith, c.decreases, c.in-Some-split_first_mut.ensures.cases.1), within)

pub returns-in-Ok-clause-kept : goal.returns-in-Ok-clause-kept
returns-in-Ok-clause-kept g t c = tt

pub returns-in-Ok-clause-cause : goal.returns-in-Ok-clause-cause
returns-in-Ok-clause-cause g t c = λ fault. absurd (true≢false (ap is_ok fault))

pub returns-in-Err-clause-staged : goal.returns-in-Err-clause-staged
returns-in-Err-clause-staged g t c = tt

pub returns-in-Ok-clause-did : goal.returns-in-Ok-clause-did
returns-in-Ok-clause-did g t c = did_still c.args.ledger.now c.stage.new.self c.begin_deltas.new.ledger c.stage.ensures.did c.begin_deltas.ensures.did

pub returns-in-Ok-clause-same : goal.returns-in-Ok-clause-same
returns-in-Ok-clause-same g t c = λ tells. c.begin_deltas.ensures.same tells ∙ c.stage.ensures.same tells

pub returns-in-Ok-clause-staged : goal.returns-in-Ok-clause-staged
returns-in-Ok-clause-staged g t c =
    let old = c.in-Some-split_first_mut.share.now in
    let news : List (Share g.row.D-Stage.Denot) = record { buckets = old.buckets; stage = Some c.in_ok-stage.stage; rows = old.rows; key = old.key } ∷ c.begin_deltas.new.shares in
    subst (λ (held : List (Option Held)). AreStaged g.D.Disk.tells g.D.Stage.Stage.written held c.args.shares.now news) (sym c.in-Some.ensures.cases.0)
    (subst (λ (olds : List (Share g.row.D-Stage.Denot)). AreStaged g.D.Disk.tells g.D.Stage.Stage.written (c.in-Some.field-0-0.now ∷ c.in-Some.held.now) olds news) (sym c.in-Some-split_first_mut.ensures.cases.0)
    (record { buckets_are = refl; rows_are = refl; key_is = refl; stage = λ tells. c.in_ok-stage.ensures.empty tells }, c.in-Ok.ensures.staged))

pub returns-in-Ok-clause-count : goal.returns-in-Ok-clause-count
returns-in-Ok-clause-count g t c = ap suc c.begin_deltas.ensures.count ∙ sym (ap length c.in-Some-split_first_mut.ensures.cases.0)

pub returns-in-Ok-clause-counted : goal.returns-in-Ok-clause-counted
returns-in-Ok-clause-counted g t c = (let first = c.stage.ensures.counted in let later = c.begin_deltas.ensures.counted in omega (arith, first, later))

pub returns-in-Err-clause-did : goal.returns-in-Err-clause-did
returns-in-Err-clause-did g t c =
    did_still c.args.ledger.now c.begin_deltas.new.ledger c.discard.new.self (did_still c.args.ledger.now c.stage.new.self c.begin_deltas.new.ledger c.stage.ensures.did c.begin_deltas.ensures.did) c.discard.ensures.did

pub returns-in-Err-clause-same : goal.returns-in-Err-clause-same
returns-in-Err-clause-same g t c = λ tells. c.discard.ensures.same tells ∙ c.begin_deltas.ensures.same tells ∙ c.stage.ensures.same tells

pub returns-in-Err-clause-kept : goal.returns-in-Err-clause-kept
returns-in-Err-clause-kept g t c = ap (λ (shares : List (Share g.row.D-Stage.Denot)). c.in-Some-split_first_mut.share.now ∷ shares) c.in-Err.ensures.kept ∙ sym c.in-Some-split_first_mut.ensures.cases.0

pub returns-in-Err-clause-count : goal.returns-in-Err-clause-count
returns-in-Err-clause-count g t c = ap suc c.begin_deltas.ensures.count ∙ sym (ap length c.in-Some-split_first_mut.ensures.cases.0)

pub returns-in-Err-clause-counted : goal.returns-in-Err-clause-counted
returns-in-Err-clause-counted g t c = (let first = c.stage.ensures.counted in let later = c.begin_deltas.ensures.counted in let last = c.discard.ensures.counted in omega (arith, first, later, last))

pub returns-in-Err-clause-cause : goal.returns-in-Err-clause-cause
returns-in-Err-clause-cause g t c = λ fault. (let first = c.stage.ensures.counted in let rises = c.in-Err.ensures.cause fault in let last = c.discard.ensures.counted in omega (arith, first, rises, last))
