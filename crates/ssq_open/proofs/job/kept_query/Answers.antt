use Rattle.std.proofs.Common.{◌≡◌, inl, refl, subst, sym}
use Rattle.std.proofs.lemmas.Result.{IfErr-weaker, IfOk-weaker}
use Rattle.ssq_outside.specs.Files.{Files}
use Rattle.ssq_outside.specs.History.{files_now}
use Rattle.ssq_plans.specs.declared.meta.Meta.{Meta}
use Rattle.ssq_plans.specs.Records.{IsMetaRecord}
use Rattle.ssq_store.proofs.Making.{if_some as of_some}
use Rattle.ssq_open.specs.Looking.{QueryDiffers}
use Rattle.ssq_open.specs.Spelled.{IsTheMeta}
use Rattle.ssq_open.proofs.Finding.{of_none}
use Rattle.ssq_open.proofs.Looks.{difference_rises, query_refused}
use Rattle.ssq_open.proofs.job.kept_query.Goals as goal

pub returns-in-Some-clause-kept : goal.returns-in-Some-clause-kept
returns-in-Some-clause-kept g c = λ tells.
    let files : Files = files_now (g.D.Disk.history c.args.disk.now) in
    let is = of_some (IsTheMeta files) c.in_ok-meta.field-0 c.in-Some.meta c.in-Some.is (c.in_ok-meta.ensures.found tells) in
    IfOk-weaker c.same_query.result (λ (kept : Meta). kept ≡ c.in-Some.meta) (IsTheMeta files) (λ kept same. subst (IsTheMeta files) (sym same) is) c.same_query.ensures.same

pub returns-in-Some-clause-in_range : goal.returns-in-Some-clause-in_range
returns-in-Some-clause-in_range g c =
    let is = of_some IsMetaRecord c.in_ok-meta.field-0 c.in-Some.meta c.in-Some.is c.in_ok-meta.ensures.in_range in
    IfOk-weaker c.same_query.result (λ (kept : Meta). kept ≡ c.in-Some.meta) IsMetaRecord (λ kept same. subst IsMetaRecord (sym same) is) c.same_query.ensures.same

pub returns-in-Some-clause-refused : goal.returns-in-Some-clause-refused
returns-in-Some-clause-refused g c = λ tells.
    let files : Files = files_now (g.D.Disk.history c.args.disk.now) in
    let is = of_some (IsTheMeta files) c.in_ok-meta.field-0 c.in-Some.meta c.in-Some.is (c.in_ok-meta.ensures.found tells) in
    IfErr-weaker c.same_query.result (QueryDiffers c.args.query.now c.args.streams c.in-Some.meta) _ (λ fault differs. query_refused c.args.query.now c.args.streams files c.in-Some.meta fault is differs) c.same_query.ensures.differs

pub returns-in-Some-clause-cause : goal.returns-in-Some-clause-cause
returns-in-Some-clause-cause g c =
    IfErr-weaker c.same_query.result (QueryDiffers c.args.query.now c.args.streams c.in-Some.meta) _ (λ fault differs. difference_rises c.args.query.now c.args.streams c.in-Some.meta _ _ fault differs) c.same_query.ensures.differs

pub returns-in-None-clause-refused : goal.returns-in-None-clause-refused
returns-in-None-clause-refused g c = λ tells. inl (refl, of_none _ c.in_ok-meta.field-0 c.in-None.is (c.in_ok-meta.ensures.none tells))
