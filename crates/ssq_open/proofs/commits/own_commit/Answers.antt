use Rattle.std.proofs.Common.{◌∙◌, refl, sym}
use Rattle.ssq_outside.specs.Files.{Files}
use Rattle.ssq_outside.specs.History.{files_now}
use Rattle.ssq_outside.specs.declared.name.Name.TheVariants as name
use Rattle.ssq_plans.specs.Records.{IsCommit, commit_text}
use Rattle.ssq_store.proofs.Making.{if_some as of_some}
use Rattle.ssq_open.specs.Epochs.{is_own}
use Rattle.ssq_open.specs.Spelled.{IsTheCommit}
use Rattle.ssq_open.proofs.Finding.{of_none}
use Rattle.ssq_open.proofs.Planning.{fails}
use Rattle.ssq_open.proofs.commits.own_commit.Goals as goal

pub returns-then-is_own-clause-commit : goal.returns-then-is_own-clause-commit
returns-then-is_own-clause-commit g c = λ tells.
    of_some (IsTheCommit (files_now (g.D.Disk.history c.args.disk.now)) c.args.epoch) c.in_ok-commit.field-0 c.in-Some.commit c.in-Some.is (c.in_ok-commit.ensures.found tells)

pub returns-then-is_own-clause-in_range : goal.returns-then-is_own-clause-in_range
returns-then-is_own-clause-in_range g c = of_some IsCommit c.in_ok-commit.field-0 c.in-Some.commit c.in-Some.is c.in_ok-commit.ensures.in_range

pub returns-else-is_own-clause-refused : goal.returns-else-is_own-clause-refused
returns-else-is_own-clause-refused g c = λ tells.
    let files : Files = files_now (g.D.Disk.history c.args.disk.now) in
    let is = of_some (IsTheCommit files c.args.epoch) c.in_ok-commit.field-0 c.in-Some.commit c.in-Some.is (c.in_ok-commit.ensures.found tells) in
    (refl, λ good. fails IsCommit commit_text (files (name.Commit c.args.epoch)) (is_own c.args.streams.now c.args.epoch) c.in-Some.commit good.commit is good.is (sym c.is_own.ensures ∙ c.if-is_own.false) good.own)

pub returns-in-None-clause-refused : goal.returns-in-None-clause-refused
returns-in-None-clause-refused g c = λ tells.
    (refl, λ good. of_none _ c.in_ok-commit.field-0 c.in-None.is (c.in_ok-commit.ensures.none tells) good.commit good.is.spells)
