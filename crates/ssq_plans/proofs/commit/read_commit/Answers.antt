-- A commit's record is read line by line.
use Rattle.std.proofs.Common.{List, ℕ, Some, codes, ◌++◌, sym, ap, ◌∙◌}
use Rattle.std.proofs.lemmas.Bool.{false≢true}
use Rattle.ssq_plans.specs.declared.commit.Commit.{Commit}
use Rattle.ssq_plans.specs.Records.{lines, seen_line}
use Rattle.ssq_plans.proofs.Spelled.{commit_split, commit_joined, commit_is, no_seen}
use Rattle.ssq_plans.proofs.commit.read_commit.Goals as goal

abbrev seen_text : Commit → List ℕ
seen_text commit = lines (λ at seen. seen_line seen) 0 commit.seen ++ codes "end\n"

pub returns-in_default-clause-each : goal.returns-in_default-clause-each
returns-in_default-clause-each c commit fits is =
    absurd (c.in_default.ensures.each commit.epoch (seen_text commit) fits.0 (is ∙ commit_split commit))

pub returns-then-is_all-clause-found : goal.returns-then-is_all-clause-found
returns-then-is_all-clause-found c =
    commit_joined (record { epoch = c.in-Some.epoch; seen = c.in_ok-seen.seen }) c.args.text.now _ _
    c.in-Some.ensures.found c.in_ok-seen.ensures.found (c.is_all.ensures.only c.if-is_all.true)

pub returns-then-is_all-clause-each : goal.returns-then-is_all-clause-each
returns-then-is_all-clause-each c commit fits is =
    let first = c.in-Some.ensures.each commit.epoch (seen_text commit) fits.0 (is ∙ commit_split commit) in
    let second = c.in_ok-seen.ensures.each commit.seen (codes "end\n") fits.1 no_seen first.1 in
    ap Some (commit_is commit _ _ first.0 second.0)

pub returns-else-is_all-clause-each : goal.returns-else-is_all-clause-each
returns-else-is_all-clause-each c commit fits is =
    let first = c.in-Some.ensures.each commit.epoch (seen_text commit) fits.0 (is ∙ commit_split commit) in
    let second = c.in_ok-seen.ensures.each commit.seen (codes "end\n") fits.1 no_seen first.1 in
    absurd (false≢true (sym c.if-is_all.false ∙ c.is_all.ensures.each second.1))
