-- A job's record is read part by part.
use Rattle.std.proofs.Common.{List, ℕ, Some, codes, decimal, length, ◌++◌, sym, ap, ◌∙◌}
use Rattle.ssq_plans.specs.Records.{lines, parts_line}
use Rattle.ssq_plans.proofs.Spelled.{meta_split, meta_joined, meta_is, no_parts}
use Rattle.ssq_plans.proofs.meta.read_meta.Goals as goal

abbrev query_text : List ℕ → List ℕ
query_text query = codes "query " ++ (decimal (length query) ++ (codes "\n" ++ (query ++ codes "\nend\n")))

pub returns-in_default-clause-each : goal.returns-in_default-clause-each
returns-in_default-clause-each c meta fits is =
    absurd (c.in_default.ensures.each meta.partitions (lines parts_line 0 meta.parts ++ query_text meta.query) fits.0.0 fits.0.1 (is ∙ meta_split meta))

pub returns-in_default-query_in-clause-each : goal.returns-in_default-query_in-clause-each
returns-in_default-query_in-clause-each c meta fits is =
    let first = c.in-Some.ensures.each meta.partitions (lines parts_line 0 meta.parts ++ query_text meta.query) fits.0.0 fits.0.1 (is ∙ meta_split meta) in
    let second = c.in_ok-parts.ensures.each meta.parts (query_text meta.query) fits.0.2 (λ at count behind. no_parts at count _ behind) first.1 in
    absurd (c.in_default-query_in.ensures.each meta.query fits.1 second.1)

pub returns-clause-found : goal.returns-clause-found
returns-clause-found c =
    meta_joined (record { partitions = c.in-Some.partitions; parts = c.in_ok-parts.parts; query = c.in_ok-query.query }) c.args.text.now c.in-Some.rest.now c.in_ok-parts.rest.now
    c.in-Some.ensures.found c.in_ok-parts.ensures.found (c.in-Some-query_in.ensures.found ∙ ap query_text (sym c.in_ok-query.ensures))

pub returns-clause-each : goal.returns-clause-each
returns-clause-each c meta fits is =
    let first = c.in-Some.ensures.each meta.partitions (lines parts_line 0 meta.parts ++ query_text meta.query) fits.0.0 fits.0.1 (is ∙ meta_split meta) in
    let second = c.in_ok-parts.ensures.each meta.parts (query_text meta.query) fits.0.2 (λ at count behind. no_parts at count _ behind) first.1 in
    let third = c.in-Some-query_in.ensures.each meta.query fits.1 second.1 in
    ap Some (meta_is meta _ _ _ first.0 second.0 (c.in_ok-query.ensures ∙ third))
