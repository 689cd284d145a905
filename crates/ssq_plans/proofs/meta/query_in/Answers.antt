-- The length, the query and the end are put together again.
use Rattle.std.proofs.Common.{List, ℕ, codes, length, ◌++◌, sym, subst, ◌∙◌, arith}
use Rattle.std.proofs.lemmas.Bool.{false≢true}
use Rattle.std.specs.Str.{IsUtf8}
use Rattle.ssq_plans.proofs.Spelled.{query_joined, query_len}
use Rattle.ssq_plans.proofs.meta.query_in.Goals as goal

abbrev ended : List ℕ → List ℕ
ended query = query ++ codes "\nend\n"

pub returns-in_err-len-clause-each : goal.returns-in_err-len-clause-each
returns-in_err-len-clause-each c query utf8 is =
    absurd (c.in_err-len.ensures.each (length query) (ended query) (omega (arith, query_len c.args.text.now query is)) is)

pub returns-in_err-query-clause-each : goal.returns-in_err-query-clause-each
returns-in_err-query-clause-each c query utf8 is =
    let first = c.in_ok-len.ensures.each (length query) (ended query) (omega (arith, query_len c.args.text.now query is)) is in
    absurd (c.in_err-query.ensures.each query (codes "\nend\n") (sym first.0) first.1)

pub returns-in-Ok-clause-found : goal.returns-in-Ok-clause-found
returns-in-Ok-clause-found c =
    query_joined c.args.text.now _ _ _ _ _ c.in_ok-len.ensures.found c.in_ok-query.ensures.found (c.is_all.ensures.only c.if-is_all.true) c.in_ok-query.ensures.many c.in-Ok.ensures.cases.0

pub returns-in-Ok-clause-each : goal.returns-in-Ok-clause-each
returns-in-Ok-clause-each c query utf8 is =
    let first = c.in_ok-len.ensures.each (length query) (ended query) (omega (arith, query_len c.args.text.now query is)) is in
    let second = c.in_ok-query.ensures.each query (codes "\nend\n") (sym first.0) first.1 in
    c.in-Ok.ensures.cases.0 ∙ second.0

pub returns-in-Err-clause-each : goal.returns-in-Err-clause-each
returns-in-Err-clause-each c query utf8 is =
    let first = c.in_ok-len.ensures.each (length query) (ended query) (omega (arith, query_len c.args.text.now query is)) is in
    let second = c.in_ok-query.ensures.each query (codes "\nend\n") (sym first.0) first.1 in
    absurd (c.in-Err.ensures.cases.0 (subst IsUtf8 (sym second.0) utf8))

pub returns-else-is_all-clause-each : goal.returns-else-is_all-clause-each
returns-else-is_all-clause-each c query utf8 is =
    let first = c.in_ok-len.ensures.each (length query) (ended query) (omega (arith, query_len c.args.text.now query is)) is in
    let second = c.in_ok-query.ensures.each query (codes "\nend\n") (sym first.0) first.1 in
    absurd (false≢true (sym c.if-is_all.false ∙ c.is_all.ensures.each second.1))
