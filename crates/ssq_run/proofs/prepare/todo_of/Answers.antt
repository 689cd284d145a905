use Rattle.std.proofs.Common.{◌∙◌, Some, ap, subst}
use Rattle.ssq_words.specs.Asking.{Asked, asked_of}
use Rattle.ssq_run.specs.Queries.{IsQueryFor}
use Rattle.ssq_run.proofs.prepare.todo_of.Goals as goal

pub returns-in-Run-clause-todo : goal.returns-in-Run-clause-todo
returns-in-Run-clause-todo c = λ held words is query.
    let Q : Asked → Type 0 = λ what. IsQueryFor held what c.args.bound in
    (c.in-Run.query.now, is ∙ ap (λ (what : Asked). Some what) (ap asked_of c.in-Run.is), subst Q (ap asked_of c.in-Run.is) query)

pub returns-in-Show-clause-todo : goal.returns-in-Show-clause-todo
returns-in-Show-clause-todo c = λ held words is query. (asked_of c.args.command, is, (c.in-Show.query.now, ap asked_of c.in-Show.is), query)

pub returns-in-Explain-clause-todo : goal.returns-in-Explain-clause-todo
returns-in-Explain-clause-todo c = λ held words is query. (asked_of c.args.command, is, (c.in-Explain.query.now, ap asked_of c.in-Explain.is), query)

pub returns-in-Status-clause-todo : goal.returns-in-Status-clause-todo
returns-in-Status-clause-todo c = λ held words is query. (asked_of c.args.command, is, (c.in-Status.query.now, ap asked_of c.in-Status.is), query)

pub returns-in-Gen-clause-todo : goal.returns-in-Gen-clause-todo
returns-in-Gen-clause-todo c = λ held words is query. (asked_of c.args.command, is, ap asked_of c.in-Gen.is, query)
