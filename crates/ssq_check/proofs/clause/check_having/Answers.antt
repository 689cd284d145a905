use Rattle.ssq_check.proofs.clause.check_having.Goals as goal

pub returns-in-Some : goal.returns-in-Some
returns-in-Some c = rw c.in-Some.is c.check_grouped.ensures
