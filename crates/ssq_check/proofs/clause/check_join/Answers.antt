use Rattle.ssq_check.proofs.clause.check_join.Goals as goal

pub returns-in-Some : goal.returns-in-Some
returns-in-Some c = rw c.in-Some.is c.check_whole_join.ensures
