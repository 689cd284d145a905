use Rattle.ssq_parse.proofs.expr.+nested.Given as goal

abbrev pub decreases-nested : goal.decreases-nested
decreases-nested l = l.depth
