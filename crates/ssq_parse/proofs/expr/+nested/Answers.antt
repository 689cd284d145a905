use Rattle.std.proofs.Common.{arith}
use Rattle.ssq_parse.specs.Expressions.{expr_at}
use Rattle.ssq_parse.proofs.Turns.{deeper}
use Rattle.ssq_parse.proofs.expr.+nested.Goals as goal

pub returns : goal.returns
unfolding expr_at
returns t c = rw (deeper (λ n. expr_at n c.args.reader.now) c.args.depth (omega arith)) c.disjunction.ensures
