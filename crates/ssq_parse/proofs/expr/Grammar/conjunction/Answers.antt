use Rattle.std.proofs.Common.{rules}
use Rattle.ssq_parse.specs.Expressions.{expr_at, conjunction_at, negation_at}
use Rattle.ssq_parse.proofs.expr.Grammar.conjunction.Goals as goal

pub returns : goal.returns
unfolding conjunction_at
returns g c = c.chain.ensures (negation_at c.args.self.now.depth (expr_at c.args.self.now.depth)) (record { reads = λ old new r post. search rules })
