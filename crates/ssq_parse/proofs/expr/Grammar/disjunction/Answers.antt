use Rattle.std.proofs.Common.{rules}
use Rattle.ssq_parse.specs.Expressions.{expr_at, disjunction_at, conjunction_at}
use Rattle.ssq_parse.proofs.expr.Grammar.disjunction.Goals as goal

pub returns : goal.returns
unfolding disjunction_at
returns g c = c.chain.ensures (conjunction_at c.args.self.now.depth (expr_at c.args.self.now.depth)) (record { reads = λ old new r post. search rules })
