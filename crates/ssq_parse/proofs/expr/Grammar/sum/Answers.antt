use Rattle.std.proofs.Common.{rules}
use Rattle.ssq_parse.specs.Expressions.{expr_at, sum_at, product_at}
use Rattle.ssq_parse.proofs.expr.Grammar.sum.Goals as goal

pub returns : goal.returns
unfolding sum_at
returns g c = c.chain.ensures (product_at c.args.self.now.depth (expr_at c.args.self.now.depth)) (record { reads = λ old new r post. search rules })
