use Rattle.std.proofs.Common.{rules}
use Rattle.ssq_parse.specs.Expressions.{expr_at, product_at, signed_at}
use Rattle.ssq_parse.proofs.expr.Grammar.product.Goals as goal

pub returns : goal.returns
unfolding product_at
returns g c = c.chain.ensures (signed_at c.args.self.now.depth (expr_at c.args.self.now.depth)) (record { reads = λ old new r post. search rules })
