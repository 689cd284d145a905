use Rattle.std.proofs.Common.{◌∷◌, arith}
use Rattle.ssq_ast.specs.Statement.{comma}
use Rattle.ssq_ast.proofs.Printed.{each_more, each_done}
use Rattle.ssq_ast.proofs.part.print_further.Goals as goal

pub loop-part-preserved : goal.loop-part-preserved
loop-part-preserved g c last more =
    c.loop-part.invariant last
    (each_more (λ part. comma ∷ g.P.Part.written part) c.args.parts.now c.loop-part.part-index c.part-item.result c.loop-part-test.true c.part-item.is
    (λ before held. c.print.ensures _ (c.symbol.ensures before held)) more)

pub returns : goal.returns
returns g c =
    c.loop-part.invariant c.loop-part.printer
    (each_done (λ part. comma ∷ g.P.Part.written part) c.args.parts.now c.loop-part.part-index c.loop-part.printer (omega (arith, c.loop-part-test.false)))
