use Rattle.std.proofs.Common.{arith}
use Rattle.ssq_ast.proofs.Printed.{each_more, each_done}
use Rattle.ssq_ast.proofs.part.print_each.Goals as goal

pub loop-part-preserved : goal.loop-part-preserved
loop-part-preserved g c last more =
    c.loop-part.invariant last
    (each_more g.P.Part.written c.args.parts.now c.loop-part.part-index c.part-item.result c.loop-part-test.true c.part-item.is c.print.ensures more)

pub returns : goal.returns
returns g c =
    c.loop-part.invariant c.loop-part.printer
    (each_done g.P.Part.written c.args.parts.now c.loop-part.part-index c.loop-part.printer (omega (arith, c.loop-part-test.false)))
