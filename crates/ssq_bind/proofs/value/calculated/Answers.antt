use Rattle.ssq_shape.specs.Boxes.{arithmetic_is}
use Rattle.ssq_bind.proofs.value.calculated.Goals as goal

pub returns : goal.returns
returns c = arithmetic_is c.args.operation c.args.a c.args.b
