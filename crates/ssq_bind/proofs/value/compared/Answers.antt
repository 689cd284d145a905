use Rattle.ssq_shape.specs.Boxes.{compared_is}
use Rattle.ssq_bind.proofs.value.compared.Goals as goal

pub returns : goal.returns
returns c = compared_is c.args.comparison c.args.a c.args.b
