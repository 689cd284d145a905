use Rattle.ssq_shape.specs.Laws.{value_held}
use Rattle.ssq_shape.proofs.laws.groups_have_their_kind.Goals as goal

pub returns : goal.returns
returns c = value_held
