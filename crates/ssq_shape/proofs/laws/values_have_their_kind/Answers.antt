use Rattle.std.proofs.Common.{[]}
use Rattle.ssq_shape.specs.Laws.{value_held}
use Rattle.ssq_shape.proofs.laws.values_have_their_kind.Goals as goal

pub returns : goal.returns
returns c = λ kinds row x kind held is. value_held [] kinds [] row x kind tt held is
