use Rattle.std.proofs.Common.{◌∙◌, ap, is_some}
use Rattle.ssq_check.specs.Keys.{is_key_of}
use Rattle.ssq_check.proofs.keys.Keys.has.Goals as goal
use Rattle.ssq_shape.proofs.Places.{some_place}

pub returns : goal.returns
returns c = c.is_some.ensures ∙ ap is_some c.place.ensures ∙ some_place (is_key_of c.args.spot) c.args.self.now
