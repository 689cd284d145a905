use Rattle.std.proofs.Common.{ap, ◌∙◌}
use Rattle.ssq_meaning.specs.Join.{is_outer_side}
use Rattle.ssq_join.proofs.Alone.{no_side, side_is}
use Rattle.ssq_join.proofs.over.is_of_outer_side.Goals as goal

pub returns-in-Some : goal.returns-in-Some
returns-in-Some c = λ row key. c.is_outer_side.ensures ∙ ap (is_outer_side c.args.kind) (side_is row c.args.key.now c.in-Some.side.now c.in-Some.ensures.value key)

pub returns-in-None : goal.returns-in-None
returns-in-None c = λ row key. absurd (no_side row c.args.key.now c.in-None.ensures.value key)
