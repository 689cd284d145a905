use Rattle.std.proofs.Common.{sym, take, ◌∙◌}
use Rattle.ssq_join.proofs.Alone.{key_is}
use Rattle.ssq_join.proofs.over.key_part.Goals as goal

pub returns : goal.returns
returns c = λ row is.
    (λ i. take (c.in_ok-end.ensures.1 i) c.in_ok-rest.rest.now) ∙ key_is row c.in_ok-rest.field-0-0.now c.in_ok-rest.rest.now (sym c.in_ok-rest.ensures.cases.0 ∙ is)
