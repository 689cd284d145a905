use Rattle.std.proofs.Common.{Some, sym, subst, ◌∙◌}
use Rattle.ssq_shape.specs.declared.bound.Shape.{Shape}
use Rattle.ssq_step.specs.Indexing.{IsKeyBy, IsTimeIf}
use Rattle.ssq_step.proofs.Indexed.{key_timed}
use Rattle.ssq_step.proofs.index.entry_time.Goals as goal

pub returns-in-Join : goal.returns-in-Join
returns-in-Join c =
    let query = c.args.bound.now in
    subst (λ (of : Shape). (is : IsKeyBy of query c.args.key.now) → IsTimeIf of query c.args.key.now is (Some c.args.value.now) c.row_time.result) (sym c.in-Join.is) (λ is. c.row_time.ensures)

pub returns-in_default : goal.returns-in_default
returns-in_default c =
    let query = c.args.bound.now in
    key_timed query.shape query c.args.key.now c.args.value.now c.time_of.result c.in_default.not-Join (λ own readable same. c.time_of.ensures own readable (same ∙ sym c.as_slice.ensures))
