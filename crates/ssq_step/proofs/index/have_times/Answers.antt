use Rattle.std.proofs.Common.{sym, subst, ◌∙◌}
use Rattle.std.proofs.Common.{None}
use Rattle.ssq_shape.specs.declared.bound.Shape.{Shape}
use Rattle.ssq_step.proofs.Indexed.{HaveNone, key_timed}
use Rattle.ssq_step.proofs.RowTimes.{no_bound, unbounded}
use Rattle.ssq_step.proofs.index.have_times.Goals as goal

pub returns-in-Join : goal.returns-in-Join
returns-in-Join c none =
    let query = c.args.bound.now in
    subst (λ (of : Shape). HaveNone of query) (sym c.in-Join.is) (λ key is value. unbounded query c.in-Join.joining key value (no_bound c.in-Join.joining.bound (sym c.is_some.ensures ∙ none)))

pub returns-in_default : goal.returns-in_default
returns-in_default c none =
    let query = c.args.bound.now in
    λ key is value. key_timed query.shape query key value None c.in_default.not-Join (λ own readable same. sym (c.keys_have_times.ensures.none (sym c.keys_have_times.ensures.is ∙ none) own)) is
