use Rattle.std.proofs.Common.{◌∙◌, ap, is_some}
use Rattle.ssq_check.specs.Shown.{group_place_at}
use Rattle.ssq_check.proofs.shown.is_group.Goals as goal

pub returns : goal.returns
returns c =
    c.is_some.ensures
    ∙ ap is_some (c.group_place.ensures ∙ ap (group_place_at c.args.query.now.select.group) (λ i. (c.shown_aggregates-aggregates.ensures i).first))
