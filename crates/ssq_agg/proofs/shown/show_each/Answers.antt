use Rattle.std.proofs.Common.{◌<◌, length, arith, sym, subst}
use Rattle.std.proofs.lemmas.List.Elements.{All-get_or}
use Rattle.ssq_agg.specs.Readable.{IsFitGroup}
use Rattle.ssq_agg.proofs.shown.show_each.Goals as goal

pub show_group-requires-clause-fit : goal.show_group-requires-clause-fit
show_group-requires-clause-fit c =
    let inside : c.loop-group.group-index < length c.args.groups.now = omega (arith, c.loop-group-test.true) in
    subst (λ key. IsFitGroup key c.group-item.result.totals) (sym c.as_slice.ensures) (subst (λ group. IsFitGroup group.key group.totals) (sym c.group-item.is)
    (All-get_or (λ group. IsFitGroup group.key group.totals) c.args.groups.now c.loop-group.group-index c.group-item.result inside c.requires.fit))
