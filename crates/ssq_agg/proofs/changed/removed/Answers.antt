use Rattle.std.proofs.Common.{◌<◌, All, arith, ap, length, map, sym, subst, ◌∙◌}
use Rattle.std.proofs.lemmas.List.{take_all}
use Rattle.std.proofs.lemmas.List.Elements.{All-get_or, All-nil}
use Rattle.ssq_version.specs.State.{IsShortEntry}
use Rattle.ssq_agg.specs.Readable.{IsFitGroup}
use Rattle.ssq_agg.specs.Steps.{gone_entry}
use Rattle.ssq_agg.proofs.Saying.{gone_more}
use Rattle.ssq_agg.proofs.changed.removed.Goals as goal

pub loop-group-init : goal.loop-group-init
loop-group-init c = (c.in_ok-entries.ensures.items, subst (All IsShortEntry) (sym c.in_ok-entries.ensures.items) (All-nil IsShortEntry))

pub remove_group-requires : goal.remove_group-requires
remove_group-requires c =
    let inside : c.loop-group.group-index < length c.args.groups.now = omega (arith, c.loop-group-test.true) in
    let fit = All-get_or (λ group. IsFitGroup group.key group.totals) c.args.groups.now c.loop-group.group-index c.group-item.result inside c.requires in
    (subst (λ group. IsFitGroup group.key group.totals) (sym c.group-item.is) fit).key_fits

pub loop-group-preserved : goal.loop-group-preserved
loop-group-preserved c = (
  gone_more c.args.groups.now c.loop-group.group-index c.group-item.result (omega (arith, c.loop-group-test.true)) c.group-item.is c.loop-group.entries.items c.remove_group.new.entries.items
      c.in_ok-remove_group.ensures.said c.loop-group.invariant.0,
  c.in_ok-remove_group.ensures.short c.loop-group.invariant.1,
)

pub returns-clause-said : goal.returns-clause-said
returns-clause-said c = c.loop-group.invariant.0 ∙ ap (map gone_entry) (take_all c.loop-group.group-index c.args.groups.now (omega (arith, c.loop-group-test.false)))

pub returns-clause-short : goal.returns-clause-short
returns-clause-short c = c.loop-group.invariant.1
