use Rattle.std.proofs.Common.{All, [], ◌∷◌, sym, subst, ◌∙◌, rules}
use Rattle.std.proofs.lemmas.List.Elements.{All-head, All-tail}
use Rattle.ssq_agg.specs.Readable.{IsFitGroup}
use Rattle.ssq_agg.specs.Shown.{Shows}
use Rattle.ssq_agg.proofs.Finishing.{finishes_on}
use Rattle.ssq_agg.proofs.Fitting.{entries_fit}
use Rattle.ssq_agg.proofs.shown.show_touched.Goals as goal

pub loop-key-init : goal.loop-key-init
loop-key-init c = (
  search rules,
  c.requires.printable,
  subst (All (λ entry. IsFitGroup entry.0 entry.1)) (sym (c.into_iter-key-iterator.ensures.into_iter_gives ∙ c.iter-key-items.ensures.rest))
      (entries_fit c.args.groups.now c.requires.fit c.iter-key-items.ensures.found),
)

pub show_group-requires-clause-fit : goal.show_group-requires-clause-fit
show_group-requires-clause-fit c = subst (λ key. IsFitGroup key c.in-Some.totals.now) (sym c.values.ensures) (All-head (λ entry. IsFitGroup entry.0 entry.1) (c.in-Some.key.now, c.in-Some.totals.now) c.next.new.self (subst (All (λ entry. IsFitGroup entry.0 entry.1)) c.in-Some.ensures.steps c.loop-key.invariant.2))

pub loop-key-preserved : goal.loop-key-preserved
loop-key-preserved c = (
  finishes_on c.args.bound.now c.args.grouping.now c.loop-key.key-iterator c.next.new.self c.args.groups.now.entries (c.in-Some.key.now, c.in-Some.totals.now) c.args.shown.now c.loop-key.shown c.show_group.new.shown
      c.in-Some.ensures.steps (subst (λ key. Shows c.args.bound.now c.args.grouping.now ((key, c.in-Some.totals.now) ∷ []) c.loop-key.shown c.show_group.new.shown) c.values.ensures c.in_ok-show_group.ensures.shown) c.loop-key.invariant.0,
  c.in_ok-show_group.ensures.printable,
  All-tail (λ entry. IsFitGroup entry.0 entry.1) (c.in-Some.key.now, c.in-Some.totals.now) c.next.new.self (subst (All (λ entry. IsFitGroup entry.0 entry.1)) c.in-Some.ensures.steps c.loop-key.invariant.2),
)
