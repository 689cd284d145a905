use Rattle.ssq_version.specs.Map.{entries_in}
use Rattle.ssq_version.proofs.Filling.{given_ascends, made_after, made_kept}
use Rattle.ssq_version.proofs.applied.fill.Goals as goal

pub invariant_of-state : goal.invariant_of-state
invariant_of-state c =
    made_kept c.args.change c.in_ok-entries.entries.items (entries_in c.in_ok-state-inside.field-0) c.changes_are_kept.ensures.kept c.in_ok-entries.ensures
    (c.in_ok-state-inside.ensures (given_ascends c.args.change c.in_ok-entries.entries.items c.changes_are_kept.ensures.kept c.in_ok-entries.ensures))

pub returns-clause-ok : goal.returns-clause-ok
returns-clause-ok c =
    made_after c.args.change c.args.state.now c.in_ok-entries.entries.items (entries_in c.in_ok-state-inside.field-0) c.changes_are_kept.ensures.kept c.requires c.in_ok-entries.ensures
    (c.in_ok-state-inside.ensures (given_ascends c.args.change c.in_ok-entries.entries.items c.changes_are_kept.ensures.kept c.in_ok-entries.ensures))
