use Rattle.std.proofs.Common.{None, subst, sym}
use Rattle.ssq_version.specs.State.{IsChangedAt, IsShort, IsState, in_order}
use Rattle.ssq_version.specs.Map.{entries_in}
use Rattle.ssq_version.proofs.Kept.{kept_removed}
use Rattle.ssq_version.proofs.Tables.{order_ascends, taken_kept, table_changed}
use Rattle.ssq_version.proofs.map.Map.remove.Goals as goal

pub returns-in-Ordered-clause-kept : goal.returns-in-Ordered-clause-kept
returns-in-Ordered-clause-kept c = λ kept.
    kept_removed IsShort c.in-Ordered.map.entries c.remove.new.self.entries c.args.key.now c.remove.ensures.entries c.remove.ensures.ordered
    (subst (λ map. IsState (entries_in map)) c.in-Ordered.is kept)

pub returns-in-Hashed-clause-changed : goal.returns-in-Hashed-clause-changed
returns-in-Hashed-clause-changed c =
    subst (λ map. IsChangedAt c.args.key.now None (entries_in map) (in_order c.remove-in-Hashed.new.self.entries)) (sym c.in-Hashed.is)
    (table_changed c.args.key.now None c.in-Hashed.table.entries c.remove-in-Hashed.new.self.entries c.remove-in-Hashed.ensures.updates.0)

pub returns-in-Hashed-clause-kept : goal.returns-in-Hashed-clause-kept
returns-in-Hashed-clause-kept c = λ kept.
    taken_kept c.args.key.now (in_order c.in-Hashed.table.entries) (in_order c.remove-in-Hashed.new.self.entries) (order_ascends c.remove-in-Hashed.new.self.entries)
    (table_changed c.args.key.now None c.in-Hashed.table.entries c.remove-in-Hashed.new.self.entries c.remove-in-Hashed.ensures.updates.0)
    (subst (λ map. IsState (entries_in map)) c.in-Hashed.is kept)
