use Rattle.std.proofs.Common.{◌∙◌, Some, ap, subst, sym}
use Rattle.ssq_version.specs.State.{IsChangedAt, IsShort, IsState, in_order, value_at}
use Rattle.ssq_version.specs.Map.{entries_in}
use Rattle.ssq_version.proofs.Kept.{kept_inserted}
use Rattle.ssq_version.proofs.Tables.{changed_kept, not_there, order_ascends, table_at, table_changed}
use Rattle.ssq_version.proofs.map.Map.insert.Goals as goal

pub returns-in_err-insert-in-Hashed-clause-old : goal.returns-in_err-insert-in-Hashed-clause-old
returns-in_err-insert-in-Hashed-clause-old c = λ there.
    absurd (not_there (value_at (entries_in c.args.self.now) c.args.key)
    (ap (λ map. value_at (entries_in map) c.args.key) c.in-Hashed.is ∙ sym (table_at c.in-Hashed.table.entries c.args.key) ∙ c.in_err-insert-in-Hashed.ensures.absent) there)

pub returns-in_ok-insert-in-Ordered-clause-kept : goal.returns-in_ok-insert-in-Ordered-clause-kept
returns-in_ok-insert-in-Ordered-clause-kept c = λ short fits kept.
    kept_inserted IsShort c.in-Ordered.map.entries c.insert.new.self.entries c.args.key c.args.value c.in_ok-insert-in-Ordered.ensures.entries c.insert.ensures.ordered
    (subst (λ map. IsState (entries_in map)) c.in-Ordered.is kept) short fits

pub returns-in_ok-insert-in-Hashed-clause-ok : goal.returns-in_ok-insert-in-Hashed-clause-ok
returns-in_ok-insert-in-Hashed-clause-ok c =
    subst (λ map. IsChangedAt c.args.key (Some c.args.value) (entries_in map) (in_order c.insert-in-Hashed.new.self.entries)) (sym c.in-Hashed.is)
    (table_changed c.args.key (Some c.args.value) c.in-Hashed.table.entries c.insert-in-Hashed.new.self.entries c.in_ok-insert-in-Hashed.ensures.updates.0)

pub returns-in_ok-insert-in-Hashed-clause-kept : goal.returns-in_ok-insert-in-Hashed-clause-kept
returns-in_ok-insert-in-Hashed-clause-kept c = λ short fits kept.
    changed_kept c.args.key c.args.value (in_order c.in-Hashed.table.entries) (in_order c.insert-in-Hashed.new.self.entries) (order_ascends c.insert-in-Hashed.new.self.entries)
    (table_changed c.args.key (Some c.args.value) c.in-Hashed.table.entries c.insert-in-Hashed.new.self.entries c.in_ok-insert-in-Hashed.ensures.updates.0)
    short fits (subst (λ map. IsState (entries_in map)) c.in-Hashed.is kept)
