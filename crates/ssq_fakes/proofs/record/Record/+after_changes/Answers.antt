use Rattle.std.proofs.Common.{◌≡◌, ◌∙◌, sym, length}
use Rattle.std.specs.Prelude.{min}
use Rattle.ssq_fakes.specs.Records.{events_of, had_after}
use Rattle.ssq_fakes.proofs.Crashes.{content_at-change, content_at-synced}
use Rattle.ssq_fakes.proofs.record.Record.+after_changes.Goals as goal

pub returns-then-is_sync-clause-content : goal.returns-then-is_sync-clause-content
returns-then-is_sync-clause-content t c =
    rw (c.in-Then.is, content_at-synced c.in-Then.event (events_of c.in-Then.older.value) c.args.name c.args.number (sym c.is_sync.ensures ∙ c.if-is_sync.true), ← c.deref.ensures) c.content.ensures

pub returns-then-changes-number-clause-content : goal.returns-then-changes-number-clause-content
returns-then-changes-number-clause-content t c =
    let counted : c.after_changes-changes.result.1 ≡ min c.args.number (length (had_after (events_of c.in-Then.older.value) c.args.name).since) = rw c.deref-in-Then.ensures at c.after_changes-changes.ensures.count in
    rw (c.in-Then.is, content_at-change c.in-Then.event (events_of c.in-Then.older.value) c.args.name _ c.args.number (sym c.is_sync.ensures ∙ c.if-is_sync.false) (sym c.is_about.ensures ∙ c.if-is_about.true) counted c.if-changes-number.true)
    c.content-then-changes-number.ensures
