use Rattle.std.proofs.Common.{refl, sym, ◌∙◌, inl}
use Rattle.ssq_shape.specs.Late.{closes}
use Rattle.ssq_ledger.specs.Shown.{HasRisen}
use Rattle.ssq_drive.specs.Damaged.{HasDamaged}
use Rattle.ssq_drive.proofs.Goods.{synced_good}
use Rattle.ssq_drive.proofs.KeepLemmas.{keeps_still}
use Rattle.ssq_drive.proofs.Tidying.{sync_keeps, sync_stops, sync_tidies}
use Rattle.ssq_drive.proofs.keep.tidy.Goals as goal

pub returns-then-is_tidy-clause-kept : goal.returns-then-is_tidy-clause-kept
returns-then-is_tidy-clause-kept g c = keeps_still g.D.Disk.faults (HasDamaged g.D.Disk.tells g.L.Log.tells g.D.Disk.history g.L.Log.lines) (closes c.args.desk.now.opening.view.bound.now) c.args.desk.now c.args.desk.now refl c.requires.rest

pub returns-then-is_tidy-clause-tidied : goal.returns-then-is_tidy-clause-tidied
returns-then-is_tidy-clause-tidied g c = inl (refl, sym c.is_tidy.ensures ∙ c.if-is_tidy.true)

pub returns-clause-kept : goal.returns-clause-kept
returns-clause-kept g c = sync_keeps g.L.Log.lines g.D.Disk.faults (HasDamaged g.D.Disk.tells g.L.Log.tells g.D.Disk.history g.L.Log.lines) c.args.desk.now c.sync.new.self c.requires.running c.requires.rest c.sync.ensures.counted c.sync.result c.sync.ensures.done c.sync.ensures.stopped

pub returns-clause-good : goal.returns-clause-good
returns-clause-good g c = λ t good. synced_good g.L.Log.lines c.args.desk.now c.sync.new.self c.sync.result (λ f. HasRisen f (g.D.Disk.faults c.args.desk.now.disk) (g.D.Disk.faults c.sync.new.self.disk)) c.sync.ensures.done c.sync.ensures.stopped good

pub returns-clause-tidied : goal.returns-clause-tidied
returns-clause-tidied g c = sync_tidies g.L.Log.lines g.D.Disk.faults (HasDamaged g.D.Disk.tells g.L.Log.tells g.D.Disk.history g.L.Log.lines) c.args.desk.now c.sync.new.self c.requires.running c.requires.rest c.sync.ensures.counted c.sync.result c.sync.ensures.done

pub returns-clause-stopped : goal.returns-clause-stopped
returns-clause-stopped g c = sync_stops g.L.Log.lines g.D.Disk.faults (HasDamaged g.D.Disk.tells g.L.Log.tells g.D.Disk.history g.L.Log.lines) c.args.desk.now c.sync.new.self c.requires.running c.requires.rest c.sync.ensures.counted c.sync.result c.sync.ensures.stopped
