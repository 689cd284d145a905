use Rattle.std.proofs.Common.{◌∙◌, ap, subst, sym, inl, inr, length}
use Rattle.std.proofs.lemmas.Result.{on_ok_weaker, on_err_weaker}
use Rattle.ssq_outside.specs.Files.{Had, IsSyncStep, files_of, settled_at}
use Rattle.ssq_fakes.specs.declared.record.Event.TheVariants.{Synced}
use Rattle.ssq_fakes.specs.Records.{events_of, had_after}
use Rattle.ssq_fakes.specs.Disks.{disk_history}
use Rattle.ssq_fakes.proofs.Histories.{advances, had_now-is, sync_step, rests, unsettled}
use Rattle.ssq_fakes.proofs.disk.MemDiskDisk.sync_names.Goals as goal

pub returns-clause-ok : goal.returns-clause-ok
returns-clause-ok c =
    let old = c.args.self.now in
    let new = c.advance_in_spare.new.self in
    on_ok_weaker c.advance_in_spare.result
    (λ is. had_now-is (events_of new.record) new.clock ∙ ap had_after is ∙ ap (λ (had : Had). settled_at (files_of had)) (sym (had_now-is (events_of old.record) old.clock)))
    c.advance_in_spare.ensures.ok

pub returns-clause-steps : goal.returns-clause-steps
returns-clause-steps c =
    let old = c.args.self.now in
    let had = had_after (events_of old.record) in
    let M : Had → Type 0 = λ before. IsSyncStep before (settled_at (files_of had)) in
    advances c.advance_in_spare.result Synced _ _ _ _ _ c.advance_in_spare.ensures.ok c.advance_in_spare.ensures.clock c.advance_in_spare.ensures.err
    (subst M (sym (had_now-is (events_of old.record) old.clock)) (sync_step had))

pub returns-then-fails-clause-steps : goal.returns-then-fails-clause-steps
returns-then-fails-clause-steps c = rests (disk_history c.args.self.now) _

pub returns-clause-failed : goal.returns-clause-failed
returns-clause-failed c =
    on_err_weaker c.advance_in_spare.result (λ full. inr (elim full [ inl end ↦ inl end | inr none ↦ inr (ap length none) ])) c.advance_in_spare.ensures.full

pub returns-clause-idle : goal.returns-clause-idle
returns-clause-idle c = λ settled fails.
    let old = c.args.self.now in
    absurd (unsettled (events_of old.record) old.clock (sym c.is_unsettled.ensures ∙ c.if-not-is_unsettled.false) settled)
