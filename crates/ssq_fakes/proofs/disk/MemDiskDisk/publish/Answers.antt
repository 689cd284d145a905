use Rattle.std.proofs.Common.{◌≡◌, ◌+◌, ◌∷◌, ◌∙◌, ap, sym, arith, length, OnErr, OnOk, inr}
use Rattle.std.proofs.lemmas.Result.{on_ok_weaker, on_err_weaker}
use Rattle.ssq_outside.specs.Files.{added}
use Rattle.ssq_fakes.specs.declared.record.Event.TheVariants.{Put}
use Rattle.ssq_fakes.specs.Records.{events_of, had_after}
use Rattle.ssq_fakes.specs.Disks.{disk_history}
use Rattle.ssq_fakes.proofs.Histories.{advances, had_now-is, rests}
use Rattle.ssq_fakes.proofs.Rooms.{sure_put, stays_sure}
use Rattle.ssq_fakes.proofs.disk.MemDiskDisk.publish.Goals as goal

pub returns-clause-ok : goal.returns-clause-ok
returns-clause-ok c =
    let old = c.args.self.now in
    let new = c.advance.new.self in
    let is : OnOk c.advance.result (events_of new.record ≡ Put c.args.name c.args.file.bytes ∷ events_of old.record) = rw c.keep_room-publish.ensures.record at c.advance.ensures.ok in
    on_ok_weaker c.advance.result
    (λ is. had_now-is (events_of new.record) new.clock ∙ ap had_after is ∙ ap (added c.args.name c.args.file.bytes.items) (sym (had_now-is (events_of old.record) old.clock)))
    is

pub returns-clause-steps : goal.returns-clause-steps
returns-clause-steps c =
    let old = c.args.self.now in
    let is : OnOk c.advance.result (events_of c.advance.new.self.record ≡ Put c.args.name c.args.file.bytes ∷ events_of old.record) = rw c.keep_room-publish.ensures.record at c.advance.ensures.ok in
    let next : OnOk c.advance.result (c.advance.new.self.clock ≡ old.clock + 1) = rw c.keep_room-publish.ensures.clock at c.advance.ensures.clock in
    let same : OnErr c.advance.result (disk_history c.advance.new.self ≡ disk_history old) = rw (c.keep_room-publish.ensures.record, c.keep_room-publish.ensures.clock) at c.advance.ensures.err in
    advances c.advance.result (Put c.args.name c.args.file.bytes) _ _ _ _ _ is next same
    (ap (added c.args.name c.args.file.bytes.items) (sym (had_now-is (events_of old.record) old.clock)))

pub returns-clause-never : goal.returns-clause-never
returns-clause-never c = λ sure.
    let old = c.args.self.now in
    let new = c.advance.new.self in
    let is : OnOk c.advance.result (events_of new.record ≡ Put c.args.name c.args.file.bytes ∷ events_of old.record) = rw c.keep_room-publish.ensures.record at c.advance.ensures.ok in
    let plan : new.faults.plan ≡ old.faults.plan = cc in
    let spare : length (events_of new.spare) ≡ length (events_of old.spare) + 3 = rw c.advance.ensures.spare c.keep_room-publish.ensures.spare in
    let count : c.keep_room-publish.new.self.faults.count ≡ old.faults.count = rw c.keep_room-publish.ensures.faults c.if-fails.ensures.same in
    let unfailed : OnOk c.advance.result (new.faults.count ≡ old.faults.count) = rw count at c.advance.ensures.unfailed in
    let clock : c.keep_room-publish.new.self.clock ≡ old.clock = c.keep_room-publish.ensures.clock in
    stays_sure c.advance.result _ _ _ _ _ c.advance.ensures.full (λ full early. omega arith) unfailed
    (on_ok_weaker c.advance.result (sure_put old new c.args.name c.args.file.bytes sure plan spare) is)

pub returns-then-fails-clause-steps : goal.returns-then-fails-clause-steps
returns-then-fails-clause-steps c = rests (disk_history c.args.self.now) _

pub returns-clause-failed : goal.returns-clause-failed
returns-clause-failed c = on_err_weaker c.advance.result (λ full. inr (rw c.keep_room-publish.ensures.clock at full)) c.advance.ensures.full
