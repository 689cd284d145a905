use Rattle.std.proofs.Common.{◌≡◌, ◌≤◌, ◌∙◌, true, ap, sym, inl, inr, arith, length, OnOk}
use Rattle.std.specs.Prelude.{is_some}
use Rattle.std.proofs.lemmas.Result.{on_ok_weaker, on_err_weaker}
use Rattle.ssq_fakes.specs.declared.record.Event.TheVariants.{Gone}
use Rattle.ssq_fakes.specs.Records.{events_of, had_after, content_in}
use Rattle.ssq_fakes.specs.Disks.{disk_history}
use Rattle.ssq_fakes.proofs.Histories.{advances, had_now-is, files_now-is, not_there, removed-there, removed-absent, rests}
use Rattle.ssq_fakes.proofs.Rooms.{sure_gone, stays_sure, has_room-there, on_ok_both}
use Rattle.ssq_fakes.proofs.disk.MemDiskDisk.remove.Goals as goal

pub returns-then-not-has-clause-ok : goal.returns-then-not-has-clause-ok
returns-then-not-has-clause-ok c =
    let old = c.args.self.now in
    sym (removed-absent (events_of old.record) old.clock c.args.name (sym c.has.ensures ∙ c.if-not-has.true))

pub returns-clause-ok : goal.returns-clause-ok
returns-clause-ok c =
    let old = c.args.self.now in
    let new = c.advance_in_spare.new.self in
    on_ok_weaker c.advance_in_spare.result
    (λ is. had_now-is (events_of new.record) new.clock ∙ ap had_after is ∙ sym (removed-there (events_of old.record) old.clock c.args.name (sym c.has.ensures ∙ c.if-not-has.false)))
    c.advance_in_spare.ensures.ok

pub returns-clause-steps : goal.returns-clause-steps
returns-clause-steps c =
    let old = c.args.self.now in
    advances c.advance_in_spare.result (Gone c.args.name) _ _ _ _ _ c.advance_in_spare.ensures.ok c.advance_in_spare.ensures.clock c.advance_in_spare.ensures.err
    (sym (removed-there (events_of old.record) old.clock c.args.name (sym c.has.ensures ∙ c.if-not-has.false)))

pub returns-clause-never : goal.returns-clause-never
returns-clause-never c = λ sure.
    let old = c.args.self.now in
    let new = c.advance_in_spare.new.self in
    let there : is_some (content_in (events_of old.record) c.args.name) ≡ true = sym c.has.ensures ∙ c.if-not-has.false in
    let plan : new.faults.plan ≡ old.faults.plan = cc in
    let count : c.fails.new.self.count ≡ old.faults.count = c.if-fails.ensures.same in
    let unfailed : OnOk c.advance_in_spare.result (new.faults.count ≡ old.faults.count) = rw count at c.advance_in_spare.ensures.unfailed in
    let room : 1 ≤ length (events_of old.spare) = has_room-there (events_of old.record) c.args.name (length (events_of old.spare)) sure.has_room there in
    stays_sure c.advance_in_spare.result _ _ _ _ _ c.advance_in_spare.ensures.full
    (λ full early. elim full [ inl end ↦ omega (arith, end, early) | inr none ↦ omega (arith, room, ap length none) ])
    unfailed
    (on_ok_both c.advance_in_spare.result (λ less is. sure_gone old new c.args.name sure plan less there is) c.advance_in_spare.ensures.spare c.advance_in_spare.ensures.ok)

pub returns-then-fails-clause-steps : goal.returns-then-fails-clause-steps
returns-then-fails-clause-steps c = rests (disk_history c.args.self.now) _

pub returns-then-not-has-clause-steps : goal.returns-then-not-has-clause-steps
returns-then-not-has-clause-steps c = rests (disk_history c.args.self.now) _

pub returns-clause-failed : goal.returns-clause-failed
returns-clause-failed c =
    on_err_weaker c.advance_in_spare.result (λ full. inr (elim full [ inl end ↦ inl end | inr none ↦ inr (ap length none) ])) c.advance_in_spare.ensures.full

pub returns-clause-absent : goal.returns-clause-absent
returns-clause-absent c = λ none fails.
    let old = c.args.self.now in
    let there : is_some (content_in (events_of old.record) c.args.name) ≡ true = sym c.has.ensures ∙ c.if-not-has.false in
    absurd (not_there (content_in (events_of old.record) c.args.name) there (sym (files_now-is (events_of old.record) old.clock c.args.name) ∙ none))
