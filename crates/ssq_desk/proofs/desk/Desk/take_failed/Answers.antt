use Rattle.std.proofs.Common.{◌≡◌, [], ◌∷◌, Some, Err, refl, sym, ap, ◌∙◌, subst, arith}
use Rattle.std.specs.Vec.{with_item}
use Rattle.ssq_outside.specs.Faults.{Rises}
use Rattle.ssq_board.specs.declared.front.Cause.{Cause}
use Rattle.ssq_board.specs.declared.front.Entry.TheVariants as entry
use Rattle.ssq_board.specs.Core.{May, due}
use Rattle.ssq_ledger.specs.Shown.{Shown, IsTrue, answer, did}
use Rattle.ssq_outside.specs.declared.gate.Kind.TheVariants as kind
use Rattle.ssq_outside.specs.declared.gate.TaskId.{TaskId}
use Rattle.ssq_desk.specs.declared.desk.Load.{Load}
use Rattle.ssq_desk.specs.declared.desk.Share.{Share}
use Rattle.ssq_desk.specs.declared.round.Round.{Round}
use Rattle.ssq_desk.specs.Handed.{IsReduceOf}
use Rattle.ssq_desk.specs.Results.{cause_of_reduce}
use Rattle.ssq_desk.specs.Tasks.{reduce_id}
use Rattle.ssq_desk.specs.Whole.{IsWhole, opening_in}
use Rattle.ssq_desk.proofs.Wholes.{did_then, still_whole}
use Rattle.ssq_desk.proofs.Bringing.{IsBackAt, share_below, right_at, is_there, is_nowhere, reported_at, still_task, failed_risen, aside_risen, with_share}
use Rattle.ssq_desk.proofs.desk.Desk.take_failed.Given.{Over}
use Rattle.ssq_desk.proofs.desk.Desk.take_failed.Goals as goal
use Rattle.ssq_desk.proofs.desk.Desk.take_failed.Goals.{After-partitions_overflow}

-- the task is back, once its file aside was taken away
back_at : (g : Over) (c : After-partitions_overflow g)
    → IsBackAt g.D.Disk.tells g.L.Log.tells g.D.Disk.history g.L.Log.lines g.L.Log.available g.L.Log.answers g.L.Log.faults g.D.Stage.Stage.tells g.D.Stage.Stage.written g.D.Stage.Stage.sealed g.D.Stage.Stage.faults c.discard.new.ledger c.self.inside.load c.requires.of.0 c.args.held
    (Err (c.args.fault, c.args.stage)) c.args.epoch c.args.partition
back_at g c =
    let s = c.self.inside in
    let mid = c.discard.new.ledger in
    let may = subst (λ (x : Shown g.row.D.Denot (Round g.row.L.Denot)). May x.scope x.core (entry.Report (reduce_id c.args.epoch c.args.partition) (Some (cause_of_reduce c.args.fault)))) (sym c.self.view_is) c.requires.may in
    let m = subst (λ (x : Shown g.row.D.Denot (Round g.row.L.Denot)). May x.scope x.core (entry.Report (reduce_id c.args.epoch c.args.partition) (Some (cause_of_reduce c.args.fault)))) (sym c.discard.ensures.did) may in
    let was = subst (λ (x : Shown g.row.D.Denot (Round g.row.L.Denot)). IsReduceOf g.D.Disk.tells g.L.Log.tells g.D.Disk.history g.L.Log.lines g.D.Stage.Stage.written x c.requires.of.0) (sym c.self.view_is) c.requires.of.1 in record {
      whole = subst (λ (x : Shown g.row.D.Denot (Round g.row.L.Denot)). IsWhole g.D.Disk.tells g.L.Log.tells g.D.Disk.history g.L.Log.lines g.L.Log.available g.L.Log.answers g.L.Log.faults g.D.Stage.Stage.written g.D.Stage.Stage.sealed x s.load) (sym c.discard.ensures.did)
          (still_whole _ _ _ _ _ _ _ _ _ s.ledger s.load c.self.invariant mid.disk);
      legal = c.is_legal.ensures.legal;
      order = c.is_in_order.ensures;
      opened = m.0;
      epoch_is = m.1;
      away = m.2;
      of = subst (λ (x : Shown g.row.D.Denot (Round g.row.L.Denot)). IsReduceOf g.D.Disk.tells g.L.Log.tells g.D.Disk.history g.L.Log.lines g.D.Stage.Stage.written x c.requires.of.0) (sym c.discard.ensures.did)
          (still_task g.D.Disk.tells g.L.Log.tells g.D.Disk.history g.L.Log.lines g.D.Stage.Stage.written s.ledger mid.disk c.requires.of.0 was);
      brought = c.requires.of.4;
      partition_is = c.requires.of.3;
      laws = c.partitions_continue.ensures.brought;
      leasts = c.partitions_overflow.ensures;
    }

pub index_mut-requires : goal.index_mut-requires
index_mut-requires g c = (let less = share_below (back_at g (goal.at.index_mut-requires g c).After-partitions_overflow) in let n = c.self.inside.load.shares.ok.0 in omega (arith, less, n))

pub report-requires-clause-may : goal.report-requires-clause-may
report-requires-clause-may g c =
    let back = back_at g (goal.at.report-requires-clause-may g c).After-partitions_overflow in
    let mid = c.discard.new.ledger in
    subst (λ (id : TaskId). May mid.scope mid.core (entry.Report id (Some c.cause_of_reduce-cause.result.0))) (sym c.reduce_id.ensures) (back.opened, back.epoch_is, back.away)

pub report-requires-clause-right : goal.report-requires-clause-right
report-requires-clause-right g c =
    let mid = c.discard.new.ledger in
    let back = back_at g (goal.at.report-requires-clause-right g c).After-partitions_overflow in
    λ t. subst (λ (f : Cause). IsTrue (opening_in g.L.Log.lines) mid c.reduce_id.result (Some f)) (sym c.cause_of_reduce-cause.ensures.cause)
    (subst (λ (id : TaskId). IsTrue (opening_in g.L.Log.lines) mid id (Some (cause_of_reduce c.args.fault))) (sym c.reduce_id.ensures) (right_at back c.tasks_have_terms.ensures.faults t))

pub put_back-requires-clause-there : goal.put_back-requires-clause-there
put_back-requires-clause-there g c = is_there (back_at g (goal.at.put_back-requires-clause-there g c).After-partitions_overflow)

pub put_back-requires-clause-nowhere : goal.put_back-requires-clause-nowhere
put_back-requires-clause-nowhere g c = is_nowhere (back_at g (goal.at.put_back-requires-clause-nowhere g c).After-partitions_overflow)

pub invariant_of-self : goal.invariant_of-self
invariant_of-self g c =
    let s = c.self.inside in
    let mid = c.discard.new.ledger in
    let back = back_at g (goal.at.invariant_of-self g c).After-partitions_overflow in
    let x : Share g.row.D-Stage.Denot = record { buckets = c.index_mut.result.now.buckets; stage = c.index_mut.result.now.stage; rows = c.index_mut.result.now.rows; key = c.cause_of_reduce-cause.result.1 } in
    let n : Load g.row.L.Denot g.row.D-Stage.Denot g.row.D-Stage-Sealed.Denot = with_share s.load (with_item s.load.shares c.args.partition x) c.put_back.new.all in
    subst (λ (x : Shown g.row.D.Denot (Round g.row.L.Denot)). IsWhole g.D.Disk.tells g.L.Log.tells g.D.Disk.history g.L.Log.lines g.L.Log.available g.L.Log.answers g.L.Log.faults g.D.Stage.Stage.written g.D.Stage.Stage.sealed x n) (sym c.report.ensures.did)
    (subst (λ (id : TaskId). IsWhole g.D.Disk.tells g.L.Log.tells g.D.Disk.history g.L.Log.lines g.L.Log.available g.L.Log.answers g.L.Log.faults g.D.Stage.Stage.written g.D.Stage.Stage.sealed (did mid mid.disk (entry.Report id (Some c.cause_of_reduce-cause.result.0) ∷ [])) n) (sym c.reduce_id.ensures)
    (reported_at back (Some c.cause_of_reduce-cause.result.0) x mid.disk n.shares n.held (ap (λ (f : Cause). Some f) c.cause_of_reduce-cause.ensures.cause) c.cause_of_reduce-cause.ensures.key tt refl c.put_back.ensures))

pub returns-clause-cause : goal.returns-clause-cause
returns-clause-cause g c is =
    let mid = c.discard.new.ledger in
    let own = failed_risen mid.core c.args.epoch c.args.partition (λ run. c.is_in_order.ensures.sound.calm run kind.Reduce) c.report.result is c.cause_of_reduce-cause.result.0 (c.report.ensures.answer ∙ ap (λ (id : TaskId). answer (due mid.core id (Some c.cause_of_reduce-cause.result.0))) c.reduce_id.ensures) in
    let risen = c.discard.ensures.cause (aside_risen g.D.Stage.Stage.faults c.args.fault c.requires.of.0.state c.args.stage c.requires.of.4.failed.aside (sym c.cause_of_reduce-cause.ensures.cause ∙ own)) in
    subst (λ (x : Shown g.row.D.Denot (Round g.row.L.Denot)). Rises (g.D.Disk.faults c.args.self.now.disk) (g.D.Disk.faults x.disk)) (sym c.report.ensures.did)
    (subst (λ (x : Shown g.row.D.Denot (Round g.row.L.Denot)). Rises (g.D.Disk.faults x.disk) (g.D.Disk.faults mid.disk)) c.self.view_is risen)

pub returns-clause-did : goal.returns-clause-did
returns-clause-did g c =
    let s = c.self.inside in
    let mid = c.discard.new.ledger in
    let es = entry.Report (reduce_id c.args.epoch c.args.partition) (Some (cause_of_reduce c.args.fault)) ∷ [] in
    let same : c.report.new.self ≡ did s.ledger mid.disk es = c.report.ensures.did
    ∙ (λ i. did mid mid.disk (entry.Report (c.reduce_id.ensures i) (Some (c.cause_of_reduce-cause.ensures.cause i)) ∷ []))
    ∙ ap (λ (x : Shown g.row.D.Denot (Round g.row.L.Denot)). did x mid.disk es) c.discard.ensures.did ∙ did_then s.ledger mid.disk mid.disk [] es in
    same ∙ ap (λ (x : Shown g.row.D.Denot (Round g.row.L.Denot)). did s.ledger x.disk es) (sym same) ∙ ap (λ (x : Shown g.row.D.Denot (Round g.row.L.Denot)). did x c.report.new.self.disk es) c.self.view_is

pub returns-clause-answer : goal.returns-clause-answer
returns-clause-answer g c =
    let s = c.self.inside in
    let mid = c.discard.new.ledger in
    c.report.ensures.answer ∙ (λ i. answer (due mid.core (c.reduce_id.ensures i) (Some (c.cause_of_reduce-cause.ensures.cause i))))
    ∙ ap (λ (x : Shown g.row.D.Denot (Round g.row.L.Denot)). answer (due x.core (reduce_id c.args.epoch c.args.partition) (Some (cause_of_reduce c.args.fault)))) c.discard.ensures.did
    ∙ ap (λ (x : Shown g.row.D.Denot (Round g.row.L.Denot)). answer (due x.core (reduce_id c.args.epoch c.args.partition) (Some (cause_of_reduce c.args.fault)))) c.self.view_is
