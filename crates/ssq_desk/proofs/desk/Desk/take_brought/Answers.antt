use Rattle.std.proofs.Common.{◌≡◌, [], ◌∷◌, None, Ok, refl, sym, ap, ◌∙◌, subst, arith}
use Rattle.std.specs.Vec.{with_item}
use mathlib.Core.Option.{some}
use lib.ListN.{get_elem?}
use Rattle.ssq_outside.specs.Faults.{Rises}
use Rattle.ssq_outside.specs.declared.gate.Kind.TheVariants as kind
use Rattle.ssq_outside.specs.declared.gate.TaskId.{TaskId}
use Rattle.ssq_board.specs.declared.front.Entry.TheVariants as entry
use Rattle.ssq_board.specs.Core.{May, due}
use Rattle.ssq_ledger.specs.Shown.{HasNone, HasVersion, IsTrue, IsVersioned, Shown, answer, did}
use Rattle.ssq_desk.specs.declared.desk.Load.{Load}
use Rattle.ssq_desk.specs.declared.desk.Share.{Share}
use Rattle.ssq_desk.specs.declared.round.Round.{Round}
use Rattle.ssq_desk.specs.Handed.{IsReduceOf}
use Rattle.ssq_desk.specs.Tasks.{reduce_id}
use Rattle.ssq_desk.specs.Whole.{IsWhole, opening_in}
use Rattle.ssq_desk.proofs.Planned.{at_get}
use Rattle.ssq_desk.proofs.Bringing.{IsBackAt, share_away, share_below, right_at, is_there, is_nowhere, reported_at, bare_at, version_at, versioned_at, versioned_risen, never_risen, with_share}
use Rattle.ssq_desk.proofs.desk.Desk.take_brought.Given.{Over}
use Rattle.ssq_desk.proofs.desk.Desk.take_brought.Goals as goal
use Rattle.ssq_desk.proofs.desk.Desk.take_brought.Goals.{After-partitions_overflow, After-index_mut}

-- the task is back
back_at : (g : Over) (c : After-partitions_overflow g)
    → IsBackAt g.D.Disk.tells g.L.Log.tells g.D.Disk.history g.L.Log.lines g.L.Log.available g.L.Log.answers g.L.Log.faults g.D.Stage.Stage.tells g.D.Stage.Stage.written g.D.Stage.Stage.sealed g.D.Stage.Stage.faults c.self.inside.ledger c.self.inside.load c.requires.of.0 c.args.held
    (Ok c.args.brought) c.args.epoch c.args.partition
back_at g c =
    let m = subst (λ (x : Shown g.row.D.Denot (Round g.row.L.Denot)). May x.scope x.core (entry.Report (reduce_id c.args.epoch c.args.partition) None)) (sym c.self.view_is) c.requires.may in record {
      whole = c.self.invariant;
      legal = c.is_legal.ensures.legal;
      order = c.is_in_order.ensures;
      opened = m.0;
      epoch_is = m.1;
      away = m.2;
      laws = c.partitions_continue.ensures.brought;
      leasts = c.partitions_overflow.ensures;
      partition_is = c.requires.of.3;
      of = subst (λ (x : Shown g.row.D.Denot (Round g.row.L.Denot)). IsReduceOf g.D.Disk.tells g.L.Log.tells g.D.Disk.history g.L.Log.lines g.D.Stage.Stage.written x c.requires.of.0) (sym c.self.view_is) c.requires.of.1;
      brought = c.requires.of.4;
    }

-- of the share of its partition no key is told
no_key : (g : Over) (c : After-index_mut g) → (old : Share g.row.D-Stage.Denot) × (get_elem? c.self.inside.load.shares.items c.args.partition ≡ some old) × (old.key ≡ None) → c.index_mut.result.now.key ≡ None
no_key g c old = ap (λ (x : Share g.row.D-Stage.Denot). x.key) (c.index_mut.ensures.value ∙ at_get c.self.inside.load.shares.items c.args.partition old.0 _ old.1) ∙ old.2

pub index_mut-requires : goal.index_mut-requires
index_mut-requires g c = (let less = share_below (back_at g (goal.at.index_mut-requires g c).After-partitions_overflow) in let n = c.self.inside.load.shares.ok.0 in omega (arith, less, n))

pub put_back-requires-clause-there : goal.put_back-requires-clause-there
put_back-requires-clause-there g c = is_there (back_at g (goal.at.put_back-requires-clause-there g c).After-partitions_overflow)

pub put_back-requires-clause-nowhere : goal.put_back-requires-clause-nowhere
put_back-requires-clause-nowhere g c = is_nowhere (back_at g (goal.at.put_back-requires-clause-nowhere g c).After-partitions_overflow)

pub report_version-requires-clause-right : goal.report_version-requires-clause-right
report_version-requires-clause-right g c =
    let back = back_at g (goal.at.report_version-requires-clause-right g c).After-partitions_overflow in
    λ t. subst (λ (id : TaskId). HasVersion (opening_in g.L.Log.lines) c.self.inside.ledger id (g.D.Stage.Stage.sealed c.in-Some.delta)) (sym c.reduce_id-id.ensures) (version_at back c.tasks_have_terms.ensures.faults (λ t. g.met.D.Disk.stages_tell t.0) c.in-Some.delta c.in-Some.is t)

pub report-requires-clause-right : goal.report-requires-clause-right
report-requires-clause-right g c =
    let back = back_at g (goal.at.report-requires-clause-right g c).After-partitions_overflow in
    λ t. subst (λ (id : TaskId). IsTrue (opening_in g.L.Log.lines) c.self.inside.ledger id None) (sym c.reduce_id-id.ensures) (right_at back c.tasks_have_terms.ensures.faults t)

pub report-requires-clause-bare : goal.report-requires-clause-bare
report-requires-clause-bare g c =
    let back = back_at g (goal.at.report-requires-clause-bare g c).After-partitions_overflow in
    λ t. subst (λ (id : TaskId). HasNone (opening_in g.L.Log.lines) c.self.inside.ledger id None) (sym c.reduce_id-id.ensures) (bare_at back c.in-None.is)

pub invariant_of-self : goal.invariant_of-self
invariant_of-self g c =
    let s = c.self.inside in
    let back = back_at g (goal.at.invariant_of-self g c).After-partitions_overflow in
    let x : Share g.row.D-Stage.Denot = record { buckets = c.index_mut.result.now.buckets; stage = c.index_mut.result.now.stage; rows = c.args.brought.rows; key = c.index_mut.result.now.key } in
    versioned_at back x c.report_version.new.self (with_item s.load.shares c.args.partition x) c.put_back.new.all c.report_version.result (Rises (g.D.Disk.faults s.ledger.disk) (g.D.Disk.faults c.report_version.new.self.disk)) (no_key g (goal.at.invariant_of-self g c).After-index_mut (share_away back)) refl refl c.put_back.ensures
    (subst (λ (id : TaskId). IsVersioned s.ledger c.report_version.new.self id c.report_version.result (Rises (g.D.Disk.faults s.ledger.disk) (g.D.Disk.faults c.report_version.new.self.disk))) c.reduce_id-id.ensures c.report_version.ensures.did)

pub invariant_of-self-in-None : goal.invariant_of-self-in-None
invariant_of-self-in-None g c =
    let s = c.self.inside in
    let back = back_at g (goal.at.invariant_of-self-in-None g c).After-partitions_overflow in
    let x : Share g.row.D-Stage.Denot = record { buckets = c.index_mut.result.now.buckets; stage = c.index_mut.result.now.stage; rows = c.args.brought.rows; key = c.index_mut.result.now.key } in
    let n : Load g.row.L.Denot g.row.D-Stage.Denot g.row.D-Stage-Sealed.Denot = with_share s.load (with_item s.load.shares c.args.partition x) c.put_back.new.all in
    subst (λ (x : Shown g.row.D.Denot (Round g.row.L.Denot)). IsWhole g.D.Disk.tells g.L.Log.tells g.D.Disk.history g.L.Log.lines g.L.Log.available g.L.Log.answers g.L.Log.faults g.D.Stage.Stage.written g.D.Stage.Stage.sealed x n) (sym c.report.ensures.did)
    (subst (λ (id : TaskId). IsWhole g.D.Disk.tells g.L.Log.tells g.D.Disk.history g.L.Log.lines g.L.Log.available g.L.Log.answers g.L.Log.faults g.D.Stage.Stage.written g.D.Stage.Stage.sealed (did s.ledger s.ledger.disk (entry.Report id None ∷ [])) n) (sym c.reduce_id-id.ensures)
    (reported_at back None x s.ledger.disk n.shares n.held refl (no_key g (goal.at.invariant_of-self-in-None g c).After-index_mut (share_away back)) refl refl c.put_back.ensures))

pub returns-in-Some-clause-cause : goal.returns-in-Some-clause-cause
returns-in-Some-clause-cause g c is =
    let s = c.self.inside in
    subst (λ (x : Shown g.row.D.Denot (Round g.row.L.Denot)). Rises (g.D.Disk.faults x.disk) (g.D.Disk.faults c.report_version.new.self.disk)) c.self.view_is
    (versioned_risen s.ledger c.report_version.new.self c.args.epoch c.args.partition (λ run. c.is_in_order.ensures.sound.calm run kind.Reduce) c.report_version.result (Rises (g.D.Disk.faults s.ledger.disk) (g.D.Disk.faults c.report_version.new.self.disk)) is
    (subst (λ (id : TaskId). IsVersioned s.ledger c.report_version.new.self id c.report_version.result (Rises (g.D.Disk.faults s.ledger.disk) (g.D.Disk.faults c.report_version.new.self.disk))) c.reduce_id-id.ensures c.report_version.ensures.did))

pub returns-in-None-clause-cause : goal.returns-in-None-clause-cause
returns-in-None-clause-cause g c is =
    let s = c.self.inside in
    absurd (never_risen s.ledger.core c.args.epoch c.args.partition (λ run. c.is_in_order.ensures.sound.calm run kind.Reduce) c.report.result is (c.report.ensures.answer ∙ ap (λ (id : TaskId). answer (due s.ledger.core id None)) c.reduce_id-id.ensures))
