use Rattle.std.proofs.Common.{None, List, length, get_or, refl, sym, ap, ◌∙◌, subst, arith}
use Rattle.ssq_outside.specs.declared.gate.Kind.TheVariants as kind
use Rattle.ssq_board.specs.declared.front.Cause.TheVariants as cause
use Rattle.ssq_board.specs.declared.front.Entry.TheVariants as entry
use Rattle.ssq_core.specs.Course.{Cuts}
use Rattle.ssq_board.specs.Core.{May}
use Rattle.ssq_feed.specs.declared.task.MapTask.{MapTask}
use Rattle.ssq_ledger.specs.Shown.{Shown}
use Rattle.std.specs.Vec.{with_item}
use Rattle.ssq_plans.specs.declared.part.PartEnd.{PartEnd}
use Rattle.ssq_desk.specs.declared.desk.Load.{Load}
use Rattle.ssq_desk.specs.declared.desk.PartLog.{PartLog}
use Rattle.ssq_desk.specs.declared.round.Round.{Round}
use Rattle.ssq_desk.specs.Round.{setting_of}
use Rattle.ssq_desk.specs.Handed.{IsMapOf}
use Rattle.ssq_desk.specs.Tasks.{IsMapTask, map_id}
use Rattle.ssq_desk.specs.Whole.{IsWhole}
use Rattle.ssq_feed.specs.Causes.{LogWent}
use Rattle.ssq_desk.proofs.Planned.{at_get}
use Rattle.ssq_desk.proofs.Handing.{map_here, map_claimed, map_task, moved_whole, runs_without, after_claim, may_report}
use Rattle.ssq_desk.proofs.desk.Desk.claim_map.Goals as goal

pub bounds-ends-number : goal.bounds-ends-number
bounds-ends-number g c =
    let m = subst (λ (x : Shown g.row.D.Denot (Round g.row.L.Denot)). May x.scope x.core (entry.Claim c.args.id)) (sym c.self.view_is) c.requires.may in
    let h = map_here _ _ _ _ _ _ _ _ _ _ _ c.self.invariant c.is_legal.ensures.legal c.is_in_order.ensures c.args.id c.requires.map m in
    let e = ap length c.ends.ensures in omega (arith, h.ends_below, e)

pub index_mut-part_log-requires : goal.index_mut-part_log-requires
index_mut-part_log-requires g c =
    let m = subst (λ (x : Shown g.row.D.Denot (Round g.row.L.Denot)). May x.scope x.core (entry.Claim c.args.id)) (sym c.self.view_is) c.requires.may in
    let h = map_here _ _ _ _ _ _ _ _ _ _ _ c.self.invariant c.is_legal.ensures.legal c.is_in_order.ensures c.args.id c.requires.map m in
    let n = c.self.inside.load.part_logs.ok.0 in omega (arith, h.below, n)

pub take_log-log-requires : goal.take_log-log-requires
take_log-log-requires g c =
    let m = subst (λ (x : Shown g.row.D.Denot (Round g.row.L.Denot)). May x.scope x.core (entry.Claim c.args.id)) (sym c.self.view_is) c.requires.may in
    let h = map_here _ _ _ _ _ _ _ _ _ _ _ c.self.invariant c.is_legal.ensures.legal c.is_in_order.ensures c.args.id c.requires.map m in
    let log = h.is.log (λ away. away) in
    let same = c.index_mut-part_log.ensures.value ∙ at_get c.self.inside.load.part_logs.items c.args.id.number h.part_log _ h.here in
    (log.0, ap (λ x. x.log) same ∙ log.1)

pub invariant_of-self : goal.invariant_of-self
invariant_of-self g c =
    let m = subst (λ (x : Shown g.row.D.Denot (Round g.row.L.Denot)). May x.scope x.core (entry.Claim c.args.id)) (sym c.self.view_is) c.requires.may in
    let h = map_here _ _ _ _ _ _ _ _ _ _ _ c.self.invariant c.is_legal.ensures.legal c.is_in_order.ensures c.args.id c.requires.map m in
    let same = c.index_mut-part_log.ensures.value ∙ at_get c.self.inside.load.part_logs.items c.args.id.number h.part_log _ h.here in
    let left = c.take_log-log.ensures.rest ∙ (λ i. record { stream = (same i).stream; part = (same i).part; from = (same i).from; log = None; fed = (same i).fed }) in
    let s = c.self.inside in
    let n : Load g.row.L.Denot g.row.D-Stage.Denot g.row.D-Stage-Sealed.Denot = record { view = s.load.view; plans = s.load.plans; part_logs = with_item s.load.part_logs c.args.id.number c.take_log-log.new.part_log; shares = s.load.shares; held = s.load.held; out = s.load.out; seen = s.load.seen; pending = s.load.pending; told = s.load.told; kept = s.load.kept } in
    subst (λ (x : Shown g.row.D.Denot (Round g.row.L.Denot)). IsWhole g.D.Disk.tells g.L.Log.tells g.D.Disk.history g.L.Log.lines g.L.Log.available g.L.Log.answers g.L.Log.faults g.D.Stage.Stage.written g.D.Stage.Stage.sealed x n) (sym c.claim.ensures)
    (moved_whole _ _ _ _ _ _ _ _ _ s.ledger s.load c.self.invariant s.ledger.disk (entry.Claim c.args.id) n (λ cuts n. refl) refl refl refl refl c.self.invariant.told c.self.invariant.told_room
    (λ e. absurd (runs_without s.ledger.core.front.stop cause.LogFault (subst (λ (x : Shown g.row.D.Denot (Round g.row.L.Denot)). May x.scope x.core (entry.Claim c.args.id)) (sym c.self.view_is) c.requires.may).0 e))
    (map_claimed _ _ _ _ _ _ _ _ _ _ _ c.self.invariant c.is_legal.ensures.legal c.is_in_order.ensures c.args.id c.take_log-log.new.part_log c.requires.map m h left))

pub returns-clause-task : goal.returns-clause-task
returns-clause-task g c =
    let m = subst (λ (x : Shown g.row.D.Denot (Round g.row.L.Denot)). May x.scope x.core (entry.Claim c.args.id)) (sym c.self.view_is) c.requires.may in
    let h = map_here _ _ _ _ _ _ _ _ _ _ _ c.self.invariant c.is_legal.ensures.legal c.is_in_order.ensures c.args.id c.requires.map m in
    let same = c.index_mut-part_log.ensures.value ∙ at_get c.self.inside.load.part_logs.items c.args.id.number h.part_log _ h.here in
    let s = c.self.inside in
    let task = map_task _ _ _ _ _ _ _ _ _ _ _ c.self.invariant c.is_legal.ensures.legal c.is_in_order.ensures c.args.id s.load.view
    (get_or c.ends.result.now c.args.id.number (record { stream = 0; part = 0; end = 0 })).end c.take_log-log.result c.requires.map m h refl (sym (ap (λ x. x.log) same) ∙ c.take_log-log.ensures.log)
    (ap (λ (l : List PartEnd). (get_or l c.args.id.number (record { stream = 0; part = 0; end = 0 })).end) c.ends.ensures) in
    let handed : MapTask g.row.L.Denot = (record {
      view = s.load.view;
      epoch = c.args.id.epoch;
      number = c.args.id.number;
      stream = c.index_mut-part_log.result.now.stream;
      part = c.index_mut-part_log.result.now.part;
      from = c.index_mut-part_log.result.now.from;
      to = (get_or c.ends.result.now c.args.id.number (record { stream = 0; part = 0; end = 0 })).end;
      log = c.take_log-log.result;
    }) in
    subst (λ (x : Shown g.row.D.Denot (Round g.row.L.Denot)). IsMapOf g.D.Disk.tells g.L.Log.tells g.D.Disk.history g.L.Log.lines g.L.Log.available g.L.Log.answers g.L.Log.faults x handed) (sym c.claim.ensures)
    (after_claim g.L.Log.lines s.ledger s.ledger.disk c.args.id (λ (cuts : Cuts). IsMapTask (g.D.Disk.tells × g.L.Log.tells) g.L.Log.lines g.L.Log.available (LogWent g.L.Log.tells g.L.Log.lines g.L.Log.available g.L.Log.answers g.L.Log.faults) s.ledger.opening.logs.items (setting_of g.L.Log.lines s.ledger.opening) cuts s.ledger.core.front.committed s.ledger.scope.available handed)
    (subst (λ (x : PartLog g.row.L.Denot). IsMapOf g.D.Disk.tells g.L.Log.tells g.D.Disk.history g.L.Log.lines g.L.Log.available g.L.Log.answers g.L.Log.faults s.ledger
    (record {
      view = s.load.view;
      epoch = c.args.id.epoch;
      number = c.args.id.number;
      stream = x.stream;
      part = x.part;
      from = x.from;
      to = (get_or c.ends.result.now c.args.id.number (record { stream = 0; part = 0; end = 0 })).end;
      log = c.take_log-log.result;
    })) (sym same) task))

pub returns-clause-back : goal.returns-clause-back
returns-clause-back g c fault =
    let s = c.self.inside in
    let m = subst (λ (x : Shown g.row.D.Denot (Round g.row.L.Denot)). May x.scope x.core (entry.Claim c.args.id)) (sym c.self.view_is) c.requires.may in
    subst (λ (x : Shown g.row.D.Denot (Round g.row.L.Denot)). May x.scope x.core (entry.Report (map_id c.args.id.epoch c.args.id.number) fault)) (sym c.claim.ensures) (may_report s.ledger.scope s.ledger.core c.args.id kind.Map fault c.requires.map m)
