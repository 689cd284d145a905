use Rattle.std.proofs.Common.{Option, Some, [], ◌∷◌, ℕ, refl, sym, ap, ◌∙◌, subst, arith}
use Rattle.std.specs.Vec.{with_item}
use Rattle.ssq_board.specs.declared.front.Cause.{Cause}
use Rattle.ssq_board.specs.declared.front.Entry.TheVariants as entry
use Rattle.ssq_board.specs.Core.{May}
use Rattle.ssq_board.proofs.Lists.{at_length}
use Rattle.ssq_ledger.specs.Shown.{Shown, IsTrue, did}
use Rattle.ssq_desk.specs.declared.desk.Load.{Load}
use Rattle.ssq_desk.specs.declared.desk.PartLog.{PartLog}
use Rattle.ssq_desk.specs.declared.round.Round.{Round}
use Rattle.ssq_desk.specs.Tasks.{map_id}
use Rattle.ssq_desk.specs.Handed.{IsMapOf}
use Rattle.ssq_desk.specs.Results.{cause_of_feed, fault_of}
use Rattle.ssq_desk.specs.Whole.{IsWhole, opening_in}
use Rattle.ssq_desk.proofs.Planned.{at_get}
use Rattle.ssq_desk.proofs.Handing.{moved_whole, part_logs_count}
use Rattle.ssq_desk.proofs.Returning.{map_right, map_back, map_faulty, old_part_log}
use Rattle.ssq_desk.proofs.desk.Desk.report_fed.Goals as goal

pub index_mut-part_log-requires : goal.index_mut-part_log-requires
index_mut-part_log-requires g c =
    let s = c.self.inside in
    let i = c.args.done.number in
    let f = fault_of (cause_of_feed c.args.done.stream c.args.done.part) c.args.done.outcome in
    let m = subst (λ (x : Shown g.row.D.Denot (Round g.row.L.Denot)). May x.scope x.core (entry.Report (map_id c.args.done.epoch i) f)) (sym c.self.view_is) c.requires.may in
    let old = old_part_log s.ledger.core s.load.part_logs.items i (c.is_in_order.ensures.sound.maps ∙ sym (part_logs_count _ _ _ _ _ _ _ _ _ _ _ c.self.invariant c.is_legal.ensures.legal c.is_in_order.ensures)) m.2 in
    let less = at_length s.load.part_logs.items i old.0 old.1 in
    let n = s.load.part_logs.ok.0 in omega (arith, less, n)

pub report-requires-clause-right : goal.report-requires-clause-right
report-requires-clause-right g c =
    let s = c.self.inside in
    let f = fault_of (cause_of_feed c.args.done.stream c.args.done.part) c.args.done.outcome in
    let m = subst (λ (x : Shown g.row.D.Denot (Round g.row.L.Denot)). May x.scope x.core (entry.Report (map_id c.args.done.epoch c.args.done.number) f)) (sym c.self.view_is) c.requires.may in
    let of = subst (λ (x : Shown g.row.D.Denot (Round g.row.L.Denot)). IsMapOf g.D.Disk.tells g.L.Log.tells g.D.Disk.history g.L.Log.lines g.L.Log.available g.L.Log.answers g.L.Log.faults x c.requires.of.0) (sym c.self.view_is) c.requires.of.1 in
    λ t. subst (λ (o : Option Cause). IsTrue (opening_in g.L.Log.lines) s.ledger (map_id c.args.done.epoch c.args.done.number) o) (sym c.split_fed-fed.ensures.cause)
    (subst (λ (e : ℕ). IsTrue (opening_in g.L.Log.lines) s.ledger (map_id e c.args.done.number) f) (sym m.1)
    (map_right g.D.Disk.tells g.L.Log.tells g.D.Disk.history g.L.Log.lines g.L.Log.available g.L.Log.answers g.L.Log.faults g.D.Stage.Stage.written g.D.Stage.Stage.sealed s.ledger s.load c.self.invariant c.is_legal.ensures.legal c.is_in_order.ensures c.requires.of.0 c.args.done of c.requires.of.2 c.tasks_have_terms.ensures.faults m.0 t))

pub invariant_of-self : goal.invariant_of-self
invariant_of-self g c =
    let s = c.self.inside in
    let i = c.args.done.number in
    let f = fault_of (cause_of_feed c.args.done.stream c.args.done.part) c.args.done.outcome in
    let m = subst (λ (x : Shown g.row.D.Denot (Round g.row.L.Denot)). May x.scope x.core (entry.Report (map_id c.args.done.epoch i) f)) (sym c.self.view_is) c.requires.may in
    let of = subst (λ (x : Shown g.row.D.Denot (Round g.row.L.Denot)). IsMapOf g.D.Disk.tells g.L.Log.tells g.D.Disk.history g.L.Log.lines g.L.Log.available g.L.Log.answers g.L.Log.faults x c.requires.of.0) (sym c.self.view_is) c.requires.of.1 in
    let old = old_part_log s.ledger.core s.load.part_logs.items i (c.is_in_order.ensures.sound.maps ∙ sym (part_logs_count _ _ _ _ _ _ _ _ _ _ _ c.self.invariant c.is_legal.ensures.legal c.is_in_order.ensures)) m.2 in
    let same = c.index_mut-part_log.ensures.value ∙ at_get s.load.part_logs.items i old.0 _ old.1 in
    let x : PartLog g.row.L.Denot = record { stream = c.index_mut-part_log.result.now.stream; part = c.index_mut-part_log.result.now.part; from = c.index_mut-part_log.result.now.from; log = Some c.args.done.log; fed = c.split_fed-fed.result.0 } in
    let n : Load g.row.L.Denot g.row.D-Stage.Denot g.row.D-Stage-Sealed.Denot = record { view = s.load.view; plans = s.load.plans; part_logs = with_item s.load.part_logs i x; shares = s.load.shares; held = s.load.held; out = s.load.out; seen = s.load.seen; pending = s.load.pending; told = s.load.told; kept = s.load.kept } in
    let held = map_back g.D.Disk.tells g.L.Log.tells g.D.Disk.history g.L.Log.lines g.L.Log.available g.L.Log.answers g.L.Log.faults g.D.Stage.Stage.written g.D.Stage.Stage.sealed s.ledger s.load c.self.invariant c.is_legal.ensures.legal c.is_in_order.ensures c.requires.of.0 c.args.done of c.requires.of.2
    old.0 x m old.1 (ap (λ z. z.stream) same) (ap (λ z. z.part) same) (ap (λ z. z.from) same) refl c.split_fed-fed.ensures.brought in
    let faulty = map_faulty g.D.Disk.tells g.L.Log.tells g.D.Disk.history g.L.Log.lines g.L.Log.available g.L.Log.answers g.L.Log.faults g.D.Stage.Stage.written g.D.Stage.Stage.sealed s.ledger s.load c.self.invariant c.is_legal.ensures.legal c.is_in_order.ensures c.requires.of.0 c.args.done of c.requires.of.2
    old.0 x m old.1 refl in
    let reported = c.report.ensures.did ∙ ap (λ o. did s.ledger s.ledger.disk (entry.Report (map_id c.args.done.epoch i) o ∷ [])) c.split_fed-fed.ensures.cause in
    subst (λ (y : Shown g.row.D.Denot (Round g.row.L.Denot)). IsWhole g.D.Disk.tells g.L.Log.tells g.D.Disk.history g.L.Log.lines g.L.Log.available g.L.Log.answers g.L.Log.faults g.D.Stage.Stage.written g.D.Stage.Stage.sealed y n) (sym reported)
    (moved_whole _ _ _ _ _ _ _ _ _ s.ledger s.load c.self.invariant s.ledger.disk (entry.Report (map_id c.args.done.epoch i) f) n (λ cuts k. refl) refl refl refl refl c.self.invariant.told c.self.invariant.told_room faulty held)
