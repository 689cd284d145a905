use Rattle.std.proofs.Common.{ℕ, List, Option, None, get_or, ◌≡◌, ◌++◌, [], length, set, refl, sym, ap, ◌∙◌, subst, arith}
use Rattle.std.specs.Prelude.{All, vec_capacity}
use Rattle.std.specs.Vec.{with_item, with_items}
use Rattle.std.proofs.lemmas.List.{with_items_is}
use Rattle.ssq_outside.specs.declared.gate.Kind.TheVariants as kind
use Rattle.ssq_board.specs.declared.front.Cause.TheVariants as cause
use Rattle.ssq_board.specs.declared.front.Entry.TheVariants as entry
use Rattle.ssq_core.specs.Course.{Cuts}
use Rattle.ssq_board.proofs.Lists.{set_length}
use Rattle.ssq_task.specs.declared.partition.Held.{Held}
use Rattle.ssq_task.specs.declared.partition.State.{State}
use Rattle.ssq_board.specs.Core.{May}
use Rattle.ssq_task.specs.declared.partition.ReduceTask.{ReduceTask}
use Rattle.ssq_ledger.specs.Shown.{Shown}
use Rattle.ssq_meaning.specs.Fit.{IsFitRow}
use Rattle.ssq_task.specs.Lists.{joined_vecs}
use Rattle.ssq_desk.specs.declared.desk.Load.{Load}
use Rattle.ssq_desk.specs.declared.desk.Share.{Share}
use Rattle.ssq_desk.specs.declared.desk.PartLog.{PartLog}
use Rattle.ssq_desk.specs.declared.round.Round.{Round}
use Rattle.ssq_meaning.specs.FedRows.{FedRow}
use Rattle.ssq_ledger.specs.Shown.{cuts_of}
use Rattle.ssq_board.specs.Core.{after}
use Rattle.ssq_desk.specs.Round.{setting_of, Owns}
use Rattle.ssq_desk.specs.Tasks.{IsReduceTask, IsStateFor, reduce_id}
use Rattle.ssq_desk.specs.Whole.{HoldsIn, opening_in}
use Rattle.ssq_desk.specs.Handing.{HasBucket, AreTaken, buckets_in, state_with}
use Rattle.ssq_desk.specs.Handed.{IsReduceOf}
use Rattle.ssq_desk.specs.Whole.{IsWhole}
use Rattle.ssq_desk.proofs.Planned.{at_get}
use Rattle.ssq_desk.proofs.Feeding.{all_at}
use Rattle.ssq_desk.proofs.Handing.{reduce_here, reduce_claimed, watermark_here, rows_fit, moved_whole, runs_without, after_claim, may_report, taken_at}
use Rattle.ssq_desk.proofs.desk.Desk.claim_reduce.Goals as goal

pub index_mut-share-requires : goal.index_mut-share-requires
index_mut-share-requires g c =
    let m = subst (λ (x : Shown g.row.D.Denot (Round g.row.L.Denot)). May x.scope x.core (entry.Claim c.args.id)) (sym c.self.view_is) c.requires.may in
    let h = reduce_here _ _ _ _ _ _ _ _ _ _ _ c.self.invariant c.is_legal.ensures.legal c.is_in_order.ensures c.args.id c.requires.reduce m in
    let n = c.self.inside.load.shares.ok.0 in omega (arith, h.below, n)

pub take_buckets-requires-clause-room : goal.take_buckets-requires-clause-room
take_buckets-requires-clause-room g c =
    let m = subst (λ (x : Shown g.row.D.Denot (Round g.row.L.Denot)). May x.scope x.core (entry.Claim c.args.id)) (sym c.self.view_is) c.requires.may in
    let h = reduce_here _ _ _ _ _ _ _ _ _ _ _ c.self.invariant c.is_legal.ensures.legal c.is_in_order.ensures c.args.id c.requires.reduce m in
    let same = c.index_mut-share.ensures.value ∙ at_get c.self.inside.load.shares.items c.args.id.number h.share _ h.here in
    let took = c.take_room-rows.ensures.room ∙ ap (λ (x : Share g.row.D-Stage.Denot). x.buckets) (c.take_stage-stage.ensures.rest) ∙ ap (λ (x : Share g.row.D-Stage.Denot). x.buckets) same in
    let none = ap length (ap (λ v. v.items) took ∙ h.none) in
    let room = ap (λ v. vec_capacity v) took in
    let count = ap length c.deref_mut-2.ensures.value in omega (arith, none, room, count, h.room)

pub take_buckets-requires-clause-below : goal.take_buckets-requires-clause-below
take_buckets-requires-clause-below g c =
    let m = subst (λ (x : Shown g.row.D.Denot (Round g.row.L.Denot)). May x.scope x.core (entry.Claim c.args.id)) (sym c.self.view_is) c.requires.may in
    let h = reduce_here _ _ _ _ _ _ _ _ _ _ _ c.self.invariant c.is_legal.ensures.legal c.is_in_order.ensures c.args.id c.requires.reduce m in
    subst (λ (l : List (PartLog g.row.L.Denot)). All (HasBucket c.args.id.number) l) (sym c.deref_mut-2.ensures.value)
    (all_at (HasBucket c.args.id.number) c.self.inside.load.part_logs.items (λ i part_log here. (h.safe i part_log here).buckets c.args.id.number h.less))

pub invariant_of-self : goal.invariant_of-self
invariant_of-self g c =
    let s = c.self.inside in
    let m = subst (λ (x : Shown g.row.D.Denot (Round g.row.L.Denot)). May x.scope x.core (entry.Claim c.args.id)) (sym c.self.view_is) c.requires.may in
    let h = reduce_here _ _ _ _ _ _ _ _ _ _ _ c.self.invariant c.is_legal.ensures.legal c.is_in_order.ensures c.args.id c.requires.reduce m in
    let same = c.index_mut-share.ensures.value ∙ at_get c.self.inside.load.shares.items c.args.id.number h.share _ h.here in
    let no_key = c.take_room-rows.ensures.rest.1 ∙ ap (λ (x : Share g.row.D-Stage.Denot). x.key) (c.take_stage-stage.ensures.rest) ∙ ap (λ (x : Share g.row.D-Stage.Denot). x.key) same ∙ h.no_key in
    let left = c.take_buckets.new.part_logs in
    let taken = subst (λ (l : List (PartLog g.row.L.Denot)). AreTaken c.args.id.number l left) c.deref_mut-2.ensures.value c.take_buckets.ensures.taken in
    let all = taken_at c.args.id.number s.load.part_logs.items left taken in
    let items : (with_items s.load.part_logs left).items ≡ left = with_items_is s.load.part_logs left (all.0 ∙ sym s.load.part_logs.ok.0) in
    let kept = c.take_held-held.new.held in
    let kept_is : kept ≡ set s.load.held.items c.args.id.number None = c.take_held-held.ensures.rest ∙ ap (λ (l : List (Option Held)). set l c.args.id.number None) c.deref_mut.ensures.value in
    let kept_items : (with_items s.load.held kept).items ≡ set s.load.held.items c.args.id.number None =
    with_items_is s.load.held kept (ap length kept_is ∙ set_length s.load.held.items c.args.id.number None ∙ sym s.load.held.ok.0) ∙ kept_is in
    let n : Load g.row.L.Denot g.row.D-Stage.Denot g.row.D-Stage-Sealed.Denot = record { view = s.load.view; plans = s.load.plans; part_logs = with_items s.load.part_logs left; shares = with_item s.load.shares c.args.id.number c.take_room-rows.new.share; held = with_items s.load.held kept; out = s.load.out; seen = s.load.seen; pending = s.load.pending; told = s.load.told; kept = s.load.kept } in
    let held = reduce_claimed _ _ _ _ _ _ _ _ _ _ _ c.self.invariant c.is_legal.ensures.legal c.is_in_order.ensures c.args.id c.take_room-rows.new.share left no_key c.requires.reduce m taken in
    subst (λ (x : Shown g.row.D.Denot (Round g.row.L.Denot)). IsWhole g.D.Disk.tells g.L.Log.tells g.D.Disk.history g.L.Log.lines g.L.Log.available g.L.Log.answers g.L.Log.faults g.D.Stage.Stage.written g.D.Stage.Stage.sealed x n) (sym c.claim.ensures)
    (moved_whole _ _ _ _ _ _ _ _ _ s.ledger s.load c.self.invariant s.ledger.disk (entry.Claim c.args.id) n (λ cuts m. refl) refl refl refl refl c.self.invariant.told c.self.invariant.told_room
    (λ e. absurd (runs_without s.ledger.core.front.stop cause.LogFault m.0 e))
    (subst (λ (l : List (Option Held)). HoldsIn g.D.Disk.tells g.L.Log.tells g.D.Disk.history g.L.Log.lines g.L.Log.available g.L.Log.answers g.L.Log.faults g.D.Stage.Stage.written g.D.Stage.Stage.sealed s.ledger (cuts_of (opening_in g.L.Log.lines) s.ledger)
    (after s.ledger.scope s.ledger.core (entry.Claim c.args.id)) n.part_logs.items (set s.load.shares.items c.args.id.number c.take_room-rows.new.share) l s.load.out s.load.seen s.load.pending) (sym kept_items)
    (subst (λ (l : List (PartLog g.row.L.Denot)). HoldsIn g.D.Disk.tells g.L.Log.tells g.D.Disk.history g.L.Log.lines g.L.Log.available g.L.Log.answers g.L.Log.faults g.D.Stage.Stage.written g.D.Stage.Stage.sealed s.ledger (cuts_of (opening_in g.L.Log.lines) s.ledger)
    (after s.ledger.scope s.ledger.core (entry.Claim c.args.id)) l (set s.load.shares.items c.args.id.number c.take_room-rows.new.share) (set s.load.held.items c.args.id.number None) s.load.out s.load.seen s.load.pending) (sym items) held)))

pub returns-clause-task : goal.returns-clause-task
returns-clause-task g c =
    let s = c.self.inside in
    let m = subst (λ (x : Shown g.row.D.Denot (Round g.row.L.Denot)). May x.scope x.core (entry.Claim c.args.id)) (sym c.self.view_is) c.requires.may in
    let h = reduce_here _ _ _ _ _ _ _ _ _ _ _ c.self.invariant c.is_legal.ensures.legal c.is_in_order.ensures c.args.id c.requires.reduce m in
    let same = c.index_mut-share.ensures.value ∙ at_get c.self.inside.load.shares.items c.args.id.number h.share _ h.here in
    let took = c.take_room-rows.ensures.room ∙ ap (λ (x : Share g.row.D-Stage.Denot). x.buckets) (c.take_stage-stage.ensures.rest) ∙ ap (λ (x : Share g.row.D-Stage.Denot). x.buckets) same in
    let none : c.take_room-rows.result.items ≡ [] = ap (λ v. v.items) took ∙ h.none in
    let rows = c.take_buckets.ensures.rows ∙ (λ i. joined_vecs (none i) ++ buckets_in c.args.id.number (c.deref_mut-2.ensures.value i)) in
    let own : c.take_held-held.result ≡ get_or s.load.held.items c.args.id.number None = c.take_held-held.ensures.held ∙ ap (λ (l : List (Option Held)). get_or l c.args.id.number None) c.deref_mut.ensures.value in
    let stage = c.take_stage-stage.ensures.stage ∙ ap (λ (x : Share g.row.D-Stage.Denot). x.stage) same in
    let state = c.state_with.ensures ∙ (λ i. state_with (own i) (stage i)) in
    let handed : ReduceTask g.row.D-Stage.Denot g.row.D-Stage-Sealed.Denot = (record { view = s.load.view; epoch = c.epoch_of-epoch.result; partition = c.args.id.number; watermark = c.watermark-watermark.result; rows = c.take_buckets.new.into; state = c.state_with.result }) in
    subst (λ (x : Shown g.row.D.Denot (Round g.row.L.Denot)). IsReduceOf g.D.Disk.tells g.L.Log.tells g.D.Disk.history g.L.Log.lines g.D.Stage.Stage.written x handed) (sym c.claim.ensures)
    (after_claim g.L.Log.lines s.ledger s.ledger.disk c.args.id (λ (cuts : Cuts). IsReduceTask (Owns g.D.Disk.tells g.L.Log.tells g.D.Disk.history g.L.Log.lines s.ledger) g.D.Stage.Stage.written (setting_of g.L.Log.lines s.ledger.opening) cuts s.ledger.core.front.committed handed)
    (record {
      below = h.less;
      view = c.self.invariant.view;
      epoch = c.epoch_of-epoch.ensures.number ∙ m.2;
      few = c.epoch_of-epoch.ensures.few;
      watermark = watermark_here _ _ _ _ _ _ _ _ _ _ _ c.self.invariant c.is_legal.ensures.legal c.is_in_order.ensures m.0 c.watermark-watermark.result c.watermark-watermark.ensures.watermark;
      fit = subst (λ (l : List FedRow). All IsFitRow l) (sym rows) (rows_fit _ _ _ _ _ _ _ _ _ _ _ c.self.invariant c.is_legal.ensures.legal c.is_in_order.ensures c.args.id.number h);
      rows = λ y. rows ∙ h.rows y;
      state = subst (λ (o : Option (State g.row.D-Stage.Denot)). IsStateFor (Owns g.D.Disk.tells g.L.Log.tells g.D.Disk.history g.L.Log.lines s.ledger) g.D.Stage.Stage.written (setting_of g.L.Log.lines s.ledger.opening) (cuts_of (opening_in g.L.Log.lines) s.ledger) s.ledger.core.front.committed c.args.id.number o) (sym state) h.state;
    }))

pub returns-clause-back : goal.returns-clause-back
returns-clause-back g c fault =
    let s = c.self.inside in
    let m = subst (λ (x : Shown g.row.D.Denot (Round g.row.L.Denot)). May x.scope x.core (entry.Claim c.args.id)) (sym c.self.view_is) c.requires.may in
    subst (λ (x : Shown g.row.D.Denot (Round g.row.L.Denot)). May x.scope x.core (entry.Report (reduce_id c.epoch_of-epoch.result c.args.id.number) fault)) (sym c.claim.ensures)
    (subst (λ (epoch : ℕ). May s.ledger.scope (after s.ledger.scope s.ledger.core (entry.Claim c.args.id)) (entry.Report (reduce_id epoch c.args.id.number) fault)) (sym c.epoch_of-epoch.ensures.number)
    (may_report s.ledger.scope s.ledger.core c.args.id kind.Reduce fault c.requires.reduce m))
