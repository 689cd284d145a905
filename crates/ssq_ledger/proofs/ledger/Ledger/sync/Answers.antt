use Rattle.std.proofs.Common.{◌≤◌, ◌<◌, length, sym, ap, ◌∙◌, refl, subst, inl, inr, le_refl, arith}
use Rattle.std.specs.Global.{Vec}
use Rattle.ssq_outside.specs.declared.name.Name.{Name}
use Rattle.ssq_core.specs.Machine.{nothing, syncs}
use Rattle.ssq_board.specs.declared.front.Cause.TheVariants as cause
use Rattle.ssq_board.specs.declared.front.Entry.TheVariants as entry
use Rattle.ssq_board.specs.Core.{need}
use Rattle.ssq_board.proofs.Needs.{need_bound, need_sync}
use Rattle.ssq_ledger.proofs.Ledgers.{held, few_tasks, one, runs_inside, stop_room, pushed, did_inside, risen_inside}
use Rattle.ssq_ledger.proofs.Shelves.{halted_both, made_settled, sync_shelved}
use Rattle.ssq_ledger.proofs.ledger.Ledger.sync.Goals as goal

pub count-requires : goal.count-requires
count-requires g c = few_tasks _ _ _ _ _ _ _ _ c.self.invariant.0 _ _ (held _ _ _ _ _ _ _ _ c.self.invariant.0) refl

pub make_sync_room-requires : goal.make_sync_room-requires
make_sync_room-requires g c = few_tasks _ _ _ _ _ _ _ _ c.self.invariant.0 _ _ (held _ _ _ _ _ _ _ _ c.self.invariant.0) c.count.ensures

pub halt-requires : goal.halt-requires
halt-requires g c = stop_room _ _ _ _ _ _ _ _ c.self.invariant.0 _ _ (runs_inside _ _ c.self.view_is c.requires) c.make_sync_room.ensures.items c.make_sync_room.ensures.kept

pub halt-requires-in-Err : goal.halt-requires-in-Err
halt-requires-in-Err g c = stop_room _ _ _ _ _ _ _ _ c.self.invariant.0 _ _ (runs_inside _ _ c.self.view_is c.requires) c.make_sync_room.ensures.items c.make_sync_room.ensures.kept

pub push_reserved-requires : goal.push_reserved-requires
push_reserved-requires g c = subst (λ n. n < c.make_sync_room.new.entries.cap) (sym c.make_sync_room.new.entries.ok.0) (stop_room _ _ _ _ _ _ _ _ c.self.invariant.0 _ _ (runs_inside _ _ c.self.view_is c.requires) c.make_sync_room.ensures.items c.make_sync_room.ensures.kept)

pub settle-requires : goal.settle-requires
settle-requires g c = runs_inside _ _ c.self.view_is c.requires

pub invariant_of-self : goal.invariant_of-self
invariant_of-self g c =
    let s = c.self.inside in
    let running = runs_inside _ _ c.self.view_is c.requires in
    let kept : s.entries.cap ≤ c.make_sync_room.new.entries.cap = c.make_sync_room.ensures.kept in
    halted_both _ _ _ _ _ _ _ _ c.self.invariant.0 _ _ (made_settled _ _ _ _ _ _ _ _ c.self.invariant.1 c.make_sync_room.ensures.names (le_refl s.entries.cap)) _ _ _ _ _ _ cause.NoMemory running tt (λ t. (nothing, inl refl, refl)) c.halt.ensures.board c.make_sync_room.ensures.items c.halt.ensures.items kept kept c.halt.ensures.capacity

pub invariant_of-self-in-Ok : goal.invariant_of-self-in-Ok
invariant_of-self-in-Ok g c =
    let s = c.self.inside in
    let running = runs_inside _ _ c.self.view_is c.requires in
    let e = entry.Sync c.clock-clock.result in
    let items = pushed e _ _ _ c.push_reserved.ensures.items c.make_sync_room.ensures.items in
    let q = c.in-Some.ensures.room in
    let n = c.count.ensures in
    let b = need_bound s.board in
    let same = ap need c.settle.ensures ∙ need_sync s.scope s.board c.clock-clock.result running in (
      one _ _ _ _ _ _ _ _ c.self.invariant.0 _ _ _ _ e running tt (λ t. ((c.sync_names.ensures.steps t.0, c.in-Ok.ensures.ok t.0), c.clock-clock.ensures)) (λ t. tt) c.settle.ensures items
          (let k = c.push_reserved.ensures.capacity in omega arith),
      sync_shelved _ _ _ _ _ _ _ _ c.self.invariant.0 _ _ (made_settled _ _ _ _ _ _ _ _ c.self.invariant.1 c.make_sync_room.ensures.names (le_refl s.entries.cap)) c.clock-clock.result c.settle.new.self _ _ _ same items c.settle-in-Ok.ensures.settled c.settle-in-Ok.ensures.news c.settle-in-Ok.ensures.capacity refl refl
          (let k = c.push_reserved.ensures.capacity in let same_claimed = ap (λ (v : Vec Name). length v.items) c.make_sync_room.ensures.names.claimed in omega arith),
    )

pub invariant_of-self-in-Err : goal.invariant_of-self-in-Err
invariant_of-self-in-Err g c =
    let s = c.self.inside in
    let running = runs_inside _ _ c.self.view_is c.requires in
    let kept : s.entries.cap ≤ c.make_sync_room.new.entries.cap = c.make_sync_room.ensures.kept in
    halted_both _ _ _ _ _ _ _ _ c.self.invariant.0 _ _ (made_settled _ _ _ _ _ _ _ _ c.self.invariant.1 c.make_sync_room.ensures.names (le_refl s.entries.cap)) _ _ _ _ _ _ cause.DiskFault running tt (λ t. (syncs, inr (entry.Sync 0, running, refl, refl), c.sync_names.ensures.steps t.0)) c.halt-in-Err.ensures.board c.make_sync_room.ensures.items c.halt-in-Err.ensures.items kept kept c.halt-in-Err.ensures.capacity

pub settle-requires-in-Ok : goal.settle-requires-in-Ok
settle-requires-in-Ok g c = c.in-Some.ensures.names.room

pub returns-in_default-clause-stopped : goal.returns-in_default-clause-stopped
returns-in_default-clause-stopped g c =
    let s = c.self.inside in
    let items = pushed (entry.Stop cause.NoMemory) _ _ _ c.halt.ensures.items c.make_sync_room.ensures.items in (
      did_inside _ _ c.self.view_is s.disk (entry.Stop cause.NoMemory) _ _ c.halt.ensures.board items,
      tt,
    )

pub returns-in-Err-clause-stopped : goal.returns-in-Err-clause-stopped
returns-in-Err-clause-stopped g c =
    let s = c.self.inside in
    let items = pushed (entry.Stop cause.DiskFault) _ _ _ c.halt-in-Err.ensures.items c.make_sync_room.ensures.items in (
      did_inside _ _ c.self.view_is c.sync_names.new.self (entry.Stop cause.DiskFault) _ _ c.halt-in-Err.ensures.board items,
      risen_inside _ _ c.self.view_is g.D.Disk.faults c.sync_names.new.self c.in-Err.ensures.cause,
    )
