use Rattle.std.proofs.Common.{◌≤◌, ◌<◌, Some, length, sym, ap, refl, subst, inl, inr, le_refl, arith}
use Rattle.ssq_upkeep.specs.Upkeep.{IsLeast}
use Rattle.ssq_board.specs.declared.front.Cause.TheVariants as cause
use Rattle.ssq_board.specs.declared.front.Entry.TheVariants as entry
use Rattle.ssq_board.specs.Core.{Core, need}
use Rattle.ssq_board.specs.Shelf.{last_of, there_in}
use Rattle.ssq_board.proofs.Needs.{need_bound}
use Rattle.ssq_core.specs.Machine.{nothing}
use Rattle.ssq_ledger.specs.Shown.{Shown, shelf_of}
use Rattle.ssq_ledger.proofs.Ledgers.{held, few_tasks, runs_inside, stop_room, pushed, did_inside, did_still, risen_inside}
use Rattle.ssq_ledger.proofs.Shelves.{by_shelf, dropped_are, halted_both, same_are, stop_most, stops_need, upkeep_both, without_most}
use Rattle.ssq_ledger.proofs.ledger.Ledger.drop_old.Goals as goal

pub count-requires : goal.count-requires
count-requires g c = few_tasks _ _ _ _ _ _ _ _ c.self.invariant.0 _ _ (held _ _ _ _ _ _ _ _ c.self.invariant.0) refl

pub make_drop_room-requires : goal.make_drop_room-requires
make_drop_room-requires g c = few_tasks _ _ _ _ _ _ _ _ c.self.invariant.0 _ _ (held _ _ _ _ _ _ _ _ c.self.invariant.0) c.count.ensures

pub halt-requires : goal.halt-requires
halt-requires g c = stop_room _ _ _ _ _ _ _ _ c.self.invariant.0 _ _ (runs_inside _ _ c.self.view_is c.requires) c.make_drop_room.ensures.items c.make_drop_room.ensures.kept

pub push_reserved-requires : goal.push_reserved-requires
push_reserved-requires g c =
    let s = c.self.inside in
    let room = c.in-Some-make_drop_room.ensures.room in
    let b = ap length c.make_drop_room.ensures.items in
    subst (λ n. n < c.make_drop_room.new.entries.cap) (sym c.make_drop_room.new.entries.ok.0) (omega (arith, room, b))

pub push_reserved-requires-in-Err : goal.push_reserved-requires-in-Err
push_reserved-requires-in-Err g c =
    let room = c.in-Some-make_drop_room.ensures.room in
    let b = ap length c.make_drop_room.ensures.items in
    subst (λ n. n < c.make_drop_room.new.entries.cap) (sym c.make_drop_room.new.entries.ok.0) (omega (arith, room, b))

pub invariant_of-self : goal.invariant_of-self
invariant_of-self g c =
    let s = c.self.inside in
    let kept : s.entries.cap ≤ c.make_drop_room.new.entries.cap = c.make_drop_room.ensures.kept in
    halted_both _ _ _ _ _ _ _ _ c.self.invariant.0 _ _ c.self.invariant.1 _ _ _ _ _ _ cause.NoMemory (runs_inside _ _ c.self.view_is c.requires) tt (λ t. (nothing, inl refl, refl)) c.halt.ensures.board c.make_drop_room.ensures.items c.halt.ensures.items kept kept c.halt.ensures.capacity

pub invariant_of-self-in-Ok : goal.invariant_of-self-in-Ok
invariant_of-self-in-Ok g c =
    let s = c.self.inside in
    let q = c.in-Some.name in
    let running = runs_inside _ _ c.self.view_is c.requires in
    let least = by_shelf (λ l x. IsLeast (there_in x) x.settled s.scope.partitions l q) _ _ _ _ s.names s.board c.front.result c.last_of-last.result c.self.invariant.1 c.front.ensures c.last_of-last.ensures c.in-Some.ensures in
    let items = pushed (entry.Drop q) _ _ _ c.push_reserved.ensures.items c.make_drop_room.ensures.items in
    let n = c.count.ensures in
    let few = need_bound s.board in
    let fewer = without_most q s.names.news.items in
    let count = ap length c.leave_out-in-Ok.ensures.items in
    let cap = c.leave_out-in-Ok.ensures.capacity in
    let room = c.self.invariant.1.room in
    let all = c.in-Some-make_drop_room.ensures.room in
    let k = c.push_reserved.ensures.capacity in
    upkeep_both _ _ _ _ _ _ _ _ c.self.invariant.0 _ _ c.self.invariant.1 _ s.board _ _ _ (entry.Drop q) running least.goes
    (λ t. (c.remove.ensures.steps t.0, c.in-Ok.ensures.ok t.0)) (λ t. tt) refl items (le_refl (need s.board))
    (dropped_are _ _ _ _ _ _ _ _ c.self.invariant.0 _ _ c.self.invariant.1 q _ c.leave_out.ensures.items c.leave_out-in-Ok.ensures.items refl refl)
    (omega (arith, fewer, count, cap, room)) (omega (arith, n, few, all, k))

pub invariant_of-self-in-Err : goal.invariant_of-self-in-Err
invariant_of-self-in-Err g c =
    let s = c.self.inside in
    let q = c.in-Some.name in
    let running = runs_inside _ _ c.self.view_is c.requires in
    let least = by_shelf (λ l x. IsLeast (there_in x) x.settled s.scope.partitions l q) _ _ _ _ s.names s.board c.front.result c.last_of-last.result c.self.invariant.1 c.front.ensures c.last_of-last.ensures c.in-Some.ensures in
    let items = pushed (entry.Undropped q) _ _ _ c.push_reserved-in-Err.ensures.items c.make_drop_room.ensures.items in
    let n = c.count.ensures in
    let few = need_bound s.board in
    let all = c.in-Some-make_drop_room.ensures.room in
    let k = c.push_reserved-in-Err.ensures.capacity in
    upkeep_both _ _ _ _ _ _ _ _ c.self.invariant.0 _ _ c.self.invariant.1 _ _ _ _ _ (entry.Undropped q) running least.goes (λ t. c.remove.ensures.steps t.0) (λ t. tt) c.stop.ensures items
    (subst (λ (x : Core). need x ≤ need s.board) (sym c.stop.ensures) (stops_need s.board (Some cause.DiskFault) (stop_most s.board.front.stop cause.DiskFault)))
    (same_are _ _ _ _ _ c.self.invariant.1) c.self.invariant.1.room (omega (arith, n, few, all, k))

pub returns-in_default-make_drop_room-clause-did : goal.returns-in_default-make_drop_room-clause-did
returns-in_default-make_drop_room-clause-did g c =
    let s = c.self.inside in
    let items = pushed (entry.Stop cause.NoMemory) _ _ _ c.halt.ensures.items c.make_drop_room.ensures.items in
    inl (
      refl,
      did_still _ _ c.self.view_is (entry.Stop cause.NoMemory) _ _ c.halt.ensures.board items,
    )

pub returns-in-Ok-clause-did : goal.returns-in-Ok-clause-did
returns-in-Ok-clause-did g c =
    let s = c.self.inside in
    let q = c.in-Some.name in
    let least = by_shelf (λ l x. IsLeast (there_in x) x.settled s.scope.partitions l q) _ _ _ _ s.names s.board c.front.result c.last_of-last.result c.self.invariant.1 c.front.ensures c.last_of-last.ensures c.in-Some.ensures in
    let items = pushed (entry.Drop q) _ _ _ c.push_reserved.ensures.items c.make_drop_room.ensures.items in (
      q,
      subst (λ (x : Shown g.row.D.Denot g.row.O.Denot). IsLeast (there_in (shelf_of g.O.Opening.opening x)) (shelf_of g.O.Opening.opening x).settled x.scope.partitions (last_of x.core) q) c.self.view_is least,
      did_inside _ _ c.self.view_is c.remove.new.self (entry.Drop q) _ _ refl items,
    )

pub returns-in-Err-clause-did : goal.returns-in-Err-clause-did
returns-in-Err-clause-did g c =
    let s = c.self.inside in
    let q = c.in-Some.name in
    let least = by_shelf (λ l x. IsLeast (there_in x) x.settled s.scope.partitions l q) _ _ _ _ s.names s.board c.front.result c.last_of-last.result c.self.invariant.1 c.front.ensures c.last_of-last.ensures c.in-Some.ensures in
    let items = pushed (entry.Undropped q) _ _ _ c.push_reserved-in-Err.ensures.items c.make_drop_room.ensures.items in
    inr (
      q,
      subst (λ (x : Shown g.row.D.Denot g.row.O.Denot). IsLeast (there_in (shelf_of g.O.Opening.opening x)) (shelf_of g.O.Opening.opening x).settled x.scope.partitions (last_of x.core) q) c.self.view_is least,
      refl,
      did_inside _ _ c.self.view_is c.remove.new.self (entry.Undropped q) _ _ c.stop.ensures items,
      risen_inside _ _ c.self.view_is g.D.Disk.faults c.remove.new.self c.in-Err.ensures.cause,
    )
