use Rattle.std.proofs.Common.{◌≡◌, ◌≤◌, ◌<◌, sym, ap, ◌∙◌, refl, subst, inl, inr, le_refl, arith, [], ◌∷◌, Err, ◌++◌, ℕ}
use Rattle.ssq_outside.specs.Faults.{Rises}
use Rattle.ssq_outside.specs.declared.name.Name.TheVariants as name
use Rattle.ssq_core.specs.Course.{Cuts}
use Rattle.ssq_core.specs.Machine.{nothing, publishes}
use Rattle.ssq_board.specs.declared.front.Front.{Front}
use Rattle.ssq_board.specs.declared.front.Cause.{Cause}
use Rattle.ssq_board.specs.declared.front.Cause.TheVariants as cause
use Rattle.ssq_board.specs.declared.front.Entry.TheVariants as entry
use Rattle.ssq_board.specs.Core.{HasCause, after, cuts_by}
use Rattle.ssq_board.proofs.Needs.{need_bound}
use Rattle.ssq_ledger.specs.Shown.{Opening, Shown, HasRisen, cuts_of, did}
use Rattle.ssq_ledger.proofs.Ledgers.{held, few_tasks, may_inside, one, stop_room, pushed, did_inside, risen_inside}
use Rattle.ssq_ledger.proofs.Shelves.{halted_both, made_room, plan_shelved}
use Rattle.ssq_ledger.proofs.Moves.{right_inside, tried_from, went_from}
use Rattle.ssq_ledger.proofs.Planning.{planned_sound, seal_may, seal_risen}
use Rattle.ssq_ledger.proofs.ledger.Ledger.publish_plan.Goals as goal

-- the cuts with those of the next epoch
abbrev planned_cuts : {D O : Type 0} → (O → Opening) → Shown D O → Cuts
planned_cuts opening x = cuts_by x.scope (cuts_of opening x) x.core (entry.Plan x.core.front.planned)

pub count-requires : goal.count-requires
count-requires g c =
    let s = c.self.inside in
    let m = may_inside _ _ c.self.view_is entry.Plan (λ f. f.planned) _ refl c.requires.may in
    few_tasks _ _ _ _ _ _ _ _ c.self.invariant.0 _ _ (planned_sound s.scope s.board c.args.next.board s.board.front.planned m (held _ _ _ _ _ _ _ _ c.self.invariant.0) (subst (λ (x : Shown g.row.D.Denot g.row.O.Denot). c.args.next.board ≡ after x.scope x.core (entry.Plan x.core.front.planned)) (sym c.self.view_is) c.requires.board)) refl

pub make_plan_room-requires : goal.make_plan_room-requires
make_plan_room-requires g c =
    let s = c.self.inside in
    let m = may_inside _ _ c.self.view_is entry.Plan (λ f. f.planned) _ refl c.requires.may in
    few_tasks _ _ _ _ _ _ _ _ c.self.invariant.0 _ _ (planned_sound s.scope s.board c.args.next.board s.board.front.planned m (held _ _ _ _ _ _ _ _ c.self.invariant.0) (subst (λ (x : Shown g.row.D.Denot g.row.O.Denot). c.args.next.board ≡ after x.scope x.core (entry.Plan x.core.front.planned)) (sym c.self.view_is) c.requires.board)) c.count.ensures

pub halt-requires : goal.halt-requires
halt-requires g c =
    let m = may_inside _ _ c.self.view_is entry.Plan (λ f. f.planned) _ refl c.requires.may in
    stop_room _ _ _ _ _ _ _ _ c.self.invariant.0 _ _ m.0 c.make_plan_room.ensures.items c.make_plan_room.ensures.kept

pub halt-requires-in-Err : goal.halt-requires-in-Err
halt-requires-in-Err g c =
    let m = may_inside _ _ c.self.view_is entry.Plan (λ f. f.planned) _ refl c.requires.may in
    stop_room _ _ _ _ _ _ _ _ c.self.invariant.0 _ _ m.0 c.make_plan_room.ensures.items c.make_plan_room.ensures.kept

pub halt-requires-in-Err-publish : goal.halt-requires-in-Err-publish
halt-requires-in-Err-publish g c =
    let m = may_inside _ _ c.self.view_is entry.Plan (λ f. f.planned) _ refl c.requires.may in
    stop_room _ _ _ _ _ _ _ _ c.self.invariant.0 _ _ m.0 c.make_plan_room.ensures.items c.make_plan_room.ensures.kept

pub push_reserved-requires : goal.push_reserved-requires
push_reserved-requires g c =
    let m = may_inside _ _ c.self.view_is entry.Plan (λ f. f.planned) _ refl c.requires.may in
    subst (λ n. n < c.make_plan_room.new.entries.cap) (sym c.make_plan_room.new.entries.ok.0) (stop_room _ _ _ _ _ _ _ _ c.self.invariant.0 _ _ m.0 c.make_plan_room.ensures.items c.make_plan_room.ensures.kept)

pub invariant_of-self : goal.invariant_of-self
invariant_of-self g c =
    let s = c.self.inside in
    let kept : s.entries.cap ≤ c.make_plan_room.new.entries.cap = c.make_plan_room.ensures.kept in
    let m = may_inside _ _ c.self.view_is entry.Plan (λ f. f.planned) _ refl c.requires.may in
    halted_both _ _ _ _ _ _ _ _ c.self.invariant.0 _ _ (made_room _ _ _ _ _ _ _ _ _ c.self.invariant.1 c.make_plan_room.ensures.names (le_refl s.entries.cap)) _ _ _ _ _ _ cause.NoMemory m.0 tt (λ t. (nothing, inl refl, refl)) c.halt.ensures.board
    c.make_plan_room.ensures.items c.halt.ensures.items kept kept c.halt.ensures.capacity

pub invariant_of-self-in-Err : goal.invariant_of-self-in-Err
invariant_of-self-in-Err g c =
    let s = c.self.inside in
    let kept : s.entries.cap ≤ c.make_plan_room.new.entries.cap = c.make_plan_room.ensures.kept in
    let m = may_inside _ _ c.self.view_is entry.Plan (λ f. f.planned) _ refl c.requires.may in
    let why = subst (HasCause s.scope s.board) (sym c.from-cause.ensures) (seal_may s.scope s.board c.in-Err.error) in
    halted_both _ _ _ _ _ _ _ _ c.self.invariant.0 _ _ (made_room _ _ _ _ _ _ _ _ _ c.self.invariant.1 c.make_plan_room.ensures.names (le_refl s.entries.cap)) _ _ _ _ _ _ c.from-cause.result m.0 why (λ t. (nothing, inl refl, c.seal.ensures.same t.0)) c.halt-in-Err.ensures.board
    c.make_plan_room.ensures.items c.halt-in-Err.ensures.items kept kept c.halt-in-Err.ensures.capacity

pub invariant_of-self-in-Ok-publish : goal.invariant_of-self-in-Ok-publish
invariant_of-self-in-Ok-publish g c =
    let epoch = ap (λ (f : Front). f.planned) c.front-epoch.ensures in
    let m = may_inside _ _ c.self.view_is entry.Plan (λ f. f.planned) _ epoch c.requires.may in
    let right = right_inside g.D.Disk.tells g.D.Disk.history g.O.Opening.tells g.O.Opening.opening (planned_cuts g.O.Opening.opening) _ _ c.self.view_is name.Plan (λ f. f.planned) _ epoch _ c.requires.right in
    let e = entry.Plan c.front-epoch.result.planned in
    let items = pushed e _ _ _ c.push_reserved.ensures.items c.make_plan_room.ensures.items in
    let q = c.in-Some.ensures.room in
    let n = c.count.ensures in
    let b = need_bound c.args.next.board in (
      one _ _ _ _ _ _ _ _ c.self.invariant.0 _ _ _ _ e m tt
          (λ t. went_from (name.Plan c.front-epoch.result.planned) _ _ _ _ _ (c.seal.ensures.same t.0) (c.in-Ok.ensures.sealed t.0 ∙ c.as_slice.ensures ∙ right t) (c.publish.ensures.steps t.0) (c.in-Ok-publish.ensures.ok t.0))
          (λ t. tt) (subst (λ (x : Shown g.row.D.Denot g.row.O.Denot). c.args.next.board ≡ after x.scope x.core (entry.Plan x.core.front.planned)) (sym c.self.view_is) c.requires.board) items (let k = c.push_reserved.ensures.capacity in omega arith),
      plan_shelved _ _ _ _ _ _ _ _ c.self.invariant.0 _ _ c.self.invariant.1 c.front-epoch.result.planned c.count.result c.args.next.board _ _ _ _ items (omega (arith, b, n)) c.in-Some.ensures.names
          (let k = c.push_reserved.ensures.capacity in omega arith),
    )

pub invariant_of-self-in-Err-publish : goal.invariant_of-self-in-Err-publish
invariant_of-self-in-Err-publish g c =
    let s = c.self.inside in
    let kept : s.entries.cap ≤ c.make_plan_room.new.entries.cap = c.make_plan_room.ensures.kept in
    let epoch = ap (λ (f : Front). f.planned) c.front-epoch.ensures in
    let m = may_inside _ _ c.self.view_is entry.Plan (λ f. f.planned) _ epoch c.requires.may in
    let right = right_inside g.D.Disk.tells g.D.Disk.history g.O.Opening.tells g.O.Opening.opening (planned_cuts g.O.Opening.opening) _ _ c.self.view_is name.Plan (λ f. f.planned) _ epoch _ c.requires.right in
    halted_both _ _ _ _ _ _ _ _ c.self.invariant.0 _ _ (made_room _ _ _ _ _ _ _ _ _ c.self.invariant.1 c.make_plan_room.ensures.names (le_refl s.entries.cap)) _ _ _ _ _ _ cause.DiskFault m.0 tt
    (λ t. (publishes (name.Plan c.front-epoch.result.planned) _, inr (entry.Plan c.front-epoch.result.planned, m, refl, refl), tried_from (name.Plan c.front-epoch.result.planned) _ _ _ _ _ (c.seal.ensures.same t.0) (c.in-Ok.ensures.sealed t.0 ∙ c.as_slice.ensures ∙ right t) (c.publish.ensures.steps t.0)))
    c.halt-in-Err-publish.ensures.board c.make_plan_room.ensures.items c.halt-in-Err-publish.ensures.items kept kept c.halt-in-Err-publish.ensures.capacity

pub returns-in_default-clause-stopped : goal.returns-in_default-clause-stopped
returns-in_default-clause-stopped g c =
    let s = c.self.inside in
    let items = pushed (entry.Stop cause.NoMemory) _ _ _ c.halt.ensures.items c.make_plan_room.ensures.items in (
      did_inside _ _ c.self.view_is s.disk (entry.Stop cause.NoMemory) _ _ c.halt.ensures.board items,
      tt,
    )

pub returns-in-Err-publish-clause-stopped : goal.returns-in-Err-publish-clause-stopped
returns-in-Err-publish-clause-stopped g c =
    let s = c.self.inside in
    let items = pushed (entry.Stop cause.DiskFault) _ _ _ c.halt-in-Err-publish.ensures.items c.make_plan_room.ensures.items in (
      did_inside _ _ c.self.view_is c.publish.new.self (entry.Stop cause.DiskFault) _ _ c.halt-in-Err-publish.ensures.board items,
      risen_inside _ _ c.self.view_is g.D.Disk.faults c.publish.new.self
          (let first : g.D.Disk.faults s.disk ≤ g.D.Disk.faults c.seal.new.disk = c.seal.ensures.counted in
          let rises : Rises (g.D.Disk.faults c.seal.new.disk) (g.D.Disk.faults c.publish.new.self) = c.in-Err-publish.ensures.cause in
          omega (arith, first, rises)),
    )

pub returns-in-Err-clause-stopped : goal.returns-in-Err-clause-stopped
returns-in-Err-clause-stopped g c =
    let s = c.self.inside in
    let f = c.from-cause.result in
    let now = c.seal.new.disk in
    let items = pushed (entry.Stop f) _ _ _ c.halt-in-Err.ensures.items c.make_plan_room.ensures.items in (
      did_inside _ _ c.self.view_is now (entry.Stop f) _ _ c.halt-in-Err.ensures.board items,
      subst (λ (x : Shown g.row.D.Denot g.row.O.Denot). HasRisen f (g.D.Disk.faults x.disk) (g.D.Disk.faults now)) c.self.view_is
          (subst (λ (h : Cause). HasRisen h (g.D.Disk.faults s.disk) (g.D.Disk.faults now)) (sym c.from-cause.ensures)
          (seal_risen c.in-Err.error (g.D.Disk.faults s.disk) (g.D.Disk.faults now) (λ e. c.in-Err.ensures.cause (ap Err e)))),
    )

pub returns-in-Ok-publish-clause-done : goal.returns-in-Ok-publish-clause-done
returns-in-Ok-publish-clause-done g c =
    let s = c.self.inside in
    let epoch = ap (λ (f : Front). f.planned) c.front-epoch.ensures in
    let board = subst (λ (x : Shown g.row.D.Denot g.row.O.Denot). c.args.next.board ≡ after x.scope x.core (entry.Plan x.core.front.planned)) (sym c.self.view_is) c.requires.board in
    let items = pushed (entry.Plan c.front-epoch.result.planned) _ _ _ c.push_reserved.ensures.items c.make_plan_room.ensures.items ∙ ap (λ (n : ℕ). s.entries.items ++ entry.Plan n ∷ []) epoch in
    did_inside _ _ c.self.view_is c.publish.new.self (entry.Plan s.board.front.planned) _ _ board items
    ∙ ap (λ (x : Shown g.row.D.Denot g.row.O.Denot). did c.args.self.now c.publish.new.self (entry.Plan x.core.front.planned ∷ [])) c.self.view_is
