use Rattle.std.proofs.Common.{◌≤◌, ◌++◌, [], ◌∷◌, List, length, length-append, sym, ap, ◌∙◌, refl, subst, inl, le_refl, arith}
use Rattle.std.specs.Global.{Vec}
use Rattle.ssq_outside.specs.declared.name.Name.{Name}
use Rattle.ssq_outside.specs.declared.name.Name.TheVariants as name
use Rattle.ssq_upkeep.specs.Upkeep.{IsNext}
use Rattle.ssq_board.specs.declared.front.Cause.TheVariants as cause
use Rattle.ssq_board.specs.declared.front.Entry.TheVariants as entry
use Rattle.ssq_board.specs.Core.{need}
use Rattle.ssq_board.specs.Shelf.{asked_in}
use Rattle.ssq_ledger.specs.Shown.{Shown, cuts_of}
use Rattle.ssq_board.proofs.Needs.{need_bound}
use Rattle.ssq_core.specs.Machine.{nothing}
use Rattle.ssq_ledger.proofs.Ledgers.{held, few_tasks, runs_inside, stop_room, pushed}
use Rattle.ssq_ledger.proofs.Shelves.{by_shelf, claim_are, halted_both, made_room, upkeep_both}
use Rattle.ssq_ledger.proofs.ledger.Ledger.claim_upkeep.Goals as goal

pub count-requires : goal.count-requires
count-requires g c = few_tasks _ _ _ _ _ _ _ _ c.self.invariant.0 _ _ (held _ _ _ _ _ _ _ _ c.self.invariant.0) refl

pub make_upkeep_room-requires : goal.make_upkeep_room-requires
make_upkeep_room-requires g c = few_tasks _ _ _ _ _ _ _ _ c.self.invariant.0 _ _ (held _ _ _ _ _ _ _ _ c.self.invariant.0) c.count.ensures

pub halt-requires : goal.halt-requires
halt-requires g c = stop_room _ _ _ _ _ _ _ _ c.self.invariant.0 _ _ (runs_inside _ _ c.self.view_is c.requires.running) c.make_upkeep_room.ensures.items c.make_upkeep_room.ensures.kept

pub invariant_of-self : goal.invariant_of-self
invariant_of-self g c =
    let s = c.self.inside in
    let kept : s.entries.cap ≤ c.make_upkeep_room.new.entries.cap = c.make_upkeep_room.ensures.kept in
    halted_both _ _ _ _ _ _ _ _ c.self.invariant.0 _ _ (made_room _ _ _ _ _ _ _ _ _ c.self.invariant.1 c.make_upkeep_room.ensures.names (le_refl s.entries.cap)) _ _ _ _ _ _ cause.NoMemory (runs_inside _ _ c.self.view_is c.requires.running) tt (λ t. (nothing, inl refl, refl)) c.halt.ensures.board
    c.make_upkeep_room.ensures.items c.halt.ensures.items kept kept c.halt.ensures.capacity

pub invariant_of-self-2 : goal.invariant_of-self-2
invariant_of-self-2 g c =
    let s = c.self.inside in
    let o = g.O.Opening.opening s.opening.value in
    let p = c.in-Some.partition in
    let v = c.in-Some.version in
    let running = runs_inside _ _ c.self.view_is c.requires.running in
    let next = by_shelf (λ l x. IsNext (asked_in x) x.settled p l v) _ _ _ _ s.names s.board c.front.result c.last_of-last.result c.self.invariant.1 c.front.ensures c.last_of-last.ensures c.in-Some.ensures.2 in
    let keeping : g.D.Disk.tells × g.O.Opening.tells s.opening.value s.scope (g.D.Disk.history s.opened.value) → _ =
    subst (λ (x : Shown g.row.D.Denot g.row.O.Denot). g.D.Disk.tells × g.O.Opening.tells x.opening x.scope (g.D.Disk.history x.opened) → c.args.keeping ≤ ((g.O.Opening.opening x.opening).job.course (cuts_of g.O.Opening.opening x)).keeping) (sym c.self.view_is) c.requires.keeping in
    let made = c.make_upkeep_room.ensures.names in
    let items = pushed (entry.Upkeep p v) _ _ _ c.push_reserved-2.ensures.items c.make_upkeep_room.ensures.items in
    let claimed = c.push_reserved.ensures.items ∙ ap (λ (l : List Name). l ++ name.Snapshot p v ∷ []) made.claimed in
    let one = ap length made.news in
    let more = ap length claimed in
    let count = length-append s.names.claimed.items (name.Snapshot p v ∷ []) in
    let n = c.count.ensures in
    let few = need_bound s.board in
    let room = c.in-Some-make_upkeep_room.ensures.names.room in
    let all = c.in-Some-make_upkeep_room.ensures.room in
    let k = c.push_reserved-2.ensures.capacity in
    upkeep_both _ _ _ _ _ _ _ _ c.self.invariant.0 _ _ c.self.invariant.1 _ s.board _ _ _ (entry.Upkeep p v) running next.due (λ t. refl)
    (λ t. (let less = c.in-Some.ensures.0 in let most = keeping t in omega (arith, less, most))) refl items (le_refl (need s.board))
    (claim_are _ _ _ _ _ _ _ _ c.self.invariant.0 _ _ c.self.invariant.1 p v _ (ap (λ (w : Vec Name). w.items) made.settled) made.news claimed made.tidy)
    (omega (arith, one, more, count, n, few, room)) (omega (arith, more, count, n, few, all, k))
