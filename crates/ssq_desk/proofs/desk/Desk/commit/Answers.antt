use Rattle.std.proofs.Common.{◌&&◌, ◌≡◌, ◌<◌, ◌+◌, ◌^◌, [], ◌∷◌, ℕ, Bool, length, map, get_or, true, false, true≢false, Result, Ok, Err, OnErr, refl, sym, ap, ◌∙◌, subst, arith}
use Rattle.std.specs.Prelude.{vec_capacity}
use Rattle.std.proofs.lemmas.Option.{same_Some}
use Rattle.ssq_plans.specs.declared.plan.Plan.{Plan}
use Rattle.ssq_plans.specs.declared.part.PartEnd.{PartEnd}
use Rattle.ssq_outside.specs.Faults.{Rises}
use Rattle.ssq_board.specs.declared.front.Cause.TheVariants as cause
use Rattle.ssq_board.specs.declared.front.Entry.TheVariants as entry
use Rattle.ssq_board.specs.declared.front.Front.{Front}
use Rattle.ssq_board.specs.declared.front.Ready.TheVariants as ready
use Rattle.ssq_board.specs.Core.{ready_of}
use Rattle.ssq_board.proofs.Readies.{commit_may}
use Rattle.ssq_ledger.specs.Shown.{Shown, cuts_of, did}
use Rattle.ssq_desk.specs.declared.desk.Pending.{Pending}
use Rattle.ssq_desk.specs.declared.desk.PartLog.{PartLog}
use Rattle.ssq_desk.specs.declared.round.Round.{Round}
use Rattle.ssq_desk.specs.Closing.{AreTold, IsToldOf, lines_between}
use Rattle.ssq_meaning.specs.Times.{delays, is_above, watermark_by}
use Rattle.ssq_shape.specs.declared.bound.Bound.{Bound}
use Rattle.ssq_water.specs.Water.{HasDelays, seen_at}
use Rattle.ssq_course.specs.Setting.{closes}
use Rattle.ssq_desk.specs.Round.{setting_of, Owns, is_due}
use Rattle.ssq_desk.specs.Whole.{opening_in}
use Rattle.ssq_desk.proofs.Closings.{plan_below, few_lines, told_right}
use Rattle.ssq_desk.proofs.Settling.{pending_here, pending_right, after_commit, uncommitted}
use Rattle.ssq_desk.proofs.Telling.{told_more}
use Rattle.ssq_desk.proofs.desk.Desk.commit.Given.{Over}
use Rattle.ssq_desk.proofs.desk.Desk.commit.Goals as goal
use Rattle.ssq_desk.proofs.desk.Desk.commit.Goals.{After-tell-told}

-- what is told of the epoch
told_is : (g : Over) (c : After-tell-told g) → IsToldOf (Owns g.D.Disk.tells g.L.Log.tells g.D.Disk.history g.L.Log.lines c.self.inside.ledger) (setting_of g.L.Log.lines c.self.inside.ledger.opening) (cuts_of (opening_in g.L.Log.lines) c.self.inside.ledger) c.self.inside.ledger.core.front.committed c.tell-told.result
told_is g c =
    let s = c.self.inside in
    let next = subst (λ (x : Shown g.row.D.Denot (Round g.row.L.Denot)). ready_of x.scope x.core ≡ ready.Commit) (sym c.self.view_is) c.requires in
    let h = pending_here _ _ _ _ _ _ _ _ _ s.ledger s.load c.self.invariant next in
    let mine : h.0 ≡ c.take_pending-pending.result = same_Some h.0 c.take_pending-pending.result (sym h.1 ∙ c.take_pending-pending.ensures.is) in
    told_right g.D.Disk.tells g.L.Log.tells g.D.Disk.history g.L.Log.lines g.L.Log.available g.L.Log.answers g.L.Log.faults g.D.Stage.Stage.written g.D.Stage.Stage.sealed s.ledger s.load c.self.invariant c.is_legal.ensures.legal c.is_in_order.ensures next c.tell-told.result
    (c.tell-told.ensures.epoch ∙ ap (λ (f : Front). f.committed) c.front-epoch.ensures)
    (c.tell-told.ensures.lines ∙ (λ i. lines_between (map (λ (x : PartLog g.row.L.Denot). x.from) s.load.part_logs.items) (map (λ (e : PartEnd). e.end) (c.ends.ensures i))))
    (λ (d : Plan). c.tell-told.ensures.watermark d ∙ (λ i. (get_or s.load.plans.items ((c.front-epoch.ensures i).committed) d).watermark))
    (λ t. c.tell-told.ensures.rows ∙ ap (λ (p : Pending g.row.D-Stage-Sealed.Denot). p.count) (sym mine) ∙ h.2.rows t)

pub take_pending-pending-requires : goal.take_pending-pending-requires
take_pending-pending-requires g c =
    let next = subst (λ (x : Shown g.row.D.Denot (Round g.row.L.Denot)). ready_of x.scope x.core ≡ ready.Commit) (sym c.self.view_is) c.requires in
    let h = pending_here _ _ _ _ _ _ _ _ _ c.self.inside.ledger c.self.inside.load c.self.invariant next in (h.0, h.1)

-- the epoch's plan is there, and its lines can be counted
pub tell-told-requires-clause-plan : goal.tell-told-requires-clause-plan
tell-told-requires-clause-plan g c =
    let s = c.self.inside in
    let next = subst (λ (x : Shown g.row.D.Denot (Round g.row.L.Denot)). ready_of x.scope x.core ≡ ready.Commit) (sym c.self.view_is) c.requires in
    let below = plan_below g.D.Disk.tells g.L.Log.tells g.D.Disk.history g.L.Log.lines g.L.Log.available g.L.Log.answers g.L.Log.faults g.D.Stage.Stage.written g.D.Stage.Stage.sealed s.ledger s.load c.self.invariant c.is_legal.ensures.legal c.is_in_order.ensures next in
    let epoch = ap (λ (f : Front). f.committed) c.front-epoch.ensures in omega (arith, below, epoch)

pub tell-told-requires-clause-few : goal.tell-told-requires-clause-few
tell-told-requires-clause-few g c =
    let s = c.self.inside in
    let next = subst (λ (x : Shown g.row.D.Denot (Round g.row.L.Denot)). ready_of x.scope x.core ≡ ready.Commit) (sym c.self.view_is) c.requires in
    let ends = c.ends.ensures in
    subst (λ (n : ℕ). n < 2 ^ 64) (λ i. lines_between (map (λ (x : PartLog g.row.L.Denot). x.from) s.load.part_logs.items) (map (λ (e : PartEnd). e.end) (sym ends i)))
    (few_lines g.D.Disk.tells g.L.Log.tells g.D.Disk.history g.L.Log.lines g.L.Log.available g.L.Log.answers g.L.Log.faults g.D.Stage.Stage.written g.D.Stage.Stage.sealed s.ledger s.load c.self.invariant c.is_legal.ensures.legal c.is_in_order.ensures next)

pub commit-requires-clause-right : goal.commit-requires-clause-right
commit-requires-clause-right g c =
    let next = subst (λ (x : Shown g.row.D.Denot (Round g.row.L.Denot)). ready_of x.scope x.core ≡ ready.Commit) (sym c.self.view_is) c.requires in
    pending_right _ _ _ _ _ _ _ _ _ c.self.inside.ledger c.self.inside.load c.self.invariant c.take_pending-pending.result c.take_pending-pending.ensures.is next

pub commit-requires-clause-due : goal.commit-requires-clause-due
commit-requires-clause-due g c = λ t. (
    let s = c.self.inside in
    let next = subst (λ (x : Shown g.row.D.Denot (Round g.row.L.Denot)). ready_of x.scope x.core ≡ ready.Commit) (sym c.self.view_is) c.requires in
    let set = setting_of g.L.Log.lines s.ledger.opening in
    let cuts = cuts_of (opening_in g.L.Log.lines) s.ledger in
    let told = c.tell-told.result in
    let h = pending_here _ _ _ _ _ _ _ _ _ s.ledger s.load c.self.invariant next in
    let mine : h.0 ≡ c.take_pending-pending.result = same_Some h.0 c.take_pending-pending.result (sym h.1 ∙ c.take_pending-pending.ensures.is) in
    let times = h.2.times.are t in
    let mark = (told_is g (goal.at.commit-requires-clause-due g c).After-tell-told).watermark_is t in
    let bound = c.self.invariant.view.bound in
    c.is_due-due.ensures
    ∙ ap (λ (p : Pending g.row.D-Stage-Sealed.Denot). is_due s.load.view.bound.now (seen_at p.seen) told.watermark) (sym mine)
    ∙ (λ i. is_due (bound i) (seen_at h.0.seen) told.watermark)
    ∙ (λ i. closes set.job.bound && is_above (watermark_by (delays set.job.bound) (λ stream. times stream i)) (mark i))
    ∙ sym ((c.tasks_have_terms.ensures.dues set cuts).next s.ledger.core.front.committed))

pub push_reserved-requires : goal.push_reserved-requires
push_reserved-requires g c =
    let s = c.self.inside in
    let next = subst (λ (x : Shown g.row.D.Denot (Round g.row.L.Denot)). ready_of x.scope x.core ≡ ready.Commit) (sym c.self.view_is) c.requires in
    subst (λ (n : ℕ). n < vec_capacity s.load.told) (sym s.load.told.ok.0) (c.self.invariant.told_room (commit_may s.ledger.scope s.ledger.core false next).2)

pub invariant_of-self : goal.invariant_of-self
invariant_of-self g c =
    uncommitted _ _ _ _ _ _ _ _ _ c.self.inside.ledger c.self.inside.load c.self.invariant c.commit.new.self c.take_pending-pending.new.pending c.in_err-commit.ensures.stopped.0

pub invariant_of-self-2 : goal.invariant_of-self-2
invariant_of-self-2 g c =
    let s = c.self.inside in
    let next = subst (λ (x : Shown g.row.D.Denot (Round g.row.L.Denot)). ready_of x.scope x.core ≡ ready.Commit) (sym c.self.view_is) c.requires in
    let owned = Owns g.D.Disk.tells g.L.Log.tells g.D.Disk.history g.L.Log.lines s.ledger in
    let told = c.tell-told.result in
    let is = told_is g (goal.at.invariant_of-self-2 g c).After-tell-told in
    after_commit _ _ _ _ _ _ _ _ _ s.ledger s.load c.self.invariant c.commit.new.self c.take_pending-pending.result c.take_pending-pending.new.pending c.push_reserved.new.self
    c.is_in_order.ensures.sound.near c.take_pending-pending.ensures.none c.take_pending-pending.ensures.is next (c.is_due-due.result, c.in_ok-commit.ensures.done)
    (subst (λ l. AreTold owned (setting_of g.L.Log.lines s.ledger.opening) (cuts_of (opening_in g.L.Log.lines) s.ledger) s.ledger.opening.opened.committed (s.ledger.core.front.committed + 1) l) (sym c.push_reserved.ensures.items)
    (told_more owned (setting_of g.L.Log.lines s.ledger.opening) (cuts_of (opening_in g.L.Log.lines) s.ledger) s.ledger.opening.opened.committed s.ledger.core.front.committed s.load.told.items told c.self.invariant.told is))

-- the streams and the delays are the query's
pub is_due-due-requires-clause-streams : goal.is_due-due-requires-clause-streams
is_due-due-requires-clause-streams g c =
    let s = c.self.inside in
    let next = subst (λ (x : Shown g.row.D.Denot (Round g.row.L.Denot)). ready_of x.scope x.core ≡ ready.Commit) (sym c.self.view_is) c.requires in
    let h = pending_here _ _ _ _ _ _ _ _ _ s.ledger s.load c.self.invariant next in
    let mine : h.0 ≡ c.take_pending-pending.result = same_Some h.0 c.take_pending-pending.result (sym h.1 ∙ c.take_pending-pending.ensures.is) in
    ap (λ (p : Pending g.row.D-Stage-Sealed.Denot). length p.seen) (sym mine) ∙ h.2.times.streams ∙ ap (λ (b : Bound). length b.streams) (sym c.self.invariant.view.bound)

pub is_due-due-requires-clause-delays : goal.is_due-due-requires-clause-delays
is_due-due-requires-clause-delays g c = subst HasDelays (sym c.self.invariant.view.bound) c.self.invariant.round.runs.delays

pub commit-requires-clause-ready : goal.commit-requires-clause-ready
commit-requires-clause-ready g c = subst (λ (x : Shown g.row.D.Denot (Round g.row.L.Denot)). ready_of x.scope x.core ≡ ready.Commit) (sym c.self.view_is) c.requires

first_of : (a b : Bool) → (a && b) ≡ true → a ≡ true
first_of true b is = refl
first_of false b is = absurd (true≢false (sym is))

on_err : {A E : Type 0} {P : Type 0} (result : Result A E) → P → OnErr result P
on_err (Ok x) is = tt
on_err (Err e) is = is

pub returns-clause-done : goal.returns-clause-done
returns-clause-done g c =
    let own = c.self.invariant.view.bound in
    let bound = c.self.inside.load.view.bound.now in
    let due = c.is_due-due.result in (
      due,
      c.in_ok-commit.ensures.done ∙ ap (λ (x : Shown g.row.D.Denot (Round g.row.L.Denot)). did x c.commit.new.self.disk (entry.Commit x.core.front.committed due ∷ [])) c.self.view_is,
      λ is. ap (λ (x : Shown g.row.D.Denot (Round g.row.L.Denot)). closes x.opening.view.bound.now) (sym c.self.view_is) ∙ ap closes (sym own)
          ∙ first_of (closes bound) (is_above (watermark_by (delays bound) (seen_at c.take_pending-pending.result.seen)) c.tell-told.result.watermark) (sym c.is_due-due.ensures ∙ is),
    )

pub returns-in_err-commit-clause-stopped : goal.returns-in_err-commit-clause-stopped
returns-in_err-commit-clause-stopped g c =
    on_err c.from_residual.result (
      c.in_err-commit.ensures.stopped.0 ∙ ap (λ (x : Shown g.row.D.Denot (Round g.row.L.Denot)). did x c.commit.new.self.disk (entry.Stop cause.DiskFault ∷ [])) c.self.view_is,
      subst (λ (x : Shown g.row.D.Denot (Round g.row.L.Denot)). Rises (g.D.Disk.faults x.disk) (g.D.Disk.faults c.commit.new.self.disk)) c.self.view_is c.in_err-commit.ensures.stopped.1,
    )
