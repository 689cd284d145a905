use Rattle.std.proofs.Common.{◌≡◌, ◌≤◌, ◌∷◌, [], ℕ, length, refl, sym, ap, ◌∙◌, subst}
use Rattle.std.specs.Prelude.{vec_capacity}
use Rattle.ssq_time.specs.Time.{IsStampTime}
use Rattle.ssq_shape.specs.declared.bound.Bound.{Bound}
use Rattle.ssq_meaning.specs.declared.fed_row.View.{View}
use Rattle.ssq_water.specs.Water.{HasDelays}
use Rattle.ssq_plans.specs.declared.plan.Plan.{Plan}
use Rattle.ssq_course.specs.Setting.{watermark_at}
use Rattle.ssq_board.specs.declared.front.Entry.TheVariants as entry
use Rattle.ssq_board.specs.declared.front.Ready.TheVariants as ready
use Rattle.ssq_board.specs.declared.front.Front.{Front}
use Rattle.ssq_board.specs.Core.{HasCause, ready_of, next_ends}
use Rattle.ssq_board.proofs.Lists.{next_length}
use Rattle.ssq_board.proofs.Readies.{full_is}
use Rattle.ssq_ledger.specs.Shown.{Shown, IsLegal, IsUnplanned, first_state, state, cuts_of, shelf_of, did}
use Rattle.ssq_desk.specs.declared.desk.Load.{Load}
use Rattle.ssq_desk.specs.declared.round.Round.{Round}
use Rattle.ssq_desk.specs.Round.{setting_of, Owns}
use Rattle.ssq_desk.specs.Whole.{IsWhole, opening_in}
use Rattle.ssq_desk.proofs.Makings.{made_by}
use Rattle.ssq_desk.proofs.Betweens.{each_end, between, marked, plan_runs}
use Rattle.ssq_desk.proofs.Wholes.{did_then, last_may, cause_stops, cause_no_log, unmade_stops, unmade_no_log, same_load, still_whole, stopped_whole, unmade_may, unplanned_later, unplanned_whole}
use Rattle.ssq_desk.proofs.Plans.{for_some, planned_whole}
use Rattle.ssq_desk.proofs.desk.Desk.plan.Goals as goal

pub make-requires : goal.make-requires
make-requires g c =
    record { each = c.self.invariant.holds.parts ∙ sym (each_end g.D.Disk.tells g.L.Log.tells g.D.Disk.history g.L.Log.lines g.L.Log.available g.L.Log.answers g.L.Log.faults g.D.Stage.Stage.written g.D.Stage.Stage.sealed c.self.inside.ledger c.self.inside.load c.self.invariant c.is_legal.ensures.legal c.is_in_order.ensures) }

-- nothing was made: the desk is stopped
pub invariant_of-self : goal.invariant_of-self
invariant_of-self g c =
    let old = c.self.inside.ledger in
    let tells = Owns g.D.Disk.tells g.L.Log.tells g.D.Disk.history g.L.Log.lines old in
    let es = entry.Stop c.in-Err.cause ∷ [] in
    let next : ready_of old.scope old.core ≡ ready.Plan = subst (λ (x : Shown g.row.D.Denot (Round g.row.L.Denot)). ready_of x.scope x.core ≡ ready.Plan) (sym c.self.view_is) c.requires in
    let same = same_load g.D.Disk.tells g.L.Log.tells g.D.Disk.history g.L.Log.lines g.L.Log.available g.L.Log.answers g.L.Log.faults g.D.Stage.Stage.written g.D.Stage.Stage.sealed old c.self.inside.load c.self.invariant c.make.new.load (plan_runs old.scope old.core next).1 c.in-Err.ensures.kept in
    let right = unmade_stops (g.D.Disk.tells × g.L.Log.tells) tells (setting_of g.L.Log.lines old.opening) (cuts_of (opening_in g.L.Log.lines) old) old.core.front.committed old.core.front.planned c.in-Err.cause c.in-Err.ensures.unmade.0 in
    let whole = stopped_whole g.D.Disk.tells g.L.Log.tells g.D.Disk.history g.L.Log.lines g.L.Log.available g.L.Log.answers g.L.Log.faults g.D.Stage.Stage.written g.D.Stage.Stage.sealed old c.make.new.load same c.make.new.ledger.disk c.in-Err.cause c.make.new.load.pending (unmade_no_log old.core.front.planned c.in-Err.cause c.in-Err.ensures.unmade.0) right in
    subst (λ (x : Shown g.row.D.Denot (Round g.row.L.Denot)). IsWhole g.D.Disk.tells g.L.Log.tells g.D.Disk.history g.L.Log.lines g.L.Log.available g.L.Log.answers g.L.Log.faults g.D.Stage.Stage.written g.D.Stage.Stage.sealed x c.make.new.load)
    (sym (c.stop.ensures ∙ ap (λ (x : Shown g.row.D.Denot (Round g.row.L.Denot)). did x c.make.new.ledger.disk es) c.make.ensures.did ∙ did_then old c.make.new.ledger.disk c.make.new.ledger.disk [] es)) whole

-- the watermark is the epoch's
pub plan-requires-clause-right : goal.plan-requires-clause-right
plan-requires-clause-right g c = λ t.
    let old = c.self.inside.ledger in
    let tells = Owns g.D.Disk.tells g.L.Log.tells g.D.Disk.history g.L.Log.lines old in
    let next : ready_of old.scope old.core ≡ ready.Plan = subst (λ (x : Shown g.row.D.Denot (Round g.row.L.Denot)). ready_of x.scope x.core ≡ ready.Plan) (sym c.self.view_is) c.requires in
    let b = between g.D.Disk.tells g.L.Log.tells g.D.Disk.history g.L.Log.lines g.L.Log.available g.L.Log.answers g.L.Log.faults g.D.Stage.Stage.written g.D.Stage.Stage.sealed old c.self.inside.load c.self.invariant c.is_legal.ensures.legal c.is_in_order.ensures next in
    let still = still_whole g.D.Disk.tells g.L.Log.tells g.D.Disk.history g.L.Log.lines g.L.Log.available g.L.Log.answers g.L.Log.faults g.D.Stage.Stage.written g.D.Stage.Stage.sealed old c.self.inside.load c.self.invariant c.make.new.ledger.disk in
    let mark = marked g.D.Disk.tells g.L.Log.tells g.D.Disk.history g.L.Log.lines g.L.Log.available g.L.Log.answers g.L.Log.faults g.D.Stage.Stage.written g.D.Stage.Stage.sealed (did old c.make.new.ledger.disk []) c.self.inside.load c.make.new.load still b.running b.closed c.in-Ok.ensures.made.view_is c.in-Ok.ensures.made.seen_is
    (subst (λ (x : Shown g.row.D.Denot (Round g.row.L.Denot)). Owns g.D.Disk.tells g.L.Log.tells g.D.Disk.history g.L.Log.lines x) c.make.ensures.did t) in
    c.watermark-watermark.ensures.watermark ∙ mark
    ∙ ap (λ (x : Shown g.row.D.Denot (Round g.row.L.Denot)). watermark_at (setting_of g.L.Log.lines x.opening) (cuts_of (opening_in g.L.Log.lines) x) x.core.front.planned) (sym c.make.ensures.did)

pub copied-ends-requires-clause-fits : goal.copied-ends-requires-clause-fits
copied-ends-requires-clause-fits g c =
    let old = c.self.inside.ledger in
    let same : length c.ends.result.now ≡ length old.core.ends =
    ap length (c.ends.ensures ∙ ap (λ (x : Shown g.row.D.Denot (Round g.row.L.Denot)). x.core.ends) c.in-Ok-plan.ensures.done ∙ ap (λ (x : Shown g.row.D.Denot (Round g.row.L.Denot)). next_ends x.scope.cap x.core.ends x.scope.available) c.make.ensures.did)
    ∙ next_length old.scope.cap old.core.ends old.scope.available in
    subst (λ (n : ℕ). n ≤ vec_capacity c.in-Ok.ends) (sym same) c.in-Ok.ensures.made.ends_room

-- the epoch is planned
pub invariant_of-self-in-Ok-plan : goal.invariant_of-self-in-Ok-plan
invariant_of-self-in-Ok-plan g c =
    let old = c.self.inside.ledger in
    let tells = Owns g.D.Disk.tells g.L.Log.tells g.D.Disk.history g.L.Log.lines old in
    let load = c.make.new.load in
    let now : Load g.row.L.Denot g.row.D-Stage.Denot g.row.D-Stage-Sealed.Denot = record { view = load.view; plans = c.push_reserved.new.self; part_logs = load.part_logs; shares = load.shares; held = load.held; out = load.out; seen = load.seen; pending = load.pending; told = load.told; kept = load.kept } in
    let plan : Plan = record { epoch = c.front-epoch.result.planned; watermark = c.watermark-watermark.result; ends = c.from_vec.result } in
    let next : ready_of old.scope old.core ≡ ready.Plan = subst (λ (x : Shown g.row.D.Denot (Round g.row.L.Denot)). ready_of x.scope x.core ≡ ready.Plan) (sym c.self.view_is) c.requires in
    let b = between g.D.Disk.tells g.L.Log.tells g.D.Disk.history g.L.Log.lines g.L.Log.available g.L.Log.answers g.L.Log.faults g.D.Stage.Stage.written g.D.Stage.Stage.sealed old c.self.inside.load c.self.invariant c.is_legal.ensures.legal c.is_in_order.ensures next in
    let mark : tells → plan.watermark ≡ watermark_at (setting_of g.L.Log.lines old.opening) (cuts_of (opening_in g.L.Log.lines) old) old.core.front.planned = λ t.
    c.watermark-watermark.ensures.watermark
    ∙ marked g.D.Disk.tells g.L.Log.tells g.D.Disk.history g.L.Log.lines g.L.Log.available g.L.Log.answers g.L.Log.faults g.D.Stage.Stage.written g.D.Stage.Stage.sealed old c.self.inside.load load c.self.invariant b.running b.closed c.in-Ok.ensures.made.view_is c.in-Ok.ensures.made.seen_is t in
    let made = made_by g.D.Disk.tells tells g.D.Stage.Stage.written old.core.ends c.self.inside.load load c.in-Ok.ends (λ t. t.0) c.in-Ok.ensures.made in
    let epoch : plan.epoch ≡ old.core.front.planned = ap (λ (f : Front). f.planned) c.front-epoch.ensures ∙ ap (λ (x : Shown g.row.D.Denot (Round g.row.L.Denot)). x.core.front.planned) c.make.ensures.did in
    let ends : plan.ends ≡ next_ends old.scope.cap old.core.ends old.scope.available =
    c.from_vec.ensures ∙ c.copied-ends.ensures ∙ c.ends.ensures ∙ ap (λ (x : Shown g.row.D.Denot (Round g.row.L.Denot)). x.core.ends) c.in-Ok-plan.ensures.done
    ∙ ap (λ (x : Shown g.row.D.Denot (Round g.row.L.Denot)). next_ends x.scope.cap x.core.ends x.scope.available) c.make.ensures.did in
    let whole = planned_whole g.D.Disk.tells g.L.Log.tells g.D.Disk.history g.L.Log.lines g.L.Log.available g.L.Log.answers g.L.Log.faults g.D.Stage.Stage.written g.D.Stage.Stage.sealed old c.self.inside.load load now c.self.invariant c.is_legal.ensures.legal c.is_in_order.ensures c.in-Ok.ends made plan
    (record { view_is = refl; plans_are = c.push_reserved.ensures.items; told_is = refl; kept_is = refl; part_logs_are = refl; shares_are = refl; held_is = refl; out_is = refl; seen_is = refl; pending_is = refl }) c.plan.new.self.disk next epoch mark ends (for_some c.watermark-watermark.result IsStampTime c.watermark-watermark.ensures.years) in
    subst (λ (x : Shown g.row.D.Denot (Round g.row.L.Denot)). IsWhole g.D.Disk.tells g.L.Log.tells g.D.Disk.history g.L.Log.lines g.L.Log.available g.L.Log.answers g.L.Log.faults g.D.Stage.Stage.written g.D.Stage.Stage.sealed x now)
    (sym (c.in-Ok-plan.ensures.done ∙ ap (λ (x : Shown g.row.D.Denot (Round g.row.L.Denot)). did x c.plan.new.self.disk (entry.Plan x.core.front.planned ∷ [])) c.make.ensures.did ∙ did_then old c.make.new.ledger.disk c.plan.new.self.disk [] (entry.Plan old.core.front.planned ∷ []))) whole

-- the plan was not published: the desk is stopped, and the files that were begun are gone
pub invariant_of-self-in-Err-plan : goal.invariant_of-self-in-Err-plan
invariant_of-self-in-Err-plan g c =
    let old = c.self.inside.ledger in
    let tells = Owns g.D.Disk.tells g.L.Log.tells g.D.Disk.history g.L.Log.lines old in
    let load = c.make.new.load in
    let es = entry.Stop c.in-Err-plan.cause ∷ [] in
    let next : ready_of old.scope old.core ≡ ready.Plan = subst (λ (x : Shown g.row.D.Denot (Round g.row.L.Denot)). ready_of x.scope x.core ≡ ready.Plan) (sym c.self.view_is) c.requires in
    let made = made_by g.D.Disk.tells tells g.D.Stage.Stage.written old.core.ends c.self.inside.load load c.in-Ok.ends (λ t. t.0) c.in-Ok.ensures.made in
    let stopped = c.in-Err-plan.ensures.stopped.0 ∙ ap (λ (x : Shown g.row.D.Denot (Round g.row.L.Denot)). did x c.plan.new.self.disk es) c.make.ensures.did ∙ did_then old c.make.new.ledger.disk c.plan.new.self.disk [] es in
    let legal = subst (λ (x : Shown g.row.D.Denot (Round g.row.L.Denot)). IsLegal (Owns g.D.Disk.tells g.L.Log.tells g.D.Disk.history g.L.Log.lines x) g.D.Disk.history (opening_in g.L.Log.lines) x) stopped c.is_legal-in-Err-plan.ensures.legal in
    let o = opening_in g.L.Log.lines old.opening in
    let may = last_may tells o.job old.scope o.due old.history (entry.Stop c.in-Err-plan.cause) (first_state o old.scope (g.D.Disk.history old.opened)) (state legal.0 (did old c.plan.new.self.disk es).core (shelf_of (opening_in g.L.Log.lines) (did old c.plan.new.self.disk es)) (cuts_of (opening_in g.L.Log.lines) (did old c.plan.new.self.disk es))) legal.2 in
    let right = cause_stops (g.D.Disk.tells × g.L.Log.tells) tells (setting_of g.L.Log.lines old.opening) (cuts_of (opening_in g.L.Log.lines) old) old.core.front.committed old.scope may.0 c.in-Err-plan.cause may.1.1 in
    let whole = unplanned_whole g.D.Disk.tells g.L.Log.tells g.D.Disk.history g.L.Log.lines g.L.Log.available g.L.Log.answers g.L.Log.faults g.D.Stage.Stage.written g.D.Stage.Stage.sealed old c.self.inside.load c.self.invariant c.drop_files.new.ledger.disk c.in-Err-plan.cause load c.drop_files.new.load c.in-Ok.ends (cause_no_log old.scope may.0 c.in-Err-plan.cause may.1.1) (plan_runs old.scope old.core next).1 made
    (ap (λ (l : Load _ _ _). l.view) c.drop_files.ensures.kept) (ap (λ (l : Load _ _ _). l.plans.items) c.drop_files.ensures.kept) (ap (λ (l : Load _ _ _). l.part_logs.items) c.drop_files.ensures.kept) c.drop_files.ensures.count (ap (λ (l : Load _ _ _). l.held) c.drop_files.ensures.kept) (ap (λ (l : Load _ _ _). l.told.items) c.drop_files.ensures.kept) (ap (λ (l : Load _ _ _). l.kept) c.drop_files.ensures.kept) right in
    subst (λ (x : Shown g.row.D.Denot (Round g.row.L.Denot)). IsWhole g.D.Disk.tells g.L.Log.tells g.D.Disk.history g.L.Log.lines g.L.Log.available g.L.Log.answers g.L.Log.faults g.D.Stage.Stage.written g.D.Stage.Stage.sealed x c.drop_files.new.load)
    (sym (c.drop_files.ensures.did ∙ ap (λ (x : Shown g.row.D.Denot (Round g.row.L.Denot)). did x c.drop_files.new.ledger.disk []) stopped ∙ did_then old c.plan.new.self.disk c.drop_files.new.ledger.disk es [])) whole

pub stop-requires-clause-running : goal.stop-requires-clause-running
stop-requires-clause-running g c =
    let old = c.self.inside.ledger in
    let next : ready_of old.scope old.core ≡ ready.Plan = subst (λ (x : Shown g.row.D.Denot (Round g.row.L.Denot)). ready_of x.scope x.core ≡ ready.Plan) (sym c.self.view_is) c.requires in
    ap (λ (x : Shown g.row.D.Denot (Round g.row.L.Denot)). x.core.front.stop) c.make.ensures.did ∙ (plan_runs old.scope old.core next).0

-- the streams and the delays are the query's
pub watermark-watermark-requires-clause-streams : goal.watermark-watermark-requires-clause-streams
watermark-watermark-requires-clause-streams g c =
    let old = c.self.inside.ledger in
    let made = c.in-Ok.ensures.made in
    let next : ready_of old.scope old.core ≡ ready.Plan = subst (λ (x : Shown g.row.D.Denot (Round g.row.L.Denot)). ready_of x.scope x.core ≡ ready.Plan) (sym c.self.view_is) c.requires in
    ap length made.seen_is ∙ (c.self.invariant.holds.seen_so_far (plan_runs old.scope old.core next).0).streams
    ∙ ap (λ (b : Bound). length b.streams) (sym (ap (λ (v : View). v.bound.now) made.view_is ∙ c.self.invariant.view.bound))

pub watermark-watermark-requires-clause-delays : goal.watermark-watermark-requires-clause-delays
watermark-watermark-requires-clause-delays g c = subst HasDelays (sym (ap (λ (v : View). v.bound.now) c.in-Ok.ensures.made.view_is ∙ c.self.invariant.view.bound)) c.self.invariant.round.runs.delays

pub plan-requires-clause-ready : goal.plan-requires-clause-ready
plan-requires-clause-ready g c =
    let old = c.self.inside.ledger in
    let next : ready_of old.scope old.core ≡ ready.Plan = subst (λ (x : Shown g.row.D.Denot (Round g.row.L.Denot)). ready_of x.scope x.core ≡ ready.Plan) (sym c.self.view_is) c.requires in
    subst (λ (x : Shown g.row.D.Denot (Round g.row.L.Denot)). ready_of x.scope x.core ≡ ready.Plan) (sym c.make.ensures.did) next

pub copied-ends-requires-clause-none : goal.copied-ends-requires-clause-none
copied-ends-requires-clause-none g c = c.in-Ok.ensures.made.no_ends

pub returns-in-Ok-plan-clause-done : goal.returns-in-Ok-plan-clause-done
returns-in-Ok-plan-clause-done g c =
    let old = c.self.inside.ledger in
    c.in-Ok-plan.ensures.done ∙ ap (λ (x : Shown g.row.D.Denot (Round g.row.L.Denot)). did x c.plan.new.self.disk (entry.Plan x.core.front.planned ∷ [])) c.make.ensures.did
    ∙ did_then old c.make.new.ledger.disk c.plan.new.self.disk [] (entry.Plan old.core.front.planned ∷ [])
    ∙ ap (λ (x : Shown g.row.D.Denot (Round g.row.L.Denot)). did x c.plan.new.self.disk (entry.Plan x.core.front.planned ∷ [])) c.self.view_is

pub stop-requires-clause-cause : goal.stop-requires-clause-cause
stop-requires-clause-cause g c =
    let old = c.self.inside.ledger in
    let next : ready_of old.scope old.core ≡ ready.Plan = subst (λ (x : Shown g.row.D.Denot (Round g.row.L.Denot)). ready_of x.scope x.core ≡ ready.Plan) (sym c.self.view_is) c.requires in
    subst (λ (x : Shown g.row.D.Denot (Round g.row.L.Denot)). HasCause x.scope x.core c.in-Err.cause) (sym c.make.ensures.did) (unmade_may old.scope old.core c.in-Err.cause (full_is old.scope old.core next) c.in-Err.ensures.unmade.0)

pub returns-in-Err-clause-stopped : goal.returns-in-Err-clause-stopped
returns-in-Err-clause-stopped g c =
    let old = c.self.inside.ledger in
    let mid = c.make.new.ledger in
    let es = entry.Stop c.in-Err.cause ∷ [] in
    let disk = ap (λ (x : Shown g.row.D.Denot (Round g.row.L.Denot)). x.disk) c.stop.ensures in (
      c.stop.ensures ∙ ap (λ (x : Shown g.row.D.Denot (Round g.row.L.Denot)). did x mid.disk es) c.make.ensures.did ∙ did_then old mid.disk mid.disk [] es
          ∙ (λ i. did (c.self.view_is i) (sym disk i) es),
      subst (λ (x : Shown g.row.D.Denot (Round g.row.L.Denot)). IsUnplanned x.core.front.planned (g.D.Disk.faults x.disk) (g.D.Disk.faults c.stop.new.self.disk) c.in-Err.cause) c.self.view_is
          (subst (λ (n : ℕ). IsUnplanned old.core.front.planned (g.D.Disk.faults old.disk) n c.in-Err.cause) (sym (ap g.D.Disk.faults disk)) c.in-Err.ensures.unmade.1),
    )

pub returns-in-Err-plan-clause-stopped : goal.returns-in-Err-plan-clause-stopped
returns-in-Err-plan-clause-stopped g c =
    let old = c.self.inside.ledger in
    let mid = c.make.new.ledger in
    let tried = c.plan.new.self in
    let now = c.drop_files.new.ledger in
    let f = c.in-Err-plan.cause in
    let es = entry.Stop f ∷ [] in
    let stopped = c.in-Err-plan.ensures.stopped.0 ∙ ap (λ (x : Shown g.row.D.Denot (Round g.row.L.Denot)). did x tried.disk es) c.make.ensures.did ∙ did_then old mid.disk tried.disk [] es in
    let before = ap (λ (x : Shown g.row.D.Denot (Round g.row.L.Denot)). x.core.front.planned) c.make.ensures.did in
    let why = subst (λ (n : ℕ). IsUnplanned n (g.D.Disk.faults mid.disk) (g.D.Disk.faults tried.disk) f) before c.in-Err-plan.ensures.stopped.1 in (
      c.drop_files.ensures.did ∙ ap (λ (x : Shown g.row.D.Denot (Round g.row.L.Denot)). did x now.disk []) stopped ∙ did_then old tried.disk now.disk es []
          ∙ ap (λ (x : Shown g.row.D.Denot (Round g.row.L.Denot)). did x now.disk es) c.self.view_is,
      subst (λ (x : Shown g.row.D.Denot (Round g.row.L.Denot)). IsUnplanned x.core.front.planned (g.D.Disk.faults x.disk) (g.D.Disk.faults now.disk) f) c.self.view_is
          (unplanned_later old.core.front.planned (g.D.Disk.faults old.disk) (g.D.Disk.faults mid.disk) (g.D.Disk.faults tried.disk) (g.D.Disk.faults now.disk) f c.make.ensures.counted c.drop_files.ensures.counted why),
    )
