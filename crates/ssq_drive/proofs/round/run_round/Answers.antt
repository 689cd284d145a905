use Rattle.std.proofs.Common.{◌≡◌, ◌∙◌, ◌⊎◌, List, Option, sym, refl, ap, subst, length, arith}
use Rattle.std.specs.List.{AllZip, sum_by}
use Rattle.ssq_outside.specs.declared.name.Name.{Name}
use Rattle.ssq_shape.specs.Late.{closes}
use Rattle.ssq_meaning.specs.Meaning.{Values}
use Rattle.ssq_feed.specs.Causes.{LogWent}
use Rattle.ssq_board.specs.declared.front.Ready.TheVariants as ready
use Rattle.ssq_board.specs.Core.{Scope, ready_of}
use Rattle.ssq_board.specs.Rounds.{HasCap, IsAtRest}
use Rattle.ssq_ledger.specs.Shown.{Shown, cuts_of, shelf_of}
use Rattle.ssq_desk.specs.declared.round.Round.{Round}
use Rattle.ssq_desk.specs.Contents.{IsStopOf, keeping_in}
use Rattle.ssq_desk.specs.First.{first_shown}
use Rattle.ssq_desk.specs.Round.{Owns, setting_of}
use Rattle.ssq_desk.specs.Whole.{opening_in}
use Rattle.ssq_drive.specs.Damaged.{HasDamaged}
use Rattle.ssq_drive.specs.Driven.{IsDriven, IsUpkept}
use Rattle.ssq_drive.specs.Rounds.{setting_for}
use Rattle.ssq_drive.proofs.Going.{driven_any, driven_on, undriven}
use Rattle.ssq_drive.proofs.Goods.{begun_good}
use Rattle.ssq_drive.proofs.Starting.{begun}
use Rattle.ssq_drive.proofs.Rounding.{IsClosed, desk_begins, round_closed}
use Rattle.ssq_drive.proofs.Idling.{idle, same_back, read_back}
use Rattle.ssq_drive.proofs.Ending.{one_of_both, end_over, end_stopped, ended_kept, same_cause}
use Rattle.ssq_drive.proofs.round.run_round.Given.{Over}
use Rattle.ssq_drive.proofs.round.run_round.Goals as goal
use Rattle.ssq_drive.proofs.round.run_round.Goals.{After-finish}

pub new-requires-clause-round : goal.new-requires-clause-round
new-requires-clause-round g c =
    let round : Round g.row.L.Denot = record { view = record { bound = c.args.bound; partitions = c.args.opened.meta.partitions }; opened = c.args.opened; logs = c.args.logs } in
    let scope : Scope = record { partitions = c.args.opened.meta.partitions; available = c.args.found.items; cap = c.args.cap } in
    (desk_begins g.L.Log.lines round scope refl c.requires.can).1

pub new-requires-clause-indexes : goal.new-requires-clause-indexes
new-requires-clause-indexes g c = c.requires.indexes

pub returns-in-Err-clause-round : goal.returns-in-Err-clause-round
returns-in-Err-clause-round g c =
    let back = c.in-Err.ensures.back in
    rw (back.0, back.1, c.new-in-Err.ensures.items) (idle (g.D.Disk.tells × g.L.Log.tells) c.rounds.ensures.nothing c.rounds.ensures.opened (setting_for g.L.Log.lines c.args.bound.now c.args.opened c.args.logs.items) (length c.args.logs.items)
    (record { partitions = c.args.opened.meta.partitions; available = c.args.found.items; cap = c.args.cap }) c.args.opened (g.D.Disk.history c.args.disk) (g.D.Disk.faults c.args.disk) (sum_by g.L.Log.faults c.args.logs.items) c.requires.can)

pub returns-in-Err-clause-logs : goal.returns-in-Err-clause-logs
returns-in-Err-clause-logs g c = rw (c.in-Err.ensures.back.1) (same_back g.L.Log.tells g.L.Log.lines g.L.Log.available g.L.Log.answers g.L.Log.faults c.args.logs.items)

pub loop-desk-init : goal.loop-desk-init
loop-desk-init g c =
    let round : Round g.row.L.Denot = record { view = record { bound = c.args.bound; partitions = c.args.opened.meta.partitions }; opened = c.args.opened; logs = c.args.logs } in
    let scope : Scope = record { partitions = c.args.opened.meta.partitions; available = c.args.found.items; cap = c.args.cap } in
    let first = first_shown g.L.Log.lines round c.args.disk scope in
    let start = begun g.D.Disk.faults (closes c.args.bound.now) (opening_in g.L.Log.lines round).start first c.in-Ok.desk refl c.in-Ok.ensures.made c.in-Ok.ensures.counted in
    record { driven = undriven g.D.Disk.faults (HasDamaged g.D.Disk.tells g.L.Log.tells g.D.Disk.history g.L.Log.lines) (closes c.in-Ok.desk.opening.view.bound.now) c.in-Ok.desk start.rest; good = λ t good. good }

pub turn-requires-clause-cap : goal.turn-requires-clause-cap
turn-requires-clause-cap g c κs within =
    let round : Round g.row.L.Denot = record { view = record { bound = c.args.bound; partitions = c.args.opened.meta.partitions }; opened = c.args.opened; logs = c.args.logs } in
    let scope : Scope = record { partitions = c.args.opened.meta.partitions; available = c.args.found.items; cap = c.args.cap } in
    let first = first_shown g.L.Log.lines round c.args.disk scope in
    let start = begun g.D.Disk.faults (closes c.args.bound.now) (opening_in g.L.Log.lines round).start first c.in-Ok.desk refl c.in-Ok.ensures.made c.in-Ok.ensures.counted in
    subst (λ (x : Shown g.row.D.Denot (Round g.row.L.Denot)). HasCap x.scope.cap) (sym c.loop-desk.invariant.driven.entries.1)
    (subst (λ (x : Shown g.row.D.Denot (Round g.row.L.Denot)). HasCap x.scope.cap) (sym start.entries.1) c.requires.can.cap)

pub turn-requires-clause-rest : goal.turn-requires-clause-rest
turn-requires-clause-rest g c κs within = c.loop-desk.invariant.driven.rest

pub keep_between-requires-clause-rest : goal.keep_between-requires-clause-rest
keep_between-requires-clause-rest g c κs within = (c.turn.ensures.done c.loop-desk-test.true).driven.rest

pub loop-desk-preserved : goal.loop-desk-preserved
loop-desk-preserved g c = record {
  driven =
      let turned = driven_on g.D.Disk.faults (HasDamaged g.D.Disk.tells g.L.Log.tells g.D.Disk.history g.L.Log.lines) c.in-Ok.desk c.loop-desk.desk c.turn.new.desk c.loop-desk.invariant.driven
      (driven_any g.D.Disk.faults (HasDamaged g.D.Disk.tells g.L.Log.tells g.D.Disk.history g.L.Log.lines) (closes c.loop-desk.desk.opening.view.bound.now) c.loop-desk.desk c.turn.new.desk (c.turn.ensures.done c.loop-desk-test.true).driven) in
      driven_on g.D.Disk.faults (HasDamaged g.D.Disk.tells g.L.Log.tells g.D.Disk.history g.L.Log.lines) c.in-Ok.desk c.turn.new.desk c.keep_between.new.desk turned c.keep_between.ensures.driven;
  good = λ t good. c.keep_between.ensures.good t (c.turn.ensures.good t (c.loop-desk.invariant.good t good));
}

pub finish-requires-clause-rest : goal.finish-requires-clause-rest
finish-requires-clause-rest g c κs within =
    subst (λ (x : Shown g.row.D.Denot (Round g.row.L.Denot)). IsAtRest x.core) (sym (c.turn.ensures.end c.loop-desk-test.false).0) c.loop-desk.invariant.driven.rest

pub finish-requires-clause-end : goal.finish-requires-clause-end
finish-requires-clause-end g c κs within =
    (let e = c.turn.ensures.end c.loop-desk-test.false in subst (λ (x : Shown g.row.D.Denot (Round g.row.L.Denot)). (ready_of x.scope x.core ≡ ready.Over) ⊎ (ready_of x.scope x.core ≡ ready.Stopped)) (sym e.0) e.1)

-- the round's turns, and its end
driven_all : (g : Over) → (c : After-finish g) → IsDriven g.D.Disk.faults (HasDamaged g.D.Disk.tells g.L.Log.tells g.D.Disk.history g.L.Log.lines) (closes c.in-Ok.desk.opening.view.bound.now) c.in-Ok.desk c.finish.new.desk
driven_all g c =
    driven_on g.D.Disk.faults (HasDamaged g.D.Disk.tells g.L.Log.tells g.D.Disk.history g.L.Log.lines) c.in-Ok.desk c.turn.new.desk c.finish.new.desk
    (subst (λ (x : Shown g.row.D.Denot (Round g.row.L.Denot)). IsDriven g.D.Disk.faults (HasDamaged g.D.Disk.tells g.L.Log.tells g.D.Disk.history g.L.Log.lines) (closes c.in-Ok.desk.opening.view.bound.now) c.in-Ok.desk x) (sym (c.turn.ensures.end c.loop-desk-test.false).0) c.loop-desk.invariant.driven) c.finish.ensures.driven

pub end_of-requires : goal.end_of-requires
end_of-requires g c none =
    let desk = c.finish.new.desk in
    let done = c.closed-disk in
    one_of_both (IsUpkept (keeping_in (setting_of g.L.Log.lines c.turn.new.desk.opening)) desk.scope.partitions desk.core (shelf_of (opening_in g.L.Log.lines) desk)) desk.scope desk.core _ _ done.result.next done.result.stop
    done.ensures.next c.finish.ensures.end (λ u. u.tidy) done.ensures.stop none

pub returns-clause-round : goal.returns-clause-round
returns-clause-round g c =
    let round : Round g.row.L.Denot = record { view = record { bound = c.args.bound; partitions = c.args.opened.meta.partitions }; opened = c.args.opened; logs = c.args.logs } in
    let scope : Scope = record { partitions = c.args.opened.meta.partitions; available = c.args.found.items; cap = c.args.cap } in
    let first = first_shown g.L.Log.lines round c.args.disk scope in
    let desk = c.finish.new.desk in
    let done = c.closed-disk in
    let bad : Shown g.row.D.Denot (Round g.row.L.Denot) → Name → Type 0 = HasDamaged g.D.Disk.tells g.L.Log.tells g.D.Disk.history g.L.Log.lines in
    let start = driven_any g.D.Disk.faults bad (closes c.args.bound.now) first c.in-Ok.desk (begun g.D.Disk.faults (closes c.args.bound.now) (opening_in g.L.Log.lines round).start first c.in-Ok.desk refl c.in-Ok.ensures.made c.in-Ok.ensures.counted) in
    let driven : IsDriven g.D.Disk.faults bad (closes c.args.bound.now) first desk = driven_on g.D.Disk.faults bad first c.in-Ok.desk desk start (driven_all g (goal.at.returns-clause-round g c).After-finish) in
    let counts = sum_by g.L.Log.faults done.result.logs.items in
    let closed : IsClosed g.D.Disk.tells g.L.Log.tells g.L.Log.lines g.D.Disk.history g.D.Disk.faults first counts done.result.told.items c.end_of.result desk = record {
      legal = c.is_legal.ensures;
      order = c.is_in_order.ensures;
      why = driven.cause refl;
      telling = done.ensures.told;
      over = end_over _ _ done.result.next c.end_of.result done.ensures.next c.end_of.ensures.next;
      kept = λ next same.
          subst (λ (x : Round g.row.L.Denot). IsUpkept (keeping_in (setting_of g.L.Log.lines x)) desk.scope.partitions desk.core (shelf_of (opening_in g.L.Log.lines) desk))
          (sym (ap (λ (x : Shown g.row.D.Denot (Round g.row.L.Denot)). x.opening) c.finish.ensures.driven.entries.1))
          (ended_kept (IsUpkept (keeping_in (setting_of g.L.Log.lines c.turn.new.desk.opening)) desk.scope.partitions desk.core (shelf_of (opening_in g.L.Log.lines) desk)) desk.scope desk.core c.finish.ensures.end
          (end_over _ _ done.result.next c.end_of.result done.ensures.next c.end_of.ensures.next next same).0);
      stopped = λ why same.
          let is = end_stopped _ c.end_of.result c.end_of.ensures.stop why same in
          let stops = sym done.ensures.stop ∙ is.1 in (
            stops,
            subst (λ (key : Option Values). IsStopOf (g.D.Disk.tells × g.L.Log.tells) (Owns g.D.Disk.tells g.L.Log.tells g.D.Disk.history g.L.Log.lines desk) (setting_of g.L.Log.lines desk.opening) (cuts_of (opening_in g.L.Log.lines) desk) desk.core.front.committed key why.cause)
                (sym is.2) (done.ensures.stopped why.cause stops),
          );
      keyless = λ why same other. (let is = end_stopped _ c.end_of.result c.end_of.ensures.stop why same in is.2 ∙ done.ensures.no_key (λ stops. other (same_cause (sym is.1 ∙ done.ensures.stop ∙ stops))));
      faulty = done.ensures.faulty;
      good = λ t. c.finish.ensures.good t (c.turn.ensures.good t (c.loop-desk.invariant.good t (begun_good g.L.Log.lines round c.args.disk scope c.in-Ok.desk (g.D.Disk.faults c.args.disk) (g.D.Disk.faults c.in-Ok.desk.disk) c.requires.can.numbers.before c.requires.can.numbers.near c.in-Ok.ensures.made)));
    } in
    round_closed g.D.Disk.tells g.L.Log.tells g.L.Log.lines g.D.Disk.history g.D.Disk.faults round scope c.args.disk desk done.result.disk refl c.requires.can driven done.ensures.same done.ensures.counted counts done.result.told.items c.end_of.result closed
    (record {
      parts = c.job_is_wanted.ensures.parts;
      terms = c.tasks_have_terms.ensures.terms;
      opens = c.round_begins_as_found.ensures.opens;
      unmarked = c.times_are_of_lines.ensures.unmarked;
      run = c.rounds.ensures.round;
      over = c.rounds.ensures.over;
      files = c.rounds.ensures.files;
      on = c.rounds.ensures.on;
    })

pub returns-clause-logs : goal.returns-clause-logs
returns-clause-logs g c =
    let round : Round g.row.L.Denot = record { view = record { bound = c.args.bound; partitions = c.args.opened.meta.partitions }; opened = c.args.opened; logs = c.args.logs } in
    let scope : Scope = record { partitions = c.args.opened.meta.partitions; available = c.args.found.items; cap = c.args.cap } in
    let first = first_shown g.L.Log.lines round c.args.disk scope in
    let bad : Shown g.row.D.Denot (Round g.row.L.Denot) → Name → Type 0 = HasDamaged g.D.Disk.tells g.L.Log.tells g.D.Disk.history g.L.Log.lines in
    let start = driven_any g.D.Disk.faults bad (closes c.args.bound.now) first c.in-Ok.desk (begun g.D.Disk.faults (closes c.args.bound.now) (opening_in g.L.Log.lines round).start first c.in-Ok.desk refl c.in-Ok.ensures.made c.in-Ok.ensures.counted) in
    let driven : IsDriven g.D.Disk.faults bad (closes c.args.bound.now) first c.finish.new.desk = driven_on g.D.Disk.faults bad first c.in-Ok.desk c.finish.new.desk start (driven_all g (goal.at.returns-clause-logs g c).After-finish) in
    let opened = ap (λ (x : Shown g.row.D.Denot (Round g.row.L.Denot)). x.opening.logs.items) driven.entries.1 in
    read_back g.L.Log.tells g.L.Log.lines g.L.Log.available g.L.Log.answers g.L.Log.faults c.args.logs.items c.closed-disk.result.logs.items
    (subst (λ (l : List g.row.L.Denot). AllZip (LogWent g.L.Log.tells g.L.Log.lines g.L.Log.available g.L.Log.answers g.L.Log.faults) l c.closed-disk.result.logs.items) opened c.closed-disk.ensures.logs)

pub returns-clause-counted : goal.returns-clause-counted
returns-clause-counted g c =
    let begun = c.in-Ok.ensures.counted in
    let driven = (driven_all g (goal.at.returns-clause-counted g c).After-finish).counted in
    let closed = c.closed-disk.ensures.counted in
    omega (arith, begun, driven, closed)
