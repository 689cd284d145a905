use Rattle.std.proofs.Common.{◌≡◌, ℕ, List, [], length, refl, sym, subst, arith}
use Rattle.ssq_outside.specs.History.{History, LeavesNow, LeavesOnly}
use Rattle.ssq_shape.specs.declared.bound.Bound.{Bound}
use Rattle.ssq_store.specs.declared.store.Store.{Store}
use Rattle.ssq_core.specs.Standing.{Stands}
use Rattle.ssq_course.specs.Setting.{job_of}
use Rattle.ssq_logs.specs.Asked.{AreAsked}
use Rattle.ssq_drive.specs.Rounds.{HaveIndexes}
use Rattle.ssq_runner.specs.Between.{HaveBegun}
use Rattle.ssq_runner.specs.Ending.{Begun}
use Rattle.ssq_runner.specs.Going.{IsReady}
use Rattle.ssq_runner.specs.Lens.{lens_of}
use Rattle.ssq_runner.specs.Running.{Given as RunGiven, IsOf, IsOpenedOn, IsUnopened, LeavesStanding}
use Rattle.ssq_runner.proofs.Begins.{have_begun}
use Rattle.ssq_runner.proofs.Firsts.{can_first, ready_first, unopened_end}
use Rattle.ssq_runner.proofs.Overs.{rounds_over}
use Rattle.ssq_runner.proofs.Promising.{opening_outside, opening_stands}
use Rattle.ssq_runner.proofs.Readying.{asked_count, asked_under}
use Rattle.ssq_runner.proofs.Starting.{starve}
use Rattle.ssq_runner.proofs.run.begin_found.Given.{Over}
use Rattle.ssq_runner.proofs.run.begin_found.Goals as goal
use Rattle.ssq_runner.proofs.run.begin_found.Goals.{After-closings_of}

pub returns-in-Err-clause-over : goal.returns-in-Err-clause-over
returns-in-Err-clause-over g c = λ given of start faulty ask. record {
  ends = unopened_end g.D.Disk.tells (g.D.Disk.tells × g.L.Log.tells) g.D.Disk.history g.D.Disk.faults g.L.Log.lines g.L.Log.available g.L.Log.answers g.L.Log.faults (λ t. t.0) given c.args.bound.now c.args.ask c.args.counts.now c.args.found.items c.args.disk c.open_found.new.disk
      c.args.logs.items g.O.Output.tells given.written [] c.in-Err.fault
      (asked_under g.L.Log.tells (g.D.Disk.tells × g.L.Log.tells) g.L.Log.lines g.L.Log.available g.L.Log.answers g.L.Log.faults (λ t. t.1) given.logs c.args.logs.items c.args.found.items ask) (λ cause outside t s run.
      opening_outside (g.D.Disk.tells × g.L.Log.tells) g.L.Log.tells g.L.Log.lines g.L.Log.available g.L.Log.answers g.L.Log.faults c.job_is_wanted.ensures.wanted c.job_is_wanted.ensures.first c.round_begins_as_found.ensures.found c.job_is_wanted.ensures.parts c.job_is_wanted.ensures.states c.round_begins_as_found.ensures.stores
      c.args.bound.now c.args.ask c.args.counts.now c.args.found.items c.requires.asked c.requires.runs c.requires.each given of s run c.args.logs.items ask t.1 g.D.Disk.history c.args.disk c.open_found.new.disk start g.D.Disk.tells t.0 cause outside) of start faulty refl refl
      (subst (λ (l : List ℕ). IsUnopened g.D.Disk.tells g.D.Disk.history g.D.Disk.faults c.args.bound.now c.args.ask.partitions (lens_of c.args.counts.now l) c.args.disk c.open_found.new.disk c.in-Err.fault) c.as_slice.ensures.value c.in-Err.ensures.unopened);
  stands = λ t s run each.
      opening_stands (g.D.Disk.tells × g.L.Log.tells) g.L.Log.tells g.L.Log.lines g.L.Log.available g.L.Log.answers g.L.Log.faults c.job_is_wanted.ensures.wanted c.job_is_wanted.ensures.first c.round_begins_as_found.ensures.found c.job_is_wanted.ensures.parts c.job_is_wanted.ensures.states c.round_begins_as_found.ensures.stores
      c.args.bound.now c.args.ask c.args.counts.now c.args.found.items c.requires.asked c.requires.runs c.requires.each given of s run c.args.logs.items ask t.1 g.D.Disk.history c.args.disk c.open_found.new.disk start g.D.Disk.tells t.0
      (subst (λ (l : List ℕ). LeavesStanding g.D.Disk.tells g.D.Disk.history c.args.bound.now c.args.ask.partitions (lens_of c.args.counts.now l) c.args.disk c.open_found.new.disk) c.as_slice.ensures.value c.open_found.ensures.images) each;
  stay = λ t s run each.
      subst (λ (h : History). LeavesOnly h (g.D.Disk.history c.open_found.new.disk) (Stands (job_of s))) (sym start)
      (c.open_found.ensures.stay t.0 (job_of s) (subst (λ (h : History). LeavesNow h (Stands (job_of s))) start each));
}

-- what was opened, over the lines that were found
is_opened : (g : Over) → (c : After-closings_of g) → IsOpenedOn g.D.Disk.tells g.D.Disk.history c.args.bound.now c.args.ask.partitions (lens_of c.args.counts.now c.args.found.items) c.args.disk c.open_found.new.disk c.in-Ok.opened
is_opened g c =
    subst (λ (l : List ℕ). IsOpenedOn g.D.Disk.tells g.D.Disk.history c.args.bound.now c.args.ask.partitions (lens_of c.args.counts.now l) c.args.disk c.open_found.new.disk c.in-Ok.opened) c.as_slice.ensures.value c.in-Ok.ensures.opened

leaves : (g : Over) → (c : After-closings_of g) → LeavesStanding g.D.Disk.tells g.D.Disk.history c.args.bound.now c.args.ask.partitions (lens_of c.args.counts.now c.args.found.items) c.args.disk c.open_found.new.disk
leaves g c = subst (λ (l : List ℕ). LeavesStanding g.D.Disk.tells g.D.Disk.history c.args.bound.now c.args.ask.partitions (lens_of c.args.counts.now l) c.args.disk c.open_found.new.disk) c.as_slice.ensures.value c.open_found.ensures.images

-- what rounds begin on
abbrev begun_on : (g : Over) → (c : After-closings_of g) → RunGiven g.row.L.Denot → Begun g.row.L.Denot
begun_on g c given = record {
  bound = c.args.bound.now;
  found = c.in-Ok.opened;
  cap = c.args.ask.cap;
  rounds = c.args.ask.rounds;
  start = g.D.Disk.history c.open_found.new.disk;
  disk_faults = g.D.Disk.faults c.open_found.new.disk;
  logs = given.logs;
  seen = c.args.found.items;
  written = given.written;
}

have_all : (g : Over) → (c : After-closings_of g) → (given : RunGiven g.row.L.Denot) → IsOf c.args.bound.now c.args.ask c.args.counts.now given → given.start ≡ g.D.Disk.history c.args.disk → given.disk_faults ≡ g.D.Disk.faults c.args.disk
    → AreAsked g.L.Log.tells g.L.Log.lines g.L.Log.available g.L.Log.answers g.L.Log.faults given.logs c.args.logs.items c.args.found.items
    → HaveBegun (g.D.Disk.tells × g.L.Log.tells) g.L.Log.lines g.L.Log.available g.L.Log.answers g.L.Log.faults given (begun_on g c given)
have_all g c given of start faulty ask =
    have_begun (g.D.Disk.tells × g.L.Log.tells) g.L.Log.tells g.L.Log.lines g.L.Log.available g.L.Log.answers g.L.Log.faults (λ t. t.1) c.job_is_wanted.ensures.wanted c.job_is_wanted.ensures.first c.round_begins_as_found.ensures.found c.job_is_wanted.ensures.parts c.job_is_wanted.ensures.states c.round_begins_as_found.ensures.stores c.run.ensures
    c.args.bound.now c.args.ask c.args.counts.now c.args.found.items c.requires.asked c.requires.runs c.requires.each c.requires.cap given of c.args.logs.items ask g.D.Disk.history g.D.Disk.faults c.args.disk c.open_found.new.disk start faulty g.D.Disk.tells (λ t. t.0) c.in-Ok.opened (is_opened g c)
    c.open_found.ensures.counted (leaves g c) c.open_found.ensures.stay

-- and the first may begin
ready_all : (g : Over) → (c : After-closings_of g) → (given : RunGiven g.row.L.Denot) → AreAsked g.L.Log.tells g.L.Log.lines g.L.Log.available g.L.Log.answers g.L.Log.faults given.logs c.args.logs.items c.args.found.items
    → IsReady (g.D.Disk.tells × g.L.Log.tells) g.L.Log.lines g.L.Log.available g.L.Log.answers g.L.Log.faults (begun_on g c given) 0 (g.D.Disk.history c.open_found.new.disk) (g.D.Disk.faults c.open_found.new.disk) c.args.logs.items g.O.Output.tells given.written c.in-Ok.opened c.args.found.items
ready_all g c given ask =
    let can = can_first c.job_is_wanted.ensures.parts c.args.bound.now c.args.ask.partitions c.args.counts.now c.args.found.items c.requires.asked c.requires.runs c.requires.each g.D.Disk.tells g.D.Disk.history c.args.disk c.open_found.new.disk c.in-Ok.opened
    (is_opened g c) (length c.args.logs.items) c.args.ask.cap c.requires.log_each c.requires.few c.requires.small c.requires.cap in
    ready_first g.L.Log.tells (g.D.Disk.tells × g.L.Log.tells) g.L.Log.lines g.L.Log.available g.L.Log.answers g.L.Log.faults (λ t. t.1) c.rounds.ensures.nothing c.rounds.ensures.opened (begun_on g c given) c.args.logs.items c.args.found.items g.O.Output.tells refl ask
    (let n = (asked_count g.L.Log.tells g.L.Log.lines g.L.Log.available g.L.Log.answers g.L.Log.faults given.logs c.args.logs.items c.args.found.items ask).0 in let few = c.requires.few in omega (arith, n, few)) can

pub returns-in-Ok-closings_of-clause-begun : goal.returns-in-Ok-closings_of-clause-begun
returns-in-Ok-closings_of-clause-begun g c = λ given of start faulty ask.
    let at = (goal.at.returns-in-Ok-closings_of-clause-begun g c).After-closings_of in
    record {
      b = begun_on g at given;
      begun = have_all g at given of start faulty ask;
      ready = ready_all g at given ask;
      indexes = subst (λ (b : Bound). HaveIndexes b c.in-Ok.opened.stores c.in-Ok-closings_of.closings.items) (sym of.bound_is)
          (subst (λ (l : List Store). HaveIndexes c.args.bound.now l c.in-Ok-closings_of.closings.items) c.as_slice-2.ensures c.in-Ok-closings_of.ensures);
    }

pub returns-in-Err-closings_of-clause-over : goal.returns-in-Err-closings_of-clause-over
returns-in-Err-closings_of-clause-over g c = λ given of start faulty ask.
    let at = (goal.at.returns-in-Err-closings_of-clause-over g c).After-closings_of in
    rounds_over (g.D.Disk.tells × g.L.Log.tells) g.L.Log.lines g.L.Log.available g.L.Log.answers g.L.Log.faults given (begun_on g at given) (have_all g at given of start faulty ask) _ _ _ g.O.Output.tells given.written [] _
    (starve (g.D.Disk.tells × g.L.Log.tells) g.L.Log.lines g.L.Log.available g.L.Log.answers g.L.Log.faults (begun_on g at given) 0 _ _ c.args.logs.items g.O.Output.tells _ c.in-Ok.opened c.args.found.items [] (ready_all g at given ask) (omega arith) refl)
