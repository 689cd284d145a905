use Rattle.std.proofs.Common.{◌≡◌, ◌<◌, ◌+◌, ◌∙◌, ℕ, List, length, Option, IfErr, map, refl, sym, ap, subst, arith}
use Rattle.std.proofs.lemmas.Bool.{ltb-true, ltb-false}
use Rattle.std.proofs.lemmas.Result.{IfErr-weaker, IfOk-weaker}
use Rattle.ssq_outside.specs.History.{History, LeavesNow, LeavesOnly}
use Rattle.ssq_core.specs.Standing.{Stands}
use Rattle.ssq_core.specs.Sound.{StandsOrEmpty}
use Rattle.ssq_shape.specs.declared.bound.Bound.{Bound}
use Rattle.ssq_shape.specs.declared.bound.Stream.{Stream}
use Rattle.ssq_course.specs.Setting.{job_of}
use Rattle.ssq_drive.specs.Rounds.{CanBegin, HaveIndexes, first_of}
use Rattle.ssq_logs.specs.Opened.{parts_of, AreLogsOf}
use Rattle.ssq_logs.specs.Parts.{counts_in, lines_in}
use Rattle.ssq_logs.specs.Went.{returned_with}
use Rattle.ssq_runner.specs.declared.rounds.Left.{Left}
use Rattle.ssq_runner.specs.declared.rounds.Ready.{Ready}
use Rattle.ssq_runner.specs.Between.{AreUnderWay, HasGone, IsGivenBy, IsOver}
use Rattle.ssq_runner.specs.Going.{scope_of}
use Rattle.ssq_runner.specs.Putting.{OutRises}
use Rattle.ssq_runner.specs.Running.{Given as RunGiven}
use Rattle.ssq_runner.specs.Sources.{IsUnparted, unparted, over}
use Rattle.ssq_runner.proofs.Cutting.{told_stamps}
use Rattle.ssq_runner.proofs.Owning.{leaves_still}
use Rattle.ssq_runner.proofs.Overs.{of_err, of_ok, on_any}
use Rattle.ssq_runner.proofs.PutLemmas.{put_since}
use Rattle.ssq_runner.proofs.Readying.{returned_under}
use Rattle.ssq_runner.proofs.Sourcing.{parted_counts, run_counts, run_of, never_lines}
use Rattle.ssq_runner.proofs.Turning.{of_run}
use Rattle.ssq_runner.proofs.source.run_query.Given.{Over}
use Rattle.ssq_runner.proofs.source.run_query.Goals as goal
use Rattle.ssq_runner.proofs.source.run_query.Goals.{After-begin-run, After-give_back, After-run_round-went}

-- what the run over the logs is given
abbrev given_by : (g : Over) → (c : After-begin-run g) → RunGiven g.row.I-Log.Denot
given_by g c = record {
  bound = c.args.bound.now;
  asks = c.args.ask.partitions;
  cap = c.args.ask.cap;
  rounds = c.args.ask.rounds;
  counts = c.in-Ok.opened.0;
  start = g.D.Disk.history c.args.disk;
  disk_faults = g.D.Disk.faults c.args.disk;
  logs = c.in-Ok.opened.1.items;
  written = g.O.Output.content c.args.out.now;
}

-- the counts are those of the streams of the query, and the logs those of their parts
counts_are : (g : Over) → (c : After-begin-run g) → g.I.Inputs.tells → c.in-Ok.opened.0 ≡ counts_in (g.I.Inputs.held c.args.inputs.now) c.args.bound.now.streams
counts_are g c told = subst (λ (streams : List Stream). c.in-Ok.opened.0 ≡ counts_in (g.I.Inputs.held c.args.inputs.now) streams) c.as_slice.ensures (c.in-Ok.ensures.counts told)

is_given : (g : Over) → (c : After-begin-run g)
    → IsGivenBy g.I.Inputs.tells g.I.Log.Log.lines g.I.Log.Log.available g.I.Log.Log.answers g.I.Log.Log.faults (g.I.Inputs.held c.args.inputs.now) (g.I.Inputs.available c.args.inputs.now) c.args.bound.now c.args.ask (g.D.Disk.history c.args.disk) (g.D.Disk.faults c.args.disk) (g.O.Output.content c.args.out.now) (given_by g c)
is_given g c = record {
  counts_are = counts_are g c;
  of = record { bound_is = refl; asks_are = refl; cap_is = refl; rounds_are = refl; counts_are = refl; few = c.in-Ok.ensures.few };
  start_is = refl;
  faults_are = refl;
  written_is = refl;
  logs_are = subst (λ (streams : List Stream). AreLogsOf g.I.Inputs.tells g.I.Log.Log.lines g.I.Log.Log.available g.I.Log.Log.answers g.I.Log.Log.faults (g.I.Inputs.held c.args.inputs.now) (g.I.Inputs.available c.args.inputs.now) (parts_of streams c.in-Ok.opened.0) c.in-Ok.opened.1.items) c.as_slice.ensures c.in-Ok.ensures.logs;
  runs = λ told s is.
      run_of g.I.Log.Log.lines (g.I.Inputs.held c.args.inputs.now) c.args.bound.now c.args.ask.partitions (given_by g c) s refl refl (counts_are g c told)
      (subst (λ (streams : List Stream). map g.I.Log.Log.lines c.in-Ok.opened.1.items ≡ lines_in (g.I.Inputs.held c.args.inputs.now) streams) c.as_slice.ensures (c.in-Ok.ensures.lines told)) is;
}

pub loop-run-init : goal.loop-run-init
loop-run-init g c = record {
  inputs = refl;
  few = on_any c.begin-run.result (let r = c.requires.rounds in omega (arith, r));
  empty = on_any c.begin-run.result c.new-text.ensures.items;
  long = c.begin-run.ensures.long;
  counted = omega arith;
  cause = IfErr-weaker c.begin-run.result _ _ (λ left all. all (g.O.Output.faults c.args.out.now)) c.begin-run.ensures.cause;
  way = (
    given_by g (goal.at.loop-run-init g c).After-begin-run,
    is_given g (goal.at.loop-run-init g c).After-begin-run,
    c.begin-run.ensures.begun (given_by g (goal.at.loop-run-init g c).After-begin-run) (record { bound_is = refl; asks_are = refl; cap_is = refl; rounds_are = refl; counts_are = sym c.as_slice-2.ensures; few = c.in-Ok.ensures.few }) refl refl refl,
    subst (λ (text : List ℕ). IfErr c.begin-run.result (λ left. IsOver (g.D.Disk.tells × g.I.Log.Log.tells) g.I.Log.Log.lines g.I.Log.Log.available g.I.Log.Log.answers g.I.Log.Log.faults (given_by g (goal.at.loop-run-init g c).After-begin-run) (g.D.Disk.history left.disk) (g.D.Disk.faults left.disk) left.logs.items g.O.Output.tells (g.O.Output.content c.args.out.now) text left.end)) (sym c.new-text.ensures.items)
        (c.begin-run.ensures.over (given_by g (goal.at.loop-run-init g c).After-begin-run) (record { bound_is = refl; asks_are = refl; cap_is = refl; rounds_are = refl; counts_are = sym c.as_slice-2.ensures; few = c.in-Ok.ensures.few }) refl refl refl),
  );
}

-- rounds are under way on this
abbrev AreOn : (g : Over) → RunGiven g.row.I-Log.Denot → (n : ℕ) → (written : List ℕ) → Ready g.row.D.Denot g.row.I-Log.Denot g.row.D-Stage.Denot g.row.D-Stage-Sealed.Denot → Type 0
AreOn g given n written ready =
    AreUnderWay (g.D.Disk.tells × g.I.Log.Log.tells) g.I.Log.Log.lines g.I.Log.Log.available g.I.Log.Log.answers g.I.Log.Log.faults given n (g.D.Disk.history ready.disk) (g.D.Disk.faults ready.disk) ready.logs.items g.O.Output.tells written ready.opened ready.closings.items ready.found.items

pub run_round-went-requires-clause-can : goal.run_round-went-requires-clause-can
run_round-went-requires-clause-can g c κs lives =
    let way = of_ok c.loop-run.run (AreOn g c.loop-run.invariant.way.0 c.loop-run.done (g.O.Output.content c.loop-run.out)) c.in-Ok-run.ready c.in-Ok-run.is c.loop-run.invariant.way.2 in
    let of = c.loop-run.invariant.way.1.of in
    subst (λ (o : Option ℕ). CanBegin c.args.bound.now (length c.in-Ok-run.ready.logs.items) c.in-Ok-run.ready.opened (scope_of c.in-Ok-run.ready.opened c.in-Ok-run.ready.found.items o)) (way.begun.begun.cap_is ∙ of.cap_is)
    (subst (λ (bound : Bound). CanBegin bound (length c.in-Ok-run.ready.logs.items) c.in-Ok-run.ready.opened (scope_of c.in-Ok-run.ready.opened c.in-Ok-run.ready.found.items way.b.cap)) (way.begun.begun.bound_is ∙ of.bound_is) way.ready.can)

pub run_round-went-requires-clause-long : goal.run_round-went-requires-clause-long
run_round-went-requires-clause-long g c κs lives = of_ok c.loop-run.run _ c.in-Ok-run.ready c.in-Ok-run.is c.loop-run.invariant.long

pub run_round-went-requires-clause-indexes : goal.run_round-went-requires-clause-indexes
run_round-went-requires-clause-indexes g c κs lives =
    let way = of_ok c.loop-run.run (AreOn g c.loop-run.invariant.way.0 c.loop-run.done (g.O.Output.content c.loop-run.out)) c.in-Ok-run.ready c.in-Ok-run.is c.loop-run.invariant.way.2 in
    subst (λ (bound : Bound). HaveIndexes bound c.in-Ok-run.ready.opened.stores c.in-Ok-run.ready.closings.items) c.loop-run.invariant.way.1.of.bound_is way.indexes

-- the round that has gone
gone : (g : Over) → (c : After-run_round-went g)
    → HasGone (g.D.Disk.tells × g.I.Log.Log.tells) g.I.Log.Log.lines g.I.Log.Log.available g.I.Log.Log.answers g.I.Log.Log.faults c.loop-run.invariant.way.0 c.loop-run.done (g.D.Disk.history c.run_round-went.result.disk) (g.D.Disk.faults c.run_round-went.result.disk) c.run_round-went.result.logs.items g.O.Output.tells (g.O.Output.content c.loop-run.out) c.run_round-went.result.told.items c.run_round-went.result.end
gone g c =
    let way = of_ok c.loop-run.run (AreOn g c.loop-run.invariant.way.0 c.loop-run.done (g.O.Output.content c.loop-run.out)) c.in-Ok-run.ready c.in-Ok-run.is c.loop-run.invariant.way.2 in
    let of = c.loop-run.invariant.way.1.of in
    record {
      b = way.b;
      begun = way.begun;
      before = g.D.Disk.history c.in-Ok-run.ready.disk;
      faults_before = g.D.Disk.faults c.in-Ok-run.ready.disk;
      logs_before = c.in-Ok-run.ready.logs.items;
      opened = c.in-Ok-run.ready.opened;
      found = c.in-Ok-run.ready.found.items;
      ready = way.ready;
      round = of_run (g.D.Disk.tells × g.I.Log.Log.tells) g.I.Log.Log.lines way.b c.args.bound.now c.args.ask.cap c.in-Ok-run.ready.logs.items c.in-Ok-run.ready.opened c.in-Ok-run.ready.found.items _ _ _ _ _ _ _ (way.begun.begun.bound_is ∙ of.bound_is) (way.begun.begun.cap_is ∙ of.cap_is) c.run_round-went.ensures.round;
      back = returned_under g.I.Log.Log.tells (g.D.Disk.tells × g.I.Log.Log.tells) g.I.Log.Log.lines g.I.Log.Log.available g.I.Log.Log.answers g.I.Log.Log.faults (λ t. t.1) c.in-Ok-run.ready.logs.items c.run_round-went.result.logs.items c.run_round-went.ensures.logs;
      counted = c.run_round-went.ensures.counted;
    }

pub next_round-run-requires-clause-stamps : goal.next_round-run-requires-clause-stamps
next_round-run-requires-clause-stamps g c =
    (let round = c.run_round-went.ensures.round in told_stamps (first_of c.in-Ok-run.ready.opened) round.plans c.in-Ok-run.ready.opened.committed c.run_round-went.result.told.items round.went.told_are)

pub next_round-run-requires-clause-empty : goal.next_round-run-requires-clause-empty
next_round-run-requires-clause-empty g c = of_ok c.loop-run.run _ c.in-Ok-run.ready c.in-Ok-run.is c.loop-run.invariant.empty

pub loop-run-preserved : goal.loop-run-preserved
loop-run-preserved g c =
    let few : c.loop-run.done < c.args.ask.rounds = of_ok c.loop-run.run _ c.in-Ok-run.ready c.in-Ok-run.is c.loop-run.invariant.few in
    let rounds = c.loop-run.invariant.way.1.of.rounds_are in
    record {
      inputs = c.loop-run.invariant.inputs;
      few = IfOk-weaker c.next_round-run.result _ _ (λ next more. ltb-true (c.loop-run.done + 1) c.args.ask.rounds more) c.next_round-run.ensures.more;
      empty = c.next_round-run.ensures.empty;
      long = c.next_round-run.ensures.long;
      counted = (let a = c.loop-run.invariant.counted in let n = c.next_round-run.ensures.counted in omega (arith, a, n));
      cause = IfErr-weaker c.next_round-run.result _ _ (λ left risen. put_since _ _ _ left.end c.loop-run.invariant.counted risen) c.next_round-run.ensures.cause;
      way = (
        c.loop-run.invariant.way.0,
        c.loop-run.invariant.way.1,
        c.next_round-run.ensures.ready c.loop-run.invariant.way.0 c.loop-run.done (gone g (goal.at.loop-run-preserved g c).After-run_round-went),
        c.next_round-run.ensures.over c.loop-run.invariant.way.0 c.loop-run.done (omega (arith, few, rounds))
            (λ more. (let m = ltb-true (c.loop-run.done + 1) c.args.ask.rounds more in omega (arith, m, rounds)))
            (λ none. (let m = ltb-false (c.loop-run.done + 1) c.args.ask.rounds none in omega (arith, m, few, rounds))) (gone g (goal.at.loop-run-preserved g c).After-run_round-went),
      );
    }

-- the run is over
over_is : (g : Over) → (c : After-give_back g)
    → IsOver (g.D.Disk.tells × g.I.Log.Log.tells) g.I.Log.Log.lines g.I.Log.Log.available g.I.Log.Log.answers g.I.Log.Log.faults c.loop-run.invariant.way.0 (g.D.Disk.history c.in-Err-run.left.disk) (g.D.Disk.faults c.in-Err-run.left.disk) c.in-Err-run.left.logs.items g.O.Output.tells (g.O.Output.content c.loop-run.out) c.loop-run.text.items c.in-Err-run.left.end
over_is g c =
    of_err c.loop-run.run (λ (left : Left g.row.D.Denot g.row.I-Log.Denot g.row.D-Stage.Denot g.row.D-Stage-Sealed.Denot). IsOver (g.D.Disk.tells × g.I.Log.Log.tells) g.I.Log.Log.lines g.I.Log.Log.available g.I.Log.Log.answers g.I.Log.Log.faults c.loop-run.invariant.way.0 (g.D.Disk.history left.disk) (g.D.Disk.faults left.disk) left.logs.items g.O.Output.tells (g.O.Output.content c.loop-run.out) c.loop-run.text.items left.end)
    c.in-Err-run.left c.in-Err-run.is c.loop-run.invariant.way.3

pub returns-in-Err-run-clause-end : goal.returns-in-Err-run-clause-end
returns-in-Err-run-clause-end g c =
    let is = c.loop-run.invariant.way.1 in
    over c.loop-run.invariant.way.0 is.counts_are is.of is.start_is is.faults_are is.written_is is.logs_are is.runs c.in-Err-run.left.logs.items (over_is g (goal.at.returns-in-Err-run-clause-end g c).After-give_back).ends
    (λ told. c.give_back.ensures.inputs.given told ∙ ap (returned_with (map g.I.Log.Log.answers c.in-Err-run.left.logs.items)) (ap g.I.Inputs.returned c.loop-run.invariant.inputs ∙ c.in-Ok.ensures.unreturned told))

pub returns-in-Err-run-clause-stands : goal.returns-in-Err-run-clause-stands
returns-in-Err-run-clause-stands g c = λ t told s is each.
    let given = c.loop-run.invariant.way.1 in
    subst (λ (h : History). LeavesOnly h (g.D.Disk.history c.in-Err-run.left.disk) (StandsOrEmpty (job_of s))) given.start_is
    ((over_is g (goal.at.returns-in-Err-run-clause-stands g c).After-give_back).stands (t, g.met.I.Inputs.logs_tell told) s (given.runs told s is) (subst (λ (h : History). LeavesNow h (StandsOrEmpty (job_of s))) (sym given.start_is) each))

pub returns-in-Err-run-clause-stay : goal.returns-in-Err-run-clause-stay
returns-in-Err-run-clause-stay g c = λ t told s is each.
    let given = c.loop-run.invariant.way.1 in
    subst (λ (h : History). LeavesOnly h (g.D.Disk.history c.in-Err-run.left.disk) (Stands (job_of s))) given.start_is
    ((over_is g (goal.at.returns-in-Err-run-clause-stay g c).After-give_back).stay (t, g.met.I.Inputs.logs_tell told) s (given.runs told s is) (subst (λ (h : History). LeavesNow h (Stands (job_of s))) (sym given.start_is) each))

pub returns-in-Err-run-clause-cause : goal.returns-in-Err-run-clause-cause
returns-in-Err-run-clause-cause g c =
    run_counts (g.D.Disk.tells × g.I.Log.Log.tells) g.I.Log.Log.lines g.I.Log.Log.available g.I.Log.Log.answers g.I.Log.Log.faults
    (g.D.Disk.faults c.args.disk) (g.D.Disk.faults c.in-Err-run.left.disk) (g.I.Inputs.faults c.args.inputs.now) (g.I.Inputs.faults c.give_back.new.inputs) (g.O.Output.faults c.args.out.now) (g.O.Output.faults c.loop-run.out)
    c.in-Err-run.left.logs.items g.O.Output.tells (g.O.Output.content c.loop-run.out) c.loop-run.text.items c.in-Err-run.left.end
    (λ some. (let r = c.give_back.ensures.risen some in let i = ap g.I.Inputs.faults c.loop-run.invariant.inputs in let s = c.in-Ok.ensures.same_count in omega (arith, r, i, s)))
    (of_err c.loop-run.run (λ (left : Left g.row.D.Denot g.row.I-Log.Denot g.row.D-Stage.Denot g.row.D-Stage-Sealed.Denot). OutRises (g.O.Output.faults c.args.out.now) (g.O.Output.faults c.loop-run.out) left.end) c.in-Err-run.left c.in-Err-run.is c.loop-run.invariant.cause)
    c.loop-run.invariant.way.0 (g.D.Disk.history c.in-Err-run.left.disk) c.loop-run.invariant.way.1.faults_are (over_is g (goal.at.returns-in-Err-run-clause-cause g c).After-give_back).ends

pub returns-in-Err-run-clause-counts : goal.returns-in-Err-run-clause-counts
returns-in-Err-run-clause-counts g c = λ told why is. subst (λ (streams : List Stream). c.in-Ok.opened.0 ≡ counts_in (g.I.Inputs.held c.args.inputs.now) streams) c.as_slice.ensures (c.in-Ok.ensures.counts told)

pub returns-in-Err-clause-end : goal.returns-in-Err-clause-end
returns-in-Err-clause-end g c =
    unparted c.in-Err.fault (subst (λ (streams : List Stream). IsUnparted g.I.Inputs.tells (g.I.Inputs.held c.args.inputs.now) streams c.in-Err.fault) c.as_slice.ensures c.in-Err.ensures.unparted)
    (record { same = refl; unwritten = λ o. refl; untold = c.new-text.ensures.items; unasked = c.in-Err.ensures.unasked }) refl

pub returns-in-Err-clause-stands : goal.returns-in-Err-clause-stands
returns-in-Err-clause-stands g c = λ t told s is each. leaves_still (StandsOrEmpty (job_of s)) (g.D.Disk.history c.args.disk) each

pub returns-in-Err-clause-cause : goal.returns-in-Err-clause-cause
returns-in-Err-clause-cause g c = parted_counts (g.D.Disk.faults c.args.disk) (g.I.Inputs.faults c.args.inputs.now) (g.I.Inputs.faults c.open_parts.new.inputs) (g.O.Output.faults c.args.out.now) c.in-Err.fault c.in-Err.ensures.cause

pub returns-in-Err-clause-counts : goal.returns-in-Err-clause-counts
returns-in-Err-clause-counts g c = λ told why is. absurd (never_lines g.I.Inputs.tells (g.I.Inputs.held c.args.inputs.now) _ c.in-Err.fault why _ refl is c.in-Err.ensures.unparted)

pub returns-in-Err-clause-stay : goal.returns-in-Err-clause-stay
returns-in-Err-clause-stay g c = λ t told s is each. leaves_still (Stands (job_of s)) (g.D.Disk.history c.args.disk) each

pub returns-in-Err-run-clause-grown : goal.returns-in-Err-run-clause-grown
returns-in-Err-run-clause-grown g c = λ told stream part.
    (let a = c.open_parts.ensures.grown told stream part in let b = c.give_back.ensures.inputs.grown told stream part in let same = ap (λ (inputs : g.row.I.Denot). g.I.Inputs.available inputs stream part) c.loop-run.invariant.inputs in omega (arith, a, b, same))
