use Rattle.std.proofs.Common.{◌∙◌, List, refl, sym, subst, arith}
use Rattle.ssq_outside.specs.History.{History, LeavesOnly}
use Rattle.ssq_core.specs.Standing.{Stands}
use Rattle.ssq_core.specs.Sound.{StandsOrEmpty}
use Rattle.ssq_course.specs.Setting.{job_of}
use Rattle.ssq_logs.specs.Asked.{AreAsked, IsStopped}
use Rattle.ssq_runner.specs.Ending.{IsUncounted}
use Rattle.ssq_runner.specs.Running.{uncounted}
use Rattle.ssq_runner.proofs.Owning.{leaves_still}
use Rattle.ssq_runner.proofs.Readying.{asked_at, asked_count, asked_sum}
use Rattle.ssq_runner.proofs.Stopping.{stopped_under, uncounted_is, uncounted_under}
use Rattle.ssq_runner.proofs.Firsts.{can_ask, few_together}
use Rattle.ssq_runner.proofs.run.begin.Goals as goal

pub begin_found-requires-clause-asked : goal.begin_found-requires-clause-asked
begin_found-requires-clause-asked g c = can_ask c.args.bound.now c.args.ask.partitions c.args.counts.now c.in-Ok.found.items c.requires.partitions c.requires.counts c.requires.streams c.requires.few_streams

pub begin_found-requires-clause-each : goal.begin_found-requires-clause-each
begin_found-requires-clause-each g c = (asked_count g.L.Log.tells g.L.Log.lines g.L.Log.available g.L.Log.answers g.L.Log.faults c.args.logs.items c.count_all.new.logs.items c.in-Ok.found.items c.in-Ok.ensures.asked).1 ∙ c.requires.log_each

pub begin_found-requires-clause-log_each : goal.begin_found-requires-clause-log_each
begin_found-requires-clause-log_each g c =
    (let count = asked_count g.L.Log.tells g.L.Log.lines g.L.Log.available g.L.Log.answers g.L.Log.faults c.args.logs.items c.count_all.new.logs.items c.in-Ok.found.items c.in-Ok.ensures.asked in count.0 ∙ sym count.1)

pub begin_found-requires-clause-few : goal.begin_found-requires-clause-few
begin_found-requires-clause-few g c =
    (let n = (asked_count g.L.Log.tells g.L.Log.lines g.L.Log.available g.L.Log.answers g.L.Log.faults c.args.logs.items c.count_all.new.logs.items c.in-Ok.found.items c.in-Ok.ensures.asked).0 in let l = c.requires.log_each in let f = few_together c.args.counts.now c.requires.counts in let s = c.requires.streams in let t = c.requires.few_streams in omega (arith, n, l, f, s, t))

pub begin_found-requires-clause-small : goal.begin_found-requires-clause-small
begin_found-requires-clause-small g c =
    (let m = asked_sum g.L.Log.tells g.L.Log.lines g.L.Log.available g.L.Log.answers g.L.Log.faults c.args.logs.items c.count_all.new.logs.items c.in-Ok.found.items c.in-Ok.ensures.asked in let n = (asked_count g.L.Log.tells g.L.Log.lines g.L.Log.available g.L.Log.answers g.L.Log.faults c.args.logs.items c.count_all.new.logs.items c.in-Ok.found.items c.in-Ok.ensures.asked).1 in let l = c.requires.log_each in let f = few_together c.args.counts.now c.requires.counts in let s = c.requires.streams in let t = c.requires.few_streams in omega (arith, m, n, l, f, s, t))

pub begin_found-requires-clause-there : goal.begin_found-requires-clause-there
begin_found-requires-clause-there g c = λ t i own at. (let e = asked_at g.L.Log.tells g.L.Log.lines g.L.Log.available g.L.Log.answers g.L.Log.faults c.args.logs.items c.count_all.new.logs.items c.in-Ok.found.items c.in-Ok.ensures.asked t i own at in omega (arith, e))

pub returns-in-Ok-clause-begun : goal.returns-in-Ok-clause-begun
returns-in-Ok-clause-begun g c = λ given of start faulty logs.
    c.begin_found.ensures.begun given of start faulty (subst (λ (l : List g.row.L.Denot). AreAsked g.L.Log.tells g.L.Log.lines g.L.Log.available g.L.Log.answers g.L.Log.faults l c.count_all.new.logs.items c.in-Ok.found.items) (sym logs) c.in-Ok.ensures.asked)

pub returns-in-Ok-clause-over : goal.returns-in-Ok-clause-over
returns-in-Ok-clause-over g c = λ given of start faulty logs.
    c.begin_found.ensures.over given of start faulty (subst (λ (l : List g.row.L.Denot). AreAsked g.L.Log.tells g.L.Log.lines g.L.Log.available g.L.Log.answers g.L.Log.faults l c.count_all.new.logs.items c.in-Ok.found.items) (sym logs) c.in-Ok.ensures.asked)

pub returns-in-Err-clause-over : goal.returns-in-Err-clause-over
returns-in-Err-clause-over g c = λ given of start faulty logs. record {
  ends = uncounted c.in-Err.fault
      (subst (λ (l : List g.row.L.Denot). IsUncounted (g.D.Disk.tells × g.L.Log.tells) g.L.Log.lines g.L.Log.available g.L.Log.answers g.L.Log.faults l c.count_all.new.logs.items c.in-Err.fault) (sym logs)
      (uncounted_under g.L.Log.tells (g.D.Disk.tells × g.L.Log.tells) g.L.Log.lines g.L.Log.available g.L.Log.answers g.L.Log.faults (λ t. t.1) c.args.logs.items c.count_all.new.logs.items c.in-Err.fault
      (uncounted_is g.L.Log.tells g.L.Log.lines g.L.Log.available g.L.Log.answers g.L.Log.faults c.args.logs.items c.count_all.new.logs.items c.in-Err.fault c.in-Err.ensures.stopped)))
      (subst (λ (l : List g.row.L.Denot). IsStopped (g.D.Disk.tells × g.L.Log.tells) g.L.Log.lines g.L.Log.available g.L.Log.answers g.L.Log.faults 0 l c.count_all.new.logs.items c.in-Err.fault) (sym logs)
      (stopped_under g.L.Log.tells (g.D.Disk.tells × g.L.Log.tells) g.L.Log.lines g.L.Log.available g.L.Log.answers g.L.Log.faults (λ t. t.1) 0 c.args.logs.items c.count_all.new.logs.items c.in-Err.fault c.in-Err.ensures.stopped))
      (sym start) (record { unwritten = λ o. refl; untold = refl }) refl;
  stands = λ t s run each. subst (λ (h : History). LeavesOnly given.start h (StandsOrEmpty (job_of s))) start (leaves_still (StandsOrEmpty (job_of s)) given.start each);
  stay = λ t s run each. subst (λ (h : History). LeavesOnly given.start h (Stands (job_of s))) start (leaves_still (Stands (job_of s)) given.start each);
}
