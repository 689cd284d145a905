use Rattle.std.proofs.Common.{◌≡◌, ◌<◌, ◌≤◌, ◌-◌, ℕ, [], get_or, OnOk, IfOk, IfErr}
use mathlib.Core.Option.{some}
use lib.ListN.{get_elem?}
use Rattle.ssq_runner.specs.Between.{AreUnderWay, IsGivenBy, IsOver}
use Rattle.ssq_runner.specs.Putting.{OutRises}
use Rattle.ssq_runner.specs.Running.{Given as RunGiven}
use Rattle.ssq_runner.proofs.source.run_query.Given as goal

abbrev pub invariant-loop-run : goal.invariant-loop-run
invariant-loop-run g l = record {
  inputs : l.inputs ≡ l.initial.inputs;
  few : OnOk l.run (l.done < l.ask.rounds);
  empty : OnOk l.run (l.text.items ≡ []);
  long : IfOk l.run (λ ready. g.I.Log.Log.tells → (i : ℕ) (own : g.row.I-Log.Denot) → get_elem? ready.logs.items i ≡ some own → get_or ready.found.items i 0 ≤ g.I.Log.Log.available own);
  counted : g.O.Output.faults l.fn.out ≤ g.O.Output.faults l.out;
  cause : IfErr l.run (λ left. OutRises (g.O.Output.faults l.fn.out) (g.O.Output.faults l.out) left.end);
  way : (given : RunGiven g.row.I-Log.Denot)
      × IsGivenBy g.I.Inputs.tells g.I.Log.Log.lines g.I.Log.Log.available g.I.Log.Log.answers g.I.Log.Log.faults (g.I.Inputs.held l.fn.inputs) (g.I.Inputs.available l.fn.inputs) l.bound l.ask (g.D.Disk.history l.fn.disk) (g.D.Disk.faults l.fn.disk) (g.O.Output.content l.fn.out) given
      × IfOk l.run (λ ready. AreUnderWay (g.D.Disk.tells × g.I.Log.Log.tells) g.I.Log.Log.lines g.I.Log.Log.available g.I.Log.Log.answers g.I.Log.Log.faults given l.done (g.D.Disk.history ready.disk) (g.D.Disk.faults ready.disk) ready.logs.items g.O.Output.tells (g.O.Output.content l.out) ready.opened ready.closings.items ready.found.items)
      × IfErr l.run (λ left. IsOver (g.D.Disk.tells × g.I.Log.Log.tells) g.I.Log.Log.lines g.I.Log.Log.available g.I.Log.Log.answers g.I.Log.Log.faults given (g.D.Disk.history left.disk) (g.D.Disk.faults left.disk) left.logs.items g.O.Output.tells (g.O.Output.content l.out) l.text.items left.end);
}

abbrev pub decreases-loop-run : goal.decreases-loop-run
decreases-loop-run g l = l.ask.rounds - l.done
