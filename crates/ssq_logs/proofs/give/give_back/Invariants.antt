use Rattle.std.proofs.Common.{◌≡◌, map}
use Rattle.ssq_logs.specs.Went.{InputsWent, faults_with}
use Rattle.ssq_logs.proofs.give.give_back.Given as goal

-- the logs so far came back
abbrev pub invariant-loop-log : goal.invariant-loop-log
invariant-loop-log g l = record {
  went : InputsWent g.I.Inputs.tells g.I.Inputs.held g.I.Inputs.returned g.I.Inputs.available l.initial.inputs l.inputs (map g.I.Log.Log.answers l.yielded);
  added : g.I.Inputs.faults l.inputs ≡ faults_with (map g.I.Log.Log.faults l.yielded) (g.I.Inputs.faults l.initial.inputs);
}
