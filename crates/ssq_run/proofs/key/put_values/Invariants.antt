use Rattle.std.proofs.Common.{◌≡◌, ◌++◌, map, take}
use Rattle.ssq_run.specs.Keys.{value_token}
use Rattle.ssq_run.proofs.key.put_values.Given as goal

-- the values so far are written
abbrev pub invariant-loop-value : goal.invariant-loop-value
invariant-loop-value l = (l.writer.tokens ≡ l.initial.writer.tokens ++ map value_token (take l.value-index l.values)) × (l.writer.before ≡ l.initial.writer.before)
