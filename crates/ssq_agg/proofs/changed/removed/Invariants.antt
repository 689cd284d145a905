use Rattle.std.proofs.Common.{◌≡◌, All, map, take}
use Rattle.ssq_version.specs.State.{IsShortEntry}
use Rattle.ssq_agg.specs.Steps.{gone_entry}
use Rattle.ssq_agg.proofs.changed.removed.Given as goal

abbrev pub invariant-loop-group : goal.invariant-loop-group
invariant-loop-group l = (l.entries.items ≡ map gone_entry (take l.group-index l.groups)) × All IsShortEntry l.entries.items
