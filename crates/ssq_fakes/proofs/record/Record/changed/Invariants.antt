use Rattle.std.proofs.Common.{◌≡◌}
use Rattle.std.specs.Prelude.{◌||◌}
use Rattle.ssq_outside.specs.declared.name.Name.{Name}
use Rattle.ssq_fakes.specs.Records.{events_of, is_changed_in}
use Rattle.ssq_fakes.specs.Disks.{has_name}
use Rattle.ssq_fakes.proofs.record.Record.changed.Given as goal

abbrev pub invariant-loop-at : goal.invariant-loop-at
invariant-loop-at l = (q : Name) → is_changed_in (events_of l.self) q ≡ (has_name l.changed.keys q || is_changed_in (events_of l.at) q)
