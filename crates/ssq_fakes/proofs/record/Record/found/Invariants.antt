use Rattle.std.proofs.Common.{◌≡◌}
use Rattle.std.specs.Prelude.{◌&&◌, ◌||◌, not, is_some}
use Rattle.ssq_outside.specs.declared.name.Name.{Name}
use Rattle.ssq_fakes.specs.Records.{events_of, content_in, is_mentioned}
use Rattle.ssq_fakes.specs.Disks.{has_name}
use Rattle.ssq_fakes.proofs.record.Record.found.Given as goal

abbrev pub invariant-loop-at : goal.invariant-loop-at
invariant-loop-at l = record {
  met : (q : Name) → is_mentioned (events_of l.self) q ≡ (has_name l.found.met.keys q || is_mentioned (events_of l.at) q);
  present : (q : Name) → is_some (content_in (events_of l.self) q) ≡ (has_name l.found.present.keys q || (not (has_name l.found.met.keys q) && is_some (content_in (events_of l.at) q)));
}
