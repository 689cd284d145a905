use Rattle.std.proofs.Common.{◌<◌, ◌≤◌, ◌^◌, ℕ, Contains}
use Rattle.ssq_outside.specs.declared.name.Name.TheVariants as name
use Rattle.ssq_open.proofs.Names.{IsAmong, AreInOrder}
use Rattle.ssq_open.proofs.listing.written.Given as goal

abbrev pub invariant-loop-name : goal.invariant-loop-name
invariant-loop-name l = record {
  there : (e : ℕ) → e < l.written → Contains l.names (name.Out e);
  absent : AreInOrder l.names → IsAmong l.names l.name-index (name.Out l.written) → ⊥;
  fits : l.written ≤ 2 ^ 32;
}
