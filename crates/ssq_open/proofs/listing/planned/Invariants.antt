use Rattle.std.proofs.Common.{◌≡◌, ◌<◌, ◌≤◌, ◌+◌, ◌^◌, ℕ, Contains}
use Rattle.ssq_outside.specs.declared.name.Name.TheVariants as name
use Rattle.ssq_open.proofs.Names.{IsAmong}
use Rattle.ssq_open.proofs.listing.planned.Given as goal

abbrev pub invariant-loop-name : goal.invariant-loop-name
invariant-loop-name l = record {
  below : (e : ℕ) → IsAmong l.names l.name-index (name.Plan e) → e < l.planned;
  greatest : (e : ℕ) → l.planned ≡ e + 1 → Contains l.names (name.Plan e);
  fits : l.planned ≤ 2 ^ 32;
}
