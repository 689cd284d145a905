use Rattle.std.proofs.Common.{◌≡◌, take}
use Rattle.ssq_route.specs.Place.{fnv_1a}
use Rattle.ssq_route.proofs.hash.hash.Given as goal

abbrev pub invariant-loop-byte : goal.invariant-loop-byte
invariant-loop-byte l = l.hash ≡ fnv_1a (take l.byte-index l.key)
