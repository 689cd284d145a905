-- The values so far are in front of the bytes, and each key that the bytes spell has them in front.
use Rattle.std.proofs.Common.{◌≡◌, ◌++◌, ◌-◌, length, All}
use Rattle.ssq_value.specs.Key.{keys_of}
use Rattle.ssq_shape.specs.Fit.{IsFit}
use Rattle.ssq_keys.proofs.ReadLemmas.{EachIsLeft}
use Rattle.ssq_keys.proofs.key.read_key.Given as goal

abbrev pub invariant-loop : goal.invariant-loop
invariant-loop l =
    (keys_of l.values.items ++ l.rest ≡ l.bytes)
    × All IsFit l.values.items
    × (length l.values.items ≡ l.counter)
    × EachIsLeft l.bytes l.count l.values.items l.rest (l.count - l.counter)
