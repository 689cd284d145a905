-- Streams whose parts are counted one after the other.
use Rattle.std.proofs.Common.{◌≡◌, ◌≤◌, ◌+◌, ◌++◌, ◌∷◌, [], ℕ, suc, List, length, length-append, Option, Some, Result, Ok, Err, IfErr, sym, ap, ◌∙◌, subst, arith}
use Rattle.std.specs.Prelude.{IfSome}
use Rattle.ssq_outside.specs.Logs.{Held}
use Rattle.ssq_shape.specs.declared.bound.Stream.{Stream}
use Rattle.ssq_logs.specs.declared.fault.PartsFault.{PartsFault}
use Rattle.ssq_logs.specs.declared.fault.PartsFault.TheVariants.{Full, LogFault, NoMemory}
use Rattle.ssq_logs.specs.Parts.{most_parts, IsFew, IsFullAt, CauseBehind}

same_place : (at k mid n : ℕ) → at ≡ mid + n → mid ≡ k + 1 → at ≡ k + suc n
same_place at k mid n is more = omega (arith, is, more)

-- the fault is at a later stream
pub cause_next : (r : Result (Unit {0}) PartsFault) (acc mid : List ℕ) (count : ℕ) (held held' : Held) (all rest : List Stream) (s : Stream) → all ≡ s ∷ rest → mid ≡ acc ++ count ∷ [] → held' ≡ held
    → held.parts s.source ≤ most_parts → IfErr r (CauseBehind (length mid) held' rest) → IfErr r (CauseBehind (length acc) held all)
cause_next (Ok u) acc mid count held held' all rest s is mid_is same few h = tt
cause_next (Err LogFault) acc mid count held held' all rest s is mid_is same few h = tt
cause_next (Err NoMemory) acc mid count held held' all rest s is mid_is same few h = tt
cause_next (Err (Full at)) acc mid count held held' all rest s is mid_is same few h =
    let more : length mid ≡ length acc + 1 = ap length mid_is ∙ length-append acc (count ∷ []) in
    let full : IsFullAt held rest h.0 = subst (λ (x : Held). IsFullAt x rest h.0) same h.2 in
    (suc h.0, same_place at (length acc) (length mid) h.0 h.1 more, subst (λ (l : List Stream). IsFullAt held l (suc h.0)) (sym is) (few, full))

-- a number that was found and is not too many
pub few_known : (o : Option ℕ) (n p : ℕ) → o ≡ Some n → IfSome o (λ k. k ≡ p) → IfSome o IsFew → p ≤ most_parts
few_known o n p is found few = subst (λ (k : ℕ). k ≤ most_parts) (subst (λ (x : Option ℕ). IfSome x (λ k. k ≡ p)) is found) (subst (λ (x : Option ℕ). IfSome x IsFew) is few)
