-- What stands in front of a buffer, and where two lists part.
use Rattle.std.proofs.Common.{◌≡◌, ℕ, List, [], ◌∷◌, ◌++◌, length, take, drop, refl, sym, ap, ap₂, ◌∙◌, append_assoc, take-append-drop, arith}
use Rattle.std.proofs.Math.Seq.{take-append_seam}

-- what stood in front before the buffer grew still stands there after a later step that kept all it had
pub still_in_front : (old mid new more : List ℕ) → mid ≡ old ++ more → take (length mid) new ≡ mid → take (length old) new ≡ old
still_in_front old mid new more grown kept =
    let rest = drop (length mid) new in
    let whole : new ≡ old ++ (more ++ rest) = sym (take-append-drop (length mid) new) ∙ ap (λ (front : List ℕ). front ++ rest) (kept ∙ grown) ∙ append_assoc old more rest in
    ap (take (length old)) whole ∙ take-append_seam old (more ++ rest)

-- two fronts of one length, before whatever follows, are one
pub same_fronts : (a b x y : List ℕ) → length a ≡ length b → a ++ x ≡ b ++ y → (a ≡ b) × (x ≡ y)
same_fronts [] [] x y len e = (refl, e)
same_fronts [] (n ∷ b) x y len e = absurd (omega arith)
same_fronts (m ∷ a) [] x y len e = absurd (omega arith)
same_fronts (m ∷ a) (n ∷ b) x y len e =
    let tails : a ++ x ≡ b ++ y = cc in
    let shorter : length a ≡ length b = omega arith in
    let heads : m ≡ n = cc in
    let rest = same_fronts a b x y shorter tails in
    (ap₂ (λ (k : ℕ) (ks : List ℕ). k ∷ ks) heads rest.0, rest.1)
