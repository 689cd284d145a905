-- The whole lines of bytes, a byte at a time.
use Rattle.std.proofs.Common.{◌≡◌, ◌∷◌, ◌++◌, ◌<◌, ◌≤◌, ◌+◌, ◌∙◌, ℕ, List, suc, length, drop, get_or, sym, add-one, drop-cons, append-nil}
use Rattle.ssq_outside.specs.Logs.{Line}
use Rattle.ssq_fakes.specs.Logs.{lines_after}
use Rattle.std.proofs.lemmas.List.{drop_all}
use Rattle.std.proofs.lemmas.List.{take_min, length-take}

pub ruleset front_steps = (take_min, length-take)

-- the bytes with one more, where it is said what that one does
pub one_more : (bytes : List ℕ) (i : ℕ) (all : List Line) (before after : List ℕ → List Line) → i < length bytes → ((rest : List ℕ) → after rest ≡ before (get_or bytes i 0 ∷ rest))
    → all ≡ before (drop i bytes) → all ≡ after (drop (i + 1) bytes)
one_more bytes i all before after lt step so_far = rw (add-one, so_far, drop-cons bytes i 0 lt) (sym (step (drop (suc i) bytes)))

-- where no byte is left, the lines so far are all
pub at_last : (bytes : List ℕ) (i : ℕ) (all done : List Line) (begun : Line) → length bytes ≤ i → all ≡ done ++ lines_after begun (drop i bytes) → done ≡ all
at_last bytes i all done begun over so_far = sym (append-nil done) ∙ sym (rw (drop_all i bytes over) at so_far)
