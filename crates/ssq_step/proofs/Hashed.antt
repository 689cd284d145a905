-- One value more is fed to a hash.
use Rattle.std.proofs.Common.{◌≡◌, ◌<◌, ◌+◌, ◌++◌, ℕ, [], ◌∷◌, List, ap, sym, ◌∙◌, take, length, get_or, append-nil}
use Rattle.std.specs.Prelude.{fold}
use Rattle.std.specs.Hash.{HashWrites}
use Rattle.std.specs.List.{flat_map}
use Rattle.std.proofs.lemmas.List.Concat.{flat_map-append}
use Rattle.std.proofs.lemmas.List.Sums.{fold-append}
use Rattle.ssq_step.proofs.Lists.{one_more}

pub fed_more : {S T : Type 0} (write : S → List ℕ → S) (writes : T → HashWrites) (s : S) (xs : List T) (at : ℕ) (x : T) → at < length xs → x ≡ get_or xs at x
    → fold write (fold write s (flat_map writes (take at xs))) (writes x) ≡ fold write s (flat_map writes (take (at + 1) xs))
fed_more write writes s xs at x inside is =
    sym (fold-append write s (flat_map writes (take at xs)) (writes x))
    ∙ ap (λ w. fold write s (flat_map writes (take at xs) ++ w)) (sym (append-nil (writes x)))
    ∙ ap (fold write s) (sym (flat_map-append writes (take at xs) (x ∷ [])))
    ∙ ap (λ l. fold write s (flat_map writes l)) (sym (one_more xs at x inside is))
