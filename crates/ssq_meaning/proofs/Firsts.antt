-- The rows that are no repeats, over more rows, and partition by partition.
use Rattle.std.proofs.Common.{◌≡◌, ◌≤◌, ◌++◌, [], ◌∷◌, ℕ, ℤ, List, Option, Bool, true, false, refl, ap, sym, ◌∙◌, subst}
use Rattle.std.specs.Prelude.{◌==◌, ◌&&◌, if◌then◌else◌}
use Rattle.std.specs.List.{flat_map, range_with_len}
use Rattle.std.specs.List.Sorted.{IsPermutation}
use Rattle.std.proofs.lemmas.List.{append_assoc, append-nil, map-append}
use Rattle.std.proofs.lemmas.List.Elements.{filter-append}
use Rattle.ssq_value.specs.Key.{keys_of}
use Rattle.ssq_route.specs.Place.{place_of}
use Rattle.ssq_shape.specs.declared.bound.Bound.{Bound}
use Rattle.ssq_meaning.specs.FedRows.{FedRow}
use Rattle.ssq_meaning.specs.Dedup.{firsts, meant, values_in}
use Rattle.ssq_meaning.specs.Epochs.{bucket}
use Rattle.ssq_meaning.specs.Group.{has_key}
use Rattle.ssq_meaning.specs.Meaning.{Values}
use Rattle.ssq_meaning.specs.Operator.{dedup}
use Rattle.ssq_meaning.proofs.Parted.{has_in}
use Rattle.ssq_meaning.proofs.Together.{shown_together}

-- those of two lists, one after the other
pub firsts-append : (earlier xs ys : List FedRow) → firsts earlier (xs ++ ys) ≡ firsts earlier xs ++ firsts (earlier ++ xs) ys
unfolding firsts
firsts-append earlier [] ys = ap (λ e. firsts e ys) (sym (append-nil earlier))
firsts-append earlier (x ∷ xs) ys =
    by (firsts-append (earlier ++ x ∷ []) xs ys ∙ ap (λ e. firsts (earlier ++ x ∷ []) xs ++ firsts e ys) (append_assoc earlier (x ∷ []) xs)) (has_key earlier x.key)
  where
    by : firsts (earlier ++ x ∷ []) (xs ++ ys) ≡ firsts (earlier ++ x ∷ []) xs ++ firsts (earlier ++ x ∷ xs) ys → (b : Bool)
        → (if b then firsts (earlier ++ x ∷ []) (xs ++ ys) else x ∷ firsts (earlier ++ x ∷ []) (xs ++ ys))
        ≡ (if b then firsts (earlier ++ x ∷ []) xs else x ∷ firsts (earlier ++ x ∷ []) xs) ++ firsts (earlier ++ x ∷ xs) ys
    by rest true = rest
    by rest false = ap (λ l. x ∷ l) rest

-- what the rows before meant, and then what an epoch shows, is what all rows mean
pub meant-append : (old new : List FedRow) → meant old ++ values_in (firsts old new) ≡ meant (old ++ new)
meant-append old new = sym (ap values_in (firsts-append [] old new) ∙ map-append (λ (row : FedRow). row.values) (firsts [] old) (firsts old new))

-- those of a partition are those of its rows
pub firsts_there : (partitions p : ℕ) (earlier rows : List FedRow) → bucket partitions p (firsts earlier rows) ≡ firsts (bucket partitions p earlier) (bucket partitions p rows)
unfolding firsts
firsts_there partitions p earlier [] = refl
firsts_there partitions p earlier (row ∷ rows) =
    by (place_of (keys_of row.key) partitions == p) refl (has_key earlier row.key) refl
    (firsts_there partitions p (earlier ++ row ∷ []) rows ∙ ap (λ e. firsts e (bucket partitions p rows)) (filter-append (λ (row : FedRow). place_of (keys_of row.key) partitions == p) earlier (row ∷ [])))
  where
    by : (b : Bool) → (place_of (keys_of row.key) partitions == p) ≡ b → (h : Bool) → has_key earlier row.key ≡ h
        → bucket partitions p (firsts (earlier ++ row ∷ []) rows) ≡ firsts (bucket partitions p earlier ++ bucket partitions p (row ∷ [])) (bucket partitions p rows)
        → bucket partitions p (if h then firsts (earlier ++ row ∷ []) rows else row ∷ firsts (earlier ++ row ∷ []) rows)
        ≡ firsts (bucket partitions p earlier) (if b then row ∷ bucket partitions p rows else bucket partitions p rows)
    by true here true had rest =
        rest
        ∙ ap (λ b. firsts (bucket partitions p earlier ++ (if b then row ∷ [] else [])) (bucket partitions p rows)) here
        ∙ ap (λ h. if h then firsts (bucket partitions p earlier ++ row ∷ []) (bucket partitions p rows) else row ∷ firsts (bucket partitions p earlier ++ row ∷ []) (bucket partitions p rows))
        (sym (has_in partitions p row.key earlier ∙ (λ i. here i && had i)))
    by true here false had rest =
        ap (λ b. if b then row ∷ bucket partitions p (firsts (earlier ++ row ∷ []) rows) else bucket partitions p (firsts (earlier ++ row ∷ []) rows)) here
        ∙ ap (λ l. row ∷ l) (rest ∙ ap (λ b. firsts (bucket partitions p earlier ++ (if b then row ∷ [] else [])) (bucket partitions p rows)) here)
        ∙ ap (λ h. if h then firsts (bucket partitions p earlier ++ row ∷ []) (bucket partitions p rows) else row ∷ firsts (bucket partitions p earlier ++ row ∷ []) (bucket partitions p rows))
        (sym (has_in partitions p row.key earlier ∙ (λ i. here i && had i)))
    by false here true had rest =
        rest
        ∙ ap (λ b. firsts (bucket partitions p earlier ++ (if b then row ∷ [] else [])) (bucket partitions p rows)) here
        ∙ ap (λ e. firsts e (bucket partitions p rows)) (append-nil (bucket partitions p earlier))
    by false here false had rest =
        ap (λ b. if b then row ∷ bucket partitions p (firsts (earlier ++ row ∷ []) rows) else bucket partitions p (firsts (earlier ++ row ∷ []) rows)) here
        ∙ rest
        ∙ ap (λ b. firsts (bucket partitions p earlier ++ (if b then row ∷ [] else [])) (bucket partitions p rows)) here
        ∙ ap (λ e. firsts e (bucket partitions p rows)) (append-nil (bucket partitions p earlier))

each_there : (partitions : ℕ) (old new : List FedRow) (ps : List ℕ)
    → flat_map (λ p. values_in (firsts (bucket partitions p old) (bucket partitions p new))) ps ≡ flat_map (λ p. values_in (bucket partitions p (firsts old new))) ps
each_there partitions old new [] = refl
each_there partitions old new (p ∷ ps) = λ i. values_in (sym (firsts_there partitions p old new) i) ++ each_there partitions old new ps i

-- what the partitions show together is what all rows show
pub repeats_parted : (partitions : ℕ) → 1 ≤ partitions → (query : Bound) (columns : List ℕ) (old new : List FedRow) (before now : Option ℤ)
    → IsPermutation (flat_map (λ p. (dedup query columns).added (bucket partitions p old) (bucket partitions p new) before now) (range_with_len 0 partitions)) ((dedup query columns).added old new before now)
repeats_parted partitions some query columns old new before now =
    subst (λ (shown : List Values). IsPermutation shown (values_in (firsts old new))) (sym (each_there partitions old new (range_with_len 0 partitions))) (shown_together partitions some (firsts old new))
