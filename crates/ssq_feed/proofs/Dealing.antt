-- A bucket holds the rows of its partition.
use Rattle.std.proofs.Common.{◌≡◌, ◌<◌, ◌==◌, [], ◌∷◌, ◌++◌, ℕ, List, Bool, true, false, refl, ap, sym, subst, ◌∙◌, arith, length, map, filter}
use Rattle.std.specs.Prelude.{if◌then◌else◌, ◌%◌}
use Rattle.std.specs.List.{range_with_len}
use Rattle.std.proofs.lemmas.List.{map-append}
use Rattle.std.proofs.lemmas.List.Elements.{All-from_recursion}
use Rattle.std.proofs.lemmas.List.FromFn.{length-map-range_with_len}
use Rattle.ssq_value.specs.Key.{keys_of}
use Rattle.ssq_route.specs.Place.{fnv_1a, place_of}
use Rattle.ssq_route.specs.Buckets.{items_at, buckets_of, bucket_at}
use Rattle.ssq_route.proofs.Filling.{buckets_of-at}
use Rattle.ssq_meaning.specs.FedRows.{FedRow}
use Rattle.ssq_meaning.specs.Epochs.{bucket}
use Rattle.ssq_meaning.specs.Fit.{IsFitRow}
use Rattle.ssq_feed.specs.Dealing.{Deals}
use Rattle.ssq_feed.specs.Rows.{keyed, dealt}

items_are : (partitions p : ℕ) (rows : List FedRow) → items_at partitions (map keyed rows) p ≡ bucket partitions p rows
items_are partitions p [] = refl
items_are partitions p (row ∷ rows) =
    by_test (place_of (keys_of row.key) partitions == p) (filter (λ (entry : List ℕ × FedRow). place_of entry.0 partitions == p) (map keyed rows))
    ∙ ap (λ rest. if place_of (keys_of row.key) partitions == p then row ∷ rest else rest) (items_are partitions p rows)
  where
    by_test : (test : Bool) (rest : List (List ℕ × FedRow))
        → map (λ (entry : List ℕ × FedRow). entry.1) (if test then keyed row ∷ rest else rest)
        ≡ (if test then row ∷ map (λ (entry : List ℕ × FedRow). entry.1) rest else map (λ (entry : List ℕ × FedRow). entry.1) rest)
    by_test true rest = refl
    by_test false rest = refl

pub buckets_are : (partitions p : ℕ) (rows : List FedRow) → p < partitions → bucket_at (dealt partitions rows) p ≡ bucket partitions p rows
buckets_are partitions p rows within = buckets_of-at partitions p (map keyed rows) within ∙ items_are partitions p rows

pub buckets_count : (partitions : ℕ) (rows : List FedRow) → length (dealt partitions rows) ≡ partitions
unfolding buckets_of
buckets_count partitions rows = length-map-range_with_len (items_at partitions (map keyed rows)) 0 partitions

-- ---- one bucket

only_place : (hash : ℕ) → hash % 1 ≡ 0
only_place hash = omega arith

-- where there is one place each key has it
same_place : (one other : List ℕ) (partitions : ℕ) → partitions ≡ 1 → place_of one partitions ≡ place_of other partitions
same_place one other partitions is = subst (λ n. place_of one n ≡ place_of other n) (sym is) (only_place (fnv_1a one) ∙ sym (only_place (fnv_1a other)))

same_items : (partitions : ℕ) (added : List (List ℕ × FedRow)) (one other : List ℕ) (row : FedRow) → partitions ≡ 1 → (at : ℕ)
    → items_at partitions (added ++ (one, row) ∷ []) at ≡ items_at partitions (added ++ (other, row) ∷ []) at
same_items partitions [] one other row is at =
    by_test (place_of one partitions == at)
    ∙ ap (λ (place : ℕ). map (λ (entry : List ℕ × FedRow). entry.1) (if place == at then (other, row) ∷ [] else [])) (same_place one other partitions is)
  where
    by_test : (test : Bool) → map (λ (entry : List ℕ × FedRow). entry.1) (if test then (one, row) ∷ [] else []) ≡ map (λ (entry : List ℕ × FedRow). entry.1) (if test then (other, row) ∷ [] else [])
    by_test true = refl
    by_test false = refl
same_items partitions (first ∷ added) one other row is at =
    by_test (place_of first.0 partitions == at) (filter (λ (entry : List ℕ × FedRow). place_of entry.0 partitions == at) (added ++ (one, row) ∷ []))
    (filter (λ (entry : List ℕ × FedRow). place_of entry.0 partitions == at) (added ++ (other, row) ∷ [])) (same_items partitions added one other row is at)
  where
    by_test : (test : Bool) (these those : List (List ℕ × FedRow)) → map (λ (entry : List ℕ × FedRow). entry.1) these ≡ map (λ (entry : List ℕ × FedRow). entry.1) those
        → map (λ (entry : List ℕ × FedRow). entry.1) (if test then first ∷ these else these) ≡ map (λ (entry : List ℕ × FedRow). entry.1) (if test then first ∷ those else those)
    by_test true these those same = ap (λ (rows : List FedRow). first.1 ∷ rows) same
    by_test false these those same = same

only_bucket : (partitions : ℕ) (added : List (List ℕ × FedRow)) (one other : List ℕ) (row : FedRow) → partitions ≡ 1
    → buckets_of partitions (added ++ (one, row) ∷ []) ≡ buckets_of partitions (added ++ (other, row) ∷ [])
unfolding buckets_of
only_bucket partitions added one other row is = λ i. map (λ at. same_items partitions added one other row is at i) (range_with_len 0 partitions)

-- so a row may be put into the only bucket under any key
pub deals_alone : (old new : List (List FedRow)) (row : FedRow) → length old ≡ 1 → length new ≡ length old → IsFitRow row
    → ((added : List (List ℕ × FedRow)) → old ≡ buckets_of (length old) added → new ≡ buckets_of (length old) (added ++ ([], row) ∷ [])) → Deals old new (row ∷ [])
deals_alone old new row alone len fit all = record {
  len = len;
  behind = λ before is.
      all (map keyed before) is
      ∙ only_bucket (length old) (map keyed before) [] (keys_of row.key) row alone
      ∙ sym (ap (buckets_of (length old)) (map-append keyed before (row ∷ [])));
  fit = All-from_recursion IsFitRow (row ∷ []) (fit, tt);
}
