-- Items apart by the places of their keys.
use Rattle.std.specs.Prelude.{ℕ, ◌==◌, List, [], map, filter, slice_index_or}
use Rattle.std.specs.List.{range_with_len}
use Rattle.ssq_route.specs.Place.{place_of}

-- the items whose key has this place, of so many, in the order in which they were added
abbrev pub items_at : {T : Type 0} → ℕ → List (List ℕ × T) → ℕ → List T
items_at partitions added at = map (λ entry. entry.1) (filter (λ entry. place_of entry.0 partitions == at) added)

-- a bucket for each place: each holds exactly the items of its place, none lost and none doubled
unfoldable pub buckets_of : {T : Type 0} → ℕ → List (List ℕ × T) → List (List T)
buckets_of partitions added = map (items_at partitions added) (range_with_len 0 partitions)

-- the bucket of a place
abbrev pub bucket_at : {T : Type 0} → List (List T) → ℕ → List T
bucket_at buckets at = slice_index_or buckets at []
