-- What a phase does at each place.
use Rattle.std.specs.Prelude.{◌≡◌, ◌<◌, ◌≤◌, ℕ, List, length, slice_index_or}
use Rattle.ssq_crew.specs.declared.place.Place.{Place}
use Rattle.ssq_crew.specs.declared.place.Place.TheVariants.{Waits, Done, Empty}

module _ {T D : Type 0} (is_result : T → D → Type 0) where
  -- The task that waited at a place was done, and its result lies there: that of the task as it was given. Another place stays as it was.
  abbrev pub IsRun : Place T D → Place T D → Type 0
  IsRun (Waits task) place = (done : D) × (place ≡ Done done) × is_result task done
  IsRun (Done done) place = place ≡ Done done
  IsRun Empty place = place ≡ Empty

  -- there are as many places, and so it is at each
  abbrev pub AreRun : List (Place T D) → List (Place T D) → Type 0
  AreRun olds news = (length news ≡ length olds) × ((i : ℕ) (d : Place T D) → i < length olds → IsRun (slice_index_or olds i d) (slice_index_or news i d))

  -- so it is at each of the first n places, and the others are as they were
  pub record AreRunTo (olds news : List (Place T D)) (n : ℕ) : Type 0 where
    pub run : (i : ℕ) (d : Place T D) → i < n → IsRun (slice_index_or olds i d) (slice_index_or news i d)
    pub rest : (i : ℕ) (d : Place T D) → n ≤ i → slice_index_or news i d ≡ slice_index_or olds i d
