-- What is made for an epoch before its plan is published.
use Rattle.std.specs.Prelude.{◌≡◌, ◌≤◌, ◌<◌, ℕ, ℤ, List, [], ◌∷◌, length, get_or, All, Option, None, IsSomeAnd, vec_capacity}
use Rattle.ssq_plans.specs.declared.part.PartEnd.{PartEnd}
use Rattle.ssq_desk.specs.declared.desk.PartLog.{PartLog}
use Rattle.ssq_desk.specs.declared.desk.Share.{Share}
use Rattle.ssq_desk.specs.declared.room.Room.{Room}

-- a partition has room for one bucket from each part, and neither one yet nor a file aside
pub record IsFresh {S : Type 0} (parts : ℕ) (share : Share S) : Type 0 where
  pub none : share.buckets.items ≡ []
  pub room : parts ≤ vec_capacity share.buckets
  pub no_stage : share.stage ≡ None
  pub no_key : share.key ≡ None

-- a partition got a file aside that is empty, and all else of it is as it was
pub record IsStaged {S : Type 0} (tells : Type 0) (written : S → List ℕ) (old new : Share S) : Type 0 where
  pub buckets_are : new.buckets ≡ old.buckets
  pub rows_are : new.rows ≡ old.rows
  pub key_is : new.key ≡ old.key
  pub stage : IsSomeAnd new.stage (λ stage. tells → written stage ≡ [])

module _ {A S : Type 0} (tells : Type 0) (written : S → List ℕ) where
  -- each partition that has one of the first list got a file aside, and the others are as they were
  abbrev pub AreStaged : List A → List (Share S) → List (Share S) → Type 0
  AreStaged [] olds news = news ≡ olds
  AreStaged (own ∷ held) [] news = news ≡ []
  AreStaged (own ∷ held) (old ∷ olds) [] = ⊥
  AreStaged (own ∷ held) (old ∷ olds) (new ∷ news) = IsStaged tells written old new × AreStaged held olds news

-- there is room for so many parts and partitions, with these greatest times
pub record HasRoom {S : Type 0} (partitions parts : ℕ) (times : List (Option ℤ)) (room : Room S) : Type 0 where
  pub no_ends : room.ends.items ≡ []
  pub ends_room : parts ≤ vec_capacity room.ends
  pub count : length room.shares.items ≡ partitions
  pub fresh : All (IsFresh parts) room.shares.items
  pub no_rows : room.rows.items ≡ []
  pub rows_room : partitions ≤ vec_capacity room.rows
  pub times_are : room.seen ≡ times

-- a part begins at this offset, nothing was brought of it yet, and all else of it is as it was
pub record IsBegun {L : Type 0} (offset : ℕ) (old new : PartLog L) : Type 0 where
  pub from_is : new.from ≡ offset
  pub nothing : new.fed ≡ None
  pub stream_is : new.stream ≡ old.stream
  pub part_is : new.part ≡ old.part
  pub log_is : new.log ≡ old.log

-- it begins at the end of the part at this place
abbrev pub BeginsAt : {L : Type 0} → List PartEnd → ℕ → PartLog L → PartLog L → Type 0
BeginsAt ends i old new = (end : PartEnd) → IsBegun (get_or ends i end).end old new

-- each begins at the end of its part
abbrev pub AreBegun : {L : Type 0} → List PartEnd → List (PartLog L) → List (PartLog L) → Type 0
AreBegun {L} ends olds news = (length news ≡ length olds) × ((i : ℕ) (part_log : PartLog L) → i < length olds → BeginsAt ends i (get_or olds i part_log) (get_or news i part_log))
