-- Lists of names.
use Rattle.std.proofs.Common.{◌≡◌, ◌∷◌, [], ◌<◌, ℕ, List, Bool, true, false, zero, suc, length, get_or, refl, sym, arith}
use Rattle.std.specs.Prelude.{if◌then◌else◌, is_some, Contains}
use Rattle.ssq_outside.specs.declared.name.Name.{Name}
use Rattle.ssq_outside.specs.Files.{same_name, AreNames, Files}
use Rattle.ssq_outside.proofs.Names.{same_name-true, same_name-same}
use Rattle.ssq_fakes.specs.declared.record.Event.{Event}
use Rattle.ssq_fakes.specs.Records.{content_in}
use Rattle.ssq_fakes.specs.Names.{Lists}
use Rattle.ssq_fakes.specs.Disks.{has_name}

contains_by : (b : Bool) (m q : Name) (ms : List Name) → same_name q m ≡ b → (if b then true else has_name ms q) ≡ true → (has_name ms q ≡ true → Contains ms q) → Contains (m ∷ ms) q
contains_by true m q ms same has later = (0, omega arith, sym (same_name-true q m same))
contains_by false m q ms other has later = let found = later has in (suc found.0, omega (arith, found.1), found.2)

-- an element is among them
pub Contains-has_name : (names : List Name) (q : Name) → has_name names q ≡ true → Contains names q
Contains-has_name [] q has = cc
Contains-has_name (m ∷ ms) q has = contains_by (same_name q m) m q ms refl has (Contains-has_name ms q)

-- and the other way round
pub has_name-Contains : (names : List Name) (q : Name) (k : ℕ) → k < length names → get_or names k q ≡ q → has_name names q ≡ true
has_name-Contains [] q k below is = absurd (omega (arith, below))
has_name-Contains (name ∷ names) q zero below is = let same : same_name q name ≡ true = rw is (same_name-same q) in rw same refl
has_name-Contains (name ∷ names) q (suc k) below is = later (same_name q name) (has_name-Contains names q k (omega (arith, below)) is)
  where
    later : (b : Bool) → has_name names q ≡ true → (if b then true else has_name names q) ≡ true
    later true has = refl
    later false has = has

-- the names with a file, by what stands at each
pub are_names : (files : Files) (events : List Event) (names : List Name) → ((q : Name) → files q ≡ content_in events q) → Lists (λ q. is_some (content_in events q)) names → AreNames files names
are_names files events names files_are found = record {
  there = λ q among. rw (files_are q) (found.there q among);
  all = λ q there. found.all q (rw (files_are q) at there);
  in_order = found.in_order;
}
