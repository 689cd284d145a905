-- How many snapshots are lacking: fewer with each that is made; and how many files there are: fewer with each that is removed.
use Rattle.std.proofs.Common.{◌≡◌, ◌<◌, ◌≤◌, ◌||◌, not, ℕ, zero, suc, Bool, true, false, true≢false, List, [], ◌∷◌, length, if◌then◌else◌, sym, refl, subst, inl, inr, arith}
use Rattle.std.proofs.lemmas.Bool.{cases_lt}
use Rattle.ssq_outside.specs.declared.name.Name.{Name}
use Rattle.ssq_outside.specs.declared.name.Name.TheVariants as name
use Rattle.ssq_outside.specs.Files.{same_name}
use Rattle.ssq_upkeep.specs.Upkeep.{is_among}
use Rattle.ssq_board.specs.Rounds.{one_if}
use Rattle.ssq_board.specs.Shelf.{without}
use Rattle.ssq_ledger.proofs.Shelves.{without_most}
use Rattle.ssq_drive.specs.Driven.{lacking, lacking_in}

-- what is among names is among more
abbrev pub Holds : (names more : List Name) → Type 0
Holds names more = (q : Name) → is_among names q ≡ true → is_among more q ≡ true

one_less : (a b : Bool) → (a ≡ true → b ≡ true) → one_if (not b) ≤ one_if (not a)
one_less true true so = omega arith
one_less true false so = absurd (true≢false (sym (so refl)))
one_less false true so = omega arith
one_less false false so = omega arith

one_there : (a b : Bool) → a ≡ false → b ≡ true → one_if (not b) < one_if (not a)
one_there true b none is = absurd (true≢false none)
one_there false true none is = omega arith
one_there false false none is = absurd (true≢false (sym is))

no_more : (names more : List Name) (p n : ℕ) → Holds names more → lacking more p n ≤ lacking names p n
unfolding lacking
no_more names more p zero holds = omega arith
no_more names more p (suc n) holds =
    let one = one_less (is_among names (name.Snapshot p n)) (is_among more (name.Snapshot p n)) (holds (name.Snapshot p n)) in
    let rest = no_more names more p n holds in
    omega (arith, one, rest)

one_made : (names more : List Name) (p v n : ℕ) → Holds names more → v < n → is_among names (name.Snapshot p v) ≡ false → is_among more (name.Snapshot p v) ≡ true → lacking more p n < lacking names p n
unfolding lacking
one_made names more p v zero holds less none there = absurd (omega (arith, less))
one_made names more p v (suc n) holds less none there = elim (cases_lt v n) [
  | inl early ↦ (
      let one = one_less (is_among names (name.Snapshot p n)) (is_among more (name.Snapshot p n)) (holds (name.Snapshot p n)) in
      let rest = one_made names more p v n holds early none there in
      omega (arith, one, rest)
      )
  | inr late ↦ (
      let same : v ≡ n = omega (arith, less, late) in
      let one = one_there (is_among names (name.Snapshot p n)) (is_among more (name.Snapshot p n)) (subst (λ (x : ℕ). is_among names (name.Snapshot p x) ≡ false) same none)
      (subst (λ (x : ℕ). is_among more (name.Snapshot p x) ≡ true) same there) in
      let rest = no_more names more p n holds in
      omega (arith, one, rest)
      )
]

none_more_in : (names more : List Name) (partitions n : ℕ) → Holds names more → lacking_in more partitions n ≤ lacking_in names partitions n
unfolding lacking_in
none_more_in names more zero n holds = omega arith
none_more_in names more (suc p) n holds = (let one = no_more names more p n holds in let rest = none_more_in names more p n holds in omega (arith, one, rest))

-- one that was made is lacking no more
pub one_made_in : (names more : List Name) (partitions n p v : ℕ) → Holds names more → p < partitions → v < n → is_among names (name.Snapshot p v) ≡ false → is_among more (name.Snapshot p v) ≡ true
    → lacking_in more partitions n < lacking_in names partitions n
unfolding lacking_in
one_made_in names more zero n p v holds of less none there = absurd (omega (arith, of))
one_made_in names more (suc i) n p v holds of less none there = elim (cases_lt p i) [
  | inl early ↦ (let one = no_more names more i n holds in let rest = one_made_in names more i n p v holds early less none there in omega (arith, one, rest))
  | inr late ↦ (
      let same : p ≡ i = omega (arith, of, late) in
      let one = one_made names more i v n holds less (subst (λ (x : ℕ). is_among names (name.Snapshot x v) ≡ false) same none) (subst (λ (x : ℕ). is_among more (name.Snapshot x v) ≡ true) same there) in
      let rest = none_more_in names more i n holds in
      omega (arith, one, rest)
      )
]

-- ---- names without one

pub one_gone : (q : Name) (names : List Name) → is_among names q ≡ true → length (without q names) < length names
one_gone q [] there = absurd (true≢false (sym there))
one_gone q (n ∷ ns) there = by (same_name n q) there (without_most q ns) (one_gone q ns)
  where
    by : (b : Bool) → (b || is_among ns q) ≡ true → length (without q ns) ≤ length ns → (is_among ns q ≡ true → length (without q ns) < length ns) → length (if not b then n ∷ without q ns else without q ns) < length (n ∷ ns)
    by true there le rest = omega (arith, le)
    by false there le rest = (let less = rest there in omega (arith, less))
