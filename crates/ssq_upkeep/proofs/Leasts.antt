-- The least name that may go, so far.
use Rattle.std.proofs.Common.{◌≡◌, ◌⊎◌, ◌<◌, ◌≤◌, ◌+◌, ◌++◌, ◌∙◌, ℕ, Bool, true, false, List, Option, Some, None, if◌then◌else◌, refl, sym, subst, inl, inr, arith, true≢false}
use Rattle.std.specs.Prelude.{MatchOption}
use Rattle.std.proofs.lemmas.Bool.{or_left, or_right, or_cases}
use Rattle.ssq_outside.specs.declared.name.Name.{Name}
use Rattle.ssq_outside.specs.declared.name.Name.TheVariants as name
use Rattle.ssq_outside.specs.Files.{name_before}
use Rattle.ssq_outside.proofs.NameOrder.{name_before-trans, name_before-below, name_before-itself}
use Rattle.ssq_outside.proofs.Names.{same_name-true, same_name-same}
use Rattle.ssq_upkeep.specs.Upkeep.{MayGo, is_among, is_up_to, is_sure, is_of, Goes, IsLeast}
use Rattle.ssq_upkeep.specs.Steps.{IsFloor, HasNoFloor, is_less, lesser}
use Rattle.ssq_upkeep.proofs.Among.{Grows, among_both, still_among, new_among, old_or_new}
use Rattle.ssq_upkeep.proofs.Floors.{up_to, is_up}

-- what a settled snapshot lets go
abbrev pub IsLet : List Name → ℕ → ℕ → Name → Type 0
IsLet settled partitions last q = (is_of partitions q ≡ true) × MayGo (is_sure settled (Some last)) q

-- what was found among the names so far
abbrev pub IsSoFar : List Name → List Name → ℕ → ℕ → Option Name → Type 0
IsSoFar names settled partitions last found = MatchOption found ((q : Name) → Goes names settled partitions (Some last) q → ⊥) (IsLeast names settled partitions (Some last))

module _ (old new settled : List Name) (partitions last : ℕ) (n : Name) (more : Grows old new n) where
  -- a name that goes was there, or is the new one
  before_or_new : (q : Name) → Goes new settled partitions (Some last) q → Goes old settled partitions (Some last) q ⊎ (n ≡ q)
  before_or_new q goes = elim (old_or_new old new n q more goes.there) [
    | inl before ↦ inl (record { there = before; of = goes.of; may = goes.may })
    | inr same ↦ inr (same_name-true n q same)
  ]

  still_goes : (q : Name) → Goes old settled partitions (Some last) q → Goes new settled partitions (Some last) q
  still_goes q goes = record { there = still_among old new n q more goes.there; of = goes.of; may = goes.may }

  -- the new one goes, and comes before the least so far
  pub taken : (found : Option Name) → IsSoFar old settled partitions last found → is_less n found ≡ true → IsLet settled partitions last n → IsLeast new settled partitions (Some last) n
  taken found is less let_go = record {
    goes = record { there = new_among old new n n more (same_name-same n); of = let_go.0; may = let_go.1 };
    least = λ q goes. elim (before_or_new q goes) [
      | inl before ↦ below found is less q before
      | inr same ↦ subst (λ (x : Name). name_before x n ≡ false) same (name_before-itself n)
    ];
  }
    where
      below : (found : Option Name) → IsSoFar old settled partitions last found → is_less n found ≡ true → (q : Name) → Goes old settled partitions (Some last) q → name_before q n ≡ false
      below None none less q goes = absurd (none q goes)
      below (Some least) is less q goes = by (name_before q n) refl
        where
          by : (b : Bool) → name_before q n ≡ b → b ≡ false
          by false h = refl
          by true h = absurd (true≢false (sym (name_before-trans q n least h less) ∙ is.least q goes))

  -- it does not
  pub left_there : (found : Option Name) → IsSoFar old settled partitions last found → (IsLet settled partitions last n → ⊥) → IsSoFar new settled partitions last found
  left_there None none stays = λ q goes. elim (before_or_new q goes) [
    | inl before ↦ none q before
    | inr same ↦ let own = subst (λ (x : Name). Goes new settled partitions (Some last) x) (sym same) goes in stays (own.of, own.may)
  ]
  left_there (Some least) is stays = record {
    goes = still_goes least is.goes;
    least = λ q goes. elim (before_or_new q goes) [
      | inl before ↦ is.least q before
      | inr same ↦ let own = subst (λ (x : Name). Goes new settled partitions (Some last) x) (sym same) goes in absurd (stays (own.of, own.may))
    ];
  }

  -- it does not come before the least
  pub passed : (found : Option Name) → IsSoFar old settled partitions last found → is_less n found ≡ false → IsSoFar new settled partitions last found
  passed None none later = absurd (true≢false later)
  passed (Some least) is later = record {
    goes = still_goes least is.goes;
    least = λ q goes. elim (before_or_new q goes) [
      | inl before ↦ is.least q before
      | inr same ↦ subst (λ (x : Name). name_before x least ≡ false) same later
    ];
  }

-- ---- of two lists, one after the other

module _ (one other settled : List Name) (partitions last : ℕ) where
  in_either : (q : Name) → Goes (one ++ other) settled partitions (Some last) q → Goes one settled partitions (Some last) q ⊎ Goes other settled partitions (Some last) q
  in_either q goes = elim (or_cases (is_among one q) (is_among other q) (sym (among_both one other q) ∙ goes.there)) [
    | inl there ↦ inl (record { there = there; of = goes.of; may = goes.may })
    | inr there ↦ inr (record { there = there; of = goes.of; may = goes.may })
  ]

  first_goes : (q : Name) → Goes one settled partitions (Some last) q → Goes (one ++ other) settled partitions (Some last) q
  first_goes q goes = record { there = among_both one other q ∙ or_left (is_among one q) (is_among other q) goes.there; of = goes.of; may = goes.may }

  second_goes : (q : Name) → Goes other settled partitions (Some last) q → Goes (one ++ other) settled partitions (Some last) q
  second_goes q goes = record { there = among_both one other q ∙ or_right (is_among one q) (is_among other q) goes.there; of = goes.of; may = goes.may }

  -- none comes before a name that comes before none
  not_before : (q m n : Name) → name_before q m ≡ false → (name_before q n ≡ true → name_before q m ≡ true) → name_before q n ≡ false
  not_before q m n none to = by (name_before q n) refl
    where
      by : (b : Bool) → name_before q n ≡ b → b ≡ false
      by false h = refl
      by true h = absurd (true≢false (sym (to h) ∙ none))

  pub lesser_is : (a b : Option Name) → IsSoFar one settled partitions last a → IsSoFar other settled partitions last b → IsSoFar (one ++ other) settled partitions last (lesser a b)
  lesser_is None None none more = λ q goes. elim (in_either q goes) [ inl here ↦ none q here | inr there ↦ more q there ]
  lesser_is None (Some n) none is = record { goes = second_goes n is.goes; least = λ q goes. elim (in_either q goes) [ inl here ↦ absurd (none q here) | inr there ↦ is.least q there ] }
  lesser_is (Some m) None is none = record { goes = first_goes m is.goes; least = λ q goes. elim (in_either q goes) [ inl here ↦ is.least q here | inr there ↦ absurd (none q there) ] }
  lesser_is (Some m) (Some n) is also = by (name_before m n) refl
    where
      by : (c : Bool) → name_before m n ≡ c → IsSoFar (one ++ other) settled partitions last (if c then Some m else Some n)
      by true less = record {
        goes = first_goes m is.goes;
        least = λ q goes. elim (in_either q goes) [
          | inl here ↦ is.least q here
          | inr there ↦ not_before q n m (also.least q there) (λ before. name_before-trans q m n before less)
        ];
      }
      by false later = record {
        goes = second_goes n also.goes;
        least = λ q goes. elim (in_either q goes) [
          | inl here ↦ not_before q m n (is.least q here) (λ before. name_before-below q m n later before)
          | inr there ↦ also.least q there
        ];
      }

-- before the first epoch is acknowledged nothing may go
pub none_goes : (names settled : List Name) (partitions : ℕ) (q : Name) → Goes names settled partitions None q → ⊥
none_goes names settled partitions q goes = true≢false (sym goes.may.acknowledged)

-- ---- by the floor of a partition

pub delta_goes : (settled : List Name) (p last v f : ℕ) → IsFloor settled p last f → v ≤ f → MayGo (is_sure settled (Some last)) (name.Delta p v)
delta_goes settled p last v f floor below = record {
  p = p;
  s = f;
  v = v;
  snapshot = floor.there;
  acknowledged = is_up last (f + 20) floor.old;
  is = inl (refl, below);
}

pub snapshot_goes : (settled : List Name) (p last v f : ℕ) → IsFloor settled p last f → v < f → MayGo (is_sure settled (Some last)) (name.Snapshot p v)
snapshot_goes settled p last v f floor below = record {
  p = p;
  s = f;
  v = v;
  snapshot = floor.there;
  acknowledged = is_up last (f + 20) floor.old;
  is = inr (refl, below);
}

-- the numbers of names that are the same
delta_numbers : (p v q w : ℕ) → name.Delta p v ≡ name.Delta q w → (p ≡ q) × (v ≡ w)
delta_numbers p v q w is = (cc, cc)

pub snapshot_numbers : (p v q w : ℕ) → name.Snapshot p v ≡ name.Snapshot q w → (p ≡ q) × (v ≡ w)
snapshot_numbers p v q w is = (cc, cc)

pub apart : (p v q w : ℕ) → name.Delta p v ≡ name.Snapshot q w → ⊥
apart p v q w is = cc

-- the snapshot that lets a name go is of its partition, and old
old_enough : (settled : List Name) (p q last s : ℕ) → p ≡ q → is_among settled (name.Snapshot q s) ≡ true → is_up_to (Some last) (s + 20) ≡ true → (s + 20 ≤ last) × (is_among settled (name.Snapshot p s) ≡ true)
old_enough settled p q last s same there acknowledged = (up_to last (s + 20) acknowledged, subst (λ (x : ℕ). is_among settled (name.Snapshot x s) ≡ true) (sym same) there)

-- what goes lies at the floor or below it
pub delta_below : (settled : List Name) (p last v : ℕ) → MayGo (is_sure settled (Some last)) (name.Delta p v)
    → (s : ℕ) × (v ≤ s) × (s + 20 ≤ last) × (is_among settled (name.Snapshot p s) ≡ true)
delta_below settled p last v may = elim may.is [
  | inl x ↦
      let same = delta_numbers p v may.p may.v x.0 in
      let old = old_enough settled p may.p last may.s same.0 may.snapshot may.acknowledged in
      (may.s, subst (λ n. n ≤ may.s) (sym same.1) x.1, old.0, old.1)
  | inr x ↦ absurd (apart p v may.p may.v x.0)
]

pub snapshot_below : (settled : List Name) (p last v : ℕ) → MayGo (is_sure settled (Some last)) (name.Snapshot p v)
    → (s : ℕ) × (v < s) × (s + 20 ≤ last) × (is_among settled (name.Snapshot p s) ≡ true)
snapshot_below settled p last v may = elim may.is [
  | inl x ↦ absurd (apart may.p may.v p v (sym x.0))
  | inr x ↦
      let same = snapshot_numbers p v may.p may.v x.0 in
      let old = old_enough settled p may.p last may.s same.0 may.snapshot may.acknowledged in
      (may.s, subst (λ n. n < may.s) (sym same.1) x.1, old.0, old.1)
]

-- without a floor nothing of the partition goes, nor above it
pub delta_stays : (settled : List Name) (p last v : ℕ) → HasNoFloor settled p last → MayGo (is_sure settled (Some last)) (name.Delta p v) → ⊥
delta_stays settled p last v none may = let at = delta_below settled p last v may in true≢false (sym at.3 ∙ none at.0 at.2)

pub snapshot_stays : (settled : List Name) (p last v : ℕ) → HasNoFloor settled p last → MayGo (is_sure settled (Some last)) (name.Snapshot p v) → ⊥
snapshot_stays settled p last v none may = let at = snapshot_below settled p last v may in true≢false (sym at.3 ∙ none at.0 at.2)

pub delta_at : (settled : List Name) (p last v f : ℕ) → IsFloor settled p last f → MayGo (is_sure settled (Some last)) (name.Delta p v) → v ≤ f
delta_at settled p last v f floor may =
    let at = delta_below settled p last v may in
    let low = at.1 in
    let most = floor.newest at.0 at.2 at.3 in
    omega (arith, low, most)

pub snapshot_at : (settled : List Name) (p last v f : ℕ) → IsFloor settled p last f → MayGo (is_sure settled (Some last)) (name.Snapshot p v) → v < f
snapshot_at settled p last v f floor may =
    let at = snapshot_below settled p last v may in
    let low = at.1 in
    let most = floor.newest at.0 at.2 at.3 in
    omega (arith, low, most)
