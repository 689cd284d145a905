-- The newest snapshot in a list, and what is due by it.
use Rattle.std.proofs.Common.{◌≡◌, ◌<◌, ◌≤◌, ◌+◌, ◌%◌, ◌==◌, ◌&&◌, ◌∙◌, ℕ, Bool, true, false, List, [], length, get_or, replicate, Option, Some, None, refl, sym, subst, inl, inr, arith, rules, true≢false}
use Rattle.std.specs.Prelude.{MatchOption, nat_lt, if◌then◌else◌}
use Rattle.std.proofs.lemmas.Bool.{cases_eq, cases_lt}
use Rattle.std.proofs.lemmas.Bool.Decides.{nat_tests}
use Rattle.std.proofs.lemmas.List.{get_or-replicate, get_or-set_other, get_or-set_same, length-replicate, length-set}
use Rattle.std.proofs.Math.ListN.{set}
use Rattle.ssq_outside.specs.declared.name.Name.{Name}
use Rattle.ssq_outside.specs.declared.name.Name.TheVariants as name
use Rattle.ssq_outside.specs.Files.{same_name}
use Rattle.ssq_upkeep.specs.Upkeep.{is_among, is_up_to, IsDue, IsNext}
use Rattle.ssq_upkeep.specs.Steps.{AreFloors, AreNewest, IsNewest, HasNone, later, IsFloor, HasNoFloor, IsBare, IsFirstBare}
use Rattle.ssq_upkeep.proofs.Among.{Grows, same_among, still_among, new_among, old_or_new, snapshot_is, version_is}

-- what was found among the names so far
abbrev pub IsFound : List Name → ℕ → ℕ → Option ℕ → Type 0
IsFound names p highest found = MatchOption found (HasNone names p highest) (IsNewest names p highest)

-- the next name is no snapshot that counts
pub not_counted : (old new : List Name) (n : Name) (p highest : ℕ) (found : Option ℕ) → Grows old new n → ((s : ℕ) → s ≤ highest → same_name n (name.Snapshot p s) ≡ false)
    → IsFound old p highest found → IsFound new p highest found
not_counted old new n p highest None more other is = λ s less. same_among old new n (name.Snapshot p s) more (other s less) ∙ is s less
not_counted old new n p highest (Some f) more other is = record {
  below = is.below;
  there = still_among old new n (name.Snapshot p f) more is.there;
  greatest = λ s less here. is.greatest s less (sym (same_among old new n (name.Snapshot p s) more (other s less)) ∙ here);
}

-- it is one
pub counted : (old new : List Name) (q p v highest : ℕ) (found : Option ℕ) → Grows old new (name.Snapshot q v) → same_name (name.Snapshot q v) (name.Snapshot p v) ≡ true → v ≤ highest
    → IsFound old p highest found → IsNewest new p highest (later found v)
counted old new q p v highest None more this less is = record {
  below = less;
  there = new_among old new (name.Snapshot q v) (name.Snapshot p v) more this;
  greatest = λ s low here. elim (old_or_new old new (name.Snapshot q v) (name.Snapshot p s) more here) [
    | inl before ↦ absurd (true≢false (sym before ∙ is s low))
    | inr same ↦ let one = version_is q p v s same in omega (arith, one)
  ];
}
counted old new q p v highest (Some f) more this less is = by (nat_lt f v) refl
  where
    by : (b : Bool) → nat_lt f v ≡ b → IsNewest new p highest (if b then v else f)
    by true after = record {
      below = less;
      there = new_among old new (name.Snapshot q v) (name.Snapshot p v) more this;
      greatest = λ s low here. elim (old_or_new old new (name.Snapshot q v) (name.Snapshot p s) more here) [
        | inl before ↦ let most = is.greatest s low before in grind (arith, nat_tests)
        | inr same ↦ let one = version_is q p v s same in omega (arith, one)
      ];
    }
    by false not_after = record {
      below = is.below;
      there = still_among old new (name.Snapshot q v) (name.Snapshot p f) more is.there;
      greatest = λ s low here. elim (old_or_new old new (name.Snapshot q v) (name.Snapshot p s) more here) [
        | inl before ↦ is.greatest s low before
        | inr same ↦ let one = version_is q p v s same in grind (arith, nat_tests)
      ];
    }

-- a name of another kind, of another partition, or of a version that is above
other_partition : (p q v s : ℕ) → (q ≡ p → ⊥) → (q == p && v == s) ≡ false
other_partition p q v s other = grind (arith, rules)

pub other_version : (p q v s : ℕ) → s < v → (q == p && v == s) ≡ false
other_version p q v s less = grind (arith, rules)

pub of_another : (p q v s : ℕ) → (q ≡ p → ⊥) → same_name (name.Snapshot q v) (name.Snapshot p s) ≡ false
of_another p q v s other = other_partition p q v s other

pub too_new : (p q v s highest : ℕ) → highest < v → s ≤ highest → same_name (name.Snapshot q v) (name.Snapshot p s) ≡ false
too_new p q v s highest above less = other_version p q v s (omega (arith, above, less))

-- ---- of each of the first partitions

-- the next name is no snapshot that counts
pub not_counted_each : (old new : List Name) (n : Name) (highest : ℕ) (found : List (Option ℕ)) → Grows old new n → ((p s : ℕ) → p < length found → s ≤ highest → same_name n (name.Snapshot p s) ≡ false)
    → AreNewest old highest found → AreNewest new highest found
not_counted_each old new n highest found more other are = λ p within. not_counted old new n p highest (get_or found p None) more (λ s. other p s within) (are p within)

-- it is one
pub counted_each : (old new : List Name) (q v highest : ℕ) (found : List (Option ℕ)) → Grows old new (name.Snapshot q v) → q < length found → v ≤ highest
    → AreNewest old highest found → AreNewest new highest (set found q (Some (later (get_or found q None) v)))
counted_each old new q v highest found more within low are = λ p within'.
    (let here : p < length found = subst (λ n. p < n) (length-set found q (Some (later (get_or found q None) v))) within' in
    elim (cases_eq p q) [
      | inl same ↦ subst (λ n. IsFound new n highest (get_or (set found q (Some (later (get_or found q None) v))) n None)) (sym same)
          (subst (IsFound new q highest) (sym (get_or-set_same found q (Some (later (get_or found q None) v)) None within))
          (counted old new q q v highest (get_or found q None) more (snapshot_is q q v refl) low (are q within)))
      | inr other ↦ subst (IsFound new p highest) (sym (get_or-set_other found q p (Some (later (get_or found q None) v)) None other))
          (not_counted old new (name.Snapshot q v) p highest (get_or found p None) more (λ s less. of_another p q v s (λ is. other (sym is))) (are p here))
    ])

-- of no names there is none
pub newest_of_none : (highest count : ℕ) → AreNewest [] highest (replicate count None)
newest_of_none highest count = λ p within. subst (IsFound [] p highest) (sym (get_or-replicate count p None None (subst (λ n. p < n) (length-replicate count None) within))) (λ s less. refl)

-- ---- what is 20 below the last acknowledged epoch

pub floor_from : (settled : List Name) (p last highest : ℕ) (found : Option ℕ) → highest + 20 ≡ last → IsFound settled p highest found
    → MatchOption found (HasNoFloor settled p last) (IsFloor settled p last)
floor_from settled p last highest None is found = λ s old. found s (omega (arith, is, old))
floor_from settled p last highest (Some f) is found = record {
  old = let below = found.below in omega (arith, is, below);
  there = found.there;
  newest = λ s old here. found.greatest s (omega (arith, is, old)) here;
}

-- before epoch 20 there is none
pub no_floors : (settled : List Name) (last count : ℕ) → (20 ≤ last → ⊥) → AreFloors settled last (replicate count None)
no_floors settled last count early = λ p within.
    subst (λ (f : Option ℕ). MatchOption f (HasNoFloor settled p last) (IsFloor settled p last)) (sym (get_or-replicate count p None None (subst (λ n. p < n) (length-replicate count None) within)))
    (λ v old. absurd (early (omega (arith, old))))

pub up_to : (last e : ℕ) → is_up_to (Some last) e ≡ true → e ≤ last
up_to last e is = grind (arith, nat_tests)

not_up_to : (last e : ℕ) → is_up_to (Some last) e ≡ false → last < e
not_up_to last e is = grind (arith, nat_tests)

pub is_up : (last e : ℕ) → e ≤ last → is_up_to (Some last) e ≡ true
is_up last e less = grind (arith, nat_tests)

not_up : (last e : ℕ) → last < e → is_up_to (Some last) e ≡ false
not_up last e less = grind (arith, nat_tests)

-- from where on versions are looked at: the floor, or else the first
abbrev pub from_of : Option ℕ → ℕ
from_of None = 0
from_of (Some f) = f

-- where a snapshot is due its version is bare, and the other way round
pub bare_from_due : (names settled : List Name) (p last v : ℕ) (floor : Option ℕ) → MatchOption floor (HasNoFloor settled p last) (IsFloor settled p last)
    → IsDue names settled p (Some last) v → IsBare names p (from_of floor) last v
bare_from_due names settled p last v floor found due = record {
  tenth = due.tenth;
  above = above floor found;
  below = up_to last v due.acknowledged;
  absent = due.absent;
}
  where
    above : (floor : Option ℕ) → MatchOption floor (HasNoFloor settled p last) (IsFloor settled p last) → from_of floor ≤ v
    above None found = omega arith
    above (Some f) found = elim (cases_lt v f) [
      | inl under ↦
          let old = found.old in
          absurd (true≢false (sym (is_up last (f + 20) old) ∙ due.stays f under found.there))
      | inr least ↦ least
    ]

pub due_from_bare : (names settled : List Name) (p last v : ℕ) (floor : Option ℕ) → MatchOption floor (HasNoFloor settled p last) (IsFloor settled p last)
    → IsBare names p (from_of floor) last v → IsDue names settled p (Some last) v
due_from_bare names settled p last v floor found bare = record {
  tenth = bare.tenth;
  acknowledged = is_up last v bare.below;
  absent = bare.absent;
  stays = λ s after there. elim (cases_lt last (s + 20)) [
    | inl high ↦ not_up last (s + 20) high
    | inr old ↦ absurd (never floor found bare.above s after old there)
  ];
}
  where
    never : (floor : Option ℕ) → MatchOption floor (HasNoFloor settled p last) (IsFloor settled p last) → from_of floor ≤ v → (s : ℕ) → v < s → s + 20 ≤ last
        → is_among settled (name.Snapshot p s) ≡ true → ⊥
    never None found above s after old there = true≢false (sym there ∙ found s old)
    never (Some f) found above s after old there = let most = found.newest s old there in omega (arith, most, above, after)

-- the first bare version is the next that is due, and where none is bare none is due
pub next_from_bare : (names settled : List Name) (p last : ℕ) (floor found : Option ℕ) → MatchOption floor (HasNoFloor settled p last) (IsFloor settled p last)
    → MatchOption found ((v : ℕ) → IsBare names p (from_of floor) last v → ⊥) (IsFirstBare names p (from_of floor) last)
    → MatchOption found ((v : ℕ) → IsDue names settled p (Some last) v → ⊥) (IsNext names settled p (Some last))
next_from_bare names settled p last floor None below none = λ v due. none v (bare_from_due names settled p last v floor below due)
next_from_bare names settled p last floor (Some v) below is = record {
  due = due_from_bare names settled p last v floor below is.bare;
  first = λ w due. is.first w (bare_from_due names settled p last w floor below due);
}

-- before the first epoch is acknowledged nothing is due
pub none_due : (names settled : List Name) (p v : ℕ) → IsDue names settled p None v → ⊥
none_due names settled p v due = true≢false (sym due.acknowledged)

-- ---- versions one in ten

-- those that are bare lie from this version on
abbrev pub AllFrom : List Name → ℕ → ℕ → ℕ → ℕ → Type 0
AllFrom names p from last version = (v : ℕ) → IsBare names p from last v → version ≤ v

pub first_all : (names : List Name) (p from last version : ℕ) → version % 10 ≡ 9 → version ≤ from + 9 → AllFrom names p from last version
first_all names p from last version tenth near v bare = let above = bare.above in let ninth = bare.tenth in omega (arith, tenth, near, above, ninth)

-- a version with its snapshot is passed by
pub next_all : (names : List Name) (p from last version : ℕ) → version % 10 ≡ 9 → is_among names (name.Snapshot p version) ≡ true → AllFrom names p from last version
    → AllFrom names p from last (version + 10)
next_all names p from last version tenth there all v bare =
    let least = all v bare in
    let ninth = bare.tenth in
    let other : version ≡ v → ⊥ = λ same. true≢false (sym (subst (λ (x : ℕ). is_among names (name.Snapshot p x) ≡ true) same there) ∙ bare.absent) in
    elim (cases_lt version v) [
      | inl more ↦ omega (arith, more, tenth, ninth)
      | inr most ↦ absurd (other (omega (arith, least, most)))
    ]

pub next_tenth : (version : ℕ) → version % 10 ≡ 9 → (version + 10) % 10 ≡ 9
next_tenth version tenth = omega (arith, tenth)
