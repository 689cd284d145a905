-- What is due, and what is not, after names came and names went.
use Rattle.std.proofs.Common.{◌≡◌, ◌<◌, ◌≤◌, ◌+◌, ◌%◌, ◌==◌, ◌&&◌, ◌∙◌, not, ℕ, zero, suc, Bool, true, false, List, Option, refl, ap, sym, subst, inl, inr, arith, rules, true≢false}
use Rattle.std.specs.Prelude.{nat_lt, if◌then◌else◌}
use Rattle.std.proofs.lemmas.Bool.{false_from_ne_true}
use Rattle.std.proofs.lemmas.Bool.Decides.{nat_tests}
use Rattle.ssq_outside.specs.declared.name.Name.{Name}
use Rattle.ssq_outside.specs.declared.name.Name.TheVariants as name
use Rattle.ssq_outside.specs.Files.{same_name}
use Rattle.ssq_upkeep.specs.Upkeep.{is_among, IsDue, IsNext, Goes}
use Rattle.ssq_upkeep.proofs.Among.{version_is}
use Rattle.ssq_upkeep.proofs.Floors.{other_version}

-- each of these names is among those
abbrev pub AreIn : List Name → List Name → Type 0
AreIn names more = (q : Name) → is_among names q ≡ true → is_among more q ≡ true

absent_by : (a b : Bool) → (a ≡ true → b ≡ true) → b ≡ false → a ≡ false
absent_by true b is absent = absurd (true≢false (sym (is refl) ∙ absent))
absent_by false b is absent = refl

-- Where names came, settled ones perhaps too, nothing is due that was not due before.
pub due_before : (names more settled sure : List Name) (p : ℕ) (last : Option ℕ) (v : ℕ) → AreIn names more → AreIn settled sure → IsDue more sure p last v → IsDue names settled p last v
due_before names more settled sure p last v are kept due = record {
  tenth = due.tenth;
  acknowledged = due.acknowledged;
  absent = absent_by (is_among names (name.Snapshot p v)) (is_among more (name.Snapshot p v)) (are (name.Snapshot p v)) due.absent;
  stays = λ s above is. due.stays s above (kept (name.Snapshot p s) is);
}

less_by : (v w : ℕ) → v ≤ w → (v ≡ w → ⊥) → v < w
less_by v w low other = by (nat_lt v w) refl
  where
    by : (b : Bool) → nat_lt v w ≡ b → v < w
    by true is = grind (arith, nat_tests)
    by false is = absurd (other (grind (arith, nat_tests)))

-- Once the snapshot that was due next is among the names, the next of its partition that is due is a later one.
pub next_is_later : (names more settled : List Name) (p : ℕ) (last : Option ℕ) (v w : ℕ) → IsNext names settled p last v → AreIn names more → is_among more (name.Snapshot p v) ≡ true → IsDue more settled p last w → v < w
next_is_later names more settled p last v w next are made due =
    less_by v w (next.first w (due_before names more settled settled p last w are (λ q is. is) due)) (λ same. true≢false (sym made ∙ ap (λ n. is_among more (name.Snapshot p n)) same ∙ due.absent))

-- One name is left out, and all others stay.
pub record LeavesOut (q : Name) (names left : List Name) : Type 0 where
  pub fewer : AreIn left names
  pub others : (other : Name) → same_name other q ≡ false → is_among names other ≡ true → is_among left other ≡ true

partitions_are : (p q v w : ℕ) → (p == q && v == w) ≡ true → p ≡ q
partitions_are p q v w is = grind (arith, rules)

-- a snapshot is due after a name went, and that name is none of its partition from its version on
due_beside : (names left settled kept : List Name) (p : ℕ) (last : Option ℕ) (q : Name) (v : ℕ) → LeavesOut q names left → LeavesOut q settled kept → IsDue left kept p last v
    → ((n : ℕ) → v ≤ n → same_name (name.Snapshot p n) q ≡ true → ⊥) → IsDue names settled p last v
due_beside names left settled kept p last q v less fewer due other = record {
  tenth = due.tenth;
  acknowledged = due.acknowledged;
  absent = absent_by (is_among names (name.Snapshot p v)) (is_among left (name.Snapshot p v)) (less.others (name.Snapshot p v) (false_from_ne_true (same_name (name.Snapshot p v) q) (other v (omega arith)))) due.absent;
  stays = λ s above is. due.stays s above (fewer.others (name.Snapshot p s) (false_from_ne_true (same_name (name.Snapshot p s) q) (other s (omega (arith, above)))) is);
}

-- Where a file went that may go, nothing is due that was not due before.
pub due_before_drop : (names left settled kept : List Name) (partitions p : ℕ) (last : Option ℕ) (q : Name) (v : ℕ) → Goes names settled partitions last q → LeavesOut q names left → LeavesOut q settled kept
    → IsDue left kept p last v → IsDue names settled p last v
due_before_drop names left settled kept partitions p last q v goes less fewer due =
    let may = goes.may in
    due_beside names left settled kept p last q v less fewer due (elim may.is [
      | inl delta ↦ λ n low is. true≢false (sym is ∙ ap (λ (x : Name). same_name (name.Snapshot p n) x) delta.0)
      | inr snapshot ↦ λ n low is.
          (let here : same_name (name.Snapshot p n) (name.Snapshot may.p may.v) ≡ true = sym (ap (λ (x : Name). same_name (name.Snapshot p n) x) snapshot.0) ∙ is in
          let one = version_is p may.p n may.v here in
          let of = sym (partitions_are p may.p n may.v here) in
          let below = snapshot.1 in
          let away : same_name (name.Snapshot may.p may.s) q ≡ false = ap (λ (x : Name). same_name (name.Snapshot may.p may.s) x) snapshot.0 ∙ other_version may.p may.p may.s may.v below in
          let there = subst (λ k. is_among kept (name.Snapshot k may.s) ≡ true) of (fewer.others (name.Snapshot may.p may.s) away may.snapshot) in
          true≢false (sym may.acknowledged ∙ due.stays may.s (omega (arith, low, one, below)) there))
    ])

-- ---- how much is to be made

-- one, where the version is one in ten and its snapshot is not among the names
abbrev pub lacks : Bool → Bool → ℕ
lacks tenth there = if tenth && not there then 1 else 0

-- How many of the first so many versions of a partition lack their snapshot: by that number it is known how many can still be due.
unfoldable pub lacking : List Name → (p count : ℕ) → ℕ
lacking names p zero = 0
lacking names p (suc v) = lacking names p v + lacks (v % 10 == 9) (is_among names (name.Snapshot p v))

unfoldable pub lacking_in : List Name → (partitions count : ℕ) → ℕ
lacking_in names zero count = 0
lacking_in names (suc p) count = lacking_in names p count + lacking names p count

lacks_less : (t a b : Bool) → (a ≡ true → b ≡ true) → lacks t b ≤ lacks t a
lacks_less true true b is = subst (λ (x : Bool). lacks true x ≤ lacks true true) (sym (is refl)) (omega arith)
lacks_less true false true is = omega arith
lacks_less true false false is = omega arith
lacks_less false a b is = omega arith

tenth_is : (v : ℕ) → v % 10 ≡ 9 → (v % 10 == 9) ≡ true
tenth_is v is = ap (λ n. n == 9) is

lacks_one : (t a b : Bool) → t ≡ true → a ≡ false → b ≡ true → lacks t b + 1 ≤ lacks t a
lacks_one true false true tenth absent made = omega arith
lacks_one true false false tenth absent made = absurd (true≢false (sym made))
lacks_one true true b tenth absent made = absurd (true≢false absent)
lacks_one false a b tenth absent made = absurd (true≢false (sym tenth))

-- where names came no more lack theirs
pub lacking_less : (names more : List Name) (p count : ℕ) → AreIn names more → lacking more p count ≤ lacking names p count
unfolding lacking
lacking_less names more p zero are = omega arith
lacking_less names more p (suc v) are = omega (arith, lacking_less names more p v are, lacks_less (v % 10 == 9) (is_among names (name.Snapshot p v)) (is_among more (name.Snapshot p v)) (are (name.Snapshot p v)))

-- and one fewer does where one came that lacked
pub lacking_falls : (names more : List Name) (p v count : ℕ) → AreIn names more → v < count → v % 10 ≡ 9 → is_among names (name.Snapshot p v) ≡ false → is_among more (name.Snapshot p v) ≡ true → lacking more p count + 1 ≤ lacking names p count
unfolding lacking
lacking_falls names more p v zero are less tenth absent made = absurd (omega (arith, less))
lacking_falls names more p v (suc w) are less tenth absent made = by (λ below. lacking_falls names more p v w are below tenth absent made) (lacking_less names more p w are) (nat_lt v w) refl
  where
    by : (v < w → lacking more p w + 1 ≤ lacking names p w) → lacking more p w ≤ lacking names p w → (b : Bool) → nat_lt v w ≡ b
        → lacking more p w + lacks (w % 10 == 9) (is_among more (name.Snapshot p w)) + 1 ≤ lacking names p w + lacks (w % 10 == 9) (is_among names (name.Snapshot p w))
    by falls fewer true is =
        let below : v < w = grind (arith, nat_tests) in
        omega (arith, falls below, lacks_less (w % 10 == 9) (is_among names (name.Snapshot p w)) (is_among more (name.Snapshot p w)) (are (name.Snapshot p w)))
    by falls fewer false is =
        let same : v ≡ w = grind (arith, nat_tests) in
        let one = lacks_one (w % 10 == 9) (is_among names (name.Snapshot p w)) (is_among more (name.Snapshot p w)) (tenth_is w (ap (λ n. n % 10) (sym same) ∙ tenth))
        (ap (λ n. is_among names (name.Snapshot p n)) (sym same) ∙ absent) (ap (λ n. is_among more (name.Snapshot p n)) (sym same) ∙ made) in
        omega (arith, one, fewer)

-- of all partitions together
pub lacking_in_less : (names more : List Name) (partitions count : ℕ) → AreIn names more → lacking_in more partitions count ≤ lacking_in names partitions count
unfolding lacking_in
lacking_in_less names more zero count are = omega arith
lacking_in_less names more (suc p) count are = omega (arith, lacking_in_less names more p count are, lacking_less names more p count are)

pub lacking_in_falls : (names more : List Name) (partitions p v count : ℕ) → AreIn names more → p < partitions → v < count → v % 10 ≡ 9 → is_among names (name.Snapshot p v) ≡ false → is_among more (name.Snapshot p v) ≡ true
    → lacking_in more partitions count + 1 ≤ lacking_in names partitions count
unfolding lacking_in
lacking_in_falls names more zero p v count are few less tenth absent made = absurd (omega (arith, few))
lacking_in_falls names more (suc r) p v count are few less tenth absent made =
    by (λ below. lacking_in_falls names more r p v count are below less tenth absent made) (lacking_in_less names more r count are) (nat_lt p r) refl
  where
    by : (p < r → lacking_in more r count + 1 ≤ lacking_in names r count) → lacking_in more r count ≤ lacking_in names r count → (b : Bool) → nat_lt p r ≡ b
        → lacking_in more r count + lacking more r count + 1 ≤ lacking_in names r count + lacking names r count
    by falls fewer true is =
        let below : p < r = grind (arith, nat_tests) in
        omega (arith, falls below, lacking_less names more r count are)
    by falls fewer false is =
        let same : p ≡ r = grind (arith, nat_tests) in
        let one = subst (λ k. lacking more k count + 1 ≤ lacking names k count) same (lacking_falls names more p v count are less tenth absent made) in
        omega (arith, one, fewer)
