-- A walk over a listing of names.
use Rattle.std.proofs.Common.{◌≡◌, ◌⊎◌, ◌<◌, ◌≤◌, ◌+◌, ◌∙◌, ℕ, List, length, get_or, refl, sym, ap, subst, inl, inr, arith}
use Rattle.std.specs.Prelude.{Contains, AllPairs, IsTrue}
use Rattle.std.proofs.lemmas.List.{get_or_default}
use Rattle.std.proofs.lemmas.Bool.{cases_lt}
use Rattle.std.proofs.lemmas.Bool.Decides.{nat_tests}
use Rattle.ssq_outside.specs.declared.name.Name.{Name}
use Rattle.ssq_outside.specs.declared.name.Name.TheVariants.{Plan, Out}
use Rattle.ssq_outside.specs.Files.{name_before}

-- the name is among the first i
pub record IsAmong (names : List Name) (i : ℕ) (name : Name) : Type 0 where
  pub at : ℕ
  pub below : at < i
  pub is : get_or names at name ≡ name

pub none_among : (names : List Name) (name : Name) → IsAmong names 0 name → ⊥
none_among names name among = absurd (omega (arith, among.below))

pub among_more : (names : List Name) (i : ℕ) (name : Name) → IsAmong names i name → IsAmong names (i + 1) name
among_more names i name among = record { at = among.at; below = omega (arith, among.below); is = among.is }

-- one more is the next, or was among those before
pub among_next : (names : List Name) (i : ℕ) (name next d : Name) → i < length names → get_or names i d ≡ next → IsAmong names (i + 1) name → IsAmong names i name ⊎ (name ≡ next)
among_next names i name next d less here among = elim (cases_lt among.at i) [
  | inl earlier ↦ inl (record { at = among.at; below = earlier; is = among.is })
  | inr not_earlier ↦
      let same : among.at ≡ i = omega (arith, among.below, not_earlier) in
      inr (sym among.is ∙ ap (λ k. get_or names k name) same ∙ get_or_default names i name d less ∙ here)
]

pub contains_next : (names : List Name) (i : ℕ) (next d : Name) → i < length names → get_or names i d ≡ next → Contains names next
contains_next names i next d less here = (i, less, get_or_default names i next d less ∙ here)

pub contains_among : (names : List Name) (i : ℕ) (name : Name) → length names ≤ i → Contains names name → IsAmong names i name
contains_among names i name all among = record { at = among.0; below = omega (arith, among.1); is = among.2 }

abbrev pub AreInOrder : List Name → Type 0
AreInOrder names = AllPairs (λ m n. IsTrue (name_before m n)) names

-- an earlier one is before the next
pub among_before : (names : List Name) (i : ℕ) (name next d : Name) → AreInOrder names → i < length names → get_or names i d ≡ next → IsAmong names i name → IsTrue (name_before name next)
among_before names i name next d order less here among =
    let pair : IsTrue (name_before (get_or names among.at d) (get_or names i d)) = order among.at i d among.below less in
    let first : get_or names among.at d ≡ name = get_or_default names among.at d name (omega (arith, among.below)) ∙ among.is in
    let P : Name → Type 0 = λ n. IsTrue (name_before n (get_or names i d)) in
    let Q : Name → Type 0 = λ n. IsTrue (name_before name n) in
    subst Q here (subst P first pair)

-- the next name is no plan, or one that is below
pub plans_below : (names : List Name) (i n : ℕ) (d : Name) → i < length names → ((e : ℕ) → get_or names i d ≡ Plan e → e < n)
    → ((e : ℕ) → IsAmong names i (Plan e) → e < n) → (e : ℕ) → IsAmong names (i + 1) (Plan e) → e < n
plans_below names i n d less next before e among = elim (among_next names i (Plan e) (get_or names i d) d less refl among) [
  | inl earlier ↦ before e earlier
  | inr same ↦ next e (sym same)
]

plan_same : (e f : ℕ) → Plan e ≡ Plan f → e ≡ f
plan_same e f same = cc

out_same : (e f : ℕ) → Out e ≡ Out f → e ≡ f
out_same e f same = cc

-- the next plan is above those before
pub plans_above : (names : List Name) (i n epoch : ℕ) (d : Name) → i < length names → get_or names i d ≡ Plan epoch → n ≤ epoch
    → ((e : ℕ) → IsAmong names i (Plan e) → e < n) → (e : ℕ) → IsAmong names (i + 1) (Plan e) → e < epoch + 1
plans_above names i n epoch d less here above before e among = elim (among_next names i (Plan e) (Plan epoch) d less here among) [
  | inl earlier ↦ omega (arith, before e earlier)
  | inr same ↦ omega (arith, plan_same e epoch same)
]

pub greatest_next : (names : List Name) (i epoch : ℕ) (d : Name) → i < length names → get_or names i d ≡ Plan epoch → (e : ℕ) → epoch + 1 ≡ e + 1 → Contains names (Plan e)
greatest_next names i epoch d less here e same =
    let is : epoch ≡ e = omega (arith, same) in
    let P : ℕ → Type 0 = λ e. Contains names (Plan e) in
    subst P is (contains_next names i (Plan epoch) d less here)

out_before : (e f : ℕ) → IsTrue (name_before (Out e) (Out f)) → e < f
out_before e f before = grind (arith, nat_tests)

-- one more sink file in a row
pub written_there : (names : List Name) (i n epoch : ℕ) (d : Name) → i < length names → get_or names i d ≡ Out epoch → epoch ≡ n
    → ((e : ℕ) → e < n → Contains names (Out e)) → (e : ℕ) → e < n + 1 → Contains names (Out e)
written_there names i n epoch d less here same before e below = elim (cases_lt e n) [
  | inl earlier ↦ before e earlier
  | inr not_earlier ↦
      let is : epoch ≡ e = omega (arith, same, below, not_earlier) in
      let P : ℕ → Type 0 = λ e. Contains names (Out e) in
      subst P is (contains_next names i (Out epoch) d less here)
]

pub written_absent : (names : List Name) (i n epoch : ℕ) (d : Name) → AreInOrder names → i < length names → get_or names i d ≡ Out epoch → epoch ≡ n
    → IsAmong names (i + 1) (Out (n + 1)) → ⊥
written_absent names i n epoch d order less here same among = elim (among_next names i (Out (n + 1)) (Out epoch) d less here among) [
  | inl earlier ↦ absurd (omega (arith, same, out_before (n + 1) epoch (among_before names i (Out (n + 1)) (Out epoch) d order less here earlier)))
  | inr is ↦ absurd (omega (arith, same, out_same (n + 1) epoch is))
]

-- the next name is not the sink file that is missing
pub still_absent : (names : List Name) (i n : ℕ) (d : Name) → i < length names → (get_or names i d ≡ Out n → ⊥) → (IsAmong names i (Out n) → ⊥) → IsAmong names (i + 1) (Out n) → ⊥
still_absent names i n d less other before among = elim (among_next names i (Out n) (get_or names i d) d less refl among) [
  | inl earlier ↦ before earlier
  | inr same ↦ other (sym same)
]

pub other_out : (name : Name) (epoch n : ℕ) → name ≡ Out epoch → (epoch ≡ n → ⊥) → name ≡ Out n → ⊥
other_out name epoch n here differ there = differ (out_same epoch n (sym here ∙ there))

pub other_plan : (name : Name) (epoch n : ℕ) → name ≡ Plan epoch → epoch < n → (e : ℕ) → name ≡ Plan e → e < n
other_plan name epoch n here below e there = let same : epoch ≡ e = plan_same epoch e (sym here ∙ there) in omega (arith, same, below)
