-- The names that an opening lists are those of the files of the state.
use Rattle.std.proofs.Common.{◌≡◌, ◌<◌, ◌||◌, ℕ, zero, suc, Bool, true, false, true≢false, List, [], ◌∷◌, length, filter, Contains, IsSome, is_some, if◌then◌else◌, sym, refl, ap, ◌∙◌, subst, arith}
use Rattle.std.proofs.lemmas.Bool.{or_right}
use Rattle.ssq_outside.specs.declared.name.Name.{Name}
use Rattle.ssq_outside.specs.declared.name.Name.TheVariants as name
use Rattle.ssq_outside.specs.Files.{Files, AreNames, same_name}
use Rattle.ssq_outside.proofs.Names.{same_name-true, same_name-same}
use Rattle.ssq_upkeep.specs.Upkeep.{is_among}
use Rattle.ssq_plans.specs.declared.meta.Meta.{Meta}
use Rattle.ssq_core.specs.Sound.{is_state}
use Rattle.ssq_open.specs.Listing.{AreOfState}
use Rattle.ssq_open.specs.Opening.{only_meta}
use Rattle.ssq_board.specs.Shelf.{AreListed}

-- a name is among others where they have it
among_has : (names : List Name) (q : Name) → is_among names q ≡ true → Contains names q
among_has [] q is = absurd (true≢false (sym is))
among_has (n ∷ ns) q is = by (same_name n q) refl is (λ there. among_has ns q there)
  where
    by : (b : Bool) → same_name n q ≡ b → (b || is_among ns q) ≡ true → (is_among ns q ≡ true → Contains ns q) → Contains (n ∷ ns) q
    by true same is rest = (0, omega arith, same_name-true n q same)
    by false other is rest = (let at = rest is in (suc at.0, (let less = at.1 in omega (arith, less)), at.2))

has_among : (names : List Name) (q : Name) → Contains names q → is_among names q ≡ true
has_among [] q (k, less, is) = absurd (omega (arith, less))
has_among (n ∷ ns) q (zero, less, is) = ap (λ (b : Bool). b || is_among ns q) (subst (λ (x : Name). same_name x q ≡ true) (sym is) (same_name-same q))
has_among (n ∷ ns) q (suc k, less, is) = or_right (same_name n q) (is_among ns q) (has_among ns q (k, omega (arith, less), is))

all_listed : (files : Files) (names : List Name) → AreNames files names → AreListed files names
all_listed files names are q state = by (is_among names q) refl (is_some (files q)) refl
  where
    by : (a : Bool) → is_among names q ≡ a → (b : Bool) → is_some (files q) ≡ b → a ≡ b
    by true in_it b there = sym (are.there q (among_has names q in_it)) ∙ there
    by false out true there = sym out ∙ has_among names q (are.all q there)
    by false out false there = refl

-- a file of the state is among those of the state where it is among all
among_state : (names : List Name) (q : Name) → is_state q ≡ true → is_among (filter is_state names) q ≡ is_among names q
among_state [] q state = refl
among_state (n ∷ ns) q state = by (is_state n) refl (among_state ns q state)
  where
    other : (b : Bool) → same_name n q ≡ b → is_state n ≡ false → b ≡ false
    other true same none = absurd (true≢false (sym state ∙ ap is_state (sym (same_name-true n q same)) ∙ none))
    other false same none = refl

    by : (b : Bool) → is_state n ≡ b → is_among (filter is_state ns) q ≡ is_among ns q → is_among (if b then n ∷ filter is_state ns else filter is_state ns) q ≡ (same_name n q || is_among ns q)
    by true is rest = ap (λ (b : Bool). same_name n q || b) rest
    by false is rest = rest ∙ sym (ap (λ (b : Bool). b || is_among ns q) (other (same_name n q) refl is))

pub state_listed : (files : Files) (names : List Name) → AreOfState files names → AreListed files names
state_listed files names (all, are, same) q state = ap (λ (l : List Name). is_among l q) same ∙ among_state all q state ∙ all_listed files all are q state

-- where there is the record of the job alone, no file of the state is there
pub none_listed : (m : Meta) → AreListed (only_meta m) []
none_listed m name.Meta state = absurd (true≢false (sym state))
none_listed m (name.Plan e) state = absurd (true≢false (sym state))
none_listed m (name.Commit e) state = absurd (true≢false (sym state))
none_listed m (name.Out e) state = absurd (true≢false (sym state))
none_listed m (name.Delta p v) state = refl
none_listed m (name.Snapshot p v) state = refl
