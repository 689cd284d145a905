-- Places that are counted one after the other.
use Rattle.std.proofs.Common.{◌≡◌, ◌∙◌, ap, sym, refl, subst, arith, ℕ, zero, suc, ◌+◌, ◌-◌, ◌<◌, ◌≤◌, Bool, true, false, if◌then◌else◌, nat_le, List, [], ◌∷◌, ◌++◌, length, drop, get_or, drop-cons, append-nil, append_assoc, length-append, Some, None}
use Rattle.std.proofs.lemmas.Bool.Decides.{nat_tests}
use Rattle.std.proofs.lemmas.List.{drop_all}
use Rattle.std.specs.Prelude.{slice_get}
use Rattle.std.specs.List.{flat_map}
use Rattle.std.specs.Option.{option_or}
use Rattle.ssq_check.specs.declared.tally.Tally.{Tally}
use Rattle.ssq_check.specs.Counted.{tally_of, Counts}

-- no place
pub counts_none : (tally : Tally) → Counts tally [] tally
counts_none tally most before is = is ∙ ap (tally_of most) (sym (append-nil before))

-- some places, and then others
pub counts_both : (xs ys : List ℕ) (old mid new : Tally) → Counts old xs mid → Counts mid ys new → Counts old (xs ++ ys) new
counts_both xs ys old mid new first second most before is = second most (before ++ xs) (first most before is) ∙ ap (tally_of most) (append_assoc before xs ys)

-- the places of one element more, in front of those that are left
pub counts_more : {A : Type 0} (places : A → List ℕ) (xs : List A) (i : ℕ) (x : A) (old now next last : Tally) → i < length xs → x ≡ get_or xs i x → Counts now (places x) next
    → (Counts now (flat_map places (drop i xs)) last → Counts old (flat_map places xs) last) → Counts next (flat_map places (drop (i + 1) xs)) last → Counts old (flat_map places xs) last
counts_more places xs i x old now next last inside is own all rest =
    let split : drop i xs ≡ x ∷ drop (suc i) xs = drop-cons xs i x inside ∙ ap (λ y. y ∷ drop (suc i) xs) (sym is) in
    let after : i + 1 ≡ suc i = omega arith in
    let behind : Counts next (flat_map places (drop (suc i) xs)) last = subst (λ k. Counts next (flat_map places (drop k xs)) last) after rest in
    all (subst (λ ys. Counts now (flat_map places ys) last) (sym split) (counts_both (places x) (flat_map places (drop (suc i) xs)) now next last own behind))

-- none is left
pub counts_end : {A : Type 0} (places : A → List ℕ) (xs : List A) (i : ℕ) (tally : Tally) → length xs ≤ i → Counts tally (flat_map places (drop i xs)) tally
counts_end places xs i tally over = subst (λ ys. Counts tally (flat_map places ys) tally) (sym (drop_all i xs over)) (counts_none tally)

-- ---- one place

first_more : (before : List ℕ) (at : ℕ) → slice_get (before ++ at ∷ []) 0 ≡ option_or (slice_get before 0) (Some at)
first_more [] at = refl
first_more (x ∷ before) at = refl

own_more : (before : List ℕ) (at : ℕ) → slice_get (before ++ at ∷ []) (length before) ≡ Some at
own_more [] at = refl
own_more (x ∷ before) at = own_more before at

other_more : (before : List ℕ) (at n : ℕ) → (length before ≡ n → ⊥) → slice_get (before ++ at ∷ []) n ≡ slice_get before n
other_more [] at zero not_it = absurd (not_it refl)
other_more [] at (suc n) not_it = refl
other_more (x ∷ before) at zero not_it = refl
other_more (x ∷ before) at (suc n) not_it = other_more before at n (λ is. not_it (ap suc is))

left : (n most m : ℕ) (d : Bool) → nat_le n most ≡ d → (if d then Some (most - n) else None) ≡ Some m → (n ≤ most) × (most - n ≡ m)
left n most m true d_is is = (grind (arith, nat_tests), cc)
left n most m false d_is is = absurd (cc)

none_left : (n most : ℕ) (d : Bool) → nat_le n most ≡ d → (if d then Some (most - n) else None) ≡ None → most < n
none_left n most true d_is is = absurd (cc)
none_left n most false d_is is = grind (arith, nat_tests)

none_is : (n most : ℕ) (d : Bool) → nat_le n most ≡ d → most < n → None ≡ (if d then Some (most - n) else None)
none_is n most true d_is over = absurd (grind (arith, nat_tests))
none_is n most false d_is over = refl

some_is : (n most m : ℕ) (d : Bool) → nat_le n most ≡ d → n ≤ most → m ≡ most - n → Some m ≡ (if d then Some (most - n) else None)
some_is n most m true d_is inside is = ap Some is
some_is n most m false d_is inside is = absurd (grind (arith, nat_tests))

longer : (before : List ℕ) (at : ℕ) → length (before ++ at ∷ []) ≡ length before + 1
longer before at = length-append before (at ∷ [])

-- a place that is the last that there may be, or one too many
pub counts_last : (old : Tally) (at : ℕ) → old.more ≡ Some 0 → Counts old (at ∷ []) (record { first = option_or old.first (Some at); more = None; past = Some at })
counts_last old at none_more most before is =
    let n : ℕ = length before in
    let found : (n ≤ most) × (most - n ≡ 0) = left n most 0 (nat_le n most) refl (sym (λ i. (is i).more) ∙ none_more) in
    let full : n ≡ most = omega (arith, found.0, found.1) in
    let first_is : option_or old.first (Some at) ≡ slice_get (before ++ at ∷ []) 0 = (λ i. option_or (is i).first (Some at)) ∙ sym (first_more before at) in
    let more_is : None ≡ (tally_of most (before ++ at ∷ [])).more = none_is (length (before ++ at ∷ [])) most _ refl (rw (longer before at) (omega (arith, full))) in
    let past_is : Some at ≡ slice_get (before ++ at ∷ []) most = sym (own_more before at) ∙ ap (slice_get (before ++ at ∷ [])) full in
    λ i. record { first = first_is i; more = more_is i; past = past_is i }

pub counts_next : (old : Tally) (at more : ℕ) → old.more ≡ Some more → (more ≡ 0 → ⊥) → Counts old (at ∷ []) (record { first = option_or old.first (Some at); more = Some (more - 1); past = old.past })
counts_next old at more has_more not_last most before is =
    let n : ℕ = length before in
    let found : (n ≤ most) × (most - n ≡ more) = left n most more (nat_le n most) refl (sym (λ i. (is i).more) ∙ has_more) in
    let first_is : option_or old.first (Some at) ≡ slice_get (before ++ at ∷ []) 0 = (λ i. option_or (is i).first (Some at)) ∙ sym (first_more before at) in
    let below : n < most = grind (arith, found, not_last) in
    let more_is : Some (more - 1) ≡ (tally_of most (before ++ at ∷ [])).more = some_is (length (before ++ at ∷ [])) most (more - 1) _ refl (rw (longer before at) (omega (arith, below))) (rw (longer before at) (omega (arith, found.1, below))) in
    let past_is : old.past ≡ slice_get (before ++ at ∷ []) most = (λ i. (is i).past) ∙ sym (other_more before at most (λ same. absurd (omega (arith, same, below)))) in
    λ i. record { first = first_is i; more = more_is i; past = past_is i }

pub counts_over : (old : Tally) (at : ℕ) → old.more ≡ None → Counts old (at ∷ []) old
counts_over old at none_more most before is =
    let n : ℕ = length before in
    let over : most < n = none_left n most (nat_le n most) refl (sym (λ i. (is i).more) ∙ none_more) in
    let first_is : slice_get before 0 ≡ slice_get (before ++ at ∷ []) 0 = sym (other_more before at 0 (λ same. absurd (omega (arith, same, over)))) in
    let more_is : old.more ≡ (tally_of most (before ++ at ∷ [])).more = none_more ∙ none_is (length (before ++ at ∷ [])) most _ refl (rw (longer before at) (omega (arith, over))) in
    let past_is : slice_get before most ≡ slice_get (before ++ at ∷ []) most = sym (other_more before at most (λ same. absurd (omega (arith, same, over)))) in
    λ i. record { first = ((λ j. (is j).first) ∙ first_is) i; more = more_is i; past = ((λ j. (is j).past) ∙ past_is) i }
