-- Lines without a fault: an epoch of them has none.
use Rattle.std.proofs.Common.{◌≡◌, ◌≤◌, ◌+◌, ◌-◌, ◌∙◌, ℕ, zero, suc, List, [], ◌∷◌, map, get_or, take, drop, Option, Some, None, refl, sym, ap, subst, arith}
use Rattle.std.specs.Prelude.{slice_get, option_map}
use Rattle.std.specs.List.{enumerate_from}
use Rattle.std.proofs.lemmas.Option.{none-some}
use Rattle.ssq_shape.specs.declared.bound.Bound.{Bound}
use Rattle.ssq_meaning.specs.Meaning.{Line, Values, lines_between}
use Rattle.ssq_meaning.specs.Parts.{Part}
use Rattle.ssq_meaning.specs.Cut.{Cut, Cuts, of_parts}
use Rattle.ssq_meaning.specs.Feeding.{LineAt, fault_at, fault_in, first_of_all, or_else}
use Rattle.ssq_meaning.specs.Epochs.{EpochFault, of_line, of_key, fault_between, fault, key_fault}

-- a line of a front stands at its place
take_at : {X : Type 0} (n : ℕ) (xs : List X) (j : ℕ) (x : X) → slice_get (take n xs) j ≡ Some x → slice_get xs j ≡ Some x
take_at zero xs j x is = absurd (none-some x is)
take_at (suc n) [] j x is = absurd (none-some x is)
take_at (suc n) (y ∷ ys) zero x is = is
take_at (suc n) (y ∷ ys) (suc j) x is = take_at n ys j x is

-- and a line of the rest after what was left out
drop_at : {X : Type 0} (n : ℕ) (xs : List X) (j : ℕ) (x : X) (k : ℕ) → k ≡ n + j → slice_get (drop n xs) j ≡ Some x → slice_get xs k ≡ Some x
drop_at zero xs j x k same is = subst (λ (m : ℕ). slice_get xs m ≡ Some x) (let e : j ≡ k = omega (arith, same) in e) is
drop_at (suc n) [] j x k same is = absurd (none-some x is)
drop_at (suc n) (y ∷ ys) j x zero same is = absurd (omega (arith, same))
drop_at (suc n) (y ∷ ys) j x (suc k) same is = drop_at n ys j x k (omega (arith, same)) is

-- lines from an offset on, none of which is a fault
lines_fine : (query : Bound) (part : Part) (at : ℕ) (xs : List Line) → ((j k : ℕ) (line : Line) → k ≡ at + j → slice_get xs j ≡ Some line → fault_at query part k line ≡ None)
    → first_of_all (map (λ (line : ℕ × Line). fault_at query part line.0 line.1) (enumerate_from at xs)) ≡ None
lines_fine query part at [] good = refl
lines_fine query part at (x ∷ xs) good =
    ap (λ (f : Option LineAt). or_else f (first_of_all (map (λ (line : ℕ × Line). fault_at query part line.0 line.1) (enumerate_from (at + 1) xs)))) (good 0 at x (omega arith) refl)
    ∙ lines_fine query part (at + 1) xs (λ j k line same is. good (suc j) k line (omega (arith, same)) is)

-- of a part no line from an offset on is a fault
abbrev pub IsFine : Bound → Part → ℕ → Type 0
IsFine query part from = (at : ℕ) (line : Line) → from ≤ at → slice_get part.lines at ≡ Some line → fault_at query part at line ≡ None

part_fine : (query : Bound) (part : Part) (from to : ℕ) → IsFine query part from → fault_in query part from to ≡ None
part_fine query part from to good =
    lines_fine query part from (lines_between from to part.lines)
    (λ j k line same is. good k line (omega (arith, same)) (drop_at from part.lines j line k same (take_at (to - from) (drop from part.lines) j line is)))

parts_fine : (query : Bound) (parts : List Part) (froms tos : Cut) → ((i : ℕ) (part : Part) → slice_get parts i ≡ Some part → IsFine query part (get_or froms i 0)) → fault_between query parts froms tos ≡ None
unfolding of_parts
parts_fine query [] froms tos good = refl
parts_fine query (part ∷ parts) [] tos good = refl
parts_fine query (part ∷ parts) (from ∷ froms) [] good = refl
parts_fine query (part ∷ parts) (from ∷ froms) (to ∷ tos) good =
    ap (λ (f : Option LineAt). or_else f (fault_between query parts froms tos)) (part_fine query part from to (good 0 part refl)) ∙ parts_fine query parts froms tos (λ i p is. good (suc i) p is)

-- a key is no line
abbrev is_line : Option EpochFault → Type 0
is_line None = ⊥
is_line (Some (of_line at)) = Unit {0}
is_line (Some (of_key key)) = ⊥

no_line : (key : Option Values) (at : LineAt) → option_map of_key key ≡ Some (of_line at) → ⊥
no_line None at is = absurd (none-some (of_line at) is)
no_line (Some key) at is = subst is_line (sym is) tt

-- so an epoch of such lines has no line that is its fault
pub epoch_fine : (query : Bound) (parts : List Part) (cuts : Cuts) (e : ℕ) (at : LineAt) → ((i : ℕ) (part : Part) → slice_get parts i ≡ Some part → IsFine query part (get_or (cuts e) i 0)) → fault query parts cuts e ≡ Some (of_line at) → ⊥
epoch_fine query parts cuts e at good is =
    no_line (key_fault query parts cuts e) at
    (subst (λ (f : Option LineAt). or_else (option_map of_line f) (option_map of_key (key_fault query parts cuts e)) ≡ Some (of_line at)) (parts_fine query parts (cuts e) (cuts (e + 1)) good) is)

-- ---- keys

-- a line is no key
abbrev is_key : Option EpochFault → Type 0
is_key None = ⊥
is_key (Some (of_line at)) = ⊥
is_key (Some (of_key key)) = Unit {0}

no_key : (line : Option LineAt) (own : Option Values) (key : Values) → own ≡ None → or_else (option_map of_line line) (option_map of_key own) ≡ Some (of_key key) → ⊥
no_key None own key none is = subst is_key (sym is ∙ ap (λ (o : Option Values). option_map of_key o) none) tt
no_key (Some at) own key none is = subst is_key (sym is) tt

-- so an epoch in which no key overflows has no key that is its fault
pub keyless : (query : Bound) (parts : List Part) (cuts : Cuts) (e : ℕ) (key : Values) → key_fault query parts cuts e ≡ None → fault query parts cuts e ≡ Some (of_key key) → ⊥
keyless query parts cuts e key none is = no_key (fault_between query parts (cuts e) (cuts (e + 1))) (key_fault query parts cuts e) key none is
