-- The last row of each key, of rows that come one after the other.
use Rattle.std.proofs.Common.{◌≡◌, ◌≤◌, ◌+◌, Bool, true, false, true≢false, cond, not, ◌||◌, List, [], ◌∷◌, ◌++◌, length, refl, sym, ap, ◌∙◌, arith}
use Rattle.std.specs.Prelude.{filter}
use Rattle.std.specs.List.{list_any}
use Rattle.std.proofs.lemmas.List.Folds.{list_any-append}
use Rattle.ssq_shape.specs.declared.bound.Output.{Output}
use Rattle.ssq_meaning.specs.Group.{is_same}
use Rattle.ssq_meaning.specs.Meaning.{Values}
use Rattle.ssq_meaning.specs.Table.{is_same_group, key_cells, replaced}
use Rattle.ssq_meaning.proofs.Keys.{same_itself}
use Rattle.ssq_sink.specs.Table.{HasOnce, last_rows}

-- whether a later row has its key
abbrev is_newer : List Output → List Values → Values → Bool
is_newer outputs later row = list_any (is_same_group outputs row) later

-- a row of the first list, by whether one of the same list and one of the second list are of its key
one_more : {A : Type 0} (own later : Bool) (row : A) (kept lasts : List A) → cond (own || later) (kept ++ lasts) (row ∷ (kept ++ lasts)) ≡ cond own kept (cond (not later) (row ∷ kept) kept) ++ lasts
one_more true later row kept lasts = refl
one_more false true row kept lasts = refl
one_more false false row kept lasts = refl

filtered_if : {A : Type 0} (p : A → Bool) (own : Bool) (row : A) (rows : List A) → filter p (cond own rows (row ∷ rows)) ≡ cond own (filter p rows) (cond (p row) (row ∷ filter p rows) (filter p rows))
filtered_if p true row rows = refl
filtered_if p false row rows = refl

-- the last rows of two lists are those of the first whose keys have no later row, and those of the second
pub last_rows-append : (outputs : List Output) (xs ys : List Values) → last_rows outputs (xs ++ ys) ≡ filter (λ row. not (is_newer outputs ys row)) (last_rows outputs xs) ++ last_rows outputs ys
last_rows-append outputs [] ys = refl
last_rows-append outputs (row ∷ xs) ys =
    let p : Values → Bool = λ one. not (is_newer outputs ys one) in
    ap (λ any. cond any (last_rows outputs (xs ++ ys)) (row ∷ last_rows outputs (xs ++ ys))) (list_any-append (is_same_group outputs row) xs ys)
    ∙ ap (λ rows. cond (is_newer outputs xs row || is_newer outputs ys row) rows (row ∷ rows)) (last_rows-append outputs xs ys)
    ∙ one_more (is_newer outputs xs row) (is_newer outputs ys row) row (filter p (last_rows outputs xs)) (last_rows outputs ys)
    ∙ ap (λ rows. rows ++ last_rows outputs ys) (sym (filtered_if p (is_newer outputs xs row) row (last_rows outputs xs)))

-- so a file whose rows are of one key each replaces the rows of its keys
pub replaced-last_rows : (outputs : List Output) (xs ys : List Values) → last_rows outputs ys ≡ ys → last_rows outputs (xs ++ ys) ≡ replaced outputs (last_rows outputs xs) ys
replaced-last_rows outputs xs ys once = last_rows-append outputs xs ys ∙ ap (λ rows. filter (λ row. not (is_newer outputs ys row)) (last_rows outputs xs) ++ rows) once

some_counts_by : {A : Type 0} (p : A → Bool) (x : A) (xs : List A) (own : Bool) → (own || list_any p xs) ≡ true → (list_any p xs ≡ true → 1 ≤ length (filter p xs)) → 1 ≤ length (cond own (x ∷ filter p xs) (filter p xs))
some_counts_by p x xs true is rest = omega arith
some_counts_by p x xs false is rest = rest is

-- where some item passes, one is counted
some_counts : {A : Type 0} (p : A → Bool) (xs : List A) → list_any p xs ≡ true → 1 ≤ length (filter p xs)
some_counts p [] is = absurd (true≢false (sym is))
some_counts p (x ∷ xs) is = some_counts_by p x xs (p x) is (some_counts p xs)

one_counts : {A : Type 0} (x : A) (xs : List A) (own : Bool) → own ≡ true → length (cond own (x ∷ xs) xs) ≡ 1 + length xs
one_counts x xs true is = omega arith
one_counts x xs false is = absurd (true≢false (sym is))

counts_grow : {A : Type 0} (x : A) (xs : List A) (own : Bool) → length xs ≤ length (cond own (x ∷ xs) xs)
counts_grow x xs true = omega arith
counts_grow x xs false = omega arith

-- rows of which each key has one at most are all last
pub once-last_rows : (outputs : List Output) (rows : List Values) → HasOnce outputs rows → last_rows outputs rows ≡ rows
once-last_rows outputs [] once = refl
once-last_rows outputs (row ∷ rows) once =
    let p : Values → Bool = is_same_group outputs row in
    let counted : length (filter p (row ∷ rows)) ≡ 1 + length (filter p rows) = one_counts row (filter p rows) (p row) (same_itself (key_cells outputs row)) in
    let few : length (filter p (row ∷ rows)) ≤ 1 = once (key_cells outputs row) in
    let rest : last_rows outputs rows ≡ rows = once-last_rows outputs rows (λ key.
    let q : Values → Bool = λ one. is_same key (key_cells outputs one) in
    omega (arith, once key, counts_grow row (filter q rows) (q row))) in
    go (list_any p rows) refl (λ some. omega (arith, some_counts p rows some, counted, few)) rest
  where
    go : (any : Bool) → list_any (is_same_group outputs row) rows ≡ any → (list_any (is_same_group outputs row) rows ≡ true → ⊥) → last_rows outputs rows ≡ rows → cond (list_any (is_same_group outputs row) rows) (last_rows outputs rows) (row ∷ last_rows outputs rows) ≡ row ∷ rows
    go true is never rest = absurd (never is)
    go false is never rest = rw is (ap (λ left. row ∷ left) rest)
