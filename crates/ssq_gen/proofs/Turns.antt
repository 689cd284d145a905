-- Lines of two parts by turns.
use Rattle.std.proofs.Common.{◌≡◌, ℕ, suc, ◌+◌, ◌%◌, ◌==◌, List, [], ◌∷◌, ◌++◌, Bool, true, false, map, filter, refl, sym, ap, ◌∙◌, arith}
use Rattle.std.specs.Prelude.{if◌then◌else◌}
use Rattle.std.specs.List.{range_with_len}
use Rattle.std.proofs.lemmas.List.{map-append, map-id}
use Rattle.std.proofs.lemmas.List.FromFn.{filter_of_map_range_with_len_more}
use Rattle.ssq_outside.specs.Logs.{Line}
use Rattle.ssq_value.specs.declared.value.Value.{Value}
use Rattle.ssq_json.specs.RowText.{heads_of, row_text, text_with}
use Rattle.ssq_gen.specs.Made.{column_names, line_at, line_with, next_number, number_at, part_lines, row_with}

-- the number of the next line
pub number-next : (number n x y : ℕ) → x ≡ number_at number n → y ≡ next_number x → y ≡ number_at number (n + 1)
unfolding number_at
number-next number n x y is next =
    let more : n + 1 ≡ suc n = omega arith in
    rw more (next ∙ ap next_number is)

-- one number more that may pass
numbers-next : (p : ℕ → Bool) (n : ℕ) → filter p (range_with_len 0 (n + 1)) ≡ filter p (range_with_len 0 n) ++ (if p n then n ∷ [] else [])
numbers-next p n =
    let same : (k : ℕ) → map (λ (i : ℕ). i) (range_with_len 0 k) ≡ range_with_len 0 k = λ k. map-id (range_with_len 0 k) in
    sym (ap (filter p) (same (n + 1))) ∙ filter_of_map_range_with_len_more p (λ i. i) 0 n n (omega arith)
    ∙ ap (λ (numbers : List ℕ). filter p numbers ++ (if p n then n ∷ [] else [])) (same n)

-- line i is of this part
abbrev is_own : ℕ → ℕ → Bool
is_own part i = i % 2 == part

one : {A B : Type 0} (f : A → B) (x : A) (own : Bool) → map f (if own then x ∷ [] else []) ≡ (if own then f x ∷ [] else [])
one f x true = refl
one f x false = refl

-- a part has line n where it is its own
pub part_lines-next : (number n part : ℕ) → part_lines number (n + 1) part ≡ part_lines number n part ++ (if n % 2 == part then line_at number n ∷ [] else [])
unfolding part_lines
part_lines-next number n part =
    ap (map (line_at number)) (numbers-next (is_own part) n)
    ∙ map-append (line_at number) (filter (is_own part) (range_with_len 0 n)) (if is_own part n then n ∷ [] else [])
    ∙ ap (λ (more : List Line). map (line_at number) (filter (is_own part) (range_with_len 0 n)) ++ more) (one (line_at number) n (is_own part n))

-- one more line, in the part that it is of
pub lines-next : {A : Type 0} (f : A → Line) (number n part x : ℕ) (lines more : List A) (line : A) → map f lines ≡ part_lines number n part → x ≡ number_at number n → f line ≡ line_with x n → more ≡ lines ++ (if n % 2 == part then line ∷ [] else [])
    → map f more ≡ part_lines number (n + 1) part
lines-next f number n part x lines more line is of made next =
    let own : f line ≡ line_at number n = made ∙ ap (λ y. line_with y n) of in
    let put = one f line (n % 2 == part) ∙ ap (λ (l : Line). if n % 2 == part then l ∷ [] else []) own in
    ap (map f) next ∙ map-append f lines (if n % 2 == part then line ∷ [] else []) ∙ (λ i. is i ++ put i) ∙ sym (part_lines-next number n part)

-- the bytes of a line
pub line_made : (x i : ℕ) (old new : List ℕ) (heads : List (List ℕ)) (row : List Value) → old ≡ [] → heads ≡ heads_of column_names → row ≡ row_with x i → new ≡ old ++ text_with heads row → new ≡ line_with x i
unfolding row_text
line_made x i old new heads row none of is put = rw (put, none, of, is) refl

-- before the first line
pub no_lines : {A : Type 0} (f : A → Line) (number part : ℕ) (lines : List A) → lines ≡ [] → map f lines ≡ part_lines number 0 part
unfolding part_lines
no_lines f number part lines none = ap (map f) none

pub first_number : (number : ℕ) → number ≡ number_at number 0
unfolding number_at
first_number number = refl
