-- The parts of a stream.
use Rattle.std.proofs.Common.{◌≡◌, ◌++◌, ◌∷◌, [], ◌<◌, ◌≤◌, ◌+◌, ◌==◌, ◌&&◌, ◌∙◌, ℕ, List, Bool, true, false, zero, suc, None, length, drop, refl, arith, rules, length-append}
use Rattle.std.proofs.lemmas.List.Elements.{filter-append}
use Rattle.std.proofs.lemmas.Grind.{common_steps}
use Rattle.std.specs.Prelude.{slice_get, if◌then◌else◌}
use Rattle.std.specs.Option.{option_map_or}
use Rattle.std.specs.String.{string_bytes}
use Rattle.std.specs.Str.{bytes_eq}
use Rattle.ssq_outside.specs.Logs.{Held}
use Rattle.ssq_fakes.specs.Logs.{log_lines, log_plan}
use Rattle.ssq_fakes.specs.declared.inputs.Part.{Part}
use Rattle.ssq_fakes.specs.Inputs.{parts_of, lines_at, plan_at, holding_part, planning_part}

-- below a list's length there is an element
there : (xs : List Part) (n : ℕ) → n < length xs → slice_get xs n ≡ None → ⊥
there [] n below none = omega arith
there (x ∷ xs) zero below none = cc
there (x ∷ xs) (suc n) below none = there xs n (omega arith) none

-- a part that is there is found before the list's end
pub found_before : (parts : List Part) (stream : List ℕ) (number i left : ℕ) → number < length (parts_of parts stream) → length parts ≤ i
    → slice_get (parts_of parts stream) number ≡ slice_get (parts_of (drop i parts) stream) left → ⊥
found_before parts stream number i left below past so_far =
    let end : drop i parts ≡ [] = grind (arith, common_steps) in
    let none : slice_get (parts_of parts stream) number ≡ None = so_far ∙ rw end refl in
    there (parts_of parts stream) number below none

with_or_without : (b : Bool) (xs : List Part) (part : Part) → xs ++ (if b then part ∷ [] else []) ≡ (if b then xs ++ part ∷ [] else xs)
with_or_without true xs part = refl
with_or_without false xs part = grind (arith, common_steps)

parts_of-push : (parts : List Part) (part : Part) (q : List ℕ) → parts_of (parts ++ part ∷ []) q ≡ (if bytes_eq (string_bytes part.stream) q then parts_of parts q ++ part ∷ [] else parts_of parts q)
parts_of-push parts part q =
    filter-append (λ p. bytes_eq (string_bytes p.stream) q) parts (part ∷ []) ∙ with_or_without (bytes_eq (string_bytes part.stream) q) (parts_of parts q) part

count_if : (b : Bool) (xs : List Part) (part : Part) → length (if b then xs ++ part ∷ [] else xs) ≡ (if b then length xs + 1 else length xs)
count_if true xs part = simp length-append
count_if false xs part = refl

module _ {X : Type 0} (of : Part → List X) where
  -- what the part with this number has
  abbrev pub at_part : List Part → ℕ → List X
  at_part parts number = option_map_or of (slice_get parts number) []

  pushed : (xs : List Part) (part : Part) (k : ℕ) → at_part (xs ++ part ∷ []) k ≡ (if k == length xs then of part else at_part xs k)
  pushed [] part zero = refl
  pushed [] part (suc k) = let other : (suc k == 0) ≡ false = grind (arith, rules) in rw other refl
  pushed (x ∷ xs) part zero = let other : (0 == length (x ∷ xs)) ≡ false = grind (arith, rules) in rw other refl
  pushed (x ∷ xs) part (suc k) = let same : (suc k == length (x ∷ xs)) ≡ (k == length xs) = grind (arith, rules) in rw same (pushed xs part k)

  pushed_if : (b : Bool) (xs : List Part) (part : Part) (k : ℕ) → at_part (if b then xs ++ part ∷ [] else xs) k ≡ (if b && k == length xs then of part else at_part xs k)
  pushed_if true xs part k = pushed xs part k
  pushed_if false xs part k = refl

  pub at_part-push : (parts : List Part) (part : Part) (q : List ℕ) (k : ℕ)
      → at_part (parts_of (parts ++ part ∷ []) q) k ≡ (if bytes_eq (string_bytes part.stream) q && k == length (parts_of parts q) then of part else at_part (parts_of parts q) k)
  at_part-push parts part q k = rw (parts_of-push parts part q) (pushed_if (bytes_eq (string_bytes part.stream) q) (parts_of parts q) part k)

-- what parts hold, beside the texts
abbrev held_by : (List ℕ → List ℕ) → List Part → Held
held_by text parts = record { text = text; parts = λ q. length (parts_of parts q); lines = λ q. lines_at (parts_of parts q) }

-- one more part is the next of its stream
pub held_by-push : (text : List ℕ → List ℕ) (parts : List Part) (part : Part) → held_by text (parts ++ part ∷ []) ≡ holding_part (string_bytes part.stream) (log_lines part.log) (held_by text parts)
held_by-push text parts part =
    let b : List ℕ → Bool = bytes_eq (string_bytes part.stream) in
    let count : (q : List ℕ) → length (parts_of (parts ++ part ∷ []) q) ≡ (if b q then length (parts_of parts q) + 1 else length (parts_of parts q)) =
    λ q. rw (parts_of-push parts part q) (count_if (b q) (parts_of parts q) part) in
    let lines : (q : List ℕ) (k : ℕ) → lines_at (parts_of (parts ++ part ∷ []) q) k ≡ (if b q && k == length (parts_of parts q) then log_lines part.log else lines_at (parts_of parts q) k) =
    λ q k. at_part-push (λ part. log_lines part.log) parts part q k in
    λ i. record { text = text; parts = λ q. count q i; lines = λ q k. lines q k i }

-- and its logs have its plan
pub plans-push : (held : Held) (parts : List Part) (part : Part) → held.parts ≡ (λ q. length (parts_of parts q))
    → (λ (q : List ℕ). plan_at (parts_of (parts ++ part ∷ []) q)) ≡ planning_part (string_bytes part.stream) (log_plan part.log) held (λ q. plan_at (parts_of parts q))
plans-push held parts part is = rw is (λ i q k. at_part-push (λ part. log_plan part.log) parts part q k i)
