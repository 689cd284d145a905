-- What the typed getters give of matches that are whole.
use Rattle.std.proofs.Common.{◌≡◌, ◌∙◌, ◌<◌, ◌≤◌, ◌^◌, ℕ, List, ap, refl, sym, arith, true, true≢false, is_some, Option, Some, None, Result, Ok, Err}
use Rattle.std.specs.Prelude.{option_map, unwrap_or, IfSome}
use Rattle.std.specs.Option.{ForSome}
use Rattle.std.specs.Str.Parse.{ParsesUnsigned}
use Rattle.clap.specs.Values.{IsUnsignedIn}
use Rattle.clap.specs.Walk.{rows_of}
use Rattle.clap.specs.Words.{Row, Text, ReadsOne, first_of, one_text}
use Rattle.clap.specs.declared.parser.matches.Found.{Found}
use Rattle.clap.proofs.WalkLemmas.{one_text-rows}
use Rattle.ssq_words.specs.Asking.{number_given, number_of}
use Rattle.ssq_words.specs.Reading.{HasNumberIn, IsNumberIn}

-- a text with a number in bounds that fit the type is read as that number
number_in : {E : Type 0} (G : Text → Result ℕ E → Type 0) (k low high : ℕ) → high < 2 ^ k → ((u : Text) (x : Result ℕ E) → G u x → ParsesUnsigned k 10 u x)
    → (t : Text) (r : Option ℕ) → ReadsOne G t r → IsUnsignedIn low high t → r ≡ Some (number_of t)
number_in G k low high fits only t (Some v) read passed = ap Some (only t (Ok v) read).1
number_in G k low high fits only t None read passed = absurd (only t (Err read.0) read.1 (passed.0, omega (arith, passed.3, fits)))

-- what `get_one` gives of an option
pub number_read : {E : Type 0} (G : Text → Result ℕ E → Type 0) (k low high : ℕ) → high < 2 ^ k → ((u : Text) (x : Result ℕ E) → G u x → ParsesUnsigned k 10 u x)
    → (f : Found) (id : Text) (r : Option ℕ) → HasNumberIn low high id (rows_of f) → (one_text f id ≡ None → r ≡ None)
    → ((t : Text) → one_text f id ≡ Some t → ReadsOne G t r) → r ≡ number_given id (rows_of f)
number_read G k low high fits only f id r has absent read = go (first_of id (rows_of f)) refl
  where
    go : (o : Option Text) → first_of id (rows_of f) ≡ o → r ≡ option_map number_of o
    go None e = absent (one_text-rows f id ∙ has.written ∙ e)
    go (Some t) e = number_in G k low high fits only t r (read t (one_text-rows f id ∙ has.written ∙ e)) (rw e at has.number)

some_same : (a b : ℕ) → Some a ≡ Some b → a ≡ b
some_same a b e = cc

none_some : (b : ℕ) → None ≡ Some b → ⊥
none_some b e = cc

-- and it is in these bounds
pub number_bounded : (low high : ℕ) (id : Text) (rows : List Row) → HasNumberIn low high id rows → ForSome (number_given id rows) (λ n. (low ≤ n) × (n ≤ high))
number_bounded low high id rows has = go (first_of id rows) has.number
  where
    go : (o : Option Text) → IfSome o (IsUnsignedIn low high) → ForSome (option_map number_of o) (λ n. (low ≤ n) × (n ≤ high))
    go None passed = λ n e. absurd (none_some n e)
    go (Some t) passed = λ n e. let same : number_of t ≡ n = some_same (number_of t) n e in (omega (arith, passed.2, same), omega (arith, passed.3, same))

pub bounded_or_one : (o : Option ℕ) (high : ℕ) → 1 ≤ high → ForSome o (λ n. (1 ≤ n) × (n ≤ high)) → (1 ≤ unwrap_or o 1) × (unwrap_or o 1 ≤ high)
bounded_or_one None high some bounded = (omega arith, some)
bounded_or_one (Some n) high some bounded = bounded n refl

-- a positional that is there was given a number
pub number_there : (low high : ℕ) (id : Text) (rows : List Row) (o : Option ℕ) (r d : ℕ) → IsNumberIn low high id rows → o ≡ number_given id rows → r ≡ unwrap_or o d → (number_given id rows ≡ Some r) × (low ≤ r) × (r ≤ high)
number_there low high id rows o r d is same read = go (first_of id rows) is.there is.number.number same
  where
    go : (f : Option Text) → is_some f ≡ true → IfSome f (IsUnsignedIn low high) → o ≡ option_map number_of f → (option_map number_of f ≡ Some r) × (low ≤ r) × (r ≤ high)
    go None there bounds same = absurd (true≢false (sym there))
    go (Some t) there bounds same =
        let value : number_of t ≡ r = sym (read ∙ ap (λ p. unwrap_or p d) same) in
        (ap Some value, omega (arith, bounds.2, value), omega (arith, bounds.3, value))
