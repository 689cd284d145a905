-- The time of a key is told by one of its values.
use Rattle.std.proofs.Common.{◌≡◌, [], ◌∷◌, ◌+◌, ℕ, zero, suc, ℤ, List, Option, Some, None, Bool, true, false, cond, length, arith, refl, ap, sym, subst, ◌∙◌, w64, to_z, of_z}
use Rattle.std.specs.Prelude.{All, IfSome, not, if◌then◌else◌, nat_lt, option_map, slice_get}
use Rattle.std.specs.List.{AllByRecursion, position, position_or_len}
use Rattle.std.proofs.lemmas.Bool.{le-ltb, lt-ltb, ltb-false, ltb-true}
use Rattle.std.proofs.lemmas.Int.{ints, to_z-of_z}
use Rattle.std.proofs.lemmas.List.Elements.{recursion_from_All}
use Rattle.ssq_time.specs.Time.{IsStampTime}
use Rattle.ssq_value.specs.declared.value.Value.{Value}
use Rattle.ssq_value.specs.declared.value.Value.TheVariants.{Null, Int, Text, Time, Truth}
use Rattle.ssq_shape.specs.declared.bound.GroupKey.{GroupKey}
use Rattle.ssq_shape.specs.declared.bound.GroupKey.TheVariants as key
use Rattle.ssq_shape.specs.Evaluation.{cell_at, time_in}
use Rattle.ssq_shape.specs.Late.{is_column_of, is_event, is_window_of}
use Rattle.ssq_meaning.specs.declared.place.KeyPlace.TheVariants.{Event}
use Rattle.ssq_meaning.specs.Dedup as dedup
use Rattle.ssq_meaning.specs.Fit.{IsFit}
use Rattle.ssq_meaning.specs.Group.{end_of, event_time, window_end}
use Rattle.ssq_meaning.specs.Meaning.{Values}
use Rattle.ssq_meaning.specs.Placed.{end_at, end_if, placed_time}

one_more : (n : ℕ) → suc n ≡ 1 + n
one_more n = omega arith

less_one : (a b : ℕ) → nat_lt a b ≡ nat_lt (1 + a) (suc b)
less_one a b = by (nat_lt a b) refl
  where
    by : (is_less : Bool) → nat_lt a b ≡ is_less → nat_lt a b ≡ nat_lt (1 + a) (suc b)
    by true is = is ∙ sym (lt-ltb (1 + a) (suc b) (omega (arith, ltb-true a b is)))
    by false is = is ∙ sym (le-ltb (1 + a) (suc b) (omega (arith, ltb-false a b is)))

-- what the first part that passes makes of the value beside it
abbrev first_of : {X : Type 0} → (X → Bool) → (X → Value → Option ℤ) → List X → Values → Option ℤ
first_of p f [] values = None
first_of p f (x ∷ xs) [] = None
first_of p f (x ∷ xs) (value ∷ values) = if p x then f x value else first_of p f xs values

-- the same by its place
abbrev pub at_place : {X : Type 0} → (List X → Values → ℕ → Option ℤ) → List X → Values → Option ℕ → Option ℤ
at_place told xs values None = None
at_place told xs values (Some at) = told xs values at

module _ {X : Type 0} (p : X → Bool) (f : X → Value → Option ℤ) (told : List X → Values → ℕ → Option ℤ)
    (here : (x : X) (xs : List X) (value : Value) (values : Values) → told (x ∷ xs) (value ∷ values) 0 ≡ f x value)
    (behind : (x : X) (xs : List X) (value : Value) (values : Values) (at : ℕ) → told (x ∷ xs) (value ∷ values) (suc at) ≡ told xs values at)
    (nothing : (xs : List X) (at : ℕ) → told xs [] at ≡ None) where
  none_at : (xs : List X) (place : Option ℕ) → at_place told xs [] place ≡ None
  none_at xs None = refl
  none_at xs (Some at) = nothing xs at

  first_is : (xs : List X) (values : Values) → first_of p f xs values ≡ at_place told xs values (position p xs)
  first_is [] values = refl
  first_is (x ∷ xs) [] = sym (none_at (x ∷ xs) (position p (x ∷ xs)))
  first_is (x ∷ xs) (value ∷ values) = by (p x) (first_is xs values)
    where
      on : (is_within : Bool) (at : ℕ) → at_place told xs values (cond is_within (Some at) None) ≡ at_place told (x ∷ xs) (value ∷ values) (cond is_within (Some (1 + at)) None)
      on true at = sym (behind x xs value values at) ∙ ap (told (x ∷ xs) (value ∷ values)) (one_more at)
      on false at = refl

      by : (b : Bool) → first_of p f xs values ≡ at_place told xs values (position p xs)
          → (if b then f x value else first_of p f xs values)
          ≡ at_place told (x ∷ xs) (value ∷ values) (cond (nat_lt (cond (not b) (1 + position_or_len p xs) 0) (length (x ∷ xs))) (Some (cond (not b) (1 + position_or_len p xs) 0)) None)
      by true rest = sym (here x xs value values) ∙ ap (λ is_within. at_place told (x ∷ xs) (value ∷ values) (cond is_within (Some 0) None)) (sym (lt-ltb 0 (suc (length xs)) (omega arith)))
      by false rest =
          rest ∙ on (nat_lt (position_or_len p xs) (length xs)) (position_or_len p xs)
          ∙ ap (λ is_within. at_place told (x ∷ xs) (value ∷ values) (cond is_within (Some (1 + position_or_len p xs)) None)) (less_one (position_or_len p xs) (length xs))

-- ---- the end of a window

end_none : (parts : List GroupKey) (at : ℕ) → end_at parts [] at ≡ None
end_none parts at = by (slice_get parts at)
  where
    by : (part : Option GroupKey) → end_if part Null ≡ None
    by None = refl
    by (Some (key.Column column)) = refl
    by (Some (key.Window column size slide)) = refl

end_first : (event : Option ℕ) (parts : List GroupKey) (values : Values) → window_end event parts values ≡ first_of (is_window_of event) end_of parts values
unfolding window_end
end_first event [] values = refl
end_first event (part ∷ parts) [] = refl
end_first event (part ∷ parts) (value ∷ values) = ap (λ o. if is_window_of event part then end_of part value else o) (end_first event parts values)

pub end_placed : (event : Option ℕ) (parts : List GroupKey) (values : Values) → window_end event parts values ≡ at_place end_at parts values (position (is_window_of event) parts)
end_placed event parts values =
    end_first event parts values ∙ first_is (is_window_of event) end_of end_at (λ x xs value values. refl) (λ x xs value values at. refl) end_none parts values

-- ---- the event time

abbrev pub time_at : {X : Type 0} → List X → Values → ℕ → Option ℤ
time_at xs values at = placed_time (Some (Event at)) values

same : (time : Option ℤ) → option_map (λ own. own) time ≡ time
same None = refl
same (Some own) = refl

event_first : (event : Option ℕ) (parts : List GroupKey) (values : Values) → event_time event parts values ≡ first_of (is_column_of event) (λ part. time_in) parts values
unfolding event_time
event_first event [] values = refl
event_first event (part ∷ parts) [] = refl
event_first event (part ∷ parts) (value ∷ values) = ap (λ o. if is_column_of event part then time_in value else o) (event_first event parts values)

column_first : (event : Option ℕ) (columns : List ℕ) (values : Values) → dedup.event_time event columns values ≡ first_of (is_event event) (λ column. time_in) columns values
unfolding dedup.event_time
column_first event [] values = refl
column_first event (column ∷ columns) [] = refl
column_first event (column ∷ columns) (value ∷ values) = ap (λ o. if is_event event column then time_in value else o) (column_first event columns values)

time_is : {X : Type 0} (p : X → Bool) (xs : List X) (values : Values) → first_of p (λ x. time_in) xs values ≡ at_place time_at xs values (position p xs)
time_is p xs values = first_is p (λ x. time_in) time_at (λ x xs value values. same (time_in value)) (λ x xs value values at. refl) (λ xs at. refl) xs values

pub event_placed : (event : Option ℕ) (parts : List GroupKey) (values : Values) → event_time event parts values ≡ at_place time_at parts values (position (is_column_of event) parts)
event_placed event parts values = event_first event parts values ∙ time_is (is_column_of event) parts values

pub column_placed : (event : Option ℕ) (columns : List ℕ) (values : Values) → dedup.event_time event columns values ≡ at_place time_at columns values (position (is_event event) columns)
column_placed event columns values = column_first event columns values ∙ time_is (is_event event) columns values

-- ---- the years of a key's times

stamped : (value : Value) → IsFit value → IfSome (time_in value) IsStampTime
stamped Null fit = tt
stamped (Int number) fit = tt
stamped (Text text) fit = tt
stamped (Time time) fit = fit
stamped (Truth truth) fit = tt

stamped_in : (key : Values) → AllByRecursion IsFit key → (at : ℕ) → IfSome (time_in (cell_at key at)) IsStampTime
stamped_in [] fit at = tt
stamped_in (value ∷ values) fit zero = stamped value fit.0
stamped_in (value ∷ values) fit (suc at) = stamped_in values fit.1 at

-- the time at a place of a key that a state can hold
pub stamp_at : (key : Values) → All IsFit key → (at : ℕ) (time : ℤ) → time_in (cell_at key at) ≡ Some time → IsStampTime time
stamp_at key fit at time is = subst (λ found. IfSome found IsStampTime) is (stamped_in key (recursion_from_All IsFit key fit) at)

-- a time of these years as a number of 64 bits
pub as_number : (time : ℤ) → IsStampTime time → to_z w64 (of_z w64 time) ≡ time
as_number time years = to_z-of_z w64 time (record { sfits = grind (arith, ints, years.0, years.1) })
