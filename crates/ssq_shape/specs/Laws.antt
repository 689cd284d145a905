-- The value of an expression has the expression's type, and its times are of the years 0001 to 9999.
use Rattle.std.proofs.Common.{◌≡◌, ℕ, zero, suc, ℤ, pos, neg_ℤ, ◌+ℤ◌, ◌-ℤ◌, ◌*ℤ◌, Bool, true, false, List, [], ◌∷◌, ◌++◌, Option, Some, None, Result, Ok, Err, refl, subst, ap, ◌∙◌}
use Rattle.std.specs.Prelude.{All, IfOk, IfSome, if◌then◌else◌, slice_get, int_div, int_rem, nat_le, length, ◌&&◌}
use Rattle.std.specs.List.{AllByRecursion}
use Rattle.std.specs.Ordering.{int_eq}
use Rattle.std.proofs.lemmas.List.Elements.{recursion_from_All}
use Rattle.std.specs.Str.{is_utf8}
use lib.ListN.{length-append}
use Rattle.ssq_value.specs.declared.column.ColType.{ColType}
use Rattle.ssq_value.specs.declared.column.ColType.TheVariants as kind
use Rattle.ssq_value.specs.declared.value.Value.{Value}
use Rattle.ssq_value.specs.declared.value.Value.TheVariants.{Null, Int, Text, Time, Truth}
use Rattle.ssq_value.specs.Kind.{kind_of, IsHeldBy, IfTime}
use Rattle.ssq_time.specs.Time.{is_stamp_time}
use Rattle.ssq_shape.specs.declared.typed.Arithmetic.{Arithmetic}
use Rattle.ssq_shape.specs.declared.typed.Arithmetic.TheVariants.{Plus, Minus, Times, Quotient, Remainder}
use Rattle.ssq_shape.specs.declared.typed.Comparison.TheVariants.{AtMost, AtLeast}
use Rattle.ssq_shape.specs.declared.typed.Typed.{Typed}
use Rattle.ssq_shape.specs.Boxes.{only}
use Rattle.ssq_shape.specs.declared.typed.Typed.TheVariants.{Column, Aggregate, Constant, Negated', Not', IsNull', Arithmetic', Shifted', Joined', Compared', Between', And', Or'}
use Rattle.ssq_shape.specs.Evaluation.{is_bigint, is_null, longest, Overflow, overflow, Evaluated, and_then, bigint, cell_at, aggregate_at, constant, negated, calculated, arithmetic, shifted, joined, compared, number_in, time_in, text_in, truth_in, truth_value, truth_of, negation, both, either, conjunction, disjunction, evaluated_with}
use Rattle.ssq_shape.specs.Kinds.{gives, kind_with, AreHeldBy, AreFoundIn}

-- ---- what holds of each value that an operator can give

if_fits : (P : Value → Type 0) (fits : Bool) (value : Value) → (fits ≡ true → P value) → IfOk (if fits then Ok value else Err overflow) P
if_fits P true value holds = holds refl
if_fits P false value holds = tt

if_either : (P : Value → Type 0) (test : Bool) (a b : Evaluated) → IfOk a P → IfOk b P → IfOk (if test then a else b) P
if_either P true a b left right = left
if_either P false a b left right = right

then_ok : {A : Type 0} (P : Value → Type 0) (r : Result A Overflow) (f : A → Evaluated) → ((a : A) → IfOk (f a) P) → IfOk (and_then r f) P
then_ok P (Ok a) f holds = holds a
then_ok P (Err e) f holds = tt

bigint_ok : (P : Value → Type 0) → ((n : ℤ) → is_bigint n ≡ true → P (Int n)) → (z : ℤ) → IfOk (bigint z) P
bigint_ok P int z = if_fits P _ (Int z) (λ fits. int z fits)

negated_ok : (P : Value → Type 0) → P Null → ((n : ℤ) → is_bigint n ≡ true → P (Int n)) → (o : Option ℤ) → IfOk (negated o) P
negated_ok P null int None = null
negated_ok P null int (Some n) = bigint_ok P int (neg_ℤ n)

calculated_ok : (P : Value → Type 0) → P Null → ((n : ℤ) → is_bigint n ≡ true → P (Int n)) → (op : Arithmetic) (a b : ℤ) → IfOk (calculated op a b) P
calculated_ok P null int Plus a b = bigint_ok P int (a +ℤ b)
calculated_ok P null int Minus a b = bigint_ok P int (a -ℤ b)
calculated_ok P null int Times a b = bigint_ok P int (a *ℤ b)
calculated_ok P null int Quotient a b = if_either P (int_eq b (pos 0)) (Ok Null) (bigint (int_div a b)) null (bigint_ok P int (int_div a b))
calculated_ok P null int Remainder a b = if_either P (int_eq b (pos 0)) (Ok Null) (bigint (int_rem a b)) null (bigint_ok P int (int_rem a b))

arithmetic_ok : (P : Value → Type 0) → P Null → ((n : ℤ) → is_bigint n ≡ true → P (Int n)) → (op : Arithmetic) (a b : Option ℤ) → IfOk (arithmetic op a b) P
arithmetic_ok P null int op None b = null
arithmetic_ok P null int op (Some a) None = null
arithmetic_ok P null int op (Some a) (Some b) = calculated_ok P null int op a b

shifted_ok : (P : Value → Type 0) → P Null → ((t : ℤ) → is_stamp_time t ≡ true → P (Time t)) → (o : Option ℤ) (by : ℤ) → IfOk (shifted o by) P
shifted_ok P null time None by = null
shifted_ok P null time (Some t) by = if_fits P _ (Time (t +ℤ by)) (λ fits. time (t +ℤ by) fits)

joined_ok : (P : Value → Type 0) → P Null → ((t : List ℕ) → (nat_le (length t) longest && is_utf8 t) ≡ true → P (Text t)) → (a b : Option (List ℕ)) → IfOk (joined a b) P
joined_ok P null text None b = null
joined_ok P null text (Some a) None = null
joined_ok P null text (Some a) (Some b) = if_fits P _ (Text (a ++ b)) (λ fits. text (a ++ b) (ap (λ n. nat_le n longest && is_utf8 (a ++ b)) (length-append a b) ∙ fits))

truth_ok : (P : Value → Type 0) → P Null → ((t : Bool) → P (Truth t)) → (o : Option Bool) → P (truth_value o)
truth_ok P null truth None = null
truth_ok P null truth (Some t) = truth t

conjunction_ok : (P : Value → Type 0) → P Null → ((t : Bool) → P (Truth t)) → (o : Option Bool) (right : Result (Option Bool) Overflow) → IfOk (conjunction o right) P
conjunction_ok P null truth (Some false) right = truth false
conjunction_ok P null truth (Some true) right = then_ok P right _ (λ side. truth_ok P null truth (both (Some true) side))
conjunction_ok P null truth None right = then_ok P right _ (λ side. truth_ok P null truth (both None side))

disjunction_ok : (P : Value → Type 0) → P Null → ((t : Bool) → P (Truth t)) → (o : Option Bool) (right : Result (Option Bool) Overflow) → IfOk (disjunction o right) P
disjunction_ok P null truth (Some true) right = truth true
disjunction_ok P null truth (Some false) right = then_ok P right _ (λ side. truth_ok P null truth (either (Some false) side))
disjunction_ok P null truth None right = then_ok P right _ (λ side. truth_ok P null truth (either None side))

-- ---- the type

cell_held : (kinds : List ColType) (row : List Value) (at : ℕ) (kind : ColType) → AreHeldBy kinds row → slice_get kinds at ≡ Some kind → IsHeldBy kind (cell_at row at)
cell_held [] row at kind held there = absurd cc
cell_held (own ∷ kinds) [] at kind held there = absurd held
cell_held (own ∷ kinds) (value ∷ row) zero kind held there =
    let same : own ≡ kind = cc in
    subst (λ k. IsHeldBy k value) same held.0
cell_held (own ∷ kinds) (value ∷ row) (suc at) kind held there = cell_held kinds row at kind held.1 there

aggregate_held : (kinds : List ColType) (aggregates : List (Option Value)) (at : ℕ) (kind : ColType) → AreFoundIn kinds aggregates → slice_get kinds at ≡ Some kind → IfOk (aggregate_at aggregates at) (IsHeldBy kind)
aggregate_held [] aggregates at kind found there = absurd cc
aggregate_held (own ∷ kinds) [] at kind found there = absurd found
aggregate_held (own ∷ kinds) (None ∷ aggregates) zero kind found there = tt
aggregate_held (own ∷ kinds) (Some value ∷ aggregates) zero kind found there =
    let same : own ≡ kind = cc in
    subst (λ k. IsHeldBy k value) same found.0
aggregate_held (own ∷ kinds) (aggregate ∷ aggregates) (suc at) kind found there = aggregate_held kinds aggregates at kind found.1 there

constant_held : (value : Value) (kind : ColType) → kind_of value ≡ Some kind → IfOk (constant value) (IsHeldBy kind)
constant_held Null kind is = absurd cc
constant_held (Int n) kind is = if_fits (IsHeldBy kind) _ (Int n) (λ _. cc)
constant_held (Text text) kind is = if_fits (IsHeldBy kind) _ (Text text) (λ _. cc)
constant_held (Time t) kind is = if_fits (IsHeldBy kind) _ (Time t) (λ _. cc)
constant_held (Truth truth) kind is = cc

by_kind : (own kind : ColType) (right : Bool) (r : Evaluated) → gives own right ≡ Some kind → IfOk r (IsHeldBy own) → IfOk r (IsHeldBy kind)
by_kind own kind false r is held = absurd cc
by_kind own kind true r is held =
    let same : own ≡ kind = cc in
    subst (λ k. IfOk r (IsHeldBy k)) same held

pub value_held : (aggregate_kinds kinds : List ColType) (aggregates : List (Option Value)) (row : List Value) (x : Typed) (own : ColType) → AreFoundIn aggregate_kinds aggregates → AreHeldBy kinds row → kind_with aggregate_kinds kinds x ≡ Some own → IfOk (evaluated_with aggregates x row) (IsHeldBy own)
unfolding evaluated_with kind_with
value_held aggregate_kinds kinds aggregates row (Column at) own found held is = cell_held kinds row at own held is
value_held aggregate_kinds kinds aggregates row (Aggregate at) own found held is = aggregate_held aggregate_kinds aggregates at own found is
value_held aggregate_kinds kinds aggregates row (Constant value) own found held is = constant_held value own is
value_held aggregate_kinds kinds aggregates row (Negated' p (only x)) own found held is = by_kind kind.Bigint own _ _ is (then_ok (IsHeldBy kind.Bigint) (evaluated_with aggregates x row) _ (λ value. negated_ok (IsHeldBy kind.Bigint) tt (λ _ _. refl) (number_in value)))
value_held aggregate_kinds kinds aggregates row (Not' p (only x)) own found held is = by_kind kind.Bool own _ _ is (then_ok (IsHeldBy kind.Bool) (evaluated_with aggregates x row) _ (λ value. truth_ok (IsHeldBy kind.Bool) tt (λ _. refl) (negation (truth_in value))))
value_held aggregate_kinds kinds aggregates row (IsNull' p (only x)) own found held is = by_kind kind.Bool own _ _ is (then_ok (IsHeldBy kind.Bool) (evaluated_with aggregates x row) _ (λ _. refl))
value_held aggregate_kinds kinds aggregates row (Arithmetic' op p (only a) q (only b)) own found held is = by_kind kind.Bigint own _ _ is (then_ok (IsHeldBy kind.Bigint) (evaluated_with aggregates a row) _ (λ left. then_ok (IsHeldBy kind.Bigint) (evaluated_with aggregates b row) _ (λ right. arithmetic_ok (IsHeldBy kind.Bigint) tt (λ _ _. refl) op (number_in left) (number_in right))))
value_held aggregate_kinds kinds aggregates row (Shifted' p (only x) by) own found held is = by_kind kind.Timestamp own _ _ is (then_ok (IsHeldBy kind.Timestamp) (evaluated_with aggregates x row) _ (λ value. shifted_ok (IsHeldBy kind.Timestamp) tt (λ _ _. refl) (time_in value) by))
value_held aggregate_kinds kinds aggregates row (Joined' p (only a) q (only b)) own found held is = by_kind kind.Str own _ _ is (then_ok (IsHeldBy kind.Str) (evaluated_with aggregates a row) _ (λ left. then_ok (IsHeldBy kind.Str) (evaluated_with aggregates b row) _ (λ right. joined_ok (IsHeldBy kind.Str) tt (λ _ _. refl) (text_in left) (text_in right))))
value_held aggregate_kinds kinds aggregates row (Compared' comparison p (only a) q (only b)) own found held is = by_kind kind.Bool own _ _ is (then_ok (IsHeldBy kind.Bool) (evaluated_with aggregates a row) _ (λ left. then_ok (IsHeldBy kind.Bool) (evaluated_with aggregates b row) _ (λ right. truth_ok (IsHeldBy kind.Bool) tt (λ _. refl) (compared comparison left right))))
value_held aggregate_kinds kinds aggregates row (Between' p (only a) q (only b) r (only c)) own found held is = by_kind kind.Bool own _ _ is (then_ok (IsHeldBy kind.Bool) (evaluated_with aggregates a row) _ (λ value. then_ok (IsHeldBy kind.Bool) (evaluated_with aggregates b row) _ (λ least. conjunction_ok (IsHeldBy kind.Bool) tt (λ _. refl) (compared AtLeast value least) (and_then (evaluated_with aggregates c row) (λ most. Ok (compared AtMost value most))))))
value_held aggregate_kinds kinds aggregates row (And' p (only a) q (only b)) own found held is = by_kind kind.Bool own _ _ is (then_ok (IsHeldBy kind.Bool) (evaluated_with aggregates a row) _ (λ left. conjunction_ok (IsHeldBy kind.Bool) tt (λ _. refl) (truth_in left) (truth_of (evaluated_with aggregates b row))))
value_held aggregate_kinds kinds aggregates row (Or' p (only a) q (only b)) own found held is = by_kind kind.Bool own _ _ is (then_ok (IsHeldBy kind.Bool) (evaluated_with aggregates a row) _ (λ left. disjunction_ok (IsHeldBy kind.Bool) tt (λ _. refl) (truth_in left) (truth_of (evaluated_with aggregates b row))))

-- ---- what stays so

-- what holds of each value that an operator or a constant can give
pub record HoldsOfResults (P : Value → Type 0) : Type 0 where
  pub null : P Null
  pub int : (n : ℤ) → is_bigint n ≡ true → P (Int n)
  pub text : (t : List ℕ) → (nat_le (length t) longest && is_utf8 t) ≡ true → P (Text t)
  pub time : (t : ℤ) → is_stamp_time t ≡ true → P (Time t)
  pub truth : (t : Bool) → P (Truth t)

cell_has : (P : Value → Type 0) (row : List Value) (at : ℕ) → P Null → AllByRecursion P row → P (cell_at row at)
cell_has P [] at null all = null
cell_has P (value ∷ row) zero null all = all.0
cell_has P (value ∷ row) (suc at) null all = cell_has P row at null all.1

aggregate_has : (P : Value → Type 0) (aggregates : List (Option Value)) (at : ℕ) → P Null → AllByRecursion (λ aggregate. IfSome aggregate P) aggregates → IfOk (aggregate_at aggregates at) P
aggregate_has P [] at null all = null
aggregate_has P (None ∷ aggregates) zero null all = tt
aggregate_has P (Some value ∷ aggregates) zero null all = all.0
aggregate_has P (aggregate ∷ aggregates) (suc at) null all = aggregate_has P aggregates at null all.1

constant_has : (P : Value → Type 0) → HoldsOfResults P → (value : Value) → IfOk (constant value) P
constant_has P results Null = results.null
constant_has P results (Int n) = if_fits P _ (Int n) (λ fits. results.int n fits)
constant_has P results (Text text) = if_fits P _ (Text text) (λ fits. results.text text fits)
constant_has P results (Time t) = if_fits P _ (Time t) (λ fits. results.time t fits)
constant_has P results (Truth truth) = results.truth truth

-- what holds of each such value, of each of the row and of each of the aggregates, holds of the value of an expression
pub value_has : (P : Value → Type 0) → HoldsOfResults P → (aggregates : List (Option Value)) → AllByRecursion (λ aggregate. IfSome aggregate P) aggregates → (row : List Value) → AllByRecursion P row → (x : Typed) → IfOk (evaluated_with aggregates x row) P
unfolding evaluated_with
value_has P rs aggregates found row all (Column at) = cell_has P row at rs.null all
value_has P rs aggregates found row all (Aggregate at) = aggregate_has P aggregates at rs.null found
value_has P rs aggregates found row all (Constant value) = constant_has P rs value
value_has P rs aggregates found row all (Negated' p (only x)) = then_ok P (evaluated_with aggregates x row) _ (λ value. negated_ok P rs.null rs.int (number_in value))
value_has P rs aggregates found row all (Not' p (only x)) = then_ok P (evaluated_with aggregates x row) _ (λ value. truth_ok P rs.null rs.truth (negation (truth_in value)))
value_has P rs aggregates found row all (IsNull' p (only x)) = then_ok P (evaluated_with aggregates x row) _ (λ value. rs.truth (is_null value))
value_has P rs aggregates found row all (Arithmetic' op p (only a) q (only b)) = then_ok P (evaluated_with aggregates a row) _ (λ left. then_ok P (evaluated_with aggregates b row) _ (λ right. arithmetic_ok P rs.null rs.int op (number_in left) (number_in right)))
value_has P rs aggregates found row all (Shifted' p (only x) by) = then_ok P (evaluated_with aggregates x row) _ (λ value. shifted_ok P rs.null rs.time (time_in value) by)
value_has P rs aggregates found row all (Joined' p (only a) q (only b)) = then_ok P (evaluated_with aggregates a row) _ (λ left. then_ok P (evaluated_with aggregates b row) _ (λ right. joined_ok P rs.null rs.text (text_in left) (text_in right)))
value_has P rs aggregates found row all (Compared' comparison p (only a) q (only b)) = then_ok P (evaluated_with aggregates a row) _ (λ left. then_ok P (evaluated_with aggregates b row) _ (λ right. truth_ok P rs.null rs.truth (compared comparison left right)))
value_has P rs aggregates found row all (Between' p (only a) q (only b) r (only c)) = then_ok P (evaluated_with aggregates a row) _ (λ value. then_ok P (evaluated_with aggregates b row) _ (λ least. conjunction_ok P rs.null rs.truth (compared AtLeast value least) (and_then (evaluated_with aggregates c row) (λ most. Ok (compared AtMost value most)))))
value_has P rs aggregates found row all (And' p (only a) q (only b)) = then_ok P (evaluated_with aggregates a row) _ (λ left. conjunction_ok P rs.null rs.truth (truth_in left) (truth_of (evaluated_with aggregates b row)))
value_has P rs aggregates found row all (Or' p (only a) q (only b)) = then_ok P (evaluated_with aggregates a row) _ (λ left. disjunction_ok P rs.null rs.truth (truth_in left) (truth_of (evaluated_with aggregates b row)))

-- ---- times

times_hold : (Q : ℤ → Type 0) → ((t : ℤ) → is_stamp_time t ≡ true → Q t) → HoldsOfResults (IfTime Q)
times_hold Q printable = record { null = tt; int = λ n fits. tt; text = λ t fits. tt; time = printable; truth = λ t. tt }

-- so a value that is a time is one of the years 0001 to 9999, where each time of the row and of the aggregates is
pub value_timed : (Q : ℤ → Type 0) → ((t : ℤ) → is_stamp_time t ≡ true → Q t) → (aggregates : List (Option Value)) → AllByRecursion (λ aggregate. IfSome aggregate (IfTime Q)) aggregates → (row : List Value) → All (IfTime Q) row → (x : Typed) → IfOk (evaluated_with aggregates x row) (IfTime Q)
value_timed Q printable aggregates found row all x = value_has (IfTime Q) (times_hold Q printable) aggregates found row (recursion_from_All (IfTime Q) row all) x
