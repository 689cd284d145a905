-- What is bound has the type that it has where it is written.
use Rattle.std.proofs.Common.{◌≡◌, ◌∙◌, ap, sym, subst, refl, ℕ, zero, suc, ◌+◌, ◌<◌, ℤ, Bool, true, false, ◌&&◌, nat_lt, List, [], ◌∷◌, ◌++◌, length, Option, Some, None, Result, Ok, Err, arith}
use Rattle.std.specs.Prelude.{slice_get, if◌then◌else◌, IfSome, IfOk}
use Rattle.std.specs.Option.{option_map}
use Rattle.std.proofs.lemmas.Option.{slice_get-map, slice_get_within}
use Rattle.std.proofs.lemmas.Bool.{lt-ltb}
use Rattle.ssq_value.specs.declared.column.ColType.{ColType}
use Rattle.ssq_value.specs.declared.column.ColType.TheVariants as type
use Rattle.ssq_value.specs.declared.column.Column.{Column}
use Rattle.ssq_shape.specs.Kinds.{is_kind, gives, kind_with}
use Rattle.ssq_shape.specs.declared.bound.Aggregate.{Aggregate}
use Rattle.ssq_shape.specs.declared.bound.Function.TheVariants as function
use Rattle.ssq_shape.specs.declared.typed.Typed.{Typed}
use Rattle.ssq_shape.specs.declared.typed.Typed.TheVariants as typed
use Rattle.ssq_ast.specs.declared.expr.BinaryOp.{BinaryOp}
use Rattle.ssq_ast.specs.declared.expr.BinaryOp.TheVariants as op
use Rattle.ssq_ast.specs.declared.expr.ColumnRef.{ColumnRef}
use Rattle.ssq_ast.specs.declared.expr.Expr.{Expr}
use Rattle.ssq_ast.specs.declared.expr.Expr.TheVariants as expr
use Rattle.ssq_ast.specs.declared.expr.Function.{Function as Called}
use Rattle.ssq_ast.specs.declared.expr.Ident.{Ident}
use Rattle.ssq_ast.specs.declared.expr.NullTest.{NullTest}
use Rattle.ssq_ast.specs.declared.expr.NullTest.TheVariants as null_test
use Rattle.ssq_ast.specs.declared.expr.UnaryOp.{UnaryOp}
use Rattle.ssq_ast.specs.declared.expr.UnaryOp.TheVariants as unary_op
use Rattle.ssq_ast.specs.Expression.{only}
use Rattle.ssq_check.specs.declared.fault.BindFault.{BindFault}
use Rattle.ssq_check.specs.declared.scope.Key.{Key}
use Rattle.ssq_check.specs.declared.scope.Scope.{Scope}
use Rattle.ssq_check.specs.declared.scope.Side.TheVariants as side
use Rattle.ssq_check.specs.declared.scope.Source.{Source}
use Rattle.ssq_check.specs.declared.scope.Spot.{Spot}
use Rattle.ssq_check.specs.declared.scope.Within.{Within}
use Rattle.ssq_check.specs.declared.scope.Within.TheVariants as within
use Rattle.ssq_check.specs.Joined.{spot_in, spot_by}
use Rattle.ssq_check.specs.Rules.{operands_of, operator_kind, unary_kind, aggregate_kind, between_kind, divides, is_sum, is_shift, may_stand, type_of, of_one, together, if_divides, kind}
use Rattle.ssq_check.specs.Scope.{bare_spot, named_spot, grouped, column_kind_by, column_kind}
use Rattle.ssq_check.proofs.Behind.{all_behind}
use Rattle.ssq_bind.specs.declared.context.Context.{Context}
use Rattle.ssq_bind.specs.Typed.{column_kinds, source_kinds, row_kinds}
use Rattle.ssq_bind.specs.Value.{width, behind, row_index, column_value, unary_value, null_value, binary_value, between_value, shift_of, shift_by, shifted_or, shifted_value, function_of, numbered, given, count, literal, value_of, aggregates_of, row_value}
use Rattle.ssq_bind.proofs.Opened.{counted}
use Rattle.ssq_bind.proofs.Spots.{OfColumns, of_spot}

-- ---- columns

pub in_left : {A : Type 0} (xs ys : List A) (k : ℕ) (x : A) → slice_get xs k ≡ Some x → slice_get (xs ++ ys) k ≡ Some x
in_left [] ys k x is = absurd cc
in_left (z ∷ xs) ys zero x is = is
in_left (z ∷ xs) ys (suc k) x is = in_left xs ys k x is

one_more : (n m k : ℕ) → n ≡ suc m → n + k ≡ suc (m + k)
one_more n m k is = omega (arith, is)

pub in_right : {A : Type 0} (xs ys : List A) (k : ℕ) → slice_get (xs ++ ys) (length xs + k) ≡ slice_get ys k
in_right [] ys k = ap (slice_get ys) (all_behind k)
in_right (x ∷ xs) ys k = ap (slice_get (x ∷ (xs ++ ys))) (one_more (length (x ∷ xs)) (length xs) k refl) ∙ in_right xs ys k

length_kinds : (columns : List Column) → length (column_kinds columns) ≡ length columns
length_kinds [] = refl
length_kinds (column ∷ columns) = ap suc (length_kinds columns)

width_is : (source : Option Source) → length (source_kinds source) ≡ width source
width_is None = refl
width_is (Some source) = length_kinds source.columns

module _ (scope : Scope) where
  -- a column stands in the row where it is looked up, with its type
  abbrev pub Stands : Spot → Type 0
  Stands spot = slice_get (row_kinds scope) (row_index scope (Some spot)) ≡ Some spot.kind

  pub if_true : {A : Type 0} (b : Bool) (x y : A) → b ≡ true → (if b then x else y) ≡ x
  if_true true x y is = refl
  if_true false x y is = absurd cc

  pub lt_true : (m n : ℕ) → m < n → nat_lt m n ≡ true
  lt_true m n less = lt-ltb m n less

  column_stands : OfColumns scope Stands
  column_stands side.Left source at column stands is =
      in_left (source_kinds scope.left) (source_kinds scope.right) at column.kind
      (rw stands (slice_get-map (λ (x : Column). x.kind) source.columns at ∙ ap (option_map (λ (x : Column). x.kind)) is))
  column_stands side.Right source at column stands is =
      let within : at < width scope.right = rw stands (slice_get_within source.columns at column is) in
      let index : behind (width scope.left) (width scope.right) at ≡ length (source_kinds scope.left) + at = if_true (nat_lt at (width scope.right)) (width scope.left + at) 0 (lt_true at (width scope.right) within) ∙ (λ i. sym (width_is scope.left) i + at) in
      ap (slice_get (row_kinds scope)) index
      ∙ in_right (source_kinds scope.left) (source_kinds scope.right) at
      ∙ rw stands (slice_get-map (λ (x : Column). x.kind) source.columns at ∙ ap (option_map (λ (x : Column). x.kind)) is)

  pub spot_stands : (stream : Option Ident) (column : Ident) → IfOk (spot_by scope stream column) Stands
  spot_stands = of_spot scope Stands column_stands

-- ---- operators

module _ (aggregates kinds : List ColType) where
  -- the expression has this type, where there is one
  abbrev pub Has : Option ColType → Typed → Type 0
  Has own x = IfSome own (λ t. kind_with aggregates kinds x ≡ Some t)

  has : (own : Option ColType) (x : Typed) → kind_with aggregates kinds x ≡ own → Has own x
  has None x is = tt
  has (Some t) x is = is

  unary_has : (o : UnaryOp) (own : Option ColType) (x : Typed) → Has own x → Has (of_one (unary_kind o) own) (unary_value o x)
  unfolding kind_with
  unary_has o None x is = tt
  unary_has unary_op.Not (Some t) x is = has (gives type.Bool (is_kind type.Bool (Some t))) (unary_value unary_op.Not x) (rw is refl)
  unary_has unary_op.Minus (Some t) x is = has (gives type.Bigint (is_kind type.Bigint (Some t))) (unary_value unary_op.Minus x) (rw is refl)

  null_has : (test : NullTest) (own : Option ColType) (x : Typed) → Has own x → Has (of_one (λ t. Some type.Bool) own) (null_value test x)
  unfolding kind_with
  null_has test None x is = tt
  null_has null_test.Null (Some t) x is = rw is refl
  null_has null_test.NotNull (Some t) x is = rw is refl

  operator_has : (o : BinaryOp) (a b : ColType) (x y : Typed) → kind_with aggregates kinds x ≡ Some a → kind_with aggregates kinds y ≡ Some b → kind_with aggregates kinds (binary_value o x y) ≡ operator_kind (operands_of o) a b
  unfolding kind_with
  operator_has op.Or a b x y p q = rw (p, q) refl
  operator_has _ a b x y p q = rw (p, q) refl

  binary_has : (o : BinaryOp) (divided : Bool) (a b : Option ColType) (x y : Typed) → Has a x → Has b y → Has (if_divides divided (of_one (λ pair. operator_kind (operands_of o) pair.0 pair.1) (together a b))) (binary_value o x y)
  binary_has o false a b x y p q = tt
  binary_has o true None b x y p q = tt
  binary_has o true (Some a) None x y p q = tt
  binary_has o true (Some a) (Some b) x y p q = has (operator_kind (operands_of o) a b) (binary_value o x y) (operator_has o a b x y p q)

  between_has : (a b c : Option ColType) (x y z : Typed) → Has a x → Has b y → Has c z → Has (of_one (λ triple. between_kind triple.0.0 triple.0.1 triple.1) (together (together a b) c)) (between_value x y z)
  unfolding kind_with
  between_has None b c x y z p q r = tt
  between_has (Some a) None c x y z p q r = tt
  between_has (Some a) (Some b) None x y z p q r = tt
  between_has (Some a) (Some b) (Some c) x y z p q r = has (between_kind a b c) (between_value x y z) (rw (p, q, r) refl)

  pub shifted_has : (own : Option ColType) (x : Typed) (by : ℤ) → Has own x → is_kind type.Timestamp own ≡ true → kind_with aggregates kinds (shifted_value x by) ≡ Some type.Timestamp
  unfolding kind_with
  shifted_has None x by is time = absurd cc
  shifted_has (Some own) x by is time = rw (is, time) refl

  none_has : (o : BinaryOp) (divided : Bool) (a : Option ColType) (x : Typed) → Has (if_divides divided (of_one (λ pair. operator_kind (operands_of o) pair.0 pair.1) (together {B = ColType} a None))) x
  none_has o false a x = tt
  none_has o true None x = tt
  none_has o true (Some a) x = tt

  -- a span after an operator: a time in front of `+` and `-` is shifted, and nothing else has a type
  span_has : (o : BinaryOp) (time divided : Bool) (a : Option ColType) (x y : Typed) (by : ℤ) → is_kind type.Timestamp a ≡ time → Has a x →
      Has (if is_sum o && true && time then Some type.Timestamp else if_divides divided (of_one (λ pair. operator_kind (operands_of o) pair.0 pair.1) (together {B = ColType} a None))) (shifted_or (shift_by o by) x (binary_value o x y))
  span_has op.Add true divided a x y by is p = shifted_has a x by p is
  span_has op.Add false divided a x y by is p = none_has op.Add divided a _
  span_has op.Subtract true divided a x y by is p = shifted_has a x _ p is
  span_has op.Subtract false divided a x y by is p = none_has op.Subtract divided a _
  span_has o time divided a x y by is p = none_has o divided a _

  no_shift : (sum time : Bool) → (sum && false && time) ≡ false
  no_shift true time = refl
  no_shift false time = refl

  -- anything else after it
  other_has : (o : BinaryOp) (time divided : Bool) (a b : Option ColType) (x y : Typed) → Has a x → Has b y →
      Has (if is_sum o && false && time then Some type.Timestamp else if_divides divided (of_one (λ pair. operator_kind (operands_of o) pair.0 pair.1) (together a b))) (binary_value o x y)
  other_has o time divided a b x y p q = rw (no_shift (is_sum o) time) (binary_has o divided a b x y p q)

  module _ (scope : Scope) (w : Within) (o : BinaryOp) (divided : Bool) (a : Option ColType) (x y : Typed) where
    behind_has : (b : Expr) → Has a x → Has (kind scope w b) y →
        Has (if is_shift o a b then Some type.Timestamp else if_divides divided (of_one (λ pair. operator_kind (operands_of o) pair.0 pair.1) (together a (kind scope w b)))) (shifted_or (shift_of o b) x (binary_value o x y))
    unfolding kind shift_of
    behind_has (expr.Interval span at) p q = span_has o (is_kind type.Timestamp a) divided a x y span.micros refl p
    behind_has b p q = other_has o (is_kind type.Timestamp a) divided a (kind scope w b) x y p q

-- ---- the whole

spot_has : (scope : Scope) (keys : List Key) (at : ℕ) (r : Result Spot BindFault) → IfOk r (Stands scope) → Has [] (row_kinds scope) (type_of (grouped keys within.Row at r)) (typed.Column (row_index scope (spot_in r)))
unfolding kind_with
spot_has scope keys at (Err f) is = tt
spot_has scope keys at (Ok spot) is = is

pub column_has : (scope : Scope) (stream : Option Ident) (column : Ident) → Has [] (row_kinds scope) (type_of (column_kind_by scope within.Row stream column)) (typed.Column (row_index scope (spot_in (spot_by scope stream column))))
column_has scope None column = spot_has scope scope.keys column.at (bare_spot scope column) (spot_stands scope None column)
column_has scope (Some stream) column = spot_has scope scope.keys stream.at (named_spot scope stream column) (spot_stands scope (Some stream) column)

-- what an expression is bound to has its type, where the columns and the aggregates in it have theirs; of the aggregates
-- before and in it something is said that holds of their parts
pub record HaveTypes (scope : Scope) (context : Context) (w : Within) (aggregates kinds : List ColType) (Stand : ℕ → List Aggregate → Type 0) : Type 0 where
  pub column : (c : ColumnRef) → Has aggregates kinds (type_of (column_kind scope w c)) (column_value context w c)
  pub rows : (n : ℕ) → Stand n (given w (record { function = function.Count; argument = None })) → Has aggregates kinds (may_stand w (Some type.Bigint)) (numbered w n)
  pub called : (n : ℕ) (f : Called) (x : Expr) → Stand n (given w (record { function = function_of f; argument = Some (row_value context x) })) → Has aggregates kinds (may_stand w (of_one (aggregate_kind f) (kind scope within.Row x))) (numbered w n)
  pub front : (n : ℕ) (xs ys : List Aggregate) → Stand n (xs ++ ys) → Stand n xs
  pub back : (n : ℕ) (xs ys : List Aggregate) → Stand n (xs ++ ys) → Stand (n + length xs) ys

three : (n a b : ℕ) → (n + a) + b ≡ n + (a + b)
three n a b = omega arith

module _ (scope : Scope) (context : Context) (w : Within) (aggregates kinds : List ColType) (Stand : ℕ → List Aggregate → Type 0) (have : HaveTypes scope context w aggregates kinds Stand) where
  behind_own : (n : ℕ) (a : Expr) (ys : List Aggregate) → Stand n (aggregates_of context w a ++ ys) → Stand (n + count w a) ys
  behind_own n a ys stand = subst (λ (m : ℕ). Stand (n + m) ys) (counted context w a) (have.back n (aggregates_of context w a) ys stand)

  pub typed_at : (n : ℕ) (e : Expr) → Stand n (aggregates_of context w e) → Has aggregates kinds (kind scope w e) (value_of context w n e)
  unfolding kind literal value_of kind_with aggregates_of
  typed_at n (expr.Number m at) stand = refl
  typed_at n (expr.Text text at) stand = refl
  typed_at n (expr.Truth truth at) stand = refl
  typed_at n (expr.Timestamp moment at) stand = refl
  typed_at n (expr.Interval span at) stand = tt
  typed_at n (expr.Column column) stand = have.column column
  typed_at n (expr.CountRows at) stand = have.rows n stand
  typed_at n (expr.Aggregate' f at p (only x)) stand = have.called n f x stand
  typed_at n (expr.Unary' o at p (only x)) stand = unary_has aggregates kinds o (kind scope w x) (value_of context w n x) (typed_at n x stand)
  typed_at n (expr.IsNull' p (only x) at test) stand = null_has aggregates kinds test (kind scope w x) (value_of context w n x) (typed_at n x stand)
  typed_at n (expr.Binary' left_at p (only a) o at right_at q (only b)) stand =
      behind_has aggregates kinds scope w o (divides o b) (kind scope w a) (value_of context w n a) (value_of context w (n + count w a) b) b
      (typed_at n a (have.front n (aggregates_of context w a) (aggregates_of context w b) stand))
      (typed_at (n + count w a) b (behind_own n a (aggregates_of context w b) stand))
  typed_at n (expr.Between' p (only a) at q (only b) r (only c)) stand =
      let more : Stand (n + count w a) (aggregates_of context w b ++ aggregates_of context w c) = behind_own n a (aggregates_of context w b ++ aggregates_of context w c) stand in
      let last : Stand (n + (count w a + count w b)) (aggregates_of context w c) = subst (λ (m : ℕ). Stand m (aggregates_of context w c)) (three n (count w a) (count w b)) (behind_own (n + count w a) b (aggregates_of context w c) more) in
      between_has aggregates kinds (kind scope w a) (kind scope w b) (kind scope w c)
      (value_of context w n a) (value_of context w (n + count w a) b) (value_of context w (n + (count w a + count w b)) c)
      (typed_at n a (have.front n (aggregates_of context w a) (aggregates_of context w b ++ aggregates_of context w c) stand))
      (typed_at (n + count w a) b (have.front (n + count w a) (aggregates_of context w b) (aggregates_of context w c) more))
      (typed_at (n + (count w a + count w b)) c last)

-- on rows no aggregate has a type
abbrev pub AnyStand : ℕ → List Aggregate → Type 0
AnyStand n xs = Unit {0}

pub rows_have : (scope : Scope) (context : Context) → ((c : ColumnRef) → Has [] (row_kinds scope) (type_of (column_kind scope within.Row c)) (column_value context within.Row c))
    → HaveTypes scope context within.Row [] (row_kinds scope) AnyStand
rows_have scope context column = record { column = column; rows = λ n stand. tt; called = λ n f x stand. tt; front = λ n xs ys stand. tt; back = λ n xs ys stand. tt }

pub own_rows_have : (context : Context) → HaveTypes context.scope context within.Row [] (row_kinds context.scope) AnyStand
own_rows_have context = rows_have context.scope context (λ c. column_has context.scope c.stream c.column)

pub row_typed : (context : Context) (n : ℕ) (e : Expr) → Has [] (row_kinds context.scope) (kind context.scope within.Row e) (value_of context within.Row n e)
row_typed context n e = typed_at context.scope context within.Row [] (row_kinds context.scope) AnyStand (own_rows_have context) n e tt
