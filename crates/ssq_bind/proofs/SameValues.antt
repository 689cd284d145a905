-- What an expression is once its names are bound doesn't depend on places.
use Rattle.std.proofs.Common.{ℤ, pos, ◌≡◌, ◌∙◌, ap, sym, refl, ℕ, ◌+◌, Bool, true, false, List, [], ◌∷◌, ◌++◌, map, Option, Some, None}
use Rattle.std.specs.Prelude.{if◌then◌else◌, slice_get}
use Rattle.std.specs.List.{flat_map}
use Rattle.std.specs.Option.{option_map}
use Rattle.std.proofs.lemmas.List.{map-append}
use Rattle.ssq_ast.specs.declared.expr.BinaryOp.{BinaryOp}
use Rattle.ssq_ast.specs.declared.expr.ColumnRef.{ColumnRef}
use Rattle.ssq_ast.specs.declared.expr.Expr.{Expr}
use Rattle.ssq_ast.specs.declared.expr.Expr.TheVariants as expr
use Rattle.ssq_ast.specs.declared.query.Join.{Join}
use Rattle.ssq_ast.specs.Expression.{only, erased_column, erased_expr}
use Rattle.ssq_ast.specs.Places.{erased_join}
use Rattle.ssq_shape.specs.declared.bound.Aggregate.{Aggregate}
use Rattle.ssq_shape.specs.declared.bound.KeyPair.{KeyPair}
use Rattle.ssq_shape.specs.declared.bound.TimeBound.{TimeBound}
use Rattle.ssq_shape.specs.declared.typed.Typed.{Typed}
use Rattle.ssq_shape.specs.declared.typed.Typed.TheVariants as typed
use Rattle.ssq_check.specs.declared.scope.Scope.{Scope}
use Rattle.ssq_check.specs.declared.scope.Within.{Within}
use Rattle.ssq_check.specs.declared.scope.Within.TheVariants as within
use Rattle.ssq_check.specs.Joined.{is_and, looked, bare_column}
use Rattle.ssq_bind.specs.declared.context.Context.{Context}
use Rattle.ssq_bind.specs.Joins.{parts_of, pair_of, key_pair, shifted_column, spot_index, or_none, span_of, time_bound, keys_in, bounds_in, rest_by, rest_in, kind_of, joining_of}
use Rattle.ssq_bind.specs.Lists.{listed}
use Rattle.ssq_bind.specs.Value.{row_index, or_zero, window_value, column_value, unary_value, null_value, binary_value, between_value, shift_of, shifted_or, function_of, one, numbered, given, count, literal, value_of, aggregates_of}
use Rattle.ssq_bind.proofs.SameNames.{flat_same, spot_same, window_same, key_index_same}

pub column_same : (context : Context) (w : Within) (column : ColumnRef) → column_value context w (erased_column column) ≡ column_value context w column
column_same context within.Row column = ap (λ spot. typed.Column (row_index context.scope spot)) (spot_same context.scope column)
column_same context within.Group column = λ i.
    if window_same context.scope column i then window_value context.size (or_zero (key_index_same context.scope column i)) column.column.text
    else typed.Column (or_zero (key_index_same context.scope column i))

looked_by : (scope : Scope) (column : Option ColumnRef) → looked scope (option_map erased_column column) ≡ looked scope column
looked_by scope None = refl
looked_by scope (Some column) = spot_same scope column

parts_by : (b : Bool) (own : Expr) (left right xs ys : List Expr) → left ≡ map erased_expr xs → right ≡ map erased_expr ys →
    (if b then left ++ right else erased_expr own ∷ []) ≡ map erased_expr (if b then xs ++ ys else own ∷ [])
parts_by true own left right xs ys one two = (λ i. one i ++ two i) ∙ sym (map-append erased_expr xs ys)
parts_by false own left right xs ys one two = refl

-- what is asked of an expression, so that it is bound and another around it
record Seen : Type 0 where
  shift : BinaryOp → Option ℤ
  count : Within → ℕ
  value : Within → ℕ → Typed
  aggregates : Within → List Aggregate
  bare : Option ColumnRef
  shifted : Option ColumnRef
  span : ℤ
  pair : Option KeyPair
  bound : Option TimeBound
  parts : List Expr

-- nothing by itself and no part of ON but a whole one
abbrev operator : Expr → (Within → ℕ) → (Within → ℕ → Typed) → (Within → List Aggregate) → Seen
operator e count value aggregates = record {
  shift = λ o. None;
  count = count;
  value = value;
  aggregates = aggregates;
  bare = None;
  shifted = None;
  span = pos 0;
  pair = None;
  bound = None;
  parts = e ∷ [];
}

abbrev placeless : Seen → Seen
placeless s = record s { bare = option_map erased_column s.bare; shifted = option_map erased_column s.shifted; parts = map erased_expr s.parts }

module _ (context : Context) where
  abbrev seen : Expr → Seen
  seen e = record {
    shift = λ o. shift_of o e;
    count = λ w. count w e;
    value = λ w n. value_of context w n e;
    aggregates = λ w. aggregates_of context w e;
    bare = bare_column e;
    shifted = shifted_column e;
    span = span_of e;
    pair = key_pair context.scope e;
    bound = time_bound context.scope e;
    parts = parts_of e;
  }

  seen_same : (e : Expr) → seen (erased_expr e) ≡ placeless (seen e)
  unfolding shift_of count literal value_of aggregates_of shifted_column span_of key_pair time_bound parts_of
  seen_same (expr.Column column) = λ i. record (placeless (seen (expr.Column column))) { value = λ w n. column_same context w column i }
  seen_same (expr.Aggregate' f at p (only x)) = λ i.
      operator (erased_expr (expr.Aggregate' f at p (only x))) one numbered (λ w. given w (record { function = function_of f; argument = Some ((seen_same x i).value within.Row 0) }))
  seen_same (expr.Unary' o at p (only x)) = λ i.
      operator (erased_expr (expr.Unary' o at p (only x))) (seen_same x i).count (λ w n. unary_value o ((seen_same x i).value w n)) (seen_same x i).aggregates
  seen_same (expr.IsNull' p (only x) at test) = λ i.
      operator (erased_expr (expr.IsNull' p (only x) at test)) (seen_same x i).count (λ w n. null_value test ((seen_same x i).value w n)) (seen_same x i).aggregates
  seen_same (expr.Binary' left_at p (only a) o at right_at q (only b)) =
      let left = ap (looked context.scope) (λ i. (seen_same a i).bare) ∙ looked_by context.scope (bare_column a) in
      let right = ap (looked context.scope) (λ i. (seen_same b i).bare) ∙ looked_by context.scope (bare_column b) in
      let parts = parts_by (is_and o) (expr.Binary' left_at p (only a) o at right_at q (only b)) (parts_of (erased_expr a)) (parts_of (erased_expr b)) (parts_of a) (parts_of b) (λ i. (seen_same a i).parts) (λ i. (seen_same b i).parts) in
      λ i. record {
        shift = λ other. None;
        count = λ w. (seen_same a i).count w + (seen_same b i).count w;
        value = λ w n. shifted_or ((seen_same b i).shift o) ((seen_same a i).value w n) (binary_value o ((seen_same a i).value w n) ((seen_same b i).value w (n + (seen_same a i).count w)));
        aggregates = λ w. (seen_same a i).aggregates w ++ (seen_same b i).aggregates w;
        bare = None;
        shifted = (seen_same a i).bare;
        span = or_none ((seen_same b i).shift o);
        pair = pair_of o (left i) (right i);
        bound = None;
        parts = parts i;
      }
  seen_same (expr.Between' p (only a) at q (only b) r (only c)) =
      let left = ap (looked context.scope) (λ i. (seen_same b i).shifted) ∙ looked_by context.scope (shifted_column b) in
      let right = ap (looked context.scope) (λ i. (seen_same a i).bare) ∙ looked_by context.scope (bare_column a) in
      λ i. record (operator (erased_expr (expr.Between' p (only a) at q (only b) r (only c)))
      (λ w. (seen_same a i).count w + ((seen_same b i).count w + (seen_same c i).count w))
      (λ w n. between_value ((seen_same a i).value w n) ((seen_same b i).value w (n + (seen_same a i).count w)) ((seen_same c i).value w (n + ((seen_same a i).count w + (seen_same b i).count w))))
      (λ w. (seen_same a i).aggregates w ++ ((seen_same b i).aggregates w ++ (seen_same c i).aggregates w)))
      { bound = Some (record { left = spot_index (left i); right = spot_index (right i); lo = (seen_same b i).span; hi = (seen_same c i).span }) }
  seen_same _ = refl

  pub value_same : (w : Within) (n : ℕ) (e : Expr) → value_of context w n (erased_expr e) ≡ value_of context w n e
  value_same w n e = λ i. (seen_same e i).value w n

  pub aggregates_same : (w : Within) (e : Expr) → aggregates_of context w (erased_expr e) ≡ aggregates_of context w e
  aggregates_same w e = λ i. (seen_same e i).aggregates w

  pub bare_column_same : (e : Expr) → bare_column (erased_expr e) ≡ option_map erased_column (bare_column e)
  bare_column_same e = λ i. (seen_same e i).bare

  -- ---- ON

  each_same : {A : Type 0} (f : Expr → List A) → ((e : Expr) → f (erased_expr e) ≡ f e) → (e : Expr) → flat_map f (parts_of (erased_expr e)) ≡ flat_map f (parts_of e)
  each_same f one e = (λ i. flat_map f (seen_same e i).parts) ∙ flat_same f erased_expr f one (parts_of e)

  rest_same : (e : Expr) → rest_in context (erased_expr e) ≡ rest_in context e
  rest_same e = λ i. rest_by (seen_same e i).pair (seen_same e i).bound ((seen_same e i).value within.Row 0)

  pub joining_same : (join : Join) → joining_of context (erased_join join) ≡ joining_of context join
  joining_same join = λ i. record {
    kind = kind_of join.kind;
    keys = each_same (keys_in context) (λ e j. listed (seen_same e j).pair) join.on.value i;
    bound = slice_get (each_same (bounds_in context) (λ e j. listed (seen_same e j).bound) join.on.value i) 0;
    rest = each_same (rest_in context) rest_same join.on.value i;
  }
