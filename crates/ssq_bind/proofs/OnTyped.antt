-- ON is well typed once it is bound.
use Rattle.std.proofs.Common.{◌≡◌, ◌∙◌, ap, sym, subst, refl, arith, ℕ, Bool, true, false, not, ◌&&◌, List, [], ◌∷◌, map, Option, Some, None, Result, Ok, Err}
use Rattle.std.specs.Prelude.{slice_get, position, nat_eq, if◌then◌else◌, IfSome, IfOk}
use Rattle.std.specs.List.{AllByRecursion, flat_map}
use Rattle.std.specs.Option.{option_map, IsSomeAnd}
use Rattle.std.specs.Str.{bytes_eq}
use Rattle.std.proofs.lemmas.Bool.Decides.{nat_tests}
use Rattle.std.proofs.lemmas.Option.{slice_get-map}
use Rattle.ssq_value.specs.declared.column.ColType.{ColType}
use Rattle.ssq_value.specs.declared.column.ColType.TheVariants as type
use Rattle.ssq_value.specs.declared.column.Column.{Column}
use Rattle.ssq_shape.specs.Kinds.{is_kind, gives, kind_in}
use Rattle.ssq_shape.specs.declared.bound.KeyPair.{KeyPair}
use Rattle.ssq_shape.specs.declared.bound.TimeBound.{TimeBound}
use Rattle.ssq_shape.specs.declared.typed.Typed.{Typed}
use Rattle.ssq_ast.specs.declared.expr.BinaryOp.{BinaryOp}
use Rattle.ssq_ast.specs.declared.expr.BinaryOp.TheVariants as op
use Rattle.ssq_ast.specs.declared.expr.ColumnRef.{ColumnRef}
use Rattle.ssq_ast.specs.declared.expr.Expr.{Expr}
use Rattle.ssq_ast.specs.declared.expr.Expr.TheVariants as expr
use Rattle.ssq_ast.specs.declared.expr.Ident.{Ident}
use Rattle.ssq_ast.specs.Expression.{only}
use Rattle.ssq_check.specs.declared.fault.BindFault.{BindFault}
use Rattle.ssq_check.specs.declared.joined.Edge.TheVariants as edge
use Rattle.ssq_check.specs.declared.scope.Key.{Key}
use Rattle.ssq_check.specs.declared.scope.Scope.{Scope}
use Rattle.ssq_check.specs.declared.scope.Side.{Side}
use Rattle.ssq_check.specs.declared.scope.Side.TheVariants as side
use Rattle.ssq_check.specs.declared.scope.Source.{Source}
use Rattle.ssq_check.specs.declared.scope.Spot.{Spot}
use Rattle.ssq_check.specs.declared.scope.Within.TheVariants as within
use Rattle.ssq_check.specs.Fault.{AreNone}
use Rattle.ssq_check.specs.Joined.{Conjunct, conjuncts, is_and, are_across, is_edge, spot_in, spot_by, looked, bare_column, is_at, is_event_by, is_event, if_so, edge_column, low_column, high_column, is_right, are_bound, is_bound, BoundFaults}
use Rattle.ssq_check.specs.Names.{is_there}
use Rattle.ssq_check.specs.Rules.{type_of, kind, of_one, together, is_interval, operator_kind, operands_of}
use Rattle.ssq_check.specs.Scope.{spot_from, spot_where, in_columns, bare_spot, named_spot, is_same_side, grouped}
use Rattle.ssq_check.specs.Sound.{IsTimeSpot}
use Rattle.ssq_check.specs.Names.{row_scope, scope_of}
use Rattle.ssq_check.specs.Sound.{IsSoundJoin}
use Rattle.ssq_ast.specs.declared.query.Join.{Join}
use Rattle.ssq_ast.specs.declared.query.Query.{Query}
use Rattle.std.proofs.lemmas.List.Elements.{All-from_recursion}
use Rattle.std.proofs.lemmas.Bool.{and_parts}
use Rattle.ssq_bind.specs.Bound.{context_of}
use Rattle.ssq_bind.specs.Joins.{parts_of, pair_on, pair_by, pair_of, key_pair, spot_index, shifted_column, span_of, bound_by, time_bound, rest_by, rest_in, joining_of}
use Rattle.ssq_bind.specs.Lists.{listed}
use Rattle.ssq_bind.specs.Value.{row_value}
use Rattle.ssq_bind.proofs.EachPart.{parts_have, first_has}
use Rattle.ssq_bind.proofs.EachShape.{if_some_at}
use Rattle.ssq_bind.proofs.GroupLemmas.{all_both}
use Rattle.ssq_bind.proofs.Kept.{AnyStand, typed_at, rows_have, column_has}
use Rattle.ssq_bind.proofs.OnLemmas.{value_in, values_are, same_spot}
use Rattle.ssq_bind.proofs.Spots.{OfColumns, of_spot, side_source}
use Rattle.ssq_bind.proofs.TimeBoundLemmas.{sides_there, column_there}
use Rattle.ssq_bind.specs.Shapes.{spot_kind}
use Rattle.ssq_bind.specs.Typed.{column_kinds, source_kinds, row_kinds, PairsOneType, BoundsTimes, IsTypedJoin}

-- ---- a column stands in a row of its own stream, with its type

module _ (scope : Scope) where
  abbrev pub StandsAside : Spot → Type 0
  StandsAside spot = slice_get (source_kinds (side_source scope spot.side)) spot.index ≡ Some spot.kind

  column_aside : OfColumns scope StandsAside
  column_aside own source at column stands is = rw stands (slice_get-map (λ (x : Column). x.kind) source.columns at ∙ ap (option_map (λ (x : Column). x.kind)) is)

  found_aside : (r : Result Spot BindFault) → IfOk r StandsAside → IfSome (spot_in r) StandsAside
  found_aside (Ok spot) is = is
  found_aside (Err f) is = tt

  looked_aside : (o : Option ColumnRef) → IfSome (looked scope o) StandsAside
  looked_aside None = tt
  looked_aside (Some column) = found_aside (spot_by scope column.stream column.column) (of_spot scope StandsAside column_aside column.stream column.column)

  -- ---- key equalities

  row_kind : (keys : List Key) (at : ℕ) (r : Result Spot BindFault) → type_of (grouped keys within.Row at r) ≡ spot_kind (spot_in r)
  row_kind keys at (Err f) = refl
  row_kind keys at (Ok spot) = refl

  column_is : (stream : Option Ident) (column : Ident) → kind scope within.Row (expr.Column (record { stream = stream; column = column })) ≡ spot_kind (spot_in (spot_by scope stream column))
  unfolding kind
  column_is None column = row_kind scope.keys column.at (bare_spot scope column)
  column_is (Some stream) column = row_kind scope.keys stream.at (named_spot scope stream column)

  -- the expression is no column, or has the type of the column
  bare_is : (e : Expr) → IfSome (looked scope (bare_column e)) (λ spot. kind scope within.Row e ≡ Some spot.kind)
  bare_is (expr.Column column) = by (looked scope (Some column)) (column_is column.stream column.column)
    where
      by : (o : Option Spot) → kind scope within.Row (expr.Column column) ≡ spot_kind o → IfSome o (λ spot. kind scope within.Row (expr.Column column) ≡ Some spot.kind)
      by None is = tt
      by (Some spot) is = is
  bare_is _ = tt

same_kind : (a b : ColType) → is_kind a (Some b) ≡ true → a ≡ b
same_kind type.Bigint type.Bigint is = refl
same_kind type.Str type.Str is = refl
same_kind type.Timestamp type.Timestamp is = refl
same_kind type.Bool type.Bool is = refl
same_kind _ _ is = absurd cc

gives_there : (own : ColType) (b : Bool) → is_there (gives own b) ≡ true → b ≡ true
gives_there own true is = refl
gives_there own false is = absurd cc

alike_there : (a b : Option ColType) (s t : ColType) → is_there (of_one (λ pair. operator_kind (operands_of op.Equal) pair.0 pair.1) (together a b)) ≡ true → a ≡ Some s → b ≡ Some t → s ≡ t
alike_there a b s t is p q =
    let Both : Option ColType → Option ColType → Type 0 = λ x y. is_there (of_one (λ pair. operator_kind (operands_of op.Equal) pair.0 pair.1) (together x y)) ≡ true in
    same_kind s t (gives_there type.Bool (is_kind s (Some t)) (subst (λ x. Both x (Some t)) p (subst (λ y. Both a y) q is)))

module _ (scope : Scope) where
  abbrev Pairs : KeyPair → Type 0
  Pairs pair = PairsOneType (source_kinds scope.left) (source_kinds scope.right) pair

  pair_sides : (own other : Side) (i k : ℕ) (t : ColType) → slice_get (source_kinds (side_source scope own)) i ≡ Some t → slice_get (source_kinds (side_source scope other)) k ≡ Some t
      → not (is_same_side own other) ≡ true → Pairs (pair_on own i k)
  pair_sides side.Left side.Right i k t p q across = record { own = t; of_left = p; of_right = q }
  pair_sides side.Right side.Left i k t p q across = record { own = t; of_left = q; of_right = p }
  pair_sides side.Left side.Left i k t p q across = absurd cc
  pair_sides side.Right side.Right i k t p q across = absurd cc

  pair_typed : (a b : Option Spot) → IfSome a (StandsAside scope) → IfSome b (StandsAside scope) → (across : Bool) → are_across a b ≡ across
      → ((x y : Spot) → a ≡ Some x → b ≡ Some y → x.kind ≡ y.kind) → IfSome (pair_by (if across then a else None) b) Pairs
  pair_typed None b p q true is same = tt
  pair_typed (Some a) None p q true is same = tt
  pair_typed (Some a) (Some b) p q true is same = pair_sides a.side b.side a.index b.index a.kind p (q ∙ ap Some (sym (same a b refl refl))) is
  pair_typed a b p q false is same = tt

-- ---- the bound

-- a column of this name is one of times, wherever it is looked for
time_from : (own : Side) (columns : List Column) (at k : ℕ) (got : Option Column) → slice_get columns at ≡ got → IsSomeAnd (spot_from side.Left at got) IsTimeSpot
    → is_at (spot_from own at got) k ≡ true → slice_get (column_kinds columns) k ≡ Some type.Timestamp
time_from own columns at k None is time here = absurd cc
time_from own columns at k (Some column) is time here =
    let same : at ≡ k = grind (arith, nat_tests) in
    rw (sym same) (slice_get-map (λ (x : Column). x.kind) columns at ∙ ap (option_map (λ (x : Column). x.kind)) is ∙ ap Some time)

time_where : (own : Side) (columns : List Column) (k : ℕ) (place : Option ℕ) → IsSomeAnd (spot_where side.Left columns place) IsTimeSpot
    → is_at (spot_where own columns place) k ≡ true → slice_get (column_kinds columns) k ≡ Some type.Timestamp
time_where own columns k None time here = absurd cc
time_where own columns k (Some at) time here = time_from own columns at k (slice_get columns at) refl time here

-- the watermark of a stream is one of its columns, and a TIMESTAMP
abbrev pub HasTimes : Source → Type 0
HasTimes source = IfSome source.watermark (λ name. IsSomeAnd (in_columns side.Left source.columns name) IsTimeSpot)

event_by : (columns : List Column) (watermark : Option (List ℕ)) (spot : Spot) → IfSome watermark (λ name. IsSomeAnd (in_columns side.Left columns name) IsTimeSpot)
    → slice_get (column_kinds columns) spot.index ≡ Some spot.kind → is_event_by watermark columns spot ≡ true → slice_get (column_kinds columns) spot.index ≡ Some type.Timestamp
event_by columns None spot times stands is = stands ∙ ap Some (sym (same_kind type.Timestamp spot.kind is))
event_by columns (Some name) spot times stands is = time_where spot.side columns spot.index (position (λ (column : Column). bytes_eq column.name name) columns) times is

event_time : (source : Option Source) (spot : Spot) → IfSome source HasTimes → slice_get (source_kinds source) spot.index ≡ Some spot.kind → is_event source spot ≡ true
    → slice_get (source_kinds source) spot.index ≡ Some type.Timestamp
event_time None spot times stands is = absurd cc
event_time (Some source) spot times stands is = event_by source.columns source.watermark spot times stands is

low_by : (b : Bool) (column : Option ColumnRef) → is_there (if_so b column) ≡ true → if_so b column ≡ column
low_by true column there = refl
low_by false column there = absurd cc

-- the column of a lower side
low_is : (e : Expr) → is_there (low_column e) ≡ true → shifted_column e ≡ low_column e
unfolding edge_column shifted_column
low_is (expr.Column column) there = refl
low_is (expr.Binary' left_at p (only a) o at right_at q (only b)) there = sym (low_by (is_edge edge.Low o && is_interval b) (bare_column a) there)
low_is _ there = absurd cc

-- what the test of a bound says of its sides
record AreSides (scope : Scope) (r low : Spot) : Type 0 where
  right : r.side ≡ side.Right
  left : low.side ≡ side.Left
  events : (is_event scope.right r ≡ true) × (is_event scope.left low ≡ true)

right_is : (own : Side) → is_right own ≡ true → own ≡ side.Right
right_is side.Right is = refl
right_is side.Left is = absurd cc

left_is : (own : Side) → not (is_right own) ≡ true → own ≡ side.Left
left_is side.Left is = refl
left_is side.Right is = absurd cc

six : (a b c d e f : Bool) → (a && b && c && d && e && f) ≡ true → (a ≡ true) × (b ≡ true) × (e ≡ true) × (f ≡ true)
six true true true true true true is = (refl, refl, refl, refl)
six false b c d e f is = absurd cc
six true false c d e f is = absurd cc
six true true false d e f is = absurd cc
six true true true false e f is = absurd cc
six true true true true false f is = absurd cc
six true true true true true false is = absurd cc

module _ (scope : Scope) (left_times : IfSome scope.left HasTimes) (right_times : IfSome scope.right HasTimes) where
  abbrev Bounds : TimeBound → Type 0
  Bounds bound = BoundsTimes (source_kinds scope.left) (source_kinds scope.right) bound

  right_time : (r : Spot) → StandsAside scope r → r.side ≡ side.Right → is_event scope.right r ≡ true → slice_get (source_kinds scope.right) r.index ≡ Some type.Timestamp
  right_time r stands at event =
      event_time scope.right r right_times (subst (λ (own : Side). slice_get (source_kinds (side_source scope own)) r.index ≡ Some r.kind) at stands) event

  left_time : (low : Spot) → StandsAside scope low → low.side ≡ side.Left → is_event scope.left low ≡ true → slice_get (source_kinds scope.left) low.index ≡ Some type.Timestamp
  left_time low stands at event =
      event_time scope.left low left_times (subst (λ (own : Side). slice_get (source_kinds (side_source scope own)) low.index ≡ Some low.kind) at stands) event

  spots_bound : (r low high : Option Spot) → IfSome r (StandsAside scope) → IfSome low (StandsAside scope) → are_bound scope r low high ≡ true
      → (slice_get (source_kinds scope.left) (spot_index low) ≡ Some type.Timestamp) × (slice_get (source_kinds scope.right) (spot_index r) ≡ Some type.Timestamp)
  spots_bound (Some r) (Some low) (Some high) p q is =
      let all = six (is_right r.side) (not (is_right low.side)) (not (is_right high.side)) (nat_eq low.index high.index) (is_event scope.right r) (is_event scope.left low) is in
      (left_time low q (left_is low.side all.1) all.3, right_time r p (right_is r.side all.0) all.2)
  spots_bound (Some r) (Some low) None p q is = absurd cc
  spots_bound (Some r) None high p q is = absurd cc
  spots_bound None low high p q is = absurd cc

  bound_typed : (a b c : Expr) → is_bound scope a b c ≡ true → Bounds (bound_by scope a b c)
  bound_typed a b c is =
      let times = spots_bound (looked scope (bare_column a)) (looked scope (low_column b)) (looked scope (high_column c)) (looked_aside scope (bare_column a)) (looked_aside scope (low_column b)) is in
      let there = column_there scope (low_column b) (sides_there scope (looked scope (bare_column a)) (looked scope (low_column b)) (looked scope (high_column c)) is).0 in
      record {
        of_left = ap (λ o. slice_get (source_kinds scope.left) (spot_index (looked scope o))) (low_is b there) ∙ times.0;
        of_right = times.1;
      }

-- ---- the parts of ON

-- BOOLEAN
abbrev IsTruth : Scope → Conjunct → Type 0
IsTruth scope part = kind scope within.Row part.value ≡ Some type.Bool

gives_some : (own told : ColType) (b : Bool) → gives own b ≡ Some told → b ≡ true
gives_some own told true is = refl
gives_some own told false is = absurd cc

and_truths : (a b : Option ColType) → of_one (λ pair. operator_kind (operands_of op.And) pair.0 pair.1) (together a b) ≡ Some type.Bool → (a ≡ Some type.Bool) × (b ≡ Some type.Bool)
and_truths (Some a) (Some b) is =
    let both = and_parts (is_kind type.Bool (Some a)) (is_kind type.Bool (Some b)) (gives_some type.Bool type.Bool (is_kind type.Bool (Some a) && is_kind type.Bool (Some b)) is) in
    (ap Some (sym (same_kind type.Bool a both.0)), ap Some (sym (same_kind type.Bool b both.1)))
and_truths (Some a) None is = absurd cc
and_truths None b is = absurd cc

module _ (rows : Scope) where
  both_truths : (a b : Expr) (o : BinaryOp) (left_at at right_at : ℕ) → is_and o ≡ true → kind rows within.Row (expr.Binary' left_at tt (only a) o at right_at tt (only b)) ≡ Some type.Bool
      → (kind rows within.Row a ≡ Some type.Bool) × (kind rows within.Row b ≡ Some type.Bool)
  unfolding kind
  both_truths a b op.And left_at at right_at joins is = and_truths (kind rows within.Row a) (kind rows within.Row b) is
  both_truths a b _ left_at at right_at joins is = absurd cc

  parts_truths : (at : ℕ) (e : Expr) → kind rows within.Row e ≡ Some type.Bool → AllByRecursion (IsTruth rows) (conjuncts at e)
  parts_truths = parts_have (λ (e : Expr). kind rows within.Row e ≡ Some type.Bool) both_truths

  -- ---- each part

  equal_typed : (a b : Expr) (left_at at right_at : ℕ) → is_there (kind rows within.Row (expr.Binary' left_at tt (only a) op.Equal at right_at tt (only b))) ≡ true
      → IfSome (pair_of op.Equal (looked rows (bare_column a)) (looked rows (bare_column b))) (Pairs rows)
  unfolding kind
  equal_typed a b left_at at right_at is =
      pair_typed rows (looked rows (bare_column a)) (looked rows (bare_column b)) (looked_aside rows (bare_column a)) (looked_aside rows (bare_column b))
      (are_across (looked rows (bare_column a)) (looked rows (bare_column b))) refl
      (λ x y p q. alike_there (kind rows within.Row a) (kind rows within.Row b) x.kind y.kind is
      (if_some_at (λ spot. kind rows within.Row a ≡ Some spot.kind) (looked rows (bare_column a)) x (bare_is rows a) p)
      (if_some_at (λ spot. kind rows within.Row b ≡ Some spot.kind) (looked rows (bare_column b)) y (bare_is rows b) q))

  part_pair : (e : Expr) → is_there (kind rows within.Row e) ≡ true → IfSome (key_pair rows e) (Pairs rows)
  unfolding key_pair
  part_pair (expr.Binary' left_at p (only a) op.Equal at right_at q (only b)) is = equal_typed a b left_at at right_at is
  part_pair (expr.Binary' left_at p (only a) _ at right_at q (only b)) is = tt
  part_pair _ is = tt

  some_listed : {A : Type 0} (P : A → Type 0) (o : Option A) → IfSome o P → AllByRecursion P (listed o)
  some_listed P None is = tt
  some_listed P (Some x) is = (is, tt)

  abbrev keys_at : Expr → List KeyPair
  keys_at e = listed (key_pair rows e)

  abbrev bounds_at : Expr → List TimeBound
  bounds_at e = listed (time_bound rows e)

  keys_typed : (parts : List Conjunct) → AllByRecursion (IsTruth rows) parts → AllByRecursion (Pairs rows) (flat_map keys_at (map value_in parts))
  keys_typed [] all = tt
  keys_typed (part ∷ parts) all =
      all_both (Pairs rows) (keys_at part.value) (flat_map keys_at (map value_in parts))
      (some_listed (Pairs rows) (key_pair rows part.value) (part_pair part.value (ap is_there all.0))) (keys_typed parts all.1)

  module _ (left_times : IfSome rows.left HasTimes) (right_times : IfSome rows.right HasTimes) where
    first_bounds : (parts : List Conjunct) → AllByRecursion (IsTruth rows) parts → AreNone (BoundFaults rows parts)
        → IfSome (slice_get (flat_map bounds_at (map value_in parts)) 0) (BoundsTimes (source_kinds rows.left) (source_kinds rows.right))
    first_bounds =
        first_has rows rows (λ (e : Expr). kind rows within.Row e ≡ Some type.Bool) (BoundsTimes (source_kinds rows.left) (source_kinds rows.right))
        (λ e is. ap is_there is) (λ a b c at is may. bound_typed rows left_times right_times a b c may)

-- ---- the whole

module _ (query : Query) where
  same_pair : (e : Expr) → key_pair (row_scope query) e ≡ key_pair (scope_of query) e
  unfolding key_pair
  same_pair (expr.Binary' left_at p (only a) o at right_at q (only b)) = λ i. pair_of o (sym (same_spot query (bare_column a)) i) (sym (same_spot query (bare_column b)) i)
  same_pair _ = refl

  same_bound : (e : Expr) → time_bound (row_scope query) e ≡ time_bound (scope_of query) e
  unfolding time_bound
  same_bound (expr.Between' p (only a) at q (only b) r (only c)) =
      λ i. Some (record { left = spot_index (sym (same_spot query (shifted_column b)) i); right = spot_index (sym (same_spot query (bare_column a)) i); lo = span_of b; hi = span_of c })
  same_bound _ = refl

  -- what is no key equality and no bound
  rest_truths : (parts : List Conjunct) → AllByRecursion (IsTruth (row_scope query)) parts
      → AllByRecursion (λ (x : Typed). kind_in (row_kinds (row_scope query)) x ≡ Some type.Bool) (flat_map (rest_in (context_of query)) (map value_in parts))
  unfolding context_of
  rest_truths [] all = tt
  rest_truths (part ∷ parts) all =
      let names : Scope = row_scope query in
      let own = typed_at names (context_of query) within.Row [] (row_kinds names) AnyStand (rows_have names (context_of query) (λ c. column_has names c.stream c.column)) 0 part.value tt in
      all_both (λ (x : Typed). kind_in (row_kinds names) x ≡ Some type.Bool) (rest_in (context_of query) part.value) (flat_map (rest_in (context_of query)) (map value_in parts))
      (by (key_pair (context_of query).scope part.value) (time_bound (context_of query).scope part.value) (row_value (context_of query) part.value)
      (subst (λ (own : Option ColType). IfSome own (λ t. kind_in (row_kinds names) (row_value (context_of query) part.value) ≡ Some t)) all.0 own))
      (rest_truths parts all.1)
    where
      by : (pair : Option KeyPair) (bound : Option TimeBound) (x : Typed) → kind_in (row_kinds (row_scope query)) x ≡ Some type.Bool
          → AllByRecursion (λ (x : Typed). kind_in (row_kinds (row_scope query)) x ≡ Some type.Bool) (rest_by pair bound x)
      by None None x is = (is, tt)
      by None (Some bound) x is = tt
      by (Some pair) bound x is = tt

  pub on_typed : (join : Join) → IsSoundJoin (row_scope query) query.select.from.text join → IfSome (row_scope query).left HasTimes → IfSome (row_scope query).right HasTimes
      → IsTypedJoin (source_kinds (row_scope query).left) (source_kinds (row_scope query).right) (joining_of (context_of query) join)
  unfolding context_of
  on_typed join sound left_times right_times =
      let names : Scope = row_scope query in
      let parts : List Conjunct = conjuncts join.on.at join.on.value in
      let truths = parts_truths names join.on.at join.on.value sound.condition in
      let es : map value_in parts ≡ parts_of join.on.value = values_are join.on.at join.on.value in
      record {
        keys = All-from_recursion (Pairs names) _ (subst (λ (pairs : List KeyPair). AllByRecursion (Pairs names) pairs)
            (λ i. flat_map (λ e. listed (same_pair e i)) (es i)) (keys_typed names parts truths));
        bound = subst (λ (bounds : List TimeBound). IfSome (slice_get bounds 0) (BoundsTimes (source_kinds names.left) (source_kinds names.right)))
            (λ i. flat_map (λ e. listed (same_bound e i)) (es i)) (first_bounds names left_times right_times parts truths sound.bound);
        rest = All-from_recursion (λ (x : Typed). kind_in (row_kinds names) x ≡ Some type.Bool) _
            (subst (λ (es : List Expr). AllByRecursion (λ (x : Typed). kind_in (row_kinds names) x ≡ Some type.Bool) (flat_map (rest_in (context_of query)) es)) es (rest_truths parts truths));
      }
