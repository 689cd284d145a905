-- Expressions on groups have their types.
use Rattle.std.proofs.Common.{◌≡◌, ◌∙◌, ap, sym, subst, refl, arith, ℕ, zero, suc, ◌+◌, Bool, true, false, ◌&&◌, List, [], ◌∷◌, ◌++◌, map, length, Option, Some, None, Result, Ok, Err}
use Rattle.std.specs.Prelude.{nat_eq, slice_get, position, if◌then◌else◌, All, IfSome, IfOk}
use Rattle.std.specs.List.{AllByRecursion, flat_map}
use Rattle.std.specs.Option.{option_map, IsSomeAnd}
use Rattle.std.proofs.lemmas.Bool.{and_parts}
use Rattle.std.proofs.lemmas.List.Elements.{All-head, All-tail}
use Rattle.std.proofs.lemmas.Option.{slice_get-map}
use Rattle.ssq_value.specs.declared.column.ColType.{ColType}
use Rattle.ssq_value.specs.declared.column.ColType.TheVariants as type
use Rattle.ssq_shape.specs.Kinds.{is_kind, gives, kind_with}
use Rattle.ssq_shape.specs.declared.bound.Aggregate.{Aggregate}
use Rattle.ssq_shape.specs.declared.bound.Function.TheVariants as function
use Rattle.ssq_shape.specs.declared.typed.Typed.{Typed}
use Rattle.ssq_shape.specs.declared.typed.Typed.TheVariants as typed
use Rattle.ssq_ast.specs.declared.expr.Expr.{Expr}
use Rattle.ssq_ast.specs.declared.expr.Expr.TheVariants as expr
use Rattle.ssq_ast.specs.declared.expr.Function.{Function as Called}
use Rattle.ssq_ast.specs.declared.expr.Function.TheVariants as called
use Rattle.ssq_ast.specs.declared.expr.Ident.{Ident}
use Rattle.ssq_ast.specs.declared.query.Group.{Group}
use Rattle.ssq_ast.specs.declared.query.Group.TheVariants as group
use Rattle.ssq_ast.specs.Expression.{only}
use Rattle.ssq_check.specs.declared.fault.BindFault.{BindFault}
use Rattle.ssq_check.specs.declared.fault.Cause.TheVariants as cause
use Rattle.ssq_check.specs.declared.scope.Key.{Key}
use Rattle.ssq_check.specs.declared.scope.Key.TheVariants as key
use Rattle.ssq_check.specs.declared.scope.Scope.{Scope}
use Rattle.ssq_check.specs.declared.scope.Side.{Side}
use Rattle.ssq_check.specs.declared.scope.Side.TheVariants as side
use Rattle.ssq_check.specs.declared.scope.Spot.{Spot}
use Rattle.ssq_check.specs.declared.scope.Within.TheVariants as within
use Rattle.ssq_check.specs.Joined.{spot_in}
use Rattle.ssq_check.specs.Names.{is_there, found_key, keys_of}
use Rattle.ssq_check.specs.Rules.{operands_of, operator_kind, unary_kind, aggregate_kind, between_kind, divides, is_interval, is_shift, is_sum, type_of, of_one, together, if_divides, kind}
use Rattle.ssq_check.specs.Scope.{bare_spot, named_spot, is_window_key, has_window, is_same_side, is_key_of, is_key, is_window_here, grouped, column_kind_by, column_kind}
use Rattle.ssq_check.specs.Sound.{IsTimeSpot, IsSoundGroupItem}
use Rattle.ssq_bind.specs.declared.context.Context.{Context}
use Rattle.ssq_bind.specs.Shapes.{kind_or_bigint, key_of}
use Rattle.ssq_bind.specs.Typed as kinds
use Rattle.ssq_bind.specs.Typed.{row_kinds, key_kind}
use Rattle.ssq_bind.specs.Value.{index_on, row_index, or_zero, key_spot, shifted_value, window_value, column_value, function_of, aggregates_of, row_value}
use Rattle.ssq_bind.proofs.Kept.{Stands, spot_stands, Has, in_left, in_right, HaveTypes, row_typed, shifted_has}
use Rattle.ssq_bind.proofs.Placed.{IsFound, found, found_is}

-- ---- aggregates

-- the type of an aggregate over rows of these types, where it has one
abbrev pub own_kind : List ColType → Aggregate → ColType
own_kind rows aggregate = kind_or_bigint (kinds.aggregate_kind rows aggregate)

abbrev pub IsCounted : List ColType → Aggregate → Type 0
IsCounted rows aggregate = kinds.aggregate_kind rows aggregate ≡ Some (own_kind rows aggregate)

same : (a b : Option ColType) → b ≡ a → IfSome a (λ t. b ≡ Some t)
same None b is = tt
same (Some t) b is = is

own_same : (o : Option ColType) (t : ColType) → o ≡ Some t → o ≡ Some (kind_or_bigint o)
own_same None t is = absurd cc
own_same (Some u) t is = refl

kind_or : (o : Option ColType) (t : ColType) → o ≡ Some t → kind_or_bigint o ≡ t
kind_or o t is = ap kind_or_bigint is

call_typed : (rows : List ColType) (f : Called) (own : Option ColType) (x : Typed) → Has [] rows own x
    → IfSome (of_one (aggregate_kind f) own) (λ t. kinds.argument_kind rows (function_of f) (Some x) ≡ Some t)
call_typed rows f None x is = tt
call_typed rows called.Count (Some own) x is = rw is refl
call_typed rows called.Sum (Some own) x is = same (gives type.Bigint (is_kind type.Bigint (Some own))) _ (rw is refl)
call_typed rows called.Min (Some own) x is = is
call_typed rows called.Max (Some own) x is = is

number_has : (rows keys : List ColType) (all : List Aggregate) (o : Option ColType) (n : ℕ) (aggregate : Aggregate) → slice_get all n ≡ Some aggregate
    → IfSome o (λ t. kinds.aggregate_kind rows aggregate ≡ Some t) → Has (map (own_kind rows) all) keys o (typed.Aggregate n)
unfolding kind_with
number_has rows keys all None n aggregate there is = tt
number_has rows keys all (Some t) n aggregate there is =
    slice_get-map (own_kind rows) all n ∙ ap (option_map (own_kind rows)) there ∙ ap Some (kind_or (kinds.aggregate_kind rows aggregate) t is)

-- these aggregates stand there among all of them
abbrev pub StandIn : List Aggregate → ℕ → List Aggregate → Type 0
StandIn all n xs = (i : ℕ) (x : Aggregate) → slice_get xs i ≡ Some x → slice_get all (n + i) ≡ Some x

onward : (n m i : ℕ) → (n + m) + i ≡ n + (m + i)
onward n m i = omega arith

no_more : (n : ℕ) → n + 0 ≡ n
no_more n = omega arith

pub front_in : (all : List Aggregate) (n : ℕ) (xs ys : List Aggregate) → StandIn all n (xs ++ ys) → StandIn all n xs
front_in all n xs ys stand i x is = stand i x (in_left xs ys i x is)

pub back_in : (all : List Aggregate) (n : ℕ) (xs ys : List Aggregate) → StandIn all n (xs ++ ys) → StandIn all (n + length xs) ys
back_in all n xs ys stand i x is = ap (slice_get all) (onward n (length xs) i) ∙ stand (length xs + i) x (in_right xs ys i ∙ is)

one_in : (all : List Aggregate) (n : ℕ) (x : Aggregate) → StandIn all n (x ∷ []) → slice_get all n ≡ Some x
one_in all n x stand = sym (ap (slice_get all) (no_more n)) ∙ stand 0 x refl

-- ---- keys

-- the type of what rows are grouped by
abbrev pub spot_key : Key → ColType
spot_key key.Window = type.Timestamp
spot_key (key.Column spot) = spot.kind

abbrev pub key_kinds : Scope → List ColType
key_kinds scope = map spot_key scope.keys

-- a column that rows are grouped by stands in the row, with its type
abbrev pub KeyStands : Scope → Key → Type 0
KeyStands scope key.Window = Unit {0}
KeyStands scope (key.Column spot) = Stands scope spot

abbrev pub KeysStand : Scope → Type 0
KeysStand scope = (i : ℕ) (k : Key) → slice_get scope.keys i ≡ Some k → KeyStands scope k

same_side : (a b : Side) → is_same_side a b ≡ true → a ≡ b
same_side side.Left side.Left is = refl
same_side side.Left side.Right is = absurd cc
same_side side.Right side.Left is = absurd cc
same_side side.Right side.Right is = refl

module _ (context : Context) (aggregates : List ColType) (stand : KeysStand context.scope) where
  abbrev scope : Scope
  scope = context.scope

  same_kind : (k : Key) (spot : Spot) → KeyStands scope k → Stands scope spot → is_key_of spot k ≡ true → spot_key k ≡ spot.kind
  same_kind key.Window spot own other is = absurd cc
  same_kind (key.Column own) spot here there is =
      let parts = and_parts (is_same_side own.side spot.side) (nat_eq own.index spot.index) is in
      let sides : own.side ≡ spot.side = same_side own.side spot.side parts.0 in
      let indices : own.index ≡ spot.index = grind (arith, parts.1) in
      let index : row_index scope (Some own) ≡ row_index scope (Some spot) = λ i. index_on scope (sides i) (indices i) in
      let both : Some own.kind ≡ Some spot.kind = sym here ∙ ap (slice_get (row_kinds scope)) index ∙ there in
      cc

  key_has : (at : ℕ) (r : Result Spot BindFault) → IfOk r (Stands scope)
      → Has aggregates (key_kinds scope) (type_of (grouped scope.keys within.Group at r)) (typed.Column (or_zero (key_spot scope (spot_in r))))
  unfolding kind_with
  key_has at (Err f) is = tt
  key_has at (Ok spot) is = by (is_key scope.keys spot) refl
    where
      by : (b : Bool) → is_key scope.keys spot ≡ b
          → Has aggregates (key_kinds scope) (type_of (if b then Ok spot.kind else Err (record { at = at; cause = cause.NotGrouped }))) (typed.Column (or_zero (position (is_key_of spot) scope.keys)))
      by false own = tt
      by true own =
          let here : IsFound (is_key_of spot) scope.keys = found (is_key_of spot) scope.keys own in
          ap (λ o. slice_get (key_kinds scope) (or_zero o)) (found_is (is_key_of spot) scope.keys here)
          ∙ slice_get-map spot_key scope.keys here.at ∙ ap (option_map spot_key) here.there
          ∙ ap Some (same_kind here.element spot (stand here.at here.element here.there) is here.passes)

  window_is : (k : Key) → is_window_key k ≡ true → spot_key k ≡ type.Timestamp
  window_is key.Window is = refl
  window_is (key.Column spot) is = absurd cc

  window_has : (name : List ℕ) → has_window scope.keys ≡ true
      → kind_with aggregates (key_kinds scope) (window_value context.size (or_zero (position is_window_key scope.keys)) name) ≡ Some type.Timestamp
  unfolding kind_with
  window_has name is = by _
    where
      at : ℕ
      at = or_zero (position is_window_key scope.keys)

      start : kind_with aggregates (key_kinds scope) (typed.Column at) ≡ Some type.Timestamp
      start =
          let here : IsFound is_window_key scope.keys = found is_window_key scope.keys is in
          ap (λ o. slice_get (key_kinds scope) (or_zero o)) (found_is is_window_key scope.keys here)
          ∙ slice_get-map spot_key scope.keys here.at ∙ ap (option_map spot_key) here.there
          ∙ ap Some (window_is here.element here.passes)

      by : (b : Bool) → kind_with aggregates (key_kinds scope) (if b then shifted_value (typed.Column at) context.size else typed.Column at) ≡ Some type.Timestamp
      by true = shifted_has aggregates (key_kinds scope) (Some type.Timestamp) (typed.Column at) context.size start refl
      by false = start

  column_by : (stream : Option Ident) (column : Ident)
      → Has aggregates (key_kinds scope) (type_of (column_kind_by scope within.Group stream column)) (column_value context within.Group (record { stream = stream; column = column }))
  column_by None column = by (is_window_here scope within.Group column.text) refl
    where
      by : (b : Bool) → is_window_here scope within.Group column.text ≡ b
          → Has aggregates (key_kinds scope) (type_of (if b then Ok type.Timestamp else grouped scope.keys within.Group column.at (bare_spot scope column)))
          (if b then window_value context.size (or_zero (if b then position is_window_key scope.keys else key_spot scope (spot_in (bare_spot scope column)))) column.text
          else typed.Column (or_zero (if b then position is_window_key scope.keys else key_spot scope (spot_in (bare_spot scope column)))))
      by true is = window_has column.text (and_parts (has_window scope.keys) _ is).0
      by false is = key_has column.at (bare_spot scope column) (spot_stands scope None column)
  column_by (Some stream) column = key_has stream.at (named_spot scope stream column) (spot_stands scope (Some stream) column)

-- ---- all of it

pub groups_have : (context : Context) (all : List Aggregate) → KeysStand context.scope
    → HaveTypes context.scope context within.Group (map (own_kind (row_kinds context.scope)) all) (key_kinds context.scope) (StandIn all)
groups_have context all stand =
    let rows : List ColType = row_kinds context.scope in
    record {
      column = λ c. column_by context (map (own_kind rows) all) stand c.stream c.column;
      rows = λ n there. number_has rows (key_kinds context.scope) all (Some type.Bigint) n (record { function = function.Count; argument = None }) (one_in all n _ there) refl;
      called = λ n f x there. number_has rows (key_kinds context.scope) all (of_one (aggregate_kind f) (kind context.scope within.Row x)) n
          (record { function = function_of f; argument = Some (row_value context x) }) (one_in all n _ there)
          (call_typed rows f (kind context.scope within.Row x) (row_value context x) (row_typed context 0 x));
      front = front_in all;
      back = back_in all;
    }

-- ---- each aggregate has a type, where the expression has one

then_so : {A : Type 0} (o : Option A) (P : Type 0) → P → IfSome o (λ _. P)
then_so None P is = tt
then_so (Some t) P is = is

one_so : (f : ColType → Option ColType) (o : Option ColType) (P : Type 0) → IfSome o (λ _. P) → IfSome (of_one f o) (λ _. P)
one_so f None P is = tt
one_so f (Some t) P is = then_so (f t) P is

both_so : {A B : Type 0} (f : A × B → Option ColType) (a : Option A) (b : Option B) (P Q : Type 0) → IfSome a (λ _. P) → IfSome b (λ _. Q) → IfSome (of_one f (together a b)) (λ _. P × Q)
both_so f None b P Q p q = tt
both_so f (Some a) None P Q p q = tt
both_so f (Some a) (Some b) P Q p q = then_so (f (a, b)) (P × Q) (p, q)

pair_so : {A B : Type 0} (a : Option A) (b : Option B) (P Q : Type 0) → IfSome a (λ _. P) → IfSome b (λ _. Q) → IfSome (together a b) (λ _. P × Q)
pair_so None b P Q p q = tt
pair_so (Some a) None P Q p q = tt
pair_so (Some a) (Some b) P Q p q = (p, q)

shift_so : (sum interval : Bool) (o : Option ColType) (other : Option ColType) (P Q : Type 0) → IfSome o (λ _. P) → (interval ≡ true → Q) → IfSome other (λ _. P × Q)
    → IfSome (if sum && interval && is_kind type.Timestamp o then Some type.Timestamp else other) (λ _. P × Q)
shift_so false interval o other P Q p q rest = rest
shift_so true false o other P Q p q rest = rest
shift_so true true None other P Q p q rest = rest
shift_so true true (Some t) other P Q p q rest = by (is_kind type.Timestamp (Some t))
  where
    by : (b : Bool) → IfSome (if b then Some type.Timestamp else other) (λ _. P × Q)
    by true = (p, q refl)
    by false = rest

divides_so : (b : Bool) (o : Option ColType) (P : Type 0) → IfSome o (λ _. P) → IfSome (if_divides b o) (λ _. P)
divides_so true o P is = is
divides_so false o P is = tt

module _ {A : Type 0} (P : A → Type 0) where
  pub all_both : (xs ys : List A) → AllByRecursion P xs → AllByRecursion P ys → AllByRecursion P (xs ++ ys)
  all_both [] ys p q = q
  all_both (x ∷ xs) ys p q = (p.0, all_both xs ys p.1 q)

  all_if : (o : Option ColType) (xs ys : List A) → IfSome o (λ _. AllByRecursion P xs × AllByRecursion P ys) → IfSome o (λ _. AllByRecursion P (xs ++ ys))
  all_if None xs ys is = tt
  all_if (Some t) xs ys is = all_both xs ys is.0 is.1

module _ (context : Context) where
  abbrev own_rows : List ColType
  own_rows = row_kinds context.scope

  abbrev pub AreCounted : Expr → Type 0
  AreCounted e = AllByRecursion (IsCounted own_rows) (aggregates_of context within.Group e)

  none_in_span : (b : Expr) → is_interval b ≡ true → AreCounted b
  unfolding aggregates_of
  none_in_span (expr.Interval span at) is = tt
  none_in_span (expr.Number n at) is = absurd cc
  none_in_span (expr.Text text at) is = absurd cc
  none_in_span (expr.Truth truth at) is = absurd cc
  none_in_span (expr.Timestamp moment at) is = absurd cc
  none_in_span (expr.Column column) is = absurd cc
  none_in_span (expr.CountRows at) is = absurd cc
  none_in_span (expr.Aggregate' f at p (only x)) is = absurd cc
  none_in_span (expr.Unary' o at p (only x)) is = absurd cc
  none_in_span (expr.IsNull' p (only x) at test) is = absurd cc
  none_in_span (expr.Binary' left_at p (only a) o at right_at q (only b)) is = absurd cc
  none_in_span (expr.Between' p (only a) at q (only b) r (only c)) is = absurd cc

  counted_if : (o : Option ColType) (aggregate : Aggregate) → IfSome o (λ t. kinds.aggregate_kind own_rows aggregate ≡ Some t) → IfSome o (λ _. AllByRecursion (IsCounted own_rows) (aggregate ∷ []))
  counted_if None aggregate is = tt
  counted_if (Some t) aggregate is = (own_same (kinds.aggregate_kind own_rows aggregate) t is, tt)

  pub are_counted : (e : Expr) → IfSome (kind context.scope within.Group e) (λ _. AreCounted e)
  unfolding kind aggregates_of
  are_counted (expr.Number n at) = tt
  are_counted (expr.Text text at) = tt
  are_counted (expr.Truth truth at) = tt
  are_counted (expr.Timestamp moment at) = tt
  are_counted (expr.Interval span at) = tt
  are_counted (expr.Column column) = then_so (type_of (column_kind context.scope within.Group column)) (Unit {0}) tt
  are_counted (expr.CountRows at) = (refl, tt)
  are_counted (expr.Aggregate' f at p (only x)) =
      counted_if (of_one (aggregate_kind f) (kind context.scope within.Row x)) (record { function = function_of f; argument = Some (row_value context x) })
      (call_typed own_rows f (kind context.scope within.Row x) (row_value context x) (row_typed context 0 x))
  are_counted (expr.Unary' o at p (only x)) = one_so (unary_kind o) (kind context.scope within.Group x) (AreCounted x) (are_counted x)
  are_counted (expr.IsNull' p (only x) at test) = one_so (λ own. Some type.Bool) (kind context.scope within.Group x) (AreCounted x) (are_counted x)
  are_counted (expr.Binary' left_at p (only a) o at right_at q (only b)) =
      let a_kind : Option ColType = kind context.scope within.Group a in
      let b_kind : Option ColType = kind context.scope within.Group b in
      let worked : Option ColType = if_divides (divides o b) (of_one (λ (pair : ColType × ColType). operator_kind (operands_of o) pair.0 pair.1) (together a_kind b_kind)) in
      all_if (IsCounted own_rows) (if is_shift o a_kind b then Some type.Timestamp else worked) (aggregates_of context within.Group a) (aggregates_of context within.Group b)
      (shift_so (is_sum o) (is_interval b) a_kind worked (AreCounted a) (AreCounted b) (are_counted a) (none_in_span b)
      (divides_so (divides o b) _ (AreCounted a × AreCounted b) (both_so (λ (pair : ColType × ColType). operator_kind (operands_of o) pair.0 pair.1) a_kind b_kind (AreCounted a) (AreCounted b) (are_counted a) (are_counted b))))
  are_counted (expr.Between' p (only a) at q (only b) r (only c)) =
      let a_kind : Option ColType = kind context.scope within.Group a in
      let b_kind : Option ColType = kind context.scope within.Group b in
      let c_kind : Option ColType = kind context.scope within.Group c in
      let f : (ColType × ColType) × ColType → Option ColType = λ triple. between_kind triple.0.0 triple.0.1 triple.1 in
      three_in (of_one f (together (together a_kind b_kind) c_kind))
      (both_so f (together a_kind b_kind) c_kind (AreCounted a × AreCounted b) (AreCounted c) (pair_so a_kind b_kind (AreCounted a) (AreCounted b) (are_counted a) (are_counted b)) (are_counted c))
    where
      three_in : (o : Option ColType) → IfSome o (λ _. (AreCounted a × AreCounted b) × AreCounted c) → IfSome o (λ _. AllByRecursion (IsCounted own_rows) (aggregates_of context within.Group a ++ (aggregates_of context within.Group b ++ aggregates_of context within.Group c)))
      three_in None is = tt
      three_in (Some t) is = all_both (IsCounted own_rows) (aggregates_of context within.Group a) (aggregates_of context within.Group b ++ aggregates_of context within.Group c) is.0.0
          (all_both (IsCounted own_rows) (aggregates_of context within.Group b) (aggregates_of context within.Group c) is.0.1 is.1)

pub counted_all : (rows : List ColType) (all : List Aggregate) → AllByRecursion (IsCounted rows) all → map (kinds.aggregate_kind rows) all ≡ map Some (map (own_kind rows) all)
counted_all rows [] is = refl
counted_all rows (x ∷ xs) is = λ i. is.0 i ∷ counted_all rows xs is.1 i

-- ---- what rows are grouped by

module _ (scope : Scope) where
  column_key : (r : Result Spot BindFault) → IfOk r (Stands scope) → is_there (spot_in r) ≡ true
      → (slice_get (row_kinds scope) (row_index scope (spot_in r)) ∷ []) ≡ map Some (map spot_key (found_key r))
  column_key (Err f) stands is = absurd cc
  column_key (Ok spot) stands is = λ i. stands i ∷ []

  window_key : (r : Result Spot BindFault) → IfOk r (Stands scope) → IsSomeAnd (spot_in r) IsTimeSpot
      → gives type.Timestamp (is_kind type.Timestamp (slice_get (row_kinds scope) (row_index scope (spot_in r)))) ≡ Some type.Timestamp
  window_key (Err f) stands is = absurd is
  window_key (Ok spot) stands is = ap (λ o. gives type.Timestamp (is_kind type.Timestamp o)) (stands ∙ ap Some is)

  item_key : (x : Group) → IsSoundGroupItem scope x → (key_kind (row_kinds scope) (key_of scope x) ∷ []) ≡ map Some (map spot_key (keys_of scope x))
  item_key (group.Column ident) sound = column_key (bare_spot scope ident) (spot_stands scope None ident) sound
  item_key (group.Window window) sound = λ i. window_key (bare_spot scope window.column) (spot_stands scope None window.column) sound.time i ∷ []

  map_both : (xs ys : List Key) → map Some (map spot_key (xs ++ ys)) ≡ map Some (map spot_key xs) ++ map Some (map spot_key ys)
  map_both [] ys = refl
  map_both (x ∷ xs) ys = ap (λ zs. Some (spot_key x) ∷ zs) (map_both xs ys)

  pub items_keys : (xs : List Group) → All (IsSoundGroupItem scope) xs → map (key_kind (row_kinds scope)) (map (key_of scope) xs) ≡ map Some (map spot_key (flat_map (keys_of scope) xs))
  items_keys [] sound = refl
  items_keys (x ∷ xs) sound =
      (λ i. item_key x (All-head (IsSoundGroupItem scope) x xs sound) i ++ items_keys xs (All-tail (IsSoundGroupItem scope) x xs sound) i)
      ∙ sym (map_both (keys_of scope x) (flat_map (keys_of scope) xs))

  -- what rows are grouped by stands in the row
  found_stand : (r : Result Spot BindFault) → IfOk r (Stands scope) → AllByRecursion (KeyStands scope) (found_key r)
  found_stand (Err f) stands = tt
  found_stand (Ok spot) stands = (stands, tt)

  item_stand : (x : Group) → AllByRecursion (KeyStands scope) (keys_of scope x)
  item_stand (group.Column ident) = found_stand (bare_spot scope ident) (spot_stands scope None ident)
  item_stand (group.Window window) = (tt, tt)

  pub items_stand : (xs : List Group) → AllByRecursion (KeyStands scope) (flat_map (keys_of scope) xs)
  items_stand [] = tt
  items_stand (x ∷ xs) = all_both (KeyStands scope) (keys_of scope x) (flat_map (keys_of scope) xs) (item_stand x) (items_stand xs)

pub at_each : {A : Type 0} (P : A → Type 0) (xs : List A) → AllByRecursion P xs → (i : ℕ) (x : A) → slice_get xs i ≡ Some x → P x
at_each P [] all i x is = absurd cc
at_each P (y ∷ xs) all zero x is =
    let own : y ≡ x = cc in
    subst P own all.0
at_each P (y ∷ xs) all (suc i) x is = at_each P xs all.1 i x is
