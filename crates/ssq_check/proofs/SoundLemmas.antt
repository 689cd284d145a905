-- What holds where no rule is broken.
use Rattle.std.proofs.Common.{◌≡◌, ◌⊎◌, inl, inr, ◌∙◌, ap, sym, subst, refl, arith, ℕ, ◌≤◌, ℤ, pos, Bool, true, false, not, ◌&&◌, ◌||◌, if◌then◌else◌, List, [], ◌∷◌, ◌++◌, map, length, Option, Some, None, Result, Ok, Err}
use Rattle.std.specs.Prelude.{All, IfSome, slice_get, int_lt, ◌*ℤ◌, ◌≤ℤ◌, ◌<ℤ◌}
use Rattle.std.specs.List.{flat_map, list_any, AllByRecursion, IsDistinct}
use Rattle.std.specs.Option.{IsSomeAnd}
use Rattle.std.specs.Str.{bytes_eq}
use Rattle.std.proofs.lemmas.Cmp.{nat_list_eq_equiv}
use Rattle.std.proofs.lemmas.List.Elements.{All-nil, All-cons}
use Rattle.std.proofs.lemmas.List.Folds.{list_any-append}
use Rattle.std.proofs.lemmas.List.{length-map}
use Rattle.std.proofs.lemmas.Option.{slice_get_cases}
use Rattle.std.proofs.lemmas.Bool.{false_from_ne_true, true_from_ne_false}
use Rattle.ssq_value.specs.declared.column.ColType.{ColType}
use Rattle.ssq_value.specs.declared.column.ColType.TheVariants as type
use Rattle.ssq_ast.specs.declared.expr.Expr.{Expr}
use Rattle.ssq_ast.specs.declared.expr.Ident.{Ident}
use Rattle.ssq_ast.specs.declared.query.Condition.{Condition}
use Rattle.ssq_ast.specs.declared.query.Deduplicate.{Deduplicate}
use Rattle.ssq_ast.specs.declared.query.Group.{Group}
use Rattle.ssq_ast.specs.declared.query.Group.TheVariants as group
use Rattle.ssq_ast.specs.declared.query.GroupBy.{GroupBy}
use Rattle.ssq_ast.specs.declared.query.Item.{Item}
use Rattle.ssq_ast.specs.declared.query.Item.TheVariants as item
use Rattle.ssq_ast.specs.declared.query.Join.{Join}
use Rattle.ssq_ast.specs.declared.query.Limit.{Limit}
use Rattle.ssq_ast.specs.declared.query.OrderBy.{OrderBy}
use Rattle.ssq_ast.specs.declared.query.Query.{Query}
use Rattle.ssq_ast.specs.declared.query.Stream.{Stream}
use Rattle.ssq_ast.specs.declared.query.Watermark.{Watermark}
use Rattle.ssq_ast.specs.declared.query.Window.{Window}
use Rattle.ssq_check.specs.declared.fault.BindFault.{BindFault}
use Rattle.ssq_check.specs.declared.fault.Cause.{Cause}
use Rattle.ssq_check.specs.declared.fault.Cause.TheVariants as cause
use Rattle.ssq_check.specs.declared.scope.Scope.{Scope}
use Rattle.ssq_check.specs.declared.scope.Side.TheVariants as side
use Rattle.ssq_check.specs.declared.scope.Spot.{Spot}
use Rattle.ssq_check.specs.declared.scope.Within.{Within}
use Rattle.ssq_check.specs.declared.scope.Within.TheVariants as within
use Rattle.ssq_check.specs.Fault.{Faults, AreNone, Answers}
use Rattle.ssq_check.specs.Scope.{in_columns, bare_spot, column_kind}
use Rattle.ssq_check.specs.Rules.{type_of, kind}
use Rattle.ssq_check.specs.Broken.{Either, Rule, Told, FaultsIn}
use Rattle.ssq_check.specs.Checked.{checked}
use Rattle.ssq_check.specs.Lists.{Where, Each, has_name, with_name, Doubled, Past, Beyond, item_name, item_place, item_first, ItemFaults}
use Rattle.ssq_check.specs.Names.{is_there, columns_of, row_scope, scope_of}
use Rattle.ssq_check.specs.Shown.{shown_aggregates, group_place, is_group, shown_within}
use Rattle.ssq_check.specs.Joined.{spot_in, conjuncts, key_places}
use Rattle.ssq_check.specs.Clauses.{is_no_truth, ConditionFaults, HavingFaults, is_no_time, EventFaults, WatermarkFaults, decl_name, decl_place, StreamFaults, stream_name, stream_name_place, JoinFaults, ident_name, ident_place, IdentFaults, DeduplicateFaults, slide_of, has_window_columns, SizeFaults, WindowFaults, GroupItemFaults, group_columns, group_windows, group_first, GroupFaults, is_output, OrderFaults}
use Rattle.ssq_check.specs.Whole.{QueryFaults}
use Rattle.ssq_check.specs.Sound.{AreApart, IsTimeSpot, HasEvent, IsSoundStream, IsCondition, IsSoundJoin, IsKnown, IsSoundDeduplicate, IsSoundWindow, IsSoundGroupItem, IsSoundGroup, IsTyped, IsOrdered, IsHaving, IsSound}
use Rattle.ssq_check.proofs.Found.{found}

-- ---- parts

left_none : (P Q : Faults) → AreNone (Either P Q) → AreNone P
left_none P Q none c at p = none c at (inl p)

right_none : (P Q : Faults) → AreNone (Either P Q) → AreNone Q
right_none P Q none c at q = none c at (inr q)

kept : (own : Cause) (at : ℕ) (Broken : Type 0) → AreNone (Rule own at Broken) → Broken → ⊥
kept own at Broken none broken = none own at (refl, refl, broken)

unbroken : (own : Cause) (at : ℕ) (b : Bool) → AreNone (Rule own at (b ≡ true)) → b ≡ false
unbroken own at b none = false_from_ne_true b (kept own at (b ≡ true) none)

holding : (own : Cause) (at : ℕ) (b : Bool) → AreNone (Rule own at (b ≡ false)) → b ≡ true
holding own at b none = true_from_ne_false b (kept own at (b ≡ false) none)

where_none : {A : Type 0} (F : A → Faults) (P : A → Type 0) → ((x : A) → AreNone (F x) → P x) → (o : Option A) → AreNone (Where F o) → IfSome o P
where_none F P each None none = tt
where_none F P each (Some x) none = each x none

each_none : {A : Type 0} (F : A → Faults) (P : A → Type 0) → ((x : A) → AreNone (F x) → P x) → (xs : List A) → AreNone (Each F xs) → All P xs
each_none F P each [] none = All-nil P
each_none F P each (x ∷ xs) none = All-cons P x xs (each x (left_none (F x) (Each F xs) none)) (each_none F P each xs (right_none (F x) (Each F xs) none))

past_by : (own : Cause) (most n : ℕ) (o : Option ℕ) → (n ≤ most) ⊎ ((x : ℕ) × (o ≡ Some x)) → AreNone (Where (λ (at : ℕ). Rule own at (Unit {0})) o) → n ≤ most
past_by own most n o (inl few) none = few
past_by own most n None (inr found) none = absurd (cc (found.1))
past_by own most n (Some at) (inr found) none = absurd (none own at (refl, refl, tt))

past_none : (own : Cause) (most : ℕ) (places : List ℕ) → AreNone (Past own most places) → length places ≤ most
past_none own most places none = by (slice_get_cases places most).1
  where
    by : (((x : ℕ) × (Rattle.std.specs.Prelude.◌<◌ most (length places)) × (slice_get places most ≡ Some x) × (Rattle.std.specs.Prelude.get_or places most x ≡ x)) ⊎ ((length places ≤ most) × (slice_get places most ≡ None))) → length places ≤ most
    by (inl more) = past_by own most (length places) (slice_get places most) (inr (more.0, more.2)) none
    by (inr few) = few.0

past_mapped : {A : Type 0} (own : Cause) (most : ℕ) (place : A → ℕ) (xs : List A) → AreNone (Past own most (map place xs)) → length xs ≤ most
past_mapped own most place xs none = subst (λ (n : ℕ). n ≤ most) (length-map xs place) (past_none own most (map place xs) none)

-- ---- names that are apart

all_then : {A : Type 0} (P Q : A → Type 0) → ((x : A) → P x → Q x) → (xs : List A) → AllByRecursion P xs → AllByRecursion Q xs
all_then P Q each [] all = tt
all_then P Q each (x ∷ xs) all = (each x all.0, all_then P Q each xs all.1)

or_left : (a b : Bool) → (a || b) ≡ false → a ≡ false
or_left true b is = is
or_left false b is = refl

or_right : (a b : Bool) → (a || (b || false)) ≡ false → b ≡ false
or_right true b is = absurd (cc)
or_right false true is = is
or_right false false is = refl

module _ {A : Type 0} (name : A → List ℕ) (place : A → ℕ) where
  apart_from : (seen : List (List ℕ)) (xs : List A) → AreNone (Doubled name place seen xs) → AllByRecursion (λ y. has_name y seen ≡ false) (map name xs) × AreApart (map name xs)
  unfolding Doubled IsDistinct
  apart_from seen [] none = (tt, tt)
  apart_from seen (x ∷ xs) none =
      let Here = Rule cause.DoubleName (place x) (has_name (name x) seen ≡ true) in
      let Rest = Doubled name place (with_name seen (name x)) xs in
      let new : has_name (name x) seen ≡ false = unbroken cause.DoubleName (place x) (has_name (name x) seen) (left_none Here Rest none) in
      let next : with_name seen (name x) ≡ seen ++ name x ∷ [] = ap (λ (b : Bool). if b then seen else seen ++ name x ∷ []) new in
      let rest = apart_from (seen ++ name x ∷ []) xs (subst (λ (names : List (List ℕ)). AreNone (Doubled name place names xs)) next (right_none Here Rest none)) in
      let split : (y : List ℕ) → has_name y (seen ++ name x ∷ []) ≡ (has_name y seen || (bytes_eq y (name x) || false)) = λ y. list_any-append (bytes_eq y) seen (name x ∷ []) in (
        (new, all_then (λ y. has_name y (seen ++ name x ∷ []) ≡ false) (λ y. has_name y seen ≡ false) (λ y is. or_left (has_name y seen) (bytes_eq y (name x) || false) (sym (split y) ∙ is)) (map name xs) rest.0),
        (
          all_then (λ y. has_name y (seen ++ name x ∷ []) ≡ false) (λ y. bytes_eq (name x) y ≡ false) (λ y is. nat_list_eq_equiv.symm (name x) y ∙ or_right (has_name y seen) (bytes_eq y (name x)) (sym (split y) ∙ is)) (map name xs) rest.0,
          rest.1,
        ),
      )

  apart : (xs : List A) → AreNone (Doubled name place [] xs) → AreApart (map name xs)
  apart xs none = (apart_from [] xs none).1

-- ---- types

typed_by : (P : Faults) (v : Option ColType) (r : Result ColType BindFault) → Answers P v r → AreNone P → is_there v ≡ true
typed_by P v (Ok k) h none = ap is_there h.0
typed_by P v (Err f) h none = absurd (none f.cause f.at h.1.is)

typed : (scope : Scope) (w : Within) (e : Expr) → AreNone (FaultsIn scope w e) → is_there (kind scope w e) ≡ true
typed scope w e none = typed_by (FaultsIn scope w e) (kind scope w e) (checked scope w e) (found scope w e) none

truth_by : (v : Option ColType) → is_there v ≡ true → is_no_truth v ≡ false → v ≡ Some type.Bool
truth_by None there truth = absurd (cc)
truth_by (Some type.Bool) there truth = refl
truth_by (Some type.Bigint) there truth = absurd (cc)
truth_by (Some type.Str) there truth = absurd (cc)
truth_by (Some type.Timestamp) there truth = absurd (cc)

condition_none : (scope : Scope) (w : Within) (condition : Condition) → AreNone (ConditionFaults scope w condition) → IsCondition scope w condition
condition_none scope w condition none =
    let Value = FaultsIn scope w condition.value in
    let Own = Rule cause.WrongType condition.at (is_no_truth (kind scope w condition.value) ≡ true) in
    truth_by (kind scope w condition.value) (typed scope w condition.value (left_none Value Own none))
    (unbroken cause.WrongType condition.at (is_no_truth (kind scope w condition.value)) (right_none Value Own none))

item_none : (scope : Scope) (w : Within) (x : Item) → AreNone (ItemFaults scope w x) → IsTyped scope w x
item_none scope w (item.Column column at named_at) none = by (column_kind scope w column) none
  where
    by : (r : Result ColType BindFault) → AreNone (Told r) → is_there (type_of r) ≡ true
    by (Ok k) never = refl
    by (Err f) never = absurd (never f.cause f.at (refl, refl))
item_none scope w (item.Named value at label) none = typed scope w value none

-- ---- clauses

known_by : (r : Result Spot BindFault) → AreNone (Told r) → is_there (spot_in r) ≡ true
known_by (Ok spot) none = refl
known_by (Err f) none = absurd (none f.cause f.at (refl, refl))

time_by : (o : Option Spot) → is_there o ≡ true → is_no_time o ≡ false → IsSomeAnd o IsTimeSpot
time_by None there time = absurd (cc)
time_by (Some spot) there time = by spot.kind time
  where
    by : (own : ColType) → not (Rattle.ssq_shape.specs.Kinds.is_kind type.Timestamp (Some own)) ≡ false → own ≡ type.Timestamp
    by type.Timestamp is = refl
    by type.Bigint is = absurd (cc)
    by type.Str is = absurd (cc)
    by type.Bool is = absurd (cc)

event_none : (stream : Stream) (watermark : Watermark) → AreNone (WatermarkFaults stream watermark) → HasEvent stream watermark
event_none stream watermark none =
    let spot = in_columns side.Left (columns_of stream) watermark.column.text in
    let at = watermark.column.at in
    let Unknown = Rule cause.UnknownName at (is_there spot ≡ false) in
    let Untimed = Rule cause.WrongType at (is_no_time spot ≡ true) in
    time_by spot (holding cause.UnknownName at (is_there spot) (left_none Unknown Untimed none)) (unbroken cause.WrongType at (is_no_time spot) (right_none Unknown Untimed none))

stream_none : (stream : Stream) → AreNone (StreamFaults stream) → IsSoundStream stream
stream_none stream none =
    let Names = Doubled decl_name decl_place [] stream.columns in
    let Many = Beyond (map decl_place stream.columns) in
    let Event = Where (WatermarkFaults stream) stream.watermark in
    let rest = right_none Names (Either Many Event) none in
    record {
      apart = apart decl_name decl_place stream.columns (left_none Names (Either Many Event) none);
      few = past_mapped cause.TooMany 64 decl_place stream.columns (left_none Many Event rest);
      event = where_none (WatermarkFaults stream) (HasEvent stream) (event_none stream) stream.watermark (right_none Many Event rest);
    }

join_none : (scope : Scope) (from : List ℕ) (join : Join) → AreNone (JoinFaults scope from join) → IsSoundJoin scope from join
join_none scope from join none = record {
  declared = holding cause.UnknownName join.stream.at (is_there scope.right) (λ c at r. none c at (inl (inl r)));
  another = unbroken cause.DoubleName join.stream.at (bytes_eq join.stream.text from) (λ c at r. none c at (inl (inr r)));
  condition = condition_none scope within.Row join.on (λ c at r. none c at (inr (inl r)));
  few_keys = past_none cause.TooMany 64 (key_places scope (conjuncts join.on.at join.on.value)) (λ c at r. none c at (inr (inr (inl r))));
  bound = λ c at r. none c at (inr (inr (inr r)));
}

ident_none : (scope : Scope) (ident : Ident) → AreNone (IdentFaults scope ident) → IsKnown scope ident
ident_none scope ident none = known_by (bare_spot scope ident) none

deduplicate_none : (scope : Scope) (deduplicate : Deduplicate) → AreNone (DeduplicateFaults scope deduplicate) → IsSoundDeduplicate scope deduplicate
deduplicate_none scope deduplicate none = record {
  known = each_none (IdentFaults scope) (IsKnown scope) (ident_none scope) deduplicate.columns (λ c at r. none c at (inl r));
  apart = apart ident_name ident_place deduplicate.columns (λ c at r. none c at (inr (inl r)));
  few = past_mapped cause.TooMany 64 ident_place deduplicate.columns (λ c at r. none c at (inr (inr r)));
}

not_less : (a b : ℤ) → int_lt a b ≡ false → b ≤ℤ a
not_less a b is = grind arith

window_none : (scope : Scope) (window : Window) → AreNone (WindowFaults scope window) → IsSoundWindow scope window
window_none scope window none =
    let spot = bare_spot scope window.column in
    record {
      time = time_by (spot_in spot) (known_by spot (λ c at r. none c at (inl r))) (unbroken cause.WrongType window.column.at (is_no_time (spot_in spot)) (λ c at r. none c at (inr (inl r))));
      slide = not_less window.size.micros (slide_of window) (unbroken cause.BadWindow window.at (int_lt window.size.micros (slide_of window)) (λ c at r. none c at (inr (inr (inl (inl r))))));
      few = not_less (pos 64 *ℤ slide_of window) window.size.micros (unbroken cause.TooMany window.at (int_lt (pos 64 *ℤ slide_of window) window.size.micros) (λ c at r. none c at (inr (inr (inl (inr r))))));
      free = unbroken cause.DoubleName window.at (has_window_columns scope) (λ c at r. none c at (inr (inr (inr r))));
    }

group_item_none : (scope : Scope) (x : Group) → AreNone (GroupItemFaults scope x) → IsSoundGroupItem scope x
group_item_none scope (group.Column ident) none = ident_none scope ident none
group_item_none scope (group.Window window) none = window_none scope window none

group_none : (scope : Scope) (by : GroupBy) → AreNone (GroupFaults scope by) → IsSoundGroup scope by
group_none scope by none = record {
  each = each_none (GroupItemFaults scope) (IsSoundGroupItem scope) (group_item_none scope) by.items (λ c at r. none c at (inl r));
  apart = apart ident_name ident_place (flat_map group_columns by.items) (λ c at r. none c at (inr (inl r)));
  one_window = past_none cause.BadWindow 1 (flat_map group_windows by.items) (λ c at r. none c at (inr (inr (inl r))));
  few = past_mapped cause.TooMany 64 group_first by.items (λ c at r. none c at (inr (inr (inr r))));
}

order_none : (items : List Item) (order : OrderBy) → AreNone (OrderFaults items order) → IsOrdered items order
order_none items order none = holding cause.UnknownName order.name.at (is_output items order.name.text) none

having_none : (query : Query) (condition : Condition) → AreNone (HavingFaults (scope_of query) (shown_within query) (is_group query) condition) → IsHaving query condition
having_none query condition none = (
  condition_none (scope_of query) (shown_within query) condition (λ c at r. none c at (inl r)),
  holding cause.NotGrouped condition.at (is_group query) (λ c at r. none c at (inr r)),
)

absent : {A : Type 0} (own : Cause) (place : A → ℕ) (o : Option A) → AreNone (Where (λ (x : A). Rule own (place x) (Unit {0})) o) → o ≡ None
absent own place None none = refl
absent own place (Some x) none = absurd (none own (place x) (refl, refl, tt))

alone : {A : Type 0} (place : A → ℕ) (other : Bool) (o : Option A) → AreNone (Where (λ (x : A). Rule cause.TwoStateful (place x) (other ≡ true)) o) → (other && is_there o) ≡ false
alone place true None none = refl
alone place false None none = refl
alone place true (Some x) none = absurd (none cause.TwoStateful (place x) (refl, refl, refl))
alone place false (Some x) none = refl

pub sound_where_none : (query : Query) → AreNone (QueryFaults query) → IsSound query
sound_where_none query none = record {
  streams = each_none StreamFaults IsSoundStream stream_none query.streams (λ c at r. none c at (inl (inl r)));
  apart = apart stream_name stream_name_place query.streams (λ c at r. none c at (inl (inr (inl r))));
  few_streams = past_mapped cause.TooMany 2 Rattle.ssq_check.specs.Clauses.stream_first query.streams (λ c at r. none c at (inl (inr (inr r))));
  from = holding cause.UnknownName query.select.from.at (is_there (row_scope query).left) (λ c at r. none c at (inr (inl (inl r))));
  join = where_none (JoinFaults (row_scope query) query.select.from.text) (IsSoundJoin (row_scope query) query.select.from.text) (join_none (row_scope query) query.select.from.text) query.select.join (λ c at r. none c at (inr (inl (inr (inl r)))));
  filter = where_none (ConditionFaults (row_scope query) within.Row) (IsCondition (row_scope query) within.Row) (condition_none (row_scope query) within.Row) query.select.filter (λ c at r. none c at (inr (inl (inr (inr (inl r))))));
  deduplicate = where_none (DeduplicateFaults (row_scope query)) (IsSoundDeduplicate (row_scope query)) (deduplicate_none (row_scope query)) query.select.deduplicate (λ c at r. none c at (inr (inl (inr (inr (inr (inl r)))))));
  group = where_none (GroupFaults (row_scope query)) (IsSoundGroup (row_scope query)) (group_none (row_scope query)) query.select.group (λ c at r. none c at (inr (inl (inr (inr (inr (inr r)))))));
  typed = each_none (ItemFaults (scope_of query) (shown_within query)) (IsTyped (scope_of query) (shown_within query)) (item_none (scope_of query) (shown_within query)) query.select.items (λ c at r. none c at (inr (inr (inl (inl (inl r))))));
  outputs = apart item_name item_place query.select.items (λ c at r. none c at (inr (inr (inl (inl (inr r))))));
  few_items = past_mapped cause.TooMany 64 item_first query.select.items (λ c at r. none c at (inr (inr (inl (inr (inl r))))));
  few_aggregates = past_none cause.TooMany 64 (shown_aggregates query) (λ c at r. none c at (inr (inr (inl (inr (inr (inl r)))))));
  having = where_none (HavingFaults (scope_of query) (shown_within query) (is_group query)) (IsHaving query) (having_none query) query.select.having (λ c at r. none c at (inr (inr (inl (inr (inr (inr (inl r))))))));
  order = each_none (OrderFaults query.select.items) (IsOrdered query.select.items) (order_none query.select.items) query.select.order (λ c at r. none c at (inr (inr (inl (inr (inr (inr (inr r))))))));
  distinct = absent cause.Distinct (λ at. at) query.select.distinct (λ c at r. none c at (inr (inr (inr (inl r)))));
  limit = absent cause.Limit (λ (limit : Limit). limit.at) query.select.limit (λ c at r. none c at (inr (inr (inr (inr (inl r))))));
  deduplicate_alone = alone (λ (d : Deduplicate). d.at) (is_there query.select.join) query.select.deduplicate (λ c at r. none c at (inr (inr (inr (inr (inr (inl r)))))));
  group_alone = alone (λ (at : ℕ). at) (is_there query.select.join || is_there query.select.deduplicate) (group_place query) (λ c at r. none c at (inr (inr (inr (inr (inr (inr r)))))));
}
