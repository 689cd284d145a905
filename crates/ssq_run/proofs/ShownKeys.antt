-- A query that groups its rows in Update shows its keys.
use Rattle.std.proofs.Common.{◌≡◌, ◌∙◌, refl, sym, subst, inl, inr, ℕ, zero, suc, ◌+◌, ◌<◌, ◌≤◌, nat_lt, Bool, true, false, List, [], ◌∷◌, ◌++◌, map, length, Option, Some, None, IfSome, arith, Result, Ok, Err}
use Rattle.std.specs.Prelude.{if◌then◌else◌, position, cond}
use Rattle.std.specs.List.{All, AllByRecursion, flat_map, list_any, position_or_len}
use Rattle.std.proofs.lemmas.Bool.{cases_lt, lt-ltb, ltb-true, and_parts}
use Rattle.std.proofs.lemmas.List.Elements.{All-head, All-tail}
use Rattle.std.specs.Str.{bytes_eq}
use borrow.Author.Tests.{not-false}
use Rattle.ssq_ast.specs.declared.expr.ColumnRef.{ColumnRef}
use Rattle.ssq_ast.specs.declared.expr.Expr.TheVariants as expr
use Rattle.ssq_ast.specs.declared.expr.Ident.{Ident}
use Rattle.ssq_ast.specs.declared.query.Deduplicate.{Deduplicate}
use Rattle.ssq_ast.specs.declared.query.Group.{Group}
use Rattle.ssq_ast.specs.declared.query.Group.TheVariants as group
use Rattle.ssq_ast.specs.declared.query.GroupBy.{GroupBy}
use Rattle.ssq_ast.specs.declared.query.Item.{Item}
use Rattle.ssq_ast.specs.declared.query.Item.TheVariants as item
use Rattle.ssq_ast.specs.declared.query.Join.{Join}
use Rattle.ssq_ast.specs.declared.query.Query.{Query}
use Rattle.ssq_ast.specs.Expression.{only}
use Rattle.ssq_check.specs.declared.fault.BindFault.{BindFault}
use Rattle.ssq_check.specs.declared.scope.Key.{Key}
use Rattle.ssq_check.specs.declared.scope.Key.TheVariants as key
use Rattle.ssq_check.specs.declared.scope.Scope.{Scope}
use Rattle.ssq_check.specs.declared.scope.Spot.{Spot}
use Rattle.ssq_check.specs.declared.scope.Within.{Within}
use Rattle.ssq_check.specs.declared.scope.Within.TheVariants as within
use Rattle.ssq_check.specs.Joined.{spot_in, spot_of}
use Rattle.ssq_check.specs.Names.{is_there, keys_of, found_key, group_keys, row_scope}
use Rattle.ssq_check.specs.Scope.{is_window_key, bare_spot}
use Rattle.ssq_check.specs.Shown.{is_group, shown_within}
use Rattle.ssq_check.specs.Sound.{IsSoundGroupItem, IsSoundGroup, IsSound}
use Rattle.ssq_check.proofs.SoundLemmas.{sound_where_none}
use Rattle.ssq_shape.specs.declared.bound.Bound.{Bound}
use Rattle.ssq_shape.specs.declared.bound.GroupKey.{GroupKey}
use Rattle.ssq_shape.specs.declared.bound.Grouping.{Grouping}
use Rattle.ssq_shape.specs.declared.bound.Mode.TheVariants as mode
use Rattle.ssq_shape.specs.declared.bound.Output.{Output}
use Rattle.ssq_shape.specs.declared.bound.Shape.TheVariants as shape
use Rattle.ssq_shape.specs.declared.typed.Typed.TheVariants as typed
use Rattle.ssq_meaning.specs.Table as table
use Rattle.ssq_meaning.specs.Table.{IsWindowAt, IsKeyAlone, ShowsKeys}
use Rattle.ssq_bind.specs.declared.context.Context.{Context}
use Rattle.ssq_bind.specs.Bound.{context_of, shown_of, grouping_of, kept_by, shape_of, bound_of}
use Rattle.ssq_bind.specs.Shapes.{item_aggregates, output_of, outputs_of, group_items, key_of}
use Rattle.ssq_bind.specs.Value.{or_zero, is_window_column, key_index, key_spot, shifted_value, window_value, column_value, value_of}
use Rattle.ssq_modes.specs.declared.fault.ModeFault.TheVariants as fault
use Rattle.ssq_modes.specs.Modes as modes
use Rattle.ssq_modes.specs.Modes.{AppliesNone, applies, are_shown}
use Rattle.ssq_accept.specs.Accepting.{IsAccepted}
use Rattle.ssq_tables.specs.Agreeing.{ShowsItsKeys}
use Rattle.ssq_run.specs.Queries.{IsQueryOf}

-- ---- each key is shown

same_key : (at : ℕ) (output : Output) → modes.is_key at output ≡ table.is_key at output
same_key at output = by output.key
  where
    by : (own : Option ℕ) → modes.is_key at (record { name = output.name; kind = output.kind; value = output.value; key = own }) ≡ table.is_key_at at own
    by None = refl
    by (Some k) = refl

shown_one : (at : ℕ) (outputs : List Output) → list_any (modes.is_key at) outputs ≡ list_any (table.is_key at) outputs
shown_one at [] = refl
shown_one at (output ∷ outputs) = rw (same_key at output, shown_one at outputs) refl

there : (at count : ℕ) → at < suc count → count ≤ at → count ≡ at
there at count less more = omega (arith, less, more)

each_shown : (outputs : List Output) (count : ℕ) → are_shown outputs count ≡ true → (at : ℕ) → at < count → list_any (table.is_key at) outputs ≡ true
unfolding are_shown
each_shown outputs zero shown at less = absurd (omega (arith, less))
each_shown outputs (suc count) shown at less =
    let both = and_parts (list_any (modes.is_key count) outputs) (are_shown outputs count) shown in
    elim (cases_lt at count) [
      | inl nearer ↦ each_shown outputs count both.1 at nearer
      | inr more ↦ subst (λ (k : ℕ). list_any (table.is_key k) outputs ≡ true) (there at count less more) (sym (shown_one count outputs) ∙ both.0)
    ]

-- ---- an item that is said to be a key is one

-- the place of the first window among the keys is that of a window of GROUP BY
module _ (rows names : Scope) where
  abbrev at_window : List Group → ℕ → Type 0
  at_window xs n = IsWindowAt (map (key_of names) xs) n

  less_one : (m n : ℕ) → nat_lt (1 + m) (suc n) ≡ true → nat_lt m n ≡ true
  less_one m n is = lt-ltb m n (let less : 1 + m < suc n = ltb-true (1 + m) (suc n) is in omega (arith, less))

  one_plus : (n : ℕ) → suc n ≡ 1 + n
  one_plus n = omega arith

  abbrev place : List Key → ℕ
  place keys = position_or_len is_window_key keys

  abbrev has_place : List Key → Bool
  has_place keys = nat_lt (place keys) (length keys)

  behind_column : (xs : List Group) (ident : Ident) (more : List Key) → (has_place more ≡ true → at_window xs (place more)) → (found : Result Spot BindFault) → is_there (spot_in found) ≡ true
      → has_place (found_key found ++ more) ≡ true → at_window (group.Column ident ∷ xs) (place (found_key found ++ more))
  behind_column xs ident more at (Err f) known less = absurd cc
  behind_column xs ident more at (Ok spot) known less = subst (at_window (group.Column ident ∷ xs)) (one_plus (place more)) (at (less_one (place more) (length more) less))

  window_at : (xs : List Group) → All (IsSoundGroupItem rows) xs → has_place (flat_map (keys_of rows) xs) ≡ true → at_window xs (place (flat_map (keys_of rows) xs))
  window_at [] sound is = absurd cc
  window_at (group.Window window ∷ xs) sound is = (_, _, _, refl)
  window_at (group.Column ident ∷ xs) sound is =
      behind_column xs ident (flat_map (keys_of rows) xs) (window_at xs (All-tail (IsSoundGroupItem rows) (group.Column ident) xs sound))
      (bare_spot rows ident) (All-head (IsSoundGroupItem rows) (group.Column ident) xs sound) is

  found_by : (xs : List Group) (keys : List Key) (b : Bool) → has_place keys ≡ b → (has_place keys ≡ true → at_window xs (place keys)) → IfSome (cond b (Some (place keys)) None) (at_window xs)
  found_by xs keys true is at = at is
  found_by xs keys false is at = tt

  found_window : (xs : List Group) → All (IsSoundGroupItem rows) xs → IfSome (position is_window_key (flat_map (keys_of rows) xs)) (at_window xs)
  found_window xs sound = found_by xs (flat_map (keys_of rows) xs) (has_place (flat_map (keys_of rows) xs)) refl (window_at xs sound)

  found_in : (by : Option GroupBy) → IfSome by (IsSoundGroup rows) → IfSome (position is_window_key (group_keys rows by)) (at_window (group_items by))
  found_in None sound = tt
  found_in (Some by) sound = found_window by.items sound.each

module _ (context : Context) (keys : List GroupKey) (windows : IfSome (position is_window_key context.scope.keys) (IsWindowAt keys)) where
  window_alone : (at : Option ℕ) (name : List ℕ) → IfSome at (IsWindowAt keys) → IfSome at (IsKeyAlone keys (window_value context.size (or_zero at) name))
  window_alone None name is = tt
  window_alone (Some at) name is = by (bytes_eq name (119 ∷ 105 ∷ 110 ∷ 100 ∷ 111 ∷ 119 ∷ 95 ∷ 101 ∷ 110 ∷ 100 ∷ []))
    where
      by : (b : Bool) → IsKeyAlone keys (if b then shifted_value (typed.Column at) context.size else typed.Column at) at
      by true = inr (context.size, refl, is)
      by false = inl refl

  plain_alone : (at : Option ℕ) → IfSome at (IsKeyAlone keys (typed.Column (or_zero at)))
  plain_alone None = tt
  plain_alone (Some at) = inl refl

  column_alone : (column : ColumnRef) → IfSome (key_index context.scope column) (IsKeyAlone keys (column_value context within.Group column))
  column_alone column = by (is_window_column context.scope column)
    where
      index : Bool → Option ℕ
      index b = if b then position is_window_key context.scope.keys else key_spot context.scope (spot_in (spot_of context.scope column))

      by : (b : Bool) → IfSome (index b) (IsKeyAlone keys (if b then window_value context.size (or_zero (index b)) column.column.text else typed.Column (or_zero (index b))))
      by true = window_alone (position is_window_key context.scope.keys) column.column.text windows
      by false = plain_alone (key_spot context.scope (spot_in (spot_of context.scope column)))

  abbrev Alone : Output → Type 0
  Alone output = IfSome output.key (IsKeyAlone keys output.value)

  item_alone : (w : Within) (before : ℕ) (x : Item) → Alone (output_of context w before x)
  unfolding value_of
  item_alone within.Row before x = tt
  item_alone within.Group before (item.Column column at named_at) = column_alone column
  item_alone within.Group before (item.Named (expr.Column column) named label) = column_alone column
  item_alone within.Group before (item.Named (expr.Number n at) named label) = tt
  item_alone within.Group before (item.Named (expr.Text text at) named label) = tt
  item_alone within.Group before (item.Named (expr.Truth truth at) named label) = tt
  item_alone within.Group before (item.Named (expr.Timestamp moment at) named label) = tt
  item_alone within.Group before (item.Named (expr.Interval span at) named label) = tt
  item_alone within.Group before (item.Named (expr.CountRows at) named label) = tt
  item_alone within.Group before (item.Named (expr.Aggregate' f at p (only x)) named label) = tt
  item_alone within.Group before (item.Named (expr.Unary' o at p (only x)) named label) = tt
  item_alone within.Group before (item.Named (expr.IsNull' p (only x) at test) named label) = tt
  item_alone within.Group before (item.Named (expr.Binary' left_at p (only a) o at right_at q (only b)) named label) = tt
  item_alone within.Group before (item.Named (expr.Between' p (only a) at q (only b) r (only c)) named label) = tt

  items_alone : (w : Within) (before : ℕ) (xs : List Item) → AllByRecursion Alone (outputs_of context w before xs)
  unfolding outputs_of
  items_alone w before [] = tt
  items_alone w before (x ∷ xs) = (item_alone w before x, items_alone w (before + length (item_aggregates context w x)) xs)

query_alone : (query : Query) → IsSound query → AllByRecursion (λ (output : Output). IfSome output.key (IsKeyAlone (grouping_of query).keys output.value)) (bound_of query).outputs
unfolding bound_of shown_of context_of
query_alone query sound =
    items_alone (context_of query) (grouping_of query).keys (found_in (row_scope query) (context_of query).scope query.select.group sound.group) (shown_within query) 0 query.select.items

-- ---- the whole

group_same : (one other : Grouping) → shape.Group one ≡ shape.Group other → one ≡ other
group_same one other is = cc

no_group : (grouping : Grouping) (context : Context) (join : Option Join) (deduplicate : Option Deduplicate) → kept_by context join deduplicate ≡ shape.Group grouping → ⊥
no_group grouping context (Some join) deduplicate is = absurd cc
no_group grouping context None (Some deduplicate) is = absurd cc
no_group grouping context None None is = absurd cc

grouping_is : (query : Query) (grouping : Grouping) → (bound_of query).shape ≡ shape.Group grouping → grouping_of query ≡ grouping
unfolding bound_of shape_of
grouping_is query grouping is = by (is_group query) is
  where
    by : (b : Bool) → (if b then shape.Group (grouping_of query) else kept_by (context_of query) query.select.join query.select.deduplicate) ≡ shape.Group grouping → grouping_of query ≡ grouping
    by true same = group_same (grouping_of query) grouping same
    by false same = absurd (no_group grouping (context_of query) query.select.join query.select.deduplicate same)

none_there : {A : Type 0} (o : Option A) → modes.is_there o ≡ false → o ≡ None
none_there None is = refl
none_there (Some a) is = absurd cc

hides_none : (bound : Bound) (grouping : Grouping) → AppliesNone bound → bound.shape ≡ shape.Group grouping → bound.mode ≡ mode.Update → are_shown bound.outputs (length grouping.keys) ≡ true
unfolding applies
hides_none bound grouping none is update =
    let same = none fault.KeyNotShown in
    not-false (are_shown bound.outputs (length grouping.keys)) (rw (is, update) at same)

has_none : (bound : Bound) (grouping : Grouping) → AppliesNone bound → bound.shape ≡ shape.Group grouping → bound.mode ≡ mode.Update → grouping.having ≡ None
unfolding applies
has_none bound grouping none is update =
    let same = none fault.HavingInUpdate in
    none_there grouping.having (rw (is, update) at same)

shows_keys : (file : List ℕ) (query : Query) (bound : Bound) (grouping : Grouping) → IsAccepted file query bound → bound.shape ≡ shape.Group grouping → bound.mode ≡ mode.Update → ShowsKeys bound grouping
shows_keys file query bound grouping accepted is update =
    let of_query : (bound_of query).shape ≡ shape.Group grouping = subst (λ (b : Bound). b.shape ≡ shape.Group grouping) accepted.names.is is in
    let alone = query_alone query (sound_where_none query accepted.names.unbroken) in
    let by_grouping = subst (λ (g : Grouping). AllByRecursion (λ (output : Output). IfSome output.key (IsKeyAlone g.keys output.value)) (bound_of query).outputs) (grouping_is query grouping of_query) alone in
    record {
      each = each_shown bound.outputs (length grouping.keys) (hides_none bound grouping accepted.may_run is update);
      alone = subst (λ (b : Bound). AllByRecursion (λ (output : Output). IfSome output.key (IsKeyAlone grouping.keys output.value)) b.outputs) (sym accepted.names.is) by_grouping;
      all = has_none bound grouping accepted.may_run is update;
    }

-- so does a query of this text
pub query_shows_keys : (text : List ℕ) (bound own : Bound) → IsQueryOf text bound → own ≡ bound → ShowsItsKeys own
query_shows_keys text bound own of same grouping is update =
    let shaped = subst (λ (b : Bound). b.shape ≡ shape.Group grouping) same is in
    let updates = subst (λ (b : Bound). b.mode ≡ mode.Update) same update in
    subst (λ (b : Bound). ShowsKeys b grouping) (sym same) (shows_keys text of.query bound grouping of.accepted shaped updates)
