-- What names mean doesn't depend on places.
use Rattle.std.proofs.Common.{◌≡◌, ◌∙◌, ap, refl, ℕ, Bool, true, false, cond, nat_lt, not, ◌&&◌, List, [], ◌∷◌, ◌++◌, map, take, length, Option, Some, None, Result, Ok, Err}
use Rattle.std.specs.Prelude.{◌+◌, if◌then◌else◌, position}
use Rattle.std.specs.List.{flat_map, prefix_len, take-map}
use Rattle.std.specs.Option.{option_map}
use Rattle.std.specs.Str.{bytes_eq}
use Rattle.std.proofs.lemmas.List.{length-map}
use Rattle.ssq_value.specs.declared.column.Column.{Column}
use Rattle.ssq_ast.specs.declared.expr.ColumnRef.{ColumnRef}
use Rattle.ssq_ast.specs.declared.expr.Ident.{Ident}
use Rattle.ssq_ast.specs.declared.query.ColumnDecl.{ColumnDecl}
use Rattle.ssq_ast.specs.declared.query.Group.{Group}
use Rattle.ssq_ast.specs.declared.query.Group.TheVariants as group
use Rattle.ssq_ast.specs.declared.query.GroupBy.{GroupBy}
use Rattle.ssq_ast.specs.declared.query.Join.{Join}
use Rattle.ssq_ast.specs.declared.query.Query.{Query}
use Rattle.ssq_ast.specs.declared.query.Stream.{Stream as Declared}
use Rattle.ssq_ast.specs.declared.query.Watermark.{Watermark}
use Rattle.ssq_ast.specs.Expression.{erased_ident, erased_column}
use Rattle.ssq_ast.specs.Places.{erased_decl, erased_watermark, erased_stream, erased_join, erased_group_item, erased_group, erased}
use Rattle.ssq_check.specs.declared.fault.BindFault.{BindFault}
use Rattle.ssq_check.specs.declared.scope.Key.TheVariants as key
use Rattle.ssq_check.specs.declared.scope.Scope.{Scope}
use Rattle.ssq_check.specs.declared.scope.Spot.{Spot}
use Rattle.ssq_check.specs.declared.scope.Within.TheVariants as within
use Rattle.ssq_check.specs.Joined.{spot_in, spot_of}
use Rattle.ssq_check.specs.Names.{declared, column_of, watermark_name, source_of, left_stream, join_stream, right_stream, row_scope, found_key, keys_of, group_keys, scope_of}
use Rattle.ssq_check.specs.Scope.{bare_spot, is_window_here, is_window_key}
use Rattle.ssq_check.proofs.Erased.{spot_stays}
use Rattle.ssq_bind.specs.Bound.{context_of}
use Rattle.ssq_bind.specs.Shapes.{size_in, window_size, bare_index}
use Rattle.ssq_bind.specs.Streams.{kept_columns, event_in, delay_of, stream_of, listed, streams_of}
use Rattle.ssq_bind.specs.Value.{is_bare, is_window_column, key_spot, key_index, row_index}

-- ---- lists and options of which each element is the same to a function

module _ {A B C : Type 0} (f : B → C) (g : A → B) (h : A → C) (one : (x : A) → f (g x) ≡ h x) where
  pub map_same : (xs : List A) → map f (map g xs) ≡ map h xs
  map_same [] = refl
  map_same (x ∷ xs) = λ i. one x i ∷ map_same xs i

  pub maybe_same : (o : Option A) → option_map f (option_map g o) ≡ option_map h o
  maybe_same None = refl
  maybe_same (Some x) = ap Some (one x)

pub flat_same : {A B C : Type 0} (f : B → List C) (g : A → B) (h : A → List C) → ((x : A) → f (g x) ≡ h x) → (xs : List A) → flat_map f (map g xs) ≡ flat_map h xs
flat_same f g h one [] = refl
flat_same f g h one (x ∷ xs) = λ i. one x i ++ flat_same f g h one xs i

prefix_same : {A B : Type 0} (test : B → Bool) (g : A → B) (own : A → Bool) → ((x : A) → test (g x) ≡ own x) → (xs : List A) → prefix_len (λ y. not (test y)) (map g xs) ≡ prefix_len (λ x. not (own x)) xs
prefix_same test g own one [] = refl
prefix_same test g own one (x ∷ xs) = λ i. cond (not (one x i)) (1 + prefix_same test g own one xs i) 0

pub position_same : {A B : Type 0} (test : B → Bool) (g : A → B) (own : A → Bool) → ((x : A) → test (g x) ≡ own x) → (xs : List A) → position test (map g xs) ≡ position own xs
position_same test g own one xs =
    ap (λ n. cond (nat_lt n (length (map g xs))) (Some n) None) (prefix_same test g own one xs)
    ∙ ap (λ k. cond (nat_lt (prefix_len (λ x. not (own x)) xs) k) (Some (prefix_len (λ x. not (own x)) xs)) None) (length-map xs g)

-- ---- streams

declared_by : {B : Type 0} (g : Option Declared → B) (stream : Declared) (more same : Option Declared) (b : Bool) → g (Some (erased_stream stream)) ≡ g (Some stream) → g more ≡ g same →
    g (if b then Some (erased_stream stream) else more) ≡ g (if b then Some stream else same)
declared_by g stream more same true one others = one
declared_by g stream more same false one others = others

-- to a function that takes no place, the stream that is declared under a name is the same
pub declared_same : {B : Type 0} (g : Option Declared → B) → ((s : Declared) → g (Some (erased_stream s)) ≡ g (Some s)) → (streams : List Declared) (name : List ℕ) →
    g (declared (map erased_stream streams) name) ≡ g (declared streams name)
declared_same g one [] name = refl
declared_same g one (stream ∷ streams) name =
    declared_by g stream (declared (map erased_stream streams) name) (declared streams name) (bytes_eq stream.name.text name) (one stream) (declared_same g one streams name)

pub join_same : {B : Type 0} (g : Option Declared → B) → ((s : Declared) → g (Some (erased_stream s)) ≡ g (Some s)) → (streams : List Declared) (join : Option Join) →
    g (join_stream (map erased_stream streams) (option_map erased_join join)) ≡ g (join_stream streams join)
join_same g one streams None = refl
join_same g one streams (Some join) = declared_same g one streams join.stream.text

column_same : (decls : List ColumnDecl) → map column_of (map erased_decl decls) ≡ map column_of decls
column_same decls = map_same column_of erased_decl column_of (λ decl. refl) decls

kept_by : (n : ℕ) (decls : List ColumnDecl) → map column_of (take n (map erased_decl decls)) ≡ map column_of (take n decls)
kept_by n decls = ap (map column_of) (take-map erased_decl n decls) ∙ column_same (take n decls)

kept_same : (decls : List ColumnDecl) → kept_columns (map erased_decl decls) ≡ kept_columns decls
kept_same decls = kept_by 64 decls

event_same : (columns : List Column) (watermark : Option Watermark) → event_in columns (option_map erased_watermark watermark) ≡ event_in columns watermark
event_same columns None = refl
event_same columns (Some watermark) = refl

stream_same : (stream : Declared) → stream_of (erased_stream stream) ≡ stream_of stream
stream_same stream = λ i. record {
  name = stream.name.text;
  source = stream.source;
  schema = record {
    columns = kept_same stream.columns i;
    event = ((λ j. event_in (kept_same stream.columns j) (option_map erased_watermark stream.watermark)) ∙ event_same (kept_columns stream.columns) stream.watermark) i;
  };
  delay = maybe_same delay_of erased_watermark delay_of (λ watermark. refl) stream.watermark i;
}

source_same : (stream : Declared) → source_of (erased_stream stream) ≡ source_of stream
source_same stream = λ i. record {
  name = stream.name.text;
  columns = column_same stream.columns i;
  watermark = maybe_same watermark_name erased_watermark watermark_name (λ watermark. refl) stream.watermark i;
}

listed_same : (stream : Declared) → listed (Some (erased_stream stream)) ≡ listed (Some stream)
listed_same stream = λ i. stream_same stream i ∷ []

pub streams_same : (query : Query) → streams_of (erased query) ≡ streams_of query
streams_same query = λ i.
    declared_same listed listed_same query.streams query.select.from.text i
    ++ join_same listed listed_same query.streams query.select.join i

-- ---- names

found_same : (stream : Declared) → option_map source_of (Some (erased_stream stream)) ≡ option_map source_of (Some stream)
found_same stream = ap Some (source_same stream)

left_same : (query : Query) → option_map source_of (left_stream (erased query)) ≡ option_map source_of (left_stream query)
left_same query = declared_same (option_map source_of) found_same query.streams query.select.from.text

right_same : (query : Query) → option_map source_of (right_stream (erased query)) ≡ option_map source_of (right_stream query)
right_same query = join_same (option_map source_of) found_same query.streams query.select.join

rows_same : (query : Query) → row_scope (erased query) ≡ row_scope query
rows_same query = λ i. record { left = left_same query i; right = right_same query i; keys = [] }

pub spot_same : (scope : Scope) (column : ColumnRef) → spot_in (spot_of scope (erased_column column)) ≡ spot_in (spot_of scope column)
spot_same scope column = spot_stays scope column.stream column.column

pub index_same : (scope : Scope) (ident : Ident) → bare_index scope (erased_ident ident) ≡ bare_index scope ident
index_same scope ident = ap (row_index scope) (spot_stays scope None ident)

-- ---- keys of groups

key_same : (r s : Result Spot BindFault) → spot_in r ≡ spot_in s → found_key r ≡ found_key s
key_same (Ok r) (Ok s) is = let same : r ≡ s = cc in ap (λ spot. key.Column spot ∷ []) same
key_same (Ok r) (Err g) is = absurd cc
key_same (Err f) (Ok s) is = absurd cc
key_same (Err f) (Err g) is = refl

keys_of_same : (scope : Scope) (x : Group) → keys_of scope (erased_group_item x) ≡ keys_of scope x
keys_of_same scope (group.Column ident) = key_same (bare_spot scope (erased_ident ident)) (bare_spot scope ident) (spot_stays scope None ident)
keys_of_same scope (group.Window window) = refl

keys_same : (scope : Scope) (by : Option GroupBy) → group_keys scope (option_map erased_group by) ≡ group_keys scope by
keys_same scope None = refl
keys_same scope (Some by) = flat_same (keys_of scope) erased_group_item (keys_of scope) (keys_of_same scope) by.items

names_same : (query : Query) → scope_of (erased query) ≡ scope_of query
names_same query = λ i. record {
  left = left_same query i;
  right = right_same query i;
  keys = ((λ j. group_keys (rows_same query j) (option_map erased_group query.select.group)) ∙ keys_same (row_scope query) query.select.group) i;
}

size_in_same : (items : List Group) → size_in (map erased_group_item items) ≡ size_in items
size_in_same [] = refl
size_in_same (group.Column ident ∷ more) = size_in_same more
size_in_same (group.Window window ∷ more) = refl

size_same : (by : Option GroupBy) → window_size (option_map erased_group by) ≡ window_size by
size_same None = refl
size_same (Some by) = size_in_same by.items

pub context_same : (query : Query) → context_of (erased query) ≡ context_of query
unfolding context_of
context_same query = λ i. record { scope = names_same query i; size = size_same query.select.group i }

bare_stream : (stream : Option Ident) → is_bare (option_map erased_ident stream) ≡ is_bare stream
bare_stream None = refl
bare_stream (Some stream) = refl

pub window_same : (scope : Scope) (column : ColumnRef) → is_window_column scope (erased_column column) ≡ is_window_column scope column
window_same scope column = λ i. bare_stream column.stream i && is_window_here scope within.Group column.column.text

pub key_index_same : (scope : Scope) (column : ColumnRef) → key_index scope (erased_column column) ≡ key_index scope column
key_index_same scope column = λ i. if window_same scope column i then position is_window_key scope.keys else key_spot scope (spot_same scope column i)
