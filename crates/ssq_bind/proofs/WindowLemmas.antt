-- Windows are fit.
use Rattle.std.proofs.Common.{◌≡◌, refl, ap, sym, subst, arith, suc, ℕ, ◌≤◌, ℤ, List, [], ◌∷◌, map, drop, length, filter, Option, Some, None, IfSome}
use Rattle.std.specs.Prelude.{All}
use Rattle.std.specs.List.{AllByRecursion, flat_map}
use Rattle.std.specs.Option.{option_map}
use Rattle.std.proofs.lemmas.List.Elements.{All-head, All-tail}
use Rattle.ssq_time.specs.Time.{IsSpan}
use Rattle.ssq_shape.specs.declared.bound.Bound.{Bound}
use Rattle.ssq_shape.specs.Windows.{HasWindow, is_window, HasWindowsBy, HasWindows}
use Rattle.ssq_lex.specs.declared.keyword.Keyword.TheVariants as key
use Rattle.ssq_ast.specs.declared.expr.Span.{Span}
use Rattle.ssq_ast.specs.declared.query.Group.{Group}
use Rattle.ssq_ast.specs.declared.query.Group.TheVariants as group
use Rattle.ssq_ast.specs.declared.query.GroupBy.{GroupBy}
use Rattle.ssq_ast.specs.declared.query.Query.{Query}
use Rattle.ssq_ast.specs.Expression.{behind}
use Rattle.ssq_ast.specs.Statement.{WrittenGroup, column_group, window_group, WrittenSelect, WrittenQuery, separated, declared_words, distinct_words, item_words, join_words, condition_words, deduplicate_words, group_item_words, group_item_tree, group_tree, query_tree, Each, IsSpanText, IsRegularGroup, IsRegularQuery, IsFit}
use Rattle.ssq_check.specs.declared.scope.Scope.{Scope}
use Rattle.ssq_check.specs.Clauses.{slide_or, slide_of, group_windows}
use Rattle.ssq_check.specs.Fault.{AreNone}
use Rattle.ssq_check.specs.Names.{row_scope}
use Rattle.ssq_check.specs.Sound.{IsSoundGroupItem, IsSoundGroup, IsSound}
use Rattle.ssq_check.specs.Whole.{QueryFaults}
use Rattle.ssq_check.proofs.SoundLemmas.{sound_where_none}
use Rattle.ssq_bind.specs.Bound.{context_of, bound_of}
use Rattle.ssq_bind.specs.Shapes.{group_items, key_of}
use Rattle.ssq_bind.specs.Windows.{HasWindowsIfWritten, WindowsAreFit}
use Rattle.ssq_bind.proofs.EachShape.{shape_has}
use Rattle.ssq_bind.proofs.SpanLemmas.{text_is, trees_have}

-- ---- what is written

-- the size and the slide of a window are spans
abbrev HasSpans : Group → Type 0
HasSpans (group.Column ident) = Unit {0}
HasSpans (group.Window window) = IsSpan window.size.micros × IsSpan (slide_of window)

abbrev HaveSpans : Option GroupBy → Type 0
HaveSpans by = IfSome by (λ by. Each HasSpans by.items)

written_slide : (size : ℤ) (slide : Option Span) → IsSpan size → IfSome slide IsSpanText → IsSpan (slide_or size slide)
written_slide size None is text = is
written_slide size (Some slide) is text = text_is slide.text slide.micros text

written_group : (x : WrittenGroup) (places : List ℕ) → IsRegularGroup x → HasSpans (group_item_tree x places)
written_group (column_group column) places is = tt
written_group (window_group window) places is =
    let size : IsSpan window.size.micros = text_is window.size.text window.size.micros is.0 in
    (size, written_slide window.size.micros window.slide size is.1)

written_groups : (groups : Option (List WrittenGroup)) (places : List ℕ) → IfSome groups (Each IsRegularGroup) → HaveSpans (option_map (λ items. group_tree items places) groups)
written_groups None places is = tt
written_groups (Some items) places is = trees_have IsRegularGroup HasSpans group_item_words group_item_tree 1 written_group items _ is

-- the places from GROUP BY on
abbrev from_group : WrittenSelect → List ℕ → List ℕ
from_group select places =
    let from_items : List ℕ = behind (distinct_words select.distinct) (drop 1 places) in
    let from_join : List ℕ = drop 2 (behind (separated (map item_words select.items)) from_items) in
    let from_filter : List ℕ = behind (join_words select.join) from_join in
    behind (deduplicate_words select.deduplicate) (behind (condition_words key.Where select.filter) from_filter)

written_query : (query : WrittenQuery) (places : List ℕ) → IsRegularQuery IsFit query → HaveSpans (query_tree query places).select.group
written_query query places is = written_groups query.select.group (from_group query.select (behind (flat_map declared_words query.streams) places)) is.select.group

-- ---- what breaks no rule

module _ (rows names : Scope) where
  fit_key : (x : Group) → HasSpans x → IsSoundGroupItem names x → HasWindow (key_of rows x)
  fit_key (group.Column ident) spans sound = tt
  fit_key (group.Window window) spans sound = record { size_is = spans.0; slide_is = spans.1; least = sound.slide; most = sound.few }

  fit_keys : (xs : List Group) → Each HasSpans xs → All (IsSoundGroupItem names) xs → AllByRecursion HasWindow (map (key_of rows) xs)
  fit_keys [] spans sound = tt
  fit_keys (x ∷ xs) spans sound = (
    fit_key x spans.0 (All-head (IsSoundGroupItem names) x xs sound),
    fit_keys xs spans.1 (All-tail (IsSoundGroupItem names) x xs sound),
  )

  as_many : (xs : List Group) → length (filter is_window (map (key_of rows) xs)) ≡ length (flat_map group_windows xs)
  as_many [] = refl
  as_many (group.Column ident ∷ xs) = as_many xs
  as_many (group.Window window ∷ xs) = ap suc (as_many xs)

  -- the keys of a grouping, by GROUP BY
  fit_groups : (by : Option GroupBy) → HaveSpans by → IfSome by (IsSoundGroup names)
      → AllByRecursion HasWindow (map (key_of rows) (group_items by)) × (length (filter is_window (map (key_of rows) (group_items by))) ≤ 1)
  fit_groups None spans sound = (tt, omega arith)
  fit_groups (Some by) spans sound = (
    fit_keys by.items spans sound.each,
    subst (λ (n : ℕ). n ≤ 1) (sym (as_many by.items)) sound.one_window,
  )

-- ---- the whole

query_has : (query : Query) → HaveSpans query.select.group → IsSound query → HasWindows (bound_of query)
unfolding bound_of
query_has query spans sound =
    let fit = fit_groups (context_of query).scope (row_scope query) query.select.group spans sound.group in
    shape_has HasWindowsBy query (λ grouped. record { each = fit.0; one = fit.1 }) (λ join is. tt) (λ own none is. tt) (λ none. tt)

pub windows_are_fit : WindowsAreFit
windows_are_fit query none tokens is =
    query_has query (subst (λ (made : Query). HaveSpans made.select.group) is.meant (written_query is.written (map (λ token. token.start) tokens) is.regular)) (sound_where_none query none)

-- the same of an equal bound query
pub windows_if_written : (query : Query) (bound : Bound) → bound ≡ bound_of query → AreNone (QueryFaults query) → HasWindowsIfWritten query bound
windows_if_written query bound is none tokens written = subst HasWindows (sym is) (windows_are_fit query none tokens written)
