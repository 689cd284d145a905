-- What is shown, and the bound query, put together from their parts.
use Rattle.std.proofs.Common.{◌≡◌, ◌∙◌, ap, sym, true, false, ℕ, List, [], ◌++◌, map, length, Option}
use Rattle.std.specs.Prelude.{if◌then◌else◌}
use Rattle.std.specs.List.{flat_map}
use Rattle.std.specs.Option.{option_map}
use Rattle.ssq_shape.specs.declared.bound.Aggregate.{Aggregate}
use Rattle.ssq_shape.specs.declared.bound.Bound.{Bound}
use Rattle.ssq_shape.specs.declared.bound.GroupKey.{GroupKey}
use Rattle.ssq_shape.specs.declared.bound.Output.{Output}
use Rattle.ssq_shape.specs.declared.bound.Shape.{Shape}
use Rattle.ssq_shape.specs.declared.bound.Shape.TheVariants as shape
use Rattle.ssq_shape.specs.declared.bound.SortKey.{SortKey}
use Rattle.ssq_shape.specs.declared.bound.Stream.{Stream}
use Rattle.ssq_shape.specs.declared.typed.Typed.{Typed}
use Rattle.ssq_ast.specs.declared.query.Item.{Item}
use Rattle.ssq_ast.specs.declared.query.OrderBy.{OrderBy}
use Rattle.ssq_ast.specs.declared.query.Query.{Query}
use Rattle.ssq_ast.specs.Canonical.{canonical}
use Rattle.ssq_check.specs.declared.scope.Within.{Within}
use Rattle.ssq_check.specs.declared.scope.Within.TheVariants as within
use Rattle.ssq_check.specs.Shown.{is_group, within_by, shown_within}
use Rattle.ssq_bind.specs.declared.context.Context.{Context}
use Rattle.ssq_bind.specs.declared.whole.Kept.{Kept}
use Rattle.ssq_bind.specs.Bound.{context_of, select_aggregates, shown_of, grouping_of, kept_by, shape_of, kept_of, with_kept, filter_value, bound_of}
use Rattle.ssq_bind.specs.Shapes.{item_aggregates, outputs_of, group_items, key_of, having_value, having_aggregates, sort_key}
use Rattle.ssq_bind.specs.Streams.{streams_of}

shown_made : (query : Query) (context : Context) (w : Within) (none found all : List Aggregate) (outputs : List Output) (having : Option Typed) (items : List Item) →
    context ≡ context_of query → w ≡ shown_within query → none ≡ [] → items ≡ query.select.items →
    outputs ≡ outputs_of context w (length none) items → found ≡ none ++ flat_map (item_aggregates context w) items →
    having ≡ option_map (having_value context w (length found)) query.select.having → all ≡ found ++ having_aggregates context w query.select.having →
    record { outputs = outputs; aggregates = all; having = having } ≡ shown_of query
unfolding shown_of select_aggregates
shown_made query context w none found all outputs having items in_context here no_other of_query shown first must both =
    let of_select : found ≡ flat_map (item_aggregates (context_of query) (shown_within query)) query.select.items =
    first ∙ (λ i. no_other i ++ flat_map (item_aggregates (in_context i) (here i)) (of_query i)) in
    λ i. record {
      outputs = (shown ∙ (λ j. outputs_of (in_context j) (here j) (length (no_other j)) (of_query j))) i;
      aggregates = (both ∙ (λ j. of_select j ++ having_aggregates (in_context j) (here j) query.select.having)) i;
      having = (must ∙ (λ j. option_map (having_value (in_context j) (here j) (length (of_select j))) query.select.having)) i;
    }

-- a query that groups its rows keeps groups
shape_grouped : (query : Query) → is_group query ≡ true → shape_of query ≡ shape.Group (grouping_of query)
unfolding shape_of
shape_grouped query is = λ i. if is i then shape.Group (grouping_of query) else kept_by (context_of query) query.select.join query.select.deduplicate

shape_ungrouped : (query : Query) → is_group query ≡ false → shape_of query ≡ kept_by (context_of query) query.select.join query.select.deduplicate
unfolding shape_of
shape_ungrouped query is = λ i. if is i then shape.Group (grouping_of query) else kept_by (context_of query) query.select.join query.select.deduplicate

pub grouped_made : (query : Query) (context : Context) (keys : List GroupKey) (none found all : List Aggregate) (outputs : List Output) (having : Option Typed) (items : List Item) →
    context ≡ context_of query → is_group query ≡ true → none ≡ [] → items ≡ query.select.items → keys ≡ map (key_of context.scope) (group_items query.select.group) →
    outputs ≡ outputs_of context within.Group (length none) items → found ≡ none ++ flat_map (item_aggregates context within.Group) items →
    having ≡ option_map (having_value context within.Group (length found)) query.select.having → all ≡ found ++ having_aggregates context within.Group query.select.having →
    record { outputs = outputs; shape = shape.Group (record { keys = keys; aggregates = all; having = having }) } ≡ kept_of query
grouped_made query context keys none found all outputs having items in_context is no_other of_query keyed shown first must both =
    let own : record { outputs = outputs; aggregates = all; having = having } ≡ shown_of query =
    shown_made query context within.Group none found all outputs having items in_context (sym (ap within_by is)) no_other of_query shown first must both in
    let grouping : record { keys = keys; aggregates = all; having = having } ≡ grouping_of query = λ i. record {
      keys = (keyed ∙ (λ j. map (key_of (in_context j).scope) (group_items query.select.group))) i;
      aggregates = (own i).aggregates;
      having = (own i).having;
    } in
    λ i. record { outputs = (own i).outputs; shape = (ap shape.Group grouping ∙ sym (shape_grouped query is)) i }

pub ungrouped_made : (query : Query) (context : Context) (none : List Aggregate) (outputs : List Output) (items : List Item) (kept : Shape) →
    context ≡ context_of query → is_group query ≡ false → none ≡ [] → items ≡ query.select.items →
    outputs ≡ outputs_of context within.Row (length none) items → kept ≡ kept_by context query.select.join query.select.deduplicate →
    record { outputs = outputs; shape = kept } ≡ kept_of query
unfolding shown_of
ungrouped_made query context none outputs items kept in_context is no_other of_query shown keeps =
    λ i. record {
      outputs = (shown ∙ (λ j. outputs_of (in_context j) (within_by (sym is j)) (length (no_other j)) (of_query j))) i;
      shape = (keeps ∙ ((λ j. kept_by (in_context j) query.select.join query.select.deduplicate) ∙ sym (shape_ungrouped query is))) i;
    }

pub bound_made : (query : Query) (context : Context) (bytes : List ℕ) (streams : List Stream) (kept : Kept) (filter : Option Typed) (order : List SortKey) (items : List Item) (written : List OrderBy) (bound : Bound) →
    context ≡ context_of query → bytes ≡ canonical query → streams ≡ streams_of query → kept ≡ kept_of query →
    filter ≡ option_map (filter_value context) query.select.filter →
    items ≡ query.select.items → written ≡ query.select.order → order ≡ map (sort_key items) written →
    bound ≡ with_kept query.select.mode bytes streams kept filter order → bound ≡ bound_of query
unfolding bound_of
bound_made query context bytes streams kept filter order items written bound in_context text_is streams_are kept_is filter_is items_are written_is order_is made =
    made ∙ (λ i. with_kept query.select.mode (text_is i) (streams_are i) (kept_is i)
    ((filter_is ∙ (λ j. option_map (filter_value (in_context j)) query.select.filter)) i)
    ((order_is ∙ (λ j. map (sort_key (items_are j)) (written_is j))) i))
