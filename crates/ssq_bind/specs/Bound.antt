-- The bound query that a query is, for a query that breaks a rule too. It is a function of the query.
use Rattle.std.specs.Prelude.{ℕ, List, ◌++◌, map, length, if◌then◌else◌, Option, Some, None}
use Rattle.std.specs.List.{flat_map}
use Rattle.std.specs.Option.{option_map}
use Rattle.ssq_shape.specs.declared.bound.Aggregate.{Aggregate}
use Rattle.ssq_shape.specs.declared.bound.Bound.{Bound}
use Rattle.ssq_shape.specs.declared.bound.Grouping.{Grouping}
use Rattle.ssq_shape.specs.declared.bound.Mode.{Mode}
use Rattle.ssq_shape.specs.declared.bound.Mode.TheVariants as mode
use Rattle.ssq_shape.specs.declared.bound.Output.{Output}
use Rattle.ssq_shape.specs.declared.bound.Shape.{Shape}
use Rattle.ssq_shape.specs.declared.bound.Shape.TheVariants as shape
use Rattle.ssq_shape.specs.declared.bound.SortKey.{SortKey}
use Rattle.ssq_shape.specs.declared.bound.Stream.{Stream}
use Rattle.ssq_shape.specs.declared.typed.Typed.{Typed}
use Rattle.ssq_ast.specs.declared.query.Condition.{Condition}
use Rattle.ssq_ast.specs.declared.query.Deduplicate.{Deduplicate}
use Rattle.ssq_ast.specs.declared.query.Join.{Join}
use Rattle.ssq_ast.specs.declared.query.Mode.{Mode as Written}
use Rattle.ssq_ast.specs.declared.query.Mode.TheVariants as written
use Rattle.ssq_ast.specs.declared.query.Query.{Query}
use Rattle.ssq_ast.specs.Canonical.{canonical}
use Rattle.ssq_check.specs.Names.{scope_of}
use Rattle.ssq_check.specs.Shown.{is_group, shown_within}
use Rattle.ssq_bind.specs.declared.context.Context.{Context}
use Rattle.ssq_bind.specs.declared.whole.Kept.{Kept}
use Rattle.ssq_bind.specs.Joins.{joining_of}
use Rattle.ssq_bind.specs.Shapes.{item_aggregates, outputs_of, sort_key, window_size, group_items, bare_index, key_of, having_value, having_aggregates}
use Rattle.ssq_bind.specs.Streams.{streams_of}
use Rattle.ssq_bind.specs.Value.{row_value}

-- what names mean in the query, and the size of its window
unfoldable pub context_of : Query → Context
context_of query = record { scope = scope_of query; size = window_size query.select.group }

unfoldable pub select_aggregates : Query → List Aggregate
select_aggregates query = flat_map (item_aggregates (context_of query) (shown_within query)) query.select.items

-- what is shown, and what groups must meet
pub record Shown : Type 0 where
  pub outputs : List Output
  pub aggregates : List Aggregate
  pub having : Option Typed

-- what is shown, and HAVING; the aggregates of SELECT, then those of HAVING
unfoldable pub shown_of : Query → Shown
shown_of query = record {
  outputs = outputs_of (context_of query) (shown_within query) 0 query.select.items;
  aggregates = select_aggregates query ++ having_aggregates (context_of query) (shown_within query) query.select.having;
  having = option_map (having_value (context_of query) (shown_within query) (length (select_aggregates query))) query.select.having;
}

-- what rows are grouped by, the aggregates, and what groups must meet
abbrev pub grouping_of : Query → Grouping
grouping_of query = record {
  keys = map (key_of (context_of query).scope) (group_items query.select.group);
  aggregates = (shown_of query).aggregates;
  having = (shown_of query).having;
}

abbrev pub kept_by : Context → Option Join → Option Deduplicate → Shape
kept_by context (Some join) deduplicate = shape.Join (joining_of context join)
kept_by context None (Some deduplicate) = shape.Dedup (map (bare_index context.scope) deduplicate.columns)
kept_by context None None = shape.Plain

-- groups where GROUP BY or an aggregate stands, else a join, else DEDUPLICATE
unfoldable pub shape_of : Query → Shape
shape_of query = if is_group query then shape.Group (grouping_of query) else kept_by (context_of query) query.select.join query.select.deduplicate

-- what is shown and what is kept
abbrev pub kept_of : Query → Kept
kept_of query = record { outputs = (shown_of query).outputs; shape = shape_of query }

abbrev pub mode_of : Written → Mode
mode_of written.Append = mode.Append
mode_of written.Update = mode.Update
mode_of written.Complete = mode.Complete

abbrev pub filter_value : Context → Condition → Typed
filter_value context condition = row_value context condition.value

-- the bound query of these parts
abbrev pub with_kept : Written → List ℕ → List Stream → Kept → Option Typed → List SortKey → Bound
with_kept written text streams kept filter order = record {
  text = text;
  streams = streams;
  mode = mode_of written;
  shape = kept.shape;
  filter = filter;
  outputs = kept.outputs;
  order = order;
}

-- the canonical text, the streams that are read, what is kept, and the expressions
unfoldable pub bound_of : Query → Bound
bound_of query = record {
  text = canonical query;
  streams = streams_of query;
  mode = mode_of query.select.mode;
  shape = shape_of query;
  filter = option_map (filter_value (context_of query)) query.select.filter;
  outputs = (shown_of query).outputs;
  order = map (sort_key query.select.items) query.select.order;
}
