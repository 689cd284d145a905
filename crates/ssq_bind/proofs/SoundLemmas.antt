-- What holds of the bound query of a query that breaks no rule.
use Rattle.std.proofs.Common.{◌≡◌, sym, subst, ◌<◌, ◌≤◌, true, arith, ℕ, List, ◌++◌, map, length, take, Option, Some, None}
use Rattle.std.specs.Prelude.{◌^◌}
use Rattle.std.specs.List.{All}
use Rattle.std.specs.Option.{option_map}
use Rattle.std.specs.Str.{IsUtf8}
use Rattle.std.proofs.lemmas.List.{length-map, length-take}
use Rattle.ssq_shape.specs.declared.bound.Bound.{Bound}
use Rattle.ssq_ast.specs.declared.query.ColumnDecl.{ColumnDecl}
use Rattle.ssq_ast.specs.declared.query.Query.{Query}
use Rattle.ssq_ast.specs.declared.query.Stream.{Stream as Declared}
use Rattle.ssq_check.specs.Names.{column_of, is_there, source_of, left_stream, right_stream}
use Rattle.ssq_check.specs.Sound.{IsSound}
use Rattle.ssq_bind.specs.Bound.{bound_of}
use Rattle.ssq_bind.specs.Sound.{HasEventIfDelayed, HasFewColumns, IsSoundBound}
use Rattle.ssq_bind.specs.Streams.{listed}
use Rattle.ssq_bind.proofs.EachStream.{any_read}
use Rattle.ssq_bind.proofs.TimedLemmas.{events_have_delays}

one_listed : (a b : Option Declared) → is_there (option_map source_of a) ≡ true → 1 ≤ length (listed a ++ listed b)
one_listed None b is = absurd cc
one_listed (Some a) None is = omega arith
one_listed (Some a) (Some b) is = omega arith

two_listed : (a b : Option Declared) → length (listed a ++ listed b) ≤ 2
two_listed None None = omega arith
two_listed None (Some b) = omega arith
two_listed (Some a) None = omega arith
two_listed (Some a) (Some b) = omega arith

one_stream : (query : Query) → IsSound query → 1 ≤ length (bound_of query).streams
unfolding bound_of
one_stream query sound = one_listed (left_stream query) (right_stream query) sound.from

two_streams : (query : Query) → length (bound_of query).streams ≤ 2
unfolding bound_of
two_streams query = two_listed (left_stream query) (right_stream query)

-- so many of some columns are kept at most
few_of : (most : ℕ) (columns : List ColumnDecl) → length (map column_of (take most columns)) ≤ most
few_of most columns = omega (arith, length-map (take most columns) column_of, length-take most columns)

few_columns : (query : Query) → All HasFewColumns (bound_of query).streams
few_columns query = any_read HasFewColumns query (λ stream. few_of 64 stream.columns)

pub sound_bound : (query : Query) (bound : Bound) → bound ≡ bound_of query → IsSound query → IsUtf8 bound.text → length bound.text < 2 ^ 64 → IsSoundBound bound
sound_bound query bound is sound utf8 few = record {
  some_stream = subst (λ (b : Bound). 1 ≤ length b.streams) (sym is) (one_stream query sound);
  few_streams = subst (λ (b : Bound). length b.streams ≤ 2) (sym is) (two_streams query);
  utf8 = utf8;
  few_bytes = few;
  columns = subst (λ (b : Bound). All HasFewColumns b.streams) (sym is) (few_columns query);
  events = subst (λ (b : Bound). All HasEventIfDelayed b.streams) (sym is) (events_have_delays query);
}
