-- A join reads two streams, and any other query one.
use Rattle.std.proofs.Common.{◌≡◌, refl, Bool, true, false, Option, Some, None}
use Rattle.std.specs.Prelude.{◌||◌, ◌&&◌, length, ◌++◌}
use Rattle.std.specs.Option.{option_map}
use Rattle.ssq_shape.specs.declared.bound.Shape.{Shape}
use Rattle.ssq_ast.specs.declared.query.Join.{Join}
use Rattle.ssq_ast.specs.declared.query.Query.{Query}
use Rattle.ssq_ast.specs.declared.query.Stream.{Stream as Declared}
use Rattle.ssq_check.specs.Names.{is_there, left_stream, right_stream, row_scope, source_of}
use Rattle.ssq_check.specs.Shown.{is_group}
use Rattle.ssq_check.specs.Sound.{IsSound, IsSoundJoin}
use Rattle.ssq_check.proofs.SoundLemmas.{sound_where_none}
use Rattle.ssq_bind.specs.Bound.{bound_of}
use Rattle.ssq_bind.specs.Read.{QueriesReadTheirStreams, ReadsItsStreams, streams_read}
use Rattle.ssq_bind.specs.Streams.{listed}
use Rattle.ssq_bind.proofs.EachShape.{shape_has, if_some_at}

-- one stream is listed of FROM, and one of JOIN where there is one
one_left : (left right : Option Declared) → is_there (option_map source_of left) ≡ true → is_there (option_map source_of right) ≡ false → length (listed left ++ listed right) ≡ 1
one_left None right there none = absurd cc
one_left (Some left) None there none = refl
one_left (Some left) (Some right) there none = absurd cc

two_there : (left right : Option Declared) → is_there (option_map source_of left) ≡ true → is_there (option_map source_of right) ≡ true → length (listed left ++ listed right) ≡ 2
two_there None right there other = absurd cc
two_there (Some left) None there other = absurd cc
two_there (Some left) (Some right) there other = refl

grouped_apart : (join : Option Join) (other grouped : Bool) → ((is_there join || other) && grouped) ≡ false → grouped ≡ true → join ≡ None
grouped_apart None other grouped apart is = refl
grouped_apart (Some join) other true apart is = absurd cc
grouped_apart (Some join) other false apart is = absurd cc

none_joined : (query : Query) → query.select.join ≡ None → is_there (option_map source_of (right_stream query)) ≡ false
none_joined query none = rw (none) refl

read_has : (query : Query) → IsSound query → ReadsItsStreams (bound_of query)
unfolding bound_of
read_has query sound =
    let one : query.select.join ≡ None → length (listed (left_stream query) ++ listed (right_stream query)) ≡ 1 =
    λ none. one_left (left_stream query) (right_stream query) sound.from (none_joined query none) in
    shape_has (λ (own : Shape). length (listed (left_stream query) ++ listed (right_stream query)) ≡ streams_read own) query
    (λ grouped. one (grouped_apart query.select.join (is_there query.select.deduplicate) (is_group query) sound.group_alone grouped))
    (λ join is. two_there (left_stream query) (right_stream query) sound.from (if_some_at (IsSoundJoin (row_scope query) query.select.from.text) query.select.join join sound.join is).declared)
    (λ own none is. one none)
    one

pub queries_read_their_streams : QueriesReadTheirStreams
queries_read_their_streams query none = read_has query (sound_where_none query none)
