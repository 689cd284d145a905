-- What holds of each stream that is declared holds of those that are read.
use Rattle.std.proofs.Common.{ℕ, List, [], ◌∷◌, Bool, true, false, Option, Some, None}
use Rattle.std.specs.Prelude.{if◌then◌else◌, IfSome}
use Rattle.std.specs.List.{All}
use Rattle.std.specs.Str.{bytes_eq}
use Rattle.std.proofs.lemmas.List.Elements.{All-nil, All-cons, All-append, All-head, All-tail}
use Rattle.ssq_shape.specs.declared.bound.Stream.{Stream}
use Rattle.ssq_ast.specs.declared.query.Join.{Join}
use Rattle.ssq_ast.specs.declared.query.Query.{Query}
use Rattle.ssq_ast.specs.declared.query.Stream.{Stream as Declared}
use Rattle.ssq_ast.specs.Statement.{Each}
use Rattle.ssq_check.specs.Names.{declared, left_stream, join_stream, right_stream}
use Rattle.ssq_bind.specs.Bound.{bound_of}
use Rattle.ssq_bind.specs.Streams.{stream_of, listed}

pub if_any : {A : Type 0} (P : A → Type 0) (o : Option A) → ((x : A) → P x) → IfSome o P
if_any P None each = tt
if_any P (Some x) each = each x

pub all_each : {A : Type 0} (P : A → Type 0) (xs : List A) → Each P xs → All P xs
all_each P [] is = All-nil P
all_each P (x ∷ xs) is = All-cons P x xs is.0 (all_each P xs is.1)

-- ---- the streams that FROM and JOIN name

module _ (P : Declared → Type 0) where
  declared_has : (streams : List Declared) (name : List ℕ) → All P streams → IfSome (declared streams name) P
  declared_has [] name all = tt
  declared_has (stream ∷ streams) name all = by (bytes_eq stream.name.text name) (declared_has streams name (All-tail P stream streams all))
    where
      by : (b : Bool) → IfSome (declared streams name) P → IfSome (if b then Some stream else declared streams name) P
      by true rest = All-head P stream streams all
      by false rest = rest

  joined_has : (streams : List Declared) (join : Option Join) → All P streams → IfSome (join_stream streams join) P
  joined_has streams None all = tt
  joined_has streams (Some join) all = declared_has streams join.stream.text all

  pub left_has : (query : Query) → All P query.streams → IfSome (left_stream query) P
  left_has query all = declared_has query.streams query.select.from.text all

  pub right_has : (query : Query) → All P query.streams → IfSome (right_stream query) P
  right_has query all = joined_has query.streams query.select.join all

-- ---- the streams that are read

module _ (P : Stream → Type 0) where
  listed_has : (o : Option Declared) → IfSome o (λ own. P (stream_of own)) → All P (listed o)
  listed_has None is = All-nil P
  listed_has (Some stream) is = All-cons P (stream_of stream) [] is (All-nil P)

  pub read_have : (query : Query) → IfSome (left_stream query) (λ own. P (stream_of own)) → IfSome (right_stream query) (λ own. P (stream_of own)) → All P (bound_of query).streams
  unfolding bound_of
  read_have query left right = All-append P (listed (left_stream query)) (listed (right_stream query)) (listed_has (left_stream query) left) (listed_has (right_stream query) right)

  -- where it holds of any stream
  pub any_read : (query : Query) → ((own : Declared) → P (stream_of own)) → All P (bound_of query).streams
  any_read query each = read_have query (if_any (λ own. P (stream_of own)) (left_stream query) each) (if_any (λ own. P (stream_of own)) (right_stream query) each)
