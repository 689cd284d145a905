-- Delays are spans of time.
use Rattle.std.proofs.Common.{◌≡◌, refl, subst, ℕ, ◌*◌, ◌≤◌, ℤ, pos, Bool, true, false, ◌&&◌, nat_le, arith, List, [], ◌∷◌, map, take, drop, Option, Some, None, IfSome}
use Rattle.std.specs.Prelude.{◌==◌, ◌+◌, if◌then◌else◌, option_and_then, position}
use Rattle.std.specs.List.{All}
use Rattle.std.specs.Option.{option_map}
use Rattle.std.proofs.lemmas.Bool.Decides.{nat_tests}
use Rattle.ssq_time.proofs.Signed.{signed_arith}
use Rattle.ssq_time.specs.Time.{number_of, unit_of, span_from, span_with, span_of, IsSpan}
use Rattle.ssq_ast.specs.declared.query.Query.{Query}
use Rattle.ssq_ast.specs.declared.query.Stream.{Stream as Declared}
use Rattle.ssq_ast.specs.declared.query.Watermark.{Watermark}
use Rattle.ssq_ast.specs.Expression.{Words, behind}
use Rattle.ssq_ast.specs.Statement.{WrittenStream, WrittenWatermark, decl_words, separated, watermark_tree, declared_words, declared_tree, each_tree, Each, IsSpanText, IsRegularStream}
use Rattle.ssq_check.specs.Names.{left_stream, right_stream}
use Rattle.ssq_bind.specs.Bound.{bound_of}
use Rattle.ssq_bind.specs.Delays.{HasSpan, DelaysAreSpans}
use Rattle.ssq_bind.specs.Streams.{delay_of, stream_of}
use Rattle.ssq_bind.proofs.EachStream.{all_each, left_has, right_has, read_have}

from_by : (n : ℕ) (b c : Bool) → nat_le 1 n ≡ b → nat_le n 31_622_400 ≡ c → IfSome (if b && c then Some (pos (1_000_000 * n)) else None) IsSpan
from_by n true true some few = let low : 1 ≤ n = grind (arith, nat_tests) in let high : n ≤ 31_622_400 = grind (arith, nat_tests) in (omega (arith, signed_arith, low), omega (arith, signed_arith, high))
from_by n true false some few = tt
from_by n false c some few = tt

from_is : (n : ℕ) → IfSome (span_from n) IsSpan
unfolding span_from
from_is n = from_by n (nat_le 1 n) (nat_le n 31_622_400) refl refl

with_is : (number unit : Option ℕ) → IfSome (span_with number unit) IsSpan
unfolding span_with
with_is None unit = tt
with_is (Some n) None = tt
with_is (Some n) (Some seconds) = from_is (n * seconds)

span_is : (text : List ℕ) → IfSome (span_of text) IsSpan
unfolding span_of
span_is text = by (position (λ byte. byte == 32) text)
  where
    by : (o : Option ℕ) → IfSome (option_and_then (λ space. span_with (number_of (take space text)) (unit_of (drop (space + 1) text))) o) IsSpan
    by None = tt
    by (Some space) = with_is (number_of (take space text)) (unit_of (drop (space + 1) text))

pub text_is : (text : List ℕ) (micros : ℤ) → span_of text ≡ Some micros → IsSpan micros
text_is text micros is = subst (λ o. IfSome o IsSpan) is (span_is text)

-- the watermark of a declared stream, if it has one, has a span
abbrev Delayed : Declared → Type 0
Delayed stream = IfSome stream.watermark (λ watermark. IsSpan watermark.delay.micros)

written_delay : (watermark : Option WrittenWatermark) (places : List ℕ) → IfSome watermark (λ w. IsSpanText w.delay) → IfSome (option_map (λ w. watermark_tree w places) watermark) (λ w. IsSpan w.delay.micros)
written_delay None places is = tt
written_delay (Some watermark) places is = text_is watermark.delay.text watermark.delay.micros is

written_stream : (stream : WrittenStream) (places : List ℕ) → IsRegularStream stream → Delayed (declared_tree stream places)
written_stream stream places is = written_delay stream.watermark (drop 3 (behind (separated (map decl_words stream.columns)) (drop 4 places))) is.delay

-- what each part of a list has, each tree of the list has
pub trees_have : {A B : Type 0} (P : A → Type 0) (Q : B → Type 0) (written : A → Words) (made : A → List ℕ → B) (gap : ℕ)
    → ((part : A) (places : List ℕ) → P part → Q (made part places)) → (parts : List A) (places : List ℕ) → Each P parts → Each Q (each_tree written made gap parts places)
trees_have P Q written made gap each [] places is = tt
trees_have P Q written made gap each (part ∷ parts) places is = (each part places is.0, trees_have P Q written made gap each parts (drop gap (behind (written part) places)) is.1)

delay_has : (watermark : Option Watermark) → IfSome watermark (λ w. IsSpan w.delay.micros) → IfSome (option_map delay_of watermark) IsSpan
delay_has None is = tt
delay_has (Some watermark) is = is

streams_have : (query : Query) → All Delayed query.streams → All HasSpan (bound_of query).streams
streams_have query all = read_have HasSpan query (delayed (left_stream query) (left_has Delayed query all)) (delayed (right_stream query) (right_has Delayed query all))
  where
    delayed : (o : Option Declared) → IfSome o Delayed → IfSome o (λ own. HasSpan (stream_of own))
    delayed None is = tt
    delayed (Some stream) is = delay_has stream.watermark is

pub delays_are_spans : DelaysAreSpans
delays_are_spans tokens query is =
    streams_have query (all_each Delayed query.streams (subst (λ (made : Query). Each Delayed made.streams) is.meant (trees_have IsRegularStream Delayed declared_words declared_tree 0 written_stream is.written.streams (map (λ token. token.start) tokens) is.regular.streams)))
