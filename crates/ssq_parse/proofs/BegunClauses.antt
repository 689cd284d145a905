-- Where a token is missing in an item or a clause of a query, the words in front of it begin one.
use Rattle.std.proofs.Common.{◌≡◌, ℕ, ℤ, Bool, true, false, sym, List, [], ◌∷◌, ◌++◌, map, drop, refl, Option, Some, None, Ok, append_assoc}
use Rattle.std.specs.Prelude.{if◌then◌else◌, IfSome}
use Rattle.ssq_ast.specs.declared.expr.Expr.{Expr}
use Rattle.ssq_ast.specs.declared.expr.Expr.TheVariants as e
use Rattle.ssq_ast.specs.declared.expr.Span.{Span}
use Rattle.ssq_ast.specs.declared.query.Direction.{Direction}
use Rattle.ssq_ast.specs.declared.query.Direction.TheVariants as direction
use Rattle.ssq_ast.specs.declared.query.Group.TheVariants as group
use Rattle.ssq_ast.specs.declared.query.JoinKind.{JoinKind}
use Rattle.ssq_ast.specs.declared.query.JoinKind.TheVariants as join
use Rattle.ssq_ast.specs.declared.query.Mode.{Mode}
use Rattle.ssq_ast.specs.declared.query.Mode.TheVariants as mode
use Rattle.ssq_ast.specs.Expression.{Words, Written, words, of_column, IsRegular}
use Rattle.ssq_ast.specs.Statement.{WrittenItem, bare_item, named_item, WrittenJoin, WrittenWindow, WrittenGroup, column_group, window_group, WrittenOrder, Each, IsFilled, IsSpanText, IsRegularGroup, IsRegularItem, separated, item_words, kind_words, join_words, condition_words, deduplicate_words, slide_words, window_words, group_item_words, group_words, direction_words, order_item_words, order_words, limit_words, mode_key, IsFit}
use Rattle.ssq_lex.specs.declared.keyword.Keyword.{Keyword}
use Rattle.ssq_lex.specs.declared.keyword.Keyword.TheVariants as key
use Rattle.ssq_lex.specs.declared.symbol.Symbol.TheVariants as mark
use Rattle.ssq_lex.specs.Lexeme.{keyword, name, Lexed}
use Rattle.ssq_parse.specs.declared.tree.Tree.{Tree}
use Rattle.ssq_parse.specs.Expressions.{whole_at}
use Rattle.ssq_parse.specs.Queries.{bare_at, item_of, item_by, item_at, condition_by, condition_at, joined_at, outer_at, bare_join, right_join, left_join, inner_join, join_at, deduplicate_by, deduplicate_at, slide_by, slide_at, window_at, group_item_by, group_item_at, group_by, group_at, direction_by, direction_at, order_item_at, order_by, order_at, limit_by, limit_at, or_mode, mode_at}
use Rattle.ssq_parse.specs.Reading.{Ahead, ◌>>=◌, behind, seen, sees, is_keyword, is_name, keyword_at, name_at}
use Rattle.ssq_parse.specs.Written.{Took, Spelled}
use Rattle.ssq_parse.proofs.Begun.{IfBegun, if_begun_map, begun_then, begun_any, begun_next, RefusesNext, name_next}
use Rattle.ssq_parse.proofs.BegunExpressions.{whole_begun}
use Rattle.ssq_parse.proofs.BegunPhrases.{Phrases, nothing, word, both, Tells, Behind, told_by, word_tells, symbol_tells, tells_as, followed, pure, last, skip, if_keyword, if_symbol, list_tells}
use Rattle.ssq_parse.proofs.BegunStreams.{v, names, names_tell, numbers_tell, spans_tell}
use Rattle.ssq_parse.proofs.BegunTimes.{some_span, some_span_is}
use Rattle.ssq_parse.proofs.Parts.{Always, keep}
use Rattle.ssq_parse.proofs.Selects.{item_sound}
use Rattle.ssq_parse.proofs.Whole.{whole_sound}
use Rattle.ssq_parse.proofs.Words.{took_none, took_one, took_more, is_keyword-found}

-- ---- expressions and items

abbrev pub values : Phrases
values = record { Form = Written; wrote = words; good = IsRegular; one = of_column (record { stream = None; column = v }); fine = tt }

values_tell : Tells values whole_at
values_tell = record { told = λ tokens. told_by values tokens (whole_at tokens) (keep (whole_at tokens) (whole_sound tokens) (λ found s. record { written = s.written; is_good = s.regular; took = s.took })) (whole_begun tokens) }

abbrev pub items : Phrases
items = record { Form = WrittenItem; wrote = item_words; good = IsRegularItem IsRegular; one = bare_item (record { stream = None; column = v }); fine = tt }

abbrev as_v : Words
as_v = keyword key.As ∷ name v ∷ []

bare_next : (is_name : Bool) (value : Expr) (at : ℕ) (rest : Ahead) → RefusesNext as_v rest (bare_at is_name value at rest)
bare_next true (e.Column column) at rest = tt
bare_next is_name other at rest = (refl, tt)

-- after the words of an expression an item that is no column goes on with AS, and after that with a name
module _ (start : Ahead) (w : Written) (regular : IsRegular w) (flag : Bool) (value : Tree) where
  label_begun : (t : Lexed) (ts : Ahead) → Took start (t ∷ ts) (words w) → (b : Bool) → (b ≡ true → t.said ≡ keyword key.As)
      → IfBegun item_words (IsRegularItem IsRegular) start (item_by flag value (if b then Some t.start else None) (t ∷ ts))
  label_begun t ts took false is = begun_next item_words (IsRegularItem IsRegular) start (t ∷ ts) (words w) as_v (bare_at flag value.value value.at (t ∷ ts)) (bare_next flag value.value value.at (t ∷ ts)) took (named_item w v) regular refl
  label_begun t ts took true is =
      begun_any item_words (IsRegularItem IsRegular) start (name_at ts) (λ label. Ok (item_of value.value value.at label.0, label.1))
      (begun_next item_words (IsRegularItem IsRegular) start ts (words w ++ keyword key.As ∷ []) (name v ∷ []) (name_at ts) (name_next (name v ∷ []) ts)
      (took_more took (took_one t ts (keyword key.As) (is refl))) (named_item w v) regular (sym (append_assoc (words w) (keyword key.As ∷ []) (name v ∷ []))))
      (λ label. tt)

  item_on_begun : (us : Ahead) → Took start us (words w) → IfBegun item_words (IsRegularItem IsRegular) start (item_by flag value (seen (is_keyword key.As) us) us)
  item_on_begun [] took = begun_next item_words (IsRegularItem IsRegular) start [] (words w) as_v (bare_at flag value.value value.at []) (bare_next flag value.value value.at []) took (named_item w v) regular refl
  item_on_begun (t ∷ ts) took = label_begun t ts took (is_keyword key.As t.said) (is_keyword-found key.As t.said)

item_begun : (tokens : Ahead) → IfBegun item_words (IsRegularItem IsRegular) tokens (item_at tokens)
unfolding item_at
item_begun tokens =
    begun_then item_words (IsRegularItem IsRegular) tokens (λ value. Spelled 0 64 tokens value.0 value.1) (whole_at tokens)
    (λ value. item_by (sees is_name tokens) value.0 (seen (is_keyword key.As) value.1) value.1) (whole_sound tokens)
    (if_begun_map words IsRegular item_words (IsRegularItem IsRegular) [] as_v (took_none tokens) (λ w. named_item w v) (λ w is. is) (λ w. refl) (whole_at tokens) (whole_begun tokens))
    (λ value s. item_on_begun tokens s.written s.regular (sees is_name tokens) value.0 value.1 s.took)

item_good : (w : WrittenItem) → IsRegularItem IsFit w → IsRegularItem IsRegular w
item_good (bare_item column) is = tt
item_good (named_item value label) is = is.regular

pub items_tell : Tells items item_at
items_tell = record { told = λ tokens. told_by items tokens (item_at tokens) (keep (item_at tokens) (item_sound tokens) (λ found p. record { written = p.written; is_good = item_good p.written p.is_good; took = p.took })) (item_begun tokens) }

-- ---- conditions and joins

abbrev pub conditions : Keyword → Phrases
conditions k = record { Form = Option Written; wrote = condition_words k; good = λ w. IfSome w IsRegular; one = None; fine = tt }

abbrev pub joins : Phrases
joins = record { Form = Option WrittenJoin; wrote = join_words; good = λ w. IfSome w (λ j. IsRegular j.on); one = None; fine = tt }

-- from JOIN on
abbrev joined : Phrases
joined = both (word (keyword key.Join)) (both names (both (word (keyword key.On)) values))

abbrev join_of : JoinKind → Bool → joined.Form → Option WrittenJoin
join_of what has_word w = Some (record { kind = what; has_word = has_word; stream = w.1.0; on = w.1.1.1 })

abbrev outer_words : Bool → Words
outer_words true = keyword key.Outer ∷ []
outer_words false = []

abbrev outers : Phrases
outers = record { Form = Bool; wrote = outer_words; good = Always; one = false; fine = tt }

left_said : (has_word : Bool) (ws : Words) → kind_words join.Left has_word ++ ws ≡ keyword key.Left ∷ outer_words has_word ++ ws
left_said true ws = refl
left_said false ws = refl

right_said : (has_word : Bool) (ws : Words) → kind_words join.Right has_word ++ ws ≡ keyword key.Right ∷ outer_words has_word ++ ws
right_said true ws = refl
right_said false ws = refl

pub conditions_tell : (k : Keyword) → Tells (conditions k) (condition_at k)
unfolding condition_at
conditions_tell k = if_keyword k condition_by (pure (conditions k) None tt refl None)
    (λ at. skip (record { make = λ w. Some w.1; made = λ w is. is.1; said = λ w is. refl }) (last (λ value. Some (record { at = at; value = value.value })) values_tell))

joined_tell : (what : JoinKind) → Tells joined (joined_at what)
unfolding joined_at
joined_tell what = followed (word_tells key.Join) (λ word. followed names_tell (λ stream. followed (word_tells key.On) (λ on.
    last (λ value. Some (record { kind = what; at = word; stream = stream; on = record { at = on; value = value.value } })) values_tell)))

outer_tell : (what : JoinKind) → Tells (both outers joined) (outer_at what)
outer_tell what = if_keyword key.Outer (λ o tokens. joined_at what (behind o tokens))
    (tells_as (record { make = λ w. (false, w); made = λ w is. (tt, is); said = λ w is. refl }) (joined_tell what))
    (λ at. skip (record { make = λ w. (true, w.1); made = λ w is. (tt, is.1); said = λ w is. refl }) (joined_tell what))

bare_tell : (b : Bool) → Tells joins (bare_join b)
bare_tell false = pure joins None tt refl None
bare_tell true = tells_as (record { make = join_of join.Inner false; made = λ w is. is.1.1.1; said = λ w is. refl }) (joined_tell join.Inner)

pub joins_tell : Tells joins join_at
unfolding join_at
joins_tell =
    if_keyword key.Inner inner_join
    (if_keyword key.Left left_join
    (if_keyword key.Right right_join
    (record { told = λ tokens. (bare_tell (sees (is_keyword key.Join) tokens)).told tokens })
    (λ at. skip (record { make = λ w. join_of join.Right w.1.0 w.1.1; made = λ w is. is.1.1.1.1.1; said = λ w is. right_said w.1.0 (joined.wrote w.1.1) }) (outer_tell join.Right)))
    (λ at. skip (record { make = λ w. join_of join.Left w.1.0 w.1.1; made = λ w is. is.1.1.1.1.1; said = λ w is. left_said w.1.0 (joined.wrote w.1.1) }) (outer_tell join.Left)))
    (λ at. skip (record { make = λ w. join_of join.Inner true w.1; made = λ w is. is.1.1.1.1; said = λ w is. refl }) (joined_tell join.Inner))

-- ---- deduplication and groups

abbrev pub deduplicates : Phrases
deduplicates = record { Form = Option (List (List ℕ)); wrote = deduplicate_words; good = λ w. IfSome w IsFilled; one = None; fine = tt }

pub deduplicates_tell : Tells deduplicates deduplicate_at
unfolding deduplicate_at
deduplicates_tell = if_keyword key.Deduplicate deduplicate_by (pure deduplicates None tt refl None)
    (λ at. skip (record { make = λ w. Some w.1.1; made = λ w is. is.1.1.0; said = λ w is. refl })
    (followed (word_tells key.By) (λ by. last (λ columns. Some (record { at = at; columns = columns })) (list_tells names name_at names_tell))))

abbrev slides : Phrases
slides = record { Form = Option Span; wrote = slide_words; good = λ w. IfSome w IsSpanText; one = None; fine = tt }

slides_tell : Tells slides slide_at
unfolding slide_at
slides_tell = if_symbol mark.Comma slide_by (pure slides None tt refl None)
    (λ at. skip (record { make = λ w. Some w.1; made = λ w is. is.1; said = λ w is. refl }) (last (λ found. Some found) spans_tell))

-- a window after its keyword
abbrev windows : Phrases
windows = record {
  Form = WrittenWindow;
  wrote = λ window. drop 1 (window_words window);
  good = λ window. IsSpanText window.size × IfSome window.slide IsSpanText;
  one = record { column = v; size = some_span; slide = None };
  fine = (some_span_is, tt);
}

windows_tell : (at : ℕ) → Tells windows (window_at at)
unfolding window_at
windows_tell at = tells_as (record {
  make = λ w. record { column = w.1.0; size = w.1.1.1.0; slide = w.1.1.1.1.0 };
  made = λ w is. (is.1.1.1.0, is.1.1.1.1.0);
  said = λ w is. refl;
})
    (followed (symbol_tells mark.LeftParen) (λ opened.
    followed names_tell (λ column.
    followed (symbol_tells mark.Comma) (λ comma.
    followed spans_tell (λ size.
    followed slides_tell (λ slide.
    last (λ closed. record { at = at; column = column; size = size; slide = slide }) (symbol_tells mark.RightParen)))))))

abbrev groups : Phrases
groups = record { Form = WrittenGroup; wrote = group_item_words; good = IsRegularGroup; one = column_group v; fine = tt }

groups_tell : Tells groups group_item_at
unfolding group_item_at
groups_tell = if_keyword key.Window group_item_by
    (tells_as (record { make = column_group; made = λ w is. tt; said = λ w is. refl }) (last group.Column names_tell))
    (λ at. skip (record { make = λ w. window_group w.1; made = λ w is. is.1; said = λ w is. refl }) (last group.Window (windows_tell at)))

abbrev pub groupings : Phrases
groupings = record { Form = Option (List WrittenGroup); wrote = group_words; good = λ w. IfSome w IsFilled × IfSome w (Each IsRegularGroup); one = None; fine = (tt, tt) }

pub groupings_tell : Tells groupings group_at
unfolding group_at
groupings_tell = if_keyword key.Group group_by (pure groupings None (tt, tt) refl None)
    (λ at. skip (record { make = λ w. Some w.1.1; made = λ w is. is.1.1; said = λ w is. refl })
    (followed (word_tells key.By) (λ by. last (λ items. Some (record { at = at; items = items })) (list_tells groups group_item_at groups_tell))))

-- ---- orders, limits and modes

abbrev word_of : Direction × Bool → Words
word_of w = direction_words w.0 w.1

abbrev directions : Phrases
directions = record { Form = Direction × Bool; wrote = word_of; good = Always; one = (direction.Ascending, false); fine = tt }

directions_tell : Tells directions direction_at
unfolding direction_at
directions_tell = if_keyword key.Desc direction_by
    (if_keyword key.Asc (λ o tokens. Ok (direction.Ascending, behind o tokens)) (pure directions (direction.Ascending, false) tt refl direction.Ascending)
    (λ at. skip (record { make = λ w. (direction.Ascending, true); made = λ w is. tt; said = λ w is. refl }) (pure nothing tt tt refl direction.Ascending)))
    (λ at. skip (record { make = λ w. (direction.Descending, true); made = λ w is. tt; said = λ w is. refl }) (pure nothing tt tt refl direction.Descending))

abbrev orders : Phrases
orders = record { Form = WrittenOrder; wrote = order_item_words; good = Always; one = record { name = v; direction = direction.Ascending; has_word = false }; fine = tt }

orders_tell : Tells orders order_item_at
unfolding order_item_at
orders_tell = tells_as (record { make = λ w. record { name = w.0; direction = w.1.0; has_word = w.1.1 }; made = λ w is. tt; said = λ w is. refl })
    (followed names_tell (λ called. last (λ directed. record { name = called; direction = directed }) directions_tell))

abbrev pub orderings : Phrases
orderings = record { Form = List WrittenOrder; wrote = order_words; good = Always; one = []; fine = tt }

order_said : (ws : List WrittenOrder) → IsFilled ws → order_words ws ≡ keyword key.Order ∷ keyword key.By ∷ separated (map order_item_words ws)
order_said [] filled = absurd filled
order_said (w ∷ ws) filled = refl

pub orderings_tell : Tells orderings order_at
unfolding order_at
orderings_tell = if_keyword key.Order order_by (pure orderings [] tt refl [])
    (λ at. skip (record { make = λ w. w.1.1; made = λ w is. tt; said = λ w is. order_said w.1.1 is.1.1.0 })
    (followed (word_tells key.By) (λ by. list_tells orders order_item_at orders_tell)))

abbrev pub limits : Phrases
limits = record { Form = Option ℤ; wrote = limit_words; good = Always; one = None; fine = tt }

pub limits_tell : Tells limits limit_at
unfolding limit_at
limits_tell = if_keyword key.Limit limit_by (pure limits None tt refl None)
    (λ at. skip (record { make = λ w. Some w.1; made = λ w is. tt; said = λ w is. refl }) (last (λ most. Some (record { at = at; most = most })) numbers_tell))

abbrev pub modes : Phrases
modes = record { Form = Mode; wrote = λ mode. keyword (mode_key mode) ∷ []; good = Always; one = mode.Append; fine = tt }

mode_word : (mode : Mode) → Behind (keyword (mode_key mode)) modes (λ tokens. Ok (mode, drop 1 tokens))
mode_word mode = skip (record { make = λ w. mode; made = λ w is. tt; said = λ w is. refl }) (pure nothing tt tt refl mode)

pub modes_tell : Tells (both (word (keyword key.Output)) modes) mode_at
unfolding mode_at
modes_tell =
    followed (word_tells key.Output) (λ output.
    if_keyword key.Append
    (λ o tokens. or_mode mode.Append o (
    or_mode mode.Update (seen (is_keyword key.Update) tokens) (
    keyword_at key.Complete tokens >>= (λ found. Ok (mode.Complete, found.1))) tokens) tokens)
    (if_keyword key.Update
    (λ o tokens. or_mode mode.Update o (keyword_at key.Complete tokens >>= (λ found. Ok (mode.Complete, found.1))) tokens)
    (tells_as (record { make = λ w. mode.Complete; made = λ w is. tt; said = λ w is. refl }) (last (λ at. mode.Complete) (word_tells key.Complete)))
    (λ at. mode_word mode.Update)) (λ at. mode_word mode.Append))
