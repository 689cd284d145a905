-- Where a token is missing in a query, the words in front of it begin a query.
use Rattle.std.proofs.Common.{◌≡◌, ℕ, zero, suc, Bool, true, false, sym, ap, ◌∙◌, List, [], ◌∷◌, ◌++◌, map, drop, length, refl, Option, Some, None, Ok, Err, append_assoc, append-nil}
use Rattle.std.specs.Prelude.{slice_get}
use Rattle.ssq_ast.specs.declared.query.Mode.TheVariants as mode
use Rattle.ssq_ast.specs.declared.query.Query.{Query}
use Rattle.ssq_ast.specs.Expression.{Words, IsRegular}
use Rattle.ssq_ast.specs.Statement.{WrittenSelect, WrittenQuery, separated, distinct_words, item_words, join_words, condition_words, deduplicate_words, group_words, order_words, limit_words, mode_key, select_words, query_words, IsRegularSelect, IsRegularQuery}
use Rattle.ssq_lex.specs.declared.keyword.Keyword.TheVariants as key
use Rattle.ssq_lex.specs.declared.symbol.Symbol.TheVariants as mark
use Rattle.ssq_lex.specs.Cut.{cut_of}
use Rattle.ssq_lex.specs.Lexeme.{Lexeme, keyword, name, quoted}
use Rattle.ssq_parse.specs.Begun.{BeginsQuery, or_end, IsBegun}
use Rattle.ssq_parse.specs.declared.fault.ParseCause.{ParseCause}
use Rattle.ssq_parse.specs.declared.fault.ParseCause.TheVariants as cause
use Rattle.ssq_parse.specs.Queries.{item_at, select_from, select_at, alone, whole_query, query_from, query_at}
use Rattle.ssq_parse.specs.Reading.{Ahead, Made, Read, Refusal, place, behind}
use Rattle.ssq_parse.specs.Written.{says, starts, Took}
use Rattle.ssq_parse.proofs.Begun.{Begun, BeginsText}
use Rattle.ssq_parse.proofs.BegunPhrases.{Phrases, word, both, listed, Becomes, Taken, BegunBy, Told, Tells, word_tells, symbol_tells, tells_as, followed, last, skip, if_keyword, list_tells}
use Rattle.ssq_parse.proofs.BegunClauses.{items, items_tell, conditions, conditions_tell, joins, joins_tell, deduplicates, deduplicates_tell, groupings, groupings_tell, orderings, orderings_tell, limits, limits_tell, modes, modes_tell}
use Rattle.ssq_parse.proofs.BegunStreams.{v, names, names_tell, streams_tell, semicolon}
use Rattle.ssq_parse.proofs.Local.{IfMissing}
use Rattle.ssq_parse.proofs.Parts.{Always}

-- ---- queries

abbrev distincts : Phrases
distincts = record { Form = Bool; wrote = distinct_words; good = Always; one = false; fine = tt }

select_said : (D I K F U G H O L : Words) (w n o m e : Lexeme)
    → ((((D ++ I) ++ w ∷ n ∷ K) ++ F) ++ (((((U ++ G) ++ H) ++ O) ++ L) ++ o ∷ m ∷ e ∷ []))
    ≡ D ++ (I ++ (w ∷ n ∷ (K ++ (F ++ (U ++ (G ++ (H ++ (O ++ (L ++ o ∷ m ∷ e ∷ [])))))))))
select_said D I K F U G H O L w n o m e = simp append_assoc

abbrev selects : Phrases
selects = record {
  Form = WrittenSelect;
  wrote = select_words;
  good = λ w. IsRegularSelect IsRegular w;
  one = record { distinct = false; items = items.one ∷ []; from = v; join = None; filter = None; deduplicate = None; group = None; having = None; order = []; limit = None; mode = mode.Append };
  fine = record { some_items = tt; items = (tt, tt); on = tt; filter = tt; deduplicate = tt; some_group = tt; group = tt; having = tt };
}

abbrev ending : Phrases
ending = both (both (word (keyword key.Output)) modes) (word semicolon)

-- after a select's source
abbrev clauses : Phrases
clauses = both joins (both (conditions key.Where) (both deduplicates (both groupings (both (conditions key.Having) (both orderings (both limits ending))))))

-- after DISTINCT
abbrev parts : Phrases
parts = both (listed items) (both (word (keyword key.From)) (both names clauses))

abbrev select_of : Bool → parts.Form → WrittenSelect
select_of distinct w = record {
  distinct = distinct;
  items = w.0;
  from = w.1.1.0;
  join = w.1.1.1.0;
  filter = w.1.1.1.1.0;
  deduplicate = w.1.1.1.1.1.0;
  group = w.1.1.1.1.1.1.0;
  having = w.1.1.1.1.1.1.1.0;
  order = w.1.1.1.1.1.1.1.1.0;
  limit = w.1.1.1.1.1.1.1.1.1.0;
  mode = w.1.1.1.1.1.1.1.1.1.1.0.1;
}

select_becomes : Becomes (both (word (keyword key.Select)) (both distincts parts)) selects
select_becomes = record {
  make = λ w. select_of w.1.0 w.1.1;
  made = λ w is. let p : parts.good w.1.1 = is.1.1 in record {
    some_items = p.0.0;
    items = p.0.1;
    on = p.1.1.1.0;
    filter = p.1.1.1.1.0;
    deduplicate = p.1.1.1.1.1.0;
    some_group = p.1.1.1.1.1.1.0.0;
    group = p.1.1.1.1.1.1.0.1;
    having = p.1.1.1.1.1.1.1.0;
  };
  said = λ w is.
      let s : WrittenSelect = select_of w.1.0 w.1.1 in
      ap (λ ws. keyword key.Select ∷ ws) (select_said (distinct_words s.distinct) (separated (map item_words s.items)) (join_words s.join) (condition_words key.Where s.filter)
      (deduplicate_words s.deduplicate) (group_words s.group) (condition_words key.Having s.having) (order_words s.order) (limit_words s.limit)
      (keyword key.From) (name s.from) (keyword key.Output) (keyword (mode_key s.mode)) semicolon);
}

abbrev queries : Phrases
queries = record { Form = WrittenQuery; wrote = query_words; good = λ w. IsRegularQuery IsRegular w; one = record { streams = []; select = selects.one }; fine = record { streams = tt; select = selects.fine } }

parts_tell : (distinct : Option ℕ) → Tells parts (select_from distinct)
parts_tell distinct =
    followed (list_tells items item_at items_tell) (λ items.
    followed (word_tells key.From) (λ from.
    followed names_tell (λ stream.
    followed joins_tell (λ joined.
    followed (conditions_tell key.Where) (λ filter.
    followed deduplicates_tell (λ deduplicated.
    followed groupings_tell (λ grouped.
    followed (conditions_tell key.Having) (λ having.
    followed orderings_tell (λ ordered.
    followed limits_tell (λ limited.
    followed modes_tell (λ shown.
    last (λ ended. record {
      distinct = distinct;
      items = items;
      from = stream;
      join = joined;
      filter = filter;
      deduplicate = deduplicated;
      group = grouped;
      having = having;
      order = ordered;
      limit = limited;
      mode = shown;
    }) (symbol_tells mark.Semicolon))))))))))))

selects_tell : Tells selects select_at
unfolding select_at
selects_tell = tells_as select_becomes (followed (word_tells key.Select) (λ word.
    if_keyword key.Distinct (λ o tokens. select_from o (behind o tokens))
    (tells_as (record { make = λ w. (false, w); made = λ w is. (tt, is); said = λ w is. refl }) (parts_tell None))
    (λ at. skip (record { make = λ w. (true, w.1); made = λ w is. (tt, is.1); said = λ w is. refl }) (parts_tell (Some at)))))

queries_tell : Tells queries query_from
queries_tell = tells_as (record { make = λ w. record { streams = w.0; select = w.1 }; made = λ w is. record { streams = is.0; select = is.1 }; said = λ w is. refl })
    (followed streams_tell (λ streams. last (λ select. record { streams = streams; select = select }) selects_tell))

-- ---- the whole

abbrev pub IfMade : Ahead → Made Query → Type 0
IfMade tokens (Ok query) = Unit {0}
IfMade tokens (Err refusal) = IfMissing refusal.cause refusal.at (Begun query_words (IsRegularQuery IsRegular) tokens refusal)

-- after a whole query nothing stands
alone_begun : (tokens : Ahead) (query : Query) (rest : Ahead) → Taken queries tokens rest → (at : Option ℕ) → IfMade tokens (alone query at rest)
alone_begun tokens query rest t None = tt
alone_begun tokens query rest t (Some at) =
    record { front = query_words t.written; rest = rest; took = t.took; here = refl; written = t.written; is_good = t.is_good; more = []; said = sym (append-nil (query_words t.written)); text = tt }

made_begun : (tokens : Ahead) (read : Read Query) → Told queries tokens read → IfMade tokens (whole_query read)
made_begun tokens (Ok found) told = alone_begun tokens found.0 found.1 told (place found.1)
made_begun tokens (Err refusal) told = told

pub query_begun : (tokens : Ahead) → IfMade tokens (query_at tokens)
unfolding query_at
query_begun tokens = made_begun tokens (query_from tokens) (queries_tell.told tokens)

-- no token is refused
abbrev pub ReadsAll : Made Query → Type 0
ReadsAll (Ok query) = Unit {0}
ReadsAll (Err refusal) = refusal.at ≡ None

all_by : (tokens rest : Ahead) → place rest ≡ None → (front : Words) → Took tokens rest front → (w : WrittenQuery) → IsRegularQuery IsRegular w → (more : Words) → query_words w ≡ front ++ more
    → BeginsQuery (says tokens)
all_by tokens [] none front took w is more said =
    record { written = w; regular = is; more = more; said = said ∙ ap (λ ws. ws ++ more) (sym (took.said ∙ append-nil front)) }
all_by tokens (t ∷ ts) none front took w is more said = absurd (cc)

missing_none : {P : Type 0} (c : ParseCause) (at : Option ℕ) → at ≡ None → IfMissing c at P → P
missing_none cause.Expected at none p = p
missing_none cause.BadText at none p = p
missing_none cause.TooDeep None none p = p
missing_none cause.TooDeep (Some at) none p = absurd (cc)
missing_none other at none p = absurd p

alone_all : (tokens : Ahead) (query : Query) (rest : Ahead) → Taken queries tokens rest → (at : Option ℕ) → place rest ≡ at → ReadsAll (alone query at rest) → BeginsQuery (says tokens)
alone_all tokens query rest t None here all =
    all_by tokens rest here (query_words t.written) t.took t.written t.is_good [] (sym (append-nil (query_words t.written)))
alone_all tokens query rest t (Some at) here all = absurd (cc)

made_all : (tokens : Ahead) (read : Read Query) → Told queries tokens read → ReadsAll (whole_query read) → BeginsQuery (says tokens)
made_all tokens (Ok found) told all = alone_all tokens found.0 found.1 told (place found.1) refl all
made_all tokens (Err refusal) told all =
    let b : BegunBy queries tokens refusal = missing_none refusal.cause refusal.at all told in
    all_by tokens b.rest (b.here ∙ all) b.front b.took b.written b.is_good b.more b.said

-- tokens that are read to their end begin a query
pub all_begin : (tokens : Ahead) → ReadsAll (query_at tokens) → BeginsQuery (says tokens)
unfolding query_at
all_begin tokens all = made_all tokens (query_from tokens) (queries_tell.told tokens) all

-- ---- the place in a file

first_behind : (n : ℕ) (places others : List ℕ) → drop n places ≡ others → slice_get places n ≡ slice_get others 0
first_behind zero places others is = ap (λ all. slice_get all 0) is
first_behind (suc n) [] others is = ap (λ all. slice_get all 0) is
first_behind (suc n) (at ∷ places) others is = first_behind n places others is

place_first : (rest : Ahead) → slice_get (starts rest) 0 ≡ place rest
place_first [] = refl
place_first (t ∷ ts) = refl

-- what is said of tokens, said of the file that they are cut from
pub is_begun : (file : List ℕ) (refusal : Refusal) → Begun query_words (IsRegularQuery IsRegular) (cut_of file).tokens refusal → IsBegun file (or_end (length file) refusal.at)
is_begun file refusal b = record {
  front = b.front;
  rest = says b.rest;
  said = b.took.said;
  here =
      ap (or_end (length file))
      (first_behind (length b.front) (starts (cut_of file).tokens) (starts b.rest) b.took.left ∙ place_first b.rest ∙ b.here);
  begins = record { written = b.written; regular = b.is_good; more = b.more; said = b.said };
}

with_text : (w : WrittenQuery) → IsRegularQuery IsRegular w → (front more : Words) → BeginsText more → query_words w ≡ front ++ more → (text : List ℕ) × BeginsQuery (front ++ quoted text ∷ [])
with_text w is front (quoted text ∷ more) begins said = (text, record { written = w; regular = is; more = more; said = said ∙ sym (append_assoc front (quoted text ∷ []) more) })
with_text w is front other begins said = absurd begins

-- where the grammar goes on with a text, the words in front and that text begin a query
pub text_begins : (file : List ℕ) (refusal : Refusal) (b : Begun query_words (IsRegularQuery IsRegular) (cut_of file).tokens refusal) → BeginsText b.more
    → (text : List ℕ) × BeginsQuery ((is_begun file refusal b).front ++ quoted text ∷ [])
unfolding is_begun
text_begins file refusal b begins = with_text b.written b.is_good b.front b.more begins b.said
