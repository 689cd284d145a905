-- An operand that is refused as too deep stands at a bracket that is one too many.
use Rattle.std.proofs.Common.{◌≡◌, ℕ, ℤ, ◌+◌, Bool, true, false, ap, ◌∙◌, arith, List, [], ◌∷◌, ◌++◌, refl, Option, Some, None, Ok}
use Rattle.std.specs.Prelude.{◌==◌, if◌then◌else◌}
use Rattle.std.proofs.lemmas.Bool.Decides.{nat_tests}
use Rattle.ssq_ast.specs.declared.expr.Expr.TheVariants as e
use Rattle.ssq_ast.specs.declared.expr.Function.{Function}
use Rattle.ssq_ast.specs.declared.expr.Function.TheVariants as function
use Rattle.ssq_ast.specs.declared.expr.Ident.{Ident}
use Rattle.ssq_ast.specs.Expression.{Words}
use Rattle.ssq_lex.specs.declared.keyword.Keyword.{Keyword}
use Rattle.ssq_lex.specs.declared.keyword.Keyword.TheVariants as key
use Rattle.ssq_lex.specs.declared.symbol.Symbol.{Symbol}
use Rattle.ssq_lex.specs.declared.symbol.Symbol.TheVariants as mark
use Rattle.ssq_lex.specs.Lexeme.{Lexeme, keyword, name, number, quoted, symbol, Lexed}
use Rattle.ssq_time.specs.Time.{span_of, time_of}
use Rattle.ssq_parse.specs.declared.fault.ParseCause.TheVariants.{TooDeep}
use Rattle.ssq_parse.specs.Deep.{open_after, DeepBy, too_many}
use Rattle.ssq_parse.specs.Expressions.{Reader, column_by, column_at, timestamp_at, interval_at, inside_at, bracketed_at, argument_at, aggregate_at, rows_by, count_at, worded_at, primary_by, primary_at}
use Rattle.ssq_parse.specs.Reading.{Ahead, ◌>>=◌, before, refused, place, first, needed, seen, is_keyword, is_symbol, keyword_at, symbol_at, ident_by, name_at, quoted_by, quoted_at, number_by, number_at, as_micros, micros_at, span_by, span_at, moment_by, moment_at}
use Rattle.ssq_parse.specs.Trees.{tree_of, leaf}
use Rattle.ssq_parse.specs.Written.{says, Took, IfRead}
use Rattle.ssq_parse.proofs.DeepLemmas.{open_append, Tells, tells_then, tells_behind, Quiet, quiet_tells, quiet_then, tells_quiet}
use Rattle.ssq_parse.proofs.Words.{took_none, took_one, took_more, is_symbol-found}

-- ---- words and texts are never too deep

needed_quiet : {Y : Type 0} (o : Option Y) (tokens : Ahead) → Quiet (needed o tokens)
needed_quiet None tokens = tt
needed_quiet (Some x) tokens = tt

pub keyword_quiet : (k : Keyword) (tokens : Ahead) → Quiet (keyword_at k tokens)
unfolding keyword_at
keyword_quiet k tokens = needed_quiet (seen (is_keyword k) tokens) tokens

pub symbol_quiet : (s : Symbol) (tokens : Ahead) → Quiet (symbol_at s tokens)
unfolding symbol_at
symbol_quiet s tokens = needed_quiet (seen (is_symbol s) tokens) tokens

pub name_quiet : (tokens : Ahead) → Quiet (name_at tokens)
unfolding name_at
name_quiet tokens = needed_quiet (first (λ token. ident_by token.start token.said) tokens) tokens

pub quoted_quiet : (tokens : Ahead) → Quiet (quoted_at tokens)
unfolding quoted_at
quoted_quiet tokens = needed_quiet (first (λ token. quoted_by token.start token.said) tokens) tokens

pub number_quiet : (tokens : Ahead) → Quiet (number_at tokens)
unfolding number_at
number_quiet tokens = needed_quiet (first (λ token. number_by token.said) tokens) tokens

micros_made : {A : Type 0} (make : List ℕ → ℤ → A) (at : ℕ) (text : List ℕ) (micros : Option ℤ) (rest : Ahead) → Quiet (before (as_micros make at text micros) rest)
micros_made make at text None rest = tt
micros_made make at text (Some micros) rest = tt

micros_quiet : {A : Type 0} (make : List ℕ → ℤ → A) (of : List ℕ → Option ℤ) (tokens : Ahead) → Quiet (micros_at make of tokens)
micros_quiet make of tokens =
    quiet_then (quoted_at tokens) (λ found. before (as_micros make found.0.0 found.0.1 (of found.0.1)) found.1) (quoted_quiet tokens)
    (λ found. micros_made make found.0.0 found.0.1 (of found.0.1) found.1)

pub span_quiet : (tokens : Ahead) → Quiet (span_at tokens)
unfolding span_at
span_quiet tokens = micros_quiet span_by span_of tokens

moment_quiet : (tokens : Ahead) → Quiet (moment_at tokens)
unfolding moment_at
moment_quiet tokens = micros_quiet moment_by time_of tokens

column_made : (text : Ident) (d : Lexed) (us : Ahead) (b : Bool) → Quiet (column_by text (if b then Some d.start else None) (d ∷ us))
column_made text d us true = quiet_then (name_at us) (λ column. Ok (leaf text.at (e.Column (record { stream = Some text; column = column.0 })), column.1)) (name_quiet us) (λ column. tt)
column_made text d us false = tt

column_quiet : (text : Ident) (ts : Ahead) → Quiet (column_at text ts)
unfolding column_at
column_quiet text [] = tt
column_quiet text (d ∷ us) = column_made text d us (is_symbol mark.Dot d.said)

timestamp_quiet : (at : ℕ) (ts : Ahead) → Quiet (timestamp_at at ts)
unfolding timestamp_at
timestamp_quiet at ts = quiet_then (moment_at ts) (λ moment. Ok (leaf at (e.Timestamp moment.0 at), moment.1)) (moment_quiet ts) (λ moment. tt)

interval_quiet : (at : ℕ) (ts : Ahead) → Quiet (interval_at at ts)
unfolding interval_at
interval_quiet at ts = quiet_then (span_at ts) (λ span. Ok (leaf at (e.Interval span.0 at), span.1)) (span_quiet ts) (λ span. tt)

-- ---- brackets

-- a bracket at this place, and the tokens after it
record Opens (opening rest : Ahead) (bracket : ℕ) : Type 0 where
  took : Took opening rest (symbol mark.LeftParen ∷ [])
  here : place opening ≡ Some bracket

opens_by : (b : Bool) (t : Lexed) (ts : Ahead) → (b ≡ true → t.said ≡ symbol mark.LeftParen)
    → IfRead (needed (if b then Some t.start else None) (t ∷ ts)) (λ found. Opens (t ∷ ts) found.1 found.0)
opens_by true t ts is = record { took = took_one t ts (symbol mark.LeftParen) (is refl); here = refl }
opens_by false t ts is = tt

symbol_opens : (ts : Ahead) → IfRead (symbol_at mark.LeftParen ts) (λ found. Opens ts found.1 found.0)
unfolding symbol_at
symbol_opens [] = tt
symbol_opens (t ∷ ts) = opens_by (is_symbol mark.LeftParen t.said) t ts (is_symbol-found mark.LeftParen t.said)

none_more : (n : ℕ) → (n == 0) ≡ true → n ≡ 0
none_more n is = grind (arith, nat_tests)

-- so many brackets stand open, so many more may, and what stands in the next one is read by this reader
module _ (many depth : ℕ) (inner : Reader) (room : many + depth ≡ 64) (told : (tokens : Ahead) → Tells (many + 1) tokens (inner tokens)) where
  one_too_many : (tokens opening rest : Ahead) (front : Words) (bracket : ℕ) → Took tokens opening front → open_after many front ≡ many → Opens opening rest bracket
      → (depth == 0) ≡ true → DeepBy many tokens bracket
  one_too_many tokens opening rest front bracket took same o none =
      let no_more : depth ≡ 0 = none_more depth none in
      let full : many ≡ 64 = omega arith in
      too_many (record { front = front; rest = opening; before = took; count = same ∙ full; others = says rest; bracket = o.took.said; here = o.here })

  inside_by : (tokens opening rest : Ahead) (front : Words) (bracket : ℕ) → Took tokens opening front → open_after many front ≡ many → Opens opening rest bracket
      → (b : Bool) → (depth == 0) ≡ b → Tells many tokens (if b then refused (Some bracket) TooDeep else inner rest)
  inside_by tokens opening rest front bracket took same o true none = one_too_many tokens opening rest front bracket took same o none
  inside_by tokens opening rest front bracket took same o false some =
      tells_behind many (many + 1) tokens rest (front ++ symbol mark.LeftParen ∷ []) (took_more took o.took)
      (open_append many front (symbol mark.LeftParen ∷ []) ∙ ap (λ n. n + 1) same) (inner rest) (told rest)

  inside_tells : (tokens opening rest : Ahead) (front : Words) (bracket : ℕ) → Took tokens opening front → open_after many front ≡ many → Opens opening rest bracket
      → Tells many tokens (inside_at depth inner bracket rest)
  unfolding inside_at
  inside_tells tokens opening rest front bracket took same o = inside_by tokens opening rest front bracket took same o (depth == 0) refl

  module _ (t : Lexed) (ts : Ahead) where
    bracketed_tells : t.said ≡ symbol mark.LeftParen → Tells many (t ∷ ts) (bracketed_at depth inner t.start ts)
    unfolding bracketed_at
    bracketed_tells word =
        tells_quiet many (t ∷ ts) (inside_at depth inner t.start ts) (λ found. symbol_at mark.RightParen found.1 >>= (λ closed. Ok (tree_of found.0.value t.start found.0.height, closed.1)))
        (inside_tells (t ∷ ts) (t ∷ ts) ts [] t.start (took_none (t ∷ ts)) refl (record { took = took_one t ts (symbol mark.LeftParen) word; here = refl }))
        (λ found. quiet_then (symbol_at mark.RightParen found.1) (λ closed. Ok (tree_of found.0.value t.start found.0.height, closed.1)) (symbol_quiet mark.RightParen found.1) (λ closed. tt))

    argument_tells : (f : Function) (k : Keyword) → t.said ≡ keyword k → (us : Ahead) (bracket : ℕ) → Opens ts us bracket
        → Tells many (t ∷ ts) (argument_at depth inner f t.start bracket us)
    unfolding argument_at
    argument_tells f k word us bracket o =
        tells_quiet many (t ∷ ts) (inside_at depth inner bracket us) (λ found. symbol_at mark.RightParen found.1 >>= (λ closed. Ok (leaf t.start (e.Aggregate f t.start found.0.value), closed.1)))
        (inside_tells (t ∷ ts) ts us (keyword k ∷ []) bracket (took_one t ts (keyword k) word) refl o)
        (λ found. quiet_then (symbol_at mark.RightParen found.1) (λ closed. Ok (leaf t.start (e.Aggregate f t.start found.0.value), closed.1)) (symbol_quiet mark.RightParen found.1) (λ closed. tt))

    aggregate_tells : (f : Function) (k : Keyword) → t.said ≡ keyword k → Tells many (t ∷ ts) (aggregate_at depth inner f t.start ts)
    unfolding aggregate_at
    aggregate_tells f k word =
        tells_then many (t ∷ ts) (λ bracket. Opens ts bracket.1 bracket.0) (symbol_at mark.LeftParen ts) (λ bracket. argument_at depth inner f t.start bracket.0 bracket.1)
        (symbol_opens ts) (quiet_tells many (t ∷ ts) (symbol_at mark.LeftParen ts) (symbol_quiet mark.LeftParen ts))
        (λ bracket o. argument_tells f k word bracket.1 bracket.0 o)

    star_tells : (k : Keyword) → t.said ≡ keyword k → (us vs : Ahead) (bracket : ℕ) → Opens ts us bracket → (b : Bool) → (depth == 0) ≡ b
        → Tells many (t ∷ ts) (if b then refused (Some bracket) TooDeep else (symbol_at mark.RightParen vs >>= (λ closed. Ok (leaf t.start (e.CountRows t.start), closed.1))))
    star_tells k word us vs bracket o true none = one_too_many (t ∷ ts) ts us (keyword k ∷ []) bracket (took_one t ts (keyword k) word) refl o none
    star_tells k word us vs bracket o false some =
        quiet_tells many (t ∷ ts) (symbol_at mark.RightParen vs >>= (λ closed. Ok (leaf t.start (e.CountRows t.start), closed.1)))
        (quiet_then (symbol_at mark.RightParen vs) (λ closed. Ok (leaf t.start (e.CountRows t.start), closed.1)) (symbol_quiet mark.RightParen vs) (λ closed. tt))

    by_star : (k : Keyword) → t.said ≡ keyword k → (s : Lexed) (vs : Ahead) (bracket : ℕ) → Opens ts (s ∷ vs) bracket → (b : Bool)
        → Tells many (t ∷ ts) (rows_by depth inner t.start bracket (if b then Some s.start else None) (s ∷ vs))
    by_star k word s vs bracket o true = star_tells k word (s ∷ vs) vs bracket o (depth == 0) refl
    by_star k word s vs bracket o false = argument_tells function.Count k word (s ∷ vs) bracket o

    rows_tells : (k : Keyword) → t.said ≡ keyword k → (us : Ahead) (bracket : ℕ) → Opens ts us bracket
        → Tells many (t ∷ ts) (rows_by depth inner t.start bracket (seen (is_symbol mark.Star) us) us)
    rows_tells k word [] bracket o = argument_tells function.Count k word [] bracket o
    rows_tells k word (s ∷ vs) bracket o = by_star k word s vs bracket o (is_symbol mark.Star s.said)

    count_tells : (k : Keyword) → t.said ≡ keyword k → Tells many (t ∷ ts) (count_at depth inner t.start ts)
    unfolding count_at
    count_tells k word =
        tells_then many (t ∷ ts) (λ bracket. Opens ts bracket.1 bracket.0) (symbol_at mark.LeftParen ts)
        (λ bracket. rows_by depth inner t.start bracket.0 (seen (is_symbol mark.Star) bracket.1) bracket.1)
        (symbol_opens ts) (quiet_tells many (t ∷ ts) (symbol_at mark.LeftParen ts) (symbol_quiet mark.LeftParen ts))
        (λ bracket o. rows_tells k word bracket.1 bracket.0 o)

    worded_tells : (k : Keyword) → t.said ≡ keyword k → Tells many (t ∷ ts) (worded_at depth inner k t.start ts)
    unfolding worded_at
    worded_tells key.True word = tt
    worded_tells key.False word = tt
    worded_tells key.Timestamp word = quiet_tells many (t ∷ ts) (timestamp_at t.start ts) (timestamp_quiet t.start ts)
    worded_tells key.Interval word = quiet_tells many (t ∷ ts) (interval_at t.start ts) (interval_quiet t.start ts)
    worded_tells key.Count word = count_tells key.Count word
    worded_tells key.Sum word = aggregate_tells function.Sum key.Sum word
    worded_tells key.Min word = aggregate_tells function.Min key.Min word
    worded_tells key.Max word = aggregate_tells function.Max key.Max word
    worded_tells other word = tt

    word_tells : (word : Lexeme) → t.said ≡ word → Tells many (t ∷ ts) (primary_by depth inner word t.start ts)
    word_tells (number n) is = tt
    word_tells (quoted text) is = tt
    word_tells (name text) is = quiet_tells many (t ∷ ts) (column_at (record { text = text; at = t.start }) ts) (column_quiet (record { text = text; at = t.start }) ts)
    word_tells (keyword k) is = worded_tells k is
    word_tells (symbol mark.LeftParen) is = bracketed_tells is
    word_tells (symbol other) is = tt

  pub primary_tells : (tokens : Ahead) → Tells many tokens (primary_at depth inner tokens)
  unfolding primary_at
  primary_tells [] = tt
  primary_tells (t ∷ ts) = word_tells t ts t.said refl
