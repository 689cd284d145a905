-- Where an operand lacks a token, the words in front of it begin one.
use Rattle.std.proofs.Common.{◌≡◌, ℕ, suc, ◌-◌, ◌≤◌, Bool, true, false, sym, ◌∙◌, arith, List, [], ◌∷◌, ◌++◌, refl, Some, None, Ok, append_assoc}
use Rattle.std.specs.Prelude.{◌==◌, if◌then◌else◌}
use Rattle.ssq_ast.specs.declared.expr.Expr.TheVariants as e
use Rattle.ssq_ast.specs.declared.expr.Function.{Function}
use Rattle.ssq_ast.specs.declared.expr.Function.TheVariants as function
use Rattle.ssq_ast.specs.Expression.{Words, Written, words, function_key, in_brackets, level, IsRegular, of_truth, of_moment, of_span, of_column, of_rows, of_function}
use Rattle.ssq_ast.specs.Expression as spec
use Rattle.ssq_lex.specs.declared.keyword.Keyword.{Keyword}
use Rattle.ssq_lex.specs.declared.keyword.Keyword.TheVariants as key
use Rattle.ssq_lex.specs.declared.symbol.Symbol.TheVariants as mark
use Rattle.ssq_lex.specs.Lexeme.{Lexeme, keyword, name, number, quoted, symbol, Lexed}
use Rattle.ssq_parse.specs.declared.fault.ParseCause.TheVariants.{Expected, TooDeep}
use Rattle.ssq_parse.specs.declared.tree.Tree.{Tree}
use Rattle.ssq_parse.specs.Expressions.{Reader, inside_at, bracketed_at, argument_at, aggregate_at, rows_by, count_at, column_by, column_at, timestamp_at, interval_at, worded_at, primary_by, primary_at}
use Rattle.ssq_parse.specs.Reading.{Ahead, ◌>>=◌, refused, place, seen, is_symbol, symbol_at, name_at, span_at, moment_at}
use Rattle.ssq_parse.specs.Trees.{tree_of, leaf}
use Rattle.ssq_parse.specs.Written.{Took, Sound}
use Rattle.ssq_parse.proofs.Begun.{Begun, IfBegun, if_begun_map, begun_then, begun_any, begun_next, symbol_next, name_next, span_next, moment_next}
use Rattle.ssq_parse.proofs.BegunTimes.{some_moment, some_moment_is, some_span, some_span_is}
use Rattle.ssq_parse.proofs.Operands.{In, above_zero, symbol_sound, inside_sound}
use Rattle.ssq_parse.proofs.Words.{took_none, took_one, took_more, is_symbol-found}

-- regular, and binds as tightly as is asked
abbrev pub Fits : ℕ → Written → Type 0
Fits asked w = (asked ≤ level w) × IsRegular w

-- where it lacks a token, it has read the beginning of an expression that binds so tightly
abbrev pub Begins : ℕ → Reader → Type 0
Begins asked reader = (tokens : Ahead) → IfBegun words (Fits asked) tokens (reader tokens)

-- where none of an operand is read
none_begun : (tokens : Ahead) → Begun words (Fits 7) tokens (record { at = place tokens; cause = Expected })
none_begun tokens = record { front = []; rest = tokens; took = took_none tokens; here = refl; written = of_truth true; is_good = (omega arith, tt); more = keyword key.True ∷ []; said = refl; text = tt }

-- ---- operands without brackets

module _ (t : Lexed) (ts : Ahead) where
  timestamp_begun : t.said ≡ keyword key.Timestamp → IfBegun words (Fits 7) (t ∷ ts) (timestamp_at t.start ts)
  unfolding timestamp_at
  timestamp_begun word =
      begun_any words (Fits 7) (t ∷ ts) (moment_at ts) (λ moment. Ok (leaf t.start (e.Timestamp moment.0 t.start), moment.1))
      (begun_next words (Fits 7) (t ∷ ts) ts (keyword key.Timestamp ∷ []) (quoted some_moment.text ∷ []) (moment_at ts) (moment_next some_moment.text ts)
      (took_one t ts (keyword key.Timestamp) word) (of_moment some_moment) (omega arith, some_moment_is) refl)
      (λ moment. tt)

  interval_begun : t.said ≡ keyword key.Interval → IfBegun words (Fits 7) (t ∷ ts) (interval_at t.start ts)
  unfolding interval_at
  interval_begun word =
      begun_any words (Fits 7) (t ∷ ts) (span_at ts) (λ span. Ok (leaf t.start (e.Interval span.0 t.start), span.1))
      (begun_next words (Fits 7) (t ∷ ts) ts (keyword key.Interval ∷ []) (quoted some_span.text ∷ []) (span_at ts) (span_next some_span.text ts)
      (took_one t ts (keyword key.Interval) word) (of_span some_span) (omega arith, some_span_is) refl)
      (λ span. tt)

  column_by_dot : (text : List ℕ) → t.said ≡ name text → (d : Lexed) (us : Ahead) → Took (t ∷ ts) (d ∷ us) (name text ∷ []) → (b : Bool) → (b ≡ true → d.said ≡ symbol mark.Dot)
      → IfBegun words (Fits 7) (t ∷ ts) (column_by (record { text = text; at = t.start }) (if b then Some d.start else None) (d ∷ us))
  column_by_dot text word d us took true dot =
      begun_any words (Fits 7) (t ∷ ts) (name_at us) (λ column. Ok (leaf t.start (e.Column (record { stream = Some (record { text = text; at = t.start }); column = column.0 })), column.1))
      (begun_next words (Fits 7) (t ∷ ts) us (name text ∷ symbol mark.Dot ∷ []) (name text ∷ []) (name_at us) (name_next (name text ∷ []) us)
      (took_more took (took_one d us (symbol mark.Dot) (dot refl))) (of_column (record { stream = Some text; column = text })) (omega arith, tt) refl)
      (λ column. tt)
  column_by_dot text word d us took false dot = tt

  column_on : (text : List ℕ) → t.said ≡ name text → (us : Ahead) → Took (t ∷ ts) us (name text ∷ []) → IfBegun words (Fits 7) (t ∷ ts) (column_by (record { text = text; at = t.start }) (seen (is_symbol mark.Dot) us) us)
  column_on text word [] took = tt
  column_on text word (d ∷ us) took = column_by_dot text word d us took (is_symbol mark.Dot d.said) (is_symbol-found mark.Dot d.said)

  column_begun : (text : List ℕ) → t.said ≡ name text → IfBegun words (Fits 7) (t ∷ ts) (column_at (record { text = text; at = t.start }) ts)
  unfolding column_at
  column_begun text word = column_on text word ts (took_one t ts (name text) word)

-- ---- brackets and functions

module _ (depth : ℕ) (inner : Reader) (sound : (k : ℕ) → depth ≡ suc k → Sound 0 k inner) (begins : (k : ℕ) → depth ≡ suc k → Begins 0 inner) where
  inside_by : (b : Bool) → (depth == 0) ≡ b → (bracket : ℕ) (tokens : Ahead) → IfBegun words (Fits 0) tokens (if b then refused (Some bracket) TooDeep else inner tokens)
  inside_by true is bracket tokens = tt
  inside_by false is bracket tokens = begins (depth - 1) (above_zero depth is) tokens

  inside_begun : (bracket : ℕ) (tokens : Ahead) → IfBegun words (Fits 0) tokens (inside_at depth inner bracket tokens)
  unfolding inside_at
  inside_begun bracket tokens = inside_by (depth == 0) refl bracket tokens

  -- after the words in front of what stands in brackets
  module _ (start us : Ahead) (u : Words) (took : Took start us u) (make : Written → Written) (fits : (w : Written) → IsRegular w → Fits 7 (make w))
      (said : (w : Written) → words (make w) ≡ u ++ (words w ++ symbol mark.RightParen ∷ [])) where
    unclosed : (found : Tree × Ahead) → In depth us found → IfBegun words (Fits 7) start (symbol_at mark.RightParen found.1)
    unclosed found (k, is, sp) =
        begun_next words (Fits 7) start found.1 (u ++ words sp.written) (symbol mark.RightParen ∷ []) (symbol_at mark.RightParen found.1) (symbol_next mark.RightParen (symbol mark.RightParen ∷ []) found.1)
        (took_more took sp.took) (make sp.written) (fits sp.written sp.regular) (said sp.written ∙ sym (append_assoc u (words sp.written) (symbol mark.RightParen ∷ [])))

    closed_begun : (bracket : ℕ) (f : Tree → Tree)
        → IfBegun words (Fits 7) start (inside_at depth inner bracket us >>= (λ found. symbol_at mark.RightParen found.1 >>= (λ closed. Ok (f found.0, closed.1))))
    closed_begun bracket f =
        begun_then words (Fits 7) start (In depth us) (inside_at depth inner bracket us) (λ found. symbol_at mark.RightParen found.1 >>= (λ closed. Ok (f found.0, closed.1)))
        (inside_sound depth inner sound bracket us)
        (if_begun_map words (Fits 0) words (Fits 7) u (symbol mark.RightParen ∷ []) took make (λ w good. fits w good.1) said (inside_at depth inner bracket us) (inside_begun bracket us))
        (λ found within. begun_any words (Fits 7) start (symbol_at mark.RightParen found.1) (λ closed. Ok (f found.0, closed.1)) (unclosed found within) (λ closed. tt))

  module _ (t : Lexed) (ts : Ahead) where
    bracketed_begun : t.said ≡ symbol mark.LeftParen → IfBegun words (Fits 7) (t ∷ ts) (bracketed_at depth inner t.start ts)
    unfolding bracketed_at
    bracketed_begun word =
        closed_begun (t ∷ ts) ts (symbol mark.LeftParen ∷ []) (took_one t ts (symbol mark.LeftParen) word) spec.bracketed (λ w regular. (omega arith, regular)) (λ w. refl)
        t.start (λ found. tree_of found.value t.start found.height)

    argument_begun : (f : Function) (us : Ahead) (bracket : ℕ) → t.said ≡ keyword (function_key f) → Took ts us (symbol mark.LeftParen ∷ [])
        → IfBegun words (Fits 7) (t ∷ ts) (argument_at depth inner f t.start bracket us)
    unfolding argument_at
    argument_begun f us bracket word opened =
        closed_begun (t ∷ ts) us (keyword (function_key f) ∷ symbol mark.LeftParen ∷ []) (took_more (took_one t ts (keyword (function_key f)) word) opened) (of_function f)
        (λ w regular. (omega arith, regular)) (λ w. refl)
        bracket (λ found. leaf t.start (e.Aggregate f t.start found.value))

    aggregate_begun : (f : Function) → t.said ≡ keyword (function_key f) → IfBegun words (Fits 7) (t ∷ ts) (aggregate_at depth inner f t.start ts)
    unfolding aggregate_at
    aggregate_begun f word =
        begun_then words (Fits 7) (t ∷ ts) (λ bracket. Took ts bracket.1 (symbol mark.LeftParen ∷ [])) (symbol_at mark.LeftParen ts) (λ bracket. argument_at depth inner f t.start bracket.0 bracket.1)
        (symbol_sound mark.LeftParen ts)
        (begun_next words (Fits 7) (t ∷ ts) ts (keyword (function_key f) ∷ []) (in_brackets (keyword key.True ∷ [])) (symbol_at mark.LeftParen ts) (symbol_next mark.LeftParen (in_brackets (keyword key.True ∷ [])) ts)
        (took_one t ts (keyword (function_key f)) word) (of_function f (of_truth true)) (omega arith, tt) refl)
        (λ bracket opened. argument_begun f bracket.1 bracket.0 word opened)

    -- after the star of COUNT(*)
    starred : t.said ≡ keyword key.Count → (s : Lexed) (vs : Ahead) → Took ts (s ∷ vs) (symbol mark.LeftParen ∷ []) → s.said ≡ symbol mark.Star → (bracket : ℕ) (b : Bool)
        → IfBegun words (Fits 7) (t ∷ ts) (if b then refused (Some bracket) TooDeep else (symbol_at mark.RightParen vs >>= (λ closed. Ok (leaf t.start (e.CountRows t.start), closed.1))))
    starred word s vs opened star bracket true = tt
    starred word s vs opened star bracket false =
        begun_any words (Fits 7) (t ∷ ts) (symbol_at mark.RightParen vs) (λ closed. Ok (leaf t.start (e.CountRows t.start), closed.1))
        (begun_next words (Fits 7) (t ∷ ts) vs (keyword key.Count ∷ symbol mark.LeftParen ∷ symbol mark.Star ∷ []) (symbol mark.RightParen ∷ []) (symbol_at mark.RightParen vs) (symbol_next mark.RightParen (symbol mark.RightParen ∷ []) vs)
        (took_more (took_one t ts (keyword key.Count) word) (took_more opened (took_one s vs (symbol mark.Star) star))) of_rows (omega arith, tt) refl)
        (λ closed. tt)

    by_star : t.said ≡ keyword key.Count → (bracket : ℕ) (s : Lexed) (vs : Ahead) → Took ts (s ∷ vs) (symbol mark.LeftParen ∷ []) → (b : Bool) → (b ≡ true → s.said ≡ symbol mark.Star)
        → IfBegun words (Fits 7) (t ∷ ts) (rows_by depth inner t.start bracket (if b then Some s.start else None) (s ∷ vs))
    by_star word bracket s vs opened true star = starred word s vs opened (star refl) bracket (depth == 0)
    by_star word bracket s vs opened false star = argument_begun function.Count (s ∷ vs) bracket word opened

    rows_begun : t.said ≡ keyword key.Count → (bracket : ℕ) (us : Ahead) → Took ts us (symbol mark.LeftParen ∷ [])
        → IfBegun words (Fits 7) (t ∷ ts) (rows_by depth inner t.start bracket (seen (is_symbol mark.Star) us) us)
    rows_begun word bracket [] opened = argument_begun function.Count [] bracket word opened
    rows_begun word bracket (s ∷ vs) opened = by_star word bracket s vs opened (is_symbol mark.Star s.said) (is_symbol-found mark.Star s.said)

    count_begun : t.said ≡ keyword key.Count → IfBegun words (Fits 7) (t ∷ ts) (count_at depth inner t.start ts)
    unfolding count_at
    count_begun word =
        begun_then words (Fits 7) (t ∷ ts) (λ bracket. Took ts bracket.1 (symbol mark.LeftParen ∷ [])) (symbol_at mark.LeftParen ts)
        (λ bracket. rows_by depth inner t.start bracket.0 (seen (is_symbol mark.Star) bracket.1) bracket.1)
        (symbol_sound mark.LeftParen ts)
        (begun_next words (Fits 7) (t ∷ ts) ts (keyword key.Count ∷ []) (in_brackets (symbol mark.Star ∷ [])) (symbol_at mark.LeftParen ts) (symbol_next mark.LeftParen (in_brackets (symbol mark.Star ∷ [])) ts)
        (took_one t ts (keyword key.Count) word) of_rows (omega arith, tt) refl)
        (λ bracket opened. rows_begun word bracket.0 bracket.1 opened)

    -- ---- any operand

    worded_begun : (k : Keyword) → t.said ≡ keyword k → IfBegun words (Fits 7) (t ∷ ts) (worded_at depth inner k t.start ts)
    unfolding worded_at
    worded_begun key.True word = tt
    worded_begun key.False word = tt
    worded_begun key.Timestamp word = timestamp_begun t ts word
    worded_begun key.Interval word = interval_begun t ts word
    worded_begun key.Count word = count_begun word
    worded_begun key.Sum word = aggregate_begun function.Sum word
    worded_begun key.Min word = aggregate_begun function.Min word
    worded_begun key.Max word = aggregate_begun function.Max word
    worded_begun other word = none_begun (t ∷ ts)

    word_begun : (word : Lexeme) → t.said ≡ word → IfBegun words (Fits 7) (t ∷ ts) (primary_by depth inner word t.start ts)
    word_begun (number n) is = tt
    word_begun (quoted text) is = tt
    word_begun (name text) is = column_begun t ts text is
    word_begun (keyword k) is = worded_begun k is
    word_begun (symbol mark.LeftParen) is = bracketed_begun is
    word_begun (symbol other) is = none_begun (t ∷ ts)

  pub primary_begun : Begins 7 (primary_at depth inner)
  unfolding primary_at
  primary_begun [] = none_begun []
  primary_begun (t ∷ ts) = word_begun t ts t.said refl
