-- Operands of every kind are read as they are written.
use Rattle.std.proofs.Common.{◌≡◌, ℕ, ℤ, suc, ◌-◌, ◌≤◌, Bool, true, false, sym, ap, ◌∙◌, arith, List, [], ◌∷◌, drop, refl, Option, Some, None, Ok}
use Rattle.std.specs.Prelude.{◌==◌, if◌then◌else◌}
use Rattle.ssq_ast.specs.declared.expr.Expr.{Expr}
use Rattle.ssq_ast.specs.declared.expr.Expr.TheVariants as e
use Rattle.ssq_ast.specs.declared.expr.Function.TheVariants as function
use Rattle.ssq_ast.specs.declared.expr.Ident.{Ident}
use Rattle.ssq_ast.specs.declared.expr.Moment.{Moment}
use Rattle.ssq_ast.specs.declared.expr.Span.{Span}
use Rattle.ssq_ast.specs.Expression.{Written, words, level, IsRegular, opens, height, tallest, tree, of_number, of_text, of_truth, of_moment, of_span, of_column, of_rows}
use Rattle.ssq_ast.specs.Expression as spec
use Rattle.ssq_lex.specs.declared.keyword.Keyword.{Keyword}
use Rattle.ssq_lex.specs.declared.keyword.Keyword.TheVariants as key
use Rattle.ssq_lex.specs.declared.symbol.Symbol.TheVariants as mark
use Rattle.ssq_lex.specs.Lexeme.{Lexeme, keyword, name, number, quoted, symbol, Lexed}
use Rattle.ssq_time.specs.Time.{span_of, time_of}
use Rattle.ssq_parse.specs.declared.fault.ParseCause.TheVariants.{TooDeep}
use Rattle.ssq_parse.specs.declared.tree.Tree.{Tree}
use Rattle.ssq_parse.specs.Expressions.{Reader, rows_by, count_at, column_by, column_at, timestamp_at, interval_at, worded_at, primary_by, primary_at}
use Rattle.ssq_parse.specs.Reading.{Ahead, Made, ◌>>=◌, before, refused, needed, seen, is_symbol, symbol_at, name_at, ident_by, quoted_at, quoted_by, as_micros, span_by, span_at, moment_by, moment_at}
use Rattle.ssq_parse.specs.Trees.{leaf}
use Rattle.ssq_parse.proofs.Operands.{above_zero, symbol_sound, argument_sound, aggregate_sound, bracketed_sound}
use Rattle.ssq_parse.specs.Written.{starts, Took, IfRead, Spelled, Sound}
use Rattle.ssq_parse.proofs.Words.{took_one, took_more, then_holds, is_symbol-found}

-- a name, and its place
abbrev pub Named : Ahead → Ident × Ahead → Type 0
Named tokens found = Took tokens found.1 (name found.0.text ∷ []) × (spec.first (starts tokens) ≡ found.0.at)

named_by : (t : Lexed) (ts : Ahead) (word : Lexeme) → t.said ≡ word → IfRead (needed (ident_by t.start word) (t ∷ ts)) (Named (t ∷ ts))
named_by t ts (name text) is = (took_one t ts (name text) is, refl)
named_by t ts _ is = tt

pub name_sound : (tokens : Ahead) → IfRead (name_at tokens) (Named tokens)
unfolding name_at
name_sound [] = tt
name_sound (t ∷ ts) = named_by t ts t.said refl

quoted_sound_by : (t : Lexed) (ts : Ahead) (word : Lexeme) → t.said ≡ word
    → IfRead (needed (quoted_by t.start word) (t ∷ ts)) (λ found. Took (t ∷ ts) found.1 (quoted found.0.1 ∷ []))
quoted_sound_by t ts (quoted text) is = took_one t ts (quoted text) is
quoted_sound_by t ts _ is = tt

pub quoted_sound : (tokens : Ahead) → IfRead (quoted_at tokens) (λ found. Took tokens found.1 (quoted found.0.1 ∷ []))
unfolding quoted_at
quoted_sound [] = tt
quoted_sound (t ∷ ts) = quoted_sound_by t ts t.said refl

-- a text that is read as a value
module _ {V : Type 0} (P : Ahead → V × Ahead → Type 0) (of : List ℕ → Option ℤ) (made : ℕ → List ℕ → Option ℤ → Made V)
    (none : (tokens rest : Ahead) (at : ℕ) (text : List ℕ) → IfRead (before (made at text None) rest) (P tokens))
    (some : (tokens rest : Ahead) (at : ℕ) (text : List ℕ) (micros : ℤ) → Took tokens rest (quoted text ∷ []) → of text ≡ Some micros → IfRead (before (made at text (Some micros)) rest) (P tokens)) where
  text_by : (tokens rest : Ahead) (at : ℕ) (text : List ℕ) → Took tokens rest (quoted text ∷ []) → (micros : Option ℤ) → of text ≡ micros → IfRead (before (made at text micros) rest) (P tokens)
  text_by tokens rest at text took None is = none tokens rest at text
  text_by tokens rest at text took (Some micros) is = some tokens rest at text micros took is

  text_sound : (tokens : Ahead) → IfRead (quoted_at tokens >>= (λ found. before (made found.0.0 found.0.1 (of found.0.1)) found.1)) (P tokens)
  text_sound tokens =
      then_holds (λ found. Took tokens found.1 (quoted found.0.1 ∷ [])) (P tokens) (quoted_at tokens)
      (λ found. before (made found.0.0 found.0.1 (of found.0.1)) found.1) (quoted_sound tokens)
      (λ found took. text_by tokens found.1 found.0.0 found.0.1 took (of found.0.1) refl)

-- a span with its value
abbrev pub Spanned : Ahead → Span × Ahead → Type 0
Spanned tokens found = Took tokens found.1 (quoted found.0.text ∷ []) × (span_of found.0.text ≡ Some found.0.micros)

pub span_sound : (tokens : Ahead) → IfRead (span_at tokens) (Spanned tokens)
unfolding span_at
span_sound = text_sound Spanned span_of (as_micros span_by) (λ tokens rest at text. tt) (λ tokens rest at text micros took is. (took, is))

abbrev pub Timed : Ahead → Moment × Ahead → Type 0
Timed tokens found = Took tokens found.1 (quoted found.0.text ∷ []) × (time_of found.0.text ≡ Some found.0.micros)

pub moment_sound : (tokens : Ahead) → IfRead (moment_at tokens) (Timed tokens)
unfolding moment_at
moment_sound = text_sound Timed time_of (as_micros moment_by) (λ tokens rest at text. tt) (λ tokens rest at text micros took is. (took, is))

-- an operand that is no operator
leafed : (w : Written) (depth : ℕ) (t : Lexed) (ts rest : Ahead) (value : Expr) → Took (t ∷ ts) rest (words w) → IsRegular w → level w ≡ 7 → height w ≡ 1
    → tallest w ≡ 1 → opens w ≤ depth → tree w (starts (t ∷ ts)) ≡ value → Spelled 7 depth (t ∷ ts) (leaf t.start value) rest
leafed w depth t ts rest value took regular tight high tall opened meant =
    record { written = w; took = took; regular = regular; tight = omega arith; high = high; tall = omega arith; opened = opened; meant = meant; at = refl }

module _ (depth : ℕ) (t : Lexed) (ts : Ahead) where
  abbrev Good : Tree × Ahead → Type 0
  Good found = Spelled 7 depth (t ∷ ts) found.0 found.1

  pub timestamp_sound : t.said ≡ keyword key.Timestamp → IfRead (timestamp_at t.start ts) Good
  unfolding timestamp_at
  timestamp_sound word =
      then_holds (Timed ts) Good (moment_at ts) (λ moment. Ok (leaf t.start (e.Timestamp moment.0 t.start), moment.1)) (moment_sound ts)
      (λ found timed. leafed (of_moment found.0) depth t ts found.1 (e.Timestamp found.0 t.start) (took_more (took_one t ts (keyword key.Timestamp) word) timed.0) timed.1 refl refl refl (omega arith) refl)

  pub interval_sound : t.said ≡ keyword key.Interval → IfRead (interval_at t.start ts) Good
  unfolding interval_at
  interval_sound word =
      then_holds (Spanned ts) Good (span_at ts) (λ span. Ok (leaf t.start (e.Interval span.0 t.start), span.1)) (span_sound ts)
      (λ found spanned. leafed (of_span found.0) depth t ts found.1 (e.Interval found.0 t.start) (took_more (took_one t ts (keyword key.Interval) word) spanned.0) spanned.1 refl refl refl (omega arith) refl)

  -- a column of a stream
  dotted : (text : List ℕ) → t.said ≡ name text → (d : Lexed) (us : Ahead) → ts ≡ d ∷ us → d.said ≡ symbol mark.Dot
      → (found : Ident × Ahead) → Named us found
      → Good (leaf t.start (e.Column (record { stream = Some (record { text = text; at = t.start }); column = found.0 })), found.1)
  dotted text word d us same dot found named =
      leafed (of_column (record { stream = Some text; column = found.0.text })) depth t ts found.1 _
      (took_more (took_one t ts (name text) word) (rw same (took_more (took_one d us (symbol mark.Dot) dot) named.0))) tt refl refl refl (omega arith)
      (ap (λ others. e.Column (record { stream = Some (record { text = text; at = t.start }); column = record { text = found.0.text; at = spec.first (drop 1 (starts others)) } })) same
      ∙ ap (λ at. e.Column (record { stream = Some (record { text = text; at = t.start }); column = record { text = found.0.text; at = at } })) named.1)

  column_by_dot : (text : List ℕ) → t.said ≡ name text → (d : Lexed) (us : Ahead) → ts ≡ d ∷ us → (b : Bool) → (b ≡ true → d.said ≡ symbol mark.Dot)
      → IfRead (column_by (record { text = text; at = t.start }) (if b then Some d.start else None) (d ∷ us)) Good
  column_by_dot text word d us same true dot =
      then_holds (Named us) Good (name_at us) (λ column. Ok (leaf t.start (e.Column (record { stream = Some (record { text = text; at = t.start }); column = column.0 })), column.1)) (name_sound us)
      (λ found named. dotted text word d us same (dot refl) found named)
  column_by_dot text word d us same false dot =
      rw (sym same) (leafed (of_column (record { stream = None; column = text })) depth t ts ts _ (took_one t ts (name text) word) tt refl refl refl (omega arith) refl)

  column_on : (text : List ℕ) → t.said ≡ name text → (us : Ahead) → ts ≡ us → IfRead (column_by (record { text = text; at = t.start }) (seen (is_symbol mark.Dot) us) us) Good
  column_on text word [] same = rw (sym same) (leafed (of_column (record { stream = None; column = text })) depth t ts ts _ (took_one t ts (name text) word) tt refl refl refl (omega arith) refl)
  column_on text word (d ∷ us) same = column_by_dot text word d us same (is_symbol mark.Dot d.said) (is_symbol-found mark.Dot d.said)

  pub column_sound : (text : List ℕ) → t.said ≡ name text → IfRead (column_at (record { text = text; at = t.start }) ts) Good
  unfolding column_at
  column_sound text word = column_on text word ts refl

module _ (depth : ℕ) (inner : Reader) (sound : (k : ℕ) → depth ≡ suc k → Sound 0 k inner) (t : Lexed) (ts : Ahead) where
  abbrev Fine : Tree × Ahead → Type 0
  Fine found = Spelled 7 depth (t ∷ ts) found.0 found.1

  -- after the star of COUNT(*)
  starred : t.said ≡ keyword key.Count → (s : Lexed) (vs : Ahead) → Took ts (s ∷ vs) (symbol mark.LeftParen ∷ []) → s.said ≡ symbol mark.Star
      → (bracket : ℕ) (b : Bool) → (depth == 0) ≡ b
      → IfRead (if b then refused (Some bracket) TooDeep else (symbol_at mark.RightParen vs >>= (λ closed. Ok (leaf t.start (e.CountRows t.start), closed.1)))) Fine
  starred word s vs opened star bracket true is = tt
  starred word s vs opened star bracket false is =
      let some : depth ≡ suc (depth - 1) = above_zero depth is in
      then_holds (λ closed. Took vs closed.1 (symbol mark.RightParen ∷ [])) Fine (symbol_at mark.RightParen vs)
      (λ closed. Ok (leaf t.start (e.CountRows t.start), closed.1)) (symbol_sound mark.RightParen vs)
      (λ closed took. leafed of_rows depth t ts closed.1 (e.CountRows t.start)
      (took_more (took_one t ts (keyword key.Count) word) (took_more opened (took_more (took_one s vs (symbol mark.Star) star) took))) tt refl refl refl (omega arith) refl)

  by_star : t.said ≡ keyword key.Count → (bracket : ℕ) (s : Lexed) (vs : Ahead) → Took ts (s ∷ vs) (symbol mark.LeftParen ∷ []) → (b : Bool) → (b ≡ true → s.said ≡ symbol mark.Star)
      → IfRead (rows_by depth inner t.start bracket (if b then Some s.start else None) (s ∷ vs)) Fine
  by_star word bracket s vs opened true star = starred word s vs opened (star refl) bracket (depth == 0) refl
  by_star word bracket s vs opened false star = argument_sound depth inner sound function.Count t ts (s ∷ vs) bracket word opened

  rows_sound : t.said ≡ keyword key.Count → (bracket : ℕ) (us : Ahead) → Took ts us (symbol mark.LeftParen ∷ [])
      → IfRead (rows_by depth inner t.start bracket (seen (is_symbol mark.Star) us) us) Fine
  rows_sound word bracket [] opened = argument_sound depth inner sound function.Count t ts [] bracket word opened
  rows_sound word bracket (s ∷ vs) opened = by_star word bracket s vs opened (is_symbol mark.Star s.said) (is_symbol-found mark.Star s.said)

  count_sound : t.said ≡ keyword key.Count → IfRead (count_at depth inner t.start ts) Fine
  unfolding count_at
  count_sound word =
      then_holds (λ bracket. Took ts bracket.1 (symbol mark.LeftParen ∷ [])) Fine (symbol_at mark.LeftParen ts)
      (λ bracket. rows_by depth inner t.start bracket.0 (seen (is_symbol mark.Star) bracket.1) bracket.1) (symbol_sound mark.LeftParen ts)
      (λ bracket took. rows_sound word bracket.0 bracket.1 took)

  worded_sound : (k : Keyword) → t.said ≡ keyword k → IfRead (worded_at depth inner k t.start ts) Fine
  unfolding worded_at
  worded_sound key.Create word = tt
  worded_sound key.Stream word = tt
  worded_sound key.From word = tt
  worded_sound key.Watermark word = tt
  worded_sound key.For word = tt
  worded_sound key.Delay word = tt
  worded_sound key.Select word = tt
  worded_sound key.Distinct word = tt
  worded_sound key.As word = tt
  worded_sound key.Where word = tt
  worded_sound key.Deduplicate word = tt
  worded_sound key.Group word = tt
  worded_sound key.By word = tt
  worded_sound key.Having word = tt
  worded_sound key.Order word = tt
  worded_sound key.Asc word = tt
  worded_sound key.Desc word = tt
  worded_sound key.Limit word = tt
  worded_sound key.Output word = tt
  worded_sound key.Append word = tt
  worded_sound key.Update word = tt
  worded_sound key.Complete word = tt
  worded_sound key.Inner word = tt
  worded_sound key.Left word = tt
  worded_sound key.Right word = tt
  worded_sound key.Outer word = tt
  worded_sound key.Join word = tt
  worded_sound key.On word = tt
  worded_sound key.And word = tt
  worded_sound key.Or word = tt
  worded_sound key.Not word = tt
  worded_sound key.Is word = tt
  worded_sound key.Null word = tt
  worded_sound key.Between word = tt
  worded_sound key.Interval word = interval_sound depth t ts word
  worded_sound key.Timestamp word = timestamp_sound depth t ts word
  worded_sound key.Bigint word = tt
  worded_sound key.String word = tt
  worded_sound key.Boolean word = tt
  worded_sound key.True word = leafed (of_truth true) depth t ts ts (e.Truth true t.start) (took_one t ts (keyword key.True) word) tt refl refl refl (omega arith) refl
  worded_sound key.False word = leafed (of_truth false) depth t ts ts (e.Truth false t.start) (took_one t ts (keyword key.False) word) tt refl refl refl (omega arith) refl
  worded_sound key.Div word = tt
  worded_sound key.Window word = tt
  worded_sound key.Count word = count_sound word
  worded_sound key.Sum word = aggregate_sound depth inner sound function.Sum t ts word
  worded_sound key.Min word = aggregate_sound depth inner sound function.Min t ts word
  worded_sound key.Max word = aggregate_sound depth inner sound function.Max t ts word

  primary_word : (word : Lexeme) → t.said ≡ word → IfRead (primary_by depth inner word t.start ts) Fine
  primary_word (number n) is = leafed (of_number n) depth t ts ts (e.Number n t.start) (took_one t ts (number n) is) tt refl refl refl (omega arith) refl
  primary_word (quoted text) is = leafed (of_text text) depth t ts ts (e.Text text t.start) (took_one t ts (quoted text) is) tt refl refl refl (omega arith) refl
  primary_word (name text) is = column_sound depth t ts text is
  primary_word (keyword k) is = worded_sound k is
  primary_word (symbol mark.LeftParen) is = bracketed_sound depth inner sound t ts is
  primary_word (symbol mark.RightParen) is = tt
  primary_word (symbol mark.Comma) is = tt
  primary_word (symbol mark.Semicolon) is = tt
  primary_word (symbol mark.Dot) is = tt
  primary_word (symbol mark.Plus) is = tt
  primary_word (symbol mark.Minus) is = tt
  primary_word (symbol mark.Star) is = tt
  primary_word (symbol mark.Percent) is = tt
  primary_word (symbol mark.Concat) is = tt
  primary_word (symbol mark.Equal) is = tt
  primary_word (symbol mark.NotEqual) is = tt
  primary_word (symbol mark.Less) is = tt
  primary_word (symbol mark.AtMost) is = tt
  primary_word (symbol mark.Greater) is = tt
  primary_word (symbol mark.AtLeast) is = tt

pub primary_sound : (depth : ℕ) (inner : Reader) (sound : (k : ℕ) → depth ≡ suc k → Sound 0 k inner) → Sound 7 depth (primary_at depth inner)
unfolding primary_at
primary_sound depth inner sound [] = tt
primary_sound depth inner sound (t ∷ ts) = primary_word depth inner sound t ts t.said refl
