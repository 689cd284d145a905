-- Operands are read as they are written.
use Rattle.std.proofs.Common.{◌≡◌, ℕ, zero, suc, ◌-◌, Bool, true, false, sym, ap, ◌∙◌, arith, [], ◌∷◌, refl, Some, None, Ok, Err}
use Rattle.std.specs.Prelude.{◌==◌, if◌then◌else◌}
use Rattle.ssq_ast.specs.declared.expr.Expr.{Expr}
use Rattle.ssq_ast.specs.declared.expr.Expr.TheVariants as e
use Rattle.ssq_ast.specs.declared.expr.Function.{Function}
use Rattle.ssq_ast.specs.Expression.{Words, Written, words, function_key, level, IsRegular, opens, height, tallest, only, tree, of_number, of_text, of_truth, of_moment, of_span, of_column, of_rows, of_function}
use Rattle.ssq_ast.specs.Expression as spec
use Rattle.ssq_lex.specs.declared.keyword.Keyword.{Keyword}
use Rattle.ssq_lex.specs.declared.symbol.Symbol.{Symbol}
use Rattle.ssq_lex.specs.declared.symbol.Symbol.TheVariants as mark
use Rattle.ssq_lex.specs.Lexeme.{Lexeme, keyword, symbol, Lexed}
use Rattle.ssq_parse.specs.declared.fault.ParseCause.TheVariants.{TooDeep}
use Rattle.ssq_parse.specs.declared.tree.Tree.{Tree}
use Rattle.ssq_parse.specs.Expressions.{Reader, inside_at, bracketed_at, argument_at, aggregate_at}
use Rattle.ssq_parse.specs.Reading.{Ahead, Read, ◌>>=◌, refused, needed, is_keyword, is_symbol, keyword_at, symbol_at}
use Rattle.ssq_parse.specs.Trees.{tree_of, leaf}
use Rattle.ssq_parse.specs.Written.{Took, IfRead, Spelled, Sound}
use Rattle.ssq_parse.proofs.Words.{took_one, took_more, then_holds, is_keyword-found, is_symbol-found}

-- ---- single words

needed_by : (b : Bool) (word : Lexeme) (t : Lexed) (ts : Ahead) → (b ≡ true → t.said ≡ word)
    → IfRead (needed (if b then Some t.start else None) (t ∷ ts)) (λ found. Took (t ∷ ts) found.1 (word ∷ []))
needed_by true word t ts is = took_one t ts word (is refl)
needed_by false word t ts is = tt

pub symbol_sound : (s : Symbol) (tokens : Ahead) → IfRead (symbol_at s tokens) (λ found. Took tokens found.1 (symbol s ∷ []))
unfolding symbol_at
symbol_sound s [] = tt
symbol_sound s (t ∷ ts) = needed_by (is_symbol s t.said) (symbol s) t ts (is_symbol-found s t.said)

pub keyword_sound : (k : Keyword) (tokens : Ahead) → IfRead (keyword_at k tokens) (λ found. Took tokens found.1 (keyword k ∷ []))
unfolding keyword_at
keyword_sound k [] = tt
keyword_sound k (t ∷ ts) = needed_by (is_keyword k t.said) (keyword k) t ts (is_keyword-found k t.said)

-- ---- what stands in brackets

pub above_zero : (n : ℕ) → (n == 0) ≡ false → n ≡ suc (n - 1)
above_zero zero is = absurd (cc)
above_zero (suc n) is = omega arith

-- an expression with one bracket less
abbrev pub In : ℕ → Ahead → Tree × Ahead → Type 0
In depth tokens found = (k : ℕ) × (depth ≡ suc k) × Spelled 0 k tokens found.0 found.1

pub in_brackets : {depth : ℕ} (t : Lexed) (ts : Ahead) → t.said ≡ symbol mark.LeftParen → (found : Tree × Ahead) → In depth ts found
    → (closed : ℕ × Ahead) → Took found.1 closed.1 (symbol mark.RightParen ∷ [])
    → Spelled 7 depth (t ∷ ts) (tree_of found.0.value t.start found.0.height) closed.1
in_brackets {depth} t ts word found (k, is, sp) closed took =
    let opened = sp.opened in
    record {
      written = spec.bracketed sp.written;
      took = took_more (took_one t ts (symbol mark.LeftParen) word) (took_more sp.took took);
      regular = sp.regular;
      tight = omega arith;
      high = sp.high;
      tall = sp.tall;
      opened = omega arith;
      meant = sp.meant;
      at = refl;
    }

pub aggregate_is : (f : Function) (at : ℕ) (a : Expr) → e.Aggregate f at a ≡ e.Aggregate' f at tt (only a)
unfolding Rattle.ssq_ast.specs.declared.expr.Expr.TheBlock.shape-the_row-Expr-0 Rattle.ssq_ast.specs.declared.expr.Expr.TheBlock.hidden-the_row-Expr-0 denote.Hole.Carrier.hidden
aggregate_is f at a = refl

pub of_argument : {depth : ℕ} (f : Function) (t : Lexed) (ts us : Ahead) → t.said ≡ keyword (function_key f) → Took ts us (symbol mark.LeftParen ∷ [])
    → (found : Tree × Ahead) → In depth us found → (closed : ℕ × Ahead) → Took found.1 closed.1 (symbol mark.RightParen ∷ [])
    → Spelled 7 depth (t ∷ ts) (leaf t.start (e.Aggregate f t.start found.0.value)) closed.1
of_argument {depth} f t ts us word bracket found (k, is, sp) closed took =
    let opened = sp.opened in
    record {
      written = of_function f sp.written;
      took = took_more (took_one t ts (keyword (function_key f)) word) (took_more bracket (took_more sp.took took));
      regular = sp.regular;
      tight = omega arith;
      high = refl;
      tall = sp.tall;
      opened = omega arith;
      meant = ap (λ places. e.Aggregate' f t.start tt (only (tree sp.written places))) bracket.left
          ∙ (λ i. e.Aggregate' f t.start tt (only (sp.meant i))) ∙ sym (aggregate_is f t.start found.0.value);
      at = refl;
    }

module _ (depth : ℕ) (inner : Reader) (sound : (k : ℕ) → depth ≡ suc k → Sound 0 k inner) where
  inner_in : (k : ℕ) → depth ≡ suc k → (tokens : Ahead) (read : Read Tree) → IfRead read (λ found. Spelled 0 k tokens found.0 found.1) → IfRead read (In depth tokens)
  inner_in k is tokens (Ok found) spelled = (k, is, spelled)
  inner_in k is tokens (Err refusal) none = tt

  inside_by : (b : Bool) → (depth == 0) ≡ b → (bracket : ℕ) (tokens : Ahead)
      → IfRead (if b then refused (Some bracket) TooDeep else inner tokens) (In depth tokens)
  inside_by true is bracket tokens = tt
  inside_by false is bracket tokens =
      let some : depth ≡ suc (depth - 1) = above_zero depth is in
      inner_in (depth - 1) some tokens (inner tokens) (sound (depth - 1) some tokens)

  pub inside_sound : (bracket : ℕ) (tokens : Ahead) → IfRead (inside_at depth inner bracket tokens) (In depth tokens)
  unfolding inside_at
  inside_sound bracket tokens = inside_by (depth == 0) refl bracket tokens

  pub bracketed_sound : (t : Lexed) (ts : Ahead) → t.said ≡ symbol mark.LeftParen
      → IfRead (bracketed_at depth inner t.start ts) (λ found. Spelled 7 depth (t ∷ ts) found.0 found.1)
  unfolding bracketed_at
  bracketed_sound t ts word =
      then_holds (In depth ts) (λ found. Spelled 7 depth (t ∷ ts) found.0 found.1)
      (inside_at depth inner t.start ts) (λ found. symbol_at mark.RightParen found.1 >>= (λ closed. Ok (tree_of found.0.value t.start found.0.height, closed.1)))
      (inside_sound t.start ts)
      (λ found sp. then_holds (λ closed. Took found.1 closed.1 (symbol mark.RightParen ∷ [])) (λ found. Spelled 7 depth (t ∷ ts) found.0 found.1)
      (symbol_at mark.RightParen found.1) (λ closed. Ok (tree_of found.0.value t.start found.0.height, closed.1))
      (symbol_sound mark.RightParen found.1)
      (λ closed took. in_brackets t ts word found sp closed took))

  pub argument_sound : (f : Function) (t : Lexed) (ts us : Ahead) (bracket : ℕ) → t.said ≡ keyword (function_key f) → Took ts us (symbol mark.LeftParen ∷ [])
      → IfRead (argument_at depth inner f t.start bracket us) (λ found. Spelled 7 depth (t ∷ ts) found.0 found.1)
  unfolding argument_at
  argument_sound f t ts us bracket word opened =
      then_holds (In depth us) (λ found. Spelled 7 depth (t ∷ ts) found.0 found.1)
      (inside_at depth inner bracket us) (λ found. symbol_at mark.RightParen found.1 >>= (λ closed. Ok (leaf t.start (e.Aggregate f t.start found.0.value), closed.1)))
      (inside_sound bracket us)
      (λ found sp. then_holds (λ closed. Took found.1 closed.1 (symbol mark.RightParen ∷ [])) (λ found. Spelled 7 depth (t ∷ ts) found.0 found.1)
      (symbol_at mark.RightParen found.1) (λ closed. Ok (leaf t.start (e.Aggregate f t.start found.0.value), closed.1))
      (symbol_sound mark.RightParen found.1)
      (λ closed took. of_argument f t ts us word opened found sp closed took))

  pub aggregate_sound : (f : Function) (t : Lexed) (ts : Ahead) → t.said ≡ keyword (function_key f)
      → IfRead (aggregate_at depth inner f t.start ts) (λ found. Spelled 7 depth (t ∷ ts) found.0 found.1)
  unfolding aggregate_at
  aggregate_sound f t ts word =
      then_holds (λ bracket. Took ts bracket.1 (symbol mark.LeftParen ∷ [])) (λ found. Spelled 7 depth (t ∷ ts) found.0 found.1)
      (symbol_at mark.LeftParen ts) (λ bracket. argument_at depth inner f t.start bracket.0 bracket.1)
      (symbol_sound mark.LeftParen ts)
      (λ bracket took. argument_sound f t ts bracket.1 bracket.0 word took)
