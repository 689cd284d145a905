-- Operands that are written are read.
use Rattle.std.proofs.Common.{◌≡◌, ℕ, ℤ, suc, Bool, true, false, sym, ap, ◌∙◌, arith, List, [], ◌∷◌, ◌++◌, refl, Option, Some, None, Ok, append_assoc}
use Rattle.std.specs.Prelude.{◌==◌, if◌then◌else◌}
use Rattle.std.proofs.lemmas.Bool.Decides.{nat_tests}
use Rattle.ssq_ast.specs.declared.expr.Expr.TheVariants as e
use Rattle.ssq_ast.specs.declared.expr.Function.{Function}
use Rattle.ssq_ast.specs.declared.expr.Function.TheVariants as function
use Rattle.ssq_ast.specs.declared.expr.Moment.{Moment}
use Rattle.ssq_ast.specs.declared.expr.Span.{Span}
use Rattle.ssq_ast.specs.Expression.{Words, Written, words, only, tree, first, ident, of_number, of_text, of_truth, of_moment, of_span, of_column, of_rows, of_function, bracketed}
use Rattle.ssq_lex.specs.declared.symbol.Symbol.TheVariants as mark
use Rattle.ssq_lex.specs.Lexeme.{quoted, symbol}
use Rattle.ssq_time.specs.Time.{span_of, time_of}
use Rattle.ssq_parse.specs.declared.fault.ParseCause.TheVariants.{TooDeep}
use Rattle.ssq_parse.specs.Expressions.{Reader, inside_at, bracketed_at, argument_at, aggregate_at, rows_by, count_at, column_by, column_at, timestamp_at, interval_at, worded_at, primary_at, expr_at}
use Rattle.ssq_parse.specs.Reading.{Ahead, ◌>>=◌, before, refused, seen, is_symbol, symbol_at, name_at, quoted_at, as_micros, span_by, span_at, moment_by, moment_at}
use Rattle.ssq_parse.specs.Trees.{tree_of, leaf}
use Rattle.ssq_parse.proofs.Laid.{Where, next, skip, laid, two, skip_more, no_symbol}
use Rattle.ssq_parse.proofs.LaidHeads.{no_star}
use Rattle.ssq_parse.proofs.LaidOperators.{made, Reads}
use Rattle.ssq_parse.proofs.Operands.{aggregate_is}

pub span_reads : (span : Span) → span_of span.text ≡ Some span.micros → (more : Words) (p : Where)
    → span_at (laid (quoted span.text ∷ more) p) ≡ Ok (span, laid more (next p))
unfolding span_at quoted_at
span_reads span is more p = ap (λ micros. before (as_micros span_by (first p.starts) span.text micros) (laid more (next p))) is

pub moment_reads : (moment : Moment) → time_of moment.text ≡ Some moment.micros → (more : Words) (p : Where)
    → moment_at (laid (quoted moment.text ∷ more) p) ≡ Ok (moment, laid more (next p))
unfolding moment_at quoted_at
moment_reads moment is more p = ap (λ micros. before (as_micros moment_by (first p.starts) moment.text micros) (laid more (next p))) is

module _ (depth : ℕ) (inner : Reader) where
  pub number_reads : (n : ℤ) → Reads 7 (primary_at depth inner) (of_number n)
  unfolding primary_at
  number_reads n more stops p = refl

  pub text_reads : (text : List ℕ) → Reads 7 (primary_at depth inner) (of_text text)
  unfolding primary_at
  text_reads text more stops p = refl

  pub truth_reads : (truth : Bool) → Reads 7 (primary_at depth inner) (of_truth truth)
  unfolding primary_at worded_at
  truth_reads true more stops p = refl
  truth_reads false more stops p = refl

  pub moment_primary : (moment : Moment) → time_of moment.text ≡ Some moment.micros → Reads 7 (primary_at depth inner) (of_moment moment)
  unfolding primary_at worded_at timestamp_at
  moment_primary moment is more stops p = ap (λ read. read >>= (λ found. Ok (leaf (first p.starts) (e.Timestamp found.0 (first p.starts)), found.1))) (moment_reads moment is more (next p))

  pub span_primary : (span : Span) → span_of span.text ≡ Some span.micros → Reads 7 (primary_at depth inner) (of_span span)
  unfolding primary_at worded_at interval_at
  span_primary span is more stops p = ap (λ read. read >>= (λ found. Ok (leaf (first p.starts) (e.Interval found.0 (first p.starts)), found.1))) (span_reads span is more (next p))

  pub column_reads : (stream : Option (List ℕ)) (column : List ℕ) → Reads 7 (primary_at depth inner) (of_column (record { stream = stream; column = column }))
  unfolding primary_at column_at name_at
  column_reads None column more stops p = ap (λ dot. column_by (record { text = column; at = first p.starts }) dot (laid more (next p))) (no_symbol mark.Dot 7 (omega arith) more stops (next p))
  column_reads (Some stream) column more stops p =
      ap (λ from. Ok (leaf (first p.starts) (e.Column (record { stream = Some (ident stream p.starts); column = ident column from })), laid more (next (next (next p))))) (two p.starts)

-- ---- brackets

not_zero : (depth : ℕ) → (suc depth == 0) ≡ false
not_zero depth = grind (arith, nat_tests)

module _ (depth : ℕ) where
  abbrev Primary : Reader
  Primary = primary_at (suc depth) (expr_at (suc depth))

  -- after a bracket, what stands in it
  abbrev Inside : Written → Type 0
  Inside inner = Reads 0 (expr_at (suc depth)) inner

  closes : (inner : Written) (more : Words) → (words inner ++ symbol mark.RightParen ∷ []) ++ more ≡ words inner ++ (symbol mark.RightParen ∷ more)
  closes inner more = append_assoc (words inner) (symbol mark.RightParen ∷ []) more

  inside_reads : (inner : Written) → Inside inner → (bracket : ℕ) (more : Words) (p : Where)
      → inside_at (suc depth) (expr_at (suc depth)) bracket (laid ((words inner ++ symbol mark.RightParen ∷ []) ++ more) p)
      ≡ Ok (made inner p, laid (symbol mark.RightParen ∷ more) (skip (words inner) p))
  unfolding inside_at
  inside_reads inner reads bracket more p =
      ap (λ b. if b then refused (Some bracket) TooDeep else expr_at (suc depth) (laid ((words inner ++ symbol mark.RightParen ∷ []) ++ more) p)) (not_zero depth)
      ∙ ap (λ ws. expr_at (suc depth) (laid ws p)) (closes inner more) ∙ reads (symbol mark.RightParen ∷ more) (omega arith) p

  behind_closed : (inner : Written) (p : Where) → next (skip (words inner) p) ≡ skip (words inner ++ symbol mark.RightParen ∷ []) p
  behind_closed inner p = sym (skip_more (words inner) (symbol mark.RightParen ∷ []) p)

  pub bracketed_reads : (inner : Written) → Inside inner → Reads 7 Primary (bracketed inner)
  unfolding primary_at bracketed_at symbol_at
  bracketed_reads inner reads more stops p =
      ap (λ read. read >>= (λ found. symbol_at mark.RightParen found.1 >>= (λ closed. Ok (tree_of found.0.value (first p.starts) found.0.height, closed.1))))
      (inside_reads inner reads (first p.starts) more (next p))
      ∙ ap (λ at. Ok (made (bracketed inner) p, laid more at)) (behind_closed inner (next p))

  argument_reads : (f : Function) (inner : Written) → Inside inner → (more : Words) (p : Where)
      → argument_at (suc depth) (expr_at (suc depth)) f (first p.starts) (first (next p).starts) (laid ((words inner ++ symbol mark.RightParen ∷ []) ++ more) (next (next p)))
      ≡ Ok (made (of_function f inner) p, laid more (skip (words (of_function f inner)) p))
  unfolding argument_at symbol_at
  argument_reads f inner reads more p =
      ap (λ read. read >>= (λ found. symbol_at mark.RightParen found.1 >>= (λ closed. Ok (leaf (first p.starts) (e.Aggregate f (first p.starts) found.0.value), closed.1))))
      (inside_reads inner reads (first (next p).starts) more (next (next p)))
      ∙ ap (λ value. Ok (leaf (first p.starts) value, laid more (next (skip (words inner) (next (next p)))))) (aggregate_is f (first p.starts) (tree inner (next (next p)).starts))
      ∙ ap (λ from. Ok (leaf (first p.starts) (e.Aggregate' f (first p.starts) tt (only (tree inner from))), laid more (next (skip (words inner) (next (next p)))))) (two p.starts)
      ∙ ap (λ at. Ok (made (of_function f inner) p, laid more at)) (behind_closed inner (next (next p)))

  -- COUNT takes a star too, which begins no expression
  pub function_reads : (f : Function) (inner : Written) → Inside inner → Reads 7 Primary (of_function f inner)
  unfolding primary_at worded_at count_at aggregate_at symbol_at
  function_reads function.Count inner reads more stops p =
      let tokens : Ahead = laid ((words inner ++ symbol mark.RightParen ∷ []) ++ more) (next (next p)) in
      ap (λ star. rows_by (suc depth) (expr_at (suc depth)) (first p.starts) (first (next p).starts) star tokens)
      (ap (λ ws. seen (is_symbol mark.Star) (laid ws (next (next p)))) (closes inner more) ∙ no_star inner (symbol mark.RightParen ∷ more) (next (next p)))
      ∙ argument_reads function.Count inner reads more p
  function_reads function.Sum inner reads more stops p = argument_reads function.Sum inner reads more p
  function_reads function.Min inner reads more stops p = argument_reads function.Min inner reads more p
  function_reads function.Max inner reads more stops p = argument_reads function.Max inner reads more p

  pub rows_read : Reads 7 Primary of_rows
  unfolding primary_at worded_at count_at symbol_at
  rows_read more stops p =
      ap (λ b. if b then refused (Some (first (next p).starts)) TooDeep else Ok (leaf (first p.starts) (e.CountRows (first p.starts)), laid more (next (next (next (next p)))))) (not_zero depth)
