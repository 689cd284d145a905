-- Each expression that is written is read.
use Rattle.std.proofs.Common.{◌≡◌, ℕ, zero, suc, ◌+◌, ◌-◌, ◌≤◌, max, sym, ap, ◌∙◌, arith, ◌∷◌, ◌++◌, drop, refl, subst, Some, Ok, append_assoc}
use Rattle.ssq_ast.specs.declared.expr.BinaryOp.{BinaryOp}
use Rattle.ssq_ast.specs.declared.expr.BinaryOp.TheVariants as op
use Rattle.ssq_ast.specs.declared.expr.Expr.TheVariants as e
use Rattle.ssq_ast.specs.declared.expr.NullTest.{NullTest}
use Rattle.ssq_ast.specs.declared.expr.NullTest.TheVariants as test
use Rattle.ssq_ast.specs.declared.expr.UnaryOp.TheVariants as prefix
use Rattle.ssq_ast.specs.Expression.{Words, Written, words, binary_word, test_words, level, IsRegular, opens, height, tallest, only, tree, first, of_number, of_text, of_truth, of_moment, of_span, of_column, of_rows, of_function, bracketed, prefixed, null_tested, infixed, between}
use Rattle.ssq_ast.specs.Expression as spec
use Rattle.ssq_ast.specs.Statement.{IsFit}
use Rattle.ssq_lex.specs.declared.keyword.Keyword.TheVariants as key
use Rattle.ssq_lex.specs.Lexeme.{keyword}
use Rattle.ssq_parse.specs.declared.operators.Level.TheVariants as levels
use Rattle.ssq_parse.specs.declared.tree.Tree.{Tree}
use Rattle.ssq_parse.specs.Expressions.{Reader, primary_at, signed_at, product_at, sum_at, null_test_at, between_at, tested, ranged, compared, comparison_at, negation_at, conjunction_at, disjunction_at, expr_at, whole_at}
use Rattle.ssq_parse.specs.Operators.{operator_of, is_prefix}
use Rattle.ssq_parse.specs.Reading.{Ahead, Read, ◌>>=◌, before, with_place, first_operator, keyword_at}
use Rattle.ssq_parse.specs.Trees.{binary, null_test, tree_of, ◌and_then◌}
use Rattle.ssq_parse.specs.Trees as trees
use Rattle.ssq_parse.proofs.Laid.{Where, next, skip, laid, skip_more, skip_starts, reach-operator, Stops, stops_above, no_operator, no_keyword}
use Rattle.ssq_parse.proofs.LaidHeads.{begins_plain, between_words}
use Rattle.ssq_parse.proofs.LaidOperands.{number_reads, text_reads, truth_reads, moment_primary, span_primary, column_reads, bracketed_reads, function_reads, rows_read}
use Rattle.ssq_parse.proofs.LaidOperators.{made, Reads, then_is, risen_is, binary_made, front_of, behind_both, Chained, chain_reads, one_chained, more_chained, none_prefixed, more_prefixed}
use Rattle.ssq_parse.proofs.Whole.{is_null_is, between_is}

-- ---- comparisons

module _ (depth : ℕ) where
  abbrev Sum : Reader
  Sum = sum_at depth (expr_at depth)

  abbrev Comparison : Reader
  Comparison = comparison_at depth (expr_at depth)

  abbrev On : Tree × Ahead → Read Tree
  On left = compared depth (expr_at depth) (first_operator levels.Comparison left.1) left.0 left.1

  -- what stands after the left operand is read next
  compared_behind : (left : Written) (ws : Words) (p : Where) → Reads 4 Sum left → Stops 4 ws
      → Comparison (laid (words left ++ ws) p) ≡ On (made left p, laid ws (skip (words left) p))
  unfolding comparison_at
  compared_behind left ws p reads stops = then_is (Sum (laid (words left ++ ws) p)) _ On (reads ws stops p)

  alone_compared : (w : Written) → Reads 4 Sum w → Reads 3 Comparison w
  alone_compared w reads more stops p =
      let q : Where = skip (words w) p in
      compared_behind w more p reads (stops_above (omega arith) more stops)
      ∙ ap (λ o. compared depth (expr_at depth) o (made w p) (laid more q)) (no_operator levels.Comparison more stops q)
      ∙ ap (λ is. tested depth (expr_at depth) is (made w p) (laid more q)) (no_keyword key.Is 3 (omega arith) more stops q)
      ∙ ap (λ is. ranged depth (expr_at depth) is (made w p) (laid more q)) (no_keyword key.Between 3 (omega arith) more stops q)

  infixed_compared : (o : BinaryOp) (left right : Written) → operator_of levels.Comparison (binary_word o) ≡ Some o → spec.binary_level o ≡ 3
      → height (infixed o left right) ≤ 64 → Reads 4 Sum left → Reads 4 Sum right → Reads 3 Comparison (infixed o left right)
  infixed_compared o left right is at low l r more stops p =
      let q : Where = skip (words left) p in
      let reaches = reach-operator o in
      ap (λ ws. Comparison (laid ws p)) (front_of o left right more)
      ∙ compared_behind left (binary_word o ∷ (words right ++ more)) p l (omega arith)
      ∙ ap (λ found. compared depth (expr_at depth) (with_place (first q.starts) found) (made left p) (laid (binary_word o ∷ (words right ++ more)) q)) is
      ∙ ap (λ read. read >>= (λ found. before (binary o (first q.starts) (made left p) found.0) found.1)) (r more (stops_above (omega arith) more stops) (next q))
      ∙ ap (λ longer. before longer (laid more (skip (words right) (next q)))) (binary_made o left right p low)
      ∙ ap (λ at. Ok (made (infixed o left right) p, laid more at)) (sym (behind_both o left right p))

  -- ---- IS

  null_made : (w : Written) (what : NullTest) (p : Where) → height (null_tested w what) ≤ 64
      → null_test what (first (skip (words w) p).starts) (made w p) ≡ Ok (made (null_tested w what) p)
  unfolding null_test
  null_made w what p low =
      let q : Where = skip (words w) p in
      ap (λ r. r and_then (λ h. Ok (tree_of (e.IsNull (tree w p.starts) (first q.starts) what) (first p.starts) h))) (risen_is (first q.starts) (height w) (omega arith))
      ∙ ap (λ value. Ok (tree_of value (first p.starts) (height w + 1)))
      (is_null_is (tree w p.starts) (first q.starts) what ∙ ap (λ from. e.IsNull' tt (only (tree w p.starts)) (first from) what) (sym (skip_starts (words w) p)))

  null_read : (w : Written) (what : NullTest) → height (null_tested w what) ≤ 64 → (more : Words) (p : Where)
      → null_test_at depth (expr_at depth) (first (skip (words w) p).starts) (made w p) (laid (test_words what ++ more) (next (skip (words w) p)))
      ≡ Ok (made (null_tested w what) p, laid more (skip (test_words what) (next (skip (words w) p))))
  unfolding null_test_at keyword_at
  null_read w test.Null low more p =
      ap (λ tree. before tree (laid (keyword key.Null ∷ more) (next (skip (words w) p))) >>= (λ tested. keyword_at key.Null tested.1 >>= (λ null. Ok (tested.0, null.1)))) (null_made w test.Null p low)
  null_read w test.NotNull low more p =
      ap (λ tree. before tree (laid (keyword key.Null ∷ more) (next (next (skip (words w) p)))) >>= (λ tested. keyword_at key.Null tested.1 >>= (λ null. Ok (tested.0, null.1)))) (null_made w test.NotNull p low)

  pub null_compared : (w : Written) (what : NullTest) → height (null_tested w what) ≤ 64 → Reads 4 Sum w → Reads 3 Comparison (null_tested w what)
  unfolding operator_of
  null_compared w what low reads more stops p =
      ap (λ ws. Comparison (laid ws p)) (append_assoc (words w) (keyword key.Is ∷ test_words what) more)
      ∙ compared_behind w (keyword key.Is ∷ test_words what ++ more) p reads (omega arith)
      ∙ null_read w what low more p
      ∙ ap (λ at. Ok (made (null_tested w what) p, laid more at)) (sym (skip_more (words w) (keyword key.Is ∷ test_words what) p))

  -- ---- BETWEEN

  between_made : (w low high : Written) (p : Where) → height (between w low high) ≤ 64
      → trees.between (first (skip (words w) p).starts) (made w p) (made low (next (skip (words w) p))) (made high (next (skip (words low) (next (skip (words w) p)))))
      ≡ Ok (made (between w low high) p)
  unfolding trees.between
  between_made w low high p below =
      let at : Where = skip (words w) p in
      let q : Where = next at in
      let r : Where = next (skip (words low) q) in
      let same : max (max (height w) (height low)) (height high) ≡ max (height w) (max (height low) (height high)) = omega arith in
      ap (λ made. made and_then (λ h. Ok (tree_of (e.Between (tree w p.starts) (first at.starts) (tree low q.starts) (tree high r.starts)) (first p.starts) h)))
      (ap (trees.risen (first at.starts)) same ∙ risen_is (first at.starts) (max (height w) (max (height low) (height high))) (omega arith))
      ∙ ap (λ value. Ok (tree_of value (first p.starts) (max (height w) (max (height low) (height high)) + 1)))
      (between_is (tree w p.starts) (first at.starts) (tree low q.starts) (tree high r.starts)
      ∙ ap (λ from. e.Between' tt (only (tree w p.starts)) (first at.starts) tt (only (tree low q.starts)) tt (only (tree high (drop 1 from)))) (sym (skip_starts (words low) q))
      ∙ ap (λ from. e.Between' tt (only (tree w p.starts)) (first from) tt (only (tree low (drop 1 from))) tt (only (tree high (drop 1 (spec.behind (words low) (drop 1 from)))))) (sym (skip_starts (words w) p)))

  behind_three : (w low high : Written) (p : Where)
      → skip (words (between w low high)) p ≡ skip (words high) (next (skip (words low) (next (skip (words w) p))))
  behind_three w low high p =
      skip_more (words w ++ keyword key.Between ∷ words low) (keyword key.And ∷ words high) p
      ∙ ap (λ at. skip (words high) (next at)) (skip_more (words w) (keyword key.Between ∷ words low) p)

  pub between_compared : (w low high : Written) → height (between w low high) ≤ 64 → Reads 4 Sum w → Reads 4 Sum low → Reads 4 Sum high → Reads 3 Comparison (between w low high)
  unfolding operator_of between_at keyword_at
  between_compared w low high below reads-w reads-low reads-high more stops p =
      let at : Where = skip (words w) p in
      let q : Where = next at in
      let r : Where = next (skip (words low) q) in
      ap (λ ws. Comparison (laid ws p)) (between_words w low high more)
      ∙ compared_behind w (keyword key.Between ∷ (words low ++ (keyword key.And ∷ (words high ++ more)))) p reads-w (omega arith)
      ∙ ap (λ read. read >>= (λ low. keyword_at key.And low.1 >>= (λ and. Sum and.1 >>= (λ high. before (trees.between (first at.starts) (made w p) low.0 high.0) high.1))))
      (reads-low (keyword key.And ∷ (words high ++ more)) (omega arith) q)
      ∙ ap (λ read. read >>= (λ high. before (trees.between (first at.starts) (made w p) (made low q) high.0) high.1)) (reads-high more (stops_above (omega arith) more stops) r)
      ∙ ap (λ longer. before longer (laid more (skip (words high) r))) (between_made w low high p below)
      ∙ ap (λ at. Ok (made (between w low high) p, laid more at)) (sym (behind_three w low high p))

-- ---- Levels. What is known of a level's reader: where it reads a chain, how it goes on too.
abbrev Known : ℕ → ℕ → Written → Type 0
Known depth zero w = Chained levels.Or (conjunction_at depth (expr_at depth)) w
Known depth (suc zero) w = Chained levels.And (negation_at depth (expr_at depth)) w
Known depth (suc (suc zero)) w = Reads 2 (negation_at depth (expr_at depth)) w
Known depth (suc (suc (suc zero))) w = Reads 3 (comparison_at depth (expr_at depth)) w
Known depth (suc (suc (suc (suc zero)))) w = Chained levels.Sum (product_at depth (expr_at depth)) w
Known depth (suc (suc (suc (suc (suc zero))))) w = Chained levels.Product (signed_at depth (expr_at depth)) w
Known depth (suc (suc (suc (suc (suc (suc zero)))))) w = Reads 6 (signed_at depth (expr_at depth)) w
Known depth (suc (suc (suc (suc (suc (suc (suc n))))))) w = Reads 7 (primary_at depth (expr_at depth)) w

module _ (depth : ℕ) (w : Written) where
  by_disjunction : Known depth 0 w → Reads 0 (disjunction_at depth (expr_at depth)) w
  unfolding disjunction_at
  by_disjunction known = chain_reads levels.Or (conjunction_at depth (expr_at depth)) w known

  by_conjunction : Known depth 1 w → Reads 1 (conjunction_at depth (expr_at depth)) w
  unfolding conjunction_at
  by_conjunction known = chain_reads levels.And (negation_at depth (expr_at depth)) w known

  by_sum : Known depth 4 w → Reads 4 (sum_at depth (expr_at depth)) w
  unfolding sum_at
  by_sum known = chain_reads levels.Sum (product_at depth (expr_at depth)) w known

  by_product : Known depth 5 w → Reads 5 (product_at depth (expr_at depth)) w
  unfolding product_at
  by_product known = chain_reads levels.Product (signed_at depth (expr_at depth)) w known

  -- the next level below
  by_prefix : IsRegular w → (n : ℕ) → n + 1 ≤ level w → Known depth (suc n) w → Known depth n w
  unfolding negation_at signed_at
  by_prefix regular zero tight known = one_chained levels.Or (conjunction_at depth (expr_at depth)) w (by_conjunction known)
  by_prefix regular (suc zero) tight known = one_chained levels.And (negation_at depth (expr_at depth)) w known
  by_prefix regular (suc (suc zero)) tight known = none_prefixed prefix.Not (comparison_at depth (expr_at depth)) 2 w (begins_plain prefix.Not w regular (omega arith)) (λ more stops. known more (stops_above (omega arith) more stops))
  by_prefix regular (suc (suc (suc zero))) tight known = alone_compared depth w (by_sum known)
  by_prefix regular (suc (suc (suc (suc zero)))) tight known = one_chained levels.Sum (product_at depth (expr_at depth)) w (by_product known)
  by_prefix regular (suc (suc (suc (suc (suc zero))))) tight known = one_chained levels.Product (signed_at depth (expr_at depth)) w known
  by_prefix regular (suc (suc (suc (suc (suc (suc zero)))))) tight known = none_prefixed prefix.Minus (primary_at depth (expr_at depth)) 6 w (begins_plain prefix.Minus w regular (omega arith)) (λ more stops. known more (stops_above (omega arith) more stops))
  by_prefix regular (suc (suc (suc (suc (suc (suc (suc n))))))) tight known = known

  -- so many levels below
  down : IsRegular w → (k n : ℕ) → n + k ≤ level w → Known depth (n + k) w → Known depth n w
  down regular zero n tight known = subst (λ m. Known depth m w) (omega arith) known
  down regular (suc k) n tight known =
      let same : n + suc k ≡ suc (n + k) = omega arith in
      down regular k n (omega arith) (by_prefix regular (n + k) (omega arith) (subst (λ m. Known depth m w) same known))

  pub lower : IsRegular w → Known depth (level w) w → (n : ℕ) → n ≤ level w → Known depth n w
  lower regular known n below =
      let same : level w ≡ n + (level w - n) = omega arith in
      down regular (level w - n) n (omega arith) (subst (λ m. Known depth m w) same known)

-- ---- each expression

-- what was found of it, at each level that it may stand at
abbrev pub All : ℕ → Written → Type 0
All depth w = (n : ℕ) → n ≤ level w → Known depth n w

-- the readers of an operator's level know it, if they know its operands
infixed_known : (depth : ℕ) (o : BinaryOp) (left right : Written) → height (infixed o left right) ≤ 64
    → spec.left_level o ≤ level left → spec.right_level o ≤ level right → All depth left → All depth right → Known depth (spec.binary_level o) (infixed o left right)
unfolding operator_of
infixed_known depth op.Or left right low a b l r = more_chained levels.Or (conjunction_at depth (expr_at depth)) op.Or left right refl refl low (l 0 a) (by_conjunction depth right (r 1 b))
infixed_known depth op.And left right low a b l r = more_chained levels.And (negation_at depth (expr_at depth)) op.And left right refl refl low (l 1 a) (r 2 b)
infixed_known depth op.Equal left right low a b l r = infixed_compared depth op.Equal left right refl refl low (by_sum depth left (l 4 a)) (by_sum depth right (r 4 b))
infixed_known depth op.NotEqual left right low a b l r = infixed_compared depth op.NotEqual left right refl refl low (by_sum depth left (l 4 a)) (by_sum depth right (r 4 b))
infixed_known depth op.Less left right low a b l r = infixed_compared depth op.Less left right refl refl low (by_sum depth left (l 4 a)) (by_sum depth right (r 4 b))
infixed_known depth op.AtMost left right low a b l r = infixed_compared depth op.AtMost left right refl refl low (by_sum depth left (l 4 a)) (by_sum depth right (r 4 b))
infixed_known depth op.Greater left right low a b l r = infixed_compared depth op.Greater left right refl refl low (by_sum depth left (l 4 a)) (by_sum depth right (r 4 b))
infixed_known depth op.AtLeast left right low a b l r = infixed_compared depth op.AtLeast left right refl refl low (by_sum depth left (l 4 a)) (by_sum depth right (r 4 b))
infixed_known depth op.Add left right low a b l r = more_chained levels.Sum (product_at depth (expr_at depth)) op.Add left right refl refl low (l 4 a) (by_product depth right (r 5 b))
infixed_known depth op.Subtract left right low a b l r = more_chained levels.Sum (product_at depth (expr_at depth)) op.Subtract left right refl refl low (l 4 a) (by_product depth right (r 5 b))
infixed_known depth op.Concat left right low a b l r = more_chained levels.Sum (product_at depth (expr_at depth)) op.Concat left right refl refl low (l 4 a) (by_product depth right (r 5 b))
infixed_known depth op.Multiply left right low a b l r = more_chained levels.Product (signed_at depth (expr_at depth)) op.Multiply left right refl refl low (l 5 a) (r 6 b)
infixed_known depth op.Divide left right low a b l r = more_chained levels.Product (signed_at depth (expr_at depth)) op.Divide left right refl refl low (l 5 a) (r 6 b)
infixed_known depth op.Remainder left right low a b l r = more_chained levels.Product (signed_at depth (expr_at depth)) op.Remainder left right refl refl low (l 5 a) (r 6 b)

-- its readers, with brackets nested so deep
nested : (depth : ℕ) (w : Written) → Known depth 0 w → Reads 0 (expr_at (suc depth)) w
unfolding expr_at
nested depth w known = by_disjunction depth w known

leaf_known : (depth : ℕ) (w : Written) → IsRegular w → level w ≡ 7 → Reads 7 (primary_at depth (expr_at depth)) w → All depth w
leaf_known depth w regular is reads = lower depth w regular (subst (λ m. Known depth m w) (sym is) reads)

known : (w : Written) (depth : ℕ) → IsRegular w → opens w ≤ depth → tallest w ≤ 64 → All depth w
unfolding negation_at signed_at is_prefix
known (of_number n) depth regular opened tall = leaf_known depth (of_number n) regular refl (number_reads depth (expr_at depth) n)
known (of_text text) depth regular opened tall = leaf_known depth (of_text text) regular refl (text_reads depth (expr_at depth) text)
known (of_truth truth) depth regular opened tall = leaf_known depth (of_truth truth) regular refl (truth_reads depth (expr_at depth) truth)
known (of_moment moment) depth regular opened tall = leaf_known depth (of_moment moment) regular refl (moment_primary depth (expr_at depth) moment regular)
known (of_span span) depth regular opened tall = leaf_known depth (of_span span) regular refl (span_primary depth (expr_at depth) span regular)
known (of_column column) depth regular opened tall = leaf_known depth (of_column column) regular refl (column_reads depth (expr_at depth) column.stream column.column)
known of_rows zero regular opened tall = absurd (omega arith)
known of_rows (suc depth) regular opened tall = leaf_known (suc depth) of_rows regular refl (rows_read depth)
known (of_function f argument) zero regular opened tall = absurd (omega arith)
known (of_function f argument) (suc depth) regular opened tall =
    leaf_known (suc depth) (of_function f argument) regular refl
    (function_reads depth f argument (nested depth argument (known argument depth regular (omega arith) tall 0 (omega arith))))
known (bracketed inner) zero regular opened tall = absurd (omega arith)
known (bracketed inner) (suc depth) regular opened tall =
    leaf_known (suc depth) (bracketed inner) regular refl
    (bracketed_reads depth inner (nested depth inner (known inner depth regular (omega arith) tall 0 (omega arith))))
known (prefixed prefix.Not operand) depth regular opened tall =
    lower depth (prefixed prefix.Not operand) regular
    (more_prefixed prefix.Not (comparison_at depth (expr_at depth)) 2 operand refl (omega arith) (known operand depth regular.1 opened (omega arith) 2 regular.0))
known (prefixed prefix.Minus operand) depth regular opened tall =
    lower depth (prefixed prefix.Minus operand) regular
    (more_prefixed prefix.Minus (primary_at depth (expr_at depth)) 6 operand refl (omega arith) (known operand depth regular.1 opened (omega arith) 6 regular.0))
known (null_tested operand what) depth regular opened tall =
    lower depth (null_tested operand what) regular
    (null_compared depth operand what (omega arith) (by_sum depth operand (known operand depth regular.1 opened (omega arith) 4 regular.0)))
known (infixed o left right) depth regular opened tall =
    lower depth (infixed o left right) regular
    (infixed_known depth o left right (omega arith) regular.0 regular.2 (known left depth regular.1 (omega arith) (omega arith)) (known right depth regular.3 (omega arith) (omega arith)))
known (between operand low high) depth regular opened tall =
    lower depth (between operand low high) regular
    (between_compared depth operand low high (omega arith)
    (by_sum depth operand (known operand depth regular.1 (omega arith) (omega arith) 4 regular.0))
    (by_sum depth low (known low depth regular.3 (omega arith) (omega arith) 4 regular.2))
    (by_sum depth high (known high depth regular.5 (omega arith) (omega arith) 4 regular.4)))

pub whole_reads : (w : Written) → IsFit w → Reads 0 whole_at w
unfolding whole_at
whole_reads w fit = nested 64 w (known w 64 fit.regular fit.brackets fit.heights 0 (omega arith))
