-- Where an expression lacks a token, the words in front of it begin one.
use Rattle.std.proofs.Common.{◌≡◌, ℕ, zero, suc, ◌+◌, ◌≤◌, Bool, true, false, sym, ap, ◌∙◌, arith, [], ◌∷◌, ◌++◌, take, drop, refl, Option, Some, None, Ok, Err, append_assoc}
use Rattle.std.specs.Prelude.{if◌then◌else◌}
use Rattle.std.specs.List.{prefix_len}
use Rattle.ssq_ast.specs.declared.expr.BinaryOp.{BinaryOp}
use Rattle.ssq_ast.specs.declared.expr.NullTest.{NullTest}
use Rattle.ssq_ast.specs.declared.expr.NullTest.TheVariants as test
use Rattle.ssq_ast.specs.declared.expr.UnaryOp.{UnaryOp}
use Rattle.ssq_ast.specs.declared.expr.UnaryOp.TheVariants as prefix
use Rattle.ssq_ast.specs.Expression.{Words, words, test_words, unary_word, unary_level, binary_word, level, IsRegular, of_truth, infixed, null_tested}
use Rattle.ssq_ast.specs.Expression as spec
use Rattle.ssq_lex.specs.declared.keyword.Keyword.TheVariants as key
use Rattle.ssq_lex.specs.Lexeme.{Lexeme, keyword, Lexed}
use Rattle.ssq_parse.specs.declared.operators.Level.{Level}
use Rattle.ssq_parse.specs.declared.operators.Level.TheVariants as levels
use Rattle.ssq_parse.specs.declared.tree.Tree.{Tree}
use Rattle.ssq_parse.specs.Expressions.{Reader, further, further_by, chain, prefixed, test_by, primary_at, signed_at, product_at, sum_at, null_test_at, between_at, ranged, tested, compared, comparison_at, negation_at, conjunction_at, disjunction_at, expr_at, whole_at}
use Rattle.ssq_parse.specs.Operators.{operator_of, prefixes, is_prefix}
use Rattle.ssq_parse.specs.Reading.{Ahead, Made, Read, ◌>>=◌, before, behind, is_keyword, keyword_at, first_operator, with_place}
use Rattle.ssq_parse.specs.Trees.{binary, null_test, between, wrapped}
use Rattle.ssq_parse.specs.Written.{Took, Spelled, Sound}
use Rattle.ssq_parse.proofs.Begun.{IfBegun, at_end, if_begun_map, begun_then, begun_any, begun_next, never_begun, keyword_next}
use Rattle.ssq_parse.proofs.BegunOperands.{Fits, Begins, primary_begun}
use Rattle.ssq_parse.proofs.Found.{IfTrue, IfFound, IsWrittenSo, number_of, left_of, is_found, is_prefix_word}
use Rattle.ssq_parse.proofs.Local.{Unexpected, if_missing}
use Rattle.ssq_parse.proofs.LocalExpressions.{binary_made, null_test_made, between_made, wrapped_made}
use Rattle.ssq_parse.proofs.Operands.{keyword_sound}
use Rattle.ssq_parse.proofs.Sound.{looser, binary_sound}
use Rattle.ssq_parse.proofs.Whole.{sum_sound, signed_sound, product_sound, negation_sound, conjunction_sound, expr_sound}
use Rattle.ssq_parse.proofs.Words.{took_none, took_one, took_more, is_keyword-found}

looser_begins : (asked tight : ℕ) (reader : Reader) → asked ≤ tight → Begins tight reader → Begins asked reader
looser_begins asked tight reader below begins tokens =
    if_begun_map words (Fits tight) words (Fits asked) [] [] (took_none tokens) (λ w. w) (λ w fits. let t : tight ≤ level w = fits.0 in (omega (arith, below, t), fits.1))
    (λ w. at_end (words w) [] (words w) refl) (reader tokens) (begins tokens)

-- what is made lacks no token
made_then : {A B : Type 0} (asked : ℕ) (start rest : Ahead) (made : Made A) (f : A × Ahead → Read B) → Unexpected made → ((x : A) → IfBegun words (Fits asked) start (f (x, rest)))
    → IfBegun words (Fits asked) start (before made rest >>= f)
made_then asked start rest (Ok x) f never more = more x
made_then asked start rest (Err refusal) f never more = if_missing refusal.cause refusal.at (λ no. absurd no) never

-- ---- operators in front of an operand

module _ (o : UnaryOp) (operand : Reader) (begins : Begins (unary_level o) operand) where
  -- after so many operators
  abbrev Fronted : ℕ → Ahead → Type 0
  Fronted k tokens = IfBegun words (Fits (unary_level o)) tokens (operand (drop k tokens))

  one_more : (k : ℕ) (t : Lexed) (ts : Ahead) → t.said ≡ unary_word o → Fronted k ts → Fronted (suc k) (t ∷ ts)
  one_more k t ts word begun =
      if_begun_map words (Fits (unary_level o)) words (Fits (unary_level o)) (unary_word o ∷ []) [] (took_one t ts (unary_word o) word) (spec.prefixed o) (λ w fits. (omega arith, fits))
      (λ w. at_end (words (spec.prefixed o w)) (unary_word o ∷ []) (words w) refl) (operand (drop k ts)) begun

  by_first : (b : Bool) (k : ℕ) (t : Lexed) (ts : Ahead) → IfTrue b (t.said ≡ unary_word o) → Fronted k ts → Fronted (if b then 1 + k else 0) (t ∷ ts)
  by_first true k t ts word begun = let next : suc k ≡ 1 + k = omega arith in rw (sym next) (one_more k t ts word begun)
  by_first false k t ts word begun = begins (t ∷ ts)

  all_begun : (tokens : Ahead) → Fronted (prefix_len (prefixes o) tokens) tokens
  all_begun [] = begins []
  all_begun (t ∷ ts) = by_first (is_prefix o t.said) (prefix_len (prefixes o) ts) t ts (is_prefix_word o t.said) (all_begun ts)

  prefixed_begun : Begins (unary_level o) (prefixed o operand)
  prefixed_begun tokens =
      let k = prefix_len (prefixes o) tokens in
      begun_any words (Fits (unary_level o)) tokens (operand (drop k tokens)) (λ found. before (wrapped o (take k tokens) found.0) found.1) (all_begun tokens)
      (λ found. never_begun words (Fits (unary_level o)) tokens found.1 (wrapped o (take k tokens) found.0) (wrapped_made o (take k tokens) found.0))

-- ---- operators between operands

right_begun : (l : Level) (o : BinaryOp) (n a b depth : ℕ) (start ts : Ahead) (t : Lexed) (left : Tree) → Spelled a depth start left (t ∷ ts) → IsWrittenSo l t.said o
    → left_of l ≤ a → number_of l + 1 ≤ b → n ≤ number_of l → (operand : Reader) → Begins b operand → IfBegun words (Fits n) start (operand ts)
right_begun l o n a b depth start ts t left sl is la rb nl operand begins =
    let lv = is.level in
    let ll = is.left in
    let tight = sl.tight in
    if_begun_map words (Fits b) words (Fits n) (words sl.written ++ binary_word o ∷ []) [] (took_more sl.took (took_one t ts (binary_word o) is.spelt)) (infixed o sl.written)
    (λ w fits. let right : b ≤ level w = fits.0 in (omega arith, (omega arith, sl.regular, omega arith, fits.1)))
    (λ w. at_end (words (infixed o sl.written w)) (words sl.written ++ binary_word o ∷ []) (words w) (sym (append_assoc (words sl.written) (binary_word o ∷ []) (words w))))
    (operand ts) (begins ts)

module _ (l : Level) (n depth : ℕ) (operand : Reader) (sound : Sound (number_of l + 1) depth operand) (begins : Begins (number_of l + 1) operand) (below : left_of l ≤ n) (above : n ≤ number_of l) where
  by_op : (turns : ℕ) → ((start : Ahead) (left : Tree) (tokens : Ahead) → Spelled n depth start left tokens → IfBegun words (Fits n) start (further l operand turns left tokens))
      → (start : Ahead) (left : Tree) (t : Lexed) (ts : Ahead) → Spelled n depth start left (t ∷ ts) → (o : Option BinaryOp) → IfFound l t.said o
      → IfBegun words (Fits n) start (further_by (with_place t.start o) operand (further l operand turns) left (t ∷ ts))
  by_op turns more start left t ts so_far None is = tt
  by_op turns more start left t ts so_far (Some o) is =
      begun_then words (Fits n) start (λ right. Spelled (number_of l + 1) depth ts right.0 right.1)
      (operand ts) (λ right. before (binary o t.start left right.0) right.1 >>= (λ longer. further l operand turns longer.0 longer.1)) (sound ts)
      (right_begun l o n n (number_of l + 1) depth start ts t left so_far is below (omega arith) above operand begins)
      (λ right spelled.
      begun_then words (Fits n) start (λ found. Spelled n depth start found.0 found.1)
      (before (binary o t.start left right.0) right.1) (λ longer. further l operand turns longer.0 longer.1)
      (binary_sound l o n n (number_of l + 1) depth start ts right.1 t left right.0 so_far spelled is below (omega arith) above)
      (never_begun words (Fits n) start right.1 (binary o t.start left right.0) (binary_made o t.start left right.0))
      (λ longer spelled'. more start longer.0 longer.1 spelled'))

  further_begun : (turns : ℕ) (start : Ahead) (left : Tree) (tokens : Ahead) → Spelled n depth start left tokens → IfBegun words (Fits n) start (further l operand turns left tokens)
  unfolding further
  further_begun zero start left tokens so_far = tt
  further_begun (suc turns) start left [] so_far = tt
  further_begun (suc turns) start left (t ∷ ts) so_far = by_op turns (further_begun turns) start left t ts so_far (operator_of l t.said) (is_found l t.said)

  chain_begun : Begins n (chain l operand)
  chain_begun tokens =
      begun_then words (Fits n) tokens (λ first. Spelled (number_of l + 1) depth tokens first.0 first.1)
      (operand tokens) (λ first. further l operand 64 first.0 first.1) (sound tokens)
      (looser_begins n (number_of l + 1) operand (omega (arith, above)) begins tokens)
      (λ first spelled. further_begun 64 tokens first.0 first.1 (looser (omega (arith, above)) spelled))

-- ---- IS

null_on : (what : NullTest) (depth : ℕ) (start ts us : Ahead) (t : Lexed) (left : Tree) → Spelled 4 depth start left (t ∷ ts) → t.said ≡ keyword key.Is
    → (u : Words) → Took ts us u → test_words what ≡ u ++ keyword key.Null ∷ []
    → IfBegun words (Fits 3) start (before (null_test what t.start left) us >>= (λ tested. keyword_at key.Null tested.1 >>= (λ null. Ok (tested.0, null.1))))
null_on what depth start ts us t left sl word u took is =
    made_then 3 start us (null_test what t.start left) (λ tested. keyword_at key.Null tested.1 >>= (λ null. Ok (tested.0, null.1))) (null_test_made what t.start left)
    (λ x. begun_any words (Fits 3) start (keyword_at key.Null us) (λ null. Ok (x, null.1))
    (begun_next words (Fits 3) start us (words sl.written ++ keyword key.Is ∷ u) (keyword key.Null ∷ []) (keyword_at key.Null us) (keyword_next key.Null (keyword key.Null ∷ []) us)
    (took_more sl.took (took_more (took_one t ts (keyword key.Is) word) took)) (null_tested sl.written what) (omega arith, (sl.tight, sl.regular))
    (ap (λ test. words sl.written ++ keyword key.Is ∷ test) is ∙ sym (append_assoc (words sl.written) (keyword key.Is ∷ u) (keyword key.Null ∷ []))))
    (λ null. tt))

null_by_not : (depth : ℕ) (start : Ahead) (n : Lexed) (us : Ahead) (t : Lexed) (left : Tree) → Spelled 4 depth start left (t ∷ n ∷ us) → t.said ≡ keyword key.Is
    → (b : Bool) → (b ≡ true → n.said ≡ keyword key.Not)
    → IfBegun words (Fits 3) start (before (null_test (test_by (if b then Some n.start else None)) t.start left) (behind (if b then Some n.start else None) (n ∷ us)) >>= (λ tested. keyword_at key.Null tested.1 >>= (λ null. Ok (tested.0, null.1))))
null_by_not depth start n us t left sl word true is = null_on test.NotNull depth start (n ∷ us) us t left sl word (keyword key.Not ∷ []) (took_one n us (keyword key.Not) (is refl)) refl
null_by_not depth start n us t left sl word false is = null_on test.Null depth start (n ∷ us) (n ∷ us) t left sl word [] (took_none (n ∷ us)) refl

null_begun : (depth : ℕ) (inner : Reader) (start ts : Ahead) (t : Lexed) (left : Tree) → Spelled 4 depth start left (t ∷ ts) → t.said ≡ keyword key.Is
    → IfBegun words (Fits 3) start (null_test_at depth inner t.start left ts)
unfolding null_test_at
null_begun depth inner start [] t left sl word = null_on test.Null depth start [] [] t left sl word [] (took_none []) refl
null_begun depth inner start (n ∷ us) t left sl word = null_by_not depth start n us t left sl word (is_keyword key.Not n.said) (is_keyword-found key.Not n.said)

-- ---- BETWEEN

middle : (front : Words) (word : Lexeme) (part tail : Words) → (front ++ word ∷ part) ++ tail ≡ (front ++ word ∷ []) ++ (part ++ tail)
middle front word part tail = append_assoc front (word ∷ part) tail ∙ sym (append_assoc front (word ∷ []) (part ++ tail))

module _ (depth : ℕ) (inner : Reader) (sound : (k : ℕ) → depth ≡ suc k → Sound 0 k inner) (begins : (k : ℕ) → depth ≡ suc k → Begins 0 inner) where
  signed_begun : Begins 6 (signed_at depth inner)
  unfolding signed_at
  signed_begun = prefixed_begun prefix.Minus (primary_at depth inner) (looser_begins 6 7 (primary_at depth inner) (omega arith) (primary_begun depth inner sound begins))

  product_begun : Begins 5 (product_at depth inner)
  unfolding product_at
  product_begun = chain_begun levels.Product 5 depth (signed_at depth inner) (signed_sound depth inner sound) signed_begun (omega arith) (omega arith)

  sum_begun : Begins 4 (sum_at depth inner)
  unfolding sum_at
  sum_begun = chain_begun levels.Sum 4 depth (product_at depth inner) (product_sound depth inner sound) product_begun (omega arith) (omega arith)

  module _ (start ts : Ahead) (t : Lexed) (left : Tree) (sl : Spelled 4 depth start left (t ∷ ts)) where
    low_begun : t.said ≡ keyword key.Between → IfBegun words (Fits 3) start (sum_at depth inner ts)
    low_begun word =
        if_begun_map words (Fits 4) words (Fits 3) (words sl.written ++ keyword key.Between ∷ []) (keyword key.And ∷ keyword key.True ∷ [])
        (took_more sl.took (took_one t ts (keyword key.Between) word)) (λ w. spec.between sl.written w (of_truth true))
        (λ w fits. (omega arith, (sl.tight, sl.regular, fits.0, fits.1, omega arith, tt)))
        (λ w. middle (words sl.written) (keyword key.Between) (words w) (keyword key.And ∷ keyword key.True ∷ []))
        (sum_at depth inner ts) (sum_begun ts)

    -- after the lower bound
    module _ (word : t.said ≡ keyword key.Between) (low : Tree × Ahead) (sm : Spelled 4 depth ts low.0 low.1) where
      abbrev so_far : Words
      so_far = words sl.written ++ keyword key.Between ∷ words sm.written

      took_low : Took start low.1 so_far
      took_low = took_more sl.took (took_more (took_one t ts (keyword key.Between) word) sm.took)

      and_begun : IfBegun words (Fits 3) start (keyword_at key.And low.1)
      and_begun =
          begun_next words (Fits 3) start low.1 so_far (keyword key.And ∷ keyword key.True ∷ []) (keyword_at key.And low.1) (keyword_next key.And (keyword key.And ∷ keyword key.True ∷ []) low.1) took_low
          (spec.between sl.written sm.written (of_truth true)) (omega arith, (sl.tight, sl.regular, sm.tight, sm.regular, omega arith, tt)) refl

      high_begun : (us : Ahead) → Took low.1 us (keyword key.And ∷ []) → IfBegun words (Fits 3) start (sum_at depth inner us)
      high_begun us and =
          if_begun_map words (Fits 4) words (Fits 3) (so_far ++ keyword key.And ∷ []) [] (took_more took_low and) (spec.between sl.written sm.written)
          (λ w fits. (omega arith, (sl.tight, sl.regular, sm.tight, sm.regular, fits.0, fits.1)))
          (λ w. at_end (words (spec.between sl.written sm.written w)) (so_far ++ keyword key.And ∷ []) (words w) (sym (append_assoc so_far (keyword key.And ∷ []) (words w))))
          (sum_at depth inner us) (sum_begun us)

    between_begun : t.said ≡ keyword key.Between → IfBegun words (Fits 3) start (between_at depth inner t.start left ts)
    unfolding between_at
    between_begun word =
        begun_then words (Fits 3) start (λ low. Spelled 4 depth ts low.0 low.1)
        (sum_at depth inner ts) (λ low. keyword_at key.And low.1 >>= (λ and. sum_at depth inner and.1 >>= (λ high. before (between t.start left low.0 high.0) high.1)))
        (sum_sound depth inner sound ts) (low_begun word)
        (λ low sm. begun_then words (Fits 3) start (λ and. Took low.1 and.1 (keyword key.And ∷ []))
        (keyword_at key.And low.1) (λ and. sum_at depth inner and.1 >>= (λ high. before (between t.start left low.0 high.0) high.1))
        (keyword_sound key.And low.1) (and_begun word low sm)
        (λ and took. begun_any words (Fits 3) start (sum_at depth inner and.1) (λ high. before (between t.start left low.0 high.0) high.1) (high_begun word low sm and.1 took)
        (λ high. never_begun words (Fits 3) start high.1 (between t.start left low.0 high.0) (between_made t.start left low.0 high.0))))

    by_between : (b : Bool) → (b ≡ true → t.said ≡ keyword key.Between) → IfBegun words (Fits 3) start (ranged depth inner (if b then Some t.start else None) left (t ∷ ts))
    by_between true is = between_begun (is refl)
    by_between false is = tt

    -- ---- comparisons

    by_is : (b : Bool) → (b ≡ true → t.said ≡ keyword key.Is) → IfBegun words (Fits 3) start (tested depth inner (if b then Some t.start else None) left (t ∷ ts))
    by_is true is = null_begun depth inner start ts t left sl (is refl)
    by_is false is = by_between (is_keyword key.Between t.said) (is_keyword-found key.Between t.said)

    by_operator : (o : Option BinaryOp) → IfFound levels.Comparison t.said o → IfBegun words (Fits 3) start (compared depth inner (with_place t.start o) left (t ∷ ts))
    by_operator None is = by_is (is_keyword key.Is t.said) (is_keyword-found key.Is t.said)
    by_operator (Some o) is =
        begun_any words (Fits 3) start (sum_at depth inner ts) (λ right. before (binary o t.start left right.0) right.1)
        (right_begun levels.Comparison o 3 4 4 depth start ts t left sl is (omega arith) (omega arith) (omega arith) (sum_at depth inner) sum_begun)
        (λ right. never_begun words (Fits 3) start right.1 (binary o t.start left right.0) (binary_made o t.start left right.0))

  compared_begun : (start : Ahead) (left : Tree) (us : Ahead) → Spelled 4 depth start left us → IfBegun words (Fits 3) start (compared depth inner (first_operator levels.Comparison us) left us)
  compared_begun start left [] sl = tt
  compared_begun start left (t ∷ ts) sl = by_operator start ts t left sl (operator_of levels.Comparison t.said) (is_found levels.Comparison t.said)

  comparison_begun : Begins 3 (comparison_at depth inner)
  unfolding comparison_at
  comparison_begun tokens =
      begun_then words (Fits 3) tokens (λ left. Spelled 4 depth tokens left.0 left.1)
      (sum_at depth inner tokens) (λ left. compared depth inner (first_operator levels.Comparison left.1) left.0 left.1) (sum_sound depth inner sound tokens)
      (looser_begins 3 4 (sum_at depth inner) (omega arith) sum_begun tokens)
      (λ left sl. compared_begun tokens left.0 left.1 sl)

  -- ---- NOT, AND and OR

  negation_begun : Begins 2 (negation_at depth inner)
  unfolding negation_at
  negation_begun = prefixed_begun prefix.Not (comparison_at depth inner) (looser_begins 2 3 (comparison_at depth inner) (omega arith) comparison_begun)

  conjunction_begun : Begins 1 (conjunction_at depth inner)
  unfolding conjunction_at
  conjunction_begun = chain_begun levels.And 1 depth (negation_at depth inner) (negation_sound depth inner sound) negation_begun (omega arith) (omega arith)

  disjunction_begun : Begins 0 (disjunction_at depth inner)
  unfolding disjunction_at
  disjunction_begun = chain_begun levels.Or 0 depth (conjunction_at depth inner) (conjunction_sound depth inner sound) conjunction_begun (omega arith) (omega arith)

expr_begun : (depth k : ℕ) → depth ≡ suc k → Begins 0 (expr_at depth)
unfolding expr_at
expr_begun zero k is = absurd (omega arith)
expr_begun (suc depth) k is = disjunction_begun depth (expr_at depth) (expr_sound depth) (expr_begun depth)

-- Where an expression lacks a token, what was read of it begins one of the grammar.
pub whole_begun : (tokens : Ahead) → IfBegun words IsRegular tokens (whole_at tokens)
unfolding whole_at
whole_begun tokens =
    if_begun_map words (Fits 0) words IsRegular [] [] (took_none tokens) (λ w. w) (λ w fits. fits.1) (λ w. at_end (words w) [] (words w) refl)
    (expr_at 65 tokens) (expr_begun 65 64 (omega arith) tokens)
