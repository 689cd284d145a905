-- Expressions are read as they are written.
use Rattle.std.proofs.Common.{◌≡◌, ℕ, zero, suc, ◌+◌, ◌<◌, ◌≤◌, max, Bool, true, false, sym, ap, ◌∙◌, arith, [], ◌∷◌, drop, length, refl, Option, Some, None, Ok, Err}
use Rattle.std.specs.Prelude.{if◌then◌else◌}
use Rattle.ssq_ast.specs.declared.expr.BinaryOp.{BinaryOp}
use Rattle.ssq_ast.specs.declared.expr.Expr.{Expr}
use Rattle.ssq_ast.specs.declared.expr.Expr.TheVariants as e
use Rattle.ssq_ast.specs.declared.expr.NullTest.{NullTest}
use Rattle.ssq_ast.specs.declared.expr.NullTest.TheVariants as test
use Rattle.ssq_ast.specs.declared.expr.UnaryOp.TheVariants as prefix
use Rattle.ssq_ast.specs.Expression.{words, test_words, height, only, tree, null_tested}
use Rattle.ssq_ast.specs.Expression as spec
use Rattle.ssq_lex.specs.declared.keyword.Keyword.TheVariants as key
use Rattle.ssq_lex.specs.Lexeme.{keyword, Lexed}
use Rattle.ssq_parse.specs.declared.operators.Level.TheVariants as levels
use Rattle.ssq_parse.specs.declared.tree.Tree.{Tree}
use Rattle.ssq_parse.specs.Expressions.{Reader, test_by, primary_at, signed_at, product_at, sum_at, null_test_at, between_at, ranged, tested, compared, comparison_at, negation_at, conjunction_at, disjunction_at, expr_at}
use Rattle.ssq_parse.specs.Operators.{operator_of}
use Rattle.ssq_parse.specs.Reading.{Ahead, Read, ◌>>=◌, before, behind, is_keyword, keyword_at, first_operator, with_place}
use Rattle.ssq_parse.specs.Trees.{null_test, between, binary, tree_of}
use Rattle.ssq_parse.proofs.Found.{IfFound, is_found}
use Rattle.ssq_parse.proofs.Operands.{keyword_sound}
use Rattle.ssq_parse.proofs.Prefixes.{prefixed_sound}
use Rattle.ssq_parse.proofs.Primary.{primary_sound}
use Rattle.ssq_parse.proofs.Sound.{looser, risen_holds, binary_sound, chain_sound}
use Rattle.ssq_parse.specs.Expressions.{whole_at}
use Rattle.ssq_parse.specs.Written.{EachIsWritten}
use Rattle.ssq_parse.specs.Written.{starts, Took, IfRead, Spelled, Sound}
use Rattle.ssq_parse.proofs.Words.{took_one, took_more, then_holds, is_keyword-found}

looser_read : (asked tight depth : ℕ) (tokens : Ahead) → asked ≤ tight → (read : Read Tree)
    → IfRead read (λ found. Spelled tight depth tokens found.0 found.1) → IfRead read (λ found. Spelled asked depth tokens found.0 found.1)
looser_read asked tight depth tokens below (Ok found) spelled = looser below spelled
looser_read asked tight depth tokens below (Err refusal) none = tt

pub looser_reader : (asked tight depth : ℕ) (reader : Reader) → asked ≤ tight → Sound tight depth reader → Sound asked depth reader
looser_reader asked tight depth reader below sound tokens = looser_read asked tight depth tokens below (reader tokens) (sound tokens)

pub is_null_is : (a : Expr) (at : ℕ) (t : NullTest) → e.IsNull a at t ≡ e.IsNull' tt (only a) at t
unfolding Rattle.ssq_ast.specs.declared.expr.Expr.TheBlock.shape-the_row-Expr-0 Rattle.ssq_ast.specs.declared.expr.Expr.TheBlock.hidden-the_row-Expr-0 denote.Hole.Carrier.hidden
is_null_is a at t = refl

pub between_is : (a : Expr) (at : ℕ) (b c : Expr) → e.Between a at b c ≡ e.Between' tt (only a) at tt (only b) tt (only c)
unfolding Rattle.ssq_ast.specs.declared.expr.Expr.TheBlock.shape-the_row-Expr-0 Rattle.ssq_ast.specs.declared.expr.Expr.TheBlock.hidden-the_row-Expr-0 denote.Hole.Carrier.hidden
between_is a at b c = refl

-- ---- IS

nulled : (what : NullTest) (depth : ℕ) (start ts rest : Ahead) (t : Lexed) (left : Tree) → Spelled 4 depth start left (t ∷ ts) → t.said ≡ keyword key.Is
    → Took ts rest (test_words what) → left.height < 64
    → Spelled 3 depth start (tree_of (e.IsNull left.value t.start what) left.at (left.height + 1)) rest
nulled what depth start ts rest t left sl word took low =
    let lh = sl.high in
    let ltall = sl.tall in
    record {
      written = null_tested sl.written what;
      took = took_more sl.took (took_more (took_one t ts (keyword key.Is) word) took);
      regular = (sl.tight, sl.regular);
      tight = omega arith;
      high = λ i. sl.high i + 1;
      tall = omega arith;
      opened = sl.opened;
      meant =
          ap (λ from_is. e.IsNull' tt (only (tree sl.written (starts start))) (spec.first from_is) what) sl.took.left
          ∙ (λ i. e.IsNull' tt (only (sl.meant i)) t.start what) ∙ sym (is_null_is left.value t.start what);
      at = sl.at;
    }

null_on : (what : NullTest) (depth : ℕ) (start ts us : Ahead) (t : Lexed) (left : Tree) → Spelled 4 depth start left (t ∷ ts) → t.said ≡ keyword key.Is
    → ((rest : Ahead) → Took us rest (keyword key.Null ∷ []) → Took ts rest (test_words what))
    → IfRead (before (null_test what t.start left) us >>= (λ tested. keyword_at key.Null tested.1 >>= (λ null. Ok (tested.0, null.1)))) (λ found. Spelled 3 depth start found.0 found.1)
unfolding null_test
null_on what depth start ts us t left sl word front =
    then_holds (λ tested. (rest : Ahead) → Took tested.1 rest (keyword key.Null ∷ []) → Spelled 3 depth start tested.0 rest) (λ found. Spelled 3 depth start found.0 found.1)
    (before (null_test what t.start left) us) (λ tested. keyword_at key.Null tested.1 >>= (λ null. Ok (tested.0, null.1)))
    (risen_holds (λ tested. (rest : Ahead) → Took tested.1 rest (keyword key.Null ∷ []) → Spelled 3 depth start tested.0 rest) t.start left.height
    (λ height. tree_of (e.IsNull left.value t.start what) left.at height) us
    (λ low rest took. nulled what depth start ts rest t left sl word (front rest took) low))
    (λ tested holds. then_holds (λ null. Took tested.1 null.1 (keyword key.Null ∷ [])) (λ found. Spelled 3 depth start found.0 found.1)
    (keyword_at key.Null tested.1) (λ null. Ok (tested.0, null.1)) (keyword_sound key.Null tested.1)
    (λ null took. holds null.1 took))

null_by_not : (depth : ℕ) (start : Ahead) (n : Lexed) (us : Ahead) (t : Lexed) (left : Tree) → Spelled 4 depth start left (t ∷ n ∷ us) → t.said ≡ keyword key.Is
    → (b : Bool) → (b ≡ true → n.said ≡ keyword key.Not)
    → IfRead (before (null_test (test_by (if b then Some n.start else None)) t.start left) (behind (if b then Some n.start else None) (n ∷ us)) >>= (λ tested. keyword_at key.Null tested.1 >>= (λ null. Ok (tested.0, null.1)))) (λ found. Spelled 3 depth start found.0 found.1)
null_by_not depth start n us t left sl word true is =
    null_on test.NotNull depth start (n ∷ us) us t left sl word (λ rest took. took_more (took_one n us (keyword key.Not) (is refl)) took)
null_by_not depth start n us t left sl word false is =
    null_on test.Null depth start (n ∷ us) (n ∷ us) t left sl word (λ rest took. took)

pub null_sound : (depth : ℕ) (inner : Reader) (start ts : Ahead) (t : Lexed) (left : Tree) → Spelled 4 depth start left (t ∷ ts) → t.said ≡ keyword key.Is
    → IfRead (null_test_at depth inner t.start left ts) (λ found. Spelled 3 depth start found.0 found.1)
unfolding null_test_at
null_sound depth inner start [] t left sl word = null_on test.Null depth start [] [] t left sl word (λ rest took. took)
null_sound depth inner start (n ∷ us) t left sl word = null_by_not depth start n us t left sl word (is_keyword key.Not n.said) (is_keyword-found key.Not n.said)

-- ---- BETWEEN

ranged_so : (depth : ℕ) (start ts : Ahead) (t : Lexed) (left : Tree) → Spelled 4 depth start left (t ∷ ts) → t.said ≡ keyword key.Between
    → (low : Tree × Ahead) → Spelled 4 depth ts low.0 low.1 → (us : Ahead) → Took low.1 us (keyword key.And ∷ [])
    → (high : Tree × Ahead) → Spelled 4 depth us high.0 high.1 → max (max left.height low.0.height) high.0.height < 64
    → Spelled 3 depth start (tree_of (e.Between left.value t.start low.0.value high.0.value) left.at (max (max left.height low.0.height) high.0.height + 1)) high.1
ranged_so depth start ts t left sl word low sm us and high sh below =
    record {
      written = spec.between sl.written sm.written sh.written;
      took = took_more (took_more sl.took (took_more (took_one t ts (keyword key.Between) word) sm.took)) (took_more and sh.took);
      regular = (sl.tight, sl.regular, sm.tight, sm.regular, sh.tight, sh.regular);
      tight = omega arith;
      high = omega (arith, sl.high, sm.high, sh.high);
      tall = omega (arith, sl.high, sm.high, sh.high, sl.tall, sm.tall, sh.tall, below);
      opened = omega (arith, sl.opened, sm.opened, sh.opened);
      meant =
          ap (λ from_between. e.Between' tt (only (tree sl.written (starts start))) (spec.first from_between) tt (only (tree sm.written (drop 1 from_between))) tt (only (tree sh.written (drop 1 (drop (length (words sm.written)) (drop 1 from_between)))))) sl.took.left
          ∙ ap (λ from_and. e.Between' tt (only (tree sl.written (starts start))) t.start tt (only (tree sm.written (starts ts))) tt (only (tree sh.written (drop 1 from_and)))) sm.took.left
          ∙ ap (λ from_high. e.Between' tt (only (tree sl.written (starts start))) t.start tt (only (tree sm.written (starts ts))) tt (only (tree sh.written from_high))) and.left
          ∙ (λ i. e.Between' tt (only (sl.meant i)) t.start tt (only (sm.meant i)) tt (only (sh.meant i)))
          ∙ sym (between_is left.value t.start low.0.value high.0.value);
      at = sl.at;
    }

module _ (depth : ℕ) (inner : Reader) (sound : (k : ℕ) → depth ≡ suc k → Sound 0 k inner) where
  pub signed_sound : Sound 6 depth (signed_at depth inner)
  unfolding signed_at
  signed_sound = prefixed_sound prefix.Minus depth (primary_at depth inner) (looser_reader 6 7 depth (primary_at depth inner) (omega arith) (primary_sound depth inner sound))

  pub product_sound : Sound 5 depth (product_at depth inner)
  unfolding product_at
  product_sound = chain_sound levels.Product 5 depth (signed_at depth inner) signed_sound (omega arith) (omega arith)

  pub sum_sound : Sound 4 depth (sum_at depth inner)
  unfolding sum_at
  sum_sound = chain_sound levels.Sum 4 depth (product_at depth inner) product_sound (omega arith) (omega arith)

  between_sound : (start ts : Ahead) (t : Lexed) (left : Tree) → Spelled 4 depth start left (t ∷ ts) → t.said ≡ keyword key.Between
      → IfRead (between_at depth inner t.start left ts) (λ found. Spelled 3 depth start found.0 found.1)
  unfolding between_at between
  between_sound start ts t left sl word =
      then_holds (λ low. Spelled 4 depth ts low.0 low.1) (λ found. Spelled 3 depth start found.0 found.1)
      (sum_at depth inner ts) (λ low. keyword_at key.And low.1 >>= (λ and. sum_at depth inner and.1 >>= (λ high. before (between t.start left low.0 high.0) high.1))) (sum_sound ts)
      (λ low sm. then_holds (λ and. Took low.1 and.1 (keyword key.And ∷ [])) (λ found. Spelled 3 depth start found.0 found.1)
      (keyword_at key.And low.1) (λ and. sum_at depth inner and.1 >>= (λ high. before (between t.start left low.0 high.0) high.1)) (keyword_sound key.And low.1)
      (λ and took. then_holds (λ high. Spelled 4 depth and.1 high.0 high.1) (λ found. Spelled 3 depth start found.0 found.1)
      (sum_at depth inner and.1) (λ high. before (between t.start left low.0 high.0) high.1) (sum_sound and.1)
      (λ high sh. risen_holds (λ found. Spelled 3 depth start found.0 found.1) t.start (max (max left.height low.0.height) high.0.height)
      (λ height. tree_of (e.Between left.value t.start low.0.value high.0.value) left.at height) high.1
      (λ below. ranged_so depth start ts t left sl word low sm and.1 took high sh below))))

  by_between : (start ts : Ahead) (t : Lexed) (left : Tree) → Spelled 4 depth start left (t ∷ ts) → (b : Bool) → (b ≡ true → t.said ≡ keyword key.Between)
      → IfRead (ranged depth inner (if b then Some t.start else None) left (t ∷ ts)) (λ found. Spelled 3 depth start found.0 found.1)
  by_between start ts t left sl true is = between_sound start ts t left sl (is refl)
  by_between start ts t left sl false is = looser (omega arith) sl

  by_is : (start ts : Ahead) (t : Lexed) (left : Tree) → Spelled 4 depth start left (t ∷ ts) → (b : Bool) → (b ≡ true → t.said ≡ keyword key.Is)
      → IfRead (tested depth inner (if b then Some t.start else None) left (t ∷ ts)) (λ found. Spelled 3 depth start found.0 found.1)
  by_is start ts t left sl true is = null_sound depth inner start ts t left sl (is refl)
  by_is start ts t left sl false is = by_between start ts t left sl (is_keyword key.Between t.said) (is_keyword-found key.Between t.said)

  by_operator : (start ts : Ahead) (t : Lexed) (left : Tree) → Spelled 4 depth start left (t ∷ ts) → (o : Option BinaryOp) → IfFound levels.Comparison t.said o
      → IfRead (compared depth inner (with_place t.start o) left (t ∷ ts)) (λ found. Spelled 3 depth start found.0 found.1)
  by_operator start ts t left sl None is = by_is start ts t left sl (is_keyword key.Is t.said) (is_keyword-found key.Is t.said)
  by_operator start ts t left sl (Some o) is =
      then_holds (λ right. Spelled 4 depth ts right.0 right.1) (λ found. Spelled 3 depth start found.0 found.1)
      (sum_at depth inner ts) (λ right. before (binary o t.start left right.0) right.1) (sum_sound ts)
      (λ right sr. binary_sound levels.Comparison o 3 4 4 depth start ts right.1 t left right.0 sl sr is (omega arith) (omega arith) (omega arith))

  compared_sound : (start : Ahead) (left : Tree) (us : Ahead) → Spelled 4 depth start left us
      → IfRead (compared depth inner (first_operator levels.Comparison us) left us) (λ found. Spelled 3 depth start found.0 found.1)
  compared_sound start left [] sl = looser (omega arith) sl
  compared_sound start left (t ∷ ts) sl = by_operator start ts t left sl (operator_of levels.Comparison t.said) (is_found levels.Comparison t.said)

  pub comparison_sound : Sound 3 depth (comparison_at depth inner)
  unfolding comparison_at
  comparison_sound tokens =
      then_holds (λ left. Spelled 4 depth tokens left.0 left.1) (λ found. Spelled 3 depth tokens found.0 found.1)
      (sum_at depth inner tokens) (λ left. compared depth inner (first_operator levels.Comparison left.1) left.0 left.1) (sum_sound tokens)
      (λ left sl. compared_sound tokens left.0 left.1 sl)

  pub negation_sound : Sound 2 depth (negation_at depth inner)
  unfolding negation_at
  negation_sound = prefixed_sound prefix.Not depth (comparison_at depth inner) (looser_reader 2 3 depth (comparison_at depth inner) (omega arith) comparison_sound)

  pub conjunction_sound : Sound 1 depth (conjunction_at depth inner)
  unfolding conjunction_at
  conjunction_sound = chain_sound levels.And 1 depth (negation_at depth inner) negation_sound (omega arith) (omega arith)

  pub disjunction_sound : Sound 0 depth (disjunction_at depth inner)
  unfolding disjunction_at
  disjunction_sound = chain_sound levels.Or 0 depth (conjunction_at depth inner) conjunction_sound (omega arith) (omega arith)

pub expr_sound : (depth k : ℕ) → depth ≡ suc k → Sound 0 k (expr_at depth)
unfolding expr_at
expr_sound zero k is = absurd (omega arith)
expr_sound (suc depth) k is =
    let same : k ≡ depth = omega arith in
    rw same (disjunction_sound depth (expr_at depth) (expr_sound depth))

pub whole_sound : EachIsWritten
unfolding whole_at
whole_sound tokens = expr_sound 65 64 (omega arith) tokens
