-- An expression that is refused as too deep is so: a bracket is one too many, or an operator makes a tree too high.
use Rattle.std.proofs.Common.{◌≡◌, ℕ, zero, suc, ◌+◌, ◌≤◌, Bool, true, false, sym, arith, [], ◌∷◌, ◌++◌, take, drop, refl, Option, Some, None, Ok, Err}
use Rattle.std.specs.Prelude.{if◌then◌else◌}
use Rattle.std.specs.List.{prefix_len}
use Rattle.ssq_ast.specs.declared.expr.BinaryOp.{BinaryOp}
use Rattle.ssq_ast.specs.declared.expr.UnaryOp.{UnaryOp}
use Rattle.ssq_ast.specs.declared.expr.UnaryOp.TheVariants as prefix
use Rattle.ssq_ast.specs.Expression.{words, unary_word, binary_word, unary_level}
use Rattle.ssq_lex.specs.declared.keyword.Keyword.TheVariants as key
use Rattle.ssq_lex.specs.Lexeme.{Lexeme, keyword, Lexed}
use Rattle.ssq_parse.specs.Deep.{open_behind}
use Rattle.ssq_parse.specs.declared.operators.Level.{Level}
use Rattle.ssq_parse.specs.declared.operators.Level.TheVariants as levels
use Rattle.ssq_parse.specs.declared.tree.Tree.{Tree}
use Rattle.ssq_parse.specs.Expressions.{Reader, further, further_by, chain, prefixed, test_by, primary_at, signed_at, product_at, sum_at, null_test_at, between_at, ranged, tested, compared, comparison_at, negation_at, conjunction_at, disjunction_at, expr_at, whole_at}
use Rattle.ssq_parse.specs.Operators.{operator_of, prefixes, is_prefix}
use Rattle.ssq_parse.specs.Reading.{Ahead, Made, Read, ◌>>=◌, before, behind, seen, is_keyword, keyword_at, first_operator, with_place}
use Rattle.ssq_parse.specs.Trees.{unary, binary, null_test, between, wrapped, ◌and_then◌}
use Rattle.ssq_parse.specs.Written.{Took, IfRead, Spelled, Sound}
use Rattle.ssq_parse.proofs.DeepLemmas.{unary_opens_none, binary_opens_none, behind_operand, Tells, tells_then, tells_behind, quiet_tells, quiet_then, tells_quiet}
use Rattle.ssq_parse.proofs.DeepParts.{keyword_quiet, primary_tells}
use Rattle.ssq_parse.proofs.DeepRises.{unary_tells, binary_tells, test_tells, between_tells}
use Rattle.ssq_parse.proofs.Found.{number_of, left_of, IfTrue, is_prefix_word, IfFound, is_found}
use Rattle.ssq_parse.proofs.Operands.{keyword_sound}
use Rattle.ssq_parse.proofs.Prefixes.{Goal, all_sound}
use Rattle.ssq_parse.proofs.Primary.{primary_sound}
use Rattle.ssq_parse.proofs.Sound.{looser, binary_sound}
use Rattle.ssq_parse.proofs.Whole.{looser_reader, signed_sound, product_sound, sum_sound, comparison_sound, negation_sound, conjunction_sound, expr_sound}
use Rattle.ssq_parse.proofs.Words.{took_one, took_more, is_keyword-found}

-- ---- operators before an operand

again_made : (many : ℕ) (tokens : Ahead) (P : Tree × Ahead → Type 0) (made : Made Tree) (g : Tree → Made Tree) (rest : Ahead)
    → IfRead (before made rest) P → Tells many tokens (before made rest) → ((x : Tree × Ahead) → P x → Tells many tokens (before (g x.0) x.1))
    → Tells many tokens (before (made and_then g) rest)
again_made many tokens P (Ok x) g rest holds told more = more (x, rest) holds
again_made many tokens P (Err refusal) g rest holds told more = told

again : (many : ℕ) (tokens : Ahead) (P : Tree × Ahead → Type 0) (read : Read Tree) (f g : Tree → Made Tree)
    → IfRead (read >>= (λ found. before (f found.0) found.1)) P → Tells many tokens (read >>= (λ found. before (f found.0) found.1))
    → ((x : Tree × Ahead) → P x → Tells many tokens (before (g x.0) x.1)) → Tells many tokens (read >>= (λ found. before (f found.0 and_then g) found.1))
again many tokens P (Ok found) f g holds told more = again_made many tokens P (f found.0) g found.1 holds told more
again many tokens P (Err refusal) f g holds told more = told

module _ (many : ℕ) (o : UnaryOp) (depth : ℕ) (operand : Reader) (sound : Sound (unary_level o) depth operand)
    (told : (tokens : Ahead) → Tells many tokens (operand tokens)) where
  -- with so many operators
  abbrev Fronted : ℕ → Ahead → Type 0
  Fronted k tokens = Tells many tokens (operand (drop k tokens) >>= (λ found. before (wrapped o (take k tokens) found.0) found.1))

  none_tells : (tokens : Ahead) → Fronted 0 tokens
  unfolding wrapped
  none_tells tokens = tells_quiet many tokens (operand tokens) (λ found. before (Ok found.0) found.1) (told tokens) (λ found. tt)

  one_more : (k : ℕ) (t : Lexed) (ts : Ahead) → t.said ≡ unary_word o → Goal o depth operand sound k ts → Fronted k ts → Fronted (suc k) (t ∷ ts)
  unfolding wrapped
  one_more k t ts word holds so_far =
      again many (t ∷ ts) (λ found. Spelled (unary_level o) depth ts found.0 found.1) (operand (drop k ts)) (wrapped o (take k ts)) (unary o t.start) holds
      (tells_behind many many (t ∷ ts) ts (unary_word o ∷ []) (took_one t ts (unary_word o) word) (unary_opens_none o many)
      (operand (drop k ts) >>= (λ found. before (wrapped o (take k ts) found.0) found.1)) so_far)
      (λ found spelled. unary_tells many o depth ts found.1 t found.0 spelled word)

  by_first : (b : Bool) (k : ℕ) (t : Lexed) (ts : Ahead) → IfTrue b (t.said ≡ unary_word o) → Goal o depth operand sound k ts → Fronted k ts
      → Fronted (if b then 1 + k else 0) (t ∷ ts)
  by_first true k t ts word holds so_far = let next : suc k ≡ 1 + k = omega arith in rw (sym next) (one_more k t ts word holds so_far)
  by_first false k t ts word holds so_far = none_tells (t ∷ ts)

  all_tells : (tokens : Ahead) → Fronted (prefix_len (prefixes o) tokens) tokens
  all_tells [] = none_tells []
  all_tells (t ∷ ts) = by_first (is_prefix o t.said) (prefix_len (prefixes o) ts) t ts (is_prefix_word o t.said) (all_sound o depth operand sound ts) (all_tells ts)

  prefixed_tells : (tokens : Ahead) → Tells many tokens (prefixed o operand tokens)
  prefixed_tells tokens = all_tells tokens

-- ---- operators between operands

-- after an operand, and a word that is no bracket
behind_word : {A : Type 0} (many : ℕ) {asked depth : ℕ} {start rest ts : Ahead} {left : Tree} {word : Lexeme} → Spelled asked depth start left rest → Took rest ts (word ∷ [])
    → open_behind word many ≡ many → (read : Read A) → Tells many ts read → Tells many start read
behind_word many {start = start} {ts = ts} {word = word} sl took none read told =
    tells_behind many many start ts (words sl.written ++ word ∷ []) (took_more sl.took took) (behind_operand sl.written word many none) read told

module _ (many : ℕ) (l : Level) (n depth : ℕ) (operand : Reader) (sound : Sound (number_of l + 1) depth operand)
    (told : (tokens : Ahead) → Tells many tokens (operand tokens)) (below : left_of l ≤ n) (above : n ≤ number_of l) where
  by_op : (turns : ℕ) → ((start : Ahead) (left : Tree) (tokens : Ahead) → Spelled n depth start left tokens → Tells many start (further l operand turns left tokens))
      → (start : Ahead) (left : Tree) (t : Lexed) (ts : Ahead) → Spelled n depth start left (t ∷ ts) → (o : Option BinaryOp) → IfFound l t.said o
      → Tells many start (further_by (with_place t.start o) operand (further l operand turns) left (t ∷ ts))
  by_op turns more start left t ts so_far None is = tt
  by_op turns more start left t ts so_far (Some o) is =
      tells_then many start (λ right. Spelled (number_of l + 1) depth ts right.0 right.1)
      (operand ts) (λ right. before (binary o t.start left right.0) right.1 >>= (λ longer. further l operand turns longer.0 longer.1)) (sound ts)
      (behind_word many so_far (took_one t ts (binary_word o) is.spelt) (binary_opens_none o many) (operand ts) (told ts))
      (λ right spelled.
      tells_then many start (λ found. Spelled n depth start found.0 found.1)
      (before (binary o t.start left right.0) right.1) (λ longer. further l operand turns longer.0 longer.1)
      (binary_sound l o n n (number_of l + 1) depth start ts right.1 t left right.0 so_far spelled is below (omega arith) above)
      (binary_tells many l o n (number_of l + 1) depth start ts right.1 t left right.0 so_far spelled is below (omega arith))
      (λ longer spelled'. more start longer.0 longer.1 spelled'))

  further_tells : (turns : ℕ) (start : Ahead) (left : Tree) (tokens : Ahead) → Spelled n depth start left tokens → Tells many start (further l operand turns left tokens)
  unfolding further
  further_tells zero start left tokens so_far = tt
  further_tells (suc turns) start left [] so_far = tt
  further_tells (suc turns) start left (t ∷ ts) so_far = by_op turns (further_tells turns) start left t ts so_far (operator_of l t.said) (is_found l t.said)

  chain_tells : (tokens : Ahead) → Tells many tokens (chain l operand tokens)
  chain_tells tokens =
      tells_then many tokens (λ first. Spelled (number_of l + 1) depth tokens first.0 first.1) (operand tokens) (λ first. further l operand 64 first.0 first.1) (sound tokens) (told tokens)
      (λ first spelled. further_tells 64 tokens first.0 first.1 (looser (omega arith) spelled))

-- ---- all levels

module _ (many depth : ℕ) (inner : Reader) (sound : (k : ℕ) → depth ≡ suc k → Sound 0 k inner) (room : many + depth ≡ 64)
    (told : (tokens : Ahead) → Tells (many + 1) tokens (inner tokens)) where
  signed_tells : (tokens : Ahead) → Tells many tokens (signed_at depth inner tokens)
  unfolding signed_at
  signed_tells = prefixed_tells many prefix.Minus depth (primary_at depth inner)
      (looser_reader 6 7 depth (primary_at depth inner) (omega arith) (primary_sound depth inner sound)) (primary_tells many depth inner room told)

  product_tells : (tokens : Ahead) → Tells many tokens (product_at depth inner tokens)
  unfolding product_at
  product_tells = chain_tells many levels.Product 5 depth (signed_at depth inner) (signed_sound depth inner sound) signed_tells (omega arith) (omega arith)

  sum_tells : (tokens : Ahead) → Tells many tokens (sum_at depth inner tokens)
  unfolding sum_at
  sum_tells = chain_tells many levels.Sum 4 depth (product_at depth inner) (product_sound depth inner sound) product_tells (omega arith) (omega arith)

  null_tells : (start ts : Ahead) (t : Lexed) (left : Tree) → Spelled 4 depth start left (t ∷ ts) → t.said ≡ keyword key.Is
      → Tells many start (null_test_at depth inner t.start left ts)
  unfolding null_test_at
  null_tells start ts t left sl word =
      tells_quiet many start (before (null_test (test_by (seen (is_keyword key.Not) ts)) t.start left) (behind (seen (is_keyword key.Not) ts) ts))
      (λ tested. keyword_at key.Null tested.1 >>= (λ null. Ok (tested.0, null.1)))
      (test_tells many (test_by (seen (is_keyword key.Not) ts)) depth start ts (behind (seen (is_keyword key.Not) ts) ts) t left sl word)
      (λ tested. quiet_then (keyword_at key.Null tested.1) (λ null. Ok (tested.0, null.1)) (keyword_quiet key.Null tested.1) (λ null. tt))

  ranged_tells : (start ts : Ahead) (t : Lexed) (left : Tree) → Spelled 4 depth start left (t ∷ ts) → t.said ≡ keyword key.Between
      → Tells many start (between_at depth inner t.start left ts)
  unfolding between_at
  ranged_tells start ts t left sl word =
      tells_then many start (λ low. Spelled 4 depth ts low.0 low.1)
      (sum_at depth inner ts) (λ low. keyword_at key.And low.1 >>= (λ and. sum_at depth inner and.1 >>= (λ high. before (between t.start left low.0 high.0) high.1)))
      (sum_sound depth inner sound ts)
      (behind_word many sl (took_one t ts (keyword key.Between) word) refl (sum_at depth inner ts) (sum_tells ts))
      (λ low sm. tells_then many start (λ and. Took low.1 and.1 (keyword key.And ∷ []))
      (keyword_at key.And low.1) (λ and. sum_at depth inner and.1 >>= (λ high. before (between t.start left low.0 high.0) high.1))
      (keyword_sound key.And low.1) (quiet_tells many start (keyword_at key.And low.1) (keyword_quiet key.And low.1))
      (λ and took. tells_then many start (λ high. Spelled 4 depth and.1 high.0 high.1)
      (sum_at depth inner and.1) (λ high. before (between t.start left low.0 high.0) high.1) (sum_sound depth inner sound and.1)
      (behind_word many sl (took_one t ts (keyword key.Between) word) refl (sum_at depth inner and.1)
      (behind_word many sm took refl (sum_at depth inner and.1) (sum_tells and.1)))
      (λ high sh. between_tells many depth start ts t left sl word low sm and.1 took high sh)))

  by_between : (start ts : Ahead) (t : Lexed) (left : Tree) → Spelled 4 depth start left (t ∷ ts) → (b : Bool) → (b ≡ true → t.said ≡ keyword key.Between)
      → Tells many start (ranged depth inner (if b then Some t.start else None) left (t ∷ ts))
  by_between start ts t left sl true is = ranged_tells start ts t left sl (is refl)
  by_between start ts t left sl false is = tt

  by_is : (start ts : Ahead) (t : Lexed) (left : Tree) → Spelled 4 depth start left (t ∷ ts) → (b : Bool) → (b ≡ true → t.said ≡ keyword key.Is)
      → Tells many start (tested depth inner (if b then Some t.start else None) left (t ∷ ts))
  by_is start ts t left sl true is = null_tells start ts t left sl (is refl)
  by_is start ts t left sl false is = by_between start ts t left sl (is_keyword key.Between t.said) (is_keyword-found key.Between t.said)

  by_operator : (start ts : Ahead) (t : Lexed) (left : Tree) → Spelled 4 depth start left (t ∷ ts) → (o : Option BinaryOp) → IfFound levels.Comparison t.said o
      → Tells many start (compared depth inner (with_place t.start o) left (t ∷ ts))
  by_operator start ts t left sl None is = by_is start ts t left sl (is_keyword key.Is t.said) (is_keyword-found key.Is t.said)
  by_operator start ts t left sl (Some o) is =
      tells_then many start (λ right. Spelled 4 depth ts right.0 right.1) (sum_at depth inner ts) (λ right. before (binary o t.start left right.0) right.1) (sum_sound depth inner sound ts)
      (behind_word many sl (took_one t ts (binary_word o) is.spelt) (binary_opens_none o many) (sum_at depth inner ts) (sum_tells ts))
      (λ right sr. binary_tells many levels.Comparison o 4 4 depth start ts right.1 t left right.0 sl sr is (omega arith) (omega arith))

  compared_tells : (start : Ahead) (left : Tree) (us : Ahead) → Spelled 4 depth start left us → Tells many start (compared depth inner (first_operator levels.Comparison us) left us)
  compared_tells start left [] sl = tt
  compared_tells start left (t ∷ ts) sl = by_operator start ts t left sl (operator_of levels.Comparison t.said) (is_found levels.Comparison t.said)

  comparison_tells : (tokens : Ahead) → Tells many tokens (comparison_at depth inner tokens)
  unfolding comparison_at
  comparison_tells tokens =
      tells_then many tokens (λ left. Spelled 4 depth tokens left.0 left.1) (sum_at depth inner tokens)
      (λ left. compared depth inner (first_operator levels.Comparison left.1) left.0 left.1) (sum_sound depth inner sound tokens) (sum_tells tokens)
      (λ left sl. compared_tells tokens left.0 left.1 sl)

  negation_tells : (tokens : Ahead) → Tells many tokens (negation_at depth inner tokens)
  unfolding negation_at
  negation_tells = prefixed_tells many prefix.Not depth (comparison_at depth inner)
      (looser_reader 2 3 depth (comparison_at depth inner) (omega arith) (comparison_sound depth inner sound)) comparison_tells

  conjunction_tells : (tokens : Ahead) → Tells many tokens (conjunction_at depth inner tokens)
  unfolding conjunction_at
  conjunction_tells = chain_tells many levels.And 1 depth (negation_at depth inner) (negation_sound depth inner sound) negation_tells (omega arith) (omega arith)

  disjunction_tells : (tokens : Ahead) → Tells many tokens (disjunction_at depth inner tokens)
  unfolding disjunction_at
  disjunction_tells = chain_tells many levels.Or 0 depth (conjunction_at depth inner) (conjunction_sound depth inner sound) conjunction_tells (omega arith) (omega arith)

expr_tells : (depth many : ℕ) → many + depth ≡ 65 → (tokens : Ahead) → Tells many tokens (expr_at depth tokens)
unfolding expr_at
expr_tells zero many room tokens = tt
expr_tells (suc depth) many room tokens = disjunction_tells many depth (expr_at depth) (expr_sound depth) (omega arith) (expr_tells depth (many + 1) (omega arith)) tokens

pub whole_tells : (tokens : Ahead) → Tells 0 tokens (whole_at tokens)
unfolding whole_at
whole_tells = expr_tells 65 0 (omega arith)
