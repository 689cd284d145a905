-- Operators that are written are read.
use Rattle.std.proofs.Common.{◌≡◌, ℕ, zero, suc, ◌+◌, ◌<◌, ◌≤◌, max, Bool, true, false, sym, ap, ◌∙◌, arith, [], ◌∷◌, ◌++◌, take, drop, refl, Some, Ok, Err, append_assoc}
use Rattle.std.specs.Prelude.{nat_lt, if◌then◌else◌}
use Rattle.std.specs.List.{prefix_len}
use Rattle.std.proofs.lemmas.Bool.Decides.{nat_tests}
use Rattle.ssq_ast.specs.declared.expr.BinaryOp.{BinaryOp}
use Rattle.ssq_ast.specs.declared.expr.Expr.TheVariants as e
use Rattle.ssq_ast.specs.declared.expr.UnaryOp.{UnaryOp}
use Rattle.ssq_ast.specs.Expression.{Words, Written, infixed, words, binary_word, unary_word, height, only, tree, first}
use Rattle.ssq_ast.specs.Expression as spec
use Rattle.ssq_parse.specs.declared.operators.Level.{Level}
use Rattle.ssq_parse.specs.declared.tree.Tree.{Tree}
use Rattle.ssq_parse.specs.declared.fault.ParseCause.TheVariants.{TooDeep}
use Rattle.ssq_parse.specs.Expressions.{Reader, further, further_by, chain, prefixed}
use Rattle.ssq_parse.specs.Operators.{operator_of, prefixes, is_prefix}
use Rattle.ssq_parse.specs.Reading.{Ahead, Made, Read, ◌>>=◌, before, refused, with_place}
use Rattle.ssq_parse.specs.Trees.{unary, binary, risen, wrapped, tree_of, ◌and_then◌}
use Rattle.ssq_parse.proofs.Found.{number_of}
use Rattle.ssq_parse.proofs.Prefixes.{unary_is}
use Rattle.ssq_parse.proofs.Sound.{binary_is}
use Rattle.ssq_parse.proofs.Laid.{Where, next, skip, laid, skip_more, skip_starts, reach-operator, Stops, stops_above, no_operator}

-- the tree of what is written at these places
abbrev pub made : Written → Where → Tree
made w p = tree_of (tree w p.starts) (first p.starts) (height w)

-- the reader reads it where no operator stands after it that binds as tightly as this
abbrev pub Reads : ℕ → Reader → Written → Type 0
Reads n reader w = (more : Words) → Stops n more → (p : Where) → reader (laid (words w ++ more) p) ≡ Ok (made w p, laid more (skip (words w) p))

pub then_is : {A B : Type 0} (read : Read A) (found : A × Ahead) (f : A × Ahead → Read B) → read ≡ Ok found → (read >>= f) ≡ f found
then_is read found f is = ap (λ r. r >>= f) is

pub height_some : (w : Written) → 1 ≤ height w
height_some (spec.of_number n) = omega arith
height_some (spec.of_text text) = omega arith
height_some (spec.of_truth truth) = omega arith
height_some (spec.of_moment moment) = omega arith
height_some (spec.of_span span) = omega arith
height_some (spec.of_column column) = omega arith
height_some spec.of_rows = omega arith
height_some (spec.of_function f argument) = omega arith
height_some (spec.bracketed inner) = height_some inner
height_some (spec.prefixed o operand) = omega arith
height_some (spec.null_tested operand test) = omega arith
height_some (infixed o left right) = omega arith
height_some (spec.between operand low high) = omega arith

pub risen_is : (at h : ℕ) → h < 64 → risen at h ≡ Ok (h + 1)
risen_is at h below =
    let is : nat_lt h 64 ≡ true = grind (arith, nat_tests) in
    ap (λ b. if b then Ok (h + 1) else refused (Some at) TooDeep) is

-- ---- operators between operands

-- after the words of the left operand, the operator and the right one
pub behind_both : (o : BinaryOp) (left right : Written) (p : Where) → skip (words (infixed o left right)) p ≡ skip (words right) (next (skip (words left) p))
behind_both o left right p = skip_more (words left) (binary_word o ∷ words right) p

pub binary_made : (o : BinaryOp) (left right : Written) (p : Where) → height (infixed o left right) ≤ 64
    → binary o (first (skip (words left) p).starts) (made left p) (made right (next (skip (words left) p))) ≡ Ok (made (infixed o left right) p)
unfolding binary
binary_made o left right p low =
    let q : Where = skip (words left) p in
    ap (λ r. r and_then (λ h. Ok (tree_of (e.Binary (first p.starts) (tree left p.starts) o (first q.starts) (first (next q).starts) (tree right (next q).starts)) (first p.starts) h)))
    (risen_is (first q.starts) (max (height left) (height right)) (omega arith))
    ∙ ap (λ value. Ok (tree_of value (first p.starts) (max (height left) (height right) + 1)))
    (binary_is (first p.starts) (tree left p.starts) o (first q.starts) (first (next q).starts) (tree right (next q).starts)
    ∙ ap (λ from_op. e.Binary' (first p.starts) tt (only (tree left p.starts)) o (first from_op) (first (drop 1 from_op)) tt (only (tree right (drop 1 from_op)))) (sym (skip_starts (words left) p)))

-- the left operand and its operator, laid out in front of the right one
pub front_of : (o : BinaryOp) (left right : Written) (more : Words) → words (infixed o left right) ++ more ≡ words left ++ (binary_word o ∷ (words right ++ more))
front_of o left right more = append_assoc (words left) (binary_word o ∷ words right) more

module _ (l : Level) (operand : Reader) where
  -- so far is read, and so many turns are left: with the height, they are enough
  pub record Turns (w : Written) (more : Words) (p : Where) : Type 0 where
    pub turns : ℕ
    pub enough : 65 ≤ turns + height w
    pub read : chain l operand (laid (words w ++ more) p) ≡ further l operand turns (made w p) (laid more (skip (words w) p))

  abbrev pub Chained : Written → Type 0
  Chained w = (more : Words) → Stops (number_of l + 1) more → (p : Where) → Turns w more p

  further_stops : (turns : ℕ) (found : Tree) (more : Words) → Stops (number_of l) more → (p : Where) → further l operand turns found (laid more p) ≡ Ok (found, laid more p)
  unfolding further
  further_stops zero found more stops p = refl
  further_stops (suc turns) found more stops p = ap (λ o. further_by o operand (further l operand turns) found (laid more p)) (no_operator l more stops p)

  pub chain_reads : (w : Written) → Chained w → Reads (number_of l) (chain l operand) w
  chain_reads w chained more stops p =
      let c = chained more (stops_above (omega arith) more stops) p in
      c.read ∙ further_stops c.turns (made w p) more stops (skip (words w) p)

  pub one_chained : (w : Written) → Reads (number_of l + 1) operand w → Chained w
  one_chained w reads more stops p =
      let some = height_some w in
      record {
        turns = 64;
        enough = omega arith;
        read = then_is (operand (laid (words w ++ more) p)) _ (λ first. further l operand 64 first.0 first.1) (reads more stops p);
      }

  one_turn : (o : BinaryOp) (left right : Written) (more : Words) (p : Where) → operator_of l (binary_word o) ≡ Some o → height (infixed o left right) ≤ 64
      → Reads (number_of l + 1) operand right → Stops (number_of l + 1) more → (turns : ℕ)
      → further l operand (suc turns) (made left p) (laid (binary_word o ∷ (words right ++ more)) (skip (words left) p))
      ≡ further l operand turns (made (infixed o left right) p) (laid more (skip (words (infixed o left right)) p))
  unfolding further
  one_turn o left right more p is low reads stops turns =
      let q : Where = skip (words left) p in
      ap (λ found. further_by (with_place (first q.starts) found) operand (further l operand turns) (made left p) (laid (binary_word o ∷ (words right ++ more)) q)) is
      ∙ ap (λ read. read >>= (λ found. before (binary o (first q.starts) (made left p) found.0) found.1 >>= (λ longer. further l operand turns longer.0 longer.1))) (reads more stops (next q))
      ∙ ap (λ longer. before longer (laid more (skip (words right) (next q))) >>= (λ longer. further l operand turns longer.0 longer.1)) (binary_made o left right p low)
      ∙ ap (λ at. further l operand turns (made (infixed o left right) p) (laid more at)) (sym (behind_both o left right p))

  more_turns : (o : BinaryOp) (left right : Written) (more : Words) (p : Where) → operator_of l (binary_word o) ≡ Some o → height (infixed o left right) ≤ 64
      → Reads (number_of l + 1) operand right → Stops (number_of l + 1) more → (turns : ℕ) → 65 ≤ turns + height left
      → chain l operand (laid (words left ++ (binary_word o ∷ (words right ++ more))) p) ≡ further l operand turns (made left p) (laid (binary_word o ∷ (words right ++ more)) (skip (words left) p))
      → Turns (infixed o left right) more p
  more_turns o left right more p is low reads stops zero enough read = absurd (omega arith)
  more_turns o left right more p is low reads stops (suc turns) enough read = record {
    turns = turns;
    enough = omega arith;
    read = ap (λ ws. chain l operand (laid ws p)) (front_of o left right more) ∙ read ∙ one_turn o left right more p is low reads stops turns;
  }

  pub more_chained : (o : BinaryOp) (left right : Written) → operator_of l (binary_word o) ≡ Some o → spec.binary_level o ≡ number_of l → height (infixed o left right) ≤ 64
      → Chained left → Reads (number_of l + 1) operand right → Chained (infixed o left right)
  more_chained o left right is at low chained reads more stops p =
      let reaches = reach-operator o in
      let c = chained (binary_word o ∷ (words right ++ more)) (omega arith) p in
      more_turns o left right more p is low reads stops c.turns c.enough c.read

-- ---- operators before an operand

-- no such operator is the first of these words
abbrev pub Begins : UnaryOp → Words → Type 0
Begins o [] = Unit {0}
Begins o (w ∷ ws) = is_prefix o w ≡ false

no_prefix : (o : UnaryOp) (ws : Words) (p : Where) → Begins o ws → prefix_len (prefixes o) (laid ws p) ≡ 0
no_prefix o [] p begins = refl
no_prefix o (w ∷ ws) p begins = ap (λ b. if b then 1 + prefix_len (prefixes o) (laid ws (next p)) else 0) begins

module _ (o : UnaryOp) (operand : Reader) where
  -- with so many operators
  abbrev Prefixed : ℕ → Ahead → Read Tree
  Prefixed k tokens = operand (drop k tokens) >>= (λ found. before (wrapped o (take k tokens) found.0) found.1)

  pub none_prefixed : (n : ℕ) (w : Written) → ((more : Words) → Begins o (words w ++ more)) → Reads n operand w → Reads n (prefixed o operand) w
  unfolding wrapped
  none_prefixed n w begins reads more stops p =
      ap (λ k. Prefixed k (laid (words w ++ more) p)) (no_prefix o (words w ++ more) p (begins more))
      ∙ then_is (operand (laid (words w ++ more) p)) _ (λ found. before (Ok found.0) found.1) (reads more stops p)

  again_made : (made : Made Tree) (g : Tree → Made Tree) (rest : Ahead) → before (made and_then g) rest ≡ (before made rest >>= (λ found. before (g found.0) found.1))
  again_made (Ok x) g rest = refl
  again_made (Err refusal) g rest = refl

  again : (read : Read Tree) (f g : Tree → Made Tree)
      → (read >>= (λ found. before (f found.0 and_then g) found.1)) ≡ (read >>= (λ found. before (f found.0) found.1) >>= (λ found. before (g found.0) found.1))
  again (Ok found) f g = again_made (f found.0) g found.1
  again (Err refusal) f g = refl

  one_prefixed : (k : ℕ) (at end : ℕ) (tokens : Ahead) → Prefixed (suc k) (record { start = at; end = end; said = unary_word o } ∷ tokens) ≡ (Prefixed k tokens >>= (λ found. before (unary o at found.0) found.1))
  unfolding wrapped
  one_prefixed k at end tokens = again (operand (drop k tokens)) (wrapped o (take k tokens)) (unary o at)

  unary_made : (w : Written) (p : Where) → height (spec.prefixed o w) ≤ 64 → unary o (first p.starts) (made w (next p)) ≡ Ok (made (spec.prefixed o w) p)
  unfolding unary
  unary_made w p low =
      ap (λ r. r and_then (λ h. Ok (tree_of (e.Unary o (first p.starts) (tree w (next p).starts)) (first p.starts) h))) (risen_is (first p.starts) (height w) (omega arith))
      ∙ ap (λ value. Ok (tree_of value (first p.starts) (height w + 1))) (unary_is o (first p.starts) (tree w (next p).starts))

  counted : (k : ℕ) (b : Bool) → b ≡ true → (if b then 1 + k else 0) ≡ suc k
  counted k b is = ap (λ b. if b then 1 + k else 0) is ∙ omega arith

  pub more_prefixed : (n : ℕ) (w : Written) → is_prefix o (unary_word o) ≡ true → height (spec.prefixed o w) ≤ 64 → Reads n (prefixed o operand) w → Reads n (prefixed o operand) (spec.prefixed o w)
  more_prefixed n w is low reads more stops p =
      let tokens : Ahead = laid (words w ++ more) (next p) in
      ap (λ k. Prefixed k (laid (unary_word o ∷ (words w ++ more)) p)) (counted (prefix_len (prefixes o) tokens) (is_prefix o (unary_word o)) is)
      ∙ one_prefixed (prefix_len (prefixes o) tokens) (first p.starts) (first p.ends) tokens
      ∙ then_is (prefixed o operand tokens) _ (λ found. before (unary o (first p.starts) found.0) found.1) (reads more stops (next p))
      ∙ ap (λ longer. before longer (laid more (skip (words w) (next p)))) (unary_made w p low)
