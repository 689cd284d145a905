-- Operators before an operand are read as they are written.
use Rattle.std.proofs.Common.{◌≡◌, ℕ, suc, ◌+◌, ◌<◌, Bool, true, false, sym, ◌∙◌, arith, [], ◌∷◌, take, drop, refl, Ok, Err}
use Rattle.std.specs.Prelude.{if◌then◌else◌}
use Rattle.std.specs.List.{prefix_len}
use Rattle.ssq_ast.specs.declared.expr.Expr.{Expr}
use Rattle.ssq_ast.specs.declared.expr.Expr.TheVariants as e
use Rattle.ssq_ast.specs.declared.expr.UnaryOp.{UnaryOp}
use Rattle.ssq_ast.specs.Expression.{Words, Written, words, unary_word, unary_level, level, only, tree}
use Rattle.ssq_ast.specs.Expression as spec
use Rattle.ssq_lex.specs.Lexeme.{Lexed}
use Rattle.ssq_parse.specs.declared.tree.Tree.{Tree}
use Rattle.ssq_parse.specs.Expressions.{Reader, prefixed}
use Rattle.ssq_parse.specs.Operators.{prefixes, is_prefix}
use Rattle.ssq_parse.specs.Reading.{Ahead, Made, Read, ◌>>=◌, before}
use Rattle.ssq_parse.specs.Trees.{unary, wrapped, tree_of, ◌and_then◌}
use Rattle.ssq_parse.proofs.Found.{IfTrue, is_prefix_word}
use Rattle.ssq_parse.proofs.Sound.{risen_holds}
use Rattle.ssq_parse.specs.Written.{IfRead, Spelled, Sound}
use Rattle.ssq_parse.proofs.Words.{took_one, took_more, then_holds}

pub unary_is : (o : UnaryOp) (at : ℕ) (a : Expr) → e.Unary o at a ≡ e.Unary' o at tt (only a)
unfolding Rattle.ssq_ast.specs.declared.expr.Expr.TheBlock.shape-the_row-Expr-0 Rattle.ssq_ast.specs.declared.expr.Expr.TheBlock.hidden-the_row-Expr-0 denote.Hole.Carrier.hidden
unary_is o at a = refl

under : (o : UnaryOp) (depth : ℕ) (ts rest : Ahead) (t : Lexed) (operand : Tree)
    → Spelled (unary_level o) depth ts operand rest → t.said ≡ unary_word o → operand.height < 64
    → Spelled (unary_level o) depth (t ∷ ts) (tree_of (e.Unary o t.start operand.value) t.start (operand.height + 1)) rest
under o depth ts rest t operand sp word low =
    let tight = sp.tight in
    let high = sp.high in
    let tall = sp.tall in
    record {
      written = spec.prefixed o sp.written;
      took = took_more (took_one t ts (unary_word o) word) sp.took;
      regular = (sp.tight, sp.regular);
      tight = omega arith;
      high = λ i. sp.high i + 1;
      tall = omega arith;
      opened = sp.opened;
      meant = (λ i. e.Unary' o t.start tt (only (sp.meant i))) ∙ sym (unary_is o t.start operand.value);
      at = refl;
    }

unary_sound : (o : UnaryOp) (depth : ℕ) (ts rest : Ahead) (t : Lexed) (operand : Tree)
    → Spelled (unary_level o) depth ts operand rest → t.said ≡ unary_word o
    → IfRead (before (unary o t.start operand) rest) (λ found. Spelled (unary_level o) depth (t ∷ ts) found.0 found.1)
unfolding unary
unary_sound o depth ts rest t operand sp word =
    risen_holds (λ found. Spelled (unary_level o) depth (t ∷ ts) found.0 found.1) t.start operand.height
    (λ height. tree_of (e.Unary o t.start operand.value) t.start height) rest
    (λ low. under o depth ts rest t operand sp word low)

again_made : (P Q : Tree × Ahead → Type 0) (made : Made Tree) (g : Tree → Made Tree) (rest : Ahead)
    → IfRead (before made rest) P → ((x : Tree × Ahead) → P x → IfRead (before (g x.0) x.1) Q) → IfRead (before (made and_then g) rest) Q
again_made P Q (Ok x) g rest holds more = more (x, rest) holds
again_made P Q (Err refusal) g rest holds more = tt

again : (P Q : Tree × Ahead → Type 0) (read : Read Tree) (f g : Tree → Made Tree)
    → IfRead (read >>= (λ found. before (f found.0) found.1)) P → ((x : Tree × Ahead) → P x → IfRead (before (g x.0) x.1) Q)
    → IfRead (read >>= (λ found. before (f found.0 and_then g) found.1)) Q
again P Q (Ok found) f g holds more = again_made P Q (f found.0) g found.1 holds more
again P Q (Err refusal) f g holds more = tt

module _ (o : UnaryOp) (depth : ℕ) (operand : Reader) (sound : Sound (unary_level o) depth operand) where
  -- with so many operators
  abbrev pub Goal : ℕ → Ahead → Type 0
  Goal k tokens = IfRead (operand (drop k tokens) >>= (λ found. before (wrapped o (take k tokens) found.0) found.1)) (λ found. Spelled (unary_level o) depth tokens found.0 found.1)

  none_sound : (tokens : Ahead) → Goal 0 tokens
  unfolding wrapped
  none_sound tokens = then_holds (λ found. Spelled (unary_level o) depth tokens found.0 found.1) (λ found. Spelled (unary_level o) depth tokens found.0 found.1)
      (operand tokens) (λ found. before (Ok found.0) found.1) (sound tokens) (λ found spelled. spelled)

  one_more : (k : ℕ) (t : Lexed) (ts : Ahead) → t.said ≡ unary_word o → Goal k ts → Goal (suc k) (t ∷ ts)
  unfolding wrapped
  one_more k t ts word holds = again (λ found. Spelled (unary_level o) depth ts found.0 found.1) (λ found. Spelled (unary_level o) depth (t ∷ ts) found.0 found.1)
      (operand (drop k ts)) (wrapped o (take k ts)) (unary o t.start) holds (λ found spelled. unary_sound o depth ts found.1 t found.0 spelled word)

  by_first : (b : Bool) (k : ℕ) (t : Lexed) (ts : Ahead) → IfTrue b (t.said ≡ unary_word o) → Goal k ts → Goal (if b then 1 + k else 0) (t ∷ ts)
  by_first true k t ts word holds = let next : suc k ≡ 1 + k = omega arith in rw (sym next) (one_more k t ts word holds)
  by_first false k t ts word holds = none_sound (t ∷ ts)

  pub all_sound : (tokens : Ahead) → Goal (prefix_len (prefixes o) tokens) tokens
  all_sound [] = none_sound []
  all_sound (t ∷ ts) = by_first (is_prefix o t.said) (prefix_len (prefixes o) ts) t ts (is_prefix_word o t.said) (all_sound ts)

  pub prefixed_sound : Sound (unary_level o) depth (prefixed o operand)
  prefixed_sound tokens = all_sound tokens
