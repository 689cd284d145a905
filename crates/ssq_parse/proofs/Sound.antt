-- Each expression that is read is written in front of the rest.
use Rattle.std.proofs.Common.{◌≡◌, ℕ, zero, suc, ◌+◌, ◌<◌, ◌≤◌, max, Bool, true, false, sym, ap, ◌∙◌, arith, [], ◌∷◌, drop, refl, Option, Some, None, Ok}
use Rattle.std.specs.Prelude.{nat_lt, if◌then◌else◌}
use Rattle.std.proofs.lemmas.Bool.Decides.{nat_tests}
use Rattle.ssq_ast.specs.declared.expr.BinaryOp.{BinaryOp}
use Rattle.ssq_ast.specs.declared.expr.Expr.{Expr}
use Rattle.ssq_ast.specs.declared.expr.Expr.TheVariants as e
use Rattle.ssq_ast.specs.Expression.{infixed, binary_word, binary_level, left_level, right_level, level, height, only, tree}
use Rattle.ssq_ast.specs.Expression as spec
use Rattle.ssq_lex.specs.Lexeme.{Lexed}
use Rattle.ssq_parse.specs.declared.operators.Level.{Level}
use Rattle.ssq_parse.specs.declared.tree.Tree.{Tree}
use Rattle.ssq_parse.specs.Expressions.{Reader, further, further_by, chain}
use Rattle.ssq_parse.specs.Operators.{operator_of}
use Rattle.ssq_parse.specs.Reading.{Ahead, ◌>>=◌, before, refused, with_place}
use Rattle.ssq_parse.specs.Trees.{binary, risen, tree_of, ◌and_then◌}
use Rattle.ssq_parse.specs.declared.fault.ParseCause.TheVariants.{TooDeep}
use Rattle.ssq_parse.proofs.Found.{number_of, left_of, IsWrittenSo, IfFound, is_found}
use Rattle.ssq_parse.specs.Written.{starts, IfRead, Spelled, Sound}
use Rattle.ssq_parse.proofs.Words.{took_one, took_more, then_holds}

pub binary_is : (left_at : ℕ) (a : Expr) (o : BinaryOp) (at right_at : ℕ) (b : Expr) → e.Binary left_at a o at right_at b ≡ e.Binary' left_at tt (only a) o at right_at tt (only b)
unfolding Rattle.ssq_ast.specs.declared.expr.Expr.TheBlock.shape-the_row-Expr-0 Rattle.ssq_ast.specs.declared.expr.Expr.TheBlock.hidden-the_row-Expr-0 denote.Hole.Carrier.hidden
binary_is left_at a o at right_at b = refl

pub looser : {asked tight depth : ℕ} {tokens rest : Ahead} {found : Tree} → asked ≤ tight → Spelled tight depth tokens found rest → Spelled asked depth tokens found rest
looser below sp = let t = sp.tight in record { written = sp.written; took = sp.took; regular = sp.regular; tight = omega arith; high = sp.high; tall = sp.tall; opened = sp.opened; meant = sp.meant; at = sp.at }

-- ---- heights

at_height : (P : Tree × Ahead → Type 0) (at h : ℕ) (f : ℕ → Tree) (rest : Ahead) (b : Bool) → nat_lt h 64 ≡ b → (h < 64 → P (f (h + 1), rest))
    → IfRead (before ((if b then Ok (h + 1) else refused (Some at) TooDeep) and_then (λ height. Ok (f height))) rest) P
at_height P at h f rest true is holds = let below : h < 64 = grind (arith, nat_tests) in holds below
at_height P at h f rest false is holds = tt

pub risen_holds : (P : Tree × Ahead → Type 0) (at h : ℕ) (f : ℕ → Tree) (rest : Ahead) → (h < 64 → P (f (h + 1), rest))
    → IfRead (before (risen at h and_then (λ height. Ok (f height))) rest) P
risen_holds P at h f rest holds = at_height P at h f rest (nat_lt h 64) refl holds

-- ---- operators between operands

joined : (o : BinaryOp) (n a b depth : ℕ) (start ts rest : Ahead) (t : Lexed) (left right : Tree)
    → Spelled a depth start left (t ∷ ts) → Spelled b depth ts right rest → t.said ≡ binary_word o
    → left_level o ≤ a → right_level o ≤ b → n ≤ binary_level o → max left.height right.height < 64
    → Spelled n depth start (tree_of (e.Binary left.at left.value o t.start right.at right.value) left.at (max left.height right.height + 1)) rest
joined o n a b depth start ts rest t left right sl sr word la rb nl low =
    record {
      written = infixed o sl.written sr.written;
      took = took_more sl.took (took_more (took_one t ts (binary_word o) word) sr.took);
      regular = (omega (arith, sl.tight, la), sl.regular, omega (arith, sr.tight, rb), sr.regular);
      tight = nl;
      high = λ i. max (sl.high i) (sr.high i) + 1;
      tall = omega (arith, sl.high, sr.high, sl.tall, sr.tall, low);
      opened = omega (arith, sl.opened, sr.opened);
      meant =
          ap (λ from_op. e.Binary' (spec.first (starts start)) tt (only (tree sl.written (starts start))) o (spec.first from_op) (spec.first (drop 1 from_op)) tt (only (tree sr.written (drop 1 from_op)))) sl.took.left
          ∙ (λ i. e.Binary' (sl.at i) tt (only (sl.meant i)) o t.start (sr.at i) tt (only (sr.meant i)))
          ∙ sym (binary_is left.at left.value o t.start right.at right.value);
      at = sl.at;
    }

pub binary_sound : (l : Level) (o : BinaryOp) (n a b depth : ℕ) (start ts rest : Ahead) (t : Lexed) (left right : Tree)
    → Spelled a depth start left (t ∷ ts) → Spelled b depth ts right rest → IsWrittenSo l t.said o
    → left_of l ≤ a → number_of l + 1 ≤ b → n ≤ number_of l
    → IfRead (before (binary o t.start left right) rest) (λ found. Spelled n depth start found.0 found.1)
unfolding binary
binary_sound l o n a b depth start ts rest t left right sl sr is la rb nl =
    let lv = is.level in
    let ll = is.left in
    risen_holds (λ found. Spelled n depth start found.0 found.1) t.start (max left.height right.height)
    (λ height. tree_of (e.Binary left.at left.value o t.start right.at right.value) left.at height) rest
    (λ low. joined o n a b depth start ts rest t left right sl sr is.spelt (omega arith) (omega arith) (omega arith) low)

module _ (l : Level) (n depth : ℕ) (operand : Reader) (sound : Sound (number_of l + 1) depth operand) (below : left_of l ≤ n) (above : n ≤ number_of l) where
  by_op : (turns : ℕ) → ((start : Ahead) (left : Tree) (tokens : Ahead) → Spelled n depth start left tokens → IfRead (further l operand turns left tokens) (λ found. Spelled n depth start found.0 found.1))
      → (start : Ahead) (left : Tree) (t : Lexed) (ts : Ahead) → Spelled n depth start left (t ∷ ts) → (o : Option BinaryOp) → IfFound l t.said o
      → IfRead (further_by (with_place t.start o) operand (further l operand turns) left (t ∷ ts)) (λ found. Spelled n depth start found.0 found.1)
  by_op turns more start left t ts so_far None is = so_far
  by_op turns more start left t ts so_far (Some o) is =
      then_holds (λ right. Spelled (number_of l + 1) depth ts right.0 right.1) (λ found. Spelled n depth start found.0 found.1)
      (operand ts) (λ right. before (binary o t.start left right.0) right.1 >>= (λ longer. further l operand turns longer.0 longer.1)) (sound ts)
      (λ right spelled.
      then_holds (λ found. Spelled n depth start found.0 found.1) (λ found. Spelled n depth start found.0 found.1)
      (before (binary o t.start left right.0) right.1) (λ longer. further l operand turns longer.0 longer.1)
      (binary_sound l o n n (number_of l + 1) depth start ts right.1 t left right.0 so_far spelled is below (omega arith) above)
      (λ longer spelled'. more start longer.0 longer.1 spelled'))

  further_sound : (turns : ℕ) (start : Ahead) (left : Tree) (tokens : Ahead) → Spelled n depth start left tokens
      → IfRead (further l operand turns left tokens) (λ found. Spelled n depth start found.0 found.1)
  unfolding further
  further_sound zero start left tokens so_far = so_far
  further_sound (suc turns) start left [] so_far = so_far
  further_sound (suc turns) start left (t ∷ ts) so_far = by_op turns (further_sound turns) start left t ts so_far (operator_of l t.said) (is_found l t.said)

  pub chain_sound : Sound n depth (chain l operand)
  chain_sound tokens =
      then_holds (λ first. Spelled (number_of l + 1) depth tokens first.0 first.1) (λ found. Spelled n depth tokens found.0 found.1)
      (operand tokens) (λ first. further l operand 64 first.0 first.1) (sound tokens)
      (λ first spelled. further_sound 64 tokens first.0 first.1 (looser (omega arith) spelled))
