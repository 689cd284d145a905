-- An operator that makes a tree 65 high is written at its place.
use Rattle.std.proofs.Common.{◌≡◌, ℕ, ◌+◌, ◌≤◌, max, Bool, true, false, ap, arith, [], ◌∷◌, refl, Some, Ok}
use Rattle.std.specs.Prelude.{nat_lt, if◌then◌else◌}
use Rattle.std.proofs.lemmas.Bool.Decides.{nat_tests}
use Rattle.ssq_ast.specs.declared.expr.BinaryOp.{BinaryOp}
use Rattle.ssq_ast.specs.declared.expr.NullTest.{NullTest}
use Rattle.ssq_ast.specs.declared.expr.UnaryOp.{UnaryOp}
use Rattle.ssq_ast.specs.Expression.{Written, unary_word, binary_word, unary_level, level, height, tallest, infixed, of_function, bracketed, prefixed}
use Rattle.ssq_ast.specs.Expression as spec
use Rattle.ssq_lex.specs.declared.keyword.Keyword.TheVariants as key
use Rattle.ssq_lex.specs.Lexeme.{Lexed, keyword}
use Rattle.ssq_parse.specs.declared.fault.ParseCause.TheVariants.{TooDeep}
use Rattle.ssq_parse.specs.declared.operators.Level.{Level}
use Rattle.ssq_parse.specs.declared.tree.Tree.{Tree}
use Rattle.ssq_parse.specs.Deep.{HighFrom, operator_too_high, test_too_high, too_high}
use Rattle.ssq_parse.specs.Reading.{Ahead, before, refused}
use Rattle.ssq_parse.specs.Trees.{unary, binary, null_test, between, risen, tree_of, ◌and_then◌}
use Rattle.ssq_parse.specs.Written.{says, Took, Spelled}
use Rattle.ssq_parse.proofs.DeepLemmas.{Tells}
use Rattle.ssq_parse.proofs.Found.{number_of, left_of, IsWrittenSo}
use Rattle.ssq_parse.proofs.Words.{took_none, took_one, took_more}

-- no expression is higher than the highest in it
low : (w : Written) → height w ≤ tallest w
low (of_function f x) = some_high x
  where
    some_high : (w : Written) → 1 ≤ tallest w
    some_high (of_function f x) = some_high x
    some_high (bracketed x) = some_high x
    some_high _ = omega arith
low (bracketed x) = low x
low _ = omega arith

-- a tree that is read is 64 high at most
low_tree : {asked depth : ℕ} {tokens rest : Ahead} {found : Tree} → Spelled asked depth tokens found rest → found.height ≤ 64
low_tree sp = omega (arith, sp.high, sp.tall, low sp.written)

risen_tells : (many : ℕ) (tokens : Ahead) (at h : ℕ) (f : ℕ → Tree) (rest : Ahead) → (64 ≤ h → HighFrom tokens at)
    → Tells many tokens (before (risen at h and_then (λ height. Ok (f height))) rest)
risen_tells many tokens at h f rest deep = by (nat_lt h 64) refl
  where
    by : (b : Bool) → nat_lt h 64 ≡ b → Tells many tokens (before ((if b then Ok (h + 1) else refused (Some at) TooDeep) and_then (λ height. Ok (f height))) rest)
    by true is = tt
    by false is =
        let high : 64 ≤ h = grind (arith, nat_tests) in
        too_high (record { front = []; start = tokens; before = took_none tokens; high = deep high })

pub unary_tells : (many : ℕ) (o : UnaryOp) (depth : ℕ) (ts rest : Ahead) (t : Lexed) (operand : Tree)
    → Spelled (unary_level o) depth ts operand rest → t.said ≡ unary_word o → Tells many (t ∷ ts) (before (unary o t.start operand) rest)
unfolding unary
unary_tells many o depth ts rest t operand sp word =
    risen_tells many (t ∷ ts) t.start operand.height (λ height. tree_of _ t.start height) rest
    (λ high. operator_too_high (record {
      written = prefixed o sp.written;
      rest = rest;
      took = took_more (took_one t ts (unary_word o) word) sp.took;
      regular = (sp.tight, sp.regular);
      high = omega (arith, high, sp.high, low_tree sp);
      here = refl;
    }))

pub binary_tells : (many : ℕ) (l : Level) (o : BinaryOp) (a b depth : ℕ) (start ts rest : Ahead) (t : Lexed) (left right : Tree)
    → Spelled a depth start left (t ∷ ts) → Spelled b depth ts right rest → IsWrittenSo l t.said o → left_of l ≤ a → number_of l + 1 ≤ b
    → Tells many start (before (binary o t.start left right) rest)
unfolding binary
binary_tells many l o a b depth start ts rest t left right sl sr is la rb =
    risen_tells many start t.start (max left.height right.height) (λ height. tree_of _ left.at height) rest
    (λ high. operator_too_high (record {
      written = infixed o sl.written sr.written;
      rest = rest;
      took = took_more sl.took (took_more (took_one t ts (binary_word o) is.spelt) sr.took);
      regular = (omega (arith, sl.tight, is.left, la), sl.regular, omega (arith, sr.tight, is.level, rb), sr.regular);
      high = omega (arith, high, sl.high, sr.high, low_tree sl, low_tree sr);
      here = ap (λ places. Some (spec.first places)) sl.took.left;
    }))

pub test_tells : (many : ℕ) (what : NullTest) (depth : ℕ) (start ts us : Ahead) (t : Lexed) (left : Tree)
    → Spelled 4 depth start left (t ∷ ts) → t.said ≡ keyword key.Is → Tells many start (before (null_test what t.start left) us)
unfolding null_test
test_tells many what depth start ts us t left sl word =
    risen_tells many start t.start left.height (λ height. tree_of _ left.at height) us
    (λ high. test_too_high (record {
      operand = sl.written;
      rest = t ∷ ts;
      took = sl.took;
      regular = sl.regular;
      tight = sl.tight;
      high = omega (arith, high, sl.high, low_tree sl);
      others = says ts;
      is = ap (λ w. w ∷ says ts) word;
      here = refl;
    }))

pub between_tells : (many depth : ℕ) (start ts : Ahead) (t : Lexed) (left : Tree) → Spelled 4 depth start left (t ∷ ts) → t.said ≡ keyword key.Between
    → (low : Tree × Ahead) → Spelled 4 depth ts low.0 low.1 → (us : Ahead) → Took low.1 us (keyword key.And ∷ [])
    → (high : Tree × Ahead) → Spelled 4 depth us high.0 high.1 → Tells many start (before (between t.start left low.0 high.0) high.1)
unfolding between
between_tells many depth start ts t left sl word middle sm us and last sh =
    risen_tells many start t.start (max (max left.height middle.0.height) last.0.height) (λ height. tree_of _ left.at height) last.1
    (λ high. operator_too_high (record {
      written = spec.between sl.written sm.written sh.written;
      rest = last.1;
      took = took_more (took_more sl.took (took_more (took_one t ts (keyword key.Between) word) sm.took)) (took_more and sh.took);
      regular = (sl.tight, sl.regular, sm.tight, sm.regular, sh.tight, sh.regular);
      high = omega (arith, high, sl.high, sm.high, sh.high, low_tree sl, low_tree sm, low_tree sh);
      here = ap (λ places. Some (spec.first places)) sl.took.left;
    }))
