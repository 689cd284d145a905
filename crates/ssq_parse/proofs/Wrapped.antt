-- Operators that stand before an operand: the last is the innermost.
use Rattle.std.proofs.Common.{◌≡◌, ℕ, zero, suc, ◌+◌, ◌-◌, ◌<◌, ◌≤◌, Bool, sym, ap, ◌∙◌, arith, List, [], ◌∷◌, map, take, drop, length, get_or, refl, Ok, Err}
use Rattle.std.specs.Prelude.{if◌then◌else◌}
use Rattle.std.specs.List.{prefix_len}
use Rattle.std.proofs.lemmas.List.{take-map, drop-map, take_all}
use Rattle.ssq_ast.specs.declared.expr.UnaryOp.{UnaryOp}
use Rattle.ssq_lex.specs.declared.token.Token.{Token}
use Rattle.ssq_lex.specs.Lexeme.{lexeme, lexed}
use Rattle.ssq_parse.specs.Operators.{prefixes, is_prefix}
use Rattle.ssq_parse.specs.declared.fault.Stop.{Stop}
use Rattle.ssq_parse.specs.declared.fault.Stop.TheVariants.{Refused, NoMemory}
use Rattle.ssq_parse.specs.declared.tree.Tree.{Tree}
use Rattle.ssq_parse.specs.Reading.{Made, Makes}
use Rattle.ssq_parse.specs.Trees.{◌and_then◌, unary, wrapped}

pub then_ok : {A : Type 0} (made : Made A) → (made and_then (λ x. Ok x)) ≡ made
then_ok (Ok x) = refl
then_ok (Err e) = refl

pub then_then : {A B C : Type 0} (made : Made A) (f : A → Made B) (g : B → Made C) → ((made and_then f) and_then g) ≡ (made and_then (λ x. f x and_then g))
then_then (Ok x) f g = refl
then_then (Err e) f g = refl

pub wrapped_last : (op : UnaryOp) (tokens : List Token) (k : ℕ) (d : Token) (operand : Tree) → k < length tokens
    → wrapped op (take (suc k) (map lexed tokens)) operand ≡ (unary op (get_or tokens k d).start operand and_then wrapped op (take k (map lexed tokens)))
unfolding wrapped
wrapped_last op [] k d operand below = absurd (omega arith)
wrapped_last op (t ∷ tokens) zero d operand below = sym (then_ok (unary op t.start operand))
wrapped_last op (t ∷ tokens) (suc k) d operand below =
    ap (λ m. m and_then unary op t.start) (wrapped_last op tokens k d operand (omega arith))
    ∙ then_then (unary op (get_or tokens k d).start operand) (wrapped op (take k (map lexed tokens))) (unary op t.start)

module _ (op : UnaryOp) (tokens : List Token) (left : ℕ) (d : Token) (operand : Tree) (total : Made Tree)
    (some : 0 < left) (within : left ≤ length tokens) (so_far : wrapped op (take left (map lexed tokens)) operand ≡ total) where
  now : (unary op (get_or tokens (left - 1) d).start operand and_then wrapped op (take (left - 1) (map lexed tokens))) ≡ total
  now = let turn : suc (left - 1) ≡ left = omega arith in
      sym (wrapped_last op tokens (left - 1) d operand (omega arith)) ∙ ap (λ n. wrapped op (take n (map lexed tokens)) operand) turn ∙ so_far

  pub wrapped_goes_on : (tree : Tree) → unary op (get_or tokens (left - 1) d).start operand ≡ Ok tree → wrapped op (take (left - 1) (map lexed tokens)) tree ≡ total
  wrapped_goes_on tree is = ap (λ m. m and_then wrapped op (take (left - 1) (map lexed tokens))) (sym is) ∙ now

  pub wrapped_fails : (stop : Stop) → Makes (unary op (get_or tokens (left - 1) d).start operand) (Err stop) → Makes total (Err stop)
  wrapped_fails (Refused at cause) is = sym now ∙ ap (λ m. m and_then wrapped op (take (left - 1) (map lexed tokens))) is
  wrapped_fails NoMemory is = tt

pub prefix_of_map : {A B : Type 0} (f : A → B) (p : B → Bool) (xs : List A) → prefix_len (λ x. p (f x)) xs ≡ prefix_len p (map f xs)
prefix_of_map f p [] = refl
prefix_of_map f p (x ∷ xs) = ap (λ n. if p (f x) then 1 + n else 0) (prefix_of_map f p xs)

pub prefix_count : (op : UnaryOp) (tokens : List Token) (count : ℕ) → count ≡ prefix_len (λ token. is_prefix op (lexeme token.kind)) tokens
    → count ≡ prefix_len (prefixes op) (map lexed tokens)
prefix_count op tokens count is = is ∙ prefix_of_map lexed (prefixes op) tokens

pub taken_prefix : (op : UnaryOp) (tokens : List Token) (count : ℕ) → count ≡ prefix_len (λ token. is_prefix op (lexeme token.kind)) tokens
    → map lexed (take count tokens) ≡ take (prefix_len (prefixes op) (map lexed tokens)) (map lexed tokens)
taken_prefix op tokens count is = sym (take-map lexed count tokens) ∙ ap (λ n. take n (map lexed tokens)) (prefix_count op tokens count is)

pub left_prefix : (op : UnaryOp) (tokens : List Token) (count : ℕ) → count ≡ prefix_len (λ token. is_prefix op (lexeme token.kind)) tokens
    → map lexed (drop count tokens) ≡ drop (prefix_len (prefixes op) (map lexed tokens)) (map lexed tokens)
left_prefix op tokens count is = sym (drop-map lexed count tokens) ∙ ap (λ n. drop n (map lexed tokens)) (prefix_count op tokens count is)

pub all_taken : (tokens : List Token) → take (length tokens) (map lexed tokens) ≡ map lexed tokens
all_taken tokens = take-map lexed (length tokens) tokens ∙ ap (map lexed) (take_all (length tokens) tokens (omega arith))

pub none_left : (op : UnaryOp) (tokens : List Token) (left : ℕ) (tree : Tree) → left ≤ 0 → wrapped op (take left (map lexed tokens)) tree ≡ Ok tree
unfolding wrapped
none_left op tokens left tree none = let zero_left : left ≡ 0 = omega arith in ap (λ n. wrapped op (take n (map lexed tokens)) tree) zero_left
