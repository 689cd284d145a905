-- Brackets of an expression are closed where it ends, and what is too deep after more tokens is so.
use Rattle.std.proofs.Common.{◌≡◌, ℕ, ◌+◌, ◌-◌, ap, ◌∙◌, arith, List, [], ◌∷◌, ◌++◌, refl, Option, Some, None, Ok, Err}
use Rattle.ssq_ast.specs.declared.expr.BinaryOp.{BinaryOp}
use Rattle.ssq_ast.specs.declared.expr.BinaryOp.TheVariants as op
use Rattle.ssq_ast.specs.declared.expr.NullTest.{NullTest}
use Rattle.ssq_ast.specs.declared.expr.NullTest.TheVariants as null_test
use Rattle.ssq_ast.specs.declared.expr.UnaryOp.{UnaryOp}
use Rattle.ssq_ast.specs.declared.expr.UnaryOp.TheVariants as unary_op
use Rattle.ssq_ast.specs.Expression.{Words, Written, words, unary_word, binary_word, test_words, stream_words, in_brackets, of_number, of_text, of_truth, of_moment, of_span, of_column, of_rows, of_function, bracketed, prefixed, null_tested, infixed, between}
use Rattle.ssq_lex.specs.declared.keyword.Keyword.TheVariants as key
use Rattle.ssq_lex.specs.declared.symbol.Symbol.TheVariants as mark
use Rattle.ssq_lex.specs.Lexeme.{Lexeme, keyword, name, symbol}
use Rattle.ssq_parse.specs.declared.fault.ParseCause.{ParseCause}
use Rattle.ssq_parse.specs.declared.fault.ParseCause.TheVariants as cause
use Rattle.ssq_parse.specs.Deep.{open_behind, open_after, DeepBy, too_many, too_high}
use Rattle.ssq_parse.specs.Reading.{Ahead, Read, ◌>>=◌}
use Rattle.ssq_parse.specs.Written.{Took, IfRead}
use Rattle.ssq_parse.proofs.Words.{took_more}

pub open_append : (n : ℕ) (us vs : Words) → open_after n (us ++ vs) ≡ open_after (open_after n us) vs
open_append n [] vs = refl
open_append n (u ∷ us) vs = open_append (open_behind u n) us vs

pub unary_opens_none : (o : UnaryOp) (n : ℕ) → open_behind (unary_word o) n ≡ n
unary_opens_none unary_op.Not n = refl
unary_opens_none unary_op.Minus n = refl

pub binary_opens_none : (o : BinaryOp) (n : ℕ) → open_behind (binary_word o) n ≡ n
binary_opens_none op.Or n = refl
binary_opens_none op.And n = refl
binary_opens_none op.Equal n = refl
binary_opens_none op.NotEqual n = refl
binary_opens_none op.Less n = refl
binary_opens_none op.AtMost n = refl
binary_opens_none op.Greater n = refl
binary_opens_none op.AtLeast n = refl
binary_opens_none op.Add n = refl
binary_opens_none op.Subtract n = refl
binary_opens_none op.Concat n = refl
binary_opens_none op.Multiply n = refl
binary_opens_none op.Divide n = refl
binary_opens_none op.Remainder n = refl

test_opens_none : (t : NullTest) (n : ℕ) → open_after n (test_words t) ≡ n
test_opens_none null_test.Null n = refl
test_opens_none null_test.NotNull n = refl

column_opens_none : (stream : Option (List ℕ)) (column : List ℕ) (n : ℕ) → open_after n (stream_words stream ++ name column ∷ []) ≡ n
column_opens_none None column n = refl
column_opens_none (Some stream) column n = refl

closed : (ws : Words) (n : ℕ) → open_after (n + 1) ws ≡ n + 1 → open_after n (in_brackets ws) ≡ n
closed ws n is =
    let one : n + 1 - 1 ≡ n = omega arith in
    open_append (n + 1) ws (symbol mark.RightParen ∷ []) ∙ ap (λ m. m - 1) is ∙ one

-- the brackets of an expression are closed at its end
pub closes_all : (w : Written) (n : ℕ) → open_after n (words w) ≡ n
closes_all (of_number k) n = refl
closes_all (of_text text) n = refl
closes_all (of_truth truth) n = refl
closes_all (of_moment moment) n = refl
closes_all (of_span span) n = refl
closes_all (of_column column) n = column_opens_none column.stream column.column n
closes_all of_rows n = closed (symbol mark.Star ∷ []) n refl
closes_all (of_function f x) n = closed (words x) n (closes_all x (n + 1))
closes_all (bracketed x) n = closed (words x) n (closes_all x (n + 1))
closes_all (prefixed o x) n = ap (λ m. open_after m (words x)) (unary_opens_none o n) ∙ closes_all x n
closes_all (null_tested x t) n = open_append n (words x) (keyword key.Is ∷ test_words t) ∙ ap (λ m. open_after m (test_words t)) (closes_all x n) ∙ test_opens_none t n
closes_all (infixed o a b) n =
    open_append n (words a) (binary_word o ∷ words b)
    ∙ ap (λ m. open_after (open_behind (binary_word o) m) (words b)) (closes_all a n)
    ∙ ap (λ m. open_after m (words b)) (binary_opens_none o n) ∙ closes_all b n
closes_all (between a b c) n =
    open_append n (words a ++ keyword key.Between ∷ words b) (keyword key.And ∷ words c)
    ∙ ap (λ m. open_after m (words c)) (open_append n (words a) (keyword key.Between ∷ words b) ∙ ap (λ m. open_after m (words b)) (closes_all a n) ∙ closes_all b n)
    ∙ closes_all c n

-- an expression, and a word that is no bracket
pub behind_operand : (w : Written) (word : Lexeme) (n : ℕ) → open_behind word n ≡ n → open_after n (words w ++ word ∷ []) ≡ n
behind_operand w word n none = open_append n (words w) (word ∷ []) ∙ ap (open_behind word) (closes_all w n) ∙ none

-- ---- more tokens in front

pub deep_behind : {many more : ℕ} {tokens start : Ahead} {front : Words} (at : ℕ) → Took tokens start front → open_after many front ≡ more
    → DeepBy more start at → DeepBy many tokens at
deep_behind {many = many} {front = front} at took leads (too_many o) =
    too_many (record {
      front = front ++ o.front;
      rest = o.rest;
      before = took_more took o.before;
      count = open_append many front o.front ∙ ap (λ n. open_after n o.front) leads ∙ o.count;
      others = o.others;
      bracket = o.bracket;
      here = o.here;
    })
deep_behind {front = front} at took leads (too_high h) = too_high (record { front = front ++ h.front; start = h.start; before = took_more took h.before; high = h.high })

-- ---- what holds of a refusal

abbrev pub IfDeep : ParseCause → Option ℕ → (ℕ → Type 0) → Type 0
IfDeep cause.TooDeep (Some at) P = P at
IfDeep other at P = Unit {0}

pub if_deep : {P Q : ℕ → Type 0} (c : ParseCause) (at : Option ℕ) → ((n : ℕ) → P n → Q n) → IfDeep c at P → IfDeep c at Q
if_deep cause.TooDeep (Some at) more p = more at p
if_deep cause.TooDeep None more p = tt
if_deep other at more p = tt

-- where so many brackets stand open in front of the tokens
abbrev pub Tells : {A : Type 0} → ℕ → Ahead → Read A → Type 0
Tells many tokens (Ok x) = Unit {0}
Tells many tokens (Err refusal) = IfDeep refusal.cause refusal.at (DeepBy many tokens)

pub tells_then : {A B : Type 0} (many : ℕ) (tokens : Ahead) (P : A × Ahead → Type 0) (read : Read A) (f : A × Ahead → Read B)
    → IfRead read P → Tells many tokens read → ((found : A × Ahead) → P found → Tells many tokens (f found)) → Tells many tokens (read >>= f)
tells_then many tokens P (Ok found) f holds told more = more found holds
tells_then many tokens P (Err refusal) f holds told more = told

pub tells_behind : {A : Type 0} (many more : ℕ) (tokens rest : Ahead) (front : Words) → Took tokens rest front → open_after many front ≡ more → (read : Read A)
    → Tells more rest read → Tells many tokens read
tells_behind many more tokens rest front took leads (Ok x) told = tt
tells_behind many more tokens rest front took leads (Err refusal) told = if_deep refusal.cause refusal.at (λ at. deep_behind at took leads) told

-- ---- what is never too deep

abbrev pub Quiet : {A : Type 0} → Read A → Type 0
Quiet (Ok x) = Unit {0}
Quiet (Err refusal) = IfDeep refusal.cause refusal.at (λ at. ⊥)

pub quiet_tells : {A : Type 0} (many : ℕ) (tokens : Ahead) (read : Read A) → Quiet read → Tells many tokens read
quiet_tells many tokens (Ok x) never = tt
quiet_tells many tokens (Err refusal) never = if_deep refusal.cause refusal.at (λ at no. absurd no) never

pub quiet_then : {A B : Type 0} (read : Read A) (f : A × Ahead → Read B) → Quiet read → ((found : A × Ahead) → Quiet (f found)) → Quiet (read >>= f)
quiet_then (Ok found) f never more = more found
quiet_then (Err refusal) f never more = never

pub tells_quiet : {A B : Type 0} (many : ℕ) (tokens : Ahead) (read : Read A) (f : A × Ahead → Read B)
    → Tells many tokens read → ((found : A × Ahead) → Quiet (f found)) → Tells many tokens (read >>= f)
tells_quiet many tokens (Ok found) f told more = quiet_tells many tokens (f found) (more found)
tells_quiet many tokens (Err refusal) f told more = told
