-- Words laid out at places: the tokens that say them there, and what readers find of them.
use Rattle.std.proofs.Common.{◌≡◌, ℕ, suc, ◌+◌, ◌≤◌, Bool, true, false, ap, ◌∙◌, arith, List, [], ◌∷◌, ◌++◌, map, drop, length, refl, Option, Some, None}
use Rattle.std.specs.Prelude.{if◌then◌else◌}
use Rattle.ssq_ast.specs.declared.expr.BinaryOp.{BinaryOp}
use Rattle.ssq_ast.specs.declared.expr.BinaryOp.TheVariants as op
use Rattle.ssq_ast.specs.Expression.{Words, binary_word, binary_level, first}
use Rattle.ssq_lex.specs.declared.keyword.Keyword.{Keyword}
use Rattle.ssq_lex.specs.declared.keyword.Keyword.TheVariants as key
use Rattle.ssq_lex.specs.declared.symbol.Symbol.{Symbol}
use Rattle.ssq_lex.specs.declared.symbol.Symbol.TheVariants as mark
use Rattle.ssq_lex.specs.Lexeme.{Lexeme, keyword, symbol}
use Rattle.ssq_parse.specs.declared.operators.Level.{Level}
use Rattle.ssq_parse.specs.Operators.{operator_of}
use Rattle.ssq_parse.specs.Reading.{Ahead, seen, is_keyword, is_symbol, first_operator, with_place}
use Rattle.ssq_parse.specs.Written.{says, starts}
use Rattle.ssq_parse.proofs.Found.{number_of, IfFound, is_found}
use Rattle.ssq_parse.proofs.Words.{drop_of_drop, is_keyword-found, is_symbol-found}

pub record Where : Type 0 where
  pub starts : List ℕ
  pub ends : List ℕ

abbrev pub next : Where → Where
next p = record { starts = drop 1 p.starts; ends = drop 1 p.ends }

abbrev pub skip : Words → Where → Where
skip [] p = p
skip (w ∷ ws) p = skip ws (next p)

abbrev pub laid : Words → Where → Ahead
laid [] p = []
laid (w ∷ ws) p = record { start = first p.starts; end = first p.ends; said = w } ∷ laid ws (next p)

pub two : (places : List ℕ) → drop 1 (drop 1 places) ≡ drop 2 places
two [] = refl
two (x ∷ places) = refl

pub skip_more : (u v : Words) (p : Where) → skip (u ++ v) p ≡ skip v (skip u p)
skip_more [] v p = refl
skip_more (w ∷ u) v p = skip_more u v (next p)

pub skip_starts : (u : Words) (p : Where) → drop (length u) p.starts ≡ (skip u p).starts
skip_starts [] p = refl
skip_starts (w ∷ u) p = drop_of_drop (w ∷ []) u p.starts ∙ skip_starts u (next p)

-- the places of tokens
abbrev pub where_of : Ahead → Where
where_of tokens = record { starts = starts tokens; ends = map (λ token. token.end) tokens }

-- tokens are their words, laid out at their places
pub laid_again : (tokens : Ahead) → tokens ≡ laid (says tokens) (where_of tokens)
laid_again [] = refl
laid_again (t ∷ ts) = λ i. t ∷ laid_again ts i

pub length-laid : (ws : Words) (p : Where) → length (laid ws p) ≡ length ws
length-laid [] p = refl
length-laid (w ∷ ws) p = ap suc (length-laid ws (next p))

-- ---- What may stand after an expression. A word that can go on with one reaches so far: one above the level of its
-- operator, and farther still where it goes on with a name.
abbrev pub reach_of-keyword : Keyword → ℕ
reach_of-keyword key.Or = 1
reach_of-keyword key.And = 2
reach_of-keyword key.Is = 4
reach_of-keyword key.Between = 4
reach_of-keyword key.Div = 6
reach_of-keyword other = 0

abbrev pub reach_of-symbol : Symbol → ℕ
reach_of-symbol mark.Equal = 4
reach_of-symbol mark.NotEqual = 4
reach_of-symbol mark.Less = 4
reach_of-symbol mark.AtMost = 4
reach_of-symbol mark.Greater = 4
reach_of-symbol mark.AtLeast = 4
reach_of-symbol mark.Plus = 5
reach_of-symbol mark.Minus = 5
reach_of-symbol mark.Concat = 5
reach_of-symbol mark.Star = 6
reach_of-symbol mark.Percent = 6
reach_of-symbol mark.Dot = 8
reach_of-symbol other = 0

abbrev pub reach : Lexeme → ℕ
reach (keyword k) = reach_of-keyword k
reach (symbol s) = reach_of-symbol s
reach other = 0

pub reach-operator : (o : BinaryOp) → reach (binary_word o) ≡ binary_level o + 1
reach-operator op.Or = refl
reach-operator op.And = refl
reach-operator op.Equal = refl
reach-operator op.NotEqual = refl
reach-operator op.Less = refl
reach-operator op.AtMost = refl
reach-operator op.Greater = refl
reach-operator op.AtLeast = refl
reach-operator op.Add = refl
reach-operator op.Subtract = refl
reach-operator op.Concat = refl
reach-operator op.Multiply = refl
reach-operator op.Divide = refl
reach-operator op.Remainder = refl

-- these words do not go on with an expression of this level
abbrev pub Stops : ℕ → Words → Type 0
Stops n [] = Unit {0}
Stops n (w ∷ ws) = reach w ≤ n

pub stops_above : {n m : ℕ} → n ≤ m → (more : Words) → Stops n more → Stops m more
stops_above below [] stops = tt
stops_above below (w ∷ ws) stops = omega arith

no_operator_by : (l : Level) (w : Lexeme) → reach w ≤ number_of l → (found : Option BinaryOp) → IfFound l w found → found ≡ None
no_operator_by l w stops None is = refl
no_operator_by l w stops (Some o) is =
    let level = is.level in
    let reaches : reach w ≡ binary_level o + 1 = ap reach is.spelt ∙ reach-operator o in
    absurd (omega arith)

pub no_operator : (l : Level) (more : Words) → Stops (number_of l) more → (p : Where) → first_operator l (laid more p) ≡ None
no_operator l [] stops p = refl
no_operator l (w ∷ ws) stops p = ap (with_place (first p.starts)) (no_operator_by l w stops (operator_of l w) (is_found l w))

not_seen_by : (b : Bool) (at : ℕ) → (b ≡ true → ⊥) → (if b then Some at else None) ≡ None
not_seen_by true at never = absurd (never refl)
not_seen_by false at never = refl

pub no_keyword : (k : Keyword) (n : ℕ) → n + 1 ≤ reach_of-keyword k → (more : Words) → Stops n more → (p : Where) → seen (is_keyword k) (laid more p) ≡ None
no_keyword k n above [] stops p = refl
no_keyword k n above (w ∷ ws) stops p = not_seen_by (is_keyword k w) (first p.starts) (λ is.
    let reaches : reach w ≡ reach_of-keyword k = ap reach (is_keyword-found k w is) in omega arith)

pub no_symbol : (s : Symbol) (n : ℕ) → n + 1 ≤ reach_of-symbol s → (more : Words) → Stops n more → (p : Where) → seen (is_symbol s) (laid more p) ≡ None
no_symbol s n above [] stops p = refl
no_symbol s n above (w ∷ ws) stops p = not_seen_by (is_symbol s w) (first p.starts) (λ is.
    let reaches : reach w ≡ reach_of-symbol s = ap reach (is_symbol-found s w is) in omega arith)
