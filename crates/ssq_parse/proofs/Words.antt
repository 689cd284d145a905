-- What readers take from the front of tokens.
use Rattle.std.proofs.Common.{◌≡◌, ℕ, zero, suc, true, sym, ap, ◌∙◌, List, [], ◌∷◌, ◌++◌, drop, length, refl, Ok, Err, append_assoc, rules}
use denote.Enum.Bare.{same_true}
use Rattle.ssq_lex.specs.contracts.keyword.Keyword.{the_type as keyword_type}
use Rattle.ssq_lex.specs.contracts.symbol.Symbol.{the_type as symbol_type}
use Rattle.ssq_lex.specs.declared.keyword.Keyword.{Keyword}
use Rattle.ssq_lex.specs.declared.symbol.Symbol.{Symbol}
use Rattle.ssq_lex.specs.Lexeme.{Lexeme, keyword, name, number, quoted, symbol, Lexed}
use Rattle.ssq_ast.specs.Expression.{Words}
use Rattle.ssq_parse.specs.Written.{says, starts, Took, IfRead}
use Rattle.ssq_parse.specs.Reading.{Ahead, Read, ◌>>=◌, is_keyword, is_symbol}

pub took_none : (tokens : Ahead) → Took tokens tokens []
took_none tokens = record { said = refl; left = refl }

pub took_one : (token : Lexed) (tokens : Ahead) (word : Lexeme) → token.said ≡ word → Took (token ∷ tokens) tokens (word ∷ [])
took_one token tokens word is = record { said = ap (λ w. w ∷ says tokens) is; left = refl }

drop_nil : (n : ℕ) (none : List ℕ) → none ≡ [] → drop n none ≡ none
drop_nil zero none is = refl
drop_nil (suc n) [] is = refl
drop_nil (suc n) (x ∷ xs) is = absurd (cc)

pub drop_of_drop : (u v : Words) (xs : List ℕ) → drop (length (u ++ v)) xs ≡ drop (length v) (drop (length u) xs)
drop_of_drop [] v xs = refl
drop_of_drop (w ∷ u) v [] = sym (drop_nil (length v) [] refl)
drop_of_drop (w ∷ u) v (x ∷ xs) = drop_of_drop u v xs

pub took_more : {a b c : Ahead} {u v : Words} → Took a b u → Took b c v → Took a c (u ++ v)
took_more {a} {b} {c} {u} {v} first then = record {
  said = first.said ∙ ap (λ w. u ++ w) then.said ∙ sym (append_assoc u v (says c));
  left = drop_of_drop u v (starts a) ∙ ap (drop (length v)) first.left ∙ then.left;
}

pub then_holds : {A B : Type 0} (P : A × Ahead → Type 0) (Q : B × Ahead → Type 0) (read : Read A) (f : A × Ahead → Read B)
    → IfRead read P → ((found : A × Ahead) → P found → IfRead (f found) Q) → IfRead (read >>= f) Q
then_holds P Q (Ok found) f holds more = more found holds
then_holds P Q (Err refusal) f holds more = tt

keyword_is : (k found : Keyword) → is_keyword k (keyword found) ≡ true → found ≡ k
keyword_is k found is = same_true keyword_type (search rules) found k is

symbol_is : (s found : Symbol) → is_symbol s (symbol found) ≡ true → found ≡ s
symbol_is s found is = same_true symbol_type (search rules) found s is

pub is_keyword-found : (k : Keyword) (word : Lexeme) → is_keyword k word ≡ true → word ≡ keyword k
is_keyword-found k (keyword found) is = ap keyword (keyword_is k found is)
is_keyword-found k (name text) is = absurd (cc)
is_keyword-found k (number n) is = absurd (cc)
is_keyword-found k (quoted text) is = absurd (cc)
is_keyword-found k (symbol s) is = absurd (cc)

pub is_symbol-found : (s : Symbol) (word : Lexeme) → is_symbol s word ≡ true → word ≡ symbol s
is_symbol-found s (symbol found) is = ap symbol (symbol_is s found is)
is_symbol-found s (keyword k) is = absurd (cc)
is_symbol-found s (name text) is = absurd (cc)
is_symbol-found s (number n) is = absurd (cc)
is_symbol-found s (quoted text) is = absurd (cc)
