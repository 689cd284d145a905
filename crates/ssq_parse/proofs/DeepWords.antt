-- How many brackets stand open after what a reader takes, and that what it refuses as too deep is so.
use Rattle.std.proofs.Common.{◌≡◌, ℕ, zero, suc, Bool, true, false, ap, ◌∙◌, List, [], ◌∷◌, ◌++◌, drop, length, refl, Option, Some, None, Ok, Err}
use Rattle.std.specs.Prelude.{if◌then◌else◌}
use Rattle.ssq_ast.specs.Expression.{Words, words}
use Rattle.ssq_lex.specs.declared.keyword.Keyword.{Keyword}
use Rattle.ssq_lex.specs.declared.symbol.Symbol.{Symbol}
use Rattle.ssq_lex.specs.declared.symbol.Symbol.TheVariants as mark
use Rattle.ssq_lex.specs.Lexeme.{Lexeme, Lexed, keyword, name, number, quoted, symbol}
use Rattle.ssq_parse.specs.Deep.{open_behind, open_after, DeepBy}
use Rattle.ssq_parse.specs.Expressions.{whole_at}
use Rattle.ssq_parse.specs.Queries.{list_then, list_from, list_at}
use Rattle.ssq_parse.specs.Reading.{Ahead, Read, ◌>>=◌, expected, seen, sees, is_keyword, is_symbol, keyword_at, symbol_at, name_at, quoted_at, number_at, span_at}
use Rattle.ssq_parse.specs.Written.{Took, IfRead, Spelled}
use Rattle.ssq_parse.proofs.Clauses.{number_sound}
use Rattle.ssq_parse.proofs.DeepExpressions.{whole_tells}
use Rattle.ssq_parse.proofs.DeepLemmas.{open_append, closes_all, deep_behind, IfDeep, if_deep, Tells, quiet_tells}
use Rattle.ssq_parse.proofs.DeepParts.{keyword_quiet, symbol_quiet, name_quiet, quoted_quiet, number_quiet, span_quiet}
use Rattle.ssq_parse.proofs.Operands.{keyword_sound, symbol_sound}
use Rattle.ssq_parse.proofs.Primary.{name_sound, quoted_sound, span_sound}
use Rattle.ssq_parse.proofs.Whole.{whole_sound}
use Rattle.ssq_parse.proofs.Words.{took_none, took_one, took_more, is_keyword-found, is_symbol-found}

-- the words in front of the rest, where so many brackets stand open in front of them, and so many after
pub record Leads (many more : ℕ) (tokens rest : Ahead) : Type 0 where
  pub front : Words
  pub took : Took tokens rest front
  pub count : open_after many front ≡ more

abbrev pub Counted : {A : Type 0} → ℕ → ℕ → Ahead → Read A → Type 0
Counted many more tokens (Ok found) = Leads many more tokens found.1
Counted many more tokens (Err refusal) = IfDeep refusal.cause refusal.at (DeepBy many tokens)

pub record Counts {A : Type 0} (many more : ℕ) (reader : Ahead → Read A) : Type 0 where
  pub told : (tokens : Ahead) → Counted many more tokens (reader tokens)

-- the same of a reader where a token stands in front that is no bracket
pub record Behind {A : Type 0} (many more : ℕ) (reader : Ahead → Read A) : Type 0 where
  pub told : (t : Lexed) (ts : Ahead) → open_behind t.said many ≡ many → Counted many more (t ∷ ts) (reader (t ∷ ts))

more_counted : {A : Type 0} (many more most : ℕ) (tokens rest : Ahead) → Leads many more tokens rest → (read : Read A) → Counted more most rest read → Counted many most tokens read
more_counted many more most tokens rest led (Ok found) told = record {
  front = led.front ++ told.front;
  took = took_more led.took told.took;
  count = open_append many led.front told.front ∙ ap (λ n. open_after n told.front) led.count ∙ told.count;
}
more_counted many more most tokens rest led (Err refusal) told = if_deep refusal.cause refusal.at (λ at. deep_behind at led.took led.count) told

then_counted : {A B : Type 0} (many more most : ℕ) (tokens : Ahead) (read : Read A) (f : A × Ahead → Read B) → Counted many more tokens read
    → ((found : A × Ahead) → Counted more most found.1 (f found)) → Counted many most tokens (read >>= f)
then_counted many more most tokens (Ok found) f led next = more_counted many more most tokens found.1 led (f found) (next found)
then_counted many more most tokens (Err refusal) f led next = led

pub followed : {A B : Type 0} {many more most : ℕ} {r : Ahead → Read A} {f : A → Ahead → Read B} → Counts many more r → ((x : A) → Counts more most (f x))
    → Counts many most (λ tokens. r tokens >>= (λ found. f found.0 found.1))
followed {many = many} {more = more} {most = most} {r = r} {f = f} l next = record {
  told = λ tokens. then_counted many more most tokens (r tokens) (λ found. f found.0 found.1) (l.told tokens) (λ found. (next found.0).told found.1);
}

pub pure : {A : Type 0} {many : ℕ} (x : A) → Counts many many (λ tokens. Ok (x, tokens))
pure x = record { told = λ tokens. record { front = []; took = took_none tokens; count = refl } }

pub nothing : {A : Type 0} {many more : ℕ} → Counts {A = A} many more expected
nothing = record { told = λ tokens. tt }

pub skip : {A : Type 0} {many more : ℕ} {r : Ahead → Read A} → Counts many more r → Behind many more (λ tokens. r (drop 1 tokens))
skip {many = many} {more = more} {r = r} l = record {
  told = λ t ts none. more_counted many many more (t ∷ ts) ts (record { front = t.said ∷ []; took = took_one t ts t.said refl; count = none }) (r ts) (l.told ts);
}

-- ---- a word that may stand there, and is no bracket

pub record NoBracket (is : Lexeme → Bool) : Type 0 where
  pub opens_none : (word : Lexeme) → is word ≡ true → (many : ℕ) → open_behind word many ≡ many

pub if_seen : {A : Type 0} {many more : ℕ} (is : Lexeme → Bool) → NoBracket is → (by : Option ℕ → Ahead → Read A) → Counts many more (by None)
    → ((at : ℕ) → Behind many more (by (Some at))) → Counts many more (λ tokens. by (seen is tokens) tokens)
if_seen {many = many} {more = more} is bracket by none some = record { told = all }
  where
    one : (t : Lexed) (ts : Ahead) (b : Bool) → is t.said ≡ b → Counted many more (t ∷ ts) (by (if b then Some t.start else None) (t ∷ ts))
    one t ts true found = (some t.start).told t ts (bracket.opens_none t.said found many)
    one t ts false found = none.told (t ∷ ts)

    all : (tokens : Ahead) → Counted many more tokens (by (seen is tokens) tokens)
    all [] = none.told []
    all (t ∷ ts) = one t ts (is t.said) refl

pub if_sees : {A : Type 0} {many more : ℕ} (is : Lexeme → Bool) (by : Bool → Ahead → Read A) → ((b : Bool) → Counts many more (by b)) → Counts many more (λ tokens. by (sees is tokens) tokens)
if_sees is by l = record { told = λ tokens. (l (sees is tokens)).told tokens }

keyword_none : (k : Keyword) → NoBracket (is_keyword k)
keyword_none k = record { opens_none = λ word is many. rw (is_keyword-found k word is) refl }

pub keyword_seen : {A : Type 0} {many more : ℕ} (k : Keyword) (by : Option ℕ → Ahead → Read A) → Counts many more (by None)
    → ((at : ℕ) → Behind many more (by (Some at))) → Counts many more (λ tokens. by (seen (is_keyword k) tokens) tokens)
keyword_seen k by none some = if_seen (is_keyword k) (keyword_none k) by none some

pub comma_none : NoBracket (is_symbol mark.Comma)
comma_none = record { opens_none = λ word is many. rw (is_symbol-found mark.Comma word is) refl }

-- ---- single words

found_counted : {A : Type 0} {many more : ℕ} {tokens : Ahead} (P : A × Ahead → Type 0) (read : Read A) → IfRead read P → ((found : A × Ahead) → P found → Leads many more tokens found.1)
    → Tells many tokens read → Counted many more tokens read
found_counted P (Ok found) holds leads told = leads found holds
found_counted P (Err refusal) holds leads told = told

pub keyword_counts : {many : ℕ} (k : Keyword) → Counts many many (keyword_at k)
keyword_counts {many = many} k = record {
  told = λ tokens. found_counted (λ found. Took tokens found.1 (keyword k ∷ [])) (keyword_at k tokens) (keyword_sound k tokens)
      (λ found took. record { front = keyword k ∷ []; took = took; count = refl }) (quiet_tells many tokens (keyword_at k tokens) (keyword_quiet k tokens));
}

pub symbol_counts : {many more : ℕ} (s : Symbol) → open_behind (symbol s) many ≡ more → Counts many more (symbol_at s)
symbol_counts {many = many} s is = record {
  told = λ tokens. found_counted (λ found. Took tokens found.1 (symbol s ∷ [])) (symbol_at s tokens) (symbol_sound s tokens)
      (λ found took. record { front = symbol s ∷ []; took = took; count = is }) (quiet_tells many tokens (symbol_at s tokens) (symbol_quiet s tokens));
}

pub name_counts : {many : ℕ} → Counts many many name_at
name_counts {many = many} = record {
  told = λ tokens. found_counted (λ found. Took tokens found.1 (name found.0.text ∷ []) × _) (name_at tokens) (name_sound tokens)
      (λ found named. record { front = name found.0.text ∷ []; took = named.0; count = refl }) (quiet_tells many tokens (name_at tokens) (name_quiet tokens));
}

pub quoted_counts : {many : ℕ} → Counts many many quoted_at
quoted_counts {many = many} = record {
  told = λ tokens. found_counted (λ found. Took tokens found.1 (quoted found.0.1 ∷ [])) (quoted_at tokens) (quoted_sound tokens)
      (λ found took. record { front = quoted found.0.1 ∷ []; took = took; count = refl }) (quiet_tells many tokens (quoted_at tokens) (quoted_quiet tokens));
}

pub number_counts : {many : ℕ} → Counts many many number_at
number_counts {many = many} = record {
  told = λ tokens. found_counted (λ found. Took tokens found.1 (number found.0 ∷ [])) (number_at tokens) (number_sound tokens)
      (λ found took. record { front = number found.0 ∷ []; took = took; count = refl }) (quiet_tells many tokens (number_at tokens) (number_quiet tokens));
}

pub span_counts : {many : ℕ} → Counts many many span_at
span_counts {many = many} = record {
  told = λ tokens. found_counted (λ found. Took tokens found.1 (quoted found.0.text ∷ []) × _) (span_at tokens) (span_sound tokens)
      (λ found spanned. record { front = quoted found.0.text ∷ []; took = spanned.0; count = refl }) (quiet_tells many tokens (span_at tokens) (span_quiet tokens));
}

pub whole_counts : Counts 0 0 whole_at
whole_counts = record {
  told = λ tokens. found_counted (λ found. Spelled 0 64 tokens found.0 found.1) (whole_at tokens) (whole_sound tokens)
      (λ found sp. record { front = words sp.written; took = sp.took; count = closes_all sp.written 0 }) (whole_tells tokens);
}

-- ---- lists with commas

from_counts : {A : Type 0} {many : ℕ} {part : Ahead → Read A} → Counts many many part → (turns : ℕ) (found : List A) → Counts many many (list_from part turns found)
unfolding list_from
from_counts l zero found = nothing
from_counts {part = part} l (suc turns) found =
    followed l (λ next. if_seen (is_symbol mark.Comma) comma_none (list_then (list_from part turns) (found ++ next ∷ [])) (pure _) (λ at. skip (from_counts l turns (found ++ next ∷ []))))

pub list_counts : {A : Type 0} {many : ℕ} {part : Ahead → Read A} → Counts many many part → Counts many many (list_at part)
unfolding list_at
list_counts l = record { told = λ tokens. (from_counts l (length tokens) []).told tokens }
