-- A reader that stops for a missing token has taken the beginning of something that is written.
use Rattle.std.proofs.Common.{◌≡◌, ℕ, ℤ, sym, ap, ◌∙◌, refl, List, [], ◌∷◌, ◌++◌, Option, Some, None, Ok, Err, append_assoc, append-nil}
use Rattle.std.specs.Prelude.{if◌then◌else◌}
use Rattle.ssq_ast.specs.Expression.{Words}
use Rattle.ssq_lex.specs.declared.keyword.Keyword.{Keyword}
use Rattle.ssq_lex.specs.declared.symbol.Symbol.{Symbol}
use Rattle.ssq_lex.specs.Lexeme.{Lexeme, keyword, name, number, quoted, symbol, Lexed}
use Rattle.ssq_time.specs.Time.{span_of, time_of}
use Rattle.ssq_parse.specs.declared.fault.ParseCause.{ParseCause}
use Rattle.ssq_parse.specs.declared.fault.ParseCause.TheVariants as cause
use Rattle.ssq_parse.specs.Reading.{Ahead, Made, Read, Refusal, ◌>>=◌, before, place, first, needed, is_keyword, is_symbol, keyword_at, symbol_at, name_at, ident_by, quoted_at, quoted_by, number_at, number_by, as_micros, micros_at, span_by, span_at, moment_by, moment_at}
use Rattle.ssq_parse.specs.Written.{Took, IfRead}
use Rattle.ssq_parse.proofs.Local.{IfMissing, Unexpected, if_missing}
use Rattle.ssq_parse.proofs.Words.{took_more}

-- the first word is a text
abbrev pub BeginsText : Words → Type 0
BeginsText (quoted text ∷ ws) = Unit {0}
BeginsText other = ⊥

-- where a text is refused, some text goes on
abbrev pub IfText : ParseCause → Words → Type 0
IfText cause.BadText more = BeginsText more
IfText other more = Unit {0}

-- Where a token is missing or a text is refused, the words in front of it begin what is written.
pub record Begun {W : Type 0} (wrote : W → Words) (good : W → Type 0) (tokens : Ahead) (refusal : Refusal) : Type 0 where
  pub front : Words
  pub rest : Ahead
  pub took : Took tokens rest front
  pub here : place rest ≡ refusal.at
  pub written : W
  pub is_good : good written
  pub more : Words
  pub said : wrote written ≡ front ++ more
  pub text : IfText refusal.cause more

abbrev pub IfBegun : {W A : Type 0} → (W → Words) → (W → Type 0) → Ahead → Read A → Type 0
IfBegun wrote good tokens (Ok found) = Unit {0}
IfBegun wrote good tokens (Err refusal) = IfMissing refusal.cause refusal.at (Begun wrote good tokens refusal)

-- ---- a part, and the whole that it stands in

parts_said : (u front more tail part : Words) → part ≡ front ++ more → u ++ (part ++ tail) ≡ (u ++ front) ++ (more ++ tail)
parts_said u front more tail part is =
    ap (λ ws. u ++ (ws ++ tail)) is ∙ ap (λ ws. u ++ ws) (append_assoc front more tail) ∙ sym (append_assoc u front (more ++ tail))

text_then : (c : ParseCause) (more tail : Words) → IfText c more → IfText c (more ++ tail)
text_then cause.BadText (quoted text ∷ ws) tail is = tt
text_then cause.BadText other tail is = absurd is
text_then other more tail is = tt

-- the last part
pub at_end : (whole u part : Words) → whole ≡ u ++ part → whole ≡ u ++ (part ++ [])
at_end whole u part is = is ∙ ap (λ ws. u ++ ws) (sym (append-nil part))

module _ {W V : Type 0} (part : W → Words) (good : W → Type 0) (wrote : V → Words) (fine : V → Type 0) {start mid : Ahead} (u tail : Words) (took : Took start mid u)
    (make : W → V) (made : (w : W) → good w → fine (make w)) (said : (w : W) → wrote (make w) ≡ u ++ (part w ++ tail)) where
  -- what begins a part begins the whole
  pub begun_map : {refusal : Refusal} → Begun part good mid refusal → Begun wrote fine start refusal
  begun_map {refusal = refusal} b = record {
    front = u ++ b.front;
    rest = b.rest;
    took = took_more took b.took;
    here = b.here;
    written = make b.written;
    is_good = made b.written b.is_good;
    more = b.more ++ tail;
    said = said b.written ∙ parts_said u b.front b.more tail (part b.written) b.said;
    text = text_then refusal.cause b.more tail b.text;
  }

  pub if_begun_map : {A : Type 0} (read : Read A) → IfBegun part good mid read → IfBegun wrote fine start read
  if_begun_map (Ok found) begun = tt
  if_begun_map (Err refusal) begun = if_missing refusal.cause refusal.at begun_map begun

-- ---- one reader after another

module _ {W A B : Type 0} (wrote : W → Words) (good : W → Type 0) (tokens : Ahead) where
  pub begun_then : (P : A × Ahead → Type 0) (read : Read A) (f : A × Ahead → Read B) → IfRead read P → IfBegun wrote good tokens read
      → ((found : A × Ahead) → P found → IfBegun wrote good tokens (f found)) → IfBegun wrote good tokens (read >>= f)
  begun_then P (Ok found) f holds begun more = more found holds
  begun_then P (Err refusal) f holds begun more = begun

  -- where nothing has to be known of what was read
  pub begun_any : (read : Read A) (f : A × Ahead → Read B) → IfBegun wrote good tokens read → ((found : A × Ahead) → IfBegun wrote good tokens (f found))
      → IfBegun wrote good tokens (read >>= f)
  begun_any (Ok found) f begun more = more found
  begun_any (Err refusal) f begun more = begun

-- what is made of what was read lacks no token
pub never_begun : {W A : Type 0} (wrote : W → Words) (good : W → Type 0) (tokens rest : Ahead) (made : Made A) → Unexpected made → IfBegun wrote good tokens (before made rest)
never_begun wrote good tokens rest (Ok x) never = tt
never_begun wrote good tokens rest (Err refusal) never = if_missing refusal.cause refusal.at (λ no. absurd no) never

-- ---- a single token that is missing

-- what is refused is the next token, and with these words something goes on there
abbrev pub RefusesNext : {A : Type 0} → Words → Ahead → Read A → Type 0
RefusesNext more rest (Ok found) = Unit {0}
RefusesNext more rest (Err refusal) = IfMissing refusal.cause refusal.at ((place rest ≡ refusal.at) × IfText refusal.cause more)

-- after these words it is refused, and something goes on with these
pub begun_next : {W A : Type 0} (wrote : W → Words) (good : W → Type 0) (start rest : Ahead) (u more : Words) (read : Read A) → RefusesNext more rest read → Took start rest u
    → (w : W) → good w → wrote w ≡ u ++ more → IfBegun wrote good start read
begun_next wrote good start rest u more (Ok found) next took w is said = tt
begun_next wrote good start rest u more (Err refusal) next took w is said =
    if_missing refusal.cause refusal.at (λ refuses. record { front = u; rest = rest; took = took; here = refuses.0; written = w; is_good = is; more = more; said = said; text = refuses.1 }) next

needed_next : {A : Type 0} (more : Words) (found : Option A) (rest : Ahead) → RefusesNext more rest (needed found rest)
needed_next more None rest = (refl, tt)
needed_next more (Some x) rest = tt

pub keyword_next : (k : Keyword) (more : Words) (rest : Ahead) → RefusesNext more rest (keyword_at k rest)
unfolding keyword_at
keyword_next k more rest = needed_next more (first (λ token. if is_keyword k token.said then Some token.start else None) rest) rest

pub symbol_next : (s : Symbol) (more : Words) (rest : Ahead) → RefusesNext more rest (symbol_at s rest)
unfolding symbol_at
symbol_next s more rest = needed_next more (first (λ token. if is_symbol s token.said then Some token.start else None) rest) rest

pub name_next : (more : Words) (rest : Ahead) → RefusesNext more rest (name_at rest)
unfolding name_at
name_next more rest = needed_next more (first (λ token. ident_by token.start token.said) rest) rest

pub quoted_next : (more : Words) (rest : Ahead) → RefusesNext more rest (quoted_at rest)
unfolding quoted_at
quoted_next more rest = needed_next more (first (λ token. quoted_by token.start token.said) rest) rest

pub number_next : (more : Words) (rest : Ahead) → RefusesNext more rest (number_at rest)
unfolding number_at
number_next more rest = needed_next more (first (λ token. number_by token.said) rest) rest

-- ---- a text that says no time, where one has to stand

module _ {A : Type 0} (make : List ℕ → ℤ → A) (of : List ℕ → Option ℤ) (some_text : List ℕ) where
  abbrev more : Words
  more = quoted some_text ∷ []

  made_next : (t : Lexed) (ts : Ahead) (text : List ℕ) (micros : Option ℤ) → RefusesNext more (t ∷ ts) (before (as_micros make t.start text micros) ts)
  made_next t ts text None = (refl, tt)
  made_next t ts text (Some micros) = tt

  word_next : (t : Lexed) (ts : Ahead) (word : Lexeme)
      → RefusesNext more (t ∷ ts) (needed (quoted_by t.start word) (t ∷ ts) >>= (λ found. before (as_micros make found.0.0 found.0.1 (of found.0.1)) found.1))
  word_next t ts (quoted text) = made_next t ts text (of text)
  word_next t ts (name text) = (refl, tt)
  word_next t ts (number n) = (refl, tt)
  word_next t ts (keyword k) = (refl, tt)
  word_next t ts (symbol s) = (refl, tt)

  micros_next : (rest : Ahead) → RefusesNext more rest (micros_at make of rest)
  unfolding quoted_at
  micros_next [] = (refl, tt)
  micros_next (t ∷ ts) = word_next t ts t.said

pub span_next : (text : List ℕ) (rest : Ahead) → RefusesNext (quoted text ∷ []) rest (span_at rest)
unfolding span_at
span_next text rest = micros_next span_by span_of text rest

pub moment_next : (text : List ℕ) (rest : Ahead) → RefusesNext (quoted text ∷ []) rest (moment_at rest)
unfolding moment_at
moment_next text rest = micros_next moment_by time_of text rest
