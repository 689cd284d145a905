-- Readers that take a phrase of the grammar, or what begins one where a token is missing or a text is refused.
use Rattle.std.proofs.Common.{◌≡◌, ℕ, Bool, true, false, sym, ◌∙◌, zero, suc, List, [], ◌∷◌, ◌++◌, map, drop, length, refl, Option, Some, None, Ok, Err, append-nil}
use Rattle.std.specs.Prelude.{if◌then◌else◌}
use Rattle.ssq_ast.specs.Expression.{Words}
use Rattle.ssq_ast.specs.Statement.{Each, IsFilled, comma, separated}
use Rattle.ssq_lex.specs.declared.keyword.Keyword.{Keyword}
use Rattle.ssq_lex.specs.declared.symbol.Symbol.{Symbol}
use Rattle.ssq_lex.specs.declared.symbol.Symbol.TheVariants as mark
use Rattle.ssq_lex.specs.Lexeme.{Lexeme, keyword, symbol, Lexed}
use Rattle.ssq_parse.specs.Queries.{list_then, list_from, list_at}
use Rattle.ssq_parse.specs.Reading.{Ahead, Read, Refusal, ◌>>=◌, seen, is_keyword, is_symbol, keyword_at, symbol_at}
use Rattle.ssq_parse.specs.Written.{Took, IfRead}
use Rattle.ssq_parse.proofs.Begun.{Begun, IfBegun, at_end, begun_map, RefusesNext, keyword_next, symbol_next}
use Rattle.ssq_parse.proofs.Local.{IfMissing, if_missing}
use Rattle.ssq_parse.proofs.Operands.{symbol_sound, keyword_sound}
use Rattle.ssq_parse.proofs.Parts.{Always, keep}
use Rattle.ssq_parse.proofs.Words.{took_none, took_one, took_more, is_keyword-found, is_symbol-found}

-- ---- phrases

-- phrases of one kind, as they are written, and one of them
pub record Phrases : Type 1 where
  pub Form : Type 0
  pub wrote : Form → Words
  pub good : Form → Type 0
  pub one : Form
  pub fine : good one

abbrev pub nothing : Phrases
nothing = record { Form = Unit {0}; wrote = λ w. []; good = Always; one = tt; fine = tt }

abbrev pub word : Lexeme → Phrases
word said = record { Form = Unit {0}; wrote = λ w. said ∷ []; good = Always; one = tt; fine = tt }

-- one after the other
abbrev pub both : Phrases → Phrases → Phrases
both L M = record {
  Form = L.Form × M.Form;
  wrote = λ w. L.wrote w.0 ++ M.wrote w.1;
  good = λ w. L.good w.0 × M.good w.1;
  one = (L.one, M.one);
  fine = (L.fine, M.fine);
}

-- with commas between them
abbrev pub listed : Phrases → Phrases
listed L = record {
  Form = List L.Form;
  wrote = λ ws. separated (map L.wrote ws);
  good = λ ws. IsFilled ws × Each L.good ws;
  one = L.one ∷ [];
  fine = (tt, (L.fine, tt));
}

-- phrases of one kind that are phrases of another, in the same words
pub record Becomes (L M : Phrases) : Type 0 where
  pub make : L.Form → M.Form
  pub made : (w : L.Form) → L.good w → M.good (make w)
  pub said : (w : L.Form) → L.good w → M.wrote (make w) ≡ L.wrote w

-- ---- readers

-- a phrase was taken
pub record Taken (L : Phrases) (tokens rest : Ahead) : Type 0 where
  pub written : L.Form
  pub is_good : L.good written
  pub took : Took tokens rest (L.wrote written)

abbrev pub BegunBy : Phrases → Ahead → Refusal → Type 0
BegunBy L tokens refusal = Begun L.wrote L.good tokens refusal

abbrev pub Told : {A : Type 0} → Phrases → Ahead → Read A → Type 0
Told L tokens (Ok found) = Taken L tokens found.1
Told L tokens (Err refusal) = IfMissing refusal.cause refusal.at (BegunBy L tokens refusal)

pub record Tells {A : Type 0} (L : Phrases) (reader : Ahead → Read A) : Type 0 where
  pub told : (tokens : Ahead) → Told L tokens (reader tokens)

-- the same where this word stands in front
pub record Behind {A : Type 0} (said : Lexeme) (L : Phrases) (reader : Ahead → Read A) : Type 0 where
  pub told : (t : Lexed) (ts : Ahead) → t.said ≡ said → Told L (t ∷ ts) (reader (t ∷ ts))

pub told_by : {A : Type 0} (L : Phrases) (tokens : Ahead) (read : Read A) → IfRead read (λ found. Taken L tokens found.1) → IfBegun L.wrote L.good tokens read → Told L tokens read
told_by L tokens (Ok found) taken begun = taken
told_by L tokens (Err refusal) taken begun = begun

-- a reader that refuses the next token, or takes a phrase
next_told : {A : Type 0} (L : Phrases) (tokens : Ahead) (read : Read A) → IfRead read (λ found. Taken L tokens found.1) → RefusesNext (L.wrote L.one) tokens read → Told L tokens read
next_told L tokens (Ok found) taken next = taken
next_told L tokens (Err refusal) taken next =
    if_missing refusal.cause refusal.at (λ refuses. record { front = []; rest = tokens; took = took_none tokens; here = refuses.0; written = L.one; is_good = L.fine; more = L.wrote L.one; said = refl; text = refuses.1 }) next

pub next_tells : {A : Type 0} (L : Phrases) (reader : Ahead → Read A) → ((tokens : Ahead) → IfRead (reader tokens) (λ found. Taken L tokens found.1)) → ((tokens : Ahead) → RefusesNext (L.wrote L.one) tokens (reader tokens))
    → Tells L reader
next_tells L reader taken next = record { told = λ tokens. next_told L tokens (reader tokens) (taken tokens) (next tokens) }

pub word_tells : (k : Keyword) → Tells (word (keyword k)) (keyword_at k)
word_tells k = next_tells (word (keyword k)) (keyword_at k) (λ tokens. keep (keyword_at k tokens) (keyword_sound k tokens) (λ found took. record { written = tt; is_good = tt; took = took })) (keyword_next k (keyword k ∷ []))

pub symbol_tells : (s : Symbol) → Tells (word (symbol s)) (symbol_at s)
symbol_tells s = next_tells (word (symbol s)) (symbol_at s) (λ tokens. keep (symbol_at s tokens) (symbol_sound s tokens) (λ found took. record { written = tt; is_good = tt; took = took })) (symbol_next s (symbol s ∷ []))

-- ---- the same words as phrases of another kind

module _ (L M : Phrases) (turn : Becomes L M) (tokens : Ahead) where
  begun_as : {refusal : Refusal} → BegunBy L tokens refusal → BegunBy M tokens refusal
  begun_as b = record {
    front = b.front;
    rest = b.rest;
    took = b.took;
    here = b.here;
    written = turn.make b.written;
    is_good = turn.made b.written b.is_good;
    more = b.more;
    said = turn.said b.written b.is_good ∙ b.said;
    text = b.text;
  }

  taken_as : (rest : Ahead) → Taken L tokens rest → Taken M tokens rest
  taken_as rest t =
      let same : M.wrote (turn.make t.written) ≡ L.wrote t.written = turn.said t.written t.is_good in
      record { written = turn.make t.written; is_good = turn.made t.written t.is_good; took = rw same t.took }

  told_as : {A : Type 0} (read : Read A) → Told L tokens read → Told M tokens read
  told_as (Ok found) told = taken_as found.1 told
  told_as (Err refusal) told = if_missing refusal.cause refusal.at begun_as told

pub tells_as : {A : Type 0} {L M : Phrases} {r : Ahead → Read A} → Becomes L M → Tells L r → Tells M r
tells_as {L = L} {M = M} {r = r} turn t = record { told = λ tokens. told_as L M turn tokens (r tokens) (t.told tokens) }

-- ---- one after the other

module _ (L M : Phrases) (tokens : Ahead) where
  begun_front : {refusal : Refusal} → BegunBy L tokens refusal → BegunBy (both L M) tokens refusal
  begun_front = begun_map L.wrote L.good (both L M).wrote (both L M).good [] (M.wrote M.one) (took_none tokens) (λ w. (w, M.one)) (λ w is. (is, M.fine)) (λ w. refl)

  module _ (mid : Ahead) (t : Taken L tokens mid) where
    begun_back : {refusal : Refusal} → BegunBy M mid refusal → BegunBy (both L M) tokens refusal
    begun_back = begun_map M.wrote M.good (both L M).wrote (both L M).good (L.wrote t.written) [] t.took (λ w. (t.written, w)) (λ w is. (t.is_good, is)) (λ w. at_end _ (L.wrote t.written) (M.wrote w) refl)

    told_more : {A : Type 0} (read : Read A) → Told M mid read → Told (both L M) tokens read
    told_more (Ok found) told = record { written = (t.written, told.written); is_good = (t.is_good, told.is_good); took = took_more t.took told.took }
    told_more (Err refusal) told = if_missing refusal.cause refusal.at begun_back told

  told_then : {A B : Type 0} (read : Read A) (f : A × Ahead → Read B) → Told L tokens read → ((found : A × Ahead) → Told M found.1 (f found)) → Told (both L M) tokens (read >>= f)
  told_then (Ok found) f told more = told_more found.1 told (f found) (more found)
  told_then (Err refusal) f told more = if_missing refusal.cause refusal.at begun_front told

pub followed : {A B : Type 0} {L M : Phrases} {r : Ahead → Read A} {f : A → Ahead → Read B} → Tells L r → ((x : A) → Tells M (f x))
    → Tells (both L M) (λ tokens. r tokens >>= (λ found. f found.0 found.1))
followed {L = L} {M = M} {r = r} {f = f} t more = record { told = λ tokens. told_then L M tokens (r tokens) (λ found. f found.0 found.1) (t.told tokens) (λ found. (more found.0).told found.1) }

-- ---- no word, or the last

pub pure : {A : Type 0} (L : Phrases) (w : L.Form) → L.good w → L.wrote w ≡ [] → (x : A) → Tells L (λ tokens. Ok (x, tokens))
pure L w is none x = record { told = λ tokens. record { written = w; is_good = is; took = rw none (took_none tokens) } }

last_told : {A B : Type 0} (L : Phrases) (tokens : Ahead) (read : Read A) (make : A → B) → Told L tokens read → Told L tokens (read >>= (λ found. Ok (make found.0, found.1)))
last_told L tokens (Ok found) make told = told
last_told L tokens (Err refusal) make told = told

pub last : {A B : Type 0} {L : Phrases} {r : Ahead → Read A} (make : A → B) → Tells L r → Tells L (λ tokens. r tokens >>= (λ found. Ok (make found.0, found.1)))
last {L = L} {r = r} make t = record { told = λ tokens. last_told L tokens (r tokens) make (t.told tokens) }

-- ---- what may stand there, or not

pub skip : {A : Type 0} {said : Lexeme} {L M : Phrases} {r : Ahead → Read A} → Becomes (both (word said) L) M → Tells L r → Behind said M (λ tokens. r (drop 1 tokens))
skip {said = said} {L = L} {M = M} {r = r} turn t = record {
  told = λ first ts is.
      told_as (both (word said) L) M turn (first ∷ ts) (r ts)
      (told_more (word said) L (first ∷ ts) ts (record { written = tt; is_good = tt; took = took_one first ts said is }) (r ts) (t.told ts));
}

module _ {A : Type 0} (L : Phrases) (is : Lexeme → Bool) (said : Lexeme) (found : (w : Lexeme) → is w ≡ true → w ≡ said) (by : Option ℕ → Ahead → Read A)
    (none : Tells L (by None)) (some_at : (at : ℕ) → Behind said L (by (Some at))) where
  by_test : (t : Lexed) (ts : Ahead) (b : Bool) → (b ≡ true → t.said ≡ said) → Told L (t ∷ ts) (by (if b then Some t.start else None) (t ∷ ts))
  by_test t ts true is = (some_at t.start).told t ts (is refl)
  by_test t ts false is = none.told (t ∷ ts)

  seen_told : (tokens : Ahead) → Told L tokens (by (seen is tokens) tokens)
  seen_told [] = none.told []
  seen_told (t ∷ ts) = by_test t ts (is t.said) (found t.said)

  pub if_seen : Tells L (λ tokens. by (seen is tokens) tokens)
  if_seen = record { told = seen_told }

pub if_keyword : {A : Type 0} {L : Phrases} (k : Keyword) (by : Option ℕ → Ahead → Read A) → Tells L (by None) → ((at : ℕ) → Behind (keyword k) L (by (Some at)))
    → Tells L (λ tokens. by (seen (is_keyword k) tokens) tokens)
if_keyword {L = L} k by none some_at = if_seen L (is_keyword k) (keyword k) (is_keyword-found k) by none some_at

pub if_symbol : {A : Type 0} {L : Phrases} (s : Symbol) (by : Option ℕ → Ahead → Read A) → Tells L (by None) → ((at : ℕ) → Behind (symbol s) L (by (Some at)))
    → Tells L (λ tokens. by (seen (is_symbol s) tokens) tokens)
if_symbol {L = L} s by none some_at = if_seen L (is_symbol s) (symbol s) (is_symbol-found s) by none some_at

-- ---- lists with commas

module _ {A : Type 0} (L : Phrases) (part : Ahead → Read A) (tells : Tells L part) where
  -- what stands after the first
  abbrev other_words : List L.Form → Words
  other_words [] = []
  other_words (w ∷ ws) = comma ∷ separated (map L.wrote (w ∷ ws))

  abbrev others : Phrases
  others = record { Form = List L.Form; wrote = other_words; good = Each L.good; one = []; fine = tt }

  one_said : (w : L.Form) (ws : List L.Form) → separated (map L.wrote (w ∷ ws)) ≡ L.wrote w ++ other_words ws
  one_said w [] = sym (append-nil (L.wrote w))
  one_said w (v ∷ ws) = refl

  all_said : (ws : List L.Form) → IsFilled ws → other_words ws ≡ comma ∷ separated (map L.wrote ws)
  all_said [] filled = absurd filled
  all_said (w ∷ ws) filled = refl

  list_from_tells : (turns : ℕ) (found : List A) → Tells (listed L) (list_from part turns found)
  unfolding list_from
  list_from_tells zero found = next_tells (listed L) (list_from part zero found) (λ tokens. tt) (λ tokens. (refl, tt))
  list_from_tells (suc turns) found =
      tells_as (record { make = λ w. w.0 ∷ w.1; made = λ w is. (tt, is); said = λ w is. one_said w.0 w.1 })
      (followed tells (λ x. if_symbol mark.Comma (list_then (list_from part turns) (found ++ x ∷ [])) (pure others [] tt refl (found ++ x ∷ []))
      (λ at. skip (record { make = λ w. w.1; made = λ w is. is.1.1; said = λ w is. all_said w.1 is.1.0 }) (list_from_tells turns (found ++ x ∷ [])))))

  pub list_tells : Tells (listed L) (list_at part)
  unfolding list_at
  list_tells = record { told = λ tokens. (list_from_tells (length tokens) []).told tokens }
