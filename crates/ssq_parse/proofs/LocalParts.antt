-- The parts of a query are read with one token more than they take.
use Rattle.std.proofs.Common.{◌≡◌, ℕ, ℤ, Bool, true, false, sym, ap, subst, ◌∙◌, List, [], ◌∷◌, drop, refl, Option, Some, None, Ok, Err}
use Rattle.std.specs.Prelude.{if◌then◌else◌}
use Rattle.ssq_ast.specs.declared.expr.Moment.{Moment}
use Rattle.ssq_ast.specs.declared.expr.Span.{Span}
use Rattle.ssq_lex.specs.declared.keyword.Keyword.{Keyword}
use Rattle.ssq_lex.specs.declared.keyword.Keyword.TheVariants as key
use Rattle.ssq_lex.specs.declared.symbol.Symbol.{Symbol}
use Rattle.ssq_lex.specs.declared.symbol.Symbol.TheVariants as mark
use Rattle.ssq_lex.specs.Lexeme.{Lexeme, keyword, name, number, quoted, symbol, Lexed}
use Rattle.ssq_time.specs.Time.{span_of, time_of}
use Rattle.ssq_parse.specs.declared.fault.ParseCause.TheVariants as cause
use Rattle.ssq_parse.specs.Faults.{next_word, IsBadBehind, IsBadNext}
use Rattle.ssq_parse.specs.Reading.{Ahead, Made, Read, Refusal, ◌>>=◌, before, place, expected, first, needed, seen, is_keyword, is_symbol, keyword_at, symbol_at, ident_by, name_at, quoted_by, quoted_at, number_by, number_at, as_micros, micros_at, span_by, span_at, moment_by, moment_at}
use Rattle.ssq_parse.specs.Written.{says}
use Rattle.ssq_parse.proofs.Local.{Local, Told, told_as, behind_told, first_same, then_told, nothing_then, pure, skip, maybe, needs}
use Rattle.ssq_parse.proofs.Words.{is_keyword-found, is_symbol-found}

pub if_seen : {A : Type 0} (is : Lexeme → Bool) (by : Option ℕ → Ahead → Read A) → Local (by None) → ((at : ℕ) → Local (by (Some at)))
    → Local (λ tokens. by (seen is tokens) tokens)
if_seen is by none some = maybe (λ token. if is token.said then Some token.start else None) by none some

pub keyword_local : (k : Keyword) → Local (keyword_at k)
unfolding keyword_at
keyword_local k = needs (λ token. if is_keyword k token.said then Some token.start else None)

pub symbol_local : (s : Symbol) → Local (symbol_at s)
unfolding symbol_at
symbol_local s = needs (λ token. if is_symbol s token.said then Some token.start else None)

pub name_local : Local name_at
unfolding name_at
name_local = needs (λ token. ident_by token.start token.said)

pub quoted_local : Local quoted_at
unfolding quoted_at
quoted_local = needs (λ token. quoted_by token.start token.said)

pub number_local : Local number_at
unfolding number_at
number_local = needs (λ token. number_by token.said)

-- ---- a text that says a span or a time, after a word that asks for one

module _ {A : Type 0} (made : ℕ → List ℕ → Made A) (t : Lexed) where
  -- a text that is not what it has to be is refused where it stands
  pub record Refuses_bad : Type 0 where
    pub bad : (at : ℕ) (text : List ℕ) (refusal : Refusal) → made at text ≡ Err refusal → (refusal ≡ record { at = Some at; cause = cause.BadText }) × IsBadBehind (Some t.said) text

  abbrev get : Lexed → Option (ℕ × List ℕ)
  get token = quoted_by token.start token.said

  abbrev made_of : (ℕ × List ℕ) × Ahead → Read A
  made_of found = before (made found.0.0 found.0.1) found.1

  abbrev by : Option (ℕ × List ℕ) → Ahead → Read A
  by o us = needed o us >>= made_of

  abbrev text_reader : Ahead → Read A
  text_reader us = by (first get us) us

  quoted_is : (at : ℕ) (word : Lexeme) (found : ℕ × List ℕ) → quoted_by at word ≡ Some found → (word ≡ quoted found.1) × (at ≡ found.0)
  quoted_is at (quoted text) found is =
      let same : (at, text) ≡ found = cc in
      (ap (λ (pair : ℕ × List ℕ). quoted pair.1) same, ap (λ (pair : ℕ × List ℕ). pair.0) same)
  quoted_is at (name text) found is = absurd cc
  quoted_is at (number n) found is = absurd cc
  quoted_is at (keyword k) found is = absurd cc
  quoted_is at (symbol s) found is = absurd cc

  -- where the text stands, and what it is
  stands_bad : (ts : Ahead) (found : ℕ × List ℕ) → first get ts ≡ Some found → IsBadBehind (Some t.said) found.1
      → (place ts ≡ Some found.0) × IsBadNext (Some t.said) (next_word (says ts))
  stands_bad [] found is bad = absurd cc
  stands_bad (q ∷ qs) found is bad =
      let said = quoted_is q.start q.said found is in
      (ap Some said.1, subst (λ word. IsBadNext (Some t.said) (Some word)) (sym said.0) bad)

  as_local : (ts : Ahead) (o : Option (ℕ × List ℕ)) (r : Ahead → Read A) → Local r → first get ts ≡ o → ((us : Ahead) → by o us ≡ r us)
      → Told (λ us. text_reader (drop 1 us)) (t ∷ ts) (r ts)
  as_local ts o r l is same =
      behind_told text_reader (λ us. text_reader (drop 1 us)) t ts (r ts) (λ us. refl)
      (told_as r text_reader ts (r ts) (λ us next_is. ap (λ p. by p us) (sym (first_same get ts us next_is) ∙ is) ∙ same us) (l.told ts))

  refused_told : Refuses_bad → (ts : Ahead) (found : ℕ × List ℕ) (refusal : Refusal) → first get ts ≡ Some found → made found.0 found.1 ≡ Err refusal
      → Told (λ us. text_reader (drop 1 us)) (t ∷ ts) (Err refusal)
  refused_told own ts found refusal is m =
      let why = own.bad found.0 found.1 refusal m in
      let here = stands_bad ts found is why.1 in
      subst (λ (refusal : Refusal). made found.0 found.1 ≡ Err refusal → Told (λ us. text_reader (drop 1 us)) (t ∷ ts) (Err refusal)) (sym why.0)
      (λ m. record {
        rest = ts;
        at = here.0;
        seen = record {
          taken = t ∷ [];
          whole = refl;
          same = λ others next_is. ap (λ p. by p others) (sym (first_same get ts others next_is) ∙ is) ∙ ap (λ (one : Made A). before one (drop 1 others)) m;
        };
        bad = here.1;
      }) m

  text_told : Refuses_bad → (ts : Ahead) → Told (λ us. text_reader (drop 1 us)) (t ∷ ts) (text_reader ts)
  text_told own ts = by_found (first get ts) refl
    where
      by_made : (found : ℕ × List ℕ) → first get ts ≡ Some found → (one : Made A) → made found.0 found.1 ≡ one → Told (λ us. text_reader (drop 1 us)) (t ∷ ts) (before one (drop 1 ts))
      by_made found is (Ok x) m = as_local ts (Some found) (λ us. Ok (x, drop 1 us)) (skip (pure x)) is (λ us. ap (λ (one : Made A). before one (drop 1 us)) m)
      by_made found is (Err refusal) m = refused_told own ts found refusal is m

      by_found : (o : Option (ℕ × List ℕ)) → first get ts ≡ o → Told (λ us. text_reader (drop 1 us)) (t ∷ ts) (by o ts)
      by_found None is = as_local ts None (λ us. expected us >>= made_of) (nothing_then made_of) is (λ us. refl)
      by_found (Some found) is = by_made found is (made found.0 found.1) refl

-- after this token a text has to be a span, or a time
abbrev pub Asks : (List ℕ → Option ℤ) → Lexed → Type 0
Asks of t = (text : List ℕ) → of text ≡ None → IsBadBehind (Some t.said) text

abbrev pub AsksSpan : Lexed → Type 0
AsksSpan t = Asks span_of t

abbrev pub AsksTime : Lexed → Type 0
AsksTime t = Asks time_of t

micros_bad : {A : Type 0} (make : List ℕ → ℤ → A) (of : List ℕ → Option ℤ) (t : Lexed) → Asks of t → (at : ℕ) (text : List ℕ) (found : Option ℤ) → of text ≡ found
    → (refusal : Refusal) → as_micros make at text found ≡ Err refusal → (refusal ≡ record { at = Some at; cause = cause.BadText }) × IsBadBehind (Some t.said) text
micros_bad make of t asks at text None none refusal is = (cc, asks text none)
micros_bad make of t asks at text (Some micros) some refusal is = absurd cc

micros_then : {A B : Type 0} (make : List ℕ → ℤ → A) (of : List ℕ → Option ℤ) (f : A → Ahead → Read B) → ((x : A) → Local (f x)) → (t : Lexed) → Asks of t → (ts : Ahead)
    → Told (λ us. micros_at make of (drop 1 us) >>= (λ found. f found.0 found.1)) (t ∷ ts) (micros_at make of ts >>= (λ found. f found.0 found.1))
unfolding quoted_at
micros_then make of f more t asks ts =
    then_told (λ us. micros_at make of (drop 1 us)) (λ found. f found.0 found.1) (t ∷ ts) (micros_at make of ts)
    (text_told (λ at text. as_micros make at text (of text)) t (record { bad = λ at text. micros_bad make of t asks at text (of text) refl }) ts)
    (λ found s. (more found.0).told found.1)

pub span_then : {B : Type 0} (f : Span → Ahead → Read B) → ((x : Span) → Local (f x)) → (t : Lexed) → AsksSpan t → (ts : Ahead)
    → Told (λ us. span_at (drop 1 us) >>= (λ found. f found.0 found.1)) (t ∷ ts) (span_at ts >>= (λ found. f found.0 found.1))
unfolding span_at
span_then f more t asks ts = micros_then span_by span_of f more t asks ts

pub moment_then : {B : Type 0} (f : Moment → Ahead → Read B) → ((x : Moment) → Local (f x)) → (t : Lexed) → AsksTime t → (ts : Ahead)
    → Told (λ us. moment_at (drop 1 us) >>= (λ found. f found.0 found.1)) (t ∷ ts) (moment_at ts >>= (λ found. f found.0 found.1))
unfolding moment_at
moment_then f more t asks ts = micros_then moment_by time_of f more t asks ts

-- ---- the words that ask for a span or a time

when_is : (b : Bool) (place at : ℕ) → (if b then Some place else None) ≡ Some at → b ≡ true
when_is true place at is = refl
when_is false place at is = absurd cc

pub asks_behind : (t : Lexed) (word : Lexeme) → t.said ≡ word → ((text : List ℕ) → span_of text ≡ None → IsBadBehind (Some word) text) → AsksSpan t
asks_behind t word is asks text none = subst (λ w. IsBadBehind (Some w) text) (sym is) (asks text none)

pub delay_asks : (at : ℕ) (t : Lexed) → (if is_keyword key.Delay t.said then Some t.start else None) ≡ Some at → AsksSpan t
delay_asks at t is = asks_behind t (keyword key.Delay) (is_keyword-found key.Delay t.said (when_is (is_keyword key.Delay t.said) t.start at is)) (λ text none. none)

pub comma_asks : (at : ℕ) (t : Lexed) → (if is_symbol mark.Comma t.said then Some t.start else None) ≡ Some at → AsksSpan t
comma_asks at t is = asks_behind t (symbol mark.Comma) (is_symbol-found mark.Comma t.said (when_is (is_symbol mark.Comma t.said) t.start at is)) (λ text none. none)

pub interval_asks : (t : Lexed) → t.said ≡ keyword key.Interval → AsksSpan t
interval_asks t is = asks_behind t (keyword key.Interval) is (λ text none. none)

pub timestamp_asks : (t : Lexed) → t.said ≡ keyword key.Timestamp → AsksTime t
timestamp_asks t is text none = subst (λ w. IsBadBehind (Some w) text) (sym is) none
