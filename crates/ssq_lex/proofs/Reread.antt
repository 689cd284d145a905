-- What is printed is read again.
use Rattle.std.proofs.Common.{◌≡◌, ℕ, ◌+◌, ◌≤◌, Bool, true, false, if◌then◌else◌, true≢false, List, [], ◌∷◌, ◌++◌, length, get_or, map, Some, None, sym, refl, ap, ◌∙◌, subst, arith, append_assoc, append-nil, length-append, drop_at}
use Rattle.std.specs.Fmt.{signed_decimal}
use Rattle.std.specs.List.{All}
use Rattle.std.proofs.lemmas.List.Elements.{All-head, All-tail}
use Rattle.ssq_lex.specs.declared.printer.End.{End}
use Rattle.ssq_lex.specs.declared.printer.End.TheVariants as end
use Rattle.ssq_lex.specs.declared.symbol.Symbol.{Symbol}
use Rattle.ssq_lex.specs.declared.symbol.Symbol.TheVariants as mark
use Rattle.ssq_lex.specs.Cut.{Cut, front, followed, token_at, skipped, cut_from, cut_of, whole, tokens_of}
use Rattle.ssq_lex.specs.Lexeme.{Lexeme, keyword, name, number, quoted, symbol, Lexed, doubled}
use Rattle.ssq_lex.specs.Printing.{word_text, word_end, keyword_end, symbol_end, is_joined, touches, lead, Printed, blank, with_word, with_words, printed}
use Rattle.ssq_lex.specs.Sayable.{IsSayable, AreRead}
use Rattle.ssq_lex.specs.Spelling.{keyword_spelling, symbol_spelling}
use Rattle.ssq_lex.proofs.Heads.{is_stop, Stops, word_head, word_some}
use Rattle.ssq_lex.proofs.Steps.{cut_from-found}

-- the text of words after a word that stands so
abbrev pub after : End → List Lexeme → List ℕ
after last [] = []
after last (word ∷ words) = lead last word ++ (word_text word ++ after (word_end word) words)

pub printed_after : (p : Printed) (words : List Lexeme) → (with_words p words).text ≡ p.text ++ after p.last words
unfolding with_word
printed_after p [] = sym (append-nil p.text)
printed_after p (word ∷ words) =
    printed_after (with_word p word) words
    ∙ append_assoc (p.text ++ lead p.last word) (word_text word) (after (word_end word) words)
    ∙ append_assoc p.text (lead p.last word) (word_text word ++ after (word_end word) words)

-- after a word that does not stand joined, the text stops it
symbol_stops : (last : End) (s : Symbol) (rest : List ℕ) → is_joined last ≡ false → is_stop (get_or (lead last (symbol s) ++ (symbol_spelling s ++ rest)) 0 0) ≡ true
unfolding symbol_spelling
symbol_stops end.Joined s rest apart = absurd (true≢false apart)
symbol_stops end.Applied mark.LeftParen rest apart = refl
symbol_stops end.Applied mark.RightParen rest apart = refl
symbol_stops end.Applied mark.Comma rest apart = refl
symbol_stops end.Applied mark.Semicolon rest apart = refl
symbol_stops end.Applied mark.Dot rest apart = refl
symbol_stops end.Applied mark.Plus rest apart = refl
symbol_stops end.Applied mark.Minus rest apart = refl
symbol_stops end.Applied mark.Star rest apart = refl
symbol_stops end.Applied mark.Percent rest apart = refl
symbol_stops end.Applied mark.Concat rest apart = refl
symbol_stops end.Applied mark.Equal rest apart = refl
symbol_stops end.Applied mark.NotEqual rest apart = refl
symbol_stops end.Applied mark.Less rest apart = refl
symbol_stops end.Applied mark.AtMost rest apart = refl
symbol_stops end.Applied mark.Greater rest apart = refl
symbol_stops end.Applied mark.AtLeast rest apart = refl
symbol_stops end.Apart mark.LeftParen rest apart = refl
symbol_stops end.Apart mark.RightParen rest apart = refl
symbol_stops end.Apart mark.Comma rest apart = refl
symbol_stops end.Apart mark.Semicolon rest apart = refl
symbol_stops end.Apart mark.Dot rest apart = refl
symbol_stops end.Apart mark.Plus rest apart = refl
symbol_stops end.Apart mark.Minus rest apart = refl
symbol_stops end.Apart mark.Star rest apart = refl
symbol_stops end.Apart mark.Percent rest apart = refl
symbol_stops end.Apart mark.Concat rest apart = refl
symbol_stops end.Apart mark.Equal rest apart = refl
symbol_stops end.Apart mark.NotEqual rest apart = refl
symbol_stops end.Apart mark.Less rest apart = refl
symbol_stops end.Apart mark.AtMost rest apart = refl
symbol_stops end.Apart mark.Greater rest apart = refl
symbol_stops end.Apart mark.AtLeast rest apart = refl

other_stops : (last : End) (text : List ℕ) → is_joined last ≡ false → is_stop (get_or ((if is_joined last then [] else 32 ∷ []) ++ text) 0 0) ≡ true
other_stops end.Joined text apart = absurd (true≢false apart)
other_stops end.Applied text apart = refl
other_stops end.Apart text apart = refl

after_stops : (last : End) (words : List Lexeme) → is_joined last ≡ false → is_stop (get_or (after last words) 0 0) ≡ true
after_stops last [] apart = refl
after_stops last (keyword k ∷ words) apart = other_stops last (keyword_spelling k ++ after (keyword_end k) words) apart
after_stops last (name text ∷ words) apart = other_stops last (text ++ after end.Apart words) apart
after_stops last (number n ∷ words) apart = other_stops last (signed_decimal n ++ after end.Apart words) apart
after_stops last (quoted text ∷ words) apart = other_stops last ((39 ∷ doubled text ++ 39 ∷ []) ++ after end.Apart words) apart
after_stops last (symbol s ∷ words) apart = symbol_stops last s (after (symbol_end s) words) apart

-- these words are found, and no fault
pub record AreFound (words : List Lexeme) (cut : Cut) : Type 0 where
  pub found : List Lexed
  pub is : cut ≡ record { tokens = found; fault = None }
  pub said : map (λ token. token.said) found ≡ words

blank_skipped : (at : ℕ) (text : List ℕ) → cut_from 0 at (32 ∷ text) ≡ cut_from 0 (at + 1) text
unfolding front
blank_skipped at text = cut_from-found (32 ∷ text) at (skipped 1) refl (omega arith) (omega arith)

behind_lead : (touching : Bool) (words : List Lexeme) (at : ℕ) (text : List ℕ) → ((place : ℕ) → AreFound words (cut_from 0 place text)) → AreFound words (cut_from 0 at ((if touching then [] else 32 ∷ []) ++ text))
behind_lead true words at text found = found at
behind_lead false words at text found = subst (AreFound words) (sym (blank_skipped at text)) (found (at + 1))

word_found : (word : Lexeme) (words : List Lexeme) (at : ℕ) (rest : List ℕ) → IsSayable word → Stops word rest → AreFound words (cut_from 0 (at + length (word_text word)) rest) → AreFound (word ∷ words) (cut_from 0 at (word_text word ++ rest))
word_found word words at rest sayable stops behind =
    let len : ℕ = length (word_text word) in
    let within : length (word_text word) ≤ length (word_text word ++ rest) = omega (arith, length-append (word_text word) rest) in
    let token : List Lexed = token_at at (length (word_text word)) (Some word) in
    record {
      found = token_at at (length (word_text word)) (Some word) ++ behind.found;
      is = cut_from-found (word_text word ++ rest) at (record { said = Some word; len = length (word_text word) }) (word_head word rest sayable stops) (word_some word sayable) within
          ∙ ap (λ t. followed (token_at at (length (word_text word)) (Some word)) (cut_from 0 (at + length (word_text word)) t)) (drop_at (word_text word) rest (length (word_text word)) refl)
          ∙ ap (followed (token_at at (length (word_text word)) (Some word))) behind.is;
      said = ap (λ ws. word ∷ ws) behind.said;
    }

all_found : (words : List Lexeme) (last : End) (at : ℕ) → All IsSayable words → AreFound words (cut_from 0 at (after last words))
all_found [] last at sayable = record { found = []; is = refl; said = refl }
all_found (word ∷ words) last at sayable =
    behind_lead (touches last word) (word ∷ words) at (word_text word ++ after (word_end word) words) (λ place.
    word_found word words place (after (word_end word) words) (All-head IsSayable word words sayable) (after_stops (word_end word) words)
    (all_found words (word_end word) (place + length (word_text word)) (All-tail IsSayable word words sayable)))

pub printed_read : (words : List Lexeme) → All IsSayable words → AreRead words (tokens_of (printed words))
unfolding tokens_of cut_of
printed_read words sayable =
    let read = all_found words end.Joined 0 sayable in
    record { found = read.found; all = ap tokens_of (printed_after blank words) ∙ ap (λ cut. whole cut.tokens cut.fault) read.is; said = read.said }
