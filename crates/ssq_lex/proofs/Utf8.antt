-- What is printed is UTF-8.
use Rattle.std.proofs.Common.{ℕ, pos, negsuc, Bool, true, false, if◌then◌else◌, List, [], ◌∷◌, ◌++◌, IsUtf8, sym, refl, subst, arith, append_assoc, ⊎_elim}
use Rattle.std.specs.Fmt.{decimal}
use Rattle.std.specs.List.{All}
use Rattle.std.proofs.lemmas.Bool.Decides.{eqb_tells}
use Rattle.std.proofs.lemmas.Fmt.{IsAscii-signed}
use Rattle.std.proofs.lemmas.List.Elements.{All-head, All-tail}
use Rattle.std.proofs.lemmas.Str.{IsUtf8-append, IsUtf8-from_ascii}
use Rattle.ssq_lex.specs.declared.printer.End.{End}
use Rattle.ssq_lex.specs.declared.printer.End.TheVariants as end
use Rattle.ssq_lex.specs.declared.symbol.Symbol.{Symbol}
use Rattle.ssq_lex.specs.declared.symbol.Symbol.TheVariants as mark
use Rattle.ssq_lex.specs.Cut.{is_in_name}
use Rattle.ssq_lex.specs.Lexeme.{Lexeme, keyword, name, number, quoted, symbol, doubled}
use Rattle.ssq_lex.specs.Printing.{word_text, word_end, touches, lead, blank, printed}
use Rattle.ssq_lex.specs.Sayable.{IsSayable}
use Rattle.ssq_lex.specs.Spelling.{keyword_spelling, symbol_spelling}
use Rattle.ssq_lex.proofs.Boundaries.{name_is_ascii}
use Rattle.ssq_lex.proofs.Heads.{doubled-quote, name_whole}
use Rattle.ssq_lex.proofs.Keywords.{spelt}
use Rattle.ssq_lex.proofs.Quotes.{doubled-other}
use Rattle.ssq_lex.proofs.Reread.{after, printed_after}
use Rattle.ssq_lex.proofs.Texts.{ascii_utf8, low_utf8, quote_utf8, utf8_around}

-- the text so far, and the rest
doubled_behind : (before rest : List ℕ) → IsUtf8 (before ++ rest) → IsUtf8 (before ++ doubled rest)
doubled_behind before [] utf8 = utf8
doubled_behind before (b ∷ bs) utf8 = ⊎_elim
    (λ same.
    let parts = utf8_around before bs (subst (λ c. IsUtf8 (before ++ c ∷ bs)) same.1 utf8) in
    subst (λ t. IsUtf8 (before ++ t)) (sym (doubled-quote b bs same.1))
    (IsUtf8-append before (39 ∷ 39 ∷ doubled bs) parts.0 (IsUtf8-append (39 ∷ 39 ∷ []) (doubled bs) (IsUtf8-append (39 ∷ []) (39 ∷ []) quote_utf8 quote_utf8) (doubled_behind [] bs parts.1))))
    (λ differ.
    subst (λ t. IsUtf8 (before ++ t)) (sym (doubled-other b bs differ.1))
    (subst IsUtf8 (append_assoc before (b ∷ []) (doubled bs)) (doubled_behind (before ++ b ∷ []) bs (subst IsUtf8 (sym (append_assoc before (b ∷ []) bs)) utf8))))
    (eqb_tells b 39)

doubled_utf8 : (text : List ℕ) → IsUtf8 text → IsUtf8 (doubled text)
doubled_utf8 text utf8 = doubled_behind [] text utf8

symbol_utf8 : (s : Symbol) → IsUtf8 (symbol_spelling s)
unfolding symbol_spelling
symbol_utf8 mark.LeftParen = low_utf8 (symbol_spelling mark.LeftParen) refl
symbol_utf8 mark.RightParen = low_utf8 (symbol_spelling mark.RightParen) refl
symbol_utf8 mark.Comma = low_utf8 (symbol_spelling mark.Comma) refl
symbol_utf8 mark.Semicolon = low_utf8 (symbol_spelling mark.Semicolon) refl
symbol_utf8 mark.Dot = low_utf8 (symbol_spelling mark.Dot) refl
symbol_utf8 mark.Plus = low_utf8 (symbol_spelling mark.Plus) refl
symbol_utf8 mark.Minus = low_utf8 (symbol_spelling mark.Minus) refl
symbol_utf8 mark.Star = low_utf8 (symbol_spelling mark.Star) refl
symbol_utf8 mark.Percent = low_utf8 (symbol_spelling mark.Percent) refl
symbol_utf8 mark.Concat = low_utf8 (symbol_spelling mark.Concat) refl
symbol_utf8 mark.Equal = low_utf8 (symbol_spelling mark.Equal) refl
symbol_utf8 mark.NotEqual = low_utf8 (symbol_spelling mark.NotEqual) refl
symbol_utf8 mark.Less = low_utf8 (symbol_spelling mark.Less) refl
symbol_utf8 mark.AtMost = low_utf8 (symbol_spelling mark.AtMost) refl
symbol_utf8 mark.Greater = low_utf8 (symbol_spelling mark.Greater) refl
symbol_utf8 mark.AtLeast = low_utf8 (symbol_spelling mark.AtLeast) refl

word_utf8 : (word : Lexeme) → IsSayable word → IsUtf8 (word_text word)
word_utf8 (keyword k) sayable = ascii_utf8 is_in_name (keyword_spelling k) name_is_ascii (spelt k).goes_on
word_utf8 (name text) sayable = ascii_utf8 is_in_name text name_is_ascii (name_whole text sayable.goes_on)
word_utf8 (number (pos n)) sayable = IsUtf8-from_ascii (decimal n) (IsAscii-signed (pos n) (omega (arith, sayable)))
word_utf8 (number (negsuc n)) sayable = absurd sayable
word_utf8 (quoted text) sayable = IsUtf8-append (39 ∷ doubled text) (39 ∷ []) (IsUtf8-append (39 ∷ []) (doubled text) quote_utf8 (doubled_utf8 text sayable)) quote_utf8
word_utf8 (symbol s) sayable = symbol_utf8 s

lead_utf8 : (touching : Bool) → IsUtf8 (if touching then [] else 32 ∷ [])
lead_utf8 true = low_utf8 [] refl
lead_utf8 false = low_utf8 (32 ∷ []) refl

after_utf8 : (last : End) (words : List Lexeme) → All IsSayable words → IsUtf8 (after last words)
after_utf8 last [] sayable = low_utf8 [] refl
after_utf8 last (word ∷ words) sayable =
    IsUtf8-append (lead last word) (word_text word ++ after (word_end word) words) (lead_utf8 (touches last word))
    (IsUtf8-append (word_text word) (after (word_end word) words) (word_utf8 word (All-head IsSayable word words sayable)) (after_utf8 (word_end word) words (All-tail IsSayable word words sayable)))

pub printed_utf8 : (words : List Lexeme) → All IsSayable words → IsUtf8 (printed words)
printed_utf8 words sayable = subst IsUtf8 (sym (printed_after blank words)) (after_utf8 end.Joined words sayable)
