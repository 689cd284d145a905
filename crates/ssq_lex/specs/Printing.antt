-- How words are printed, one after the other.
use Rattle.std.specs.Prelude.{◌≡◌, ℕ, Bool, true, false, ◌||◌, ◌&&◌, if◌then◌else◌, List, [], ◌∷◌, ◌++◌, fold}
use Rattle.std.specs.Fmt.{signed_decimal}
use Rattle.ssq_lex.specs.declared.keyword.Keyword.{Keyword}
use Rattle.ssq_lex.specs.declared.keyword.Keyword.TheVariants.{Window, Count, Sum, Min, Max}
use Rattle.ssq_lex.specs.declared.printer.End.{End}
use Rattle.ssq_lex.specs.declared.printer.End.TheVariants as end
use Rattle.ssq_lex.specs.declared.symbol.Symbol.{Symbol}
use Rattle.ssq_lex.specs.declared.symbol.Symbol.TheVariants as mark
use Rattle.ssq_lex.specs.Lexeme.{Lexeme, keyword, name, number, quoted, symbol, doubled}
use Rattle.ssq_lex.specs.Spelling.{keyword_spelling, symbol_spelling}

-- keywords in capitals, numbers by their value, texts between quotes with each quote in them twice
abbrev pub word_text : Lexeme → List ℕ
word_text (keyword k) = keyword_spelling k
word_text (name text) = text
word_text (number n) = signed_decimal n
word_text (quoted text) = 39 ∷ doubled text ++ 39 ∷ []
word_text (symbol s) = symbol_spelling s

-- no space stands between these and the `(` of what they are applied to
abbrev pub is_function : Keyword → Bool
is_function Window = true
is_function Count = true
is_function Sum = true
is_function Min = true
is_function Max = true
is_function other = false

abbrev pub keyword_end : Keyword → End
keyword_end k = if is_function k then end.Applied else end.Apart

-- no space stands after `(` and `.`
abbrev pub symbol_end : Symbol → End
symbol_end mark.LeftParen = end.Joined
symbol_end mark.Dot = end.Joined
symbol_end other = end.Apart

-- how a word stands to the next one
abbrev pub word_end : Lexeme → End
word_end (keyword k) = keyword_end k
word_end (symbol s) = symbol_end s
word_end other = end.Apart

-- no space stands before `)`, `,`, `;` and `.`
abbrev pub closes : Symbol → Bool
closes mark.RightParen = true
closes mark.Comma = true
closes mark.Semicolon = true
closes mark.Dot = true
closes other = false

abbrev pub is_left_paren : Symbol → Bool
is_left_paren mark.LeftParen = true
is_left_paren other = false

abbrev pub is_joined : End → Bool
is_joined end.Joined = true
is_joined other = false

abbrev pub symbol_touches : End → Symbol → Bool
symbol_touches end.Joined s = true
symbol_touches end.Applied s = is_left_paren s || closes s
symbol_touches end.Apart s = closes s

-- the next word stands at once after the last
abbrev pub touches : End → Lexeme → Bool
touches last (symbol s) = symbol_touches last s
touches last other = is_joined last

-- one space between two words, but where none stands
abbrev pub lead : End → Lexeme → List ℕ
lead last word = if touches last word then [] else 32 ∷ []

-- the text so far, and how its last word stands to the next one
pub record Printed : Type 0 where
  pub text : List ℕ
  pub last : End

-- no space stands at the start
abbrev pub blank : Printed
blank = record { text = []; last = end.Joined }

unfoldable pub with_word : Printed → Lexeme → Printed
with_word printed word = record { text = printed.text ++ lead printed.last word ++ word_text word; last = word_end word }

abbrev pub with_words : Printed → List Lexeme → Printed
with_words printed words = fold with_word printed words

-- the text of these words
abbrev pub printed : List Lexeme → List ℕ
printed words = (with_words blank words).text

-- what a printer has printed, and whether memory served for all of it
pub record Print : Type 0 where
  pub printed : Printed
  pub is_whole : Bool

abbrev pub unprinted : Print
unprinted = record { printed = blank; is_whole = true }

-- where the print is whole, this is what it is
pub record WholeAs (print : Print) (wanted : Printed) : Type 0 where
  pub is : print.is_whole ≡ true → print.printed ≡ wanted

-- Words were added: what was printed stands as it stood, and these words after it.
abbrev pub Adds : Print → List Lexeme → Print → Type 0
Adds old words new = (before : Printed) → WholeAs old before → WholeAs new (with_words before words)

-- a word was added, which ends so, and memory served for it or not
abbrev pub ended : Print → Bool → End → Print
ended print has_served last = record {
  printed = record { text = print.printed.text; last = last };
  is_whole = print.is_whole && has_served;
}
