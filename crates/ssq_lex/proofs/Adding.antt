-- A word that a printer adds.
use Rattle.std.proofs.Common.{◌≡◌, ℕ, Bool, true, false, ◌&&◌, List, [], ◌∷◌, ◌++◌, Result, Ok, Err, OnOk, is_ok, true≢false, sym, ap, ◌∙◌, refl}
use Rattle.ssq_lex.specs.Lexeme.{Lexeme}
use Rattle.ssq_lex.specs.Printing.{Print, Adds, lead, word_text, word_end, with_word, ended}

first_of : (a b : Bool) → (a && b) ≡ true → a ≡ true
first_of true b both = refl
first_of false b both = both

second_of : (a b : Bool) → (a && b) ≡ true → b ≡ true
second_of true b both = both
second_of false true both = refl
second_of false false both = both

-- the text of a word was added after its space, where memory served
pub added : {A E : Type 0} {old was : Print} → old ≡ was → (word : Lexeme) (out : List ℕ) (result : Result A E) → OnOk result (out ≡ old.printed.text ++ lead old.printed.last word ++ word_text word) →
    Adds was (word ∷ []) (ended (record { printed = record { text = out; last = old.printed.last }; is_whole = old.is_whole }) (is_ok result) (word_end word))
unfolding with_word
added {old = old} same word out (Ok done) out_is before held = record {
  is = λ whole.
      let as_printed : record { text = out; last = word_end word } ≡ with_word old.printed word = ap (λ text. record { text = text; last = word_end word }) out_is in
      let is_whole = ap (λ print. print.is_whole) (sym same) ∙ first_of old.is_whole true whole in
      as_printed ∙ ap (λ printed. with_word printed word) (ap (λ print. print.printed) same ∙ held.is is_whole);
}
added {old = old} same word out (Err fault) out_is before held = record { is = λ whole. absurd (true≢false (sym (second_of old.is_whole false whole))) }
