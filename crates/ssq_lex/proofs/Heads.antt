-- What stands at the front of a printed word.
use Rattle.std.proofs.Common.{◌≡◌, ◌≢◌, ℕ, suc, ◌+◌, ◌<◌, ◌^◌, pos, negsuc, Bool, true, false, ◌||◌, ◌==◌, nat_lt, if◌then◌else◌, cond, true≢false, List, [], ◌∷◌, ◌++◌, length, take, get_or, Some, Ok, Err, sym, refl, ap, ◌∙◌, arith, append_assoc, append-nil, length-append, take_at, ⊎_elim}
use Rattle.std.specs.Fmt.{decimal}
use Rattle.std.specs.List.{prefix_len}
use Rattle.std.specs.Option.{option_map}
use Rattle.std.specs.Char.{is_ascii_digit}
use Rattle.std.specs.Str.Parse.{AllDigits}
use Rattle.std.proofs.lemmas.Bool.Decides.{nat_tests, eqb_tells}
use Rattle.std.proofs.lemmas.Fmt.{decimal_is_IsNumeral, decimal_nonempty}
use Rattle.std.proofs.lemmas.List.Folds.{prefix_len-append}
use Rattle.std.proofs.lemmas.Str.Parse.{digit_from_value}
use Rattle.ssq_lex.specs.declared.fault.LexCause.TheVariants.{BadNumber}
use Rattle.ssq_lex.specs.declared.keyword.Keyword.{Keyword}
use Rattle.ssq_lex.specs.declared.printer.End.TheVariants as end
use Rattle.ssq_lex.specs.declared.symbol.Symbol.{Symbol}
use Rattle.ssq_lex.specs.declared.symbol.Symbol.TheVariants as mark
use Rattle.ssq_lex.specs.Cut.{front, begins_name, is_in_name, word_as, word_at, number_at, value_of, closing, text_at, text_to, symbol_at, number_to}
use Rattle.ssq_lex.specs.Lexeme.{Lexeme, keyword, name, number, quoted, symbol, doubled, undoubled}
use Rattle.ssq_lex.specs.Printing.{word_text, word_end, is_joined, is_function, keyword_end, symbol_end}
use Rattle.ssq_lex.specs.Sayable.{IsSayable}
use Rattle.ssq_lex.specs.Spelling.{keyword_of, keyword_spelling, symbol_spelling}
use Rattle.ssq_lex.proofs.Closing.{closing-other}
use Rattle.ssq_lex.proofs.Keywords.{spelt}
use Rattle.ssq_lex.proofs.Quotes.{doubled-other, undoubled-other}

-- a byte that ends each word that does not stand joined to the next
abbrev pub is_stop : ℕ → Bool
is_stop c = c == 0 || c == 32 || c == 40 || c == 41 || c == 44 || c == 46 || c == 59

stop-in_name : (c : ℕ) → is_stop c ≡ true → is_in_name c ≡ false
stop-in_name c stop = grind (arith, nat_tests)

stop-digit : (c : ℕ) → is_stop c ≡ true → is_ascii_digit c ≡ false
stop-digit c stop = grind (arith, nat_tests)

stop-other : (c d : ℕ) → is_stop c ≡ true → is_stop d ≡ false → c ≢ d
stop-other c d stop other is = true≢false (sym stop ∙ ap is_stop is ∙ other)

-- a word's text is what its front says, and all of its front
abbrev pub Fronts : Lexeme → List ℕ → List ℕ → Type 0
Fronts said word rest = front (word ++ rest) ≡ Ok (record { said = Some said; len = length word })

prefix_whole : (p : ℕ → Bool) (xs ys : List ℕ) → prefix_len p xs ≡ length xs → p (get_or ys 0 0) ≡ false → prefix_len p (xs ++ ys) ≡ length xs
prefix_whole p xs [] whole stops = ap (prefix_len p) (append-nil xs) ∙ whole
prefix_whole p xs (y ∷ ys) whole stops =
    let none : prefix_len p (y ∷ ys) ≡ 0 = ap (λ b. cond b (1 + prefix_len p ys) 0) stops in
    prefix_len-append p xs (y ∷ ys) ∙ grind (arith, whole, none)

front-word : (bytes : List ℕ) → begins_name (get_or bytes 0 0) ≡ true → front bytes ≡ Ok (word_at bytes)
unfolding front
front-word bytes begins = grind (arith, nat_tests)

front-number : (bytes : List ℕ) → is_ascii_digit (get_or bytes 0 0) ≡ true → front bytes ≡ number_at bytes
unfolding front
front-number bytes begins = grind (arith, nat_tests)

word_begins : (word rest : List ℕ) → begins_name (get_or word 0 0) ≡ true → begins_name (get_or (word ++ rest) 0 0) ≡ true
word_begins [] rest begins = absurd (true≢false (sym begins))
word_begins (b ∷ bs) rest begins = begins

pub word_front : (word rest : List ℕ) → begins_name (get_or word 0 0) ≡ true → prefix_len is_in_name word ≡ length word → is_in_name (get_or rest 0 0) ≡ false → Fronts (word_as word (keyword_of word)) word rest
unfolding word_at
word_front word rest begins goes_on stops =
    let len : prefix_len is_in_name (word ++ rest) ≡ length word = prefix_whole is_in_name word rest goes_on stops in
    let text : take (length word) (word ++ rest) ≡ word = take_at word rest (length word) refl in
    front-word (word ++ rest) (word_begins word rest begins)
    ∙ ap (λ n. Ok (record { said = Some (word_as (take n (word ++ rest)) (keyword_of (take n (word ++ rest)))); len = n })) len
    ∙ ap (λ t. Ok (record { said = Some (word_as t (keyword_of t)); len = length word })) text

digits_begin : (ds rest : List ℕ) → 0 < length ds → AllDigits 10 ds → is_ascii_digit (get_or (ds ++ rest) 0 0) ≡ true
digits_begin [] rest some digits = absurd (omega arith)
digits_begin (c ∷ cs) rest some digits = let range = digit_from_value c digits.0 in grind (arith, nat_tests)

digits_whole : (ds : List ℕ) → AllDigits 10 ds → prefix_len is_ascii_digit ds ≡ length ds
digits_whole [] digits = refl
digits_whole (c ∷ cs) digits =
    let range = digit_from_value c digits.0 in
    let is : is_ascii_digit c ≡ true = grind (arith, nat_tests) in
    ap (λ b. cond b (1 + prefix_len is_ascii_digit cs) 0) is ∙ omega (arith, digits_whole cs digits.1)

small_value : (n : ℕ) → n < 2 ^ 63 → (if nat_lt n (2 ^ 63) then Ok (pos n) else Err BadNumber) ≡ Ok (pos n)
small_value n small = grind (arith, nat_tests)

pub number_front : (n : ℕ) (rest : List ℕ) → n < 2 ^ 63 → is_ascii_digit (get_or rest 0 0) ≡ false → Fronts (number (pos n)) (decimal n) rest
unfolding number_at
number_front n rest small stops =
    let numeral = decimal_is_IsNumeral n (omega arith) in
    let ds : List ℕ = decimal n in
    let len : prefix_len is_ascii_digit (decimal n ++ rest) ≡ length (decimal n) = prefix_whole is_ascii_digit (decimal n) rest (digits_whole (decimal n) numeral.0.1) stops in
    let text : take (length (decimal n)) (decimal n ++ rest) ≡ decimal n = take_at (decimal n) rest (length (decimal n)) refl in
    front-number (decimal n ++ rest) (digits_begin (decimal n) rest numeral.0.0 numeral.0.1)
    ∙ ap (λ k. number_to k (value_of (take k (decimal n ++ rest)))) len
    ∙ ap (λ t. number_to (length (decimal n)) (value_of t)) text
    ∙ ap (λ v. number_to (length (decimal n)) (if nat_lt v (2 ^ 63) then Ok (pos v) else Err BadNumber)) numeral.1
    ∙ ap (number_to (length (decimal n))) (small_value n small)

pub doubled-quote : (b : ℕ) (bs : List ℕ) → b ≡ 39 → doubled (b ∷ bs) ≡ 39 ∷ 39 ∷ doubled bs
doubled-quote b bs is = ap (λ c. doubled (c ∷ bs)) is

closing_doubled : (text rest : List ℕ) → get_or rest 0 0 ≢ 39 → closing (doubled text ++ 39 ∷ rest) ≡ Some (length (doubled text))
closing_doubled [] [] other = refl
closing_doubled [] (c ∷ rest) other = grind (arith, nat_tests)
closing_doubled (b ∷ bs) rest other = ⊎_elim
    (λ same. ap (λ t. closing (t ++ 39 ∷ rest)) (doubled-quote b bs same.1) ∙ ap (option_map (λ at. 2 + at)) (closing_doubled bs rest other) ∙ ap Some (omega (arith, ap length (doubled-quote b bs same.1))))
    (λ differ. ap (λ t. closing (t ++ 39 ∷ rest)) (doubled-other b bs differ.1) ∙ closing-other b (doubled bs ++ 39 ∷ rest) differ.1 ∙ ap (option_map (λ at. 1 + at)) (closing_doubled bs rest other) ∙ ap Some (omega (arith, ap length (doubled-other b bs differ.1))))
    (eqb_tells b 39)

undoubled_doubled : (text : List ℕ) → undoubled (doubled text) ≡ text
undoubled_doubled [] = refl
undoubled_doubled (b ∷ bs) = ⊎_elim
    (λ same. ap undoubled (doubled-quote b bs same.1) ∙ ap (λ t. 39 ∷ t) (undoubled_doubled bs) ∙ ap (λ c. c ∷ bs) (sym same.1))
    (λ differ. ap undoubled (doubled-other b bs differ.1) ∙ undoubled-other b (doubled bs) differ.1 ∙ ap (λ t. b ∷ t) (undoubled_doubled bs))
    (eqb_tells b 39)

text_there : (text rest : List ℕ) → get_or rest 0 0 ≢ 39 → front (39 ∷ doubled text ++ 39 ∷ rest) ≡ text_to (39 ∷ doubled text ++ 39 ∷ rest) (Some (length (doubled text)))
unfolding front text_at
text_there text rest other = ap (text_to (39 ∷ doubled text ++ 39 ∷ rest)) (closing_doubled text rest other)

pub quoted_front : (text rest : List ℕ) → get_or rest 0 0 ≢ 39 → Fronts (quoted text) (39 ∷ doubled text ++ 39 ∷ []) rest
quoted_front text rest other =
    let content : take (length (doubled text)) (doubled text ++ 39 ∷ rest) ≡ doubled text = take_at (doubled text) (39 ∷ rest) (length (doubled text)) refl in
    let all : length (doubled text) + 2 ≡ length (39 ∷ doubled text ++ 39 ∷ []) = omega (arith, length-append (doubled text) (39 ∷ [])) in
    ap (λ t. front (39 ∷ t)) (append_assoc (doubled text) (39 ∷ []) rest)
    ∙ text_there text rest other
    ∙ ap (λ t. Ok (record { said = Some (quoted (undoubled t)); len = length (doubled text) + 2 })) content
    ∙ ap (λ t. Ok (record { said = Some (quoted t); len = length (doubled text) + 2 })) (undoubled_doubled text)
    ∙ ap (λ n. Ok (record { said = Some (quoted text); len = n })) all

pub symbol_front : (s : Symbol) (rest : List ℕ) → (is_joined (symbol_end s) ≡ false → is_stop (get_or rest 0 0) ≡ true) → Fronts (symbol s) (symbol_spelling s) rest
unfolding front symbol_at symbol_spelling
symbol_front mark.LeftParen rest stops = refl
symbol_front mark.RightParen rest stops = refl
symbol_front mark.Comma rest stops = refl
symbol_front mark.Semicolon rest stops = refl
symbol_front mark.Dot rest stops = refl
symbol_front mark.Plus rest stops = refl
symbol_front mark.Minus rest stops = let next = stop-other (get_or rest 0 0) 45 (stops refl) refl in grind (arith, nat_tests)
symbol_front mark.Star rest stops = refl
symbol_front mark.Percent rest stops = refl
symbol_front mark.Concat rest stops = refl
symbol_front mark.Equal rest stops = refl
symbol_front mark.NotEqual rest stops = refl
symbol_front mark.Less rest stops =
    let greater = stop-other (get_or rest 0 0) 62 (stops refl) refl in
    let equal = stop-other (get_or rest 0 0) 61 (stops refl) refl in
    grind (arith, nat_tests)
symbol_front mark.AtMost rest stops = refl
symbol_front mark.Greater rest stops = let equal = stop-other (get_or rest 0 0) 61 (stops refl) refl in grind (arith, nat_tests)
symbol_front mark.AtLeast rest stops = refl

pub name_whole : (text : List ℕ) → ((i : ℕ) → i < length text → is_in_name (get_or text i 0) ≡ true) → prefix_len is_in_name text ≡ length text
name_whole [] passes = refl
name_whole (b ∷ bs) passes =
    ap (λ t. cond t (1 + prefix_len is_in_name bs) 0) (passes 0 (omega arith)) ∙ omega (arith, name_whole bs (λ i within. passes (suc i) (omega arith)))

-- what a word asks of the text after it
abbrev pub Stops : Lexeme → List ℕ → Type 0
Stops word rest = is_joined (word_end word) ≡ false → is_stop (get_or rest 0 0) ≡ true

pub keyword_apart : (k : Keyword) → is_joined (keyword_end k) ≡ false
keyword_apart k = by (is_function k)
  where
    by : (b : Bool) → is_joined (if b then end.Applied else end.Apart) ≡ false
    by true = refl
    by false = refl

-- what a printed word begins with is that word
pub word_head : (word : Lexeme) (rest : List ℕ) → IsSayable word → Stops word rest → Fronts word (word_text word) rest
word_head (keyword k) rest sayable stops =
    word_front (keyword_spelling k) rest (spelt k).begins (spelt k).goes_on (stop-in_name (get_or rest 0 0) (stops (keyword_apart k)))
    ∙ ap (λ o. Ok (record { said = Some (word_as (keyword_spelling k) o); len = length (keyword_spelling k) })) (spelt k).read
word_head (name text) rest sayable stops =
    word_front text rest sayable.begins (name_whole text sayable.goes_on) (stop-in_name (get_or rest 0 0) (stops refl))
    ∙ ap (λ o. Ok (record { said = Some (word_as text o); len = length text })) sayable.no_keyword
word_head (number (pos n)) rest sayable stops = number_front n rest sayable (stop-digit (get_or rest 0 0) (stops refl))
word_head (number (negsuc n)) rest sayable stops = absurd sayable
word_head (quoted text) rest sayable stops = quoted_front text rest (stop-other (get_or rest 0 0) 39 (stops refl) refl)
word_head (symbol s) rest sayable stops = symbol_front s rest stops

begins_some : (text : List ℕ) → begins_name (get_or text 0 0) ≡ true → 0 < length text
begins_some [] begins = absurd (true≢false (sym begins))
begins_some (b ∷ bs) begins = omega arith

symbol_some : (s : Symbol) → 0 < length (symbol_spelling s)
unfolding symbol_spelling
symbol_some mark.LeftParen = omega arith
symbol_some mark.RightParen = omega arith
symbol_some mark.Comma = omega arith
symbol_some mark.Semicolon = omega arith
symbol_some mark.Dot = omega arith
symbol_some mark.Plus = omega arith
symbol_some mark.Minus = omega arith
symbol_some mark.Star = omega arith
symbol_some mark.Percent = omega arith
symbol_some mark.Concat = omega arith
symbol_some mark.Equal = omega arith
symbol_some mark.NotEqual = omega arith
symbol_some mark.Less = omega arith
symbol_some mark.AtMost = omega arith
symbol_some mark.Greater = omega arith
symbol_some mark.AtLeast = omega arith

pub word_some : (word : Lexeme) → IsSayable word → 0 < length (word_text word)
word_some (keyword k) sayable = begins_some (keyword_spelling k) (spelt k).begins
word_some (name text) sayable = begins_some text sayable.begins
word_some (number (pos n)) sayable = decimal_nonempty n (omega (arith, sayable))
word_some (number (negsuc n)) sayable = absurd sayable
word_some (quoted text) sayable = omega arith
word_some (symbol s) sayable = symbol_some s
