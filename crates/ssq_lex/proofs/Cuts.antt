-- Each front of a text ends between characters, so that all its tokens say words that can be said.
use Rattle.std.proofs.Common.{◌≡◌, ℕ, zero, suc, ◌+◌, ◌-◌, ◌<◌, true, ◌&&◌, ◌==◌, if◌then◌else◌, List, [], ◌∷◌, length, drop, get_or, ℤ, Option, Some, None, IfSome, Result, Ok, Err, IsUtf8, IsCharBoundary, sym, refl, subst, arith}
use Rattle.std.specs.Char.{is_ascii_digit}
use Rattle.std.specs.List.{All, prefix_len}
use Rattle.std.proofs.lemmas.Bool.Decides.{nat_tests}
use Rattle.std.proofs.lemmas.List.Elements.{All-nil, All-append, All-map}
use Rattle.std.proofs.lemmas.Str.{IsUtf8-drop, IsCharBoundary-after_ascii}
use Rattle.ssq_lex.specs.Answer.{IsShort}
use Rattle.ssq_lex.specs.declared.fault.LexCause.{LexCause}
use Rattle.ssq_lex.specs.declared.symbol.Symbol.{Symbol}
use Rattle.ssq_lex.specs.declared.symbol.Symbol.TheVariants as mark
use Rattle.ssq_lex.specs.Cut.{Head, Cut, front, is_blank, begins_name, is_in_name, is_in_line, word_at, number_at, number_to, closing, text_at, text_to, symbol_at, symbol_of, skipped, token_at, and_rest, cut_from, cut_of}
use Rattle.ssq_lex.specs.Sayable.{IsSayable, TokensAreSayable}
use Rattle.ssq_lex.specs.Spelling.{short_symbol, long_symbol}
use Rattle.ssq_lex.proofs.Boundaries.{name_boundary, digits_boundary, line_boundary, end_boundary, symbol_boundary, blank_is_ascii}
use Rattle.ssq_lex.proofs.Sound.{HeadSays, EndsAt, by_test, closing_ends, front_says}
use Rattle.ssq_lex.proofs.Steps.{Says, says_more}

-- it takes some bytes, up to the end of a character
abbrev Ends : List ℕ → Result Head LexCause → Type 0
Ends bytes (Err cause) = Unit {0}
Ends bytes (Ok head) = (0 < head.len) × IsCharBoundary bytes head.len

line_some : (bytes : List ℕ) → (get_or bytes 0 0 == 45 && get_or bytes 1 0 == 45) ≡ true → 0 < prefix_len is_in_line bytes
line_some [] begins = absurd (grind (arith, nat_tests))
line_some (b ∷ bs) begins = let in_line : is_in_line b ≡ true = grind (arith, nat_tests) in rw in_line (omega arith)

word_ends : (bytes : List ℕ) → IsUtf8 bytes → begins_name (get_or bytes 0 0) ≡ true → Ends bytes (Ok (word_at bytes))
unfolding word_at
word_ends bytes utf8 begins = name_boundary bytes bytes (prefix_len is_in_name bytes) utf8 refl refl begins

number_ends_by : (bytes : List ℕ) (len : ℕ) → (0 < len) × IsCharBoundary bytes len → (value : Result ℤ LexCause) → Ends bytes (number_to len value)
number_ends_by bytes len ends (Ok value) = ends
number_ends_by bytes len ends (Err cause) = tt

number_ends : (bytes : List ℕ) → IsUtf8 bytes → is_ascii_digit (get_or bytes 0 0) ≡ true → Ends bytes (number_at bytes)
unfolding number_at
number_ends bytes utf8 begins = number_ends_by bytes (prefix_len is_ascii_digit bytes) (digits_boundary bytes bytes (prefix_len is_ascii_digit bytes) utf8 refl refl begins) _

text_ends_by : (bytes : List ℕ) → IsUtf8 bytes → get_or bytes 0 0 ≡ 39 → (at : Option ℕ) → EndsAt (drop 1 bytes) at → Ends bytes (text_to bytes at)
unfolding EndsAt
text_ends_by bytes utf8 opens None ends = tt
text_ends_by bytes utf8 opens (Some n) ends =
    (omega arith, end_boundary {inner = drop 1 bytes} {bytes = drop 1 bytes} (record { utf8 = utf8; opens = opens; inner_is = refl; bytes_are = refl; quote = ends }))

quote_is : (b : ℕ) → (b == 39) ≡ true → b ≡ 39
quote_is b is = grind (arith, nat_tests)

text_ends : (bytes : List ℕ) → IsUtf8 bytes → (get_or bytes 0 0 == 39) ≡ true → Ends bytes (text_at bytes)
unfolding text_at
text_ends bytes utf8 opens = text_ends_by bytes utf8 (quote_is (get_or bytes 0 0) opens) (closing (drop 1 bytes)) (closing_ends (drop 1 bytes))

abbrev ShortIf : ℕ → Option Symbol → Type 0
ShortIf b found = IfSome found (λ s. (0 < b) × (b < 128))

tested : (k : ℕ) → (0 < k) × (k < 128) → (s : Symbol) (others : Option Symbol) (b : ℕ) → ShortIf b others → ShortIf b (if b == k then Some s else others)
tested k bounds s others b rest = by_test (ShortIf b) (b == k) (Some s) others (λ is. let same : b ≡ k = grind (arith, nat_tests) in (omega (arith, bounds.0), omega (arith, bounds.1))) (λ _. rest)

short_is : (b : ℕ) → ShortIf b (short_symbol b)
short_is b =
    tested 40 (omega arith, omega arith) mark.LeftParen _ b (
    tested 41 (omega arith, omega arith) mark.RightParen _ b (
    tested 44 (omega arith, omega arith) mark.Comma _ b (
    tested 59 (omega arith, omega arith) mark.Semicolon _ b (
    tested 46 (omega arith, omega arith) mark.Dot _ b (
    tested 43 (omega arith, omega arith) mark.Plus _ b (
    tested 45 (omega arith, omega arith) mark.Minus _ b (
    tested 42 (omega arith, omega arith) mark.Star _ b (
    tested 37 (omega arith, omega arith) mark.Percent _ b (
    tested 61 (omega arith, omega arith) mark.Equal _ b (
    tested 60 (omega arith, omega arith) mark.Less _ b (
    tested 62 (omega arith, omega arith) mark.Greater None b tt)))))))))))

abbrev LongIf : ℕ → ℕ → Option Symbol → Type 0
LongIf b c found = IfSome found (λ s. IsShort b c 2)

both_tested : (k l : ℕ) → (0 < k) × (k < 128) → (0 < l) × (l < 128) → (s : Symbol) (others : Option Symbol) (b c : ℕ) → LongIf b c others
    → LongIf b c (if b == k && c == l then Some s else others)
both_tested k l ks ls s others b c rest = by_test (LongIf b c) (b == k && c == l) (Some s) others
    (λ is.
    let first : b ≡ k = grind (arith, nat_tests) in
    let second : c ≡ l = grind (arith, nat_tests) in
    record { some = omega arith; two = omega arith; begins = (omega (arith, ks.0), omega (arith, ks.1)); ends = λ _. (omega (arith, ls.0), omega (arith, ls.1)) })
    (λ _. rest)

long_is : (b c : ℕ) → LongIf b c (long_symbol b c)
long_is b c =
    both_tested 124 124 (omega arith, omega arith) (omega arith, omega arith) mark.Concat _ b c (
    both_tested 60 62 (omega arith, omega arith) (omega arith, omega arith) mark.NotEqual _ b c (
    both_tested 33 61 (omega arith, omega arith) (omega arith, omega arith) mark.NotEqual _ b c (
    both_tested 60 61 (omega arith, omega arith) (omega arith, omega arith) mark.AtMost _ b c (
    both_tested 62 61 (omega arith, omega arith) (omega arith, omega arith) mark.AtLeast None b c tt))))

symbol_ends_by : (bytes : List ℕ) (b c : ℕ) → IsUtf8 bytes → b ≡ get_or bytes 0 0 → c ≡ get_or bytes 1 0 → (long short : Option Symbol) → LongIf b c long → ShortIf b short
    → Ends bytes (symbol_of long short)
symbol_ends_by bytes b c utf8 first second (Some s) short is _ = (omega arith, symbol_boundary bytes b c 2 utf8 first second is)
symbol_ends_by bytes b c utf8 first second None (Some s) _ is =
    (omega arith, symbol_boundary bytes b c 1 utf8 first second (record { some = omega arith; two = omega arith; begins = is; ends = λ no. absurd (omega arith) }))
symbol_ends_by bytes b c utf8 first second None None _ _ = tt

symbol_ends : (bytes : List ℕ) → IsUtf8 bytes → Ends bytes (symbol_at bytes)
unfolding symbol_at
symbol_ends bytes utf8 =
    symbol_ends_by bytes (get_or bytes 0 0) (get_or bytes 1 0) utf8 refl refl (long_symbol (get_or bytes 0 0) (get_or bytes 1 0)) (short_symbol (get_or bytes 0 0))
    (long_is (get_or bytes 0 0) (get_or bytes 1 0)) (short_is (get_or bytes 0 0))

front_ends : (bytes : List ℕ) → 0 < length bytes → IsUtf8 bytes → Ends bytes (front bytes)
unfolding front
front_ends bytes some utf8 =
    let b : ℕ = get_or bytes 0 0 in
    let quoted_or : Result Head LexCause = if b == 39 then text_at bytes else symbol_at bytes in
    let number_or : Result Head LexCause = if is_ascii_digit b then number_at bytes else quoted_or in
    let word_or : Result Head LexCause = if begins_name b then Ok (word_at bytes) else number_or in
    let comment_or : Result Head LexCause = if b == 45 && get_or bytes 1 0 == 45 then Ok (skipped (prefix_len is_in_line bytes)) else word_or in
    by_test (Ends bytes) (is_blank b) (Ok (skipped 1)) comment_or (λ is. (omega arith, IsCharBoundary-after_ascii bytes 0 utf8 some (blank_is_ascii b is))) (λ _.
    by_test (Ends bytes) (b == 45 && get_or bytes 1 0 == 45) (Ok (skipped (prefix_len is_in_line bytes))) word_or (λ is. (line_some bytes is, line_boundary bytes (prefix_len is_in_line bytes) refl)) (λ _.
    by_test (Ends bytes) (begins_name b) (Ok (word_at bytes)) number_or (word_ends bytes utf8) (λ _.
    by_test (Ends bytes) (is_ascii_digit b) (number_at bytes) quoted_or (number_ends bytes utf8) (λ _.
    by_test (Ends bytes) (b == 39) (text_at bytes) (symbol_at bytes) (text_ends bytes utf8) (λ _. symbol_ends bytes utf8)))))

-- ---- all tokens

rest_utf8 : (len b : ℕ) (bytes : List ℕ) → IsUtf8 (b ∷ bytes) → (0 < len) × IsCharBoundary (b ∷ bytes) len → IsUtf8 (drop (len - 1) bytes)
rest_utf8 zero b bytes utf8 ends = absurd (let some = ends.0 in omega arith)
rest_utf8 (suc n) b bytes utf8 ends =
    let less : suc n - 1 ≡ n = omega arith in
    subst (λ k. IsUtf8 (drop k bytes)) (sym less) (IsUtf8-drop (b ∷ bytes) (suc n) utf8 ends.1)

by_front : (b : ℕ) (bytes : List ℕ) (at : ℕ) → IsUtf8 (b ∷ bytes) → (found : Result Head LexCause) → HeadSays found → Ends (b ∷ bytes) found
    → (rest : ℕ → Cut) → ((taken : ℕ) → IsUtf8 (drop taken bytes) → All Says (rest taken).tokens) → All Says (and_rest at found rest).tokens
by_front b bytes at utf8 (Err cause) says ends rest more = All-nil Says
by_front b bytes at utf8 (Ok head) says ends rest more =
    All-append Says (token_at at head.len head.said) (rest (head.len - 1)).tokens (says_more at head.len head.said says) (more (head.len - 1) (rest_utf8 head.len b bytes utf8 ends))

says_from : (bytes : List ℕ) (taken at : ℕ) → IsUtf8 (drop taken bytes) → All Says (cut_from taken at bytes).tokens
says_from [] taken at utf8 = All-nil Says
says_from (b ∷ bytes) (suc taken) at utf8 = says_from bytes taken (at + 1) utf8
says_from (b ∷ bytes) zero at utf8 =
    by_front b bytes at utf8 (front (b ∷ bytes)) (front_says (b ∷ bytes) utf8) (front_ends (b ∷ bytes) (omega arith) utf8) (λ taken. cut_from taken (at + 1) bytes) (λ taken. says_from bytes taken (at + 1))

pub tokens_say : TokensAreSayable
unfolding cut_of
tokens_say text utf8 = All-map IsSayable (λ token. token.said) (cut_of text).tokens (says_from text 0 0 utf8)
