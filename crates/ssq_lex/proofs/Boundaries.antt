-- Where a text may be cut.
use Rattle.std.proofs.Common.{◌≡◌, ℕ, ◌+◌, ◌-◌, ◌<◌, ◌≤◌, Bool, true, false, List, [], ◌∷◌, length, take, drop, get_or, length-drop, length-take, Some, inl, inr, ⊎_elim, ◌⊎◌, Ok, Err, ◌^◌, ℤ, pos, Result, IsUtf8, sym, refl, ap, ◌∙◌, subst, arith}
use Rattle.std.specs.Char.{is_ascii_digit}
use Rattle.std.specs.Int.{IsInRange, w64}
use Rattle.std.specs.Result.{OkIff}
use Rattle.std.specs.Str.Parse.{digits_value, ParsesSigned}
use Rattle.std.proofs.lemmas.List.{get_or-take, get_or-drop, get_or_past}
use Rattle.std.proofs.str.Laws.{order}
use mir.Val.{to_z, of_z}
use Rattle.std.proofs.lemmas.Int.{ints, to_z-of_z}
use Rattle.std.proofs.lemmas.Str.Parse.{IsNumeralModel, numerals_by_value, tells_by_index, parse_signed_digits}
use Rattle.std.specs.List.{prefix_len}
use Rattle.std.specs.Str.{IsCharBoundary}
use Rattle.std.proofs.lemmas.Bool.Decides.{nat_tests}
use Rattle.std.proofs.lemmas.List.Sums.{prefix_len-le-length, prefix_len_passes, prefix_len_stops}
use Rattle.std.proofs.lemmas.Str.{IsCharBoundary-after_ascii, IsCharBoundary-before_ascii}
use Rattle.ssq_lex.specs.declared.fault.LexCause.TheVariants.{BadNumber}
use Rattle.ssq_lex.specs.Answer.{IsShort}
use Rattle.ssq_lex.specs.Cut.{is_blank, begins_name, is_in_name, is_in_line, value_of, closing, text_at}
use Rattle.ssq_lex.specs.Lexeme.{quoted, undoubled}

-- the bytes that pass a test of ASCII bytes end between characters
pub prefix_boundary : (p : ℕ → Bool) (bytes : List ℕ) (len : ℕ) → ((b : ℕ) → p b ≡ true → b < 128) → IsUtf8 bytes → len ≡ prefix_len p bytes → 0 < len → IsCharBoundary bytes len
prefix_boundary p bytes len ascii utf8 is_len some =
    let last : len - 1 + 1 ≡ len = omega arith in
    let passes = prefix_len_passes p bytes (len - 1) 0 (omega (arith, is_len)) in
    subst (IsCharBoundary bytes) last (IsCharBoundary-after_ascii bytes (len - 1) utf8 (omega (arith, prefix_len-le-length p bytes)) (ascii _ passes))

pub name_is_ascii : (b : ℕ) → is_in_name b ≡ true → b < 128
name_is_ascii b passes = grind (arith, nat_tests)

pub digit_is_ascii : (b : ℕ) → is_ascii_digit b ≡ true → b < 128
digit_is_ascii b passes = grind (arith, nat_tests)

begins-in : (b : ℕ) → begins_name b ≡ true → is_in_name b ≡ true
begins-in b begins = grind (arith, nat_tests)

pub name_some : (bytes : List ℕ) → begins_name (get_or bytes 0 0) ≡ true → 0 < prefix_len is_in_name bytes
name_some [] begins = absurd (grind (arith, nat_tests))
name_some (b ∷ bs) begins = rw (begins-in b begins) (omega arith)

pub digit_some : (bytes : List ℕ) → is_ascii_digit (get_or bytes 0 0) ≡ true → 0 < prefix_len is_ascii_digit bytes
digit_some [] begins = absurd (grind (arith, nat_tests))
digit_some (b ∷ bs) begins = rw begins (omega arith)

pub name_boundary : (text bytes : List ℕ) (len : ℕ) → IsUtf8 text → bytes ≡ text → len ≡ prefix_len is_in_name bytes → begins_name (get_or text 0 0) ≡ true → (0 < len) × IsCharBoundary text len
name_boundary text bytes len utf8 bytes_are is_len begins =
    let is : len ≡ prefix_len is_in_name text = is_len ∙ ap (prefix_len is_in_name) bytes_are in
    let some : 0 < len = omega (arith, is, name_some text begins) in
    (some, prefix_boundary is_in_name text len name_is_ascii utf8 is some)

pub digits_boundary : (text bytes : List ℕ) (len : ℕ) → IsUtf8 text → bytes ≡ text → len ≡ prefix_len is_ascii_digit bytes → is_ascii_digit (get_or text 0 0) ≡ true → (0 < len) × IsCharBoundary text len
digits_boundary text bytes len utf8 bytes_are is_len begins =
    let is : len ≡ prefix_len is_ascii_digit text = is_len ∙ ap (prefix_len is_ascii_digit) bytes_are in
    let some : 0 < len = omega (arith, is, digit_some text begins) in
    (some, prefix_boundary is_ascii_digit text len digit_is_ascii utf8 is some)

line-feed : (b : ℕ) → is_in_line b ≡ false → b ≡ 10
line-feed b stops = grind (arith, nat_tests)

pub line_boundary : (bytes : List ℕ) (len : ℕ) → len ≡ prefix_len is_in_line bytes → IsCharBoundary bytes len
line_boundary bytes len is_len = (
  omega (arith, is_len, prefix_len-le-length is_in_line bytes),
  λ within high. absurd (let stops : get_or bytes len 0 ≡ 10 = ap (λ n. get_or bytes n 0) is_len ∙ line-feed _ (prefix_len_stops is_in_line bytes 0 (omega (arith, is_len))) in omega (arith, stops, high)),
)

-- the digits that a text begins with
pub digits_before : (text bytes digits : List ℕ) (len : ℕ) → bytes ≡ text → len ≡ prefix_len is_ascii_digit bytes → digits ≡ take len text → (i : ℕ) → i < length digits → is_ascii_digit (get_or digits i 0) ≡ true
digits_before text bytes digits len bytes_are is_len are i within =
    let is : len ≡ prefix_len is_ascii_digit text = is_len ∙ ap (prefix_len is_ascii_digit) bytes_are in
    let before : i < len = omega (arith, ap length are, length-take len text) in
    ap (λ ds. is_ascii_digit (get_or ds i 0)) are ∙ ap is_ascii_digit (get_or-take len text i 0 before) ∙ prefix_len_passes is_ascii_digit text i 0 (omega (arith, is))

digit_in_range : (b : ℕ) → is_ascii_digit b ≡ true → IsInRange 48 57 b
digit_in_range b passes = (grind (arith, nat_tests), grind (arith, nat_tests))

abbrev AreDigits : List ℕ → Type 0
AreDigits ds = (i : ℕ) → i < length ds → IsInRange 48 57 (get_or ds i 0)

own : IsNumeralModel AreDigits (digits_value 10)
own = numerals_by_value AreDigits tells_by_index

-- what `parse` gives for a text of digits
pub parsed : {E : Type 0} (digits : List ℕ) (r : Result ℤ E) → ParsesSigned w64 10 digits r → 0 < length digits → ((i : ℕ) → i < length digits → is_ascii_digit (get_or digits i 0) ≡ true) → OkIff r ((0 < length digits) × (digits_value 10 digits < 2 ^ 63)) (pos (digits_value 10 digits))
parsed digits r parses some all = parse_signed_digits own w64 digits r parses (λ i within. digit_in_range _ (all i within))

-- a text may be cut after a quote
pub quote_boundary : (bytes : List ℕ) → IsUtf8 bytes → get_or bytes 0 0 ≡ 39 → IsCharBoundary bytes 1
quote_boundary [] utf8 is_quote = absurd (omega (arith, is_quote))
quote_boundary (b ∷ bs) utf8 is_quote = IsCharBoundary-after_ascii (b ∷ bs) 0 utf8 (omega arith) (omega (arith, is_quote))

pub value_ok : (digits : List ℕ) (value : ℤ) → ((0 < length digits) × (digits_value 10 digits < 2 ^ 63)) × (value ≡ pos (digits_value 10 digits)) → Ok value ≡ value_of digits
value_ok digits value h = let fits = h.0.1 in let is = h.1 in grind (arith, nat_tests)

-- a value that was read fits its type
pub kept_value : (digits : List ℕ) (value : ℤ) → ((0 < length digits) × (digits_value 10 digits < 2 ^ 63)) × (value ≡ pos (digits_value 10 digits)) → to_z w64 (of_z w64 value) ≡ value
kept_value digits value h = let fits = h.0.1 in let is = h.1 in to_z-of_z w64 value (grind (arith, ints))

pub value_err : (digits : List ℕ) → 0 < length digits → ¬ ((0 < length digits) × (digits_value 10 digits < 2 ^ 63)) → Err BadNumber ≡ value_of digits
value_err digits some over = let not_fits : ¬ (digits_value 10 digits < 2 ^ 63) = λ fits. over (some, fits) in
    let large : 2 ^ 63 ≤ digits_value 10 digits = omega (arith, not_fits) in
    grind (arith, nat_tests)

-- the parts round the content of a quoted text
pub record Parts (text inner bytes : List ℕ) (len : ℕ) : Type 0 where
  pub utf8 : IsUtf8 text
  pub opens : get_or text 0 0 ≡ 39
  pub inner_is : inner ≡ drop 1 text
  pub bytes_are : bytes ≡ inner
  pub quote : (len < length bytes) × (get_or bytes len 0 ≡ 39)

pub content_boundary : {text inner bytes : List ℕ} {len : ℕ} → Parts text inner bytes len → IsCharBoundary inner len
content_boundary {inner = inner} {len = len} parts =
    IsCharBoundary-before_ascii inner len (omega (arith, parts.quote.0, ap length parts.bytes_are)) (omega (arith, parts.quote.1, ap (λ bs. get_or bs len 0) parts.bytes_are))

pub end_boundary : {text inner bytes : List ℕ} {len : ℕ} → Parts text inner bytes len → IsCharBoundary text (len + 2)
end_boundary {text = text} {inner = inner} {bytes = bytes} {len = len} parts =
    let place : 1 + len + 1 ≡ len + 2 = omega arith in
    let within : 1 + len < length text = omega (arith, parts.quote.0, ap length parts.bytes_are, ap length parts.inner_is, length-drop 1 text) in
    let quote : get_or text (1 + len) 0 ≡ 39 = sym (get_or-drop 1 text len 0) ∙ ap (λ bs. get_or bs len 0) (sym (parts.bytes_are ∙ parts.inner_is)) ∙ parts.quote.1 in
    subst (IsCharBoundary text) place (IsCharBoundary-after_ascii text (1 + len) parts.utf8 within (omega (arith, quote)))

pub blank_is_ascii : (b : ℕ) → is_blank b ≡ true → b < 128
blank_is_ascii b passes = grind (arith, nat_tests)

-- past the end there is only 0, so a byte above 0 is in the text
after_ascii : (bytes : List ℕ) (at : ℕ) → IsUtf8 bytes → 0 < get_or bytes at 0 → get_or bytes at 0 < 128 → IsCharBoundary bytes (at + 1)
after_ascii bytes at utf8 some ascii =
    ⊎_elim (λ within. IsCharBoundary-after_ascii bytes at utf8 within ascii) (λ past. absurd (omega (arith, get_or_past bytes at 0 past))) (order at (length bytes))

one_or_two : (len : ℕ) → 0 < len → len ≤ 2 → (len ≡ 1) ⊎ (len ≡ 2)
one_or_two len some two = ⊎_elim (λ below. inl (omega arith)) (λ above. inr (omega arith)) (order len 2)

-- a symbol ends between characters
pub symbol_boundary : (bytes : List ℕ) (first second len : ℕ) → IsUtf8 bytes → first ≡ get_or bytes 0 0 → second ≡ get_or bytes 1 0 → IsShort first second len → IsCharBoundary bytes len
symbol_boundary bytes first second len utf8 first_is second_is short =
    ⊎_elim
    (λ (one : len ≡ 1). subst (IsCharBoundary bytes) (sym one) (after_ascii bytes 0 utf8 (omega (arith, short.begins.0)) (omega (arith, short.begins.1))))
    (λ (two : len ≡ 2). subst (IsCharBoundary bytes) (sym two) (after_ascii bytes 1 utf8 (omega (arith, (short.ends two).0)) (omega (arith, (short.ends two).1))))
    (one_or_two len short.some short.two)

pub text_found : (text content : List ℕ) (len : ℕ) → closing (drop 1 text) ≡ Some len → content ≡ take len (drop 1 text) → text_at text ≡ Ok (record { said = Some (quoted (undoubled content)); len = len + 2 })
unfolding text_at
text_found text content len found content_is = rw (found, content_is) refl
