-- Each token of a UTF-8 text says a word that can be said.
use Rattle.std.proofs.Common.{◌≡◌, ◌≢◌, ℕ, ◌+◌, ◌<◌, ◌^◌, nat_lt, pos, Bool, true, false, ◌&&◌, ◌==◌, if◌then◌else◌, true≢false, List, [], ◌∷◌, ◌++◌, length, take, get_or, Option, Some, None, IfSome, Result, Ok, Err, IfOk, IsUtf8, sym, refl, ap, ◌∙◌, subst, arith, append_assoc, length-take, length-append, get_or-append-add, ⊎_elim}
use Rattle.std.specs.Char.{is_ascii_digit}
use Rattle.std.specs.List.{prefix_len}
use Rattle.std.specs.Option.{option_map}
use Rattle.std.specs.Str.Parse.{digits_value}
use Rattle.std.proofs.lemmas.Bool.Decides.{eqb_tells, nat_tests}
use Rattle.std.proofs.lemmas.List.{get_or-take}
use Rattle.std.proofs.lemmas.List.Sums.{prefix_len_passes}
use Rattle.std.proofs.lemmas.Str.{IsUtf8-append, IsUtf8-take, IsCharBoundary-before_ascii}
use Rattle.ssq_lex.specs.declared.fault.LexCause.{LexCause}
use Rattle.ssq_lex.specs.declared.fault.LexCause.TheVariants.{BadNumber}
use Rattle.ssq_lex.specs.declared.keyword.Keyword.{Keyword}
use Rattle.ssq_lex.specs.declared.symbol.Symbol.{Symbol}
use Rattle.ssq_lex.specs.Cut.{Head, front, is_blank, begins_name, is_in_name, is_in_line, word_as, word_at, number_at, number_to, closing, text_at, text_to, symbol_at, symbol_of, skipped}
use Rattle.ssq_lex.specs.Lexeme.{undoubled}
use Rattle.ssq_lex.specs.Sayable.{IsSayable}
use Rattle.ssq_lex.specs.Spelling.{keyword_of, short_symbol, long_symbol}
use Rattle.ssq_lex.proofs.Boundaries.{name_some}
use Rattle.ssq_lex.proofs.Closing.{closing-other, closing-pair, closing-here}
use Rattle.ssq_lex.proofs.Quotes.{undoubled-other}
use Rattle.ssq_lex.proofs.Texts.{utf8_around, quote_utf8}

-- what stands at a front can be said
abbrev pub HeadSays : Result Head LexCause → Type 0
HeadSays found = IfOk found (λ head. IfSome head.said IsSayable)

pub by_test : {A : Type 0} (P : A → Type 0) (test : Bool) (x y : A) → (test ≡ true → P x) → (test ≡ false → P y) → P (if test then x else y)
by_test P true x y yes_case no_case = yes_case refl
by_test P false x y yes_case no_case = no_case refl

word_said : (word : List ℕ) (is : Option Keyword) → keyword_of word ≡ is → begins_name (get_or word 0 0) ≡ true → ((i : ℕ) → i < length word → is_in_name (get_or word i 0) ≡ true) → IsSayable (word_as word is)
word_said word (Some k) is begins goes_on = tt
word_said word None is begins goes_on = record { begins = begins; goes_on = goes_on; no_keyword = is }

word_says : (bytes : List ℕ) → begins_name (get_or bytes 0 0) ≡ true → HeadSays (Ok (word_at bytes))
unfolding word_at
word_says bytes begins =
    let len : ℕ = prefix_len is_in_name bytes in
    word_said (take (prefix_len is_in_name bytes) bytes) (keyword_of (take (prefix_len is_in_name bytes) bytes)) refl
    (ap begins_name (get_or-take (prefix_len is_in_name bytes) bytes 0 0 (name_some bytes begins)) ∙ begins)
    (λ i within.
    let before : i < prefix_len is_in_name bytes = omega (arith, within, length-take (prefix_len is_in_name bytes) bytes) in
    ap is_in_name (get_or-take (prefix_len is_in_name bytes) bytes i 0 before) ∙ prefix_len_passes is_in_name bytes i 0 before)

number_says : (bytes : List ℕ) → HeadSays (number_at bytes)
unfolding number_at
number_says bytes =
    let len : ℕ = prefix_len is_ascii_digit bytes in
    let value : ℕ = digits_value 10 (take (prefix_len is_ascii_digit bytes) bytes) in
    by_test (λ found. HeadSays (number_to len found)) (nat_lt value (2 ^ 63)) (Ok (pos value)) (Err BadNumber) (λ small. below value small) (λ _. tt)
  where
    below : (n : ℕ) → nat_lt n (2 ^ 63) ≡ true → n < 2 ^ 63
    below n small = grind (arith, nat_tests)

-- a quote ends a text
unfoldable pub EndsAt : List ℕ → Option ℕ → Type 0
EndsAt bytes at = IfSome at (λ n. (n < length bytes) × (get_or bytes n 0 ≡ 39))

ends_later : (first bytes all : List ℕ) (at : Option ℕ) → first ++ bytes ≡ all → EndsAt bytes at → EndsAt all (option_map (λ n. length first + n) at)
unfolding EndsAt
ends_later first bytes all None is ends = tt
ends_later first bytes all (Some n) is ends = (
  omega (arith, ends.0, ap length is, length-append first bytes),
  ap (λ t. get_or t (length first + n) 0) (sym is) ∙ get_or-append-add first bytes n 0 ∙ ends.1,
)

pub closing_ends : (bytes : List ℕ) → EndsAt bytes (closing bytes)
unfolding EndsAt
closing_ends [] = tt
closing_ends (b ∷ []) = by_test (EndsAt (b ∷ [])) (b == 39) (Some 0) None (λ is. (omega arith, first b is)) (λ _. tt)
  where
    first : (c : ℕ) → (c == 39) ≡ true → c ≡ 39
    first c is = grind (arith, nat_tests)
closing_ends (b ∷ c ∷ bs) = ⊎_elim
    (λ quote. ⊎_elim
    (λ second. subst (EndsAt (b ∷ c ∷ bs)) (sym (closing-pair b c bs quote.1 second.1)) (ends_later (b ∷ c ∷ []) bs (b ∷ c ∷ bs) (closing bs) refl (closing_ends bs)))
    (λ other. subst (EndsAt (b ∷ c ∷ bs)) (sym (closing-here b (c ∷ bs) quote.1 (λ _. other.1))) (omega arith, quote.1))
    (eqb_tells c 39))
    (λ other. subst (EndsAt (b ∷ c ∷ bs)) (sym (closing-other b (c ∷ bs) other.1)) (ends_later (b ∷ []) (c ∷ bs) (b ∷ c ∷ bs) (closing (c ∷ bs)) refl (closing_ends (c ∷ bs))))
    (eqb_tells b 39)

undoubled-kept : (b c : ℕ) (bs : List ℕ) → b ≡ 39 → c ≢ 39 → undoubled (b ∷ c ∷ bs) ≡ b ∷ undoubled (c ∷ bs)
undoubled-kept b c bs quote other = grind (arith, nat_tests)

undoubled-two : (b c : ℕ) (bs : List ℕ) → b ≡ 39 → c ≡ 39 → undoubled (b ∷ c ∷ bs) ≡ 39 ∷ undoubled bs
undoubled-two b c bs quote second = grind (arith, nat_tests)

-- the text so far, and the rest
undoubled_behind : (before rest : List ℕ) → IsUtf8 (before ++ rest) → IsUtf8 (before ++ undoubled rest)
undoubled_behind before [] utf8 = utf8
undoubled_behind before (b ∷ []) utf8 = utf8
undoubled_behind before (b ∷ c ∷ bs) utf8 = ⊎_elim
    (λ quote. ⊎_elim
    (λ second.
    let parts = utf8_around before (c ∷ bs) (subst (λ x. IsUtf8 (before ++ x ∷ c ∷ bs)) quote.1 utf8) in
    let behind = utf8_around [] bs (subst (λ x. IsUtf8 (x ∷ bs)) second.1 parts.1) in
    subst (λ t. IsUtf8 (before ++ t)) (sym (undoubled-two b c bs quote.1 second.1))
    (IsUtf8-append before (39 ∷ undoubled bs) parts.0 (IsUtf8-append (39 ∷ []) (undoubled bs) quote_utf8 (undoubled_behind [] bs behind.1))))
    (λ other. further (undoubled-kept b c bs quote.1 other.1) (undoubled_behind (before ++ b ∷ []) (c ∷ bs) (subst IsUtf8 (sym (append_assoc before (b ∷ []) (c ∷ bs))) utf8)))
    (eqb_tells c 39))
    (λ other. further (undoubled-other b (c ∷ bs) other.1) (undoubled_behind (before ++ b ∷ []) (c ∷ bs) (subst IsUtf8 (sym (append_assoc before (b ∷ []) (c ∷ bs))) utf8)))
    (eqb_tells b 39)
  where
    further : undoubled (b ∷ c ∷ bs) ≡ b ∷ undoubled (c ∷ bs) → IsUtf8 ((before ++ b ∷ []) ++ undoubled (c ∷ bs)) → IsUtf8 (before ++ undoubled (b ∷ c ∷ bs))
    further kept behind = subst (λ t. IsUtf8 (before ++ t)) (sym kept) (subst IsUtf8 (append_assoc before (b ∷ []) (undoubled (c ∷ bs))) behind)

text_said : (b : ℕ) (bs : List ℕ) (at : Option ℕ) → IsUtf8 bs → EndsAt bs at → HeadSays (text_to (b ∷ bs) at)
unfolding EndsAt
text_said b bs None utf8 ends = tt
text_said b bs (Some n) utf8 ends =
    undoubled_behind [] (take n bs) (IsUtf8-take bs n utf8 (IsCharBoundary-before_ascii bs n ends.0 (omega (arith, ends.1))))

text_says : (bytes : List ℕ) → IsUtf8 bytes → (get_or bytes 0 0 == 39) ≡ true → HeadSays (text_at bytes)
unfolding text_at
text_says [] utf8 opens = absurd (true≢false (sym opens))
text_says (b ∷ bs) utf8 opens =
    let quote : b ≡ 39 = grind (arith, nat_tests) in
    text_said b bs (closing bs) (utf8_around [] bs (subst (λ c. IsUtf8 (c ∷ bs)) quote utf8)).1 (closing_ends bs)

symbol_said : (long short : Option Symbol) → HeadSays (symbol_of long short)
symbol_said (Some s) short = tt
symbol_said None (Some s) = tt
symbol_said None None = tt

symbol_says : (bytes : List ℕ) → HeadSays (symbol_at bytes)
unfolding symbol_at
symbol_says bytes = symbol_said (long_symbol (get_or bytes 0 0) (get_or bytes 1 0)) (short_symbol (get_or bytes 0 0))

pub front_says : (bytes : List ℕ) → IsUtf8 bytes → HeadSays (front bytes)
unfolding front
front_says bytes utf8 =
    let b : ℕ = get_or bytes 0 0 in
    let quoted_or : Result Head LexCause = if b == 39 then text_at bytes else symbol_at bytes in
    let number_or : Result Head LexCause = if is_ascii_digit b then number_at bytes else quoted_or in
    let word_or : Result Head LexCause = if begins_name b then Ok (word_at bytes) else number_or in
    let comment_or : Result Head LexCause = if b == 45 && get_or bytes 1 0 == 45 then Ok (skipped (prefix_len is_in_line bytes)) else word_or in
    by_test HeadSays (is_blank b) (Ok (skipped 1)) comment_or (λ _. tt) (λ _.
    by_test HeadSays (b == 45 && get_or bytes 1 0 == 45) (Ok (skipped (prefix_len is_in_line bytes))) word_or (λ _. tt) (λ _.
    by_test HeadSays (begins_name b) (Ok (word_at bytes)) number_or (word_says bytes) (λ _.
    by_test HeadSays (is_ascii_digit b) (number_at bytes) quoted_or (λ _. number_says bytes) (λ _.
    by_test HeadSays (b == 39) (text_at bytes) (symbol_at bytes) (text_says bytes utf8) (λ _. symbol_says bytes)))))

pub head_says : (bytes : List ℕ) (head : Head) → IsUtf8 bytes → front bytes ≡ Ok head → IfSome head.said IsSayable
head_says bytes head utf8 is = subst HeadSays is (front_says bytes utf8)
