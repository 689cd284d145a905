-- What stands where the tokens of a file end, and where its characters do.
use Rattle.std.proofs.Common.{◌≡◌, ◌≢◌, ◌<◌, ◌≤◌, ◌+◌, ◌-◌, ◌^◌, ℕ, zero, suc, Bool, true, false, sym, ap, subst, ◌∙◌, arith, refl, List, [], ◌∷◌, ◌++◌, length, take, drop, Option, Some, None, Result, Ok, Err, inl, inr, ◌⊎◌, append_assoc}
use Rattle.std.specs.Prelude.{◌==◌, ◌&&◌, nat_lt, if◌then◌else◌, slice_index, pos}
use Rattle.std.specs.Char.{is_ascii_digit}
use Rattle.std.specs.List.{prefix_len}
use Rattle.std.specs.Str.{is_utf8, IsUtf8, IsValidUpTo}
use Rattle.std.specs.Str.Lossy.{valid_len_up_to, utf8_valid_len}
use Rattle.std.specs.Str.Parse.{digits_value}
use Rattle.std.proofs.lemmas.Bool.{cases_lt}
use Rattle.std.proofs.lemmas.Bool.Decides.{nat_tests}
use Rattle.std.proofs.lemmas.List.{take_all}
use Rattle.std.proofs.lemmas.Str.{IsUtf8-from_is_utf8, IsUtf8-nil, is_utf8-from_IsUtf8}
use Rattle.ssq_lex.specs.declared.fault.LexCause.{LexCause}
use Rattle.ssq_lex.specs.declared.fault.LexCause.TheVariants.{BadChar, BadNumber, Unclosed}
use Rattle.ssq_lex.specs.declared.fault.Refusal.{Refusal}
use Rattle.ssq_lex.specs.declared.symbol.Symbol.{Symbol}
use Rattle.ssq_lex.specs.Cut.{Head, is_blank, begins_name, is_in_line, word_at, number_to, number_at, text_to, text_at, closing, symbol_of, symbol_at, skipped, front, and_rest, cut_from, cut_of}
use Rattle.ssq_lex.specs.Lexeme.{doubled}
use Rattle.ssq_lex.specs.Spelling.{long_symbol, short_symbol}
use Rattle.ssq_lex.proofs.Heads.{quoted_front}
use Rattle.ssq_parse.specs.Faults.{BeginsNothing, BeginsTooGreat, BeginsOpen}

-- ---- where the tokens end

abbrev pub IsBad : LexCause → List ℕ → Type 0
IsBad BadChar = BeginsNothing
IsBad BadNumber = BeginsTooGreat
IsBad Unclosed = BeginsOpen

same_err : {A : Type 0} (found : Result A LexCause) (one other : LexCause) → found ≡ Err one → found ≡ Err other → one ≡ other
same_err {A} found one other is also = ap cause_of (sym is ∙ also)
  where
    cause_of : Result A LexCause → LexCause
    cause_of (Ok x) = one
    cause_of (Err cause) = cause

same_some : (one other : Refusal) → Some one ≡ Some other → one ≡ other
same_some one other is = ap in_it is
  where
    in_it : Option Refusal → Refusal
    in_it None = one
    in_it (Some refusal) = refusal

module _ (bytes : List ℕ) (cause : LexCause) (is_front : front bytes ≡ Err cause) where
  bad_as : (own : LexCause) → own ≡ cause → IsBad own bytes → IsBad cause bytes
  bad_as own same bad = subst (λ c. IsBad c bytes) same bad

  by_value : (digit : is_ascii_digit (slice_index bytes 0) ≡ true) (len : ℕ) → len ≡ prefix_len is_ascii_digit bytes → (small : Bool) → nat_lt (digits_value 10 (take len bytes)) (2 ^ 63) ≡ small
      → number_to len (if small then Ok (pos (digits_value 10 (take len bytes))) else Err BadNumber) ≡ Err cause → IsBad cause bytes
  by_value digit len all true small is = absurd (cc)
  by_value digit len all false small is =
      let most : 2 ^ 63 ≤ digits_value 10 (take len bytes) = grind (arith, nat_tests) in
      bad_as BadNumber (same_err (Err BadNumber) BadNumber cause refl is) (record { digit = digit; great = subst (λ n. 2 ^ 63 ≤ digits_value 10 (take n bytes)) all most })

  bad_number : is_ascii_digit (slice_index bytes 0) ≡ true → number_at bytes ≡ Err cause → IsBad cause bytes
  unfolding number_at
  bad_number digit is = by_value digit (prefix_len is_ascii_digit bytes) refl (nat_lt (digits_value 10 (take (prefix_len is_ascii_digit bytes) bytes)) (2 ^ 63)) refl is

  no_end : (text rest : List ℕ) → bytes ≡ 39 ∷ doubled text ++ 39 ∷ rest → slice_index rest 0 ≢ 39 → ⊥
  no_end text rest same other =
      let whole : (39 ∷ doubled text ++ 39 ∷ []) ++ rest ≡ bytes = ap (λ t. 39 ∷ t) (append_assoc (doubled text) (39 ∷ []) rest) ∙ sym same in
      let found = ap front (sym whole) ∙ quoted_front text rest other in
      absurd (cc)

  by_closing : (opens : slice_index bytes 0 ≡ 39) (end : Option ℕ) → text_to bytes end ≡ Err cause → IsBad cause bytes
  by_closing opens None is = bad_as Unclosed (same_err (Err Unclosed) Unclosed cause refl is) (record { opens = opens; endless = no_end })
  by_closing opens (Some at) is = absurd (cc)

  bad_text : slice_index bytes 0 ≡ 39 → text_at bytes ≡ Err cause → IsBad cause bytes
  unfolding text_at
  bad_text opens is = by_closing opens (closing (drop 1 bytes)) is

  module _ (no_blank : is_blank (slice_index bytes 0) ≡ false) (no_comment : (slice_index bytes 0 == 45 && slice_index bytes 1 == 45) ≡ false)
      (no_name : begins_name (slice_index bytes 0) ≡ false) (no_number : is_ascii_digit (slice_index bytes 0) ≡ false) (no_text : slice_index bytes 0 ≢ 39) where
    by_symbols : (two one : Option Symbol) → long_symbol (slice_index bytes 0) (slice_index bytes 1) ≡ two → short_symbol (slice_index bytes 0) ≡ one → symbol_of two one ≡ Err cause → IsBad cause bytes
    by_symbols (Some two) one is_two is_one is = absurd (cc)
    by_symbols None (Some one) is_two is_one is = absurd (cc)
    by_symbols None None is_two is_one is =
        bad_as BadChar (same_err (Err BadChar) BadChar cause refl is)
        (record { no_blank = no_blank; no_comment = no_comment; no_name = no_name; no_number = no_number; no_text = no_text; no_symbol = is_one; no_symbol_of_two = is_two })

    bad_symbol : symbol_at bytes ≡ Err cause → IsBad cause bytes
    unfolding symbol_at
    bad_symbol is = by_symbols (long_symbol (slice_index bytes 0) (slice_index bytes 1)) (short_symbol (slice_index bytes 0)) refl refl is

  by_first : (blank comment named digit quote : Bool) → is_blank (slice_index bytes 0) ≡ blank → (slice_index bytes 0 == 45 && slice_index bytes 1 == 45) ≡ comment
      → begins_name (slice_index bytes 0) ≡ named → is_ascii_digit (slice_index bytes 0) ≡ digit → (slice_index bytes 0 == 39) ≡ quote
      → (if blank then Ok (skipped 1) else (if comment then Ok (skipped (prefix_len is_in_line bytes)) else (if named then Ok (word_at bytes) else (if digit then number_at bytes else (if quote then text_at bytes else symbol_at bytes))))) ≡ Err cause
      → IsBad cause bytes
  by_first true comment named digit quote is_blank is_comment is_named is_digit is_quote is = absurd (cc)
  by_first false true named digit quote is_blank is_comment is_named is_digit is_quote is = absurd (cc)
  by_first false false true digit quote is_blank is_comment is_named is_digit is_quote is = absurd (cc)
  by_first false false false true quote is_blank is_comment is_named is_digit is_quote is = bad_number is_digit is
  by_first false false false false true is_blank is_comment is_named is_digit is_quote is =
      let opens : slice_index bytes 0 ≡ 39 = grind (arith, nat_tests) in
      bad_text opens is
  by_first false false false false false is_blank is_comment is_named is_digit is_quote is =
      let other : slice_index bytes 0 ≢ 39 = grind (arith, nat_tests) in
      bad_symbol is_blank is_comment is_named is_digit other is

  pub bad_front : IsBad cause bytes
  unfolding front
  bad_front =
      by_first (is_blank (slice_index bytes 0)) (slice_index bytes 0 == 45 && slice_index bytes 1 == 45) (begins_name (slice_index bytes 0)) (is_ascii_digit (slice_index bytes 0)) (slice_index bytes 0 == 39)
      refl refl refl refl refl is_front

drop_next : (at : ℕ) (text : List ℕ) (b : ℕ) (bytes : List ℕ) → b ∷ bytes ≡ drop at text → bytes ≡ drop (suc at) text
drop_next zero [] b bytes is = absurd (cc)
drop_next zero (x ∷ xs) b bytes is = ap (drop 1) is
drop_next (suc at) [] b bytes is = absurd (cc)
drop_next (suc at) (x ∷ xs) b bytes is = drop_next at xs b bytes is

next_is : (at : ℕ) (text : List ℕ) (b : ℕ) (bytes : List ℕ) → b ∷ bytes ≡ drop at text → bytes ≡ drop (at + 1) text
next_is at text b bytes here = let on : suc at ≡ at + 1 = omega arith in drop_next at text b bytes here ∙ ap (λ n. drop n text) on

module _ (text : List ℕ) (refusal : Refusal) where
  fault_front : (taken at : ℕ) (bytes : List ℕ) → bytes ≡ drop at text → (cut_from taken at bytes).fault ≡ Some refusal → front (drop refusal.at text) ≡ Err refusal.cause
  fault_front taken at [] here is = absurd (cc)
  fault_front (suc taken) at (b ∷ bytes) here is = fault_front taken (at + 1) bytes (next_is at text b bytes here) is
  fault_front zero at (b ∷ bytes) here is =
      by_front (front (b ∷ bytes)) refl
      (λ taken more. fault_front taken (at + 1) bytes (next_is at text b bytes here) more) is
    where
      by_front : (found : Result Head LexCause) → front (b ∷ bytes) ≡ found
          → ((taken : ℕ) → (cut_from taken (at + 1) bytes).fault ≡ Some refusal → front (drop refusal.at text) ≡ Err refusal.cause)
          → (and_rest at found (λ taken. cut_from taken (at + 1) bytes)).fault ≡ Some refusal → front (drop refusal.at text) ≡ Err refusal.cause
      by_front (Ok head) found more is = more (head.len - 1) is
      by_front (Err cause) found more is =
          subst (λ (r : Refusal). front (drop r.at text) ≡ Err r.cause) (same_some (record { at = at; cause = cause }) refusal is) (ap front (sym here) ∙ found)

pub bad_here : (file : List ℕ) (refusal : Refusal) → (cut_of file).fault ≡ Some refusal → IsBad refusal.cause (drop refusal.at file)
unfolding cut_of
bad_here file refusal is = bad_front (drop refusal.at file) refusal.cause (fault_front file refusal 0 0 file refl is)

-- ---- where the characters end

-- the longest front up to so many bytes
record IsLongest (bs : List ℕ) (n most : ℕ) : Type 0 where
  within : n ≤ most
  text : IsUtf8 (take n bs)
  longest : (m : ℕ) → n < m → m ≤ most → (IsUtf8 (take m bs) → ⊥)

module _ (bs : List ℕ) where
  longest_by : (m : ℕ) (whole : Bool) → is_utf8 (take (suc m) bs) ≡ whole → IsLongest bs (valid_len_up_to bs m) m → IsLongest bs (if whole then suc m else valid_len_up_to bs m) (suc m)
  longest_by m true is rest = record { within = omega arith; text = IsUtf8-from_is_utf8 (take (suc m) bs) is; longest = λ k more within. absurd (omega (arith, more, within)) }
  longest_by m false is rest = record {
    within = (let less = rest.within in omega (arith, less));
    text = rest.text;
    longest = λ k more within utf8. by_place k more within utf8 (split k within);
  }
    where
      split : (k : ℕ) → k ≤ suc m → (k ≤ m) ⊎ (k ≡ suc m)
      split k within = elim (cases_lt k (suc m)) [ inl less ↦ inl (omega arith) | inr past ↦ inr (omega (arith, past, within)) ]

      not_whole : IsUtf8 (take (suc m) bs) → ⊥
      not_whole utf8 = let whole : is_utf8 (take (suc m) bs) ≡ true = is_utf8-from_IsUtf8 (take (suc m) bs) utf8 in absurd (cc)

      by_place : (k : ℕ) → valid_len_up_to bs m < k → k ≤ suc m → IsUtf8 (take k bs) → (k ≤ m) ⊎ (k ≡ suc m) → ⊥
      by_place k more within utf8 (inl below) = rest.longest k more below utf8
      by_place k more within utf8 (inr same) = not_whole (subst (λ n. IsUtf8 (take n bs)) same utf8)

  longest_of : (m : ℕ) → IsLongest bs (valid_len_up_to bs m) m
  longest_of zero = record { within = omega arith; text = IsUtf8-nil; longest = λ k more within. absurd (omega (arith, more, within)) }
  longest_of (suc m) = longest_by m (is_utf8 (take (suc m) bs)) refl (longest_of m)

pub broken : (file : List ℕ) → is_utf8 file ≡ false → IsValidUpTo file (utf8_valid_len file)
unfolding utf8_valid_len
broken file is =
    let all = longest_of file (length file) in
    record { short = short all; front = all.text; longest = λ m more. by_place m more (split m) }
  where
    no_text : IsUtf8 file → ⊥
    no_text utf8 = let whole : is_utf8 file ≡ true = is_utf8-from_IsUtf8 file utf8 in absurd (cc)

    no_whole : (m : ℕ) → length file ≤ m → IsUtf8 (take m file) → ⊥
    no_whole m past utf8 = no_text (subst IsUtf8 (take_all m file past) utf8)

    split : (m : ℕ) → (m ≤ length file) ⊎ (length file ≤ m)
    split m = elim (cases_lt m (length file)) [ inl less ↦ inl (omega arith) | inr past ↦ inr past ]

    short : IsLongest file (valid_len_up_to file (length file)) (length file) → valid_len_up_to file (length file) < length file
    short all = by_least all (least (valid_len_up_to file (length file)) all.within)
      where
        least : (n : ℕ) → n ≤ length file → (n < length file) ⊎ (length file ≤ n)
        least n within = cases_lt n (length file)

        by_least : IsLongest file (valid_len_up_to file (length file)) (length file) → (valid_len_up_to file (length file) < length file) ⊎ (length file ≤ valid_len_up_to file (length file)) → valid_len_up_to file (length file) < length file
        by_least all (inl less) = less
        by_least all (inr past) = absurd (no_whole (valid_len_up_to file (length file)) past all.text)

    by_place : (m : ℕ) → valid_len_up_to file (length file) < m → (m ≤ length file) ⊎ (length file ≤ m) → (IsUtf8 (take m file) → ⊥)
    by_place m more (inl within) = (longest_of file (length file)).longest m more within
    by_place m more (inr past) = no_whole m past
