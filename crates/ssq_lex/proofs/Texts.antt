-- What is UTF-8: ASCII bytes, and what stands around a quote.
use Rattle.std.proofs.Common.{◌≡◌, ℕ, ◌+◌, ◌<◌, nat_lt, Bool, true, List, [], ◌∷◌, ◌++◌, length, take, drop, get_or, IsUtf8, sym, refl, ap, ◌∙◌, subst, arith, append_assoc, length-append, take_at, drop_at, ⊎_elim}
use Rattle.std.specs.List.{prefix_len}
use Rattle.std.proofs.lemmas.Bool.Decides.{nat_tests}
use Rattle.std.proofs.lemmas.List.{get_or_past}
use Rattle.std.proofs.lemmas.List.Sums.{prefix_len_passes}
use Rattle.std.proofs.lemmas.Str.{IsUtf8-take, IsUtf8-drop, IsUtf8-from_ascii, IsCharBoundary-after_ascii, IsCharBoundary-before_ascii}
use Rattle.std.proofs.Math.Seq.{get_or-append_seam}
use Rattle.std.proofs.str.Laws.{order}

-- bytes that all pass a test of ASCII bytes
pub ascii_utf8 : (p : ℕ → Bool) (text : List ℕ) → ((b : ℕ) → p b ≡ true → b < 128) → prefix_len p text ≡ length text → IsUtf8 text
ascii_utf8 p text ascii all = IsUtf8-from_ascii text (λ i. ⊎_elim
    (λ within. ascii (get_or text i 0) (prefix_len_passes p text i 0 (omega (arith, within, all))))
    (λ past. omega (arith, get_or_past text i 0 past))
    (order i (length text)))

abbrev is_low : ℕ → Bool
is_low b = nat_lt b 128

pub low_utf8 : (text : List ℕ) → prefix_len is_low text ≡ length text → IsUtf8 text
low_utf8 text all = ascii_utf8 is_low text (λ b passes. grind (arith, nat_tests)) all

-- a quote stands between two texts
pub utf8_around : (before after : List ℕ) → IsUtf8 (before ++ 39 ∷ after) → IsUtf8 before × IsUtf8 after
utf8_around before after utf8 =
    let all : List ℕ = before ++ 39 ∷ after in
    let here : get_or (before ++ 39 ∷ after) (length before) 0 ≡ 39 = get_or-append_seam before 39 after 0 in
    let within : length before < length (before ++ 39 ∷ after) = omega (arith, length-append before (39 ∷ after)) in
    let front : take (length before) (before ++ 39 ∷ after) ≡ before = take_at before (39 ∷ after) (length before) refl in
    let back : drop (length before + 1) (before ++ 39 ∷ after) ≡ after =
    ap (drop (length before + 1)) (sym (append_assoc before (39 ∷ []) after)) ∙ drop_at (before ++ 39 ∷ []) after (length before + 1) (length-append before (39 ∷ [])) in (
      subst IsUtf8 front (IsUtf8-take (before ++ 39 ∷ after) (length before) utf8 (IsCharBoundary-before_ascii (before ++ 39 ∷ after) (length before) within (omega (arith, here)))),
      subst IsUtf8 back (IsUtf8-drop (before ++ 39 ∷ after) (length before + 1) utf8 (IsCharBoundary-after_ascii (before ++ 39 ∷ after) (length before) utf8 within (omega (arith, here)))),
    )

pub quote_utf8 : IsUtf8 (39 ∷ [])
quote_utf8 = low_utf8 (39 ∷ []) refl
