-- Quotes that stand for themselves twice.
use Rattle.std.proofs.Common.{◌≡◌, ◌≢◌, ℕ, suc, ◌+◌, ◌<◌, List, [], ◌∷◌, ◌++◌, length, drop, get_or, IsUtf8, subst, sym, refl, ap, ◌∙◌, arith, append_assoc, length-append}
use Rattle.std.proofs.lemmas.Bool.Decides.{nat_tests}
use Rattle.std.proofs.Math.Seq.{get_or-append_seam, drop-append-add}
use Rattle.std.proofs.lemmas.Str.{IsUtf8-drop, IsCharBoundary-after_ascii}
use Rattle.ssq_lex.specs.Lexeme.{undoubled, doubled}

-- no quote stands in the text
pub record Lacks (text : List ℕ) : Type 0 where
  pub at : (i : ℕ) → i < length text → get_or text i 0 ≢ 39

lacks-first : (b : ℕ) (bs : List ℕ) → Lacks (b ∷ bs) → b ≢ 39
lacks-first b bs lacks = lacks.at 0 (omega arith)

lacks-rest : (b : ℕ) (bs : List ℕ) → Lacks (b ∷ bs) → Lacks bs
lacks-rest b bs lacks = record { at = λ i within. lacks.at (suc i) (omega arith) }

pub doubled-other : (b : ℕ) (bs : List ℕ) → b ≢ 39 → doubled (b ∷ bs) ≡ b ∷ doubled bs
doubled-other b bs other = grind (arith, nat_tests)

pub undoubled-other : (b : ℕ) (bs : List ℕ) → b ≢ 39 → undoubled (b ∷ bs) ≡ b ∷ undoubled bs
undoubled-other b [] other = refl
undoubled-other b (c ∷ bs) other = grind (arith, nat_tests)

pub doubled-none : (text : List ℕ) → Lacks text → doubled text ≡ text
doubled-none [] lacks = refl
doubled-none (b ∷ bs) lacks = doubled-other b bs (lacks-first b bs lacks) ∙ ap (λ t. b ∷ t) (doubled-none bs (lacks-rest b bs lacks))

pub undoubled-none : (text : List ℕ) → Lacks text → undoubled text ≡ text
undoubled-none [] lacks = refl
undoubled-none (b ∷ bs) lacks = undoubled-other b bs (lacks-first b bs lacks) ∙ ap (λ t. b ∷ t) (undoubled-none bs (lacks-rest b bs lacks))

pub doubled-before : (before after : List ℕ) → Lacks before → doubled (before ++ 39 ∷ after) ≡ before ++ 39 ∷ 39 ∷ doubled after
doubled-before [] after lacks = refl
doubled-before (b ∷ bs) after lacks =
    doubled-other b (bs ++ 39 ∷ after) (lacks-first b bs lacks) ∙ ap (λ t. b ∷ t) (doubled-before bs after (lacks-rest b bs lacks))

pub undoubled-before : (before after : List ℕ) → Lacks before → undoubled (before ++ after) ≡ before ++ undoubled after
undoubled-before [] after lacks = refl
undoubled-before (b ∷ bs) after lacks =
    undoubled-other b (bs ++ after) (lacks-first b bs lacks) ∙ ap (λ t. b ∷ t) (undoubled-before bs after (lacks-rest b bs lacks))

pub undoubled-pair : (rest behind : List ℕ) → rest ≡ 39 ∷ behind → undoubled (39 ∷ rest) ≡ 39 ∷ undoubled behind
undoubled-pair rest behind is = ap (λ t. undoubled (39 ∷ t)) is

pub undoubled-single : (rest : List ℕ) → ((behind : List ℕ) → rest ≢ 39 ∷ behind) → undoubled (39 ∷ rest) ≡ 39 ∷ undoubled rest
undoubled-single [] alone = refl
undoubled-single (c ∷ bs) alone =
    let other : c ≢ 39 = λ is. alone bs (ap (λ b. b ∷ bs) is) in grind (arith, nat_tests)

pub lacks : (text : List ℕ) → ((i : ℕ) → i < length text → get_or text i 0 ≢ 39) → Lacks text
lacks text at = record { at = at }

-- a text that is written between quotes so far goes on after the next quote in it
pub doubles_on : (written rest before after all : List ℕ) → written ++ doubled rest ≡ all → (rest ≡ before ++ 39 ∷ after) × ((i : ℕ) → i < length before → get_or before i 0 ≢ 39) → (written ++ before ++ 39 ∷ 39 ∷ []) ++ doubled after ≡ all
doubles_on written rest before after all so_far split =
    append_assoc (written ++ before) (39 ∷ 39 ∷ []) (doubled after)
    ∙ append_assoc written before (39 ∷ 39 ∷ doubled after)
    ∙ ap (λ t. written ++ t) (sym (doubled-before before after (lacks before split.1)) ∙ ap doubled (sym split.0))
    ∙ so_far

pub undoubles_on : (written rest before after behind all : List ℕ) → written ++ undoubled rest ≡ all → (rest ≡ before ++ 39 ∷ after) × ((i : ℕ) → i < length before → get_or before i 0 ≢ 39) → undoubled (39 ∷ after) ≡ 39 ∷ undoubled behind → (written ++ before ++ 39 ∷ []) ++ undoubled behind ≡ all
undoubles_on written rest before after behind all so_far split next =
    append_assoc (written ++ before) (39 ∷ []) (undoubled behind)
    ∙ append_assoc written before (39 ∷ undoubled behind)
    ∙ ap (λ t. written ++ t) (ap (λ t. before ++ t) (sym next) ∙ sym (undoubled-before before (39 ∷ after) (lacks before split.1)) ∙ ap undoubled (sym split.0))
    ∙ so_far

-- what stands after a quote is text
pub utf8_behind : (rest before after : List ℕ) → IsUtf8 rest → rest ≡ before ++ 39 ∷ after → IsUtf8 after
utf8_behind rest before after utf8 split =
    let here : get_or rest (length before) 0 ≡ 39 = ap (λ t. get_or t (length before) 0) split ∙ get_or-append_seam before 39 after 0 in
    let within : length before < length rest = omega (arith, ap length split, length-append before (39 ∷ after)) in
    let rest_is : drop (length before + 1) rest ≡ after = ap (drop (length before + 1)) split ∙ drop-append-add before (39 ∷ after) 1 in
    subst IsUtf8 rest_is (IsUtf8-drop rest (length before + 1) utf8 (IsCharBoundary-after_ascii rest (length before) utf8 within (omega (arith, here))))
