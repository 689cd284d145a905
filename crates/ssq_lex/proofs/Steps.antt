-- One turn over a text takes the front off it.
use Rattle.std.proofs.Common.{◌≡◌, ℕ, zero, suc, ◌+◌, ◌-◌, ◌<◌, ◌≤◌, List, [], ◌∷◌, ◌++◌, length, drop, IsUtf8, Option, Some, None, IfSome, subst, Ok, Err, sym, refl, ap, ◌∙◌, arith, add-zero, append_assoc, append-nil, length-drop}
use Rattle.std.specs.List.{All}
use Rattle.std.proofs.lemmas.List.Elements.{All-nil, All-cons, All-append, All-map}
use Rattle.ssq_lex.specs.declared.fault.LexCause.{LexCause}
use Rattle.ssq_lex.specs.Lexeme.{Lexeme, Lexed}
use Rattle.ssq_lex.specs.Sayable.{IsSayable, StandInOrder, AreTokensOf}
use Rattle.ssq_lex.proofs.Sound.{head_says}
use Rattle.ssq_lex.specs.Cut.{Head, Cut, front, token_at, followed, and_rest, cut_from, cut_of}

cut_from-taken : (n at : ℕ) (bytes : List ℕ) → n ≤ length bytes → cut_from n at bytes ≡ cut_from 0 (at + n) (drop n bytes)
cut_from-taken zero at bytes within = ap (λ k. cut_from 0 k bytes) (sym (add-zero at))
cut_from-taken (suc n) at [] within = absurd (omega arith)
cut_from-taken (suc n) at (b ∷ bytes) within =
    let place : at + 1 + n ≡ at + suc n = omega arith in
    cut_from-taken n (at + 1) bytes (omega arith) ∙ ap (λ k. cut_from 0 k (drop n bytes)) place

rest_after : (len at b : ℕ) (bytes : List ℕ) → 0 < len → len ≤ length (b ∷ bytes) → cut_from (len - 1) (at + 1) bytes ≡ cut_from 0 (at + len) (drop len (b ∷ bytes))
rest_after zero at b bytes some within = absurd (omega arith)
rest_after (suc n) at b bytes some within =
    let less : suc n - 1 ≡ n = omega arith in
    let place : at + 1 + n ≡ at + suc n = omega arith in
    ap (λ k. cut_from k (at + 1) bytes) less ∙ cut_from-taken n (at + 1) bytes (omega arith) ∙ ap (λ k. cut_from 0 k (drop n bytes)) place

-- a front that is found stands before the tokens of what is after it
pub cut_from-found : (rest : List ℕ) (at : ℕ) (head : Head) → front rest ≡ Ok head → 0 < head.len → head.len ≤ length rest → cut_from 0 at rest ≡ followed (token_at at head.len head.said) (cut_from 0 (at + head.len) (drop head.len rest))
cut_from-found [] at head found some within = absurd (omega arith)
cut_from-found (b ∷ bytes) at head found some within =
    ap (λ r. and_rest at r (λ taken. cut_from taken (at + 1) bytes)) found ∙ ap (followed (token_at at head.len head.said)) (rest_after head.len at b bytes some within)

-- a fault ends the text
abbrev pub stopped : ℕ → LexCause → Cut
stopped at cause = record { tokens = []; fault = Some (record { at = at; cause = cause }) }

pub cut_from-refused : (rest : List ℕ) (at : ℕ) (cause : LexCause) → 0 < length rest → front rest ≡ Err cause → cut_from 0 at rest ≡ stopped at cause
cut_from-refused [] at cause some refused = absurd (omega arith)
cut_from-refused (b ∷ bytes) at cause some refused = ap (λ r. and_rest at r (λ taken. cut_from taken (at + 1) bytes)) refused

pub followed-followed : (xs ys : List Lexed) (r : Cut) → followed xs (followed ys r) ≡ followed (xs ++ ys) r
followed-followed xs ys r = ap (λ tokens. record { tokens = tokens; fault = r.fault }) (sym (append_assoc xs ys r.tokens))

order_more : (from at len : ℕ) (said : Option Lexeme) (found : List Lexed) → from ≤ at → 0 < len → StandInOrder from at found → StandInOrder from (at + len) (found ++ token_at at len said)
order_more from at len None [] before some order = tt
order_more from at len (Some word) [] before some order = (before, omega arith, omega arith, tt)
order_more from at len said (token ∷ found) before some order =
    (order.0, order.1, omega (arith, order.2), order_more token.end at len said found order.2 some order.3)

order_within : (from at len : ℕ) (found : List Lexed) → at ≤ len → StandInOrder from at found → StandInOrder from len found
order_within from at len [] within order = tt
order_within from at len (token ∷ found) within order = (order.0, order.1, omega (arith, order.2), order_within token.end at len found within order.3)

abbrev pub Says : Lexed → Type 0
Says token = IsSayable token.said

pub says_more : (at len : ℕ) (said : Option Lexeme) → IfSome said IsSayable → All Says (token_at at len said)
says_more at len None says = All-nil Says
says_more at len (Some word) says = All-cons Says (record { start = at; end = at + len; said = word }) [] says (All-nil Says)

-- what was found so far, and the text that is left
pub record IsRead (text : List ℕ) (found : List Lexed) (at : ℕ) (rest : List ℕ) : Type 0 where
  pub places : at + length rest ≡ length text
  pub cut : followed found (cut_from 0 at rest) ≡ cut_of text
  pub utf8 : IsUtf8 rest
  pub order : StandInOrder 0 at found
  pub says : All Says found

pub reads_none : (text : List ℕ) → IsUtf8 text → IsRead text [] 0 text
unfolding cut_of
reads_none text utf8 = record { places = omega arith; cut = refl; utf8 = utf8; order = tt; says = All-nil Says }

pub reads_more : (text : List ℕ) (found more : List Lexed) (at : ℕ) (rest after : List ℕ) (head : Head) → IsRead text found at rest → front rest ≡ Ok head → 0 < head.len → head.len ≤ length rest → more ≡ found ++ token_at at head.len head.said → after ≡ drop head.len rest → IsUtf8 after → IsRead text more (at + head.len) after
reads_more text found more at rest after head so_far is some within more_is after_is utf8 = record {
  places = omega (arith, so_far.places, ap length after_is, length-drop head.len rest);
  cut = ap (λ xs. followed xs (cut_from 0 (at + head.len) after)) more_is
      ∙ ap (λ bs. followed (found ++ token_at at head.len head.said) (cut_from 0 (at + head.len) bs)) after_is
      ∙ sym (followed-followed found (token_at at head.len head.said) (cut_from 0 (at + head.len) (drop head.len rest)))
      ∙ ap (followed found) (sym (cut_from-found rest at head is some within))
      ∙ so_far.cut;
  utf8 = utf8;
  order = subst (StandInOrder 0 (at + head.len)) (sym more_is) (order_more 0 at head.len head.said found (omega arith) some so_far.order);
  says = subst (All Says) (sym more_is) (All-append Says found (token_at at head.len head.said) so_far.says (says_more at head.len head.said (head_says rest head so_far.utf8 is)));
}

pub reads_all : (text : List ℕ) (found : List Lexed) (at : ℕ) (rest : List ℕ) → IsRead text found at rest → length rest ≡ 0 → record { tokens = found; fault = None } ≡ cut_of text
reads_all text found at [] so_far empty = ap (λ tokens. record { tokens = tokens; fault = None }) (sym (append-nil found)) ∙ so_far.cut
reads_all text found at (b ∷ rest) so_far empty = absurd (omega (arith, empty))

pub reads_fault : (text : List ℕ) (found : List Lexed) (at : ℕ) (rest : List ℕ) (cause : LexCause) → IsRead text found at rest → 0 < length rest → front rest ≡ Err cause → record { tokens = found; fault = Some (record { at = at; cause = cause }) } ≡ cut_of text
reads_fault text found at rest cause so_far some refused =
    ap (λ tokens. record { tokens = tokens; fault = Some (record { at = at; cause = cause }) }) (sym (append-nil found))
    ∙ ap (followed found) (sym (cut_from-refused rest at cause some refused))
    ∙ so_far.cut

pub reads_sound : (text : List ℕ) (found : List Lexed) (at : ℕ) (rest : List ℕ) → IsRead text found at rest → AreTokensOf text found
reads_sound text found at rest so_far = record {
  order = order_within 0 at (length text) found (omega (arith, so_far.places)) so_far.order;
  said = All-map IsSayable (λ token. token.said) found so_far.says;
}
