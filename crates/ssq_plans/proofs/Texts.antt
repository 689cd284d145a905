-- Texts of names, taken apart.
use Rattle.std.proofs.Common.{◌≡◌, ℕ, ◌^◌, ◌<◌, List, [], ◌++◌, codes, decimal, get_or, refl, sym, ap, ◌∙◌, append_assoc, arith}
use Rattle.std.proofs.lemmas.Fmt.{decimal_injective}
use Rattle.std.proofs.lemmas.List.{append_cancel_left, append-nil}
use Rattle.ssq_field.specs.Decimal.{NoDigit}
use Rattle.ssq_field.specs.Field.{AreApart, Fits64}
use Rattle.ssq_outside.specs.declared.name.Name.{Name}
use Rattle.ssq_outside.specs.declared.name.Name.TheVariants.{Meta, Plan, Commit, Out, Delta, Snapshot}
use Rattle.ssq_plans.specs.Names.{text_of, AreTextsApart}

-- what follows the front is one
pub same_rest : (front text rest other : List ℕ) → text ≡ front ++ rest → text ≡ front ++ other → rest ≡ other
same_rest front text rest other is of = append_cancel_left front rest other (sym is ∙ of)

-- a number that is all that follows the front has nothing after it
pub nothing_behind : (front text : List ℕ) (n : ℕ) → text ≡ front ++ decimal n → text ≡ front ++ (decimal n ++ [])
nothing_behind front text n is = is ∙ ap (λ (digits : List ℕ). front ++ digits) (sym (append-nil (decimal n)))

-- the text of a file of the state, from its parts
pub state_text : (text after after_slash tail : List ℕ) (p v : ℕ) → text ≡ codes "state/" ++ (decimal p ++ after) → after ≡ codes "/" ++ (decimal v ++ after_slash) → after_slash ≡ tail → text ≡ codes "state/" ++ decimal p ++ codes "/" ++ decimal v ++ tail
state_text text after after_slash tail p v h1 h2 h3 = rw (h1, h2, h3) (simp append_assoc)

-- ---- no two names have one text

-- the text of a file of the state is its numbers, each before what no digit begins
pub state_split : (p v : ℕ) (tail : List ℕ) → codes "state/" ++ decimal p ++ codes "/" ++ decimal v ++ tail ≡ codes "state/" ++ (decimal p ++ (codes "/" ++ (decimal v ++ tail)))
state_split p v tail = simp append_assoc

-- two texts of the state that are one have the same numbers and the same end
state_apart : AreApart decimal Fits64 NoDigit → (p v q w : ℕ) (x y : List ℕ) → p < 2 ^ 32 → v < 2 ^ 32 → q < 2 ^ 32 → w < 2 ^ 32 → NoDigit x → NoDigit y → codes "state/" ++ decimal p ++ codes "/" ++ decimal v ++ x ≡ codes "state/" ++ decimal q ++ codes "/" ++ decimal w ++ y → (p ≡ q) × (v ≡ w) × (x ≡ y)
state_apart apart p v q w x y hp hv hq hw nx ny e =
    let whole = sym (state_split p v x) ∙ e ∙ state_split q w y in
    let front = append_cancel_left (codes "state/") (decimal p ++ (codes "/" ++ (decimal v ++ x))) (decimal q ++ (codes "/" ++ (decimal w ++ y))) whole in
    let first = apart p q (codes "/" ++ (decimal v ++ x)) (codes "/" ++ (decimal w ++ y)) (omega arith) (omega arith) refl refl front in
    let rest = append_cancel_left (codes "/") (decimal v ++ x) (decimal w ++ y) first.1 in
    let second = apart v w x y (omega arith) (omega arith) nx ny rest in
    (first.0, second.0, second.1)

-- a name of one number after a front
one_apart : (front : List ℕ) (e f : ℕ) → e < 2 ^ 32 → f < 2 ^ 32 → front ++ decimal e ≡ front ++ decimal f → e ≡ f
one_apart front e f he hf is = decimal_injective e f (omega arith) (omega arith) (append_cancel_left front (decimal e) (decimal f) is)

-- the second byte of a text, which tells the kinds of names apart but for the two of the state
abbrev second_byte : Name → ℕ
second_byte Meta = 101
second_byte (Plan e) = 102
second_byte (Commit e) = 111
second_byte (Out e) = 105
second_byte (Delta p v) = 116
second_byte (Snapshot p v) = 116

second_byte_is : (m : Name) → get_or (text_of m) 1 0 ≡ second_byte m
second_byte_is Meta = refl
second_byte_is (Plan e) = refl
second_byte_is (Commit e) = refl
second_byte_is (Out e) = refl
second_byte_is (Delta p v) = refl
second_byte_is (Snapshot p v) = refl

second_bytes : (m n : Name) → text_of m ≡ text_of n → second_byte m ≡ second_byte n
second_bytes m n is = sym (second_byte_is m) ∙ ap (λ (text : List ℕ). get_or text 1 0) is ∙ second_byte_is n

pub texts_apart : AreApart decimal Fits64 NoDigit → AreTextsApart
texts_apart apart Meta Meta hm hn e = refl
texts_apart apart (Plan e) (Plan f) he hf is = ap Plan (one_apart (codes "offsets/") e f he hf is)
texts_apart apart (Commit e) (Commit f) he hf is = ap Commit (one_apart (codes "commits/") e f he hf is)
texts_apart apart (Out e) (Out f) he hf is = ap Out (one_apart (codes "sink/") e f he hf is)
texts_apart apart (Delta p v) (Delta q w) hm hn is =
    let same = state_apart apart p v q w (codes ".delta") (codes ".delta") hm.0 hm.1 hn.0 hn.1 refl refl is in cc
texts_apart apart (Snapshot p v) (Snapshot q w) hm hn is =
    let same = state_apart apart p v q w (codes ".snapshot") (codes ".snapshot") hm.0 hm.1 hn.0 hn.1 refl refl is in cc
texts_apart apart (Delta p v) (Snapshot q w) hm hn is =
    let same = state_apart apart p v q w (codes ".delta") (codes ".snapshot") hm.0 hm.1 hn.0 hn.1 refl refl is in cc
texts_apart apart (Snapshot p v) (Delta q w) hm hn is =
    let same = state_apart apart p v q w (codes ".snapshot") (codes ".delta") hm.0 hm.1 hn.0 hn.1 refl refl is in cc
texts_apart apart m n hm hn is = let same : second_byte m ≡ second_byte n = second_bytes m n is in absurd (omega arith)
