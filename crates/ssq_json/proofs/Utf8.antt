-- What is written of a row is UTF-8.
use Rattle.std.proofs.Common.{◌≡◌, ℕ, ℤ, List, [], ◌∷◌, ◌++◌, Result, Ok, Err, OnOk, IsUtf8, refl, sym, subst, ◌∙◌}
use Rattle.std.proofs.lemmas.Str.{IsUtf8-append, IsUtf8-from_ascii}
use Rattle.json.specs.Token.{Token}
use Rattle.json.specs.Print.{token_text, print, quoted}
use Rattle.json.specs.Written.{Written, Writes}
use Rattle.json.proofs.Printed.Utf8.{IsUtf8-are_ascii, IsUtf8-quoted}
use Rattle.ssq_time.specs.Time.{IsStampTime, stamp_text}
use Rattle.ssq_time.proofs.Ascii.{stamp_text-ascii}
use Rattle.ssq_json.proofs.Writing.{print-one}

-- bytes that hold UTF-8 after others
pub appended : (old new more : List ℕ) → new ≡ old ++ more → IsUtf8 more → IsUtf8 old → IsUtf8 new
appended old new more is utf8 before = subst IsUtf8 (sym is) (IsUtf8-append old more before utf8)

-- a writer's only token
pub one_token : {E : Type 0} (r : Result (Unit {0}) E) (old new : Written) (t : Token) → old.tokens ≡ [] → Writes r old new t → IsUtf8 (print new.tokens) → OnOk r (IsUtf8 (token_text t))
one_token (Ok done) old new t none w utf8 = rw (w.ok, none, print-one t) at utf8
one_token (Err error) old new t none w utf8 = tt

-- a writer that began after some bytes, after its only token
pub keyed : {E : Type 0} (done : Unit {0}) (old new : Written) (t : Token) (before out : List ℕ) → old.before ≡ before → IsUtf8 before → Writes {E = E} (Ok done) old new t → out ≡ new.before ++ print new.tokens → IsUtf8 (print new.tokens) → IsUtf8 out
keyed done old new t before out begins b w is u =
    let same : new.before ≡ before = w.room.0 ∙ begins in
    appended new.before out (print new.tokens) is u (subst IsUtf8 (sym same) b)

-- what stands before a value, and the value
pub headed : {E : Type 0} (r : Result (Unit {0}) E) (head bytes value : List ℕ) → bytes ≡ head → IsUtf8 bytes → OnOk r (IsUtf8 value) → OnOk r (IsUtf8 (head ++ value))
headed (Ok done) head bytes value is u v = IsUtf8-append head value (subst IsUtf8 is u) v
headed (Err error) head bytes value is u v = tt

pub quotes : {E : Type 0} (r : Result (Unit {0}) E) (text : List ℕ) → IsUtf8 text → OnOk r (IsUtf8 (quoted text))
quotes (Ok done) text utf8 = IsUtf8-quoted text utf8
quotes (Err error) text utf8 = tt

-- bytes that are UTF-8 are it at Ok
pub at_ok : {T E : Type 0} (r : Result T E) (text : List ℕ) → IsUtf8 text → OnOk r (IsUtf8 text)
at_ok (Ok done) text utf8 = utf8
at_ok (Err error) text utf8 = tt

pub left_brace : IsUtf8 (123 ∷ [])
left_brace = IsUtf8-are_ascii (123 ∷ []) refl

pub right_brace : IsUtf8 (125 ∷ [])
right_brace = IsUtf8-are_ascii (125 ∷ []) refl

pub line_feed : IsUtf8 (10 ∷ [])
line_feed = IsUtf8-are_ascii (10 ∷ []) refl

pub time_utf8 : (t : ℤ) → IsStampTime t → IsUtf8 (34 ∷ (stamp_text t ++ 34 ∷ []))
time_utf8 t h =
    let quote : IsUtf8 (34 ∷ []) = IsUtf8-are_ascii (34 ∷ []) refl in
    IsUtf8-append (34 ∷ []) (stamp_text t ++ 34 ∷ []) quote (IsUtf8-append (stamp_text t) (34 ∷ []) (IsUtf8-from_ascii (stamp_text t) (stamp_text-ascii t h)) quote)
