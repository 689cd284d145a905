-- No two lists of rows have one text.
use Rattle.std.proofs.Common.{◌≡◌, ◌≢◌, ◌∙◌, ◌⊎◌, inl, inr, refl, sym, ap, ℕ, suc, ◌++◌, ◌∷◌, [], ℤ, pos, negsuc, decimal, Bool, true, false, true≢false, List, length, drop, slice_index, Some, append_assoc, arith}
use Rattle.std.specs.Prelude.{All, FitsSigned, map, unwrap_or}
use Rattle.std.specs.Fmt.{signed_decimal}
use Rattle.std.specs.Int.{w64}
use Rattle.std.proofs.lemmas.List.{append_cancel_left}
use Rattle.std.proofs.lemmas.List.Elements.{All-head, All-tail}
use Rattle.ssq_field.specs.Decimal.{NoDigit}
use Rattle.ssq_field.proofs.Digits.{decimals_apart}
use Rattle.ssq_time.specs.Time.{IsStampTime, stamp_of, stamp_text}
use Rattle.ssq_time.proofs.Readback.{stamp_of-stamp_text}
use Rattle.ssq_value.specs.declared.column.ColType.{ColType}
use Rattle.ssq_value.specs.declared.column.ColType.TheVariants.{Bigint, Str, Timestamp, Bool as Boolean}
use Rattle.ssq_value.specs.declared.value.Value.{Value}
use Rattle.ssq_value.specs.declared.value.Value.TheVariants.{Null, Int, Text, Time, Truth}
use Rattle.ssq_value.proofs.Fronts.{same_fronts}
use Rattle.ssq_shape.specs.declared.bound.Output.{Output}
use Rattle.ssq_json.specs.RowText.{head_text, heads_from, heads_of, members_text, row_text, value_text}
use Rattle.ssq_json.specs.Stored.{AreStoredIn, IsStoredIn, line_of, lines_of}
use Rattle.ssq_json.proofs.Restoring.{HasLen, below_zero, line_inside, null_is, number_held, quoted_apart, stamp_has_len, text_held, time_held, truth_apart, truth_held, regroup}
use Rattle.ssq_meaning.specs.Meaning.{Values}
use Rattle.ssq_sink.proofs.Rereading.{no_line}
use Rattle.ssq_tables.specs.Agreeing.{SinksAreOfOneRows, TextsAreOfOneRows}
use Rattle.ssq_tables.specs.Shown.{kinds_of}

-- ---- a value, and what follows it

below : (n : ℤ) (m : ℕ) (r s : List ℕ) → FitsSigned w64 n → FitsSigned w64 (negsuc m) → NoDigit r → NoDigit s → signed_decimal n ++ r ≡ signed_decimal (negsuc m) ++ s → (n ≡ negsuc m) × (r ≡ s)
below n m r s f g a b e = below_zero n r (signed_decimal n ++ r) (decimal (suc m) ++ s) (λ z left. (z ≡ negsuc m) × (left ≡ s)) f a e refl (λ k rest small quiet is.
    let both = decimals_apart (suc k) (suc m) rest s (omega (arith, small)) (omega (arith, g.sfits)) quiet b (ap (drop 1) (sym is)) in
    let same : k ≡ m = omega (arith, both.0) in
    (ap negsuc same, both.1))

numbers_apart : (n m : ℤ) (r s : List ℕ) → FitsSigned w64 n → FitsSigned w64 m → NoDigit r → NoDigit s → signed_decimal n ++ r ≡ signed_decimal m ++ s → (n ≡ m) × (r ≡ s)
numbers_apart (pos n) (pos m) r s f g a b e = let both = decimals_apart n m r s (omega (arith, f.sfits)) (omega (arith, g.sfits)) a b e in (ap pos both.0, both.1)
numbers_apart (pos n) (negsuc m) r s f g a b e = below (pos n) m r s f g a b e
numbers_apart (negsuc n) (negsuc m) r s f g a b e = below (negsuc n) m r s f g a b e
numbers_apart (negsuc n) (pos m) r s f g a b e = let both = below (pos m) n s r g f b a (sym e) in (sym both.0, sym both.1)

truths_apart : (t u : Bool) (r s : List ℕ) → value_text (Truth t) ++ r ≡ value_text (Truth u) ++ s → (t ≡ u) × (r ≡ s)
unfolding value_text
truths_apart true true r s e = (refl, ap (drop 4) e)
truths_apart false false r s e = (refl, ap (drop 5) e)
truths_apart true false r s e = absurd (true≢false (sym (truth_apart false s r (sym e)).0))
truths_apart false true r s e = absurd (true≢false (sym (truth_apart false r s e).0))

stamps_long : (t u : ℤ) (r s : List ℕ) → stamp_text t ++ r ≡ stamp_text u ++ s → length (stamp_text t) ≡ length (stamp_text u)
stamps_long t u r s e = by (stamp_has_len t r) (stamp_has_len u s)
  where
    by : HasLen (stamp_text t) r → HasLen (stamp_text u) s → length (stamp_text t) ≡ length (stamp_text u)
    by (inl one) (inl other) = one.1 ∙ sym other.1
    by (inr one) (inr other) = one.1 ∙ sym other.1
    by (inl one) (inr other) = let no : 46 ≡ 90 = sym one.0 ∙ ap (λ l. slice_index l 19) e ∙ other.0 in absurd (omega (arith, no))
    by (inr one) (inl other) = let no : 90 ≡ 46 = sym one.0 ∙ ap (λ l. slice_index l 19) e ∙ other.0 in absurd (omega (arith, no))

times_apart : (t u : ℤ) (r s : List ℕ) → IsStampTime t → IsStampTime u → value_text (Time t) ++ r ≡ value_text (Time u) ++ s → (t ≡ u) × (r ≡ s)
unfolding value_text
times_apart t u r s of_t of_u e =
    let inside : stamp_text t ++ (34 ∷ r) ≡ stamp_text u ++ (34 ∷ s) = sym (append_assoc (stamp_text t) (34 ∷ []) r) ∙ ap (drop 1) e ∙ append_assoc (stamp_text u) (34 ∷ []) s in
    let both = same_fronts (stamp_text t) (stamp_text u) (34 ∷ r) (34 ∷ s) (stamps_long t u (34 ∷ r) (34 ∷ s) inside) inside in
    let some : Some t ≡ Some u = sym (stamp_of-stamp_text t of_t) ∙ ap stamp_of both.0 ∙ stamp_of-stamp_text u of_u in
    (ap (λ o. unwrap_or o t) some, ap (drop 1) both.1)

held_apart : (kind : ColType) (v w : Value) (r s : List ℕ) → v ≢ Null → w ≢ Null → IsStoredIn kind v → IsStoredIn kind w → NoDigit r → NoDigit s → value_text v ++ r ≡ value_text w ++ s → (v ≡ w) × (r ≡ s)
unfolding value_text
held_apart Bigint v w r s some other of_v of_w a b e =
    let n = number_held v some of_v in
    let m = number_held w other of_w in
    let both = numbers_apart n.0 m.0 r s n.2 m.2 a b (ap (λ x. value_text x ++ r) (sym n.1) ∙ e ∙ ap (λ x. value_text x ++ s) m.1) in
    (n.1 ∙ ap Int both.0 ∙ sym m.1, both.1)
held_apart Str v w r s some other of_v of_w a b e =
    let n = text_held v some of_v in
    let m = text_held w other of_w in
    let both = quoted_apart n.0 r m.0 s (ap (λ x. value_text x ++ r) (sym n.1) ∙ e ∙ ap (λ x. value_text x ++ s) m.1) in
    (n.1 ∙ ap Text both.0 ∙ sym m.1, both.1)
held_apart Timestamp v w r s some other of_v of_w a b e =
    let n = time_held v some of_v in
    let m = time_held w other of_w in
    let both = times_apart n.0 m.0 r s n.2 m.2 (ap (λ x. value_text x ++ r) (sym n.1) ∙ e ∙ ap (λ x. value_text x ++ s) m.1) in
    (n.1 ∙ ap Time both.0 ∙ sym m.1, both.1)
held_apart Boolean v w r s some other of_v of_w a b e =
    let n = truth_held v some of_v in
    let m = truth_held w other of_w in
    let both = truths_apart n.0 m.0 r s (ap (λ x. value_text x ++ r) (sym n.1) ∙ e ∙ ap (λ x. value_text x ++ s) m.1) in
    (n.1 ∙ ap Truth both.0 ∙ sym m.1, both.1)

abbrev is_null : Value → Bool
is_null Null = true
is_null (Int n) = false
is_null (Text t) = false
is_null (Time t) = false
is_null (Truth t) = false

null_or : (v : Value) → (v ≡ Null) ⊎ (v ≢ Null)
null_or Null = inl refl
null_or (Int n) = inr (λ e. true≢false (sym (ap is_null e)))
null_or (Text t) = inr (λ e. true≢false (sym (ap is_null e)))
null_or (Time t) = inr (λ e. true≢false (sym (ap is_null e)))
null_or (Truth t) = inr (λ e. true≢false (sym (ap is_null e)))

null_first : (kind : ColType) (w : Value) (r s : List ℕ) → IsStoredIn kind w → value_text Null ++ r ≡ value_text w ++ s → (Null ≡ w) × (r ≡ s)
unfolding value_text
null_first kind w r s of_w e = let both = null_is kind w s r (value_text Null ++ r) of_w refl e in (both.0, both.1)

-- no two values of a column have one text, whatever follows that begins with no digit
values_apart : (kind : ColType) (v w : Value) (r s : List ℕ) → IsStoredIn kind v → IsStoredIn kind w → NoDigit r → NoDigit s → value_text v ++ r ≡ value_text w ++ s → (v ≡ w) × (r ≡ s)
values_apart kind v w r s of_v of_w a b e = by (null_or v) (null_or w)
  where
    by : (v ≡ Null) ⊎ (v ≢ Null) → (w ≡ Null) ⊎ (w ≢ Null) → (v ≡ w) × (r ≡ s)
    by (inl is) other = let both = null_first kind w r s of_w (ap (λ x. value_text x ++ r) (sym is) ∙ e) in (is ∙ both.0, both.1)
    by (inr some) (inl is) = let both = null_first kind v s r of_v (ap (λ x. value_text x ++ s) (sym is) ∙ sym e) in (sym both.0 ∙ sym is, sym both.1)
    by (inr some) (inr other) = held_apart kind v w r s some other of_v of_w a b e

-- ---- a row, and rows

abbrev names_in : List Output → List (List ℕ)
names_in outputs = map (λ output. output.name) outputs

-- after a value stands a comma or a brace
no_digit : (outputs : List Output) (row : Values) (rest : List ℕ) → NoDigit (members_text (heads_from true (names_in outputs)) row ++ 125 ∷ rest)
unfolding heads_from members_text
no_digit [] row rest = refl
no_digit (output ∷ outputs) [] rest = refl
no_digit (output ∷ outputs) (value ∷ row) rest = refl

members_apart : (later : Bool) (outputs : List Output) (row other : Values) (r s : List ℕ) → AreStoredIn (kinds_of outputs) row → AreStoredIn (kinds_of outputs) other
    → members_text (heads_from later (names_in outputs)) row ++ 125 ∷ r ≡ members_text (heads_from later (names_in outputs)) other ++ 125 ∷ s → (row ≡ other) × (r ≡ s)
unfolding heads_from members_text
members_apart later [] [] [] r s one two e = (refl, ap (drop 1) e)
members_apart later [] [] (w ∷ other) r s one two e = absurd two
members_apart later [] (v ∷ row) other r s one two e = absurd one
members_apart later (output ∷ outputs) [] other r s one two e = absurd one
members_apart later (output ∷ outputs) (v ∷ row) [] r s one two e = absurd two
members_apart later (output ∷ outputs) (v ∷ row) (w ∷ other) r s one two e =
    let heads = heads_from true (names_in outputs) in
    let head = head_text later output.name in
    let inside : value_text v ++ (members_text heads row ++ 125 ∷ r) ≡ value_text w ++ (members_text heads other ++ 125 ∷ s) =
    append_cancel_left head (value_text v ++ (members_text heads row ++ 125 ∷ r)) (value_text w ++ (members_text heads other ++ 125 ∷ s))
    (sym (regroup head (value_text v) (members_text heads row) (125 ∷ r)) ∙ e ∙ regroup head (value_text w) (members_text heads other) (125 ∷ s)) in
    let first = values_apart output.kind v w (members_text heads row ++ 125 ∷ r) (members_text heads other ++ 125 ∷ s) one.0 two.0 (no_digit outputs row r) (no_digit outputs other s) inside in
    let rest = members_apart true outputs row other r s one.1 two.1 first.1 in
    (λ i. first.0 i ∷ rest.0 i, rest.1)

line_apart : (outputs : List Output) (row other : Values) (r s : List ℕ) → AreStoredIn (kinds_of outputs) row → AreStoredIn (kinds_of outputs) other
    → line_of (names_in outputs) row ++ r ≡ line_of (names_in outputs) other ++ s → (row ≡ other) × (r ≡ s)
unfolding row_text
line_apart outputs row other r s one two e =
    let names = names_in outputs in
    let bytes = line_of names row ++ r in
    let own = line_inside names (heads_of names) row r bytes (drop 1 bytes) refl refl refl in
    let also = line_inside names (heads_of names) other s bytes (drop 1 bytes) refl refl e in
    let both = members_apart false outputs row other (10 ∷ r) (10 ∷ s) one two (sym own ∙ also) in
    (both.0, ap (drop 1) both.1)

lines_apart : (outputs : List Output) (rows others : List Values) → All (AreStoredIn (kinds_of outputs)) rows → All (AreStoredIn (kinds_of outputs)) others
    → lines_of (names_in outputs) rows ≡ lines_of (names_in outputs) others → rows ≡ others
lines_apart outputs [] [] one two e = refl
lines_apart outputs [] (other ∷ others) one two e = absurd (no_line (names_in outputs) other (lines_of (names_in outputs) others) e)
lines_apart outputs (row ∷ rows) [] one two e = absurd (no_line (names_in outputs) row (lines_of (names_in outputs) rows) (sym e))
lines_apart outputs (row ∷ rows) (other ∷ others) one two e =
    let S : Values → Type 0 = AreStoredIn (kinds_of outputs) in
    let first = line_apart outputs row other (lines_of (names_in outputs) rows) (lines_of (names_in outputs) others) (All-head S row rows one) (All-head S other others two) e in
    let rest = lines_apart outputs rows others (All-tail S row rows one) (All-tail S other others two) first.1 in
    λ i. first.0 i ∷ rest i

-- rows are read back from their text in one way
pub one_text : TextsAreOfOneRows
one_text query bytes rows others one other = lines_apart query.outputs rows others one.stored other.stored (sym one.text ∙ other.text)

-- and from their sink file
pub one_sink : SinksAreOfOneRows
one_sink query files e rows others one other =
    let some : Some one.bytes ≡ Some other.bytes = sym one.there ∙ other.there in
    let same : one.bytes ≡ other.bytes = ap (λ o. unwrap_or o one.bytes) some in
    lines_apart query.outputs rows others one.are.stored other.are.stored (sym one.are.text ∙ same ∙ other.are.text)
