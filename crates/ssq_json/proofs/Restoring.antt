-- Rows are read back from their lines.
use Rattle.std.proofs.Common.{◌≡◌, ◌≢◌, ℕ, zero, suc, ◌+◌, ◌-◌, ◌-ℤ◌, to_z, of_z, ◌/◌, ◌%◌, ◌^◌, ◌<◌, ◌≤◌, ◌==◌, ℤ, pos, negsuc, Bool, true, false, true≢false, List, [], ◌∷◌, ◌++◌, length, take, drop, slice_index, Option, Some, None, is_some, inl, inr, ◌⊎◌, refl, sym, ap, ap₂, ◌∙◌, subst, arith, append_assoc, append-nil, IsUtf8, codes, decimal}
use Rattle.std.specs.Prelude.{unsigned_abs, FitsSigned, unwrap_or, nat_eq, MatchOption, IfSome, IsSomeAnd}
use Rattle.std.specs.Cmp.Lexicographic.{bytes_decides, pointwise, same_text}
use Rattle.std.specs.Int.{w64, int_div_euclid, int_rem_euclid}
use Rattle.std.specs.Fmt.{signed_decimal}
use Rattle.std.specs.List.{list_all}
use Rattle.std.proofs.lemmas.Bool.{cases_eq, cases_lt, cases_order, ne_eqb}
use Rattle.std.proofs.lemmas.Bool.Decides.{nat_tests}
use Rattle.std.proofs.lemmas.Int.{ints, to_z_pos, to_z-of_z}
use Rattle.std.proofs.lemmas.List.{append_cancel_left, drop_all, take-append-drop, take_rest}
use Rattle.json.specs.Print.{escape, escape_byte, quoted}
use Rattle.json.specs.Text.{content, plain}
use Rattle.json.proofs.Printed.Strings.{content-escape, escape_byte_plain}
use Rattle.ssq_field.specs.Decimal.{is_digit, is_plain, NoDigit}
use Rattle.ssq_field.proofs.Digits.{decimal_passes, decimal_plain}
use Rattle.ssq_time.specs.Time.{IsStampTime, parts_text, stamp_text, year_of, month_of, day_in_month}
use Rattle.ssq_time.proofs.Readback.{parts_text-zero, parts_text-more}
use Rattle.ssq_value.specs.declared.column.ColType.{ColType}
use Rattle.ssq_value.specs.declared.column.ColType.TheVariants.{Bigint, Str, Timestamp, Bool as Boolean}
use Rattle.ssq_value.specs.declared.value.Value.{Value}
use Rattle.ssq_value.specs.declared.value.Value.TheVariants.{Null, Int, Text, Time, Truth}
use Rattle.ssq_json.proofs.Lexing.{escape-plain}
use Rattle.ssq_json.specs.Flat.{ArePlain}
use Rattle.ssq_json.specs.RowText.{heads_from, heads_of, members_text, row_text, value_text}
use Rattle.ssq_json.specs.Stored.{AreStoredIn, IsStoredIn, line_of}
use Rattle.ssq_json.specs.Unescaped.{byte_at, escaped_at, control_at, control, short_for}

-- ---- a front

take-front : {A : Type 0} (xs ys : List A) → take (length xs) (xs ++ ys) ≡ xs
take-front [] ys = refl
take-front (x ∷ xs) ys = ap (λ l. x ∷ l) (take-front xs ys)

drop-front : {A : Type 0} (xs ys : List A) → drop (length xs) (xs ++ ys) ≡ ys
drop-front [] ys = refl
drop-front (x ∷ xs) ys = drop-front xs ys

abbrev IsStripped : {X : Type 0} → (X → List ℕ) → (text front : List ℕ) → Option X → Type 0
IsStripped now text front r =
    MatchOption r (pointwise nat_eq (take (length front) text) front ≡ false)
    (λ x. (pointwise nat_eq (take (length front) text) front ≡ true) × (now x ≡ drop (length front) text) × (length (now x) + length front ≡ length text))

pub stripped_is : {X : Type 0} (now : X → List ℕ) (text front : List ℕ) (r : Option X) → IsStripped now text front r → IfSome r (λ x. text ≡ front ++ now x)
stripped_is now text front None is = tt
stripped_is now text front (Some x) is = sym (take-append-drop (length front) text) ∙ ap₂ (λ a b. a ++ b) (same_text _ _ (sym is.0)) (sym is.1)

pub stripped_each : {X : Type 0} (now : X → List ℕ) (text front : List ℕ) (r : Option X) → IsStripped now text front r → (rest : List ℕ) → text ≡ front ++ rest → IsSomeAnd r (λ x. now x ≡ rest)
stripped_each now text front None is rest whole = absurd (true≢false (sym ((bytes_decides _ _).1 (ap (take (length front)) whole ∙ take-front front rest)) ∙ is))
stripped_each now text front (Some x) is rest whole = is.1 ∙ ap (drop (length front)) whole ∙ drop-front front rest

-- ---- one byte

-- P holds below n, counted down from the top
abbrev Each : (ℕ → Type 0) → ℕ → Type 0
Each P zero = Unit {0}
Each P (suc n) = P n × Each P n

each_sound : (P : ℕ → Type 0) (n : ℕ) → Each P n → (x : ℕ) → x < n → P x
each_sound P zero h x lt = absurd (omega arith)
each_sound P (suc n) h x lt = go (each_sound P n h.1 x) (cases_eq x n)
  where
    go : (x < n → P x) → (x ≡ n) ⊎ (x ≡ n → ⊥) → P x
    go below (inl e) = subst P (sym e) h.0
    go below (inr ne) = below (omega arith)

abbrev IsFoundAgain : ℕ → Type 0
IsFoundAgain x = (rest : List ℕ) → byte_at (escape_byte x ++ rest) ≡ Some (x, rest)

controls : Each IsFoundAgain 32
unfolding escape_byte byte_at escaped_at control_at control short_for
controls = (λ r. refl, (λ r. refl, (λ r. refl, (λ r. refl, (λ r. refl, (λ r. refl, (λ r. refl, (λ r. refl, (λ r. refl, (λ r. refl, (λ r. refl, (λ r. refl, (λ r. refl, (λ r. refl, (λ r. refl, (λ r. refl, (λ r. refl, (λ r. refl, (λ r. refl, (λ r. refl, (λ r. refl, (λ r. refl, (λ r. refl, (λ r. refl, (λ r. refl, (λ r. refl, (λ r. refl, (λ r. refl, (λ r. refl, (λ r. refl, (λ r. refl, (λ r. refl, tt))))))))))))))))))))))))))))))))

quote_found : IsFoundAgain 34
unfolding escape_byte byte_at escaped_at short_for
quote_found r = refl

backslash_found : IsFoundAgain 92
unfolding escape_byte byte_at escaped_at short_for
backslash_found r = refl

plain_found : (x : ℕ) → (x ≡ 34 → ⊥) → (x ≡ 92 → ⊥) → 32 ≤ x → IsFoundAgain x
unfolding byte_at
plain_found x q b l rest = rw (escape_byte_plain x q b l, ne_eqb x 34 q, ne_eqb x 92 b) refl

-- what stands for a byte is read as that byte
pub found_again : (x : ℕ) → IsFoundAgain x
found_again x = go (cases_eq x 34) (cases_eq x 92) (cases_lt x 32)
  where
    go : (x ≡ 34) ⊎ (x ≡ 34 → ⊥) → (x ≡ 92) ⊎ (x ≡ 92 → ⊥) → (x < 32) ⊎ (32 ≤ x) → IsFoundAgain x
    go (inl e) b c = subst IsFoundAgain (sym e) quote_found
    go (inr q) (inl e) c = subst IsFoundAgain (sym e) backslash_found
    go (inr q) (inr b) (inl c) = each_sound IsFoundAgain 32 controls x c
    go (inr q) (inr b) (inr l) = plain_found x q b l

none_at_quote : (rest : List ℕ) → byte_at (34 ∷ rest) ≡ None
unfolding byte_at
none_at_quote rest = refl

-- ---- a quoted text

-- what is left of a quoted text is what stands for the bytes that are left
abbrev pub AreLeft : (text done left : List ℕ) → Type 0
AreLeft text done left = (bytes rest : List ℕ) → text ≡ escape bytes ++ 34 ∷ rest → (more : List ℕ) × (bytes ≡ done ++ more) × (left ≡ escape more ++ 34 ∷ rest)

pub all_left : (text : List ℕ) → AreLeft text [] text
all_left text bytes rest is = (bytes, refl, is)

-- none is found where one is
pub none_is_not : {A R : Type 0} {x : A} → None ≡ Some x → R
none_is_not e = absurd (true≢false (sym (ap is_some e)))

some_is : {A : Type 0} {x y : A} → Some x ≡ Some y → x ≡ y
some_is {A} {x} {y} e = ap (λ o. unwrap_or o x) e

-- one byte more
pub one_less : (text done left new after : List ℕ) (byte : ℕ) → byte_at left ≡ Some (byte, after) → new ≡ done ++ byte ∷ [] → AreLeft text done left → AreLeft text new after
one_less text done left new after byte found is before bytes rest whole = go (before bytes rest whole).0 (before bytes rest whole).1 (before bytes rest whole).2
  where
    go : (more : List ℕ) → bytes ≡ done ++ more → left ≡ escape more ++ 34 ∷ rest → (more' : List ℕ) × (bytes ≡ new ++ more') × (after ≡ escape more' ++ 34 ∷ rest)
    go [] all here = absurd (none_is_not (sym (none_at_quote rest) ∙ ap byte_at (sym here) ∙ found))
    go (x ∷ more) all here =
        let pair : (x, escape more ++ 34 ∷ rest) ≡ (byte, after) = some_is (sym (found_again x (escape more ++ 34 ∷ rest)) ∙ ap byte_at (sym (append_assoc (escape_byte x) (escape more) (34 ∷ rest))) ∙ ap byte_at (sym here) ∙ found) in
        let same : x ≡ byte = ap (λ p. p.0) pair in
        (more, all ∙ ap (λ b. done ++ b ∷ more) same ∙ sym (append_assoc done (byte ∷ []) more) ∙ ap (λ l. l ++ more) (sym is), sym (ap (λ p. p.1) pair))

-- where no byte is left, all are there
pub none_left : (text done left : List ℕ) → byte_at left ≡ None → AreLeft text done left → (bytes rest : List ℕ) → text ≡ escape bytes ++ 34 ∷ rest → done ≡ bytes
none_left text done left none before bytes rest whole = go (before bytes rest whole).0 (before bytes rest whole).1 (before bytes rest whole).2
  where
    go : (more : List ℕ) → bytes ≡ done ++ more → left ≡ escape more ++ 34 ∷ rest → done ≡ bytes
    go [] all here = sym (all ∙ append-nil done)
    go (x ∷ more) all here = absurd (none_is_not (sym none ∙ ap byte_at here ∙ ap byte_at (append_assoc (escape_byte x) (escape more) (34 ∷ rest)) ∙ found_again x (escape more ++ 34 ∷ rest)))

quoted-inside : (s r : List ℕ) → quoted s ++ r ≡ 34 ∷ (escape s ++ 34 ∷ r)
quoted-inside s r = ap (λ l. 34 ∷ l) (append_assoc (escape s) (34 ∷ []) r)

-- what follows the first is one
pub tail_is : {x y : ℕ} {xs ys : List ℕ} → x ∷ xs ≡ y ∷ ys → xs ≡ ys
tail_is e = ap (λ l. drop 1 l) e

-- after the first quote
pub unquoted : (text inside s r : List ℕ) → text ≡ 34 ∷ inside → text ≡ quoted s ++ r → inside ≡ escape s ++ 34 ∷ r
unquoted text inside s r one whole = tail_is (sym one ∙ whole ∙ quoted-inside s r)

-- no two texts have one quoted form, whatever follows it
pub quoted_apart : (x r y s : List ℕ) → quoted x ++ r ≡ quoted y ++ s → (x ≡ y) × (r ≡ s)
quoted_apart x r y s e =
    let inside : escape x ++ 34 ∷ r ≡ escape y ++ 34 ∷ s = tail_is (sym (quoted-inside x r) ∙ e ∙ quoted-inside y s) in
    let same : x ≡ y = some_is (sym (content-escape x r) ∙ ap (content plain) inside ∙ content-escape y s) in
    (same, tail_is (append_cancel_left (escape y) (34 ∷ r) (34 ∷ s) (ap (λ l. escape l ++ 34 ∷ r) (sym same) ∙ inside)))

-- a text without escapes between quotes is its quoted form
pub quoted-plain : (text inside rest : List ℕ) → text ≡ 34 ∷ (inside ++ 34 ∷ rest) → ArePlain inside → text ≡ quoted inside ++ rest
quoted-plain text inside rest is each = is ∙ ap (λ l. 34 ∷ (l ++ 34 ∷ rest)) (sym (escape-plain inside each)) ∙ sym (quoted-inside inside rest)

-- ---- times

-- after the seconds stands a point, and then the text has 27 bytes, or the `Z`, and then it has 20
abbrev pub HasLen : List ℕ → List ℕ → Type 0
HasLen stamp rest =
    ((slice_index (stamp ++ rest) 19 ≡ 46) × (length stamp ≡ 27)) ⊎ ((slice_index (stamp ++ rest) 19 ≡ 90) × (length stamp ≡ 20))

parts_len : (y m d second micro : ℕ) (rest : List ℕ) → HasLen (parts_text y m d second micro) rest
parts_len y m d second micro rest =
    elim (cases_order micro 0) [
      | inl same ↦ subst (λ text. HasLen text rest) (sym (ap (parts_text y m d second) same ∙ parts_text-zero y m d second)) (inr (refl, refl))
      | inr (inl less) ↦ absurd (omega arith)
      | inr (inr some) ↦ subst (λ text. HasLen text rest) (sym (parts_text-more y m d second micro some)) (inl (refl, refl))
    ]

pub stamp_has_len : (t : ℤ) (rest : List ℕ) → HasLen (stamp_text t) rest
unfolding stamp_text
stamp_has_len t rest =
    let day = int_div_euclid t (pos 86_400_000_000) in
    let micro = unsigned_abs (int_rem_euclid t (pos 86_400_000_000)) in
    parts_len (year_of day) (month_of day) (day_in_month day) (micro / 1_000_000) (micro % 1_000_000) rest

-- ---- values

abbrev is_kind : ColType → ColType → Bool
is_kind Bigint Bigint = true
is_kind Bigint other = false
is_kind Str Str = true
is_kind Str other = false
is_kind Timestamp Timestamp = true
is_kind Timestamp other = false
is_kind Boolean Boolean = true
is_kind Boolean other = false

other_kind : {A : Type 0} {k l : ColType} → k ≡ l → is_kind k l ≡ false → is_kind l l ≡ true → A
other_kind {A} {k} {l} e other same = absurd (true≢false (sym same ∙ ap (λ x. is_kind x l) (sym e) ∙ other))

pub number_held : (value : Value) → value ≢ Null → IsStoredIn Bigint value → (n : ℤ) × (value ≡ Int n) × FitsSigned w64 n
number_held Null some s = absurd (some refl)
number_held (Int n) some s = (n, refl, s.number)
number_held (Text t) some s = other_kind s.held refl refl
number_held (Time t) some s = other_kind s.held refl refl
number_held (Truth t) some s = other_kind s.held refl refl

pub text_held : (value : Value) → value ≢ Null → IsStoredIn Str value → (t : List ℕ) × (value ≡ Text t) × IsUtf8 t
text_held Null some s = absurd (some refl)
text_held (Int n) some s = other_kind s.held refl refl
text_held (Text t) some s = (t, refl, s.text)
text_held (Time t) some s = other_kind s.held refl refl
text_held (Truth t) some s = other_kind s.held refl refl

pub time_held : (value : Value) → value ≢ Null → IsStoredIn Timestamp value → (t : ℤ) × (value ≡ Time t) × IsStampTime t
time_held Null some s = absurd (some refl)
time_held (Int n) some s = other_kind s.held refl refl
time_held (Text t) some s = other_kind s.held refl refl
time_held (Time t) some s = (t, refl, s.time)
time_held (Truth t) some s = other_kind s.held refl refl

pub truth_held : (value : Value) → value ≢ Null → IsStoredIn Boolean value → (t : Bool) × (value ≡ Truth t)
truth_held Null some s = absurd (some refl)
truth_held (Int n) some s = other_kind s.held refl refl
truth_held (Text t) some s = other_kind s.held refl refl
truth_held (Time t) some s = other_kind s.held refl refl
truth_held (Truth t) some s = (t, refl)

same_tests : (y : ℕ) → (y == y) ≡ true
same_tests y = grind (arith, nat_tests)

differ : {A : Type 0} {x y : ℕ} {xs ys : List ℕ} → x ∷ xs ≡ y ∷ ys → (x == y) ≡ false → A
differ {A} {x} {y} e other = absurd (true≢false (sym (same_tests y) ∙ ap (λ l. slice_index l 0 == y) (sym e) ∙ other))

no_digit_first : (n : ℕ) (rest others : List ℕ) → n < 2 ^ 64 → decimal n ++ rest ≡ 110 ∷ others → ⊥
no_digit_first n rest others small e = go (decimal n) refl (decimal_passes n small) (decimal_plain n small)
  where
    go : (ds : List ℕ) → decimal n ≡ ds → list_all is_digit (decimal n) ≡ true → is_plain (decimal n) ≡ true → ⊥
    go [] is digits some = true≢false (sym some ∙ ap is_plain is)
    go (d ∷ ds) is digits some =
        let first : d ≡ 110 = ap (λ l. slice_index l 0) (ap (λ l. l ++ rest) (sym is) ∙ e) in
        let all : list_all is_digit (110 ∷ ds) ≡ true = ap (λ x. list_all is_digit (x ∷ ds)) (sym first) ∙ ap (list_all is_digit) (sym is) ∙ digits in
        true≢false (sym all)

-- no other value's text begins as NULL's
pub null_apart : (kind : ColType) (value : Value) (rest others : List ℕ) → value ≢ Null → IsStoredIn kind value → value_text value ++ rest ≡ codes "null" ++ others → ⊥
unfolding value_text
null_apart kind Null rest others some s e = some refl
null_apart kind (Int (pos n)) rest others some s e = no_digit_first n rest _ (omega (arith, s.number.sfits)) e
null_apart kind (Int (negsuc n)) rest others some s e = differ e refl
null_apart kind (Text t) rest others some s e = differ e refl
null_apart kind (Time t) rest others some s e = differ e refl
null_apart kind (Truth true) rest others some s e = differ e refl
null_apart kind (Truth false) rest others some s e = differ e refl

-- nor does the text of one truth value begin as the other's
pub truth_apart : (truth : Bool) (rest others : List ℕ) → value_text (Truth truth) ++ rest ≡ codes "true" ++ others → (truth ≡ true) × (rest ≡ others)
unfolding value_text
truth_apart true rest others e = (refl, ap (drop 4) e)
truth_apart false rest others e = differ e refl

-- ---- members

-- no digit follows a value: a comma does, or what follows the last value
after_first : (later : Bool) (names : List (List ℕ)) (n : ℕ) (more : List Value) (rest : List ℕ) → NoDigit (members_text (drop (suc n) (heads_from later names)) more ++ 125 ∷ rest)
unfolding heads_from members_text
after_first later [] n more rest = refl
after_first later (name ∷ []) zero more rest = refl
after_first later (name ∷ next ∷ names) zero [] rest = refl
after_first later (name ∷ next ∷ names) zero (value ∷ more) rest = refl
after_first later (name ∷ names) (suc n) more rest = after_first true names n more rest

-- What was taken of the members so far: with any values after them it is the text where these stand in what is left, and where the text is members, what
-- is left is those that are left.
pub record AreTakenSo (heads : List (List ℕ)) (kinds : List ColType) (text : List ℕ) (n : ℕ) (values : List Value) (left : List ℕ) : Type 0 where
  pub found : (more : List Value) (tail : List ℕ) → left ≡ members_text (drop n heads) more ++ tail → text ≡ members_text heads (values ++ more) ++ tail
  pub stored : (more : List Value) → AreStoredIn (drop n kinds) more → AreStoredIn kinds (values ++ more)
  pub each : (names : List (List ℕ)) → heads ≡ heads_of names → (row : List Value) (rest : List ℕ) → AreStoredIn kinds row → text ≡ members_text heads row ++ 125 ∷ rest
      → (more : List Value) × (row ≡ values ++ more) × AreStoredIn (drop n kinds) more × (left ≡ members_text (drop n heads) more ++ 125 ∷ rest)

pub none_taken : (heads : List (List ℕ)) (kinds : List ColType) (text : List ℕ) → AreTakenSo heads kinds text 0 [] text
none_taken heads kinds text = record {
  found = λ more tail is. is;
  stored = λ more are. are;
  each = λ names of row rest are is. (row, refl, are, is);
}

pub regroup : (a b c d : List ℕ) → (a ++ (b ++ c)) ++ d ≡ a ++ (b ++ (c ++ d))
regroup a b c d = append_assoc a (b ++ c) d ∙ ap (λ l. a ++ l) (append_assoc b c d)

members-next : (heads : List (List ℕ)) (n : ℕ) (head : List ℕ) → drop n heads ≡ head ∷ drop (n + 1) heads → (value : Value) (more : List Value) (tail : List ℕ) → members_text (drop n heads) (value ∷ more) ++ tail ≡ head ++ (value_text value ++ (members_text (drop (n + 1) heads) more ++ tail))
unfolding members_text
members-next heads n head is value more tail =
    ap (λ hs. members_text hs (value ∷ more) ++ tail) is ∙ regroup head (value_text value) (members_text (drop (n + 1) heads) more) tail

-- of a row some value is left for a column that is left
abbrev HasNext : List (List ℕ) → List ColType → (n : ℕ) → List ℕ → ColType → (rest : List ℕ) → List Value → List ℕ → Type 0
HasNext heads kinds n head kind rest more left =
    (value : Value) × (others : List Value) × (more ≡ value ∷ others) × IsStoredIn kind value × AreStoredIn (drop (n + 1) kinds) others
    × (left ≡ head ++ (value_text value ++ (members_text (drop (n + 1) heads) others ++ 125 ∷ rest)))

next_is : (heads : List (List ℕ)) (kinds : List ColType) (n : ℕ) (head : List ℕ) (kind : ColType) → drop n heads ≡ head ∷ drop (n + 1) heads → drop n kinds ≡ kind ∷ drop (n + 1) kinds
    → (rest : List ℕ) (more : List Value) (left : List ℕ) → AreStoredIn (drop n kinds) more → left ≡ members_text (drop n heads) more ++ 125 ∷ rest → HasNext heads kinds n head kind rest more left
next_is heads kinds n head kind hs ks rest more left are is = go more (subst (λ k. AreStoredIn k more) ks are) is
  where
    go : (more : List Value) → AreStoredIn (kind ∷ drop (n + 1) kinds) more → left ≡ members_text (drop n heads) more ++ 125 ∷ rest → HasNext heads kinds n head kind rest more left
    go [] are is = absurd are
    go (value ∷ others) are is = (value, others, refl, are.0, are.1, is ∙ members-next heads n head hs value others (125 ∷ rest))

-- one more
pub one_taken : (heads : List (List ℕ)) (kinds : List ColType) (text : List ℕ) (n : ℕ) (values new : List Value) (left after : List ℕ) (head : List ℕ) (kind : ColType) (value : Value)
    → drop n heads ≡ head ∷ drop (n + 1) heads → drop n kinds ≡ kind ∷ drop (n + 1) kinds → new ≡ values ++ value ∷ []
    → left ≡ head ++ (value_text value ++ after) → IsStoredIn kind value
    → ((one : Value) (rest : List ℕ) → IsStoredIn kind one → NoDigit rest → left ≡ head ++ (value_text one ++ rest) → (value ≡ one) × (after ≡ rest))
    → AreTakenSo heads kinds text n values left → AreTakenSo heads kinds text (n + 1) new after
one_taken heads kinds text n values new left after head kind value hs ks is one stored each so = record {
  found = λ more tail here.
      so.found (value ∷ more) tail (one ∙ ap (λ l. head ++ (value_text value ++ l)) here ∙ sym (members-next heads n head hs value more tail))
      ∙ ap (λ vs. members_text heads vs ++ tail) (longer more);
  stored = λ more are. subst (AreStoredIn kinds) (longer more) (so.stored (value ∷ more) (subst (λ k. AreStoredIn k (value ∷ more)) (sym ks) (stored, are)));
  each = λ names of row rest are whole. let at = so.each names of row rest are whole in step names of row rest at.0 at.1 at.2 at.3;
}
  where
    longer : (more : List Value) → values ++ value ∷ more ≡ new ++ more
    longer more = sym (append_assoc values (value ∷ []) more) ∙ ap (λ vs. vs ++ more) (sym is)

    suc_is : suc n ≡ n + 1
    suc_is = omega arith

    step : (names : List (List ℕ)) → heads ≡ heads_of names → (row : List Value) (rest : List ℕ) (more : List Value) → row ≡ values ++ more → AreStoredIn (drop n kinds) more → left ≡ members_text (drop n heads) more ++ 125 ∷ rest
        → (more' : List Value) × (row ≡ new ++ more') × AreStoredIn (drop (n + 1) kinds) more' × (after ≡ members_text (drop (n + 1) heads) more' ++ 125 ∷ rest)
    step names of row rest more all are here =
        let next = next_is heads kinds n head kind hs ks rest more left are here in
        let quiet : NoDigit (members_text (drop (n + 1) heads) next.1 ++ 125 ∷ rest) = subst (λ k. NoDigit (members_text (drop k heads) next.1 ++ 125 ∷ rest)) suc_is (subst (λ h. NoDigit (members_text (drop (suc n) h) next.1 ++ 125 ∷ rest)) (sym of) (after_first false names n next.1 rest)) in
        let found = each next.0 _ next.3 quiet next.5 in
        (next.1, all ∙ ap (λ vs. values ++ vs) (next.2 ∙ ap (λ v. v ∷ next.1) (sym found.0)) ∙ longer next.1, next.4, found.1)

-- nothing was found, so the text is no members
pub none_more : (heads names : List (List ℕ)) (kinds : List ColType) (text : List ℕ) (n : ℕ) (values : List Value) (left : List ℕ) (head : List ℕ) (kind : ColType)
    → heads ≡ heads_of names → drop n heads ≡ head ∷ drop (n + 1) heads → drop n kinds ≡ kind ∷ drop (n + 1) kinds
    → ((one : Value) (rest : List ℕ) → IsStoredIn kind one → NoDigit rest → left ≡ head ++ (value_text one ++ rest) → ⊥)
    → AreTakenSo heads kinds text n values left → (row : List Value) (rest : List ℕ) → AreStoredIn kinds row → text ≡ members_text heads row ++ 125 ∷ rest → ⊥
none_more heads names kinds text n values left head kind of hs ks each so row rest are whole = step (so.each names of row rest are whole).0 (so.each names of row rest are whole).2 (so.each names of row rest are whole).3
  where
    suc_is : suc n ≡ n + 1
    suc_is = omega arith

    step : (more : List Value) → AreStoredIn (drop n kinds) more → left ≡ members_text (drop n heads) more ++ 125 ∷ rest → ⊥
    step more are here =
        let next = next_is heads kinds n head kind hs ks rest more left are here in
        each next.0 _ next.3 (subst (λ k. NoDigit (members_text (drop k heads) next.1 ++ 125 ∷ rest)) suc_is (subst (λ h. NoDigit (members_text (drop (suc n) h) next.1 ++ 125 ∷ rest)) (sym of) (after_first false names n next.1 rest))) next.5

members-none : (heads : List (List ℕ)) → heads ≡ [] → (values : List Value) → members_text heads values ≡ []
unfolding members_text
members-none heads none values = ap (λ hs. members_text hs values) none

no_values : (kinds : List ColType) → kinds ≡ [] → (row : List Value) → AreStoredIn kinds row → row ≡ []
no_values [] none [] are = refl
no_values [] none (value ∷ row) are = absurd are
no_values (kind ∷ kinds) none row are = absurd (omega (arith, ap length none))

-- all were taken
pub all_taken : (heads : List (List ℕ)) (kinds : List ColType) (text : List ℕ) (n : ℕ) (values : List Value) (left : List ℕ) → length heads ≤ n → length kinds ≤ n → AreTakenSo heads kinds text n values left
    → (text ≡ members_text heads values ++ left) × AreStoredIn kinds values × ((names : List (List ℕ)) → heads ≡ heads_of names → (row : List Value) (rest : List ℕ) → AreStoredIn kinds row → text ≡ members_text heads row ++ 125 ∷ rest → (values ≡ row) × (left ≡ 125 ∷ rest))
all_taken heads kinds text n values left hs ks so =
    let no_heads : drop n heads ≡ [] = drop_all n heads hs in
    let no_kinds : drop n kinds ≡ [] = drop_all n kinds ks in (
      so.found [] left (ap (λ l. l ++ left) (sym (members-none (drop n heads) no_heads []))) ∙ ap (λ vs. members_text heads vs ++ left) (append-nil values),
      subst (AreStoredIn kinds) (append-nil values) (so.stored [] (subst (λ k. AreStoredIn k []) (sym no_kinds) tt)),
      λ names of row rest are whole.
          let at = so.each names of row rest are whole in
          let none : at.0 ≡ [] = no_values (drop n kinds) no_kinds at.0 at.2 in
          (sym (at.1 ∙ ap (λ vs. values ++ vs) none ∙ append-nil values), at.3 ∙ ap (λ l. l ++ 125 ∷ rest) (members-none (drop n heads) no_heads at.0)),
    )

-- ---- how long a time's text is, and a number's sign

pub long_stamp : (t : ℤ) (rest text : List ℕ) → text ≡ stamp_text t ++ rest → (slice_index text 19 == 46) ≡ true → 27 ≡ length (stamp_text t)
long_stamp t rest text is point = go (stamp_has_len t rest)
  where
    go : HasLen (stamp_text t) rest → 27 ≡ length (stamp_text t)
    go (inl long) = sym long.1
    go (inr short) = absurd (true≢false (sym point ∙ ap (λ l. slice_index l 19 == 46) is ∙ ap (λ x. x == 46) short.0))

pub short_stamp : (t : ℤ) (rest text : List ℕ) → text ≡ stamp_text t ++ rest → (slice_index text 19 == 46) ≡ false → 20 ≡ length (stamp_text t)
short_stamp t rest text is point = go (stamp_has_len t rest)
  where
    go : HasLen (stamp_text t) rest → 20 ≡ length (stamp_text t)
    go (inl long) = absurd (true≢false (sym (ap (λ l. slice_index l 19 == 46) is ∙ ap (λ x. x == 46) long.0) ∙ point))
    go (inr short) = sym short.1

no_minus_first : (n : ℕ) (rest others : List ℕ) → n < 2 ^ 64 → decimal n ++ rest ≡ 45 ∷ others → ⊥
no_minus_first n rest others small e = go (decimal n) refl (decimal_passes n small) (decimal_plain n small)
  where
    go : (ds : List ℕ) → decimal n ≡ ds → list_all is_digit (decimal n) ≡ true → is_plain (decimal n) ≡ true → ⊥
    go [] is digits some = true≢false (sym some ∙ ap is_plain is)
    go (d ∷ ds) is digits some =
        let first : d ≡ 45 = ap (λ l. slice_index l 0) (ap (λ l. l ++ rest) (sym is) ∙ e) in
        let all : list_all is_digit (45 ∷ ds) ≡ true = ap (λ x. list_all is_digit (x ∷ ds)) (sym first) ∙ ap (list_all is_digit) (sym is) ∙ digits in
        true≢false (sym all)

less_one : (n : ℕ) → negsuc 0 -ℤ pos n ≡ negsuc n
less_one n = omega (arith, ints)

down : (n : ℕ) → n < 2 ^ 63 → negsuc 0 -ℤ to_z w64 n ≡ negsuc n
down n low = ap (λ z. negsuc 0 -ℤ z) (to_z_pos w64 n low) ∙ less_one n

below_fits : (n : ℕ) → n < 2 ^ 63 → FitsSigned w64 (negsuc n)
below_fits n low = record { sfits = omega (arith, low) }

-- counted down from -1 it is a number of 64 bits
pub down_fits : (n : ℕ) → n < 2 ^ 63 → FitsSigned w64 (negsuc 0 -ℤ to_z w64 n)
down_fits n low = subst (FitsSigned w64) (sym (down n low)) (below_fits n low)

counted_down : (n : ℕ) → n < 2 ^ 63 → to_z w64 (of_z w64 (negsuc 0 -ℤ to_z w64 n)) ≡ negsuc n
counted_down n low = ap (λ z. to_z w64 (of_z w64 z)) (down n low) ∙ to_z-of_z w64 (negsuc n) (below_fits n low)

-- the digits after a minus are the number's
pub below_found : (text : List ℕ) (size len : ℕ) → 1 ≤ size → size ≤ 2 ^ 63 → text ≡ decimal size ++ drop len text → (let z : ℤ = to_z w64 (of_z w64 (negsuc 0 -ℤ to_z w64 (size - 1))) in (45 ∷ text ≡ signed_decimal z ++ take (length text - len) (drop len text)) × FitsSigned w64 z)
below_found text size len some low is =
    let n = size - 1 in
    let e : size ≡ suc n = omega (arith, some) in
    let small : n < 2 ^ 63 = omega (arith, low, some) in
    let z = counted_down n small in (
      ap (λ (t : List ℕ). 45 ∷ t) (is ∙ ap (λ (k : ℕ). decimal k ++ drop len text) e) ∙ ap₂ (λ (z : ℤ) (rest : List ℕ). signed_decimal z ++ rest) (sym z) (sym (take_rest text len)),
      subst (FitsSigned w64) (sym z) (below_fits n small),
    )

-- the number whose digits stand after a minus is found
pub below_each : (text rest : List ℕ) (size len n : ℕ) → ◌≡◌ {A = Option (ℕ × ℕ)} (Some (size, len)) (Some (suc n, length (decimal (suc n)))) → n < 2 ^ 63 → text ≡ decimal (suc n) ++ rest → (to_z w64 (of_z w64 (negsuc 0 -ℤ to_z w64 (size - 1))) ≡ negsuc n) × (take (length text - len) (drop len text) ≡ rest)
below_each text rest size len n found low is =
    let pair : ◌≡◌ {A = ℕ × ℕ} (size, len) (suc n, length (decimal (suc n))) = some_is found in
    let first : size ≡ suc n = ap (λ p. p.0) pair in
    let one_less : size - 1 ≡ n = omega (arith, first) in (
      ap (λ (k : ℕ). to_z w64 (of_z w64 (negsuc 0 -ℤ to_z w64 k))) one_less ∙ counted_down n low,
      take_rest text len ∙ ap (λ p. drop p.1 text) pair ∙ ap (drop (length (decimal (suc n)))) is ∙ drop-front (decimal (suc n)) rest,
    )

-- digits of more than a negative number of 64 bits has, or of 0, are no number's after a minus
pub not_below : (size len n most : ℕ) → ◌≡◌ {A = Option (ℕ × ℕ)} (Some (size, len)) (Some (suc n, most)) → n < 2 ^ 63 → (1 ≤ size) × (size ≤ 2 ^ 63)
not_below size len n most found low =
    let pair : ◌≡◌ {A = ℕ × ℕ} (size, len) (suc n, most) = some_is found in
    let first : size ≡ suc n = ap (λ p. p.0) pair in
    (omega (arith, first), omega (arith, first, low))

-- after a minus stands a number below zero
pub below_zero : (number : ℤ) (rest text digits : List ℕ) (P : ℤ → List ℕ → Type 0) → FitsSigned w64 number → NoDigit rest → text ≡ 45 ∷ digits → text ≡ signed_decimal number ++ rest
    → ((n : ℕ) (rest : List ℕ) → n < 2 ^ 63 → NoDigit rest → 45 ∷ digits ≡ signed_decimal (negsuc n) ++ rest → P (negsuc n) rest) → P number rest
below_zero (pos n) rest text digits P fits quiet minus is each = absurd (no_minus_first n rest digits (omega (arith, fits.sfits)) (sym is ∙ minus))
below_zero (negsuc n) rest text digits P fits quiet minus is each = each n rest (omega (arith, fits.sfits)) quiet (sym minus ∙ is)

-- ---- a value that may be NULL, and a line

is_null : Value → Bool
is_null Null = true
is_null (Int n) = false
is_null (Text t) = false
is_null (Time t) = false
is_null (Truth t) = false

not_null : (value : Value) → is_null value ≡ false → value ≢ Null
unfolding is_null
not_null value other e = true≢false (sym (ap is_null e) ∙ other)

-- where NULL's text stands, the value is NULL
pub null_is : (kind : ColType) (value : Value) (rest others text : List ℕ) → IsStoredIn kind value → text ≡ codes "null" ++ others → text ≡ value_text value ++ rest → (Null ≡ value) × (others ≡ rest)
unfolding value_text is_null
null_is kind Null rest others text s null is = (refl, ap (drop 4) (sym null ∙ is))
null_is kind (Int n) rest others text s null is = absurd (null_apart kind (Int n) rest others (not_null (Int n) refl) s (sym is ∙ null))
null_is kind (Text t) rest others text s null is = absurd (null_apart kind (Text t) rest others (not_null (Text t) refl) s (sym is ∙ null))
null_is kind (Time t) rest others text s null is = absurd (null_apart kind (Time t) rest others (not_null (Time t) refl) s (sym is ∙ null))
null_is kind (Truth t) rest others text s null is = absurd (null_apart kind (Truth t) rest others (not_null (Truth t) refl) s (sym is ∙ null))

-- the members of a line, and what ends it
pub line_inside : (names heads : List (List ℕ)) (row : List Value) (rest bytes members : List ℕ) → heads ≡ heads_of names → bytes ≡ 123 ∷ members → bytes ≡ line_of names row ++ rest → members ≡ members_text heads row ++ 125 ∷ (10 ∷ rest)
unfolding row_text
line_inside names heads row rest bytes members of one is =
    ap (drop 1) (sym one ∙ is ∙ append_assoc (row_text names row) (10 ∷ []) rest) ∙ append_assoc (members_text (heads_of names) row) (125 ∷ []) (10 ∷ rest)
    ∙ ap (λ hs. members_text hs row ++ 125 ∷ (10 ∷ rest)) (sym of)
