-- Entries one after the other: checked, and what is made of them.
use Rattle.std.proofs.Common.{◌≡◌, ℕ, suc, ◌^◌, ◌<◌, arith, Option, Some, None, List, [], ◌∷◌, ◌++◌, ◌-◌, length, length-drop, drop, take, take_all, map, refl, sym, ap, subst, ap₂, ◌∙◌, append-nil}
use Rattle.std.specs.Int.{w32, w64, to_be_bytes}
use Rattle.std.specs.List.{AllByRecursion}
use Rattle.std.specs.List.Sorted.{IsStrictlySortedBy}
use Rattle.std.specs.Map.{keys_of}
use Rattle.std.specs.Cmp.Lexicographic.{nat_list_cmp_total}
use Rattle.std.specs.declared.cmp.Ordering.TheVariants.{Less}
use Rattle.ssq_version.specs.declared.form.Form.{Form}
use Rattle.ssq_version.specs.State.{State, Change, Ascends, by_bytes}
use Rattle.ssq_version.specs.Text.{entry_text, entries_text, IsSpelled, IsAbove, AscendFrom, Lists, IsListing, said_of, first_word, file_text, AreEntries, IsFile}

-- ---- in order

-- what is below a key is below all above it
pub below_all : (k j : List ℕ) (ks : List (List ℕ)) → by_bytes k j ≡ Less → AllByRecursion (λ y. by_bytes j y ≡ Less) ks → AllByRecursion (λ y. by_bytes k y ≡ Less) ks
below_all k j [] less all = tt
below_all k j (x ∷ ks) less all = (nat_list_cmp_total.trans k j x less all.0, below_all k j ks less all.1)

above_all : (k : List ℕ) (es : Change) → AscendFrom (Some k) es → AllByRecursion (λ y. by_bytes k y ≡ Less) (keys_of es)
above_all k [] h = tt
above_all k (e ∷ es) h = (h.0, below_all k e.0 (keys_of es) h.0 (above_all e.0 es h.1))

pub ascends : (last : Option (List ℕ)) (es : Change) → AscendFrom last es → Ascends es
unfolding IsStrictlySortedBy
ascends last [] h = tt
ascends last (e ∷ es) h = (above_all e.0 es h.1, ascends (Some e.0) es h.1)

ascend_above : (k : List ℕ) (es : Change) → AllByRecursion (λ y. by_bytes k y ≡ Less) (keys_of es) → Ascends es → AscendFrom (Some k) es
unfolding IsStrictlySortedBy
ascend_above k [] all h = tt
ascend_above k (e ∷ es) all h = (all.0, ascend_above e.0 es h.0 h.1)

pub ascend_first : (es : Change) → Ascends es → AscendFrom None es
unfolding IsStrictlySortedBy
ascend_first [] h = tt
ascend_first (e ∷ es) h = (tt, ascend_above e.0 es h.0 h.1)

-- ---- checked

pub more_listed : (form : Form) (last : Option (List ℕ)) (n m : ℕ) (text : List ℕ) (key : List ℕ) (value : Option (List ℕ)) (rest : List ℕ) → n ≡ suc m
    → text ≡ entry_text form (key, value) ++ rest → IsSpelled form (key, value) → IsAbove last key → IsListing form (Some key) m rest → IsListing form last n text
unfolding entries_text
more_listed form last n m text key value rest count is spelled above listed = (
  (key, value) ∷ listed.0,
  record {
    bytes = is ∙ ap (λ (r : List ℕ). entry_text form (key, value) ++ r) listed.1.bytes;
    many = ap suc listed.1.many ∙ sym count;
    ascend = (above, listed.1.ascend);
    spelled = (spelled, listed.1.spelled);
  },
)

-- what is found in front is the first entry
abbrev pub FindsFirst : Form → Option (List ℕ) → List ℕ → List ℕ → Option (List ℕ) → List ℕ → Type 0
FindsFirst form last text key value rest = (k : List ℕ) (v : Option (List ℕ)) (r : List ℕ) → IsSpelled form (k, v) → IsAbove last k → text ≡ entry_text form (k, v) ++ r → (key ≡ k) × (value ≡ v) × (rest ≡ r)

pub less_listed : (form : Form) (last : Option (List ℕ)) (n m : ℕ) (text : List ℕ) (key : List ℕ) (value : Option (List ℕ)) (rest : List ℕ) → n ≡ suc m
    → FindsFirst form last text key value rest → IsListing form last n text → IsListing form (Some key) m rest
unfolding entries_text
less_listed form last n m text key value rest count finds listed = go listed.0 listed.1
  where
    go : (es : Change) → Lists form last n text es → IsListing form (Some key) m rest
    go [] lists = let e : 0 ≡ suc m = lists.many ∙ count in absurd (omega (arith, e))
    go (e ∷ es) lists =
        let same = finds e.0 e.1 (entries_text form es) lists.spelled.0 lists.ascend.0 lists.bytes in
        let many : suc (length es) ≡ suc m = lists.many ∙ count in (
          es,
          record {
            bytes = same.2;
            many = omega (arith, many);
            ascend = subst (λ (k : List ℕ). AscendFrom (Some k) es) (sym same.0) lists.ascend.1;
            spelled = lists.spelled.1;
          },
        )

pub none_listed : (form : Form) (last : Option (List ℕ)) (n m : ℕ) (text : List ℕ) → n ≡ suc m
    → ((k : List ℕ) (v : Option (List ℕ)) (r : List ℕ) → IsSpelled form (k, v) → IsAbove last k → text ≡ entry_text form (k, v) ++ r → ⊥) → IsListing form last n text → ⊥
unfolding entries_text
none_listed form last n m text count none listed = go listed.0 listed.1
  where
    go : (es : Change) → Lists form last n text es → ⊥
    go [] lists = let e : 0 ≡ suc m = lists.many ∙ count in absurd (omega (arith, e))
    go (e ∷ es) lists = none e.0 e.1 (entries_text form es) lists.spelled.0 lists.ascend.0 lists.bytes

pub all_listed : (form : Form) (last : Option (List ℕ)) (n : ℕ) (text : List ℕ) → n ≡ 0 → length text ≡ 0 → IsListing form last n text
unfolding entries_text
all_listed form last n [] count none = ([], record { bytes = refl; many = sym count; ascend = tt; spelled = tt })
all_listed form last n (x ∷ text) count none = absurd (omega (arith, none))

pub listed_all : (form : Form) (last : Option (List ℕ)) (n : ℕ) (text : List ℕ) → n ≡ 0 → IsListing form last n text → length text ≡ 0
unfolding entries_text
listed_all form last n text count listed = go listed.0 listed.1
  where
    go : (es : Change) → Lists form last n text es → length text ≡ 0
    go [] lists = ap length lists.bytes
    go (e ∷ es) lists = let many : suc (length es) ≡ 0 = lists.many ∙ count in absurd (omega (arith, many))

-- ---- made one after the other

-- what is left of the entries: with those of which something was made they are all
pub record IsLeft {T : Type 0} (form : Form) (says : T → List ℕ × Option (List ℕ)) (entries : Change) (made : List T) (rest : List ℕ) : Type 0 where
  pub left : Change
  pub whole : map says made ++ left ≡ entries
  pub bytes : rest ≡ entries_text form left
  pub spelled : AllByRecursion (IsSpelled form) left

says_more : {T : Type 0} (says : T → List ℕ × Option (List ℕ)) (made : List T) (one : T) (left : Change) → map says (made ++ one ∷ []) ++ left ≡ map says made ++ says one ∷ left
says_more says [] one left = refl
says_more says (first ∷ made) one left = ap (λ (es : Change). says first ∷ es) (says_more says made one left)

pub left_pushed : {T : Type 0} (form : Form) (says : T → List ℕ × Option (List ℕ)) (entries : Change) (made pushed : List T) (rest : List ℕ) (one : T) (key : List ℕ) (value : Option (List ℕ)) (behind : List ℕ)
    → pushed ≡ made ++ one ∷ [] → length behind < length rest → says one ≡ (key, value)
    → ((k : List ℕ) (v : Option (List ℕ)) (r : List ℕ) → IsSpelled form (k, v) → rest ≡ entry_text form (k, v) ++ r → (key ≡ k) × (value ≡ v) × (behind ≡ r))
    → IsLeft form says entries made rest → IsLeft form says entries pushed behind
unfolding entries_text
left_pushed {T} form says entries made pushed rest one key value behind new shorter same finds is = go is.left is.whole is.bytes is.spelled
  where
    go : (left : Change) → map says made ++ left ≡ entries → rest ≡ entries_text form left → AllByRecursion (IsSpelled form) left → IsLeft form says entries pushed behind
    go [] whole bytes spelled = let none : length rest ≡ 0 = ap length bytes in absurd (omega (arith, none, shorter))
    go (e ∷ left) whole bytes spelled =
        let found = finds e.0 e.1 (entries_text form left) spelled.0 bytes in
        record {
          left = left;
          whole = ap (λ (ones : List T). map says ones ++ left) new ∙ says_more says made one left
              ∙ ap (λ (entry : List ℕ × Option (List ℕ)). map says made ++ entry ∷ left) same
              ∙ ap (λ (k : List ℕ). map says made ++ (k, value) ∷ left) found.0
              ∙ ap (λ (v : Option (List ℕ)). map says made ++ (e.0, v) ∷ left) found.1 ∙ whole;
          bytes = found.2;
          spelled = spelled.1;
        }

pub left_ends : {T : Type 0} (form : Form) (says : T → List ℕ × Option (List ℕ)) (entries : Change) (made : List T) (rest : List ℕ)
    → ((k : List ℕ) (v : Option (List ℕ)) (r : List ℕ) → IsSpelled form (k, v) → rest ≡ entry_text form (k, v) ++ r → ⊥)
    → IsLeft form says entries made rest → map says made ≡ entries
unfolding entries_text
left_ends form says entries made rest none is = go is.left is.whole is.bytes is.spelled
  where
    go : (left : Change) → map says made ++ left ≡ entries → rest ≡ entries_text form left → AllByRecursion (IsSpelled form) left → map says made ≡ entries
    go [] whole bytes spelled = sym (append-nil (map says made)) ∙ whole
    go (e ∷ left) whole bytes spelled = absurd (none e.0 e.1 (entries_text form left) spelled.0 bytes)

pub said_once : (made state : State) → said_of made ≡ said_of state → made ≡ state
said_once [] [] is = refl
said_once [] (e ∷ state) is = cc
said_once (e ∷ made) [] is = cc
said_once (e ∷ made) (f ∷ state) is =
    let same : (e.0, Some e.1) ∷ said_of made ≡ (f.0, Some f.1) ∷ said_of state = is in
    let head : ◌≡◌ {A = List ℕ × Option (List ℕ)} (e.0, Some e.1) (f.0, Some f.1) = cc in
    let key : e.0 ≡ f.0 = ap (λ p. p.0) head in
    let both : Some e.1 ≡ Some f.1 = ap (λ p. p.1) head in
    let value : e.1 ≡ f.1 = cc in
    let rest : said_of made ≡ said_of state = cc in
    let first : e ≡ f = λ i. (key i, value i) in
    ap₂ (λ (x : List ℕ × List ℕ) (es : State). x ∷ es) first (said_once made state rest)

-- ---- a number in front

-- what stands after so many bytes, as it is lent
lent_behind : (taken : ℕ) (text : List ℕ) → take (length text - taken) (drop taken text) ≡ drop taken text
lent_behind taken text = take_all (length text - taken) (drop taken text) (omega (arith, length-drop taken text))

behind_all : (spelled rest : List ℕ) → drop (length spelled) (spelled ++ rest) ≡ rest
behind_all [] rest = refl
behind_all (x ∷ spelled) rest = behind_all spelled rest

pub number_found : (spelled text : List ℕ) (taken : ℕ) → text ≡ spelled ++ drop taken text → text ≡ spelled ++ take (length text - taken) (drop taken text)
number_found spelled text taken is = is ∙ ap (λ (rest : List ℕ). spelled ++ rest) (sym (lent_behind taken text))

pub number_each : (spelled text rest : List ℕ) (found taken number : ℕ) → ◌≡◌ {A = Option (ℕ × ℕ)} (Some (found, taken)) (Some (number, length spelled)) → text ≡ spelled ++ rest → (found ≡ number) × (take (length text - taken) (drop taken text) ≡ rest)
number_each spelled text rest found taken number same is =
    let both : ◌≡◌ {A = ℕ × ℕ} (found, taken) (number, length spelled) = cc in
    let many : taken ≡ length spelled = ap (λ (p : ℕ × ℕ). p.1) both in
    (ap (λ (p : ℕ × ℕ). p.0) both, lent_behind taken text ∙ ap (λ (n : ℕ). drop n text) many ∙ ap (λ (bytes : List ℕ). drop (length spelled) bytes) is ∙ behind_all spelled rest)

-- ---- a file

-- after the same bytes in front stands the same
pub same_behind : (xs ys zs : List ℕ) → xs ++ ys ≡ xs ++ zs → ys ≡ zs
same_behind [] ys zs e = e
same_behind (x ∷ xs) ys zs e = let same : xs ++ ys ≡ xs ++ zs = cc in same_behind xs ys zs same

pub file_found : (form : Form) (text : List ℕ) (partition version count : ℕ) (bytes : List ℕ) → count < 2 ^ 64
    → text ≡ first_word form ++ (to_be_bytes w32 partition ++ (to_be_bytes w32 version ++ (to_be_bytes w64 count ++ bytes)))
    → IsListing form None count bytes → IsFile form text partition version count bytes
file_found form text partition version count bytes few is listed =
    let whole : text ≡ file_text form partition version listed.0 =
    is ∙ ap₂ (λ (n : ℕ) (r : List ℕ). first_word form ++ (to_be_bytes w32 partition ++ (to_be_bytes w32 version ++ (to_be_bytes w64 n ++ r)))) (sym listed.1.many) listed.1.bytes in
    (listed.0, record { ascend = ascends None listed.0 listed.1.ascend; spelled = listed.1.spelled; few = subst (λ (n : ℕ). n < 2 ^ 64) (sym listed.1.many) few }, whole, listed.1.many, listed.1.bytes)

pub file_listed : (form : Form) (entries : Change) (count : ℕ) (bytes : List ℕ) → AreEntries form entries → count ≡ length entries → bytes ≡ entries_text form entries → IsListing form None count bytes
file_listed form entries count bytes are many is =
    (entries, record { bytes = is; many = sym many; ascend = ascend_first entries are.ascend; spelled = are.spelled })
