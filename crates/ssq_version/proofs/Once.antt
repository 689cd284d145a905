-- Each file of the state has one spelling.
use Rattle.std.proofs.Common.{◌≡◌, ℕ, ◌<◌, ◌^◌, arith, length, Option, Some, None, List, [], ◌∷◌, ◌++◌, refl, sym, ap₂, ◌∙◌, append_assoc}
use Rattle.std.specs.Int.{w32, w64, to_be_bytes}
use Rattle.std.specs.List.{AllByRecursion}
use Rattle.ssq_field.specs.Field.{AreApart, Anything, Fits32, Fits64}
use Rattle.ssq_version.specs.declared.form.Form.{Form}
use Rattle.ssq_version.specs.declared.form.Form.TheVariants as form
use Rattle.ssq_version.specs.State.{State, Change, IsShort, IsState, IsChange}
use Rattle.ssq_version.specs.Text.{field, entry_text, entries_text, IsSpelled, AreEntries, file_text, first_word, said_of, snapshot_text, delta_text}
use Rattle.ssq_version.proofs.Listing.{same_behind, said_once}
use Rattle.ssq_version.proofs.Spelled.{kept_is_entries, state_is_entries}

-- the laws of numbers of four and of eight bytes
abbrev Apart32 : Type 0
Apart32 = AreApart (to_be_bytes w32) Fits32 Anything

abbrev Apart64 : Type 0
Apart64 = AreApart (to_be_bytes w64) Fits64 Anything

-- of lists of one length the same stands after them
same_parts : (one other x y : List ℕ) → length one ≡ length other → one ++ x ≡ other ++ y → (one ≡ other) × (x ≡ y)
same_parts [] [] x y len is = (refl, is)
same_parts [] (b ∷ other) x y len is = absurd (omega (arith, len))
same_parts (a ∷ one) [] x y len is = absurd (omega (arith, len))
same_parts (a ∷ one) (b ∷ other) x y len is =
    let first : a ≡ b = cc in
    let behind : one ++ x ≡ other ++ y = cc in
    let less : length one ≡ length other = omega (arith, len) in
    let rest = same_parts one other x y less behind in
    (ap₂ (λ (n : ℕ) (ns : List ℕ). n ∷ ns) first rest.0, rest.1)

same_field : Apart32 → (one other x y : List ℕ) → IsShort one → IsShort other → field one ++ x ≡ field other ++ y → (one ≡ other) × (x ≡ y)
same_field apart one other x y short low is =
    let both = apart (length one) (length other) (one ++ x) (other ++ y) short low tt tt (sym (append_assoc (to_be_bytes w32 (length one)) one x) ∙ is ∙ append_assoc (to_be_bytes w32 (length other)) other y) in
    same_parts one other x y both.0 both.1

same_fields : Apart32 → (k l v w x y : List ℕ) → IsShort k → IsShort l → IsShort v → IsShort w → (field k ++ field v) ++ x ≡ (field l ++ field w) ++ y → (k ≡ l) × (v ≡ w) × (x ≡ y)
same_fields apart k l v w x y short low little small is =
    let first = same_field apart k l (field v ++ x) (field w ++ y) short low (sym (append_assoc (field k) (field v) x) ∙ is ∙ append_assoc (field l) (field w) y) in
    let second = same_field apart v w x y little small first.1 in
    (first.0, second.0, second.1)

same_entry : Apart32 → (form : Form) (e f : List ℕ × Option (List ℕ)) (x y : List ℕ) → IsSpelled form e → IsSpelled form f → entry_text form e ++ x ≡ entry_text form f ++ y → (e ≡ f) × (x ≡ y)
same_entry apart form.Delta (k, Some v) (l, Some w) x y one other is =
    let behind : (field k ++ field v) ++ x ≡ (field l ++ field w) ++ y = cc in
    let same = same_fields apart k l v w x y one.0 other.0 one.1 other.1 behind in
    ((λ i. (same.0 i, Some (same.1 i))), same.2)
same_entry apart form.Delta (k, None) (l, None) x y one other is =
    let behind : field k ++ x ≡ field l ++ y = cc in
    let same = same_field apart k l x y one.0 other.0 behind in
    ((λ i. (same.0 i, None)), same.1)
same_entry apart form.Delta (k, Some v) (l, None) x y one other is = let first : ◌≡◌ {A = ℕ} 1 0 = cc in absurd (omega (arith, first))
same_entry apart form.Delta (k, None) (l, Some w) x y one other is = let first : ◌≡◌ {A = ℕ} 0 1 = cc in absurd (omega (arith, first))
same_entry apart form.Snapshot (k, Some v) (l, Some w) x y one other is =
    let same = same_fields apart k l v w x y one.0 other.0 one.1 other.1 is in
    ((λ i. (same.0 i, Some (same.1 i))), same.2)
same_entry apart form.Snapshot (k, None) f x y one other is = absurd one.1
same_entry apart form.Snapshot (k, Some v) (l, None) x y one other is = absurd other.1

same_entries_text : Apart32 → (form : Form) (es fs : Change) → AllByRecursion (IsSpelled form) es → AllByRecursion (IsSpelled form) fs → length es ≡ length fs → entries_text form es ≡ entries_text form fs → es ≡ fs
unfolding entries_text
same_entries_text apart form [] [] one other len is = refl
same_entries_text apart form [] (f ∷ fs) one other len is = absurd (omega (arith, len))
same_entries_text apart form (e ∷ es) [] one other len is = absurd (omega (arith, len))
same_entries_text apart form (e ∷ es) (f ∷ fs) one other len is =
    let first = same_entry apart form e f (entries_text form es) (entries_text form fs) one.0 other.0 is in
    let less : length es ≡ length fs = omega (arith, len) in
    ap₂ (λ (x : List ℕ × Option (List ℕ)) (xs : Change). x ∷ xs) first.0 (same_entries_text apart form es fs one.1 other.1 less first.1)

pub one_file : Apart32 → Apart64 → (form : Form) (p v q w : ℕ) (es fs : Change) → p < 2 ^ 32 → v < 2 ^ 32 → q < 2 ^ 32 → w < 2 ^ 32 → AreEntries form es → AreEntries form fs
    → file_text form p v es ≡ file_text form q w fs → (p ≡ q) × (v ≡ w) × (es ≡ fs)
one_file apart far form p v q w es fs small low little tiny are too is =
    let body = λ (n m : ℕ) (xs : Change). to_be_bytes w32 n ++ (to_be_bytes w32 m ++ (to_be_bytes w64 (length xs) ++ entries_text form xs)) in
    let first = same_behind (first_word form) (body p v es) (body q w fs) is in
    let partition = apart p q (to_be_bytes w32 v ++ (to_be_bytes w64 (length es) ++ entries_text form es)) (to_be_bytes w32 w ++ (to_be_bytes w64 (length fs) ++ entries_text form fs)) small little tt tt first in
    let version = apart v w (to_be_bytes w64 (length es) ++ entries_text form es) (to_be_bytes w64 (length fs) ++ entries_text form fs) low tiny tt tt partition.1 in
    let count = far (length es) (length fs) (entries_text form es) (entries_text form fs) are.few too.few tt tt version.1 in
    (partition.0, version.0, same_entries_text apart form es fs are.spelled too.spelled count.0 count.1)

pub one_delta : Apart32 → Apart64 → (p v q w : ℕ) (one other : Change) → p < 2 ^ 32 → v < 2 ^ 32 → q < 2 ^ 32 → w < 2 ^ 32 → IsChange one → IsChange other → length one < 2 ^ 64 → length other < 2 ^ 64
    → delta_text p v one ≡ delta_text q w other → (p ≡ q) × (v ≡ w) × (one ≡ other)
one_delta apart far p v q w one other small low little tiny kept likewise few less is =
    one_file apart far form.Delta p v q w one other small low little tiny (kept_is_entries one kept few) (kept_is_entries other likewise less) is

pub one_snapshot : Apart32 → Apart64 → (p v q w : ℕ) (one other : State) → p < 2 ^ 32 → v < 2 ^ 32 → q < 2 ^ 32 → w < 2 ^ 32 → IsState one → IsState other → length one < 2 ^ 64 → length other < 2 ^ 64
    → snapshot_text p v one ≡ snapshot_text q w other → (p ≡ q) × (v ≡ w) × (one ≡ other)
one_snapshot apart far p v q w one other small low little tiny kept likewise few less is =
    let same = one_file apart far form.Snapshot p v q w (said_of one) (said_of other) small low little tiny (state_is_entries one kept few) (state_is_entries other likewise less) is in
    (same.0, same.1, said_once one other same.2)
