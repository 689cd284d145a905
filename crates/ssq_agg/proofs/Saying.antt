-- What a change says of groups.
use Rattle.std.proofs.Common.{◌≡◌, ◌<◌, ◌+◌, ◌++◌, ℕ, [], ◌∷◌, Some, None, List, Option, Bool, true, false, All, refl, ap, sym, subst, ◌∙◌, append_assoc, append-nil, take, length, get_or, map}
use Rattle.std.specs.Prelude.{◌||◌, if◌then◌else◌}
use Rattle.std.specs.HashMap.{HashMap, get}
use Rattle.std.specs.List.{AllByRecursion, IsDistinct}
use Rattle.std.specs.Map.{lookup}
use Rattle.std.specs.Option.{option_or}
use Rattle.std.proofs.lemmas.List.{map-append}
use Rattle.std.proofs.lemmas.List.Elements.{All-push, All-tail, All-weaker, recursion_from_All}
use Rattle.ssq_value.specs.Key.{keys_of}
use Rattle.ssq_version.specs.State.{Change, IsShortEntry, last_at, value_at}
use Rattle.ssq_version.proofs.LastSaid.{last_has, or_none}
use Rattle.ssq_meaning.specs.declared.total.Total.{Total}
use Rattle.ssq_meaning.specs.Group.{is_same}
use Rattle.ssq_meaning.specs.GroupLaws.{IsKeySpelled}
use Rattle.ssq_meaning.specs.Meaning.{Values}
use Rattle.ssq_meaning.specs.Totals.{totals_bytes}
use Rattle.ssq_meaning.proofs.Coding.{AreApart}
use Rattle.ssq_meaning.proofs.Keys.{same_is}
use Rattle.ssq_step.proofs.ByBytes.{same_bytes}
use Rattle.ssq_step.proofs.Lists.{one_more}
use Rattle.ssq_agg.specs.declared.kept.Group.{Group}
use Rattle.ssq_agg.specs.Readable.{IsFitGroup}
use Rattle.ssq_agg.specs.Shown.{Pair}
use Rattle.ssq_agg.specs.Steps.{AreKeys, AreTouchedKeys, Says, gone_entry, is_among, keys_of_groups, put_entry, said_if}
use Rattle.ssq_agg.proofs.Dueing.{keys_of_pairs}

-- ---- what the entries say

once : (key : Values) (rest : List Pair) → AllByRecursion (λ y. is_same key y ≡ false) (keys_of_pairs rest) → lookup (is_same key) rest ≡ None
once key [] all = refl
once key (entry ∷ rest) all = ap (λ b. if b then Some entry.1 else lookup (is_same key) rest) all.0 ∙ once key rest all.1

-- the keys of a map's entries are those of so many values, each of them once
pub record AreOnce (many : ℕ) (pairs : List Pair) : Type 0 where
  pub keys : AllByRecursion (λ (entry : Pair). IsKeySpelled many entry.0) pairs
  pub distinct : IsDistinct is_same (keys_of_pairs pairs)

behind : (many : ℕ) (pair : Pair) (pairs : List Pair) → AreOnce many (pair ∷ pairs) → AreOnce many pairs
unfolding IsDistinct
behind many pair pairs are = record { keys = are.keys.1; distinct = are.distinct.1 }

-- a key that is in front stands nowhere after it
none_behind : (many : ℕ) (pair : Pair) (pairs : List Pair) → AreOnce many (pair ∷ pairs) → (key : Values) → is_same key pair.0 ≡ true → lookup (is_same key) pairs ≡ None
unfolding IsDistinct
none_behind many pair pairs are key same = ap (λ k. lookup (is_same k) pairs) (same_is key pair.0 same) ∙ once pair.0 pairs are.distinct.0

-- what is said of a key by the entry in front, and by those after it
put_by : (same : Bool) (found : Option (List Total)) (totals : List Total) → (same ≡ true → found ≡ None)
    → option_or (said_if found false) (if same then Some (Some (totals_bytes totals)) else None) ≡ said_if (if same then Some totals else found) false
put_by true found totals none = ap (λ o. option_or (said_if o false) (Some (Some (totals_bytes totals)))) (none refl)
put_by false found totals none = or_none (said_if found false)

gone_by : (same among : Bool) (found : Option (List Total)) → option_or (said_if found among) (if same then Some None else None) ≡ said_if found (same || among)
gone_by same among (Some totals) = refl
gone_by true true None = refl
gone_by true false None = refl
gone_by false true None = refl
gone_by false false None = refl

module _ (many : ℕ) where
  last_put : AreApart → (pairs : List Pair) → AreOnce many pairs → (key : Values) → IsKeySpelled many key
      → last_at (map put_entry pairs) (keys_of key) ≡ said_if (lookup (is_same key) pairs) false
  last_put apart [] are key is = refl
  last_put apart (pair ∷ pairs) are key is =
      (λ i. option_or (last_put apart pairs (behind many pair pairs are) key is i) (if same_bytes apart many key pair.0 is are.keys.0 i then Some (Some (totals_bytes pair.1)) else None))
      ∙ put_by (is_same key pair.0) (lookup (is_same key) pairs) pair.1 (none_behind many pair pairs are key)

  last_said : AreApart → (closed : List Group) (pairs : List Pair) → AreKeys many (keys_of_groups closed) → AreOnce many pairs → (key : Values) → IsKeySpelled many key
      → last_at (map gone_entry closed ++ map put_entry pairs) (keys_of key) ≡ said_if (lookup (is_same key) pairs) (is_among closed key)
  last_said apart [] pairs keys are key is = last_put apart pairs are key is
  last_said apart (group ∷ closed) pairs keys are key is =
      (λ i. option_or (last_said apart closed pairs keys.1 are key is i) (if same_bytes apart many key group.key is keys.0 i then Some None else None))
      ∙ gone_by (is_same key group.key) (is_among closed key) (lookup (is_same key) pairs)

  -- the entry is of a key of so many values
  abbrev IsOfKey : List ℕ × Option (List ℕ) → Type 0
  IsOfKey entry = (key : Values) × (entry.0 ≡ keys_of key) × IsKeySpelled many key

  of_keys : (closed : List Group) (pairs : List Pair) → AreKeys many (keys_of_groups closed) → AllByRecursion (λ (entry : Pair). IsKeySpelled many entry.0) pairs
      → AllByRecursion IsOfKey (map gone_entry closed ++ map put_entry pairs)
  of_keys [] [] keys are = tt
  of_keys [] (pair ∷ pairs) keys are = ((pair.0, refl, are.0), of_keys [] pairs keys are.1)
  of_keys (group ∷ closed) pairs keys are = ((group.key, refl, keys.0), of_keys closed pairs keys.1 are)

  pub says_all : {S : Type 0} → AreApart → (touched : HashMap Values (List Total) S) (closed : List Group) → AreKeys many (keys_of_groups closed) → AreOnce many touched.entries → (entries change : Change)
      → ((bytes : List ℕ) → value_at change bytes ≡ last_at entries bytes) → entries ≡ map gone_entry closed ++ map put_entry touched.entries → Says many (get is_same touched) closed change
  says_all apart touched closed keys once entries change said are = record {
    told = λ key is. said (keys_of key) ∙ ap (λ l. last_at l (keys_of key)) are ∙ last_said apart closed touched.entries keys once key is;
    only = λ bytes what has.
        last_has IsOfKey (map gone_entry closed ++ map put_entry touched.entries) (of_keys closed touched.entries keys once.keys) bytes what (sym (said bytes ∙ ap (λ l. last_at l bytes) are) ∙ has);
  }

-- the keys of a map of groups, entry by entry
pub entries_keys : {S : Type 0} (many : ℕ) (groups : HashMap Values (List Total) S) → AreTouchedKeys many groups → All (λ entry. get is_same groups entry.0 ≡ Some entry.1) groups.entries
    → AllByRecursion (λ (entry : Pair). IsKeySpelled many entry.0) groups.entries
entries_keys many groups keys found =
    recursion_from_All (λ (entry : Pair). IsKeySpelled many entry.0) groups.entries
    (All-weaker (λ (entry : Pair). get is_same groups entry.0 ≡ Some entry.1) (λ (entry : Pair). IsKeySpelled many entry.0) (λ entry is. keys entry.0 entry.1 is) groups.entries found)

-- ---- an entry more

module _ {A : Type 0} (made left all : List A) where
  one_on : (more rest : List A) (x y : A) → more ≡ made ++ x ∷ [] → x ≡ y → left ≡ y ∷ rest → made ++ left ≡ all → more ++ rest ≡ all
  one_on more rest x y pushed same steps is =
      ap (λ l. l ++ rest) pushed ∙ append_assoc made (x ∷ []) rest ∙ ap (λ z. made ++ z ∷ rest) same ∙ ap (λ l. made ++ l) (sym steps) ∙ is

  none_left : left ≡ [] → made ++ left ≡ all → made ≡ all
  none_left none is = sym (append-nil made) ∙ ap (λ l. made ++ l) (sym none) ∙ is

pub short_more : (entry : List ℕ × Option (List ℕ)) (before after : Change) → after ≡ before ++ entry ∷ [] → IsShortEntry entry → All IsShortEntry before → All IsShortEntry after
short_more entry before after pushed short was = subst (All IsShortEntry) (sym pushed) (All-push IsShortEntry before entry was short)

-- the entries of the groups so far, with that of the group at a place
pub gone_more : (closed : List Group) (at : ℕ) (group : Group) → at < length closed → group ≡ get_or closed at group → (before after : Change) → after ≡ before ++ gone_entry group ∷ []
    → before ≡ map gone_entry (take at closed) → after ≡ map gone_entry (take (at + 1) closed)
gone_more closed at group inside is before after pushed was =
    pushed
    ∙ ap (λ l. l ++ gone_entry group ∷ []) was
    ∙ sym (map-append gone_entry (take at closed) (group ∷ []))
    ∙ ap (map gone_entry) (sym (one_more closed at group inside is))

-- The entries so far, with those of the touched groups that are left, are those of the closed groups and after them of all that were touched.
pub record AreEntries (closed : List Group) (touched left : List Pair) (entries : Change) : Type 0 where
  pub all : entries ++ map put_entry left ≡ map gone_entry closed ++ map put_entry touched
  pub short : All IsShortEntry entries
  pub fit : All (λ (entry : Pair). IsFitGroup entry.0 entry.1) left

pub put_begins : (closed : List Group) (touched left : List Pair) (entries : Change) → entries ≡ map gone_entry closed → left ≡ touched → All IsShortEntry entries
    → All (λ (entry : Pair). IsFitGroup entry.0 entry.1) touched → AreEntries closed touched left entries
put_begins closed touched left entries are same short fit = record {
  all = λ i. are i ++ map put_entry (same i);
  short = short;
  fit = subst (All (λ (entry : Pair). IsFitGroup entry.0 entry.1)) (sym same) fit;
}

pub put_more : (closed : List Group) (touched left rest : List Pair) (pair : Pair) (before after : Change) → left ≡ pair ∷ rest → after ≡ before ++ put_entry pair ∷ []
    → All IsShortEntry after → AreEntries closed touched left before → AreEntries closed touched rest after
put_more closed touched left rest pair before after steps pushed short was = record {
  all = one_on before (map put_entry left) (map gone_entry closed ++ map put_entry touched) after (map put_entry rest) (put_entry pair) (put_entry pair) pushed refl (ap (map put_entry) steps) was.all;
  short = short;
  fit = All-tail (λ (entry : Pair). IsFitGroup entry.0 entry.1) pair rest (subst (All (λ (entry : Pair). IsFitGroup entry.0 entry.1)) steps was.fit);
}

pub put_all : (closed : List Group) (touched left : List Pair) (entries : Change) → left ≡ [] → AreEntries closed touched left entries → entries ≡ map gone_entry closed ++ map put_entry touched
put_all closed touched left entries none was = none_left entries (map put_entry left) (map gone_entry closed ++ map put_entry touched) (ap (map put_entry) none) was.all
