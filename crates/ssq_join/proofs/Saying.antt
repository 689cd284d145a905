-- What a change says, one loop after the other.
use Rattle.std.proofs.Common.{◌≡◌, ◌<◌, ◌+◌, ◌-◌, ◌++◌, ℕ, zero, suc, [], ◌∷◌, List, Option, Some, None, Bool, true, false, refl, ap, sym, ◌∙◌, subst, arith, length, take, map}
use Rattle.std.specs.Prelude.{◌&&◌, ◌||◌, not, if◌then◌else◌, option_map}
use Rattle.std.specs.BTreeMap.{is_at}
use Rattle.ssq_value.specs.Key.{keys_of}
use Rattle.ssq_version.specs.State.{Ascends, Change, IsToldAt, State, by_bytes, value_at}
use Rattle.ssq_version.proofs.Values.{by_case, first_at, is_itself, none_behind, one_key, other_way, others_at}
use Rattle.ssq_meaning.specs.FedRows.{FedRow}
use Rattle.ssq_meaning.specs.Feeding.{or_else}
use Rattle.ssq_meaning.specs.Join.{met_byte, row_key, row_value}
use Rattle.ssq_step.specs.Forgetting.{IsGone}
use Rattle.ssq_join.specs.Changing.{SaysBytes, SaysFlags, SaysFresh, SaysIf, SaysRows, find_row, flag_of, flag_said, flagged, flagged_if, fresh_said, is_flagged, said_of, said_of_row}
use Rattle.ssq_join.specs.Meeting.{entry_with}
use Rattle.ssq_join.specs.Telling.{among}
use Rattle.ssq_join.proofs.Finding.{found_key, value_found}

-- ---- the last byte

pub flagged_last : (front : List ℕ) (last : ℕ) → flagged (front ++ last ∷ []) ≡ front ++ 1 ∷ []
flagged_last [] last = refl
flagged_last (x ∷ []) last = refl
flagged_last (x ∷ y ∷ front) last = ap (λ l. x ∷ l) (flagged_last (y ∷ front) last)

pub is_flagged_last : (front : List ℕ) (last : ℕ) → is_flagged (front ++ last ∷ []) ≡ is_flagged (last ∷ [])
is_flagged_last [] last = refl
is_flagged_last (x ∷ []) last = refl
is_flagged_last (x ∷ y ∷ front) last = is_flagged_last (y ∷ front) last

-- in place of the last byte
pub flagged_cut : (bytes : List ℕ) → 0 < length bytes → take (length bytes - 1) bytes ++ 1 ∷ [] ≡ flagged bytes
flagged_cut bytes some = by (length bytes - 1) bytes (omega (arith, some))
  where
    by : (n : ℕ) (bytes : List ℕ) → length bytes ≡ n + 1 → take n bytes ++ 1 ∷ [] ≡ flagged bytes
    by n [] long = absurd (omega (arith, long))
    by zero (x ∷ []) long = refl
    by (suc n) (x ∷ []) long = absurd (omega (arith, long))
    by zero (x ∷ y ∷ bytes) long = absurd (omega (arith, long))
    by (suc n) (x ∷ y ∷ bytes) long = ap (λ l. x ∷ l) (by n (y ∷ bytes) (omega (arith, long)))

-- none
pub flagged_none : (bytes : List ℕ) → length bytes < 1 → bytes ≡ flagged bytes
flagged_none [] none = refl
flagged_none (x ∷ bytes) none = absurd (omega (arith, none))

flagged_row : (met : Bool) (row : FedRow) → flagged (row_value met row) ≡ row_value true row
flagged_row met row = flagged_last (keys_of row.values) (met_byte met)

pub is_flagged_row : (met : Bool) (row : FedRow) → is_flagged (row_value met row) ≡ met
is_flagged_row true row = is_flagged_last (keys_of row.values) 1
is_flagged_row false row = is_flagged_last (keys_of row.values) 0

-- ---- new entries

module _ (fresh : State) (met : List (List ℕ)) (before : Change) where
  -- what was said, and what is to be said of those that are left, comes to all
  abbrev pub FreshTo : (left : State) → Change → Type 0
  FreshTo left now = (key : List ℕ) → or_else (fresh_said met key (value_at left key)) (value_at now key) ≡ or_else (fresh_said met key (value_at fresh key)) (value_at before key)

  pub fresh_begins : (left : State) → left ≡ fresh → FreshTo left before
  fresh_begins left same key = ap (λ (s : State). or_else (fresh_said met key (value_at s key)) (value_at before key)) same

  pub fresh_on : (left rest : State) (k v value : List ℕ) (now after : Change) → left ≡ (k, v) ∷ rest → Ascends left → value ≡ flagged_if (among met k) v → IsToldAt k (Some value) now after → FreshTo left now → FreshTo rest after
  fresh_on left rest k v value now after step ascends is told was key =
      by_case (is_at (by_bytes key) k)
      (λ at. here at (one_key key k at) ∙ was key)
      (λ apart.
      (λ i. or_else (fresh_said met key (sym (ap (λ (s : State). value_at s key) step ∙ others_at k v rest key apart) i)) ((told key ∙ ap (λ b. if b then Some (Some value) else value_at now key) (other_way key k apart)) i))
      ∙ was key)
    where
      here : is_at (by_bytes key) k ≡ true → key ≡ k → or_else (fresh_said met key (value_at rest key)) (value_at after key) ≡ or_else (fresh_said met key (value_at left key)) (value_at now key)
      here at same =
          let none : value_at rest key ≡ None = ap (λ q. value_at rest q) same ∙ none_behind k v rest (subst (λ (s : State). Ascends s) step ascends) in
          let said : value_at after key ≡ Some (Some value) = told key ∙ ap (λ b. if b then Some (Some value) else value_at now key) (ap (λ q. is_at (by_bytes k) q) same ∙ is_itself k) in
          let old : value_at left key ≡ Some v = ap (λ (s : State). value_at s key) step ∙ first_at k v rest key at in
          (λ i. or_else (fresh_said met key (none i)) (said i))
          ∙ ap (λ x. Some (Some x)) (is ∙ ap (λ q. flagged_if (among met q) v) (sym same))
          ∙ ap (λ o. or_else (fresh_said met key o) (value_at now key)) (sym old)

  pub fresh_all : (left : State) (after : Change) → left ≡ [] → FreshTo left after → SaysFresh fresh met before after
  fresh_all left after none was key = sym (ap (λ (s : State). or_else (fresh_said met key (value_at s key)) (value_at after key)) none) ∙ was key

-- ---- rows that met

module _ (old : State) (met : List (List ℕ)) (before : Change) where
  abbrev pub FlagsTo : (left : List (List ℕ)) → Change → Type 0
  FlagsTo left now = (key : List ℕ) → or_else (flag_said (among left key) (value_at old key)) (value_at now key) ≡ or_else (flag_said (among met key) (value_at old key)) (value_at before key)

  pub flags_begin : (left : List (List ℕ)) → left ≡ met → FlagsTo left before
  flags_begin left same key = ap (λ (l : List (List ℕ)). or_else (flag_said (among l key) (value_at old key)) (value_at before key)) same

  pub flags_on : (left rest : List (List ℕ)) (k : List ℕ) (now after : Change) → left ≡ k ∷ rest → SaysIf k (flag_of (value_at old k)) now after → FlagsTo left now → FlagsTo rest after
  flags_on left rest k now after step says was key =
      by_case (is_at (by_bytes key) k)
      (λ at.
      here (flag_of (value_at old k)) (among rest key) says (one_key key k at) (ap flag_of (ap (value_at old) (one_key key k at)))
      ∙ ap (λ b. or_else (flag_said b (value_at old key)) (value_at now key)) (sym (first ∙ ap (λ b. b || among rest key) at)) ∙ was key)
      (λ apart.
      ap (or_else (flag_said (among rest key) (value_at old key))) (there (flag_of (value_at old k)) says (other_way key k apart))
      ∙ ap (λ b. or_else (flag_said b (value_at old key)) (value_at now key)) (sym (first ∙ ap (λ b. b || among rest key) apart)) ∙ was key)
    where
      first : among left key ≡ (is_at (by_bytes key) k || among rest key)
      first = ap (λ l. among l key) step

      here : (flag : Option (List ℕ)) (b : Bool) → SaysIf k flag now after → key ≡ k → flag_of (value_at old key) ≡ flag
          → or_else (flag_said b (value_at old key)) (value_at after key) ≡ or_else (flag_said true (value_at old key)) (value_at now key)
      here None b says same is = (λ i. or_else (if b then option_map (λ value. Some value) (is i) else None) (value_at (says i) key)) ∙ by b ∙ ap (λ o. or_else (option_map (λ value. Some value) o) (value_at now key)) (sym is)
        where
          by : (b : Bool) → or_else (if b then None else None) (value_at now key) ≡ value_at now key
          by true = refl
          by false = refl
      here (Some value) b says same is =
          (λ i. or_else (if b then option_map (λ value. Some value) (is i) else None) ((says key ∙ ap (λ c. if c then Some (Some value) else value_at now key) (ap (λ q. is_at (by_bytes k) q) same ∙ is_itself k)) i))
          ∙ by b ∙ ap (λ o. or_else (option_map (λ value. Some value) o) (value_at now key)) (sym is)
        where
          by : (b : Bool) → or_else (if b then Some (Some value) else None) (Some (Some value)) ≡ Some (Some value)
          by true = refl
          by false = refl

      there : (flag : Option (List ℕ)) → SaysIf k flag now after → is_at (by_bytes k) key ≡ false → value_at after key ≡ value_at now key
      there None says apart = ap (λ (c : Change). value_at c key) says
      there (Some value) says apart = says key ∙ ap (λ b. if b then Some (Some value) else value_at now key) apart

  pub flags_all : (left : List (List ℕ)) (after : Change) → left ≡ [] → FlagsTo left after → SaysFlags old met before after
  flags_all left after none was key = sym (ap (λ (l : List (List ℕ)). or_else (flag_said (among l key) (value_at old key)) (value_at after key)) none) ∙ was key

-- ---- all of it

pub or_none : {A : Type 0} (o : Option A) → or_else o None ≡ o
or_none None = refl
or_none (Some x) = refl

pub says_bytes : (old fresh : State) (met over : List (List ℕ)) (first second third change : Change) → first ≡ [] → SaysFresh fresh met first second → SaysFlags old met second third → IsGone over third change
    → SaysBytes old fresh met over change
says_bytes old fresh met over first second third change empty says flags gone key =
    gone key
    ∙ ap (λ o. if among over key then Some None else o)
    (flags key ∙ ap (or_else (flag_said (among met key) (value_at old key))) (says key ∙ ap (λ (c : Change). or_else (fresh_said met key (value_at fresh key)) (value_at c key)) empty ∙ or_none (fresh_said met key (value_at fresh key))))

-- ---- by rows

abbrev pub over_at : (FedRow → Bool) → Option FedRow → Bool
over_at over None = false
over_at over (Some row) = over row

module _ (over was_met : FedRow → Bool) (held new : List FedRow) (old fresh : State) (met keys : List (List ℕ)) where
  pub says_rows : old ≡ map (entry_with was_met) held → ((key : List ℕ) → value_at fresh key ≡ option_map (row_value false) (find_row key new)) → ((key : List ℕ) → among keys key ≡ over_at over (find_row key held))
      → ((key : List ℕ) (row : FedRow) → find_row key held ≡ Some row → find_row key new ≡ None) → (change : Change) → SaysBytes old fresh met keys change
      → SaysRows over was_met (λ row. among met (row_key row)) held new change
  says_rows listed found due apart change says key =
      says key
      ∙ (λ i. said_of (due key i) (among met key) ((ap (λ (s : State). value_at s key) listed ∙ value_found was_met held key) i) (found key i))
      ∙ by (find_row key held) (find_row key new) (apart key) (λ row is. found_key key held row is) (λ row is. found_key key new row is)
    where
      of_held : (row : FedRow) (o m w : Bool)
          → (if o then Some None else or_else (if m then option_map (λ value. Some value) (if is_flagged (row_value w row) then None else Some (flagged (row_value w row))) else None) None)
          ≡ (if o then Some None else (if m && not w then Some (Some (row_value true row)) else None))
      of_held row true m w = refl
      of_held row false true true = ap (λ b. or_else (option_map (λ value. Some value) (if b then None else Some (flagged (row_value true row)))) None) (is_flagged_row true row)
      of_held row false true false =
          ap (λ b. or_else (option_map (λ value. Some value) (if b then None else Some (flagged (row_value false row)))) None) (is_flagged_row false row) ∙ ap (λ x. Some (Some x)) (flagged_row false row)
      of_held row false false true = refl
      of_held row false false false = refl

      of_new : (row : FedRow) (m : Bool) → or_else (if m then option_map (λ value. Some value) None else None) (Some (Some (flagged_if m (row_value false row)))) ≡ Some (Some (row_value m row))
      of_new row true = ap (λ x. Some (Some x)) (flagged_row false row)
      of_new row false = refl

      none : (m : Bool) (o : Option (List ℕ)) → o ≡ None → or_else (flag_said m o) (option_map (λ value. Some (flagged_if m value)) o) ≡ None
      none true None is = refl
      none false None is = refl
      none m (Some value) is = absurd cc

      by : (h f : Option FedRow) → ((row : FedRow) → h ≡ Some row → f ≡ None) → ((row : FedRow) → h ≡ Some row → key ≡ row_key row) → ((row : FedRow) → f ≡ Some row → key ≡ row_key row)
          → said_of (over_at over h) (among met key) (option_map (λ row. row_value (was_met row) row) h) (option_map (row_value false) f) ≡ said_of_row over was_met (λ row. among met (row_key row)) h f
      by (Some row) f no_new key_held key_new =
          ap (λ o. said_of (over row) (among met key) (Some (row_value (was_met row) row)) (option_map (row_value false) o)) (no_new row refl)
          ∙ of_held row (over row) (among met key) (was_met row)
          ∙ ap (λ k. if over row then Some None else (if among met k && not (was_met row) then Some (Some (row_value true row)) else None)) (key_held row refl)
      by None (Some row) no_new key_held key_new = of_new row (among met key) ∙ ap (λ k. Some (Some (row_value (among met k) row))) (key_new row refl)
      by None None no_new key_held key_new = none (among met key) None refl
