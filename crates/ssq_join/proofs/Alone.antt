-- Rows that are over without a partner, one after the other.
use Rattle.std.proofs.Common.{◌≡◌, ◌<◌, ◌≤◌, ◌+◌, ◌-◌, ◌++◌, ℕ, suc, zero, [], ◌∷◌, List, Option, Some, None, Bool, true, false, All, refl, ap, sym, ◌∙◌, subst, arith, add-one, filter, length, map, take, get_or}
use Rattle.std.specs.Prelude.{◌&&◌, ◌==◌, IsSomeAnd, slice_get, not, if◌then◌else◌, option_copied}
use Rattle.std.specs.Borrow.{Bor}
use Rattle.std.specs.Int.{w32, w64, to_be_bytes}
use Rattle.std.specs.List.{AllByRecursion}
use Rattle.std.specs.List.Sorted.{IsPermutation}
use Rattle.std.proofs.lemmas.List.{append_assoc, append-nil, length-append, length-map, map-append, take_all}
use Rattle.std.proofs.lemmas.List.Elements.{All-append, All-replicate, filter-append}
use Rattle.std.proofs.lemmas.List.Sorted.{IsPermutation-cons, IsPermutation-middle, IsPermutation-refl, IsPermutation-sym, IsPermutation-trans}
use Rattle.ssq_value.specs.declared.value.Value.TheVariants as value
use Rattle.ssq_value.specs.Key.{keys_of}
use Rattle.ssq_time.proofs.Steps.{some_same}
use Rattle.ssq_version.specs.State.{State}
use Rattle.ssq_shape.specs.declared.bound.Bound.{Bound}
use Rattle.ssq_shape.specs.declared.bound.Joining.{Joining}
use Rattle.ssq_meaning.specs.FedRows.{FedRow}
use Rattle.ssq_meaning.specs.Fit.{IsFit}
use Rattle.ssq_meaning.specs.Join.{Considered, alone_of, is_left, joined_alone, nulls, row_key, row_value, side_byte}
use Rattle.ssq_meaning.specs.Meaning.{Values, layout_at}
use Rattle.ssq_step.specs.declared.rows.KeptRow.{KeptRow}
use Rattle.ssq_step.specs.declared.shown.Shown.{Shown}
use Rattle.ssq_step.specs.Indexing.{seen}
use Rattle.ssq_step.specs.Rows.{IsKeptRow}
use Rattle.ssq_join.specs.Overs.{AreOver, IsHeld, IsRead, TellsAlone, alones, is_shown_alone, with_alone}
use Rattle.ssq_join.specs.Steps.{IsKept}
use Rattle.ssq_join.specs.Telling.{Tells}

-- ---- one row

-- the row as it is kept
pub kept_as : (query : Bound) (joining : Joining) (row : FedRow) (met : Bool) → IsKept query joining row → (key value : List ℕ) → key ≡ row_key row → value ≡ row_value met row
    → IsKeptRow query (is_left row.stream) row.values met key value
kept_as query joining row met is key value key_is value_is = record {
  bytes = record {
    rest = keys_of row.key ++ (to_be_bytes w32 row.epoch ++ (to_be_bytes w32 row.part ++ to_be_bytes w64 row.offset));
    side = key_is;
    spelled = value_is;
  };
  fit = is.fit.values;
  many = is.many;
}

pub kept_row : (query : Bound) (joining : Joining) (row : FedRow) (met : Bool) → IsKept query joining row → IsKeptRow query (is_left row.stream) row.values met (row_key row) (row_value met row)
kept_row query joining row met is = kept_as query joining row met is (row_key row) (row_value met row) refl refl

-- what is found is what stands there
pub found_value : (found : Option (Bor (List ℕ))) (value : Bor (List ℕ)) (own : List ℕ) → found ≡ Some value → option_copied found ≡ Some own → value.now ≡ own
found_value None value own is same = absurd cc
found_value (Some other) value own is same =
    let one : other ≡ value = cc in
    let two : other.now ≡ own = cc in
    ap (λ (b : Bor (List ℕ)). b.now) (sym one) ∙ two

pub is_read : (row : FedRow) (met : Bool) (read : Option KeptRow) → IsSomeAnd read (λ own. (own.left ≡ is_left row.stream) × (own.values ≡ row.values) × (own.met ≡ met)) → IsSomeAnd read (IsRead row)
is_read row met None is = is
is_read row met (Some own) is = record { left = is.0; values = is.1 }

-- whether it is shown
pub not_shown : (query : Bound) (joining : Joining) (met : FedRow → Bool) (row : FedRow) (all : List Considered) (found : Shown) → is_shown_alone joining met row ≡ false → Tells found all
    → Tells found (with_alone query joining met row all)
not_shown query joining met row all found is tells = subst (λ b. Tells found (if b then alone_of query row ∷ all else all)) (sym is) tells

pub if_shown : (query : Bound) (joining : Joining) (met : FedRow → Bool) (row : FedRow) (all : List Considered) (found : Shown) → is_shown_alone joining met row ≡ true → Tells found (alone_of query row ∷ all)
    → Tells found (with_alone query joining met row all)
if_shown query joining met row all found is tells = subst (λ b. Tells found (if b then alone_of query row ∷ all else all)) (sym is) tells

pub both_fail : (a b : Bool) → b ≡ true → (a && not b) ≡ false
both_fail true true is = refl
both_fail false true is = refl
both_fail a false is = absurd cc

-- NULLs can be kept
pub alone_fits : (query : Bound) (left : Bool) (row : Values) → All IsFit row → All IsFit (joined_alone query left row)
alone_fits query true row fit = All-append IsFit row (nulls query 1) fit (All-replicate IsFit (length (layout_at query 1).columns) value.Null tt)
alone_fits query false row fit = All-append IsFit (nulls query 0) row (All-replicate IsFit (length (layout_at query 0).columns) value.Null tt) fit

take_front : (front back : List ℕ) → take (length front) (front ++ back) ≡ front
take_front [] back = refl
take_front (x ∷ front) back = ap (λ l. x ∷ l) (take_front front back)

-- between the side and the place
pub key_is : (row : FedRow) (byte : ℕ) (rest : List ℕ) → byte ∷ rest ≡ row_key row → take (length rest - 16) rest ≡ keys_of row.key
key_is row byte rest is =
    let place = to_be_bytes w32 row.epoch ++ (to_be_bytes w32 row.part ++ to_be_bytes w64 row.offset) in
    let same : rest ≡ keys_of row.key ++ place = cc in
    let long : length rest ≡ length (keys_of row.key) + 16 = ap (λ (l : List ℕ). length l) same ∙ length-append (keys_of row.key) place in
    let end : length rest - 16 ≡ length (keys_of row.key) = omega (arith, long) in
    (λ i. take (end i) (same i)) ∙ take_front (keys_of row.key) place

-- the first byte tells the side
side_of_byte : (left : Bool) → (side_byte left == 0) ≡ left
side_of_byte true = refl
side_of_byte false = refl

pub side_is : (row : FedRow) (key : List ℕ) (first : ℕ) → Some first ≡ slice_get key 0 → key ≡ row_key row → (first == 0) ≡ is_left row.stream
side_is row key first is same =
    ap (λ byte. byte == 0) (some_same first (side_byte (is_left row.stream)) (is ∙ ap (λ (bytes : List ℕ). slice_get bytes 0) same)) ∙ side_of_byte (is_left row.stream)

pub no_side : (row : FedRow) (key : List ℕ) → None ≡ slice_get key 0 → key ≡ row_key row → ⊥
no_side row key is same =
    let no : None ≡ Some (side_byte (is_left row.stream)) = is ∙ ap (λ (bytes : List ℕ). slice_get bytes 0) same in
    absurd cc

-- ---- one after the other

alones_more : (query : Bound) (joining : Joining) (met : FedRow → Bool) (rows : List FedRow) (row : FedRow) → alones query joining met (rows ++ row ∷ []) ≡ alones query joining met rows ++ with_alone query joining met row []
alones_more query joining met rows row =
    ap (map (alone_of query)) (filter-append (is_shown_alone joining met) rows (row ∷ []))
    ∙ map-append (alone_of query) (filter (is_shown_alone joining met) rows) (filter (is_shown_alone joining met) (row ∷ []))
    ∙ ap (λ l. alones query joining met rows ++ l) (by (is_shown_alone joining met row))
  where
    by : (b : Bool) → map (alone_of query) (if b then row ∷ [] else []) ≡ (if b then alone_of query row ∷ [] else [])
    by true = refl
    by false = refl

-- the rows so far, and one more
pub told_more : (query : Bound) (joining : Joining) (met : FedRow → Bool) (rows : List FedRow) (row : FedRow) (all before : List Considered) (now : Shown) → IsPermutation all (alones query joining met rows ++ before)
    → Tells now (with_alone query joining met row all) → TellsAlone query joining met (rows ++ row ∷ []) before now
told_more query joining met rows row all before now same tells =
    (with_alone query joining met row all, subst (λ (l : List Considered). IsPermutation (with_alone query joining met row all) (l ++ before)) (sym (alones_more query joining met rows row)) (by (is_shown_alone joining met row)), tells)
  where
    by : (b : Bool) → IsPermutation (if b then alone_of query row ∷ all else all) ((alones query joining met rows ++ (if b then alone_of query row ∷ [] else [])) ++ before)
    by true =
        subst (IsPermutation (alone_of query row ∷ all)) (sym (append_assoc (alones query joining met rows) (alone_of query row ∷ []) before))
        (IsPermutation-trans _ _ _ (IsPermutation-cons (alone_of query row) all (alones query joining met rows ++ before) same)
        (IsPermutation-sym (alones query joining met rows ++ alone_of query row ∷ before) (alone_of query row ∷ (alones query joining met rows ++ before)) (IsPermutation-middle (alones query joining met rows) (alone_of query row) before)))
    by false = subst (λ (l : List Considered). IsPermutation all (l ++ before)) (sym (append-nil (alones query joining met rows))) same

-- the row whose key stands at a place
abbrev IsRowAt : (P : FedRow → Type 0) → (over : List FedRow) → ℕ → List ℕ → Type 0
IsRowAt P over at key = (row : FedRow) × (take (at + 1) over ≡ take at over ++ row ∷ []) × (key ≡ row_key row) × P row

row_behind : (P : FedRow → Type 0) (row : FedRow) (over : List FedRow) (at : ℕ) (key : List ℕ) → IsRowAt P over at key → IsRowAt P (row ∷ over) (suc at) key
row_behind P row over at key found =
    (found.0, ap (λ n. take n (row ∷ over)) (add-one (suc at)) ∙ ap (λ n. row ∷ take n over) (sym (add-one at)) ∙ ap (λ l. row ∷ l) found.1, found.2, found.3)

pub row_at : (P : FedRow → Type 0) (keys : List (Bor (List ℕ))) (over : List FedRow) → seen keys ≡ map row_key over → AllByRecursion P over → (at : ℕ) (key : Bor (List ℕ)) → at < length keys → key ≡ get_or keys at key
    → IsRowAt P over at key.now
row_at P [] over same each at key inside is = absurd (omega (arith, inside))
row_at P (k ∷ keys) [] same each at key inside is = absurd cc
row_at P (k ∷ keys) (row ∷ over) same each zero key inside is =
    let first : k.now ≡ row_key row = cc in
    (row, ap (λ n. take n (row ∷ over)) (add-one 0), ap (λ (b : Bor (List ℕ)). b.now) is ∙ first, each.0)
row_at P (k ∷ keys) (row ∷ over) same each (suc at) key inside is =
    let less : at < length keys = omega (arith, inside) in
    let rest : seen keys ≡ map row_key over = cc in
    row_behind P row over at key.now (row_at P keys over rest each.1 at key less is)

-- one key more
pub over_on : (query : Bound) (joining : Joining) (state : State) (met : FedRow → Bool) (over : List FedRow) (keys : List (Bor (List ℕ))) → AreOver query joining state met over (seen keys)
    → (at : ℕ) (key : Bor (List ℕ)) → at < length keys → key ≡ get_or keys at key → (before : List Considered) (found now : Shown)
    → ((row : FedRow) (all : List Considered) → IsHeld query joining state met row → key.now ≡ row_key row → Tells found all → Tells now (with_alone query joining met row all))
    → TellsAlone query joining met (take at over) before found → TellsAlone query joining met (take (at + 1) over) before now
over_on query joining state met over keys are at key inside is before found now one told =
    let found_row = row_at (IsHeld query joining state met) keys over are.keys_are are.each at key inside is in
    let row = found_row.0 in
    subst (λ (rows : List FedRow). TellsAlone query joining met rows before now) (sym found_row.1)
    (told_more query joining met (take at over) row told.0 before now told.1 (one row told.0 found_row.3 found_row.2 told.2))

-- none yet
pub over_begins : (query : Bound) (joining : Joining) (met : FedRow → Bool) (before : List Considered) (found : Shown) → Tells found before → TellsAlone query joining met [] before found
over_begins query joining met before found tells = (before, IsPermutation-refl before, tells)

-- all keys
pub over_all : (query : Bound) (joining : Joining) (state : State) (met : FedRow → Bool) (over : List FedRow) (keys : List (Bor (List ℕ))) → AreOver query joining state met over (seen keys)
    → (at : ℕ) → length keys ≤ at → (before : List Considered) (found : Shown) → TellsAlone query joining met (take at over) before found → TellsAlone query joining met over before found
over_all query joining state met over keys are at past before found told =
    let same : length over ≡ length keys = sym (length-map over row_key) ∙ ap (λ (l : List (List ℕ)). length l) (sym are.keys_are) ∙ length-map keys (λ (key : Bor (List ℕ)). key.now) in
    subst (λ (rows : List FedRow). TellsAlone query joining met rows before found) (take_all at over (omega (arith, same, past))) told
