-- Rows by the bytes under which they are kept.
use Rattle.std.proofs.Common.{◌≡◌, ◌++◌, ℕ, [], ◌∷◌, List, Option, Some, None, Bool, true, false, refl, ap, sym, ◌∙◌, filter, map}
use Rattle.std.specs.Prelude.{cond, if◌then◌else◌, option_map}
use Rattle.std.specs.BTreeMap.{is_at}
use Rattle.std.specs.List.{AllByRecursion}
use Rattle.ssq_version.specs.State.{by_bytes, value_at}
use Rattle.ssq_version.proofs.Values.{one_key}
use Rattle.ssq_meaning.specs.FedRows.{FedRow}
use Rattle.ssq_meaning.specs.Feeding.{or_else}
use Rattle.ssq_meaning.specs.Join.{row_key, row_value}
use Rattle.ssq_meaning.specs.JoinLaws.{AreApart, IsReordered}
use Rattle.ssq_join.specs.Changing.{find_row}
use Rattle.ssq_join.specs.Meeting.{entry_with}

-- what stands under some bytes is what is kept of the row
pub value_found : (met : FedRow → Bool) (rows : List FedRow) (key : List ℕ) → value_at (map (entry_with met) rows) key ≡ option_map (λ row. row_value (met row) row) (find_row key rows)
value_found met [] key = refl
value_found met (row ∷ rows) key = by (is_at (by_bytes key) (row_key row)) (value_found met rows key)
  where
    by : (b : Bool) → value_at (map (entry_with met) rows) key ≡ option_map (λ row. row_value (met row) row) (find_row key rows)
        → cond b (Some (row_value (met row) row)) (value_at (map (entry_with met) rows) key) ≡ option_map (λ row. row_value (met row) row) (if b then Some row else find_row key rows)
    by true rest = refl
    by false rest = rest

pub found_append : (key : List ℕ) (xs ys : List FedRow) → find_row key (xs ++ ys) ≡ or_else (find_row key xs) (find_row key ys)
found_append key [] ys = refl
found_append key (x ∷ xs) ys = by (is_at (by_bytes key) (row_key x)) (found_append key xs ys)
  where
    by : (b : Bool) → find_row key (xs ++ ys) ≡ or_else (find_row key xs) (find_row key ys)
        → (if b then Some x else find_row key (xs ++ ys)) ≡ or_else (if b then Some x else find_row key xs) (find_row key ys)
    by true rest = refl
    by false rest = rest

-- where one row is kept under some bytes, none of those that are apart from it is
pub none_found : (key : List ℕ) (row : FedRow) → is_at (by_bytes key) (row_key row) ≡ true → (rows : List FedRow) → AllByRecursion (λ (other : FedRow). is_at (by_bytes (row_key row)) (row_key other) ≡ false) rows
    → find_row key rows ≡ None
none_found key row at [] apart = refl
none_found key row at (other ∷ rows) apart =
    ap (λ b. if b then Some other else find_row key rows) (ap (λ k. is_at (by_bytes k) (row_key other)) (one_key key (row_key row) at) ∙ apart.0) ∙ none_found key row at rows apart.1

none_in_front : (a b : Option FedRow) → or_else a b ≡ None → a ≡ None
none_in_front None b is = refl
none_in_front (Some row) b is = absurd cc

-- the row that is found is kept under these bytes
pub found_key : (key : List ℕ) (rows : List FedRow) (row : FedRow) → find_row key rows ≡ Some row → key ≡ row_key row
found_key key [] row is = absurd cc
found_key key (one ∷ rows) row is = by (is_at (by_bytes key) (row_key one)) refl is (found_key key rows row)
  where
    by : (b : Bool) → is_at (by_bytes key) (row_key one) ≡ b → (if b then Some one else find_row key rows) ≡ Some row → (find_row key rows ≡ Some row → key ≡ row_key row) → key ≡ row_key row
    by true at is rest = let same : one ≡ row = cc in one_key key (row_key one) at ∙ ap row_key same
    by false at is rest = rest is

-- rows in another order
pub found_reordered : (key : List ℕ) (xs ys : List FedRow) → AreApart xs → IsReordered xs ys → find_row key xs ≡ find_row key ys
unfolding IsReordered
found_reordered key [] ys apart same = ap (find_row key) (sym same)
found_reordered key (x ∷ xs) ys apart same =
    by same.0 same.1 (is_at (by_bytes key) (row_key x)) refl (found_reordered key xs (same.0 ++ same.1) apart.1 same.3) ∙ ap (find_row key) (sym same.2)
  where
    by : (front back : List FedRow) (b : Bool) → is_at (by_bytes key) (row_key x) ≡ b → find_row key xs ≡ find_row key (front ++ back) → (if b then Some x else find_row key xs) ≡ find_row key (front ++ x ∷ back)
    by front back true at rest =
        let none : find_row key front ≡ None = none_in_front (find_row key front) (find_row key back) (sym (found_append key front back) ∙ sym rest ∙ none_found key x at xs apart.0) in
        sym (found_append key front (x ∷ back) ∙ ap (λ o. or_else o (find_row key (x ∷ back))) none ∙ ap (λ b. if b then Some x else find_row key back) at)
    by front back false at rest =
        rest ∙ found_append key front back ∙ ap (or_else (find_row key front)) (sym (ap (λ b. if b then Some x else find_row key back) at)) ∙ sym (found_append key front (x ∷ back))

-- some of the rows
abbrev pub keep_if : (FedRow → Bool) → Option FedRow → Option FedRow
keep_if p None = None
keep_if p (Some row) = if p row then Some row else None

pub found_filter : (p : FedRow → Bool) (key : List ℕ) (rows : List FedRow) → AreApart rows → find_row key (filter p rows) ≡ keep_if p (find_row key rows)
found_filter p key [] apart = refl
found_filter p key (row ∷ rows) apart = by (p row) refl (is_at (by_bytes key) (row_key row)) refl (found_filter p key rows apart.1)
  where
    by : (b : Bool) → p row ≡ b → (c : Bool) → is_at (by_bytes key) (row_key row) ≡ c → find_row key (filter p rows) ≡ keep_if p (find_row key rows)
        → find_row key (if b then row ∷ filter p rows else filter p rows) ≡ keep_if p (if c then Some row else find_row key rows)
    by true is true at rest = ap (λ b. if b then Some row else find_row key (filter p rows)) at ∙ ap (λ b. if b then Some row else None) (sym is)
    by true is false at rest = ap (λ b. if b then Some row else find_row key (filter p rows)) at ∙ rest
    by false is true at rest =
        rest ∙ ap (keep_if p) (none_found key row at rows apart.0) ∙ ap (λ b. if b then Some row else None) (sym is)
    by false is false at rest = rest
