-- What is kept of rows, by their bytes.
use Rattle.std.proofs.Common.{◌≡◌, ◌++◌, [], ◌∷◌, ℕ, ℤ, List, Option, Some, None, Bool, true, false, refl, ap, sym, ◌∙◌, subst, filter, map}
use Rattle.std.specs.Prelude.{cond, if◌then◌else◌, not}
use Rattle.std.specs.declared.cmp.Ordering.{Ordering}
use Rattle.std.specs.declared.cmp.Ordering.TheVariants.{Less, Equal, Greater}
use Rattle.std.specs.BTreeMap.{is_at}
use Rattle.std.specs.Cmp.Lexicographic.{slice_cmp, nat_list_cmp_total}
use Rattle.std.specs.FinMap.{empty, entries, from_entries, entries-insert, get-empty, get-entries, get-from_entries, find}
use Rattle.std.specs.FinMap.Entries.{by_order, put}
use Rattle.std.specs.List.{AllByRecursion}
use Rattle.std.specs.Ordering.{nat_cmp, is_eq}
use Rattle.std.proofs.lemmas.Cmp.{tied_itself}
use Rattle.ssq_shape.specs.declared.bound.Joining.{Joining}
use Rattle.ssq_meaning.specs.FedRows.{FedRow}
use Rattle.ssq_meaning.specs.Join.{entry_of, is_over, kept, open_rows, row_key}
use Rattle.ssq_meaning.specs.JoinLaws.{AreApart, IsReordered}
use Rattle.ssq_meaning.proofs.Keys.{All-by}

abbrev by_bytes : List ℕ → List ℕ → Ordering
by_bytes = slice_cmp nat_cmp

-- a list in which no key is found is empty
none_found : {X : Type 0} (es : List (List ℕ × X)) → ((key : List ℕ) → find by_bytes key es ≡ None) → es ≡ []
none_found [] none = refl
none_found (e ∷ es) none =
    let no : Some e.1 ≡ None = ap (λ r. cond (is_eq r) (Some e.1) (find by_bytes e.0 es)) (sym (tied_itself nat_list_cmp_total e.0)) ∙ none e.0 in
    absurd cc

nothing_kept : {X : Type 0} → entries (empty {X = X} {R = by_bytes}) ≡ []
nothing_kept {X} = none_found (entries (empty {X = X} {R = by_bytes})) (λ key. sym (get-entries (empty {X = X} {R = by_bytes}) key) ∙ get-empty by_bytes key)

-- rows that are apart stay so where some of them go
pub apart_filter : (p : FedRow → Bool) (rows : List FedRow) → AreApart rows → AreApart (filter p rows)
apart_filter p [] apart = tt
apart_filter p (row ∷ rows) apart = by (p row) (apart_filter p rows apart.1)
  where
    by : (b : Bool) → AreApart (filter p rows) → AreApart (if b then row ∷ filter p rows else filter p rows)
    by true rest = (All-by (λ other. is_at (by_bytes (row_key row)) (row_key other) ≡ false) p rows apart.0, rest)
    by false rest = rest

module _ (value : FedRow → List ℕ) where
  abbrev entry : FedRow → List ℕ × List ℕ
  entry row = (row_key row, value row)

  not_there : (key : List ℕ) (rows : List FedRow) → AllByRecursion (λ other. is_at (by_bytes key) (row_key other) ≡ false) rows → find by_bytes key (map entry rows) ≡ None
  not_there key [] apart = refl
  not_there key (row ∷ rows) apart = ap (λ b. cond b (Some (value row)) (find by_bytes key (map entry rows))) apart.0 ∙ not_there key rows apart.1

  -- where a row of a new key is put
  put_rows : (row : FedRow) (rows : List FedRow) → find by_bytes (row_key row) (map entry rows) ≡ None
      → (front : List FedRow) × (back : List FedRow) × (map entry (front ++ row ∷ back) ≡ put by_bytes (row_key row) (value row) (map entry rows)) × (rows ≡ front ++ back)
  put_rows row [] none = ([], [], refl, refl)
  put_rows row (other ∷ rows) none = by (by_bytes (row_key row) (row_key other)) none (put_rows row rows)
    where
      by : (r : Ordering) → cond (is_eq r) (Some (value other)) (find by_bytes (row_key row) (map entry rows)) ≡ None
          → (find by_bytes (row_key row) (map entry rows) ≡ None
          → (front : List FedRow) × (back : List FedRow) × (map entry (front ++ row ∷ back) ≡ put by_bytes (row_key row) (value row) (map entry rows)) × (rows ≡ front ++ back))
          → (front : List FedRow) × (back : List FedRow)
          × (map entry (front ++ row ∷ back) ≡ by_order r (entry row ∷ entry other ∷ map entry rows) ((row_key other, value row) ∷ map entry rows) (entry other ∷ put by_bytes (row_key row) (value row) (map entry rows)))
          × (other ∷ rows ≡ front ++ back)
      by Less none rest = ([], other ∷ rows, refl, refl)
      by Equal none rest = absurd cc
      by Greater none rest = let found = rest none in (other ∷ found.0, found.1, ap (λ l. entry other ∷ l) found.2, ap (λ l. other ∷ l) found.3)

  -- the entries of rows that are apart are those of the rows in some order
  all_listed : (rows : List FedRow) → AreApart rows
      → (ordered : List FedRow) × IsReordered rows ordered × (entries (from_entries {R = by_bytes} (map entry rows)) ≡ map entry ordered)
  unfolding IsReordered
  all_listed [] apart = ([], refl, nothing_kept)
  all_listed (row ∷ rows) apart =
      let rest = all_listed rows apart.1 in
      let ordered = rest.0 in
      let none : find by_bytes (row_key row) (map entry ordered) ≡ None =
      ap (find by_bytes (row_key row)) (sym rest.2)
      ∙ sym (get-entries (from_entries {R = by_bytes} (map entry rows)) (row_key row))
      ∙ get-from_entries nat_list_cmp_total (map entry rows) (row_key row)
      ∙ not_there (row_key row) rows apart.0 in
      let found = put_rows row ordered none in (
        found.0 ++ row ∷ found.1,
        (found.0, found.1, refl, subst (IsReordered rows) found.3 rest.1),
        entries-insert nat_list_cmp_total (from_entries {R = by_bytes} (map entry rows)) (row_key row) (value row)
            ∙ ap (put by_bytes (row_key row) (value row)) rest.2
            ∙ sym found.2,
      )

pub rows_listed : (joining : Joining) (rows : List FedRow) (now : Option ℤ) → AreApart rows
    → (ordered : List FedRow) × IsReordered (open_rows joining rows now) ordered × (kept joining rows now ≡ map (entry_of joining rows) ordered)
rows_listed joining rows now apart =
    all_listed (λ row. (entry_of joining rows row).1) (open_rows joining rows now) (apart_filter (λ (row : FedRow). not (is_over joining now row)) rows apart)
