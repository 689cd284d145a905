-- The last row of each key is kept, row by row.
use Rattle.std.proofs.Common.{◌≡◌, ℕ, ◌+◌, Bool, true, false, cond, not, ◌||◌, List, [], ◌∷◌, ◌++◌, Option, Some, None, refl, sym, ap, ◌∙◌, subst, arith}
use Rattle.std.specs.Prelude.{filter, option_map, unwrap_or, sum_by}
use Rattle.std.specs.declared.cmp.Ordering.{Ordering}
use Rattle.std.specs.declared.cmp.Ordering.TheVariants.{Less, Equal, Greater}
use Rattle.std.specs.BTreeMap.{insert_entry, is_at}
use Rattle.std.specs.Cmp.{eq_by_cmp_equiv}
use Rattle.std.specs.List.{All, AllByRecursion, list_any}
use Rattle.std.specs.List.Sorted.{IsStrictlySortedBy}
use Rattle.std.specs.Map.{keys_of, lookup, values_of}
use Rattle.std.specs.Ordering.{match_ordering}
use Rattle.std.proofs.lemmas.List.Elements.{All-nil}
use Rattle.std.proofs.lemmas.List.Sums.{sum_by-append, sum_by-cons}
use Rattle.std.proofs.lemmas.Map.{lookup-none}
use Rattle.std.proofs.lemmas.Map.Entries.{none_past_head, sum_by-insert_entry}
use Rattle.std.proofs.lemmas.Map.Keys.{IsDistinct-from_sorted, sorted_tail}
use Rattle.std.proofs.lemmas.Map.Views.{All-values-insert_entry}
use Rattle.ssq_time.specs.Time.{IsStampTime}
use Rattle.ssq_value.specs.Kind.{IfTime}
use Rattle.ssq_value.specs.Order.{values_cmp}
use Rattle.ssq_value.specs.OrderLaws.{values_cmp_total, values_cmp_exact}
use Rattle.ssq_shape.specs.declared.bound.Bound.{Bound}
use Rattle.ssq_shape.specs.declared.bound.Output.{Output}
use Rattle.ssq_meaning.specs.Group.{is_same}
use Rattle.ssq_meaning.specs.Meaning.{Values}
use Rattle.ssq_meaning.specs.Table.{is_same_group, key_cells}
use Rattle.ssq_meaning.proofs.Keys.{same_back}
use Rattle.ssq_sink.specs.Latest.{IsLatest}
use Rattle.ssq_sink.specs.Sink.{sink_text}
use Rattle.ssq_sink.specs.Table.{last_rows}
use Rattle.ssq_sink.proofs.LastRows.{last_rows-append}
use Rattle.ssq_sink.proofs.Rows.{sink_text-SameBag}

abbrev Entries : Type 0
Entries = List (Values × Values)

-- ---- each row under its own key

own_inserted : (outputs : List Output) (key row : Values) (es : Entries) → key ≡ key_cells outputs row → AllByRecursion (λ entry. entry.0 ≡ key_cells outputs entry.1) es
    → AllByRecursion (λ entry. entry.0 ≡ key_cells outputs entry.1) (insert_entry values_cmp es key row)
own_inserted outputs key row [] own all = (own, tt)
own_inserted outputs key row (e ∷ es) own all = by (values_cmp key e.0) refl (own_inserted outputs key row es own all.1)
  where
    by : (r : Ordering) → values_cmp key e.0 ≡ r → AllByRecursion (λ entry. entry.0 ≡ key_cells outputs entry.1) (insert_entry values_cmp es key row) → AllByRecursion (λ entry. entry.0 ≡ key_cells outputs entry.1) (match_ordering r ((key, row) ∷ e ∷ es) ((e.0, row) ∷ es) (e ∷ insert_entry values_cmp es key row))
    by Less is rest = (own, all)
    by Equal is rest = (sym (values_cmp_exact key e.0 is) ∙ own, all.1)
    by Greater is rest = (all.0, rest)

-- ---- sums over the rows of other keys

abbrev others : List Output → Values → (Values → ℕ) → Values → ℕ
others outputs key f row = cond (is_same key (key_cells outputs row)) 0 (f row)

abbrev weight : (Values → ℕ) → Option Values → ℕ
weight f found = unwrap_or (option_map f found) 0

-- a sum over entries is one over those of other keys, and the one of the key
sum_apart : (outputs : List Output) (key : Values) (f : Values → ℕ) (es : Entries) → IsStrictlySortedBy values_cmp (keys_of es) → AllByRecursion (λ entry. entry.0 ≡ key_cells outputs entry.1) es
    → sum_by f (values_of es) ≡ sum_by (others outputs key f) (values_of es) + weight f (lookup (is_at (values_cmp key)) es)
sum_apart outputs key f [] s own = refl
sum_apart outputs key f (e ∷ es) s own =
    by (is_same key e.0) refl (ap (is_same key) (sym own.0)) (sum_apart outputs key f es (sorted_tail values_cmp e.0 (keys_of es) s) own.1)
  where
    by : (b : Bool) → is_same key e.0 ≡ b → is_same key (key_cells outputs e.1) ≡ is_same key e.0
        → sum_by f (values_of es) ≡ sum_by (others outputs key f) (values_of es) + weight f (lookup (is_at (values_cmp key)) es)
        → sum_by f (e.1 ∷ values_of es) ≡ sum_by (others outputs key f) (e.1 ∷ values_of es) + weight f (cond (is_same key e.0) (Some e.1) (lookup (is_at (values_cmp key)) es))
    by true is own rest =
        let none : lookup (is_at (values_cmp key)) es ≡ None = (lookup-none (is_at (values_cmp key)) es (none_past_head (eq_by_cmp_equiv values_cmp_total) key e es (IsDistinct-from_sorted values_cmp (keys_of (e ∷ es)) s) is)) in
        let own_none : others outputs key f e.1 ≡ 0 = ap (λ b. cond b 0 (f e.1)) (own ∙ is) in
        let found : weight f (cond (is_same key e.0) (Some e.1) (lookup (is_at (values_cmp key)) es)) ≡ f e.1 = ap (λ b. weight f (cond b (Some e.1) (lookup (is_at (values_cmp key)) es))) is in
        let later : weight f (lookup (is_at (values_cmp key)) es) ≡ 0 = ap (weight f) none in
        omega (arith, sum_by-cons f e.1 (values_of es), sum_by-cons (others outputs key f) e.1 (values_of es), own_none, found, later, rest)
    by false is own rest =
        let own_all : others outputs key f e.1 ≡ f e.1 = ap (λ b. cond b 0 (f e.1)) (own ∙ is) in
        let found : weight f (cond (is_same key e.0) (Some e.1) (lookup (is_at (values_cmp key)) es)) ≡ weight f (lookup (is_at (values_cmp key)) es) = ap (λ b. weight f (cond b (Some e.1) (lookup (is_at (values_cmp key)) es))) is in
        omega (arith, sum_by-cons f e.1 (values_of es), sum_by-cons (others outputs key f) e.1 (values_of es), own_all, found, rest)

sum_filtered : (f : Values → ℕ) (p : Values → Bool) (rows : List Values) → sum_by f (filter p rows) ≡ sum_by (λ row. cond (p row) (f row) 0) rows
sum_filtered f p [] = refl
sum_filtered f p (row ∷ rows) = by (p row) refl (sum_filtered f p rows)
  where
    by : (b : Bool) → p row ≡ b → sum_by f (filter p rows) ≡ sum_by (λ one. cond (p one) (f one) 0) rows → sum_by f (cond (p row) (row ∷ filter p rows) (filter p rows)) ≡ sum_by (λ one. cond (p one) (f one) 0) (row ∷ rows)
    by true is rest =
        let here : sum_by f (cond (p row) (row ∷ filter p rows) (filter p rows)) ≡ sum_by f (row ∷ filter p rows) = ap (λ b. sum_by f (cond b (row ∷ filter p rows) (filter p rows))) is in
        let own : cond (p row) (f row) 0 ≡ f row = ap (λ b. cond b (f row) 0) is in
        omega (arith, here, own, sum_by-cons f row (filter p rows), sum_by-cons (λ one. cond (p one) (f one) 0) row rows, rest)
    by false is rest =
        let here : sum_by f (cond (p row) (row ∷ filter p rows) (filter p rows)) ≡ sum_by f (filter p rows) = ap (λ b. sum_by f (cond b (row ∷ filter p rows) (filter p rows))) is in
        let own : cond (p row) (f row) 0 ≡ 0 = ap (λ b. cond b (f row) 0) is in
        omega (arith, here, own, sum_by-cons (λ one. cond (p one) (f one) 0) row rows, rest)

turned : (a b : Bool) (n : ℕ) → a ≡ b → cond (not (a || false)) n 0 ≡ cond b 0 n
turned true true n is = refl
turned false false n is = refl
turned true false n is = ap (λ c. cond c 0 n) is
turned false true n is = ap (λ c. cond c 0 n) is

-- the sum over the last rows, with one row more
sum_later : (outputs : List Output) (rows : List Values) (row : Values) (f : Values → ℕ)
    → sum_by f (last_rows outputs (rows ++ row ∷ [])) ≡ sum_by (others outputs (key_cells outputs row) f) (last_rows outputs rows) + f row
sum_later outputs rows row f =
    let p : Values → Bool = λ one. not (list_any (is_same_group outputs one) (row ∷ [])) in
    let q : Values → ℕ = λ one. cond (p one) (f one) 0 in
    let both : sum_by f (last_rows outputs (rows ++ row ∷ [])) ≡ sum_by f (filter p (last_rows outputs rows)) + sum_by f (row ∷ []) =
    ap (sum_by f) (last_rows-append outputs rows (row ∷ [])) ∙ sum_by-append f (filter p (last_rows outputs rows)) (row ∷ []) in
    let each : q ≡ others outputs (key_cells outputs row) f = λ i one. turned (is_same_group outputs one row) (is_same (key_cells outputs row) (key_cells outputs one)) (f one) (same_back (key_cells outputs one) (key_cells outputs row)) i in
    let kept : sum_by f (filter p (last_rows outputs rows)) ≡ sum_by (others outputs (key_cells outputs row) f) (last_rows outputs rows) =
    sum_filtered f p (last_rows outputs rows) ∙ ap (λ g. sum_by g (last_rows outputs rows)) each in
    omega (arith, both, kept, sum_by-cons f row [])

-- ---- the law of each step

pub none_kept : (outputs : List Output) (entries : Entries) → entries ≡ [] → IsLatest outputs [] entries
none_kept outputs entries none = subst (IsLatest outputs []) (sym none) (record { same = λ f. refl; own = tt; timed = All-nil (All (IfTime IsStampTime)) })

pub one_kept : (outputs : List Output) (rows : List Values) (key row : Values) (es new : Entries) → key ≡ key_cells outputs row → All (IfTime IsStampTime) row → new ≡ insert_entry values_cmp es key row → IsStrictlySortedBy values_cmp (keys_of es) → IsLatest outputs rows es
    → IsLatest outputs (rows ++ row ∷ []) new
one_kept outputs rows key row es new own timed is sorted so = subst (IsLatest outputs (rows ++ row ∷ [])) (sym is) (record {
  same = λ f.
      let g : Values → ℕ = others outputs key f in
      let apart = sum_apart outputs key f es sorted so.own in
      let more = sum_by-insert_entry f values_cmp_total es key row sorted in
      let later : sum_by f (last_rows outputs (rows ++ row ∷ [])) ≡ sum_by (others outputs key f) (last_rows outputs rows) + f row =
      sum_later outputs rows row f ∙ ap (λ k. sum_by (others outputs k f) (last_rows outputs rows) + f row) (sym own) in
      omega (arith, apart, more, later, so.same g);
  own = own_inserted outputs key row es own so.own;
  timed = All-values-insert_entry values_cmp key row (All (IfTime IsStampTime)) es so.timed timed;
})

pub latest_text : (query : Bound) (rows : List Values) (entries : Entries) (kept : List Values) → kept ≡ values_of entries → IsLatest query.outputs rows entries → sink_text query kept ≡ sink_text query (last_rows query.outputs rows)
latest_text query rows entries kept is so =
    ap (sink_text query) is ∙ sink_text-SameBag query (values_of entries) (last_rows query.outputs rows) (λ test. so.same (λ row. cond (test row) 1 0))
