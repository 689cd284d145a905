-- The rows that sink files hold make the table of the query's meaning.
use Rattle.std.proofs.Common.{◌≡◌, ◌∙◌, refl, sym, ap, ap₂, subst, ◌+◌, ◌++◌, ◌∷◌, [], ◌<◌, ℕ, zero, suc, List, length, Some, arith}
use Rattle.std.specs.Prelude.{map, slice_get}
use Rattle.std.specs.List.{range_with_len}
use Rattle.std.specs.List.Sorted.{IsPermutation}
use Rattle.std.proofs.lemmas.List.Sorted.{IsPermutation-append, IsPermutation-refl, IsPermutation-trans}
use Rattle.ssq_shape.specs.declared.bound.Bound.{Bound}
use Rattle.ssq_shape.specs.declared.bound.Mode.{Mode}
use Rattle.ssq_shape.specs.declared.bound.Mode.TheVariants as mode
use Rattle.ssq_shape.specs.declared.bound.Shape.{Shape}
use Rattle.ssq_shape.specs.declared.bound.Shape.TheVariants as shape
use Rattle.ssq_meaning.specs.Cut.{Cuts}
use Rattle.ssq_meaning.specs.Epochs.{out}
use Rattle.ssq_meaning.specs.Meaning.{Values}
use Rattle.ssq_meaning.specs.Parts.{Part}
use Rattle.ssq_meaning.specs.Table.{next_table, replaced, table}
use Rattle.ssq_sink.specs.Sink.{is_row_below}
use Rattle.ssq_sink.specs.Sorted.{sorted}
use Rattle.ssq_sink.specs.Table.{HasOnce, joined, last_of, last_rows, reading, reading_of}
use Rattle.ssq_sink.proofs.LastRows.{once-last_rows, replaced-last_rows}
use Rattle.ssq_sink.proofs.Passes.{joined-push}
use Rattle.ssq_course.specs.Setting.{cuts_of, parts_in}
use Rattle.ssq_tables.specs.Agreeing.{ShowsItsKeys, TablesAgree, rows_by_epoch, rows_read}
use Rattle.ssq_tables.specs.Checkpoint.{CheckpointsHoldTables, rows_in_order}
use Rattle.ssq_tables.proofs.Apart.{one_sink}
use Rattle.ssq_tables.proofs.Once.{epoch_once}
use Rattle.ssq_tables.proofs.Reading.{table_rows}
use Rattle.ssq_tables.proofs.Replacing.{once_permutes, replaced_permutes, sorted_permutes}

-- ---- one list more

last_push : (epochs : List (List Values)) (own : List Values) → last_of (epochs ++ own ∷ []) ≡ own
last_push [] own = refl
last_push (first ∷ []) own = refl
last_push (first ∷ next ∷ epochs) own = last_push (next ∷ epochs) own

-- ---- lists by their items

module _ {X : Type 0} (f : ℕ → X) where
  abbrev firsts : ℕ → List X
  firsts zero = []
  firsts (suc n) = firsts n ++ f n ∷ []

  -- n items from the k-th on
  abbrev from : ℕ → ℕ → List X
  from k n = map f (range_with_len k n)

  from_push : (k n : ℕ) → from k (suc n) ≡ from k n ++ f (k + n) ∷ []
  from_push k zero = let same : k ≡ k + 0 = omega arith in ap (λ e. f e ∷ []) same
  from_push k (suc n) = let same : k + 1 + n ≡ k + suc n = omega arith in ap (λ rest. f k ∷ rest) (from_push (k + 1) n ∙ ap (λ e. from (k + 1) n ++ f e ∷ []) same)

  firsts_are : (n : ℕ) → from 0 n ≡ firsts n
  firsts_are zero = refl
  firsts_are (suc n) = let same : 0 + n ≡ n = omega arith in from_push 0 n ∙ ap₂ (λ l e. l ++ f e ∷ []) (firsts_are n) same

  by_items : (k : ℕ) (xs : List X) → ((e : ℕ) (x : X) → slice_get xs e ≡ Some x → x ≡ f (k + e)) → xs ≡ from k (length xs)
  by_items k [] are = refl
  by_items k (x ∷ xs) are =
      let here : k + 0 ≡ k = omega arith in
      let first : x ≡ f k = are 0 x refl ∙ ap f here in
      let rest : xs ≡ from (k + 1) (length xs) = by_items (k + 1) xs (λ e y is. let same : k + suc e ≡ k + 1 + e = omega arith in are (suc e) y is ∙ ap f same) in
      λ i. first i ∷ rest i

within : {X : Type 0} (xs : List X) (e : ℕ) (x : X) → slice_get xs e ≡ Some x → e < length xs
within [] zero x is = absurd cc
within [] (suc e) x is = absurd cc
within (y ∷ xs) zero x is = omega arith
within (y ∷ xs) (suc e) x is = let less = within xs e x is in omega (arith, less)

-- ---- the table, epoch by epoch

module _ (query : Bound) (parts : List Part) (cuts : Cuts) where
  -- the rows of the first epochs, each in the order of its sink file
  abbrev rows_of : ℕ → List Values
  rows_of e = sorted (is_row_below query.order) (out query parts cuts e)

  abbrev epochs_to : ℕ → List (List Values)
  epochs_to = firsts rows_of

  adds_up : ((old new : List Values) → next_table query.shape query.mode query.outputs old new ≡ old ++ new) → (n : ℕ) → IsPermutation (joined (epochs_to n)) (table query parts cuts n)
  unfolding table
  adds_up next zero = IsPermutation-refl []
  adds_up next (suc n) =
      let old = table query parts cuts n in
      let new = out query parts cuts n in
      subst (λ rows. IsPermutation rows (next_table query.shape query.mode query.outputs old new)) (sym (joined-push (epochs_to n) (rows_of n)))
      (subst (IsPermutation (joined (epochs_to n) ++ rows_of n)) (sym (next old new))
      (IsPermutation-append (joined (epochs_to n)) old (rows_of n) new (adds_up next n) (sorted_permutes (is_row_below query.order) new)))

  is_last : ((old new : List Values) → next_table query.shape query.mode query.outputs old new ≡ new) → (n : ℕ) → IsPermutation (last_of (epochs_to n)) (table query parts cuts n)
  unfolding table
  is_last next zero = IsPermutation-refl []
  is_last next (suc n) =
      let old = table query parts cuts n in
      let new = out query parts cuts n in
      subst (λ rows. IsPermutation rows (next_table query.shape query.mode query.outputs old new)) (sym (last_push (epochs_to n) (rows_of n)))
      (subst (IsPermutation (rows_of n)) (sym (next old new)) (sorted_permutes (is_row_below query.order) new))

  replaces : ((e : ℕ) → HasOnce query.outputs (out query parts cuts e)) → ((old new : List Values) → next_table query.shape query.mode query.outputs old new ≡ replaced query.outputs old new)
      → (n : ℕ) → IsPermutation (last_rows query.outputs (joined (epochs_to n))) (table query parts cuts n)
  unfolding table
  replaces once next zero = IsPermutation-refl []
  replaces once next (suc n) =
      let old = table query parts cuts n in
      let new = out query parts cuts n in
      let sorts = sorted_permutes (is_row_below query.order) new in
      let all = once-last_rows query.outputs (rows_of n) (once_permutes query.outputs (rows_of n) new sorts (once n)) in
      let read : last_rows query.outputs (joined (epochs_to n ++ rows_of n ∷ [])) ≡ replaced query.outputs (last_rows query.outputs (joined (epochs_to n))) (rows_of n) =
      ap (last_rows query.outputs) (joined-push (epochs_to n) (rows_of n)) ∙ replaced-last_rows query.outputs (joined (epochs_to n)) (rows_of n) all in
      subst (λ rows. IsPermutation rows (next_table query.shape query.mode query.outputs old new)) (sym read)
      (subst (IsPermutation (replaced query.outputs (last_rows query.outputs (joined (epochs_to n))) (rows_of n))) (sym (next old new))
      (replaced_permutes query.outputs (last_rows query.outputs (joined (epochs_to n))) old (rows_of n) new (replaces once next n) sorts))

  reads : ShowsItsKeys query → (n : ℕ) → IsPermutation (rows_read (reading query) query (epochs_to n)) (table query parts cuts n)
  reads shows n = by query.shape query.mode refl refl
    where
      by : (own : Shape) (how : Mode) → query.shape ≡ own → query.mode ≡ how → IsPermutation (rows_read (reading_of own how) query (epochs_to n)) (table query parts cuts n)
      by (shape.Group grouping) mode.Append is how = adds_up (λ old new. λ i. next_table (is i) (how i) query.outputs old new) n
      by (shape.Group grouping) mode.Update is how =
          IsPermutation-trans _ _ _ (sorted_permutes (is_row_below query.order) (last_rows query.outputs (joined (epochs_to n))))
          (replaces (epoch_once query grouping is parts cuts (shows grouping is how)) (λ old new. λ i. next_table (is i) (how i) query.outputs old new) n)
      by (shape.Group grouping) mode.Complete is how = is_last (λ old new. λ i. next_table (is i) (how i) query.outputs old new) n
      by shape.Plain own is how = adds_up (λ old new. λ i. next_table (is i) query.mode query.outputs old new) n
      by (shape.Dedup columns) own is how = adds_up (λ old new. λ i. next_table (is i) query.mode query.outputs old new) n
      by (shape.Join joining) own is how = adds_up (λ old new. λ i. next_table (is i) query.mode query.outputs old new) n

pub tables_agree : CheckpointsHoldTables → TablesAgree
tables_agree hold s cuts planned committed files epochs can shows same at sinks =
    let query = s.job.bound in
    let held = hold s cuts planned committed files (length epochs) can same at sinks.counted in
    let own : epochs ≡ rows_by_epoch s cuts (length epochs) = by_items (rows_in_order s cuts) 0 epochs (λ e rows is.
    let here : e ≡ 0 + e = omega arith in
    one_sink query files e rows (rows_in_order s cuts e) (sinks.each e rows is) (held.each e (within epochs e rows is)) ∙ ap (rows_in_order s cuts) here) in
    record {
      own = own;
      same = subst (λ rows. IsPermutation (rows_read (reading query) query rows) (table query (parts_in s) (cuts_of cuts) (length epochs)))
          (sym (own ∙ firsts_are (rows_in_order s cuts) (length epochs))) (reads query (parts_in s) (cuts_of cuts) shows (length epochs));
      are = table_rows query files epochs sinks;
    }
