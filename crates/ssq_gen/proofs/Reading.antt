-- Rows are read line by line, and counted.
use Rattle.std.proofs.Common.{◌≡◌, ◌≤◌, ◌<◌, ◌^◌, ◌*◌, ◌≤ℤ◌, neg_ℤ, ℕ, ◌+◌, ◌+ℤ◌, ℤ, pos, Bool, true, false, ◌==◌, List, [], ◌∷◌, ◌++◌, length, get_or, to_z, of_z, refl, sym, ap, ap₂, subst, ◌∙◌, append_assoc, append-nil, arith}
use Rattle.std.specs.Int.{w64, w128}
use Rattle.std.specs.List.{All}
use Rattle.std.specs.Prelude.{FitsSigned}
use Rattle.std.proofs.lemmas.Int.{ints, to_z-of_z}
use Rattle.std.proofs.lemmas.List.{length-append}
use Rattle.std.proofs.lemmas.List.Elements.{All-head, All-nil, All-push, All-tail}
use Rattle.std.proofs.lemmas.List.Sums.{fold-append}
use Rattle.ssq_value.specs.declared.column.ColType.{ColType}
use Rattle.ssq_value.specs.declared.value.Value.{Value}
use Rattle.ssq_value.specs.declared.value.Value.TheVariants.{Null}
use Rattle.ssq_json.specs.RowText.{heads_of, row_text}
use Rattle.ssq_json.specs.Stored.{AreRows, AreStoredIn, line_of, lines_of}
use Rattle.ssq_sink.proofs.Rereading.{lines-append, is_none, is_some_left}
use Rattle.ssq_gen.specs.declared.counts.Counts.{Counts}
use Rattle.ssq_gen.specs.Counts.{AreCountsOf, AreWithin, IsRows, IsWithin, number_in, sum_of}

-- of these rows some are counted, and what is left is the lines of the others
pub record AreLeft (names : List (List ℕ)) (kinds : List ColType) (rows : List (List Value)) (left : List ℕ) (counts : Counts) : Type 0 where
  pub done : List (List Value)
  pub more : List (List Value)
  pub is : rows ≡ done ++ more
  pub stored : All (AreStoredIn kinds) more
  pub text : left ≡ lines_of names more
  pub counted : AreCountsOf done counts

-- so for any names that have these heads, and any rows that the bytes are
abbrev pub AreLeftOf : (heads : List (List ℕ)) (kinds : List ColType) (bytes left : List ℕ) (counts : Counts) → Type 0
AreLeftOf heads kinds bytes left counts = (names : List (List ℕ)) → heads ≡ heads_of names → (rows : List (List Value)) → AreRows names kinds bytes rows → AreLeft names kinds rows left counts

pub none_counted : (names : List (List ℕ)) (kinds : List ColType) (bytes : List ℕ) (counts : Counts) (rows : List (List Value)) → AreCountsOf [] counts → AreRows names kinds bytes rows → AreLeft names kinds rows bytes counts
none_counted names kinds bytes counts rows none are = record { done = []; more = rows; is = refl; stored = are.stored; text = are.text; counted = none }

-- what was read of the bytes is rows
pub record IsReadOf (names : List (List ℕ)) (kinds : List ColType) (bytes left : List ℕ) : Type 0 where
  pub rows : List (List Value)
  pub stored : All (AreStoredIn kinds) rows
  pub text : bytes ≡ lines_of names rows ++ left

abbrev pub AreReadOf : (heads : List (List ℕ)) (kinds : List ColType) (bytes left : List ℕ) → Type 0
AreReadOf heads kinds bytes left = (names : List (List ℕ)) → heads ≡ heads_of names → IsReadOf names kinds bytes left

pub none_read : (names : List (List ℕ)) (kinds : List ColType) (bytes : List ℕ) → IsReadOf names kinds bytes bytes
none_read names kinds bytes = record { rows = []; stored = All-nil (AreStoredIn kinds); text = refl }

-- and one more
pub one_read : (names : List (List ℕ)) (kinds : List ColType) (bytes left after : List ℕ) (row : List Value) → left ≡ line_of names row ++ after → AreStoredIn kinds row → IsReadOf names kinds bytes left → IsReadOf names kinds bytes after
one_read names kinds bytes left after row is stored so = record {
  rows = so.rows ++ row ∷ [];
  stored = All-push (AreStoredIn kinds) so.rows row so.stored stored;
  text = so.text ∙ ap (λ l. lines_of names so.rows ++ l) is ∙ sym (append_assoc (lines_of names so.rows) (line_of names row) after)
      ∙ ap (λ l. l ++ after) (ap (λ l. lines_of names so.rows ++ l) (sym (append-nil (line_of names row))) ∙ sym (lines-append names so.rows (row ∷ [])));
}

-- what a reader of one line finds
abbrev pub FindsLine : List (List ℕ) → List ColType → (left after : List ℕ) → List Value → Type 0
FindsLine names kinds left after row = (one : List Value) (rest : List ℕ) → AreStoredIn kinds one → left ≡ line_of names one ++ rest → (row ≡ one) × (after ≡ rest)

-- one row more is counted
pub one_counted : (names : List (List ℕ)) (kinds : List ColType) (rows : List (List Value)) (left after : List ℕ) (row : List Value) (old new : Counts) → (length left == 0) ≡ false → FindsLine names kinds left after row
    → ((own : List (List Value)) → AreCountsOf own old → AreCountsOf (own ++ row ∷ []) new) → AreLeft names kinds rows left old → AreLeft names kinds rows after new
one_counted names kinds rows left after row old new some finds counts so = go so.more so.is so.stored so.text
  where
    go : (more : List (List Value)) → rows ≡ so.done ++ more → All (AreStoredIn kinds) more → left ≡ lines_of names more → AreLeft names kinds rows after new
    go [] is stored text = absurd (is_some_left left some text)
    go (one ∷ more) is stored text =
        let found = finds one (lines_of names more) (All-head (AreStoredIn kinds) one more stored) text in record {
          done = so.done ++ row ∷ [];
          more = more;
          is = is ∙ ap (λ r. so.done ++ r ∷ more) (sym found.0) ∙ sym (append_assoc so.done (row ∷ []) more);
          stored = All-tail (AreStoredIn kinds) one more stored;
          text = found.1;
          counted = counts so.done so.counted;
        }

line_long : (names : List (List ℕ)) (one : List Value) → 1 ≤ length (line_of names one)
line_long names one = let len = length-append (row_text names one) (10 ∷ []) in omega (arith, len)

-- nothing is left, so all are rows
pub all_read : (names : List (List ℕ)) (kinds : List ColType) (bytes left : List ℕ) → (length left == 0) ≡ true → IsReadOf names kinds bytes left → IsRows names kinds bytes
all_read names kinds bytes left none so = record {
  rows = so.rows;
  are = record { stored = so.stored; text = so.text ∙ ap (λ l. lines_of names so.rows ++ l) (is_none left none) ∙ append-nil (lines_of names so.rows) };
}

-- nothing is left, so all are counted
pub all_counted : (names : List (List ℕ)) (kinds : List ColType) (rows : List (List Value)) (left : List ℕ) (counts : Counts) → (length left == 0) ≡ true → AreLeft names kinds rows left counts → AreCountsOf rows counts
all_counted names kinds rows left counts none so = go so.more so.is so.text
  where
    line_some : (one : List Value) (more : List (List Value)) → left ≡ lines_of names (one ∷ more) → ⊥
    line_some one more text =
        let whole = length-append (line_of names one) (lines_of names more) in
        let len : 1 ≤ length (line_of names one) = line_long names one in
        omega (arith, ap length text, ap length (is_none left none), whole, len)

    go : (more : List (List Value)) → rows ≡ so.done ++ more → left ≡ lines_of names more → AreCountsOf rows counts
    go [] is text = let P : List (List Value) → Type 0 = λ r. AreCountsOf r counts in subst P (sym (is ∙ append-nil so.done)) so.counted
    go (one ∷ more) is text = absurd (line_some one more text)

-- a line that could be read does stand in front
pub none_found : (names : List (List ℕ)) (kinds : List ColType) (rows : List (List Value)) (left : List ℕ) (counts : Counts) → (length left == 0) ≡ false
    → ((one : List Value) (rest : List ℕ) → AreStoredIn kinds one → left ≡ line_of names one ++ rest → ⊥) → AreLeft names kinds rows left counts → ⊥
none_found names kinds rows left counts some none so = go so.more so.stored so.text
  where
    go : (more : List (List Value)) → All (AreStoredIn kinds) more → left ≡ lines_of names more → ⊥
    go [] stored text = is_some_left left some text
    go (one ∷ more) stored text = none one (lines_of names more) (All-head (AreStoredIn kinds) one more stored) text

sum_more : (at : ℕ) (own : List (List Value)) (row : List Value) (old new number : ℤ) → old ≡ sum_of at own → number ≡ number_in (get_or row at Null) → new ≡ old +ℤ number → new ≡ sum_of at (own ++ row ∷ [])
sum_more at own row old new number is of more =
    more ∙ ap (λ z. z +ℤ number) is ∙ ap (λ z. sum_of at own +ℤ z) of ∙ sym (fold-append (λ (sum : ℤ) (one : List Value). sum +ℤ number_in (get_or one at Null)) (pos 0) own (row ∷ []))

-- one number more is no further from 0 than one row more may be
pub one_within : (rows : ℕ) (sum new number : ℤ) → FitsSigned w64 number → IsWithin rows sum → new ≡ sum +ℤ number → IsWithin (rows + 1) new
one_within rows sum new number fits within is = (grind (arith, ints, fits.sfits, within.0, is), grind (arith, ints, fits.sfits, within.1, is))

-- and has room in 128 bits
pub within_fits : (rows : ℕ) (sum : ℤ) → rows < 2 ^ 64 → IsWithin rows sum → FitsSigned w128 sum
within_fits rows sum few within = record { sfits = grind (arith, ints, few, within.0, within.1) }

-- what a sum is that was read from memory, with the number that was
pub added_to : (rows : ℕ) (sum new number : ℤ) → rows < 2 ^ 64 → IsWithin rows sum → FitsSigned w64 number → FitsSigned w128 new → new ≡ to_z w128 (of_z w128 sum) +ℤ to_z w64 (of_z w64 number) → to_z w128 (of_z w128 new) ≡ sum +ℤ number
added_to rows sum new number few within one fits is = to_z-of_z w128 new fits ∙ (is ∙ ap₂ (λ s n. s +ℤ n) (to_z-of_z w128 sum (within_fits rows sum few within)) (to_z-of_z w64 number one))

pub still_fits : (new : ℤ) → FitsSigned w128 new → FitsSigned w128 (to_z w128 (of_z w128 new))
still_fits new fits = subst (FitsSigned w128) (sym (to_z-of_z w128 new fits)) fits

-- it is no further from 0
pub still_within : (rows : ℕ) (new : ℤ) → FitsSigned w128 new → IsWithin rows new → IsWithin rows (to_z w128 (of_z w128 new))
still_within rows new fits within = subst (IsWithin rows) (sym (to_z-of_z w128 new fits)) within

pub read_within : (rows : ℕ) (sum : ℤ) → rows < 2 ^ 64 → IsWithin rows sum → IsWithin rows (to_z w128 (of_z w128 sum))
read_within rows sum few within = still_within rows sum (within_fits rows sum few within) within

-- counts with one row more
pub counts_more : (own : List (List Value)) (row : List Value) (old new : Counts) (third fourth : ℤ) → new.rows ≡ old.rows + 1 → third ≡ number_in (get_or row 2 Null) → new.count ≡ old.count +ℤ third
    → fourth ≡ number_in (get_or row 3 Null) → new.sum ≡ old.sum +ℤ fourth → FitsSigned w128 new.count → FitsSigned w128 new.sum → AreCountsOf own old → AreCountsOf (own ++ row ∷ []) new
counts_more own row old new third fourth rows is count of sum count_fits sum_fits so = record {
  rows = let len = length-append own (row ∷ []) in let before = so.rows in omega arith;
  count = sum_more 2 own row old.count new.count third so.count is count;
  sum = sum_more 3 own row old.sum new.sum fourth so.sum of sum;
  count_fits = count_fits;
  sum_fits = sum_fits;
}
