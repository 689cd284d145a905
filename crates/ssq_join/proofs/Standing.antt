-- One row of an epoch more.
use Rattle.std.proofs.Common.{◌≡◌, ◌<◌, ◌+◌, ◌++◌, ℕ, [], ◌∷◌, List, Option, Some, None, Bool, false, All, refl, ap, sym, ◌∙◌, subst, take, drop, length, get_or, map}
use Rattle.std.specs.Prelude.{cond, if◌then◌else◌, option_map}
use Rattle.std.specs.BTreeMap.{insert_entry, is_at}
use Rattle.std.specs.List.{AllByRecursion}
use Rattle.std.proofs.lemmas.List.{take-append-drop}
use Rattle.std.proofs.lemmas.List.Elements.{All-get_or}
use Rattle.std.proofs.lemmas.List.Sorted.{IsPermutation-refl}
use Rattle.ssq_version.specs.State.{State, by_bytes, value_at}
use Rattle.ssq_version.proofs.Values.{by_case, is_itself, one_key, other_way}
use Rattle.ssq_shape.specs.declared.bound.Bound.{Bound}
use Rattle.ssq_shape.specs.declared.bound.Joining.{Joining}
use Rattle.ssq_meaning.specs.FedRows.{FedRow}
use Rattle.ssq_meaning.specs.Feeding.{or_else}
use Rattle.ssq_meaning.specs.Join.{row_key, row_value}
use Rattle.ssq_meaning.specs.JoinLaws.{AreApart}
use Rattle.ssq_step.specs.declared.shown.Shown.{Shown}
use Rattle.ssq_step.proofs.Lists.{one_more}
use Rattle.ssq_join.specs.declared.taking.Taken.{Taken}
use Rattle.ssq_join.specs.Changing.{find_row}
use Rattle.ssq_join.specs.Meeting.{AreKept, entry_with}
use Rattle.ssq_join.specs.Steps.{IsKept}
use Rattle.ssq_join.specs.Telling.{among}
use Rattle.ssq_join.specs.Turning.{AreFresh, AreSameRows, AreTaken, MeetsEarlier, unmet}
use Rattle.ssq_join.proofs.Finding.{found_append, value_found}
use Rattle.ssq_join.proofs.Placed.{all_between, back_apart, front_apart}
use Rattle.ssq_join.proofs.Saying.{or_none}
use Rattle.ssq_join.proofs.Telling.{none_told}
use Rattle.ssq_join.proofs.Turning.{put_row, same_more, turns_more}

-- ---- no row

pub none_taken : (query : Bound) (joining : Joining) (held : List FedRow) (taken : Taken) → taken.found.rows.items ≡ [] → taken.found.fault ≡ None → taken.met.keys ≡ [] → AreTaken query joining held [] taken.found taken.met.keys
none_taken query joining held taken rows fault met = ([], IsPermutation-refl [], record { told = none_told taken.found rows fault; known = λ bytes. ap (λ (keys : List (List ℕ)). among keys bytes) met })

pub none_fresh : (query : Bound) (joining : Joining) (fresh : State) → fresh ≡ [] → AreFresh query joining [] fresh
none_fresh query joining fresh is = record {
  listed = ([], λ test. IsPermutation-refl [], record { listed = is; each = tt });
  found = λ key. ap (λ (s : State). value_at s key) is;
}

-- ---- its bytes are new

each_at : (P : FedRow → Type 0) (xs : List FedRow) (row : FedRow) (ys : List FedRow) → AllByRecursion P (xs ++ row ∷ ys) → P row
each_at P [] row ys each = each.0
each_at P (x ∷ xs) row ys each = each_at P xs row ys each.1

pub new_bytes : (xs : List FedRow) (row : FedRow) → AreApart (xs ++ row ∷ []) → find_row (row_key row) xs ≡ None
new_bytes [] row apart = refl
new_bytes (x ∷ xs) row apart =
    ap (λ b. if b then Some x else find_row (row_key row) xs) (other_way (row_key x) (row_key row) (each_at (λ (other : FedRow). is_at (by_bytes (row_key x)) (row_key other) ≡ false) xs row [] apart.0))
    ∙ new_bytes xs row apart.1

-- ---- it stands before those after it

nothing_mapped : (o : Option FedRow) → option_map (row_value false) o ≡ None → o ≡ None
nothing_mapped None is = refl
nothing_mapped (Some row) is = absurd cc

module _ (query : Bound) (joining : Joining) (row : FedRow) (own : IsKept query joining row) (rows : List FedRow) (new : find_row (row_key row) rows ≡ None) (fresh after : State) (key value : List ℕ)
    (key_is : key ≡ row_key row) (value_is : value ≡ row_value false row) (was : AreFresh query joining rows fresh) where
  not_listed : find_row (row_key row) was.listed.0 ≡ None
  not_listed =
      nothing_mapped (find_row (row_key row) was.listed.0)
      (sym (value_found unmet was.listed.0 (row_key row)) ∙ sym (ap (λ (s : State). value_at s (row_key row)) was.listed.2.listed) ∙ was.found (row_key row) ∙ ap (option_map (row_value false)) new)

  listed_more : after ≡ insert_entry by_bytes fresh key value
      → (ordered : List FedRow) × AreSameRows ordered (rows ++ row ∷ []) × AreKept query joining unmet ordered after
  listed_more put =
      let placed = put_row unmet row was.listed.0 not_listed in
      let entries : after ≡ insert_entry by_bytes (map (entry_with unmet) was.listed.0) (row_key row) (row_value false row) = put ∙ (λ i. insert_entry by_bytes (was.listed.2.listed i) (key_is i) (value_is i)) in (
        placed.0 ++ row ∷ placed.1,
        same_more row placed.0 placed.1 rows (subst (λ (l : List FedRow). AreSameRows l rows) placed.3 was.listed.1),
        record {
          listed = entries ∙ placed.2;
          each = all_between (IsKept query joining) placed.0 placed.1 row own (subst (AllByRecursion (IsKept query joining)) placed.3 was.listed.2.each);
        },
      )

  found_more : ((bytes : List ℕ) → value_at after bytes ≡ cond (is_at (by_bytes key) bytes) (Some value) (value_at fresh bytes)) → (bytes : List ℕ)
      → value_at after bytes ≡ option_map (row_value false) (find_row bytes (rows ++ row ∷ []))
  found_more updates bytes =
      updates bytes
      ∙ (λ i. cond (is_at (by_bytes (key_is i)) bytes) (Some (value_is i)) (was.found bytes i))
      ∙ by_case (is_at (by_bytes (row_key row)) bytes)
      (λ here.
      let same : row_key row ≡ bytes = one_key (row_key row) bytes here in
      ap (λ b. cond b (Some (row_value false row)) (option_map (row_value false) (find_row bytes rows))) here
      ∙ sym (ap (λ o. option_map (row_value false) (or_else o (if is_at (by_bytes bytes) (row_key row) then Some row else None))) (ap (λ k. find_row k rows) (sym same) ∙ new)
      ∙ ap (λ b. option_map (row_value false) (if b then Some row else None)) (ap (λ k. is_at (by_bytes k) (row_key row)) (sym same) ∙ is_itself (row_key row))))
      (λ there.
      ap (λ b. cond b (Some (row_value false row)) (option_map (row_value false) (find_row bytes rows))) there
      ∙ sym (ap (λ b. option_map (row_value false) (or_else (find_row bytes rows) (if b then Some row else None))) (other_way (row_key row) bytes there) ∙ ap (option_map (row_value false)) (or_none (find_row bytes rows))))
      ∙ sym (ap (option_map (row_value false)) (found_append bytes rows (row ∷ [])))

  pub fresh_more : after ≡ insert_entry by_bytes fresh key value → ((bytes : List ℕ) → value_at after bytes ≡ cond (is_at (by_bytes key) bytes) (Some value) (value_at fresh bytes)) → AreFresh query joining (rows ++ row ∷ []) after
  fresh_more put updates = record { listed = listed_more put; found = found_more updates }

-- its candidates are told after those of the rows before it
pub taken_more : (query : Bound) (joining : Joining) (row : FedRow) → IsKept query joining row → (was_met : FedRow → Bool) (held rows : List FedRow) (state fresh : State) → AreKept query joining was_met held state
    → AreFresh query joining rows fresh → (found now : Shown) (old new : List (List ℕ)) → AreTaken query joining held rows found old → MeetsEarlier query joining row state fresh found now old new
    → AreTaken query joining held (rows ++ row ∷ []) now new
taken_more query joining row own was_met held rows state fresh kept was found now old new taken earlier =
    let next = earlier was_met held was.listed.0 taken.0 own kept was.listed.2 taken.2 in
    (next.0, turns_more joining row held rows was.listed.0 taken.0 next.0 was.listed.1 taken.1 next.1, next.2)

-- ---- row by row

abbrev pub AreTurned : Bound → Joining → (held rows : List FedRow) → Taken → Type 0
AreTurned query joining held rows taken = AreTaken query joining held rows taken.found taken.met.keys × AreFresh query joining rows taken.fresh.entries

-- whatever rows the state keeps, the first of the epoch's are taken
abbrev pub TakesTo : Bound → Joining → State → (rows : List FedRow) → (at : ℕ) → Taken → Type 0
TakesTo query joining state rows at taken =
    (held : List FedRow) (was_met : FedRow → Bool) → AreKept query joining was_met held state → All (IsKept query joining) rows → AreApart (held ++ rows) → AreTurned query joining held (take at rows) taken

pub takes_more : (query : Bound) (joining : Joining) (state : State) (rows : List FedRow) (at : ℕ) (row : FedRow) → at < length rows → row ≡ get_or rows at row → (before after : Taken)
    → ((held done : List FedRow) (was_met : FedRow → Bool) → AreKept query joining was_met held state → IsKept query joining row → find_row (row_key row) done ≡ None → AreTaken query joining held done before.found before.met.keys
    → AreFresh query joining done before.fresh.entries → AreTurned query joining held (done ++ row ∷ []) after)
    → TakesTo query joining state rows at before → TakesTo query joining state rows (at + 1) after
takes_more query joining state rows at row inside is before after next was = λ held was_met kept each apart.
    let took : take (at + 1) rows ≡ take at rows ++ row ∷ [] = one_more rows at row inside is in
    let own : IsKept query joining row = subst (IsKept query joining) (sym is) (All-get_or (IsKept query joining) rows at row inside each) in
    let front : AreApart (take (at + 1) rows) = front_apart (take (at + 1) rows) (drop (at + 1) rows) (subst AreApart (sym (take-append-drop (at + 1) rows)) (back_apart held rows apart)) in
    let so_far = was held was_met kept each apart in
    subst (λ (done : List FedRow). AreTurned query joining held done after) (sym took)
    (next held (take at rows) was_met kept own (new_bytes (take at rows) row (subst AreApart took front)) so_far.0 so_far.1)
