-- The rows whose keys a watermark closes.
use Rattle.std.proofs.Common.{◌≡◌, ◌+◌, ◌++◌, ℕ, [], ◌∷◌, List, Some, Bool, true, false, refl, ap, sym, ◌∙◌, subst, arith, filter, length, map}
use Rattle.std.specs.Prelude.{if◌then◌else◌}
use Rattle.std.specs.BTreeMap.{is_at}
use Rattle.std.proofs.lemmas.List.{length-append, map-append}
use Rattle.std.proofs.lemmas.List.Elements.{filter-append}
use Rattle.ssq_version.specs.State.{by_bytes}
use Rattle.ssq_version.proofs.Values.{by_case, is_itself, one_key}
use Rattle.ssq_meaning.specs.FedRows.{FedRow}
use Rattle.ssq_meaning.specs.Join.{row_key}
use Rattle.ssq_meaning.specs.JoinLaws.{AreApart, IsReordered}
use Rattle.ssq_step.specs.Indexing.{stands}
use Rattle.ssq_join.specs.Changing.{find_row}
use Rattle.ssq_join.proofs.Finding.{none_found}
use Rattle.ssq_join.proofs.Saying.{over_at}

-- ---- keys that stand once

stands_append : (q : List ℕ) (xs ys : List (List ℕ)) → stands q (xs ++ ys) ≡ stands q xs + stands q ys
stands_append q xs ys = ap (λ (l : List (List ℕ)). length l) (filter-append (is_at (by_bytes q)) xs ys) ∙ length-append (filter (is_at (by_bytes q)) xs) (filter (is_at (by_bytes q)) ys)

stands_cons : (q key : List ℕ) (keys : List (List ℕ)) → stands q (key ∷ keys) ≡ (if is_at (by_bytes q) key then 1 else 0) + stands q keys
stands_cons q key keys = by (is_at (by_bytes q) key)
  where
    by : (b : Bool) → length (if b then key ∷ filter (is_at (by_bytes q)) keys else filter (is_at (by_bytes q)) keys) ≡ (if b then 1 else 0) + stands q keys
    by true = omega arith
    by false = omega arith

-- one that stands somewhere splits the list
split_at : (q : List ℕ) (keys : List (List ℕ)) → stands q keys ≡ 1 → (front : List (List ℕ)) × (back : List (List ℕ)) × (keys ≡ front ++ q ∷ back)
split_at q [] is = absurd (omega (arith, is))
split_at q (key ∷ keys) is = by (is_at (by_bytes q) key) refl (split_at q keys) (sym (stands_cons q key keys) ∙ is)
  where
    by : (b : Bool) → is_at (by_bytes q) key ≡ b → (stands q keys ≡ 1 → (front : List (List ℕ)) × (back : List (List ℕ)) × (keys ≡ front ++ q ∷ back)) → (if b then 1 else 0) + stands q keys ≡ 1
        → (front : List (List ℕ)) × (back : List (List ℕ)) × (key ∷ keys ≡ front ++ q ∷ back)
    by true at rest is = ([], keys, ap (λ k. k ∷ keys) (sym (one_key q key at)))
    by false at rest is =
        let one : stands q keys ≡ 1 = omega (arith, is) in
        let found = rest one in (key ∷ found.0, found.1, ap (λ l. key ∷ l) found.2)

stands_middle : (q key : List ℕ) (front back : List (List ℕ)) → stands q (front ++ key ∷ back) ≡ (if is_at (by_bytes q) key then 1 else 0) + stands q (front ++ back)
stands_middle q key front back =
    let one = stands_append q front (key ∷ back) in
    let two = stands_cons q key back in
    let three = stands_append q front back in
    sums (stands q (front ++ key ∷ back)) (stands q front) (stands q (key ∷ back)) (stands q back) (stands q (front ++ back)) (if is_at (by_bytes q) key then 1 else 0) one two three
  where
    sums : (whole front more back both one : ℕ) → whole ≡ front + more → more ≡ one + back → both ≡ front + back → whole ≡ one + both
    sums whole front more back both one a b c = omega (arith, a, b, c)

-- ---- the rows of the keys

-- rows whose keys are two lists one after the other
abbrev AreSplit : List FedRow → (front back : List (List ℕ)) → Type 0
AreSplit rows front back = (first : List FedRow) × (second : List FedRow) × (rows ≡ first ++ second) × (front ≡ map row_key first) × (back ≡ map row_key second)

split_on : (row : FedRow) (rows : List FedRow) (key : List ℕ) (front back : List (List ℕ)) → key ≡ row_key row → AreSplit rows front back → AreSplit (row ∷ rows) (key ∷ front) back
split_on row rows key front back same rest = (row ∷ rest.0, rest.1, ap (λ l. row ∷ l) rest.2, (λ i. same i ∷ rest.3 i), rest.4)

split_rows : (rows : List FedRow) (front back : List (List ℕ)) → front ++ back ≡ map row_key rows → AreSplit rows front back
split_rows rows [] back is = ([], rows, refl, refl, is)
split_rows [] (key ∷ front) back is = absurd cc
split_rows (row ∷ rows) (key ∷ front) back is =
    let head : key ≡ row_key row = cc in
    let rest : front ++ back ≡ map row_key rows = cc in
    split_on row rows key front back head (split_rows rows front back rest)

-- with one key more
join_row : (row : FedRow) (rows : List FedRow) (keys front back : List (List ℕ)) → keys ≡ front ++ row_key row ∷ back → (due : List FedRow) → front ++ back ≡ map row_key due → IsReordered rows due
    → (more : List FedRow) × (keys ≡ map row_key more) × IsReordered (row ∷ rows) more
unfolding IsReordered
join_row row rows keys front back is due same reordered =
    let parts = split_rows due front back same in (
      parts.0 ++ row ∷ parts.1,
      is ∙ (λ i. parts.3 i ++ row_key row ∷ parts.4 i) ∙ sym (map-append row_key parts.0 (row ∷ parts.1)),
      (parts.0, parts.1, refl, subst (λ (l : List FedRow). IsReordered rows l) parts.2 reordered),
    )

module _ (over : FedRow → Bool) where
  abbrev AreDue : List FedRow → List (List ℕ) → Type 0
  AreDue held keys = (q : List ℕ) → stands q keys ≡ (if over_at over (find_row q held) then 1 else 0)

  -- the keys of those that are over, each once, are those of the rows that pass the test, in any order
  pub due_rows : (held : List FedRow) → AreApart held → (keys : List (List ℕ)) → AreDue held keys → (due : List FedRow) × (keys ≡ map row_key due) × IsReordered (filter over held) due
  unfolding IsReordered
  due_rows [] apart [] is = ([], refl, refl)
  due_rows [] apart (key ∷ keys) is =
      let one : (if is_at (by_bytes key) key then 1 else 0) + stands key keys ≡ 0 = sym (stands_cons key key keys) ∙ is key in
      let two : 1 + stands key keys ≡ 0 = ap (λ b. (if b then 1 else 0) + stands key keys) (sym (is_itself key)) ∙ one in
      absurd (omega (arith, two))
  due_rows (row ∷ held) apart keys is = by (λ left left_is. due_rows held apart.1 left left_is) (over row) refl
    where
      -- what is said of the other rows
      rest_of : (left : List (List ℕ)) → ((q : List ℕ) → is_at (by_bytes q) (row_key row) ≡ true → stands q left ≡ 0)
          → ((q : List ℕ) → is_at (by_bytes q) (row_key row) ≡ false → stands q left ≡ stands q keys) → AreDue held left
      rest_of left here there q =
          by_case (is_at (by_bytes q) (row_key row))
          (λ at. here q at ∙ ap (λ o. if over_at over o then 1 else 0) (sym (none_found q row at held apart.0)))
          (λ not_at. there q not_at ∙ is q ∙ ap (λ b. if over_at over (if b then Some row else find_row q held) then 1 else 0) not_at)

      own : (q : List ℕ) (b : Bool) → over row ≡ b → is_at (by_bytes q) (row_key row) ≡ true → stands q keys ≡ (if b then 1 else 0)
      own q b passes at = is q ∙ ap (λ c. if over_at over (if c then Some row else find_row q held) then 1 else 0) at ∙ ap (λ c. if c then 1 else 0) passes

      by : ((left : List (List ℕ)) → AreDue held left → (due : List FedRow) × (left ≡ map row_key due) × IsReordered (filter over held) due)
          → (b : Bool) → over row ≡ b → (due : List FedRow) × (keys ≡ map row_key due) × IsReordered (if b then row ∷ filter over held else filter over held) due
      by others false not_over =
          others keys (rest_of keys (λ q at. own q false not_over at) (λ q not_at. refl))
      by others true is_over =
          let cut = split_at (row_key row) keys (own (row_key row) true is_over (is_itself (row_key row))) in
          let front = cut.0 in
          let back = cut.1 in
          let many : (q : List ℕ) → stands q keys ≡ (if is_at (by_bytes q) (row_key row) then 1 else 0) + stands q (front ++ back) =
          λ q. ap (stands q) cut.2 ∙ stands_middle q (row_key row) front back in
          let found = others (front ++ back) (rest_of (front ++ back)
          (λ q at. let one : 1 ≡ 1 + stands q (front ++ back) = sym (own q true is_over at) ∙ many q ∙ ap (λ b. (if b then 1 else 0) + stands q (front ++ back)) at in omega (arith, one))
          (λ q not_at. let none : stands q keys ≡ 0 + stands q (front ++ back) = many q ∙ ap (λ b. (if b then 1 else 0) + stands q (front ++ back)) not_at in omega (arith, none))) in
          join_row row (filter over held) keys front back cut.2 found.0 found.1 found.2
