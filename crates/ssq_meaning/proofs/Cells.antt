-- A shown row says its key, where each key is an item.
use Rattle.std.proofs.Common.{◌≡◌, ◌<◌, [], ◌∷◌, ℕ, zero, suc, ℤ, ◌+ℤ◌, List, Option, Some, None, Result, Ok, Err, Bool, true, false, refl, ap, sym, ◌∙◌, subst, inl, inr, arith, length}
use Rattle.std.specs.Prelude.{◌||◌, IfSome, is_some, nat_eq, if◌then◌else◌}
use Rattle.std.specs.List.{AllByRecursion, list_any}
use Rattle.std.proofs.lemmas.Int.{ints}
use Rattle.std.proofs.lemmas.Bool.Decides.{nat_tests}
use Rattle.ssq_value.specs.declared.value.Value.{Value}
use Rattle.ssq_value.specs.declared.value.Value.TheVariants as value
use Rattle.ssq_time.specs.Time.{is_stamp_time}
use Rattle.ssq_shape.specs.declared.bound.GroupKey.{GroupKey}
use Rattle.ssq_shape.specs.declared.bound.GroupKey.TheVariants as key
use Rattle.ssq_shape.specs.declared.bound.Output.{Output}
use Rattle.ssq_shape.specs.declared.typed.Typed.{Typed}
use Rattle.ssq_shape.specs.Evaluation.{Overflow, overflow, Evaluated, and_then, cell_at, evaluated_with, shifted, time_in}
use Rattle.ssq_meaning.specs.Group.{group_items}
use Rattle.ssq_meaning.specs.Meaning.{Values}
use Rattle.ssq_meaning.specs.Table.{key_cells, is_key_at, is_key, IsWindowAt, IsKeyAlone}
use Rattle.ssq_meaning.proofs.FedTimes.{IsKeyOf}

-- ---- answers

bind_ok : {A B : Type 0} (r : Result A Overflow) (f : A → Result B Overflow) (y : B) → and_then r f ≡ Ok y → (x : A) × (r ≡ Ok x) × (f x ≡ Ok y)
bind_ok (Ok x) f y is = (x, refl, is)
bind_ok (Err e) f y is = absurd cc

ok_is : {A : Type 0} (x y : A) → ◌≡◌ {A = Result A Overflow} (Ok x) (Ok y) → x ≡ y
ok_is x y is = cc

-- ---- one item

window_cell : (keys : List GroupKey) (own : Values) (at : ℕ) → IsKeyOf keys own → IsWindowAt keys at → (t : ℤ) × (cell_at own at ≡ value.Time t)
window_cell [] [] at are window = absurd (let no = window.3 in cc)
window_cell [] (one ∷ own) at are window = absurd are
window_cell (key.Column column ∷ keys) [] at are window = absurd are
window_cell (key.Column column ∷ keys) (one ∷ own) zero are window = absurd (let no = window.3 in cc)
window_cell (key.Column column ∷ keys) (one ∷ own) (suc at) are window = window_cell keys own at are window
window_cell (key.Window column size slide ∷ keys) [] at are window = absurd are
window_cell (key.Window column size slide ∷ keys) (value.Time t ∷ own) zero are window = (t, refl)
window_cell (key.Window column size slide ∷ keys) (value.Time t ∷ own) (suc at) are window = window_cell keys own at are window
window_cell (key.Window column size slide ∷ keys) (value.Null ∷ own) at are window = absurd are
window_cell (key.Window column size slide ∷ keys) (value.Int n ∷ own) at are window = absurd are
window_cell (key.Window column size slide ∷ keys) (value.Text n ∷ own) at are window = absurd are
window_cell (key.Window column size slide ∷ keys) (value.Truth n ∷ own) at are window = absurd are

time_if : (fits : Bool) (t : ℤ) (v : Value) → ◌≡◌ {A = Evaluated} (if fits then Ok (value.Time t) else Err overflow) (Ok v) → v ≡ value.Time t
time_if true t v is = sym (ok_is (value.Time t) v is)
time_if false t v is = absurd cc

moved : (t u by : ℤ) → (t +ℤ by) ≡ (u +ℤ by) → t ≡ u
moved t u by same = grind (arith, ints, same)

time_same : (t u by : ℤ) → value.Time (t +ℤ by) ≡ value.Time (u +ℤ by) → value.Time t ≡ value.Time u
time_same t u by same = let inside : (t +ℤ by) ≡ (u +ℤ by) = cc in ap (λ t. value.Time t) (moved t u by inside)

module _ (keys : List GroupKey) (left right : Values) (a b : List (Option Value)) (lefts : IsKeyOf keys left) (rights : IsKeyOf keys right) where
  one_agrees : (x : Typed) (at : ℕ) (v w : Value) → IsKeyAlone keys x at → evaluated_with a x left ≡ Ok v → evaluated_with b x right ≡ Ok w → v ≡ w → cell_at left at ≡ cell_at right at
  unfolding evaluated_with
  one_agrees x at v w (inl is) x_left x_right same =
      let l : ◌≡◌ {A = Evaluated} (Ok (cell_at left at)) (Ok v) = ap (λ x. evaluated_with a x left) (sym is) ∙ x_left in
      let r : ◌≡◌ {A = Evaluated} (Ok (cell_at right at)) (Ok w) = ap (λ x. evaluated_with b x right) (sym is) ∙ x_right in
      ok_is (cell_at left at) v l ∙ same ∙ sym (ok_is (cell_at right at) w r)
  one_agrees x at v w (inr (by, is, window)) x_left x_right same =
      let tl = window_cell keys left at lefts window in
      let tr = window_cell keys right at rights window in
      let l : shifted (time_in (cell_at left at)) by ≡ Ok v = ap (λ x. evaluated_with a x left) (sym is) ∙ x_left in
      let r : shifted (time_in (cell_at right at)) by ≡ Ok w = ap (λ x. evaluated_with b x right) (sym is) ∙ x_right in
      let lv = time_if (is_stamp_time (tl.0 +ℤ by)) (tl.0 +ℤ by) v (ap (λ c. shifted (time_in c) by) (sym tl.1) ∙ l) in
      let rv = time_if (is_stamp_time (tr.0 +ℤ by)) (tr.0 +ℤ by) w (ap (λ c. shifted (time_in c) by) (sym tr.1) ∙ r) in
      tl.1 ∙ time_same tl.0 tr.0 by (sym lv ∙ same ∙ rv) ∙ sym tr.1

  abbrev pub Agree : List Output → Type 0
  Agree outputs = AllByRecursion (λ output. IfSome output.key (λ at. cell_at left at ≡ cell_at right at)) outputs

  item_agrees : (outputs : List Output) (own : Option ℕ) (x : Typed) (v w : Value) (vs ws : Values)
      → (key_cells outputs vs ≡ key_cells outputs ws → Agree outputs)
      → IfSome own (IsKeyAlone keys x) → evaluated_with a x left ≡ Ok v → evaluated_with b x right ≡ Ok w
      → (if is_some own then v ∷ key_cells outputs vs else key_cells outputs vs) ≡ (if is_some own then w ∷ key_cells outputs ws else key_cells outputs ws)
      → IfSome own (λ at. cell_at left at ≡ cell_at right at) × Agree outputs
  item_agrees outputs None x v w vs ws rest alone x_left x_right same = (tt, rest same)
  item_agrees outputs (Some at) x v w vs ws rest alone x_left x_right same =
      let head : v ≡ w = cc in
      let tail : key_cells outputs vs ≡ key_cells outputs ws = cc in
      (one_agrees x at v w alone x_left x_right head, rest tail)

  -- two rows with the same values for keys are of keys with the same values there
  pub cells_agree : (outputs : List Output) (one other : Values) → AllByRecursion (λ output. IfSome output.key (IsKeyAlone keys output.value)) outputs
      → group_items outputs left a ≡ Ok one → group_items outputs right b ≡ Ok other → key_cells outputs one ≡ key_cells outputs other → Agree outputs
  unfolding group_items key_cells
  cells_agree [] one other alone x_left x_right same = tt
  cells_agree (output ∷ outputs) one other alone x_left x_right same =
      let l = bind_ok (evaluated_with a output.value left) (λ value. and_then (group_items outputs left a) (λ values. Ok (value ∷ values))) one x_left in
      let ls = bind_ok (group_items outputs left a) (λ values. Ok (l.0 ∷ values)) one l.2 in
      let r = bind_ok (evaluated_with b output.value right) (λ value. and_then (group_items outputs right b) (λ values. Ok (value ∷ values))) other x_right in
      let rs = bind_ok (group_items outputs right b) (λ values. Ok (r.0 ∷ values)) other r.2 in
      let cells : key_cells (output ∷ outputs) (l.0 ∷ ls.0) ≡ key_cells (output ∷ outputs) (r.0 ∷ rs.0) =
      ap (key_cells (output ∷ outputs)) (ok_is (l.0 ∷ ls.0) one ls.2) ∙ same ∙ sym (ap (key_cells (output ∷ outputs)) (ok_is (r.0 ∷ rs.0) other rs.2)) in
      item_agrees outputs output.key output.value l.0 r.0 ls.0 rs.0 (cells_agree outputs ls.0 rs.0 alone.1 ls.1 rs.1) alone.0 l.1 r.1 cells

  -- ---- the keys

  at_index : (outputs : List Output) (at : ℕ) → Agree outputs → list_any (is_key at) outputs ≡ true → cell_at left at ≡ cell_at right at
  at_index [] at agree some = absurd cc
  at_index (output ∷ outputs) at agree some = by (at_index outputs at agree.1) output.key agree.0 some
    where
      by : (list_any (is_key at) outputs ≡ true → cell_at left at ≡ cell_at right at) → (own : Option ℕ) → IfSome own (λ at. cell_at left at ≡ cell_at right at)
          → (is_key_at at own || list_any (is_key at) outputs) ≡ true → cell_at left at ≡ cell_at right at
      by rest None agrees some = rest some
      by rest (Some own) agrees some = chosen (nat_eq own at) refl some
        where
          chosen : (b : Bool) → nat_eq own at ≡ b → (b || list_any (is_key at) outputs) ≡ true → cell_at left at ≡ cell_at right at
          chosen true same some = let one : own ≡ at = grind (arith, nat_tests, same) in subst (λ at. cell_at left at ≡ cell_at right at) one agrees
          chosen false same some = rest some

-- keys with the same values are one
same_cells : (keys : List GroupKey) (left right : Values) → IsKeyOf keys left → IsKeyOf keys right
    → ((at : ℕ) → at < length keys → cell_at left at ≡ cell_at right at) → left ≡ right
same_cells [] [] [] lefts rights same = refl
same_cells [] [] (r ∷ right) lefts rights same = absurd rights
same_cells [] (l ∷ left) right lefts rights same = absurd lefts
same_cells (key.Column column ∷ keys) [] right lefts rights same = absurd lefts
same_cells (key.Column column ∷ keys) (l ∷ left) [] lefts rights same = absurd rights
same_cells (key.Column column ∷ keys) (l ∷ left) (r ∷ right) lefts rights same =
    let first : l ≡ r = same 0 (omega arith) in
    let rest : left ≡ right = same_cells keys left right lefts rights (λ at less. same (suc at) (omega (arith, less))) in
    λ i. first i ∷ rest i
same_cells (key.Window column size slide ∷ keys) left right lefts rights same = by left right lefts rights same (λ l r. same_cells keys l r)
  where
    by : (left right : Values) → IsKeyOf (key.Window column size slide ∷ keys) left → IsKeyOf (key.Window column size slide ∷ keys) right
        → ((at : ℕ) → at < suc (length keys) → cell_at left at ≡ cell_at right at)
        → ((l r : Values) → IsKeyOf keys l → IsKeyOf keys r → ((at : ℕ) → at < length keys → cell_at l at ≡ cell_at r at) → l ≡ r) → left ≡ right
    by [] right lefts rights same rest = absurd lefts
    by (value.Null ∷ left) right lefts rights same rest = absurd lefts
    by (value.Int n ∷ left) right lefts rights same rest = absurd lefts
    by (value.Text n ∷ left) right lefts rights same rest = absurd lefts
    by (value.Truth n ∷ left) right lefts rights same rest = absurd lefts
    by (value.Time t ∷ left) [] lefts rights same rest = absurd rights
    by (value.Time t ∷ left) (value.Null ∷ right) lefts rights same rest = absurd rights
    by (value.Time t ∷ left) (value.Int n ∷ right) lefts rights same rest = absurd rights
    by (value.Time t ∷ left) (value.Text n ∷ right) lefts rights same rest = absurd rights
    by (value.Time t ∷ left) (value.Truth n ∷ right) lefts rights same rest = absurd rights
    by (value.Time t ∷ left) (value.Time u ∷ right) lefts rights same rest =
        let first : value.Time t ≡ value.Time u = same 0 (omega arith) in
        let others : left ≡ right = rest left right lefts rights (λ at less. same (suc at) (omega (arith, less))) in
        λ i. first i ∷ others i

module _ (keys : List GroupKey) (outputs : List Output) (alone : AllByRecursion (λ output. IfSome output.key (IsKeyAlone keys output.value)) outputs)
    (each : (at : ℕ) → at < length keys → list_any (is_key at) outputs ≡ true) where
  -- rows with the same values for keys are of one key
  pub one_key : (left right : Values) (a b : List (Option Value)) (one other : Values) → IsKeyOf keys left → IsKeyOf keys right
      → group_items outputs left a ≡ Ok one → group_items outputs right b ≡ Ok other → key_cells outputs one ≡ key_cells outputs other → left ≡ right
  one_key left right a b one other lefts rights x_left x_right same =
      same_cells keys left right lefts rights (λ at less. at_index keys left right a b lefts rights outputs at
      (cells_agree keys left right a b lefts rights outputs one other alone x_left x_right same) (each at less))

-- ---- rows of one key

key_alone : (keys : List GroupKey) (own : Values) (a b : List (Option Value)) (x : Typed) (at : ℕ) → IsKeyAlone keys x at → evaluated_with a x own ≡ evaluated_with b x own
unfolding evaluated_with
key_alone keys own a b x at (inl is) = ap (λ x. evaluated_with a x own) is ∙ sym (ap (λ x. evaluated_with b x own) is)
key_alone keys own a b x at (inr (by, is, window)) = ap (λ x. evaluated_with a x own) is ∙ sym (ap (λ x. evaluated_with b x own) is)

module _ (keys : List GroupKey) (own : Values) (a b : List (Option Value)) where
  item_same : (outputs : List Output) (is_item : Option ℕ) (x : Typed) (v w : Value) (vs ws : Values) → key_cells outputs vs ≡ key_cells outputs ws
      → IfSome is_item (IsKeyAlone keys x) → evaluated_with a x own ≡ Ok v → evaluated_with b x own ≡ Ok w
      → (if is_some is_item then v ∷ key_cells outputs vs else key_cells outputs vs) ≡ (if is_some is_item then w ∷ key_cells outputs ws else key_cells outputs ws)
  item_same outputs None x v w vs ws rest alone l r = rest
  item_same outputs (Some at) x v w vs ws rest alone l r =
      let first : v ≡ w = ok_is v w (sym l ∙ key_alone keys own a b x at alone ∙ r) in
      λ i. first i ∷ rest i

  -- the rows of one key have the same values for keys, whatever its aggregates are
  pub cells_same : (outputs : List Output) (one other : Values) → AllByRecursion (λ output. IfSome output.key (IsKeyAlone keys output.value)) outputs
      → group_items outputs own a ≡ Ok one → group_items outputs own b ≡ Ok other → key_cells outputs one ≡ key_cells outputs other
  unfolding group_items key_cells
  cells_same [] one other alone l r = refl
  cells_same (output ∷ outputs) one other alone x_left x_right =
      let l = bind_ok (evaluated_with a output.value own) (λ value. and_then (group_items outputs own a) (λ values. Ok (value ∷ values))) one x_left in
      let ls = bind_ok (group_items outputs own a) (λ values. Ok (l.0 ∷ values)) one l.2 in
      let r = bind_ok (evaluated_with b output.value own) (λ value. and_then (group_items outputs own b) (λ values. Ok (value ∷ values))) other x_right in
      let rs = bind_ok (group_items outputs own b) (λ values. Ok (r.0 ∷ values)) other r.2 in
      sym (ap (key_cells (output ∷ outputs)) (ok_is (l.0 ∷ ls.0) one ls.2))
      ∙ item_same outputs output.key output.value l.0 r.0 ls.0 rs.0 (cells_same outputs ls.0 rs.0 alone.1 ls.1 rs.1) alone.0 l.1 r.1
      ∙ ap (key_cells (output ∷ outputs)) (ok_is (r.0 ∷ rs.0) other rs.2)
