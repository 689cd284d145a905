-- The laws of groups over the epochs of a job.
use Rattle.std.proofs.Common.{◌≡◌, ◌+◌, ◌++◌, [], ℕ, zero, suc, ℤ, List, Option, None, Bool, true, false, refl, ap, sym, ◌∙◌, subst, arith}
use Rattle.std.specs.Prelude.{◌&&◌, not, if◌then◌else◌, All}
use Rattle.std.specs.List.Sorted.{IsPermutation}
use Rattle.std.proofs.lemmas.List.Elements.{All-from_recursion}
use Rattle.std.proofs.lemmas.List.Sorted.{IsPermutation-refl, IsPermutation-trans, IsPermutation-append_left}
use Rattle.ssq_shape.specs.declared.bound.Bound.{Bound}
use Rattle.ssq_shape.specs.declared.bound.Grouping.{Grouping}
use Rattle.ssq_shape.specs.declared.bound.Mode.TheVariants as mode
use Rattle.ssq_shape.specs.declared.bound.Shape.{Shape}
use Rattle.ssq_shape.specs.declared.bound.Shape.TheVariants.{Group}
use Rattle.ssq_meaning.specs.FedRows.{FedRow}
use Rattle.ssq_meaning.specs.Cut.{Cuts}
use Rattle.ssq_meaning.specs.Epochs.{accepted, on_time, watermark, watermark_before, out}
use Rattle.ssq_meaning.specs.Group.{distinct, has_key, totals_in, is_closed, closing_time, meant}
use Rattle.ssq_meaning.specs.GroupLaws.{Follows, times_due, times_closed, held_if, meaning_at, times_considered, IsOpenTo, IsWholeAt}
use Rattle.ssq_meaning.specs.Laws.{outs}
use Rattle.ssq_meaning.specs.Meaning.{Values}
use Rattle.ssq_meaning.specs.Operator.{group, operator_for, operator_of}
use Rattle.ssq_meaning.specs.Parts.{Part}
use Rattle.ssq_meaning.proofs.Counted.{considered}
use Rattle.ssq_meaning.proofs.FedTimes.{on_time_open}
use Rattle.ssq_meaning.proofs.Grouped.{past_stays, appended}
use Rattle.ssq_meaning.proofs.Handing.{weaker}
use Rattle.ssq_meaning.proofs.Water.{water_rose, water_stays}

module _ (query : Bound) (grouping : Grouping) (is : query.shape ≡ Group grouping) (parts : List Part) (cuts : Cuts) where
  pub group_is : operator_of query ≡ group query grouping
  unfolding operator_of
  group_is = ap (λ (shape : Shape). operator_for shape query) is

  -- each epoch comes after those before it
  pub follows_at : (e : ℕ) → Follows query grouping (on_time query parts cuts e) (watermark_before query parts cuts e) (watermark query parts cuts e)
  follows_at e = record {
    rises = water_rose query parts cuts e;
    timely = All-from_recursion _ (on_time query parts cuts e) (on_time_open query grouping is parts cuts e);
  }

  pub out_is : (e : ℕ) → out query parts cuts e ≡ (group query grouping).added (accepted query parts cuts e) (on_time query parts cuts e) (watermark_before query parts cuts e) (watermark query parts cuts e)
  out_is e = ap (λ operator. operator.added (accepted query parts cuts e) (on_time query parts cuts e) (watermark_before query parts cuts e) (watermark query parts cuts e)) group_is

  -- ---- Append

  pub none_meant : (now : Option ℤ) → meant query grouping [] now ≡ []
  unfolding distinct
  none_meant now = refl

  pub epochs_append : query.mode ≡ mode.Append → (n : ℕ) → IsPermutation (outs query parts cuts n) (meaning_at query grouping parts cuts n)
  unfolding outs accepted
  epochs_append append zero = subst (IsPermutation []) (sym (none_meant None)) (IsPermutation-refl [])
  epochs_append append (suc n) =
      let old = accepted query parts cuts n in
      let new = on_time query parts cuts n in
      let before = watermark_before query parts cuts n in
      let now = watermark query parts cuts n in
      let added = (group query grouping).added old new before now in
      let so_far : IsPermutation (outs query parts cuts n ++ added) (meant query grouping old before ++ added) = IsPermutation-append_left added (outs query parts cuts n) (meant query grouping old before) (epochs_append append n) in
      let last : IsPermutation (meant query grouping old before ++ added) (meant query grouping (old ++ new) now) = appended query grouping old new before now append (follows_at n) in
      subst (λ l. IsPermutation (outs query parts cuts n ++ l) (meant query grouping (old ++ new) now)) (sym (out_is n)) (IsPermutation-trans _ _ _ so_far last)

  none_closed : (key : Values) → times_closed query grouping [] None key ≡ 0
  none_closed key = refl

  pub considered_by_now : query.mode ≡ mode.Append → (key : Values) (n : ℕ)
      → times_considered query grouping parts cuts key n ≡ times_closed query grouping (accepted query parts cuts n) (watermark_before query parts cuts n) key
  unfolding times_considered accepted
  considered_by_now append key zero = sym (none_closed key)
  considered_by_now append key (suc n) =
      let old = accepted query parts cuts n in
      let new = on_time query parts cuts n in
      let before = watermark_before query parts cuts n in
      let now = watermark query parts cuts n in
      ap (λ times. times + times_due query grouping old new before now key) (considered_by_now append key n)
      ∙ considered query grouping old new before now (follows_at n) key append

  pub considered_once : query.mode ≡ mode.Append → (key : Values) (n : ℕ) → has_key (accepted query parts cuts n) key ≡ true
      → is_closed query grouping (watermark_before query parts cuts n) key ≡ true → times_considered query grouping parts cuts key n ≡ 1
  considered_once append key n there closed = considered_by_now append key n ∙ (λ i. if (there i && closed i) then 1 else 0)

  -- ---- no row is lost

  stays_open : (key : Values) (e : ℕ) → is_closed query grouping (watermark query parts cuts e) key ≡ false → IsOpenTo query grouping parts cuts e key
  stays_open key e opens f le = by (is_closed query grouping (watermark query parts cuts f) key) refl
    where
      by : (b : Bool) → is_closed query grouping (watermark query parts cuts f) key ≡ b → is_closed query grouping (watermark query parts cuts f) key ≡ false
      by true closed =
          let no : false ≡ true = sym opens ∙ past_stays (watermark query parts cuts f) (watermark query parts cuts e) (closing_time query grouping key) (water_stays query parts cuts f e le) closed in
          absurd cc
      by false closed = closed

  was_open : (key : Values) (e : ℕ) → is_closed query grouping (watermark query parts cuts e) key ≡ false → is_closed query grouping (watermark_before query parts cuts e) key ≡ false
  was_open key zero opens = refl
  was_open key (suc e) opens = stays_open key (suc e) opens e (omega arith)

  whole_at : (key : Values) (e : ℕ) → is_closed query grouping (watermark query parts cuts e) key ≡ false → IsWholeAt query grouping parts cuts e key
  whole_at key e opens =
      let old = accepted query parts cuts e in
      ap (λ b. held_if (has_key old key && not b) (totals_in grouping old key)) (was_open key e opens)
      ∙ by (has_key old key)
    where
      by : (h : Bool) → held_if (h && true) (totals_in grouping (accepted query parts cuts e) key) ≡ held_if h (totals_in grouping (accepted query parts cuts e) key)
      by true = refl
      by false = refl

  pub rows_are_open : (e : ℕ) → All (λ (row : FedRow). IsOpenTo query grouping parts cuts e row.key) (on_time query parts cuts e)
  rows_are_open e = All-from_recursion _ (on_time query parts cuts e)
      (weaker (λ (row : FedRow). is_closed query grouping (watermark query parts cuts e) row.key ≡ false) (λ row. IsOpenTo query grouping parts cuts e row.key) (λ row. stays_open row.key e)
      (on_time query parts cuts e) (on_time_open query grouping is parts cuts e))

  pub rows_find_all : (e : ℕ) → All (λ (row : FedRow). IsWholeAt query grouping parts cuts e row.key) (on_time query parts cuts e)
  rows_find_all e = All-from_recursion _ (on_time query parts cuts e)
      (weaker (λ (row : FedRow). is_closed query grouping (watermark query parts cuts e) row.key ≡ false) (λ row. IsWholeAt query grouping parts cuts e row.key) (λ row. whole_at row.key e)
      (on_time query parts cuts e) (on_time_open query grouping is parts cuts e))
