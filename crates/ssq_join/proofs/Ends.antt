-- A row that is kept is over where its time in the index is past.
use Rattle.std.proofs.Common.{◌≡◌, ℕ, ℤ, ◌+ℤ◌, ◌-ℤ◌, int_le, [], ◌∷◌, List, Option, Some, None, Bool, true, false, refl, ap, sym, ◌∙◌, subst, arith, length}
use Rattle.std.specs.Prelude.{All, FitsSigned, IfSome, option_map}
use Rattle.std.specs.Int.{w64}
use Rattle.std.proofs.lemmas.Int.{ints}
use Rattle.std.proofs.lemmas.List.Elements.{All-weaker}
use Rattle.ssq_time.specs.Time.{IsStampTime}
use Rattle.ssq_value.specs.Key.{IsSpelled}
use Rattle.ssq_shape.specs.declared.bound.Bound.{Bound}
use Rattle.ssq_shape.specs.declared.bound.Joining.{Joining}
use Rattle.ssq_shape.specs.declared.bound.TimeBound.{TimeBound}
use Rattle.ssq_shape.specs.Evaluation.{cell_at, time_in}
use Rattle.ssq_meaning.specs.FedRows.{FedRow}
use Rattle.ssq_meaning.specs.Fit.{IsFit}
use Rattle.ssq_meaning.specs.Join.{event_column, is_left, is_over, join_time, last_time, met_byte, row_key, row_value, side_byte}
use Rattle.ssq_meaning.specs.JoinLaws.{IsAround, IsBounded}
use Rattle.ssq_meaning.specs.Meaning.{Values}
use Rattle.ssq_meaning.specs.Times.{is_past}
use Rattle.ssq_meaning.proofs.Coding.{AreApart as KeysAreApart}
use Rattle.ssq_meaning.proofs.FitRows.{spelled}
use Rattle.ssq_meaning.proofs.KeyPlaces.{stamp_at}
use Rattle.ssq_meaning.proofs.Placing.{same_side}
use Rattle.ssq_step.specs.Rows.{HasTime, HasTimeIf, IsKeptRow, IsTimed, end_of, width_of}
use Rattle.ssq_join.specs.Steps.{IsKept}
use Rattle.ssq_join.proofs.Alone.{kept_row}
use Rattle.ssq_join.proofs.Saying.{over_at}

-- ---- a row's own time

own_fits : (bound : Option TimeBound) (stream : ℕ) (row : Values) → All IsFit row → IfSome (join_time bound stream row) IsStampTime
own_fits None stream row fit = tt
own_fits (Some bound) stream row fit = by (time_in (cell_at row (event_column (is_left stream) bound))) (stamp_at row fit (event_column (is_left stream) bound))
  where
    by : (time : Option ℤ) → ((t : ℤ) → time ≡ Some t → IsStampTime t) → IfSome time IsStampTime
    by None stamps = tt
    by (Some t) stamps = stamps t refl

-- a row that is over has an end of 64 bits: it is not below the row's own time, nor above the watermark
past_fits : (bound : Option TimeBound) → IfSome bound IsAround → (left : Bool) (time : Option ℤ) → IfSome time IsStampTime → (w t : ℤ) → FitsSigned w64 w → last_time bound left time ≡ Some t → int_le t w ≡ true
    → FitsSigned w64 t
past_fits None around left time stamp w t fits is past = absurd cc
past_fits (Some bound) around true None stamp w t fits is past = absurd cc
past_fits (Some bound) around false None stamp w t fits is past = absurd cc
past_fits (Some bound) around true (Some own) stamp w t fits is past =
    let same : own +ℤ bound.hi ≡ t = cc in
    record { sfits = grind (arith, ints, same, around.hi, stamp.0, past, fits.sfits) }
past_fits (Some bound) around false (Some own) stamp w t fits is past =
    let same : own -ℤ bound.lo ≡ t = cc in
    record { sfits = grind (arith, ints, same, around.lo, stamp.0, past, fits.sfits) }

-- ---- the row that is kept so

module _ (apart : KeysAreApart) (query : Bound) (joining : Joining) (bounded : IsBounded joining) (now : Option ℤ) (fits : IfSome now (FitsSigned w64)) (row : FedRow) (is : IsKept query joining row) where
  abbrev side : Bool
  side = is_left row.stream

  end_is : end_of joining side row.values ≡ last_time joining.bound side row.time
  end_is = ap (last_time joining.bound side) (ap (λ s. join_time joining.bound s row.values) (sym is.stream) ∙ sym is.own.time)

  own_stamp : IfSome row.time IsStampTime
  own_stamp = subst (λ (t : Option ℤ). IfSome t IsStampTime) (sym is.own.time) (own_fits joining.bound row.stream row.values is.fit.values)

  -- no other row is kept so
  same_end : (met : Bool) (left : Bool) (values : Values) (flag : Bool) → IsKeptRow query left values flag (row_key row) (row_value met row) → end_of joining left values ≡ end_of joining side row.values
  same_end met left values flag own =
      let first : side_byte side ≡ side_byte left = cc_head (row_key row) (side_byte left) own.bytes.rest own.bytes.side in
      let same : side ≡ left = same_side side left first in
      let long : length row.values ≡ length values = is.many ∙ ap (width_of query) same ∙ sym own.many in
      let one : row.values ≡ values = (apart row.values values (met_byte met ∷ []) (met_byte flag ∷ []) long (All-weaker IsFit IsSpelled spelled row.values is.fit.values) (All-weaker IsFit IsSpelled spelled values own.fit) own.bytes.spelled).0 in
      λ i. end_of joining (sym same i) (sym one i)
    where
      first_or : List ℕ → ℕ
      first_or [] = 0
      first_or (x ∷ xs) = x

      cc_head : (key : List ℕ) (byte : ℕ) (rest : List ℕ) → key ≡ byte ∷ rest → first_or key ≡ byte
      cc_head key byte rest same = ap first_or same

  pub over_is : (met : Bool) (time : Option ℤ) → HasTime query joining (row_key row) (row_value met row) time → is_past now time ≡ is_over joining now row
  over_is met time has = by time now fits has.found has.each (last_time joining.bound side row.time) refl
    where
      by : (time now : Option ℤ) → IfSome now (FitsSigned w64) → IfSome time (IsTimed query joining (row_key row) (row_value met row)) → ((t : ℤ) → IsTimed query joining (row_key row) (row_value met row) t → time ≡ Some t)
          → (last : Option ℤ) → last_time joining.bound side row.time ≡ last → is_past now time ≡ is_past now last
      by None None fit found each last is_last = refl
      by None (Some w) fit found each None is_last = refl
      by None (Some w) fit found each (Some t) is_last = none (int_le t w) refl
        where
          none : (b : Bool) → int_le t w ≡ b → false ≡ b
          none false past = refl
          none true past =
              let wide = past_fits joining.bound bounded side row.time own_stamp w t fit is_last past in
              let no : None ≡ Some t = each t (record { left = side; values = row.values; met = met; row = kept_row query joining row met is; time = end_is ∙ is_last; fits = wide }) in
              absurd cc
      by (Some t) now fit found each last is_last =
          ap (is_past now) (sym found.time ∙ same_end met found.left found.values found.met found.row ∙ end_is ∙ is_last)

-- ---- what stands under some bytes

module _ (apart : KeysAreApart) (query : Bound) (joining : Joining) (bounded : IsBounded joining) (now : Option ℤ) (fits : IfSome now (FitsSigned w64)) where
  pub over_at_is : (met : FedRow → Bool) (key : List ℕ) (found : Option FedRow) → ((row : FedRow) → found ≡ Some row → (key ≡ row_key row) × IsKept query joining row)
      → (value : Option (List ℕ)) → value ≡ option_map (λ row. row_value (met row) row) found → (time : Option ℤ) → HasTimeIf query joining key value time → is_past now time ≡ over_at (is_over joining now) found
  over_at_is met key None own value is time has = none now time (subst (λ (v : Option (List ℕ)). HasTimeIf query joining key v time) is has)
    where
      none : (now time : Option ℤ) → time ≡ None → is_past now time ≡ false
      none now time is = ap (is_past now) is ∙ by now
        where
          by : (now : Option ℤ) → is_past now None ≡ false
          by None = refl
          by (Some w) = refl
  over_at_is met key (Some row) own value is time has =
      let kept = own row refl in
      over_is apart query joining bounded now fits row kept.1 (met row) time
      (subst (λ k. HasTimeIf query joining k (Some (row_value (met row) row)) time) kept.0 (subst (λ (v : Option (List ℕ)). HasTimeIf query joining key v time) is has))
