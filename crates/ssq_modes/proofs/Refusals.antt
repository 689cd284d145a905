-- Which refusal is told, by what applies.
use Rattle.std.proofs.Common.{◌≡◌, refl, ℕ, suc, ◌<◌, ◌+◌, arith, true, false, ◌&&◌, List}
use Rattle.std.specs.List.{list_any}
use Rattle.ssq_shape.specs.declared.bound.Bound.{Bound}
use Rattle.ssq_shape.specs.declared.bound.Output.{Output}
use Rattle.ssq_modes.specs.declared.fault.ModeFault.{ModeFault}
use Rattle.ssq_modes.specs.declared.fault.ModeFault.TheVariants as fault
use Rattle.ssq_modes.specs.Modes.{is_key, are_shown, append_without_time, complete_without_groups, join_in_update, outer_without_bound, bound_without_watermark, sorted_elsewhere, having_in_update, hides_a_key, applies, rank, AppliesNone, IsFirst}

-- one more key
pub shown_next : (outputs : List Output) (count : ℕ) → are_shown outputs (count + 1) ≡ (list_any (is_key count) outputs && are_shown outputs count)
unfolding are_shown
shown_next outputs count = let e : count + 1 ≡ suc count = omega arith in rw e refl

-- what holds of each of them holds of all
each : (P : ModeFault → Type 0) → P fault.AppendNeedsWatermark → P fault.CompleteNeedsAggregate → P fault.JoinNeedsAppend → P fault.OuterNeedsBound → P fault.BoundNeedsWatermark → P fault.SortNeedsComplete → P fault.HavingInUpdate → P fault.KeyNotShown → (own : ModeFault) → P own
each P a b c d e f g h fault.AppendNeedsWatermark = a
each P a b c d e f g h fault.CompleteNeedsAggregate = b
each P a b c d e f g h fault.JoinNeedsAppend = c
each P a b c d e f g h fault.OuterNeedsBound = d
each P a b c d e f g h fault.BoundNeedsWatermark = e
each P a b c d e f g h fault.SortNeedsComplete = f
each P a b c d e f g h fault.HavingInUpdate = g
each P a b c d e f g h fault.KeyNotShown = h

-- those before it don't apply
module _ (bound : Bound) where
  abbrev Clear : ℕ → ModeFault → Type 0
  Clear n own = rank own < n → applies bound own ≡ false

  pub first_0 : append_without_time bound ≡ true → IsFirst bound fault.AppendNeedsWatermark
  unfolding applies
  first_0 z = record { stands = z; first = each (Clear 0) (λ few. absurd (omega (arith, few))) (λ few. absurd (omega (arith, few))) (λ few. absurd (omega (arith, few))) (λ few. absurd (omega (arith, few))) (λ few. absurd (omega (arith, few))) (λ few. absurd (omega (arith, few))) (λ few. absurd (omega (arith, few))) (λ few. absurd (omega (arith, few))) }

  pub first_1 : append_without_time bound ≡ false → complete_without_groups bound ≡ true → IsFirst bound fault.CompleteNeedsAggregate
  unfolding applies
  first_1 a z = record { stands = z; first = each (Clear 1) (λ few. a) (λ few. absurd (omega (arith, few))) (λ few. absurd (omega (arith, few))) (λ few. absurd (omega (arith, few))) (λ few. absurd (omega (arith, few))) (λ few. absurd (omega (arith, few))) (λ few. absurd (omega (arith, few))) (λ few. absurd (omega (arith, few))) }

  pub first_2 : append_without_time bound ≡ false → complete_without_groups bound ≡ false → join_in_update bound ≡ true → IsFirst bound fault.JoinNeedsAppend
  unfolding applies
  first_2 a b z = record { stands = z; first = each (Clear 2) (λ few. a) (λ few. b) (λ few. absurd (omega (arith, few))) (λ few. absurd (omega (arith, few))) (λ few. absurd (omega (arith, few))) (λ few. absurd (omega (arith, few))) (λ few. absurd (omega (arith, few))) (λ few. absurd (omega (arith, few))) }

  pub first_3 : append_without_time bound ≡ false → complete_without_groups bound ≡ false → join_in_update bound ≡ false → outer_without_bound bound ≡ true → IsFirst bound fault.OuterNeedsBound
  unfolding applies
  first_3 a b c z = record { stands = z; first = each (Clear 3) (λ few. a) (λ few. b) (λ few. c) (λ few. absurd (omega (arith, few))) (λ few. absurd (omega (arith, few))) (λ few. absurd (omega (arith, few))) (λ few. absurd (omega (arith, few))) (λ few. absurd (omega (arith, few))) }

  pub first_4 : append_without_time bound ≡ false → complete_without_groups bound ≡ false → join_in_update bound ≡ false → outer_without_bound bound ≡ false → bound_without_watermark bound ≡ true → IsFirst bound fault.BoundNeedsWatermark
  unfolding applies
  first_4 a b c d z = record { stands = z; first = each (Clear 4) (λ few. a) (λ few. b) (λ few. c) (λ few. d) (λ few. absurd (omega (arith, few))) (λ few. absurd (omega (arith, few))) (λ few. absurd (omega (arith, few))) (λ few. absurd (omega (arith, few))) }

  pub first_5 : append_without_time bound ≡ false → complete_without_groups bound ≡ false → join_in_update bound ≡ false → outer_without_bound bound ≡ false → bound_without_watermark bound ≡ false → sorted_elsewhere bound ≡ true → IsFirst bound fault.SortNeedsComplete
  unfolding applies
  first_5 a b c d e z = record { stands = z; first = each (Clear 5) (λ few. a) (λ few. b) (λ few. c) (λ few. d) (λ few. e) (λ few. absurd (omega (arith, few))) (λ few. absurd (omega (arith, few))) (λ few. absurd (omega (arith, few))) }

  pub first_6 : append_without_time bound ≡ false → complete_without_groups bound ≡ false → join_in_update bound ≡ false → outer_without_bound bound ≡ false → bound_without_watermark bound ≡ false → sorted_elsewhere bound ≡ false → having_in_update bound ≡ true → IsFirst bound fault.HavingInUpdate
  unfolding applies
  first_6 a b c d e f z = record { stands = z; first = each (Clear 6) (λ few. a) (λ few. b) (λ few. c) (λ few. d) (λ few. e) (λ few. f) (λ few. absurd (omega (arith, few))) (λ few. absurd (omega (arith, few))) }

  pub first_7 : append_without_time bound ≡ false → complete_without_groups bound ≡ false → join_in_update bound ≡ false → outer_without_bound bound ≡ false → bound_without_watermark bound ≡ false → sorted_elsewhere bound ≡ false → having_in_update bound ≡ false → hides_a_key bound ≡ true → IsFirst bound fault.KeyNotShown
  unfolding applies
  first_7 a b c d e f g z = record { stands = z; first = each (Clear 7) (λ few. a) (λ few. b) (λ few. c) (λ few. d) (λ few. e) (λ few. f) (λ few. g) (λ few. absurd (omega (arith, few))) }

  pub none_applies : append_without_time bound ≡ false → complete_without_groups bound ≡ false → join_in_update bound ≡ false → outer_without_bound bound ≡ false → bound_without_watermark bound ≡ false → sorted_elsewhere bound ≡ false → having_in_update bound ≡ false → hides_a_key bound ≡ false → AppliesNone bound
  unfolding applies
  none_applies a b c d e f g h = each (λ own. applies bound own ≡ false) a b c d e f g h

pub ruleset table = (first_0, first_1, first_2, first_3, first_4, first_5, first_6, first_7, none_applies)
