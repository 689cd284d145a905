-- The windows that hold a time, as values of a key.
use Rattle.std.proofs.Common.{◌≡◌, ℕ, ◌<◌, ◌≤◌, ℤ, pos, ◌+ℤ◌, ◌*ℤ◌, ◌≤ℤ◌, of_z, to_z, Some, refl, ap, sym, ◌∙◌, arith, subst, map, length, zero-add}
use Rattle.std.specs.Prelude.{All, FitsSigned, slice_get, option_map, unsigned_abs, ◌<ℤ◌}
use Rattle.std.specs.Int.{w64}
use Rattle.std.specs.List.{range_with_len}
use Rattle.std.proofs.lemmas.Int.{fits_signed_mul, ints, to_z-of_z}
use Rattle.std.proofs.lemmas.List.{length-map}
use Rattle.std.proofs.lemmas.List.Elements.{All-map}
use Rattle.std.proofs.lemmas.List.FromFn.{length-range_with_len, get_or-range_with_len, length-map-range_with_len}
use Rattle.std.proofs.lemmas.Option.{slice_get-map, slice_get-get_or}
use Rattle.ssq_time.specs.Time.{IsLineTime, IsStampTime, IsSpan}
use Rattle.ssq_value.specs.declared.value.Value.TheVariants.{Time}
use Rattle.ssq_window.specs.Window.{AreWindows, first_start, window_count}
use Rattle.ssq_meaning.specs.Fit.{IsFit}
use Rattle.ssq_meaning.specs.Group.{window_starts}
use Rattle.ssq_meaning.specs.Windows.{IsWindow}
use Rattle.ssq_meaning.proofs.FitRows.{stamps_have_64_bits}
use Rattle.ssq_feed.specs.Keys.{starts_of}
use Rattle.ssq_feed.specs.declared.starts.Starts.{Starts}

-- a window that holds a time of the years 1000 to 9000 begins in the years 0001 to 9999
start_years : (t size start : ℤ) → IsLineTime t → IsSpan size → start ≤ℤ t → t <ℤ (start +ℤ size) → IsStampTime start
start_years t size start time span begun unfinished = (omega (arith, ints, time.0, time.1, span.0, span.1), omega (arith, ints, time.0, time.1, span.0, span.1))

pub starts_years : (t size slide first : ℤ) (count : ℕ) → IsLineTime t → IsSpan size → AreWindows t size slide first count
    → (k : ℕ) → k < count → IsStampTime (first +ℤ (pos k *ℤ slide))
starts_years t size slide first count time span windows k below =
    let one = windows.each k below in
    start_years t size (first +ℤ (pos k *ℤ slide)) time span one.begun one.unfinished

-- a state can hold the starts
pub starts_fit : (starts : Starts) → All IsFit (map Time (starts_of starts))
starts_fit starts =
    All-map IsFit Time (starts_of starts) (All-map (λ t. IsFit (Time t)) (λ k. starts.first +ℤ (pos k *ℤ starts.slide)) (range_with_len 0 starts.count) each)
  where
    each : All (λ k. IsFit (Time (starts.first +ℤ (pos k *ℤ starts.slide)))) (range_with_len 0 starts.count)
    each = λ k d below.
        let less : k < starts.count = omega (arith, below, length-range_with_len 0 starts.count) in
        let P : ℕ → Type 0 = λ n. IsFit (Time (starts.first +ℤ (pos n *ℤ starts.slide))) in
        subst P (sym (get_or-range_with_len 0 starts.count k d less ∙ zero-add k)) (starts.years k less)

pub starts_are : (time size slide first step : ℤ) (count : ℕ) → first ≡ first_start time size slide → step ≡ slide → count ≡ window_count time size slide
    → map (λ k. first +ℤ (pos k *ℤ step)) (range_with_len 0 count) ≡ window_starts time size slide
starts_are time size slide first step count first_is step_is count_is = rw (first_is, step_is, count_is) refl

pub count_is : (starts : Starts) → length (map Time (starts_of starts)) ≡ starts.count
count_is starts =
    length-map (starts_of starts) Time ∙ length-map-range_with_len (λ k. starts.first +ℤ (pos k *ℤ starts.slide)) 0 starts.count

pub start_at : (starts : Starts) (nth : ℕ) → nth < length (map Time (starts_of starts))
    → slice_get (map Time (starts_of starts)) nth ≡ Some (Time (starts.first +ℤ (pos nth *ℤ starts.slide)))
start_at starts nth below =
    let start : ℕ → ℤ = λ k. starts.first +ℤ (pos k *ℤ starts.slide) in
    let numbers = range_with_len 0 starts.count in
    let less : nth < starts.count = omega (arith, below, count_is starts) in
    let number : slice_get numbers nth ≡ Some nth = slice_get-get_or numbers nth 0 (omega (arith, less, length-range_with_len 0 starts.count))
    ∙ ap Some (get_or-range_with_len 0 starts.count nth 0 less ∙ zero-add nth) in
    slice_get-map Time (map start numbers) nth ∙ ap (option_map Time) (slice_get-map start numbers nth ∙ ap (option_map start) number)

-- ---- the numbers of a start have 64 bits

span_fits : (t : ℤ) → IsSpan t → FitsSigned w64 t
span_fits t span = record { sfits = grind (arith, ints, span.0, span.1) }

span_is_short : (t : ℤ) → IsSpan t → unsigned_abs t ≤ 31_622_400_000_000
span_is_short t span = grind (arith, ints, span.0, span.1)

pub record StartFits (first slide : ℤ) (nth : ℕ) : Type 0 where
  pub first_fits : FitsSigned w64 first
  pub slide_fits : FitsSigned w64 slide
  pub distance_fits : FitsSigned w64 (pos nth *ℤ slide)
  pub start_fits : FitsSigned w64 (first +ℤ (pos nth *ℤ slide))

pub start_numbers_fit : (starts : Starts) (nth : ℕ) → nth < starts.count → StartFits starts.first starts.slide nth
start_numbers_fit starts nth below =
    let zero = starts.years 0 (omega (arith, below)) in
    record {
      first_fits = record { sfits = grind (arith, ints, zero.0, zero.1) };
      slide_fits = span_fits starts.slide starts.slide_is;
      distance_fits = fits_signed_mul w64 (pos nth) starts.slide 64 31_622_400_000_000 (omega (arith, below, starts.few)) (span_is_short starts.slide starts.slide_is) (omega arith);
      start_fits = stamps_have_64_bits (starts.first +ℤ (pos nth *ℤ starts.slide)) (starts.years nth below);
    }

-- the start as it is computed, in numbers of 64 bits
pub start_is : (first slide from : ℤ) (nth : ℕ) → StartFits first slide nth → FitsSigned w64 from → from ≡ pos nth
    → to_z w64 (of_z w64 first) +ℤ to_z w64 (of_z w64 (to_z w64 (of_z w64 from) *ℤ to_z w64 (of_z w64 slide))) ≡ first +ℤ (pos nth *ℤ slide)
start_is first slide from nth fits from_fits is =
    rw (
      to_z-of_z w64 first fits.first_fits,
      to_z-of_z w64 from from_fits,
      to_z-of_z w64 slide fits.slide_fits,
      is,
      to_z-of_z w64 (pos nth *ℤ slide) fits.distance_fits,
    ) refl

-- ---- a time and a window, as numbers of 64 bits

line_time_fits : (t : ℤ) → IsLineTime t → FitsSigned w64 t
line_time_fits t years = record { sfits = grind (arith, ints, years.0, years.1) }

-- the years of a time, of the number that is handed on
pub line_time_handed : (t : ℤ) → IsLineTime t → IsLineTime (to_z w64 (of_z w64 t))
line_time_handed t years = subst IsLineTime (sym (to_z-of_z w64 t (line_time_fits t years))) years

-- the window, of the numbers that are handed on
pub window_handed : (size slide : ℤ) → IsWindow size slide → IsWindow (to_z w64 (of_z w64 size)) (to_z w64 (of_z w64 slide))
window_handed size slide window =
    subst (λ s. IsWindow s (to_z w64 (of_z w64 slide))) (sym (to_z-of_z w64 size (span_fits size window.size_is)))
    (subst (IsWindow size) (sym (to_z-of_z w64 slide (span_fits slide window.slide_is))) window)
