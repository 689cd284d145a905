-- The watermark never falls, and stays where no lines come.
use Rattle.std.proofs.Common.{◌≡◌, ◌≤◌, ◌+◌, ◌-◌, [], ◌∷◌, ℕ, zero, suc, ℤ, List, Option, Some, None, Bool, true, false, refl, ap, ◌∙◌, subst, arith, add-one, map}
use Rattle.std.specs.Prelude.{◌==◌, if◌then◌else◌}
use Rattle.std.proofs.lemmas.Int.{ints}
use Rattle.ssq_shape.specs.declared.bound.Bound.{Bound}
use Rattle.ssq_meaning.specs.Meaning.{Line}
use Rattle.ssq_meaning.specs.Parts.{Part}
use Rattle.ssq_meaning.specs.Cut.{Cut, Cuts, of_parts}
use Rattle.ssq_meaning.specs.Times.{later, earlier, greatest, AtMost, Delay, delays, less_delay, watermark_by}
use Rattle.ssq_meaning.specs.Feeding.{time_at, time_in}
use Rattle.ssq_meaning.specs.Epochs.{time_of_stream, time_between, seen, watermark, watermark_before}
use Rattle.ssq_meaning.proofs.Between.{lines_between-none}

pub AtMost-refl : (t : Option ℤ) → AtMost t t
AtMost-refl None = tt
AtMost-refl (Some t) = grind (arith, ints)

pub AtMost-trans : (s t u : Option ℤ) → AtMost s t → AtMost t u → AtMost s u
AtMost-trans None t u a b = tt
AtMost-trans (Some s) None u a b = absurd a
AtMost-trans (Some s) (Some t) None a b = absurd b
AtMost-trans (Some s) (Some t) (Some u) a b = grind (arith, ints, a, b)

-- a later time is at or above the first
pub later_rises : (s t : Option ℤ) → AtMost s (later s t)
later_rises None t = tt
later_rises (Some s) None = grind (arith, ints)
later_rises (Some s) (Some t) = grind (arith, ints)

earlier_rises : (a b c d : Option ℤ) → AtMost a c → AtMost b d → AtMost (earlier a b) (earlier c d)
earlier_rises None b c d x y = tt
earlier_rises (Some a) None c d x y = tt
earlier_rises (Some a) (Some b) None d x y = absurd x
earlier_rises (Some a) (Some b) (Some c) None x y = absurd y
earlier_rises (Some a) (Some b) (Some c) (Some d) x y = grind (arith, ints, x, y)

less_rises : (s t : Option ℤ) (delay : ℤ) → AtMost s t → AtMost (less_delay s delay) (less_delay t delay)
less_rises None t delay x = tt
less_rises (Some s) None delay x = absurd x
less_rises (Some s) (Some t) delay x = grind (arith, ints, x)

-- where no stream's greatest time falls, the watermark doesn't
pub water_rises : (streams : List Delay) (before now : ℕ → Option ℤ) → ((stream : ℕ) → AtMost (before stream) (now stream))
    → AtMost (watermark_by streams before) (watermark_by streams now)
water_rises [] before now rises = tt
water_rises (d ∷ []) before now rises = less_rises (before d.0) (now d.0) d.1 (rises d.0)
water_rises (d ∷ e ∷ ds) before now rises =
    earlier_rises (less_delay (before d.0) d.1) (watermark_by (e ∷ ds) before) (less_delay (now d.0) d.1) (watermark_by (e ∷ ds) now)
    (less_rises (before d.0) (now d.0) d.1 (rises d.0)) (water_rises (e ∷ ds) before now rises)

module _ (query : Bound) (parts : List Part) (cuts : Cuts) where
  seen_rises : (stream e : ℕ) → AtMost (seen query parts cuts stream e) (seen query parts cuts stream (suc e))
  unfolding seen
  seen_rises stream e = later_rises (seen query parts cuts stream e) (time_between query parts (cuts e) (cuts (e + 1)) stream)

  water_step : (e : ℕ) → AtMost (watermark query parts cuts e) (watermark query parts cuts (suc e))
  water_step e = water_rises (delays query) (λ stream. seen query parts cuts stream e) (λ stream. seen query parts cuts stream (suc e)) (λ stream. seen_rises stream e)

  water_after : (e more : ℕ) → AtMost (watermark query parts cuts e) (watermark query parts cuts (e + more))
  water_after e zero = let same : e ≡ e + 0 = omega arith in subst (λ f. AtMost (watermark query parts cuts e) (watermark query parts cuts f)) same (AtMost-refl (watermark query parts cuts e))
  water_after e (suc more) =
      let same : suc (e + more) ≡ e + suc more = omega arith in
      subst (λ f. AtMost (watermark query parts cuts e) (watermark query parts cuts f)) same
      (AtMost-trans _ _ _ (water_after e more) (water_step (e + more)))

-- from one epoch to a later one
pub water_stays : (query : Bound) (parts : List Part) (cuts : Cuts) (e f : ℕ) → e ≤ f → AtMost (watermark query parts cuts e) (watermark query parts cuts f)
water_stays query parts cuts e f le =
    let same : e + (f - e) ≡ f = omega (arith, le) in
    subst (λ f. AtMost (watermark query parts cuts e) (watermark query parts cuts f)) same (water_after query parts cuts e (f - e))

-- from the epoch before to the next
pub water_rose : (query : Bound) (parts : List Part) (cuts : Cuts) (e : ℕ) → AtMost (watermark_before query parts cuts e) (watermark query parts cuts e)
water_rose query parts cuts zero = tt
water_rose query parts cuts (suc e) = water_stays query parts cuts e (suc e) (omega arith)

none_yet : Option ℤ
none_yet = None

no_time : (query : Bound) (part : Part) (at : ℕ) → time_in query part at at ≡ None
no_time query part at = ap (λ (lines : List Line). greatest (map (λ line. time_at query part.stream line) lines)) (lines_between-none at part.lines)

no_time_of : (query : Bound) (stream : ℕ) (part : Part) (at : ℕ) → time_of_stream query stream part at at ≡ None
unfolding none_yet
no_time_of query stream part at = ap (λ (t : Option ℤ). if part.stream == stream then t else None) (no_time query part at) ∙ both (part.stream == stream)
  where
    both : (b : Bool) → (if b then none_yet else none_yet) ≡ none_yet
    both true = refl
    both false = refl

-- between a cut and itself there is no time
quiet_between : (query : Bound) (stream : ℕ) (parts : List Part) (cut : Cut) → time_between query parts cut cut stream ≡ None
unfolding of_parts
quiet_between query stream [] cut = refl
quiet_between query stream (part ∷ parts) [] = refl
quiet_between query stream (part ∷ parts) (at ∷ cut) =
    let here = no_time_of query stream part at in
    let rest = quiet_between query stream parts cut in
    λ i. later (here i) (rest i)

pub later_none : (t : Option ℤ) → later t None ≡ t
later_none None = refl
later_none (Some t) = refl

seen_quiet : (query : Bound) (parts : List Part) (cuts : Cuts) (stream e : ℕ) → cuts (e + 1) ≡ cuts e → seen query parts cuts stream (suc e) ≡ seen query parts cuts stream e
unfolding seen
seen_quiet query parts cuts stream e still =
    ap (λ (to : Cut). later (seen query parts cuts stream e) (time_between query parts (cuts e) to stream)) still
    ∙ ap (later (seen query parts cuts stream e)) (quiet_between query stream parts (cuts e))
    ∙ later_none (seen query parts cuts stream e)

-- an epoch without lines leaves the greatest times, and so the watermark
pub seen_left : (query : Bound) (parts : List Part) (cuts : Cuts) (e : ℕ) → cuts (e + 1) ≡ cuts e → (stream : ℕ) → seen query parts cuts stream (e + 1) ≡ seen query parts cuts stream e
seen_left query parts cuts e still stream = ap (seen query parts cuts stream) (add-one e) ∙ seen_quiet query parts cuts stream e still

pub water_left : (query : Bound) (parts : List Part) (cuts : Cuts) (e : ℕ) → cuts (e + 1) ≡ cuts e → watermark query parts cuts (e + 1) ≡ watermark query parts cuts e
water_left query parts cuts e still = λ i. watermark_by (delays query) (λ stream. seen_left query parts cuts e still stream i)
