-- The rows of a join are kept apart, whatever lines come after those that its cuts cover.
use Rattle.std.proofs.Common.{◌≡◌, ◌<◌, ◌≤◌, ◌+◌, ◌-◌, ◌^◌, ◌==◌, ◌++◌, [], ◌∷◌, ℕ, zero, suc, List, None, refl, ap, sym, ◌∙◌, subst, arith, filter, map, take, drop}
use Rattle.std.specs.Prelude.{All, if◌then◌else◌, not, sum}
use Rattle.std.specs.List.{AllByRecursion, enumerate_from, flat_map}
use Rattle.std.proofs.lemmas.List.{length-take}
use Rattle.std.proofs.lemmas.List.Elements.{All-head, All-tail}
use Rattle.std.proofs.lemmas.List.Sums.{sum_by-cons}
use Rattle.ssq_shape.specs.declared.bound.Bound.{Bound}
use Rattle.ssq_shape.specs.declared.bound.Joining.{Joining}
use Rattle.ssq_shape.specs.declared.bound.Shape.TheVariants.{Join}
use Rattle.ssq_meaning.specs.FedRows.{FedRow}
use Rattle.ssq_meaning.specs.Cut.{AreCuts, AreWithin, Cut, of_parts}
use Rattle.ssq_meaning.specs.Cut.{Cuts as Offsets}
use Rattle.ssq_meaning.specs.Epochs.{accepted, joined, on_time, seen, time_of_stream, watermark}
use Rattle.ssq_meaning.specs.Feeding.{fed_at, fed_in, time_at}
use Rattle.ssq_meaning.specs.JoinLaws.{AreApart, ArePartsApart, HasFewLines, IsOtherPart}
use Rattle.ssq_meaning.specs.Meaning.{Line, lines_between}
use Rattle.ssq_meaning.specs.Operator.{operator_of}
use Rattle.ssq_meaning.specs.Parts.{Part}
use Rattle.ssq_meaning.specs.Times.{delays, greatest, later, watermark_by}
use Rattle.ssq_course.specs.Laws.{IsFit}

-- ---- the first lines of parts

taken : (most count : ℕ) (lines : List Line) → count ≤ most → take count (take most lines) ≡ take count lines
taken most zero lines le = refl
taken zero (suc count) lines le = absurd (omega (arith, le))
taken (suc most) (suc count) [] le = refl
taken (suc most) (suc count) (line ∷ lines) le = ap (λ (rest : List Line). line ∷ rest) (taken most count lines (omega (arith, le)))

lines_same : (most from to : ℕ) (lines : List Line) → to ≤ most → lines_between from to (take most lines) ≡ lines_between from to lines
lines_same zero from to lines le = let none : to - from ≡ 0 = omega (arith, le) in ap (λ (n : ℕ). take n (drop from [])) none ∙ sym (ap (λ (n : ℕ). take n (drop from lines)) none)
lines_same (suc most) from to [] le = refl
lines_same (suc most) zero to (line ∷ lines) le = taken (suc most) (to - 0) (line ∷ lines) (omega (arith, le))
lines_same (suc most) (suc from) zero (line ∷ lines) le = let none : 0 - suc from ≡ 0 = omega arith in ap (λ (n : ℕ). take n (drop from (take most lines))) none ∙ sym (ap (λ (n : ℕ). take n (drop from lines)) none)
lines_same (suc most) (suc from) (suc to) (line ∷ lines) le =
    let same : suc to - suc from ≡ to - from = omega arith in
    ap (λ (n : ℕ). take n (drop from (take most lines))) same ∙ lines_same most from to lines (omega (arith, le)) ∙ sym (ap (λ (n : ℕ). take n (drop from lines)) same)

module _ (most : ℕ) where
  -- a part with its first lines alone
  abbrev short : Part → Part
  short part = record { stream = part.stream; part = part.part; lines = take most part.lines }

  abbrev AreLow : Cut → Type 0
  AreLow cut = AllByRecursion (λ end. end ≤ most) cut

  parts_same : {A : Type 0} (say : Part → ℕ → ℕ → A) → ((part : Part) (from to : ℕ) → to ≤ most → say (short part) from to ≡ say part from to) → (parts : List Part) (froms tos : Cut) → AreLow tos
      → of_parts say (map short parts) froms tos ≡ of_parts say parts froms tos
  unfolding of_parts
  parts_same say each [] froms tos low = refl
  parts_same say each (part ∷ parts) [] tos low = refl
  parts_same say each (part ∷ parts) (from ∷ froms) [] low = refl
  parts_same say each (part ∷ parts) (from ∷ froms) (to ∷ tos) low = (let rest = parts_same say each parts froms tos low.1 in let first = each part from to low.0 in λ i. first i ∷ rest i)

  module _ (query : Bound) where
    fed_same : (epoch : ℕ) (part : Part) (from to : ℕ) → to ≤ most → fed_in query epoch (short part) from to ≡ fed_in query epoch part from to
    fed_same epoch part from to le = ap (λ (lines : List Line). flat_map (λ line. fed_at query epoch part line.0 line.1) (enumerate_from from lines)) (lines_same most from to part.lines le)

    time_same : (stream : ℕ) (part : Part) (from to : ℕ) → to ≤ most → time_of_stream query stream (short part) from to ≡ time_of_stream query stream part from to
    time_same stream part from to le =
        ap (λ (lines : List Line). if part.stream == stream then greatest (map (λ line. time_at query part.stream line) lines) else None) (lines_same most from to part.lines le)

    module _ (parts : List Part) (cuts : Offsets) (n : ℕ) (low : (e : ℕ) → e ≤ n → AreLow (cuts e)) where
      seen_same : (stream e : ℕ) → e ≤ n → seen query (map short parts) cuts stream e ≡ seen query parts cuts stream e
      unfolding seen
      seen_same stream zero le = refl
      seen_same stream (suc e) le =
          let before = seen_same stream e (omega (arith, le)) in
          let here = ap greatest (parts_same (time_of_stream query stream) (time_same stream) parts (cuts e) (cuts (e + 1)) (low (e + 1) (omega (arith, le)))) in
          λ i. later (before i) (here i)

      watermark_same : (e : ℕ) → e ≤ n → watermark query (map short parts) cuts e ≡ watermark query parts cuts e
      watermark_same e le = λ i. watermark_by (delays query) (λ stream. seen_same stream e le i)

      on_time_same : (e : ℕ) → e < n → on_time query (map short parts) cuts e ≡ on_time query parts cuts e
      on_time_same e less =
          let mark = watermark_same e (omega (arith, less)) in
          let rows = ap joined (parts_same (fed_in query e) (fed_same e) parts (cuts e) (cuts (e + 1)) (low (e + 1) (omega (arith, less)))) in
          λ i. filter (λ (row : FedRow). not ((operator_of query).is_late (mark i) row)) (rows i)

      accepted_same : (e : ℕ) → e ≤ n → accepted query (map short parts) cuts e ≡ accepted query parts cuts e
      unfolding accepted
      accepted_same zero le = refl
      accepted_same (suc e) le = (let before = accepted_same e (omega (arith, le)) in let here = on_time_same e (omega (arith, le)) in λ i. before i ++ here i)

  others_short : (part : Part) (parts : List Part) → AllByRecursion (IsOtherPart part) parts → AllByRecursion (IsOtherPart (short part)) (map short parts)
  others_short part [] apart = tt
  others_short part (other ∷ parts) apart = (apart.0, others_short part parts apart.1)

  apart_short : (parts : List Part) → ArePartsApart parts → ArePartsApart (map short parts)
  apart_short [] apart = tt
  apart_short (part ∷ parts) apart = (others_short part parts apart.0, apart_short parts apart.1)

  few_short : (parts : List Part) → most ≤ 2 ^ 64 → All IsFit parts → AllByRecursion HasFewLines (map short parts)
  few_short [] le fit = tt
  few_short (part ∷ parts) le fit =
      (record { number = (All-head IsFit part parts fit).1; lines = omega (arith, length-take most part.lines, le) }, few_short parts le (All-tail IsFit part parts fit))

-- ---- the lines that cuts cover

low_weaker : (one other : ℕ) → one ≤ other → (cut : Cut) → AllByRecursion (λ end. end ≤ one) cut → AllByRecursion (λ end. end ≤ other) cut
low_weaker one other le [] low = tt
low_weaker one other le (end ∷ cut) low = (omega (arith, le, low.0), low_weaker one other le cut low.1)

below_sum : (cut : Cut) → AllByRecursion (λ end. end ≤ sum cut) cut
below_sum [] = tt
below_sum (end ∷ cut) = (omega (arith, sum_by-cons (λ n. n) end cut), low_weaker (sum cut) (sum (end ∷ cut)) (omega (arith, sum_by-cons (λ n. n) end cut)) cut (below_sum cut))

low_before : (most : ℕ) (parts : List Part) (froms tos : Cut) → AreWithin parts froms tos → AllByRecursion (λ end. end ≤ most) tos → AllByRecursion (λ end. end ≤ most) froms
low_before most [] [] [] within low = tt
low_before most [] [] (to ∷ tos) within low = absurd within
low_before most [] (from ∷ froms) tos within low = absurd within
low_before most (part ∷ parts) [] tos within low = absurd within
low_before most (part ∷ parts) (from ∷ froms) [] within low = absurd within
low_before most (part ∷ parts) (from ∷ froms) (to ∷ tos) within low = (omega (arith, within.0, low.0), low_before most parts froms tos within.1 low.1)

low_from : (parts : List Part) (cuts : Offsets) (n : ℕ) → AreCuts parts cuts n → (back e : ℕ) → e + back ≡ n → AllByRecursion (λ end. end ≤ sum (cuts n)) (cuts e)
low_from parts cuts n are zero e is = (let same : n ≡ e = omega (arith, is) in subst (λ (m : ℕ). AllByRecursion (λ end. end ≤ sum (cuts n)) (cuts m)) same (below_sum (cuts n)))
low_from parts cuts n are (suc back) e is = low_before (sum (cuts n)) parts (cuts e) (cuts (e + 1)) (are.follow e (omega (arith, is))) (low_from parts cuts n are back (e + 1) (omega (arith, is)))

-- ---- the rows

-- the law of places
abbrev pub RowsAreApart : Type 0
RowsAreApart = (query : Bound) (joining : Joining) → query.shape ≡ Join joining → (parts : List Part) → ArePartsApart parts → AllByRecursion HasFewLines parts → (cuts : Offsets) (n : ℕ) → n ≤ 2 ^ 32
    → AreApart (accepted query parts cuts n)

pub accepted_apart : RowsAreApart → (query : Bound) (joining : Joining) → query.shape ≡ Join joining → (parts : List Part) → ArePartsApart parts → All IsFit parts → (cuts : Offsets) (n : ℕ) → AreCuts parts cuts n
    → sum (cuts n) ≤ 2 ^ 64 → n ≤ 2 ^ 32 → AreApart (accepted query parts cuts n)
accepted_apart law query joining is parts apart fit cuts n are few most =
    let line = sum (cuts n) in
    let low : (e : ℕ) → e ≤ n → AllByRecursion (λ end. end ≤ line) (cuts e) = λ e le. low_from parts cuts n are (n - e) e (omega (arith, le)) in
    subst AreApart (accepted_same line query parts cuts n low n (omega arith)) (law query joining is (map (short line) parts) (apart_short line parts apart) (few_short line parts few fit) cuts n most)
