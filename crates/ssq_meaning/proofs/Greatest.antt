-- The greatest time of some lines is that of their pieces together, so what was seen depends on no cut in between.
use Rattle.std.proofs.Common.{◌≡◌, ◌≤◌, ◌+◌, ◌-◌, ◌++◌, [], ◌∷◌, ℕ, zero, suc, ℤ, List, Option, Some, None, Bool, true, false, refl, ap, sym, ◌∙◌, arith, map, add-one}
use Rattle.std.specs.Prelude.{◌==◌, if◌then◌else◌}
use Rattle.std.specs.Int.{int_max}
use Rattle.std.proofs.lemmas.Int.{ints}
use Rattle.std.proofs.lemmas.List.{map-append}
use Rattle.ssq_shape.specs.declared.bound.Bound.{Bound}
use Rattle.ssq_meaning.specs.Meaning.{Line, lines_between}
use Rattle.ssq_meaning.specs.Parts.{Part}
use Rattle.ssq_meaning.specs.Cut.{Cut, Cuts, start_of, of_parts, AreWithin, AreCuts}
use Rattle.ssq_meaning.specs.Times.{later, greatest, Delay, delays, watermark_by}
use Rattle.ssq_meaning.specs.Feeding.{time_at, time_in}
use Rattle.ssq_meaning.specs.Epochs.{time_of_stream, time_between, seen, watermark, watermark_before}
use Rattle.ssq_meaning.proofs.Between.{take-more}
use Rattle.ssq_meaning.proofs.Water.{seen_left}

-- ---- times

pub later_assoc : (r s t : Option ℤ) → later (later r s) t ≡ later r (later s t)
later_assoc None s t = refl
later_assoc (Some r) None t = refl
later_assoc (Some r) (Some s) None = refl
later_assoc (Some r) (Some s) (Some t) = ap Some (max_assoc r s t) where
  max_assoc : (a b c : ℤ) → int_max (int_max a b) c ≡ int_max a (int_max b c)
  max_assoc a b c = grind (arith, ints)

later_comm : (s t : Option ℤ) → later s t ≡ later t s
later_comm None None = refl
later_comm None (Some t) = refl
later_comm (Some s) None = refl
later_comm (Some s) (Some t) = ap Some (max_comm s t) where
  max_comm : (a b : ℤ) → int_max a b ≡ int_max b a
  max_comm a b = grind (arith, ints)

-- the middle two of four times may be exchanged
later_crossed : (a b c d : Option ℤ) → later (later a b) (later c d) ≡ later (later a c) (later b d)
later_crossed a b c d =
    later_assoc a b (later c d)
    ∙ ap (later a) (sym (later_assoc b c d) ∙ ap (λ (t : Option ℤ). later t d) (later_comm b c) ∙ later_assoc c b d)
    ∙ sym (later_assoc a c (later b d))

greatest-append : (xs ys : List (Option ℤ)) → greatest (xs ++ ys) ≡ later (greatest xs) (greatest ys)
greatest-append [] ys = refl
greatest-append (x ∷ xs) ys = ap (later x) (greatest-append xs ys) ∙ sym (later_assoc x (greatest xs) (greatest ys))

-- ---- a part

-- the lines of a longer front are those of the front and those between
more_lines : (from to : ℕ) (lines : List Line) → from ≤ to → lines_between 0 to lines ≡ lines_between 0 from lines ++ lines_between from to lines
more_lines from to lines le =
    let start : from - 0 ≡ from = omega arith in
    let end : to - 0 ≡ to = omega arith in
    rw (start, end) (take-more from to lines le)

-- so the greatest time of the longer front is that of the two
more_time : (query : Bound) (part : Part) (from to : ℕ) → from ≤ to → time_in query part 0 to ≡ later (time_in query part 0 from) (time_in query part from to)
more_time query part from to le =
    let of : Line → Option ℤ = λ line. time_at query part.stream line in
    ap (λ (lines : List Line). greatest (map of lines)) (more_lines from to part.lines le)
    ∙ ap greatest (map-append of (lines_between 0 from part.lines) (lines_between from to part.lines))
    ∙ greatest-append (map of (lines_between 0 from part.lines)) (map of (lines_between from to part.lines))

more_of_stream : (query : Bound) (stream : ℕ) (part : Part) (from to : ℕ) → from ≤ to
    → time_of_stream query stream part 0 to ≡ later (time_of_stream query stream part 0 from) (time_of_stream query stream part from to)
more_of_stream query stream part from to le =
    ap (λ (t : Option ℤ). if part.stream == stream then t else None) (more_time query part from to le)
    ∙ both (part.stream == stream) (time_in query part 0 from) (time_in query part from to)
  where
    both : (b : Bool) (s t : Option ℤ) → (if b then later s t else None) ≡ later (if b then s else None) (if b then t else None)
    both true s t = refl
    both false s t = refl

-- ---- all parts

grown : (query : Bound) (stream : ℕ) (parts : List Part) (froms tos : Cut) → AreWithin parts froms tos
    → time_between query parts (start_of parts) tos stream ≡ later (time_between query parts (start_of parts) froms stream) (time_between query parts froms tos stream)
unfolding of_parts
grown query stream [] [] [] within = refl
grown query stream [] [] (to ∷ tos) within = absurd within
grown query stream [] (from ∷ froms) tos within = absurd within
grown query stream (part ∷ parts) [] tos within = absurd within
grown query stream (part ∷ parts) (from ∷ froms) [] within = absurd within
grown query stream (part ∷ parts) (from ∷ froms) (to ∷ tos) within =
    let here = more_of_stream query stream part from to within.0 in
    let rest = grown query stream parts froms tos within.1 in
    (λ i. later (here i) (rest i))
    ∙ later_crossed (time_of_stream query stream part 0 from) (time_of_stream query stream part from to)
    (time_between query parts (start_of parts) froms stream) (time_between query parts froms tos stream)

-- ---- the epochs

-- between a cut and itself there is no time
none_between : (query : Bound) (parts : List Part) (cut : Cut) (stream : ℕ) → time_between query parts cut cut stream ≡ None
unfolding seen
none_between query parts cut stream = seen_left query parts (λ e. cut) 0 refl stream

fewer : (parts : List Part) (cuts : Cuts) (n : ℕ) → AreCuts parts cuts (suc n) → AreCuts parts cuts n
fewer parts cuts n are = record { starts = are.starts; follow = λ e less. are.follow e (omega (arith, less)) }

-- what was seen over first epochs is the greatest time of all lines that they cover
pub seen_is : (query : Bound) (parts : List Part) (cuts : Cuts) (e stream : ℕ) → AreCuts parts cuts e → seen query parts cuts stream e ≡ time_between query parts (start_of parts) (cuts e) stream
unfolding seen
seen_is query parts cuts zero stream are =
    sym (ap (λ (to : Cut). time_between query parts (start_of parts) to stream) are.starts ∙ none_between query parts (start_of parts) stream)
seen_is query parts cuts (suc e) stream are =
    ap (λ (t : Option ℤ). later t (time_between query parts (cuts e) (cuts (e + 1)) stream)) (seen_is query parts cuts e stream (fewer parts cuts e are))
    ∙ sym (grown query stream parts (cuts e) (cuts (e + 1)) (are.follow e (omega arith)))
    ∙ ap (λ (n : ℕ). time_between query parts (start_of parts) (cuts n) stream) (add-one e)

-- where two cuttings cover the same lines, the watermarks of the next epochs are the same
pub water_is : (query : Bound) (parts : List Part) (one other : Cuts) (e f : ℕ) → AreCuts parts one e → AreCuts parts other f → one e ≡ other f
    → watermark query parts one e ≡ watermark query parts other f
water_is query parts one other e f is are same =
    let seen_alike : (stream : ℕ) → seen query parts one stream e ≡ seen query parts other stream f =
    λ stream. seen_is query parts one e stream is ∙ ap (λ (to : Cut). time_between query parts (start_of parts) to stream) same ∙ sym (seen_is query parts other f stream are) in
    λ i. watermark_by (delays query) (λ stream. seen_alike stream i)

-- where no stream has a time, there is no watermark
no_water : (streams : List Delay) → watermark_by streams (λ stream. None) ≡ None
no_water [] = refl
no_water (d ∷ []) = refl
no_water (d ∷ e ∷ ds) = refl

-- the watermark before an epoch is that of the epoch before, and before epoch 0 that of epoch 0, which is none
before_is : (query : Bound) (parts : List Part) (cuts : Cuts) (e : ℕ) → watermark_before query parts cuts e ≡ watermark query parts cuts (e - 1)
unfolding seen
before_is query parts cuts zero = sym (no_water (delays query))
before_is query parts cuts (suc e) = let same : e ≡ suc e - 1 = omega arith in ap (watermark query parts cuts) same

pub water_before_is : (query : Bound) (parts : List Part) (one other : Cuts) (e f : ℕ) → AreCuts parts one (e - 1) → AreCuts parts other (f - 1) → one (e - 1) ≡ other (f - 1)
    → watermark_before query parts one e ≡ watermark_before query parts other f
water_before_is query parts one other e f is are same =
    before_is query parts one e ∙ water_is query parts one other (e - 1) (f - 1) is are same ∙ sym (before_is query parts other f)
