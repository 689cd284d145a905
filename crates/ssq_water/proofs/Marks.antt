-- The least mark, stream by stream.
use Rattle.std.proofs.Common.{◌≡◌, ◌<◌, ◌+◌, ◌≤◌, [], ◌∷◌, ℕ, zero, suc, ℤ, List, Option, Some, None, refl, ap, sym, ◌∙◌, arith, map, drop, length, get_or}
use Rattle.std.specs.Prelude.{◌-ℤ◌, replicate}
use Rattle.std.specs.Int.{int_min}
use Rattle.std.specs.List.{cons_option}
use Rattle.std.proofs.lemmas.Int.{ints, to_z-of_z}
use mir.Val.{SFits, of_z, to_z}
use mir.Syntax.{w64}
use Rattle.std.proofs.lemmas.List.{drop_more, drop_all}
use Rattle.std.proofs.lemmas.Grind.{common_steps}
use Rattle.ssq_time.specs.Time.{IsLineTime, IsStampTime}
use Rattle.ssq_shape.specs.declared.bound.Stream.{Stream}
use Rattle.ssq_meaning.specs.Times.{Delay, delay_of, delays_from, earlier, least, less_delay}
use Rattle.ssq_water.specs.Water.{seen_at, lesser, AreLineTimes, IsDelay}

-- a time of a line less a delay can be printed, and has 64 bits
pub mark_printed : (time delay : ℤ) → IsLineTime time → IsDelay delay → IsStampTime (time -ℤ delay)
mark_printed time delay line is = (grind (arith, ints, line, is), grind (arith, ints, line, is))

pub ruleset marks = (mark_printed)

-- the least of the marks so far and those that are left
abbrev pub least_with : Option ℤ → List (Option ℤ) → Option ℤ
least_with None marks = least marks
least_with (Some so_far) marks = least (Some so_far ∷ marks)

-- the marks of the streams from this place on
abbrev pub marks_from : ℕ → List Stream → List (Option ℤ) → List (Option ℤ)
marks_from at streams seen = map (λ (stream : Delay). less_delay (seen_at seen stream.0) stream.1) (delays_from at streams)

min_assoc : (a b c : ℤ) → int_min a (int_min b c) ≡ int_min (int_min a b) c
min_assoc a b c = grind (arith, ints)

joined : (so_far mark : ℤ) (marks : List (Option ℤ)) → least (Some so_far ∷ Some mark ∷ marks) ≡ least (Some (int_min so_far mark) ∷ marks)
joined so_far mark [] = refl
joined so_far mark (m ∷ ms) = by_rest (least (m ∷ ms)) where
  by_rest : (rest : Option ℤ) → earlier (Some so_far) (earlier (Some mark) rest) ≡ earlier (Some (int_min so_far mark)) rest
  by_rest None = refl
  by_rest (Some t) = ap Some (min_assoc so_far mark t)

-- one mark more
pub with_mark : (so_far : Option ℤ) (mark : ℤ) (marks : List (Option ℤ)) → least_with so_far (Some mark ∷ marks) ≡ least_with (Some (lesser so_far mark)) marks
with_mark None mark marks = refl
with_mark (Some so_far) mark marks = joined so_far mark marks

-- where a stream has no time yet
pub with_none : (so_far : Option ℤ) (marks : List (Option ℤ)) → least_with so_far (None ∷ marks) ≡ None
with_none None [] = refl
with_none None (m ∷ ms) = refl
with_none (Some so_far) [] = refl
with_none (Some so_far) (m ∷ ms) = refl

pub with_nothing : (so_far : Option ℤ) → least_with so_far [] ≡ so_far
with_nothing None = refl
with_nothing (Some so_far) = refl

pub front : (at : ℕ) (streams : List Stream) (seen : List (Option ℤ)) (stream : Stream) → at < length streams → stream ≡ get_or streams at stream
    → marks_from at (drop at streams) seen ≡ map (λ (stream : Delay). less_delay (seen_at seen stream.0) stream.1) (cons_option (delay_of at stream.delay) (delays_from (at + 1) (drop (at + 1) streams)))
unfolding delays_from
front at streams seen stream inside is =
    let split : drop at streams ≡ stream ∷ drop (at + 1) streams = drop_more streams at stream inside ∙ ap (λ (s : Stream). s ∷ drop (at + 1) streams) (sym is) in
    ap (λ left. marks_from at left seen) split

-- a stream that isn't watermarked has no mark
pub passed : (so_far : Option ℤ) (at : ℕ) (streams : List Stream) (seen : List (Option ℤ)) (stream : Stream) (all : Option ℤ) → at < length streams → stream ≡ get_or streams at stream
    → stream.delay ≡ None → least_with so_far (marks_from at (drop at streams) seen) ≡ all → least_with so_far (marks_from (at + 1) (drop (at + 1) streams) seen) ≡ all
passed so_far at streams seen stream all inside is none left =
    let same : marks_from at (drop at streams) seen ≡ marks_from (at + 1) (drop (at + 1) streams) seen =
    front at streams seen stream inside is
    ∙ ap (λ (delay : Option ℤ). map (λ (s : Delay). less_delay (seen_at seen s.0) s.1) (cons_option (delay_of at delay) (delays_from (at + 1) (drop (at + 1) streams)))) none in
    ap (least_with so_far) (sym same) ∙ left

marked : (at : ℕ) (streams : List Stream) (seen : List (Option ℤ)) (stream : Stream) (delay : ℤ) → at < length streams → stream ≡ get_or streams at stream → stream.delay ≡ Some delay
    → marks_from at (drop at streams) seen ≡ less_delay (seen_at seen at) delay ∷ marks_from (at + 1) (drop (at + 1) streams) seen
marked at streams seen stream delay inside is some =
    front at streams seen stream inside is
    ∙ ap (λ (delay : Option ℤ). map (λ (s : Delay). less_delay (seen_at seen s.0) s.1) (cons_option (delay_of at delay) (delays_from (at + 1) (drop (at + 1) streams)))) some

-- one watermarked stream more
pub goes_on : (so_far : Option ℤ) (at : ℕ) (streams : List Stream) (seen : List (Option ℤ)) (stream : Stream) (delay time : ℤ) (all : Option ℤ) → at < length streams → stream ≡ get_or streams at stream
    → stream.delay ≡ Some delay → seen_at seen at ≡ Some time → least_with so_far (marks_from at (drop at streams) seen) ≡ all
    → least_with (Some (lesser so_far (time -ℤ delay))) (marks_from (at + 1) (drop (at + 1) streams) seen) ≡ all
goes_on so_far at streams seen stream delay time all inside is some there left =
    let rest = marks_from (at + 1) (drop (at + 1) streams) seen in
    sym (with_mark so_far (time -ℤ delay) rest)
    ∙ ap (λ (t : Option ℤ). least_with so_far (less_delay t delay ∷ rest)) (sym there)
    ∙ ap (least_with so_far) (sym (marked at streams seen stream delay inside is some))
    ∙ left

-- a watermarked stream that has no time yet: there is no watermark
pub stops : (so_far : Option ℤ) (at : ℕ) (streams : List Stream) (seen : List (Option ℤ)) (stream : Stream) (delay : ℤ) (all : Option ℤ) → at < length streams → stream ≡ get_or streams at stream
    → stream.delay ≡ Some delay → seen_at seen at ≡ None → least_with so_far (marks_from at (drop at streams) seen) ≡ all → None ≡ all
stops so_far at streams seen stream delay all inside is some none left =
    let rest = marks_from (at + 1) (drop (at + 1) streams) seen in
    sym (with_none so_far rest)
    ∙ ap (λ (t : Option ℤ). least_with so_far (less_delay t delay ∷ rest)) (sym none)
    ∙ ap (least_with so_far) (sym (marked at streams seen stream delay inside is some))
    ∙ left

-- ---- no times yet

nothing_at : (n stream : ℕ) → seen_at (replicate n None) stream ≡ None
nothing_at zero stream = refl
nothing_at (suc n) zero = refl
nothing_at (suc n) (suc stream) = nothing_at n stream

nothing_timed : (n : ℕ) → AreLineTimes (replicate n None)
nothing_timed n k d less = grind (arith, common_steps)

-- no stream is left
pub ended : (so_far : Option ℤ) (at : ℕ) (streams : List Stream) (seen : List (Option ℤ)) (all : Option ℤ) → length streams ≤ at
    → least_with so_far (marks_from at (drop at streams) seen) ≡ all → so_far ≡ all
unfolding delays_from
ended so_far at streams seen all le left =
    let over : drop at streams ≡ [] = drop_all at streams le in
    sym (with_nothing so_far) ∙ ap (λ (s : List Stream). least_with so_far (marks_from at s seen)) (sym over) ∙ left

-- numbers of 64 bits are handed on as their bits
pub told : (least joined : Option ℤ) (result mark time delay : ℤ) → SFits w64 result → SFits w64 mark → SFits w64 time → SFits w64 delay
    → joined ≡ Some (to_z w64 (of_z w64 result)) → result ≡ lesser least (to_z w64 (of_z w64 mark)) → mark ≡ to_z w64 (of_z w64 time) -ℤ to_z w64 (of_z w64 delay)
    → joined ≡ Some (lesser least (time -ℤ delay))
told least joined result mark time delay r m t d is lesser_is mark_is =
    let rs = to_z-of_z w64 result r in
    let ms = to_z-of_z w64 mark m in
    let ts = to_z-of_z w64 time t in
    let ds = to_z-of_z w64 delay d in
    let value : mark ≡ time -ℤ delay = mark_is ∙ (λ i. ts i -ℤ ds i) in
    is ∙ ap Some (rs ∙ lesser_is ∙ ap (lesser least) (ms ∙ value))
