-- The watermarked streams that an opening knows are those with a delay, and their greatest times give the watermark.
use Rattle.std.proofs.Common.{◌≡◌, ◌+◌, ◌==◌, [], ◌∷◌, ℕ, ℤ, List, Option, Some, None, true, refl, ap, sym, ◌∙◌, map, length}
use Rattle.std.specs.List.{cons_option, list_all, zip}
use Rattle.std.proofs.lemmas.Bool.{eq-eqb, and_from}
use Rattle.std.proofs.lemmas.List.{length-map}
use Rattle.ssq_shape.specs.declared.bound.Stream.{Stream}
use Rattle.ssq_meaning.specs.Times.{Delay, delay_of, delays, delays_from, least, less_delay, watermark_by}
use Rattle.ssq_meaning.specs.Epochs.{seen}
use Rattle.ssq_plans.specs.declared.seen.SeenBy.{SeenBy}
use Rattle.ssq_core.specs.Course.{Cuts}
use Rattle.ssq_course.specs.Setting.{Setting, parts_in, cuts_of, seen_at, watermark_at}
use Rattle.ssq_open.specs.declared.streams.Watermarked.{Watermarked}
use Rattle.ssq_open.specs.Watermarks.{watermarked, watermarked_by, watermarked_from, is_line_of, has_lines, mark_of, mark_by}

-- a stream with its delay, as the meaning has it
abbrev delay_in : Watermarked → Delay
delay_in stream = (stream.stream, stream.delay)

one_more : (at : ℕ) (delay : Option ℤ) (rest : List Delay) (others : List Watermarked) → rest ≡ map delay_in others
    → cons_option (delay_of at delay) rest ≡ map delay_in (watermarked_by at delay others)
one_more at None rest others same = same
one_more at (Some late) rest others same = ap (λ (ds : List Delay). (at, late) ∷ ds) same

delays_are : (at : ℕ) (streams : List Stream) → delays_from at streams ≡ map delay_in (watermarked_from at streams)
unfolding delays_from
delays_are at [] = refl
delays_are at (stream ∷ streams) = one_more at stream.delay (delays_from (at + 1) streams) (watermarked_from (at + 1) streams) (delays_are (at + 1) streams)

-- what is seen of a stream
abbrev line_of : (ℕ → Option ℤ) → Delay → SeenBy
line_of of stream = record { stream = stream.0; time = of stream.0 }

abbrev lines_of : (ℕ → Option ℤ) → List Watermarked → List SeenBy
lines_of of streams = map (line_of of) (map delay_in streams)

abbrev marks_of : (ℕ → Option ℤ) → List Watermarked → List (Option ℤ)
marks_of of streams = map (λ (stream : Delay). less_delay (of stream.0) stream.1) (map delay_in streams)

each_own : (of : ℕ → Option ℤ) (streams : List Watermarked) → list_all is_line_of (zip streams (lines_of of streams)) ≡ true
each_own of [] = refl
each_own of (w ∷ ws) = and_from (w.stream == w.stream) _ (eq-eqb w.stream w.stream refl) (each_own of ws)

lines_own : (of : ℕ → Option ℤ) (streams : List Watermarked) → has_lines streams (lines_of of streams) ≡ true
lines_own of streams =
    let same : length streams ≡ length (lines_of of streams) = sym (length-map (map delay_in streams) (line_of of) ∙ length-map streams delay_in) in
    and_from (length streams == length (lines_of of streams)) _ (eq-eqb (length streams) (length (lines_of of streams)) same) (each_own of streams)

-- they say the marks
marks_are : (of : ℕ → Option ℤ) (streams : List Watermarked) → map mark_of (zip streams (lines_of of streams)) ≡ marks_of of streams
marks_are of [] = refl
marks_are of (w ∷ ws) = ap (λ (marks : List (Option ℤ)). less_delay (of w.stream) w.delay ∷ marks) (marks_are of ws)

-- there is one line for each watermarked stream, whatever its time
pub lines_of_each : (of : ℕ → Option ℤ) (streams : List Stream) → has_lines (watermarked streams) (map (line_of of) (delays_from 0 streams)) ≡ true
lines_of_each of streams = ap (λ (ds : List Delay). has_lines (watermarked streams) (map (line_of of) ds)) (delays_are 0 streams) ∙ lines_own of (watermarked streams)

-- so each commit has one
pub lines_there : (s : Setting) (cuts : Cuts) (e : ℕ) → has_lines (watermarked s.job.bound.streams) (seen_at s cuts e) ≡ true
lines_there s cuts e = lines_of_each (λ stream. seen s.job.bound (parts_in s) (cuts_of cuts) stream e) s.job.bound.streams

-- and they give the watermark
pub mark_by_lines : (s : Setting) (cuts : Cuts) (e : ℕ) → watermark_at s cuts e ≡ mark_by (watermarked s.job.bound.streams) (seen_at s cuts e)
mark_by_lines s cuts e =
    let of : ℕ → Option ℤ = λ stream. seen s.job.bound (parts_in s) (cuts_of cuts) stream e in
    let streams = watermarked s.job.bound.streams in
    ap (λ (ds : List Delay). least (map (λ (stream : Delay). less_delay (of stream.0) stream.1) ds)) (delays_are 0 s.job.bound.streams)
    ∙ sym (ap least (marks_are of streams))
    ∙ sym (ap (λ (ds : List Delay). mark_by streams (map (line_of of) ds)) (delays_are 0 s.job.bound.streams))

nothing_seen : (streams : List Delay) → watermark_by streams (λ stream. None) ≡ None
nothing_seen [] = refl
nothing_seen (d ∷ []) = refl
nothing_seen (d ∷ e ∷ ds) = refl

-- before the first epoch there is none
pub unmarked : (s : Setting) (cuts : Cuts) → watermark_at s cuts 0 ≡ None
unfolding seen
unmarked s cuts = nothing_seen (delays s.job.bound)
