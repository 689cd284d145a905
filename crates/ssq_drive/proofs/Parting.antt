-- Where the parts of a setting begin.
use Rattle.std.proofs.Common.{◌≡◌, ◌+◌, ◌++◌, ℕ, zero, suc, List, [], ◌∷◌, length, map, refl, sym, ap, ◌∙◌, add-one, length-append, arith}
use Rattle.std.proofs.lemmas.List.{append_assoc, length-map}
use Rattle.ssq_plans.specs.declared.part.PartEnd.{PartEnd}
use Rattle.ssq_meaning.specs.Meaning.{Line}
use Rattle.ssq_meaning.specs.Parts.{Part, parts_from, parts_of}
use Rattle.ssq_core.specs.Course.{Ends}
use Rattle.ssq_course.specs.Setting.{Setting, parts_in, first_ends, end_at}
use Rattle.ssq_open.specs.declared.wanted.Opened.{Opened}
use Rattle.ssq_open.specs.Numbers.{HasNumbers}
use Rattle.ssq_open.specs.Watermarks.{watermarked}
use Rattle.ssq_board.specs.Core.{Scope}
use Rattle.ssq_board.specs.Shown.{IsStart}
use Rattle.ssq_desk.specs.Round.{start_at}
use Rattle.ssq_desk.proofs.Beginnings.{long_ends}
use Rattle.ssq_open.specs.Looking.{begins, begins_from, parts_of as first_parts}

-- they begin with no line
abbrev begin_all : List Part → Ends
begin_all parts = map (λ part. end_at part 0) parts

nothing_left : (ends : Ends) → 0 ≡ length ends → ends ≡ []
nothing_left [] none = refl
nothing_left (end ∷ ends) none = absurd (omega (arith, none))

parts_count : (stream n : ℕ) → length (first_parts stream n) ≡ n
parts_count stream zero = refl
parts_count stream (suc n) =
    let end : PartEnd = record { stream = stream; part = n; end = 0 } in
    let before = parts_count stream n in
    let more = length-append (first_parts stream n) (end ∷ []) in omega (arith, before, more)

-- the parts of a stream from one on, after those before it, and then those of the streams after it
parts_begin : (stream at left : ℕ) (counts : List ℕ) (lines : List (List Line)) → length lines ≡ left + length (begins_from (stream + 1) counts)
    → first_parts stream at ++ begin_all (parts_from stream at left counts lines) ≡ first_parts stream (at + left) ++ begins_from (stream + 1) counts
unfolding parts_from
parts_begin stream at left counts [] count =
    let none : left ≡ 0 = omega (arith, count) in
    let rest = nothing_left (begins_from (stream + 1) counts) (omega (arith, count)) in
    ap (λ (n : ℕ). first_parts stream n ++ []) (let e : at ≡ at + left = omega (arith, none) in e) ∙ ap (λ (ends : Ends). first_parts stream (at + left) ++ ends) (sym rest)
parts_begin stream at (suc left) counts (own ∷ lines) count =
    let end : PartEnd = record { stream = stream; part = at; end = 0 } in
    let rest = begin_all (parts_from stream (at + 1) left counts lines) in
    sym (append_assoc (first_parts stream at) (end ∷ []) rest) ∙ ap (λ (n : ℕ). first_parts stream n ++ rest) (sym (add-one at))
    ∙ parts_begin stream (at + 1) left counts lines (omega (arith, count))
    ∙ ap (λ (n : ℕ). first_parts stream n ++ begins_from (stream + 1) counts) (let e : at + 1 + left ≡ at + suc left = omega arith in e)
parts_begin stream at zero [] (own ∷ lines) count = absurd (omega (arith, count))
parts_begin stream at zero (next ∷ counts) (own ∷ lines) count =
    let whole : length (first_parts (stream + 1) next ++ begins_from (stream + 1 + 1) counts) ≡ next + length (begins_from (stream + 1 + 1) counts) =
    length-append (first_parts (stream + 1) next) (begins_from (stream + 1 + 1) counts) ∙ ap (λ (n : ℕ). n + length (begins_from (stream + 1 + 1) counts)) (parts_count (stream + 1) next) in
    let here = parts_begin (stream + 1) 0 next counts (own ∷ lines) (omega (arith, count, whole)) in
    let named = ap (λ (n : ℕ). first_parts (stream + 1) n ++ begins_from (stream + 1 + 1) counts) (let e : 0 + next ≡ next = omega arith in e) in
    ap (λ (n : ℕ). first_parts stream n ++ begin_all (parts_from (stream + 1) 0 next counts (own ∷ lines))) (let e : at ≡ at + 0 = omega arith in e)
    ∙ ap (λ (ends : Ends). first_parts stream (at + 0) ++ ends) (here ∙ named)

-- as the numbers of the parts of each stream say, where there is one log for each
pub begin_as_counted : (counts : List ℕ) (lines : List (List Line)) → length lines ≡ length (begins counts) → begin_all (parts_of counts lines) ≡ begins counts
begin_as_counted [] lines count = refl
begin_as_counted (own ∷ counts) lines count =
    let whole : length (first_parts 0 own ++ begins_from 1 counts) ≡ own + length (begins_from 1 counts) =
    length-append (first_parts 0 own) (begins_from 1 counts) ∙ ap (λ (n : ℕ). n + length (begins_from 1 counts)) (parts_count 0 own) in
    parts_begin 0 0 own counts lines (count ∙ whole) ∙ ap (λ (n : ℕ). first_parts 0 n ++ begins_from 1 counts) (let e : 0 + own ≡ own = omega arith in e)

-- ---- where a round begins

-- so what was opened is a start
pub start_is : (s : Setting) (r : Scope) (found : Opened) → HasNumbers (watermarked s.job.bound.streams) (first_ends s) found → length r.available ≡ length (parts_in s) → IsStart r (start_at (first_ends s) s.job.bound found)
start_is s r found numbers parts =
    let count = length-map (parts_in s) (λ (part : Part). end_at part 0) in
    let from = long_ends (first_ends s) found.plans (length (parts_in s)) found.committed count numbers.follow numbers.before in
    let to = long_ends (first_ends s) found.plans (length (parts_in s)) (length found.plans) count numbers.follow (omega arith) in
    record { from = from ∙ sym to; available = parts ∙ sym to }
