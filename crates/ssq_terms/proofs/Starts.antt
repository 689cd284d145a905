-- The parts of a setting are those that were found.
use Rattle.std.proofs.Common.{◌≡◌, ◌≤◌, ◌+◌, ◌^◌, ◌==◌, ◌&&◌, ◌++◌, [], ◌∷◌, ℕ, zero, suc, List, true, refl, ap, sym, ◌∙◌, arith, add-one, length, map}
use Rattle.std.specs.Prelude.{All}
use Rattle.std.specs.List.{list_all, zip}
use Rattle.std.proofs.lemmas.Bool.{eqb-true, eq-eqb, le-leb, and_from, and_parts}
use Rattle.std.proofs.lemmas.List.{append_assoc, append-nil, map-append}
use Rattle.std.proofs.lemmas.List.Elements.{All-cons, All-nil, All-head, All-tail}
use Rattle.ssq_plans.specs.declared.part.PartEnd.{PartEnd}
use Rattle.ssq_meaning.specs.Meaning.{Line}
use Rattle.ssq_meaning.specs.Parts.{Part, parts_from, parts_of}
use Rattle.ssq_meaning.specs.Epochs.{joined}
use Rattle.ssq_core.specs.Course.{Ends}
use Rattle.ssq_course.specs.Setting.{cut_of, end_at, is_end_of, is_start, is_within}
use Rattle.ssq_course.specs.Laws.{IsFit}
use Rattle.ssq_course.proofs.Proper.{going}
use Rattle.ssq_logs.specs.Asked.{most_lines}
use Rattle.ssq_open.specs.Lens.{counts_of, found_in, found_from, IsFew}
use Rattle.ssq_open.specs.Looking.{begins_from}
use Rattle.ssq_open.specs.Looking.{parts_of as first_of}
use Rattle.ssq_open.specs.Epochs.{start_of, starts, keeps_up, follows}
use Rattle.ssq_terms.specs.Setting.{AreFound}

-- the part is this one, and has at least the lines that were found, which are no more than are taken of a log
pub record IsPartOf (part : Part) (found : PartEnd) : Type 0 where
  pub stream : part.stream ≡ found.stream
  pub number : part.part ≡ found.part
  pub most : found.end ≤ length part.lines
  pub few : found.end ≤ most_lines

-- part by part in order
abbrev pub AreParts : List Part → Ends → Type 0
AreParts [] [] = Unit {0}
AreParts [] (end ∷ ends) = ⊥
AreParts (part ∷ parts) [] = ⊥
AreParts (part ∷ parts) (end ∷ ends) = IsPartOf part end × AreParts parts ends

-- the part is of this number of this stream
pub record IsNamed (part : Part) (found : PartEnd) : Type 0 where
  pub stream_is : part.stream ≡ found.stream
  pub number_is : part.part ≡ found.part

-- part by part in order
abbrev pub AreNamed : List Part → Ends → Type 0
AreNamed [] [] = Unit {0}
AreNamed [] (end ∷ ends) = ⊥
AreNamed (part ∷ parts) [] = ⊥
AreNamed (part ∷ parts) (end ∷ ends) = IsNamed part end × AreNamed parts ends

named : (stream part : ℕ) (own : List ℕ) (rest : List (List ℕ)) (lines : List (List Line)) → length lines ≡ length (own ++ joined rest)
    → AreNamed (parts_from stream part (length own) (counts_of rest) lines) (found_in stream part own ++ found_from (stream + 1) rest)
unfolding parts_from
named stream part [] [] [] count = tt
named stream part [] [] (line ∷ lines) count = absurd (omega (arith, count))
named stream part [] (next ∷ rest) [] count = named (stream + 1) 0 next rest [] count
named stream part [] (next ∷ rest) (line ∷ lines) count = named (stream + 1) 0 next rest (line ∷ lines) count
named stream part (n ∷ own) rest [] count = absurd (omega (arith, count))
named stream part (n ∷ own) rest (line ∷ lines) count = (record { stream_is = refl; number_is = refl }, named stream (part + 1) own rest lines (omega (arith, count)))

pub are_named : (streams : List (List ℕ)) (lines : List (List Line)) → length lines ≡ length (joined streams) → AreNamed (parts_of (counts_of streams) lines) (found_from 0 streams)
are_named [] [] count = tt
are_named [] (line ∷ lines) count = absurd (omega (arith, count))
are_named (own ∷ rest) lines count = named 0 0 own rest lines count

pub named_count : (parts : List Part) (found : Ends) → AreNamed parts found → length found ≡ length parts
named_count [] [] are = refl
named_count [] (end ∷ found) are = absurd are
named_count (part ∷ parts) [] are = absurd are
named_count (part ∷ parts) (end ∷ found) are = ap suc (named_count parts found are.1)

dealt : (stream part : ℕ) (own : List ℕ) (rest : List (List ℕ)) (lines : List (List Line)) → AreFound (own ++ joined rest) lines
    → AreParts (parts_from stream part (length own) (counts_of rest) lines) (found_in stream part own ++ found_from (stream + 1) rest)
unfolding parts_from
dealt stream part [] [] [] are = tt
dealt stream part [] [] (line ∷ lines) are = absurd are
dealt stream part [] (next ∷ rest) [] are = dealt (stream + 1) 0 next rest [] are
dealt stream part [] (next ∷ rest) (line ∷ lines) are = dealt (stream + 1) 0 next rest (line ∷ lines) are
dealt stream part (n ∷ own) rest [] are = absurd are
dealt stream part (n ∷ own) rest (line ∷ lines) are = (record { stream = refl; number = refl; most = are.0; few = are.1 }, dealt stream (part + 1) own rest lines are.2)

pub are_parts : (streams : List (List ℕ)) (lines : List (List Line)) → AreFound (joined streams) lines → AreParts (parts_of (counts_of streams) lines) (found_from 0 streams)
are_parts [] [] are = tt
are_parts [] (line ∷ lines) are = absurd are
are_parts (own ∷ rest) lines are = dealt 0 0 own rest lines are

-- ---- their numbers

abbrev IsLow : ℕ → Type 0
IsLow count = count ≤ 64

low : (streams : List (List ℕ)) → All IsFew streams → All IsLow (counts_of streams)
low [] few = All-nil IsLow
low (own ∷ rest) few = All-cons IsLow (length own) (counts_of rest) (All-head IsFew own rest few) (low rest (All-tail IsFew own rest few))

fit_from : (stream part left : ℕ) (counts : List ℕ) (lines : List (List Line)) → stream + 1 + length counts ≤ 2 ^ 32 → part + left ≤ 64 → All IsLow counts
    → All IsFit (parts_from stream part left counts lines)
unfolding parts_from
fit_from stream part left counts [] streams parts few = All-nil IsFit
fit_from stream part (suc left) counts (own ∷ lines) streams parts few =
    All-cons IsFit (record { stream = stream; part = part; lines = own }) _ (omega (arith, streams), omega (arith, parts))
    (fit_from stream (part + 1) left counts lines streams (omega (arith, parts)) few)
fit_from stream part zero [] (own ∷ lines) streams parts few = All-nil IsFit
fit_from stream part zero (count ∷ counts) (own ∷ lines) streams parts few =
    fit_from (stream + 1) 0 count counts (own ∷ lines) (omega (arith, streams)) (omega (arith, All-head IsLow count counts few)) (All-tail IsLow count counts few)

pub parts_fit : (streams : List (List ℕ)) (lines : List (List Line)) → All IsFew streams → length streams ≤ 2 ^ 32 → All IsFit (parts_of (counts_of streams) lines)
parts_fit [] lines few streams = All-nil IsFit
parts_fit (own ∷ rest) lines few streams =
    fit_from 0 0 (length own) (counts_of rest) lines (omega (arith, streams, counted rest)) (omega (arith, All-head IsFew own rest few)) (low rest (All-tail IsFew own rest few))
  where
    counted : (rest : List (List ℕ)) → length (counts_of rest) ≡ length rest
    counted [] = refl
    counted (own ∷ rest) = ap suc (counted rest)

-- how many lines were found of each
found_before : (stream part : ℕ) (own : List ℕ) (rest : Ends) → cut_of (found_in stream part own ++ rest) ≡ own ++ cut_of rest
found_before stream part [] rest = refl
found_before stream part (n ∷ own) rest = ap (λ (ns : List ℕ). n ∷ ns) (found_before stream (part + 1) own rest)

pub found_numbers : (stream : ℕ) (streams : List (List ℕ)) → cut_of (found_from stream streams) ≡ joined streams
found_numbers stream [] = refl
found_numbers stream (own ∷ rest) = found_before stream 0 own (found_from (stream + 1) rest) ∙ ap (λ (ns : List ℕ). own ++ ns) (found_numbers (stream + 1) rest)

-- ---- where they begin

end_is : (part : Part) (found end : PartEnd) → IsPartOf part found → is_end_of part end ≡ true → end.end == 0 ≡ true → end ≡ start_of found
end_is part found end of is nothing =
    let same = and_parts (part.stream == end.stream) (part.part == end.part) is in
    let stream : end.stream ≡ found.stream = sym (eqb-true part.stream end.stream same.0) ∙ of.stream in
    let number : end.part ≡ found.part = sym (eqb-true part.part end.part same.1) ∙ of.number in
    let none : end.end ≡ 0 = eqb-true end.end 0 nothing in
    λ i. record { stream = stream i; part = number i; end = none i }

-- ends that begin are those of the parts that were found
pub start_is : (parts : List Part) (found ends : Ends) → AreParts parts found → is_start parts ends ≡ true → ends ≡ starts found
start_is [] [] [] are is = refl
start_is [] [] (end ∷ ends) are is = cc
start_is [] (f ∷ found) ends are is = absurd are
start_is (part ∷ parts) [] ends are is = absurd are
start_is (part ∷ parts) (f ∷ found) [] are is = cc
start_is (part ∷ parts) (f ∷ found) (end ∷ ends) are is =
    let first = and_parts (is_end_of part end) (end.end == 0 && is_start parts ends) is in
    let second = and_parts (end.end == 0) (is_start parts ends) first.1 in
    let here = end_is part f end are.0 first.0 second.0 in
    let rest = start_is parts found ends are.1 second.1 in
    λ i. here i ∷ rest i

pub start_of_is : (part : Part) (found : PartEnd) → IsPartOf part found → is_end_of part (start_of found) ≡ true
start_of_is part found of = and_from (part.stream == found.stream) (part.part == found.part) (eq-eqb part.stream found.stream of.stream) (eq-eqb part.part found.part of.number)

pub starts_start : (parts : List Part) (found : Ends) → AreParts parts found → is_start parts (starts found) ≡ true
starts_start [] [] are = refl
starts_start [] (f ∷ found) are = absurd are
starts_start (part ∷ parts) [] are = absurd are
starts_start (part ∷ parts) (f ∷ found) are = and_from (is_end_of part (start_of f)) _ (start_of_is part f are.0) (starts_start parts found are.1)

pub firsts_are : (parts : List Part) (found : Ends) → AreNamed parts found → map (λ part. end_at part 0) parts ≡ starts found
firsts_are [] [] are = refl
firsts_are [] (f ∷ found) are = absurd are
firsts_are (part ∷ parts) [] are = absurd are
firsts_are (part ∷ parts) (f ∷ found) are =
    let rest = firsts_are parts found are.1 in
    λ i. (let end : PartEnd = record { stream = are.0.stream_is i; part = are.0.number_is i; end = 0 } in end) ∷ rest i

-- they begin as the numbers of the parts of each stream say
own_begin : (stream at : ℕ) (own : List ℕ) → first_of stream at ++ starts (found_in stream at own) ≡ first_of stream (at + length own)
own_begin stream at [] = append-nil (first_of stream at) ∙ ap (first_of stream) (let e : at ≡ at + 0 = omega arith in e)
own_begin stream at (n ∷ own) =
    let end : PartEnd = record { stream = stream; part = at; end = 0 } in
    let rest = starts (found_in stream (at + 1) own) in
    sym (append_assoc (first_of stream at) (end ∷ []) rest) ∙ ap (λ (k : ℕ). first_of stream k ++ rest) (sym (add-one at)) ∙ own_begin stream (at + 1) own
    ∙ ap (first_of stream) (let e : at + 1 + length own ≡ at + length (n ∷ own) = omega arith in e)

pub all_begin : (stream : ℕ) (streams : List (List ℕ)) → starts (found_from stream streams) ≡ begins_from stream (counts_of streams)
all_begin stream [] = refl
all_begin stream (own ∷ rest) =
    let here : starts (found_in stream 0 own) ≡ first_of stream (length own) = own_begin stream 0 own ∙ ap (first_of stream) (let e : 0 + length own ≡ length own = omega arith in e) in
    let more = all_begin (stream + 1) rest in
    map-append start_of (found_in stream 0 own) (found_from (stream + 1) rest) ∙ (λ i. here i ++ more i)

-- ---- how they go on

same_part : (part : Part) (from to : PartEnd) → is_end_of part from ≡ true → is_end_of part to ≡ true → from.end ≤ to.end → keeps_up (from, to) ≡ true
same_part part from to is also up =
    let one = and_parts (part.stream == from.stream) (part.part == from.part) is in
    let other = and_parts (part.stream == to.stream) (part.part == to.part) also in
    let stream : from.stream == to.stream ≡ true = eq-eqb from.stream to.stream (sym (eqb-true part.stream from.stream one.0) ∙ eqb-true part.stream to.stream other.0) in
    let number : from.part == to.part ≡ true = eq-eqb from.part to.part (sym (eqb-true part.part from.part one.1) ∙ eqb-true part.part to.part other.1) in
    rw (stream, number, le-leb from.end to.end up) refl

record AreFollowing (froms tos : Ends) : Type 0 where
  count : length froms ≡ length tos
  each : list_all keeps_up (zip froms tos) ≡ true

following : (parts : List Part) (froms tos : Ends) → is_within parts froms tos ≡ true → AreFollowing froms tos
following [] [] [] is = record { count = refl; each = refl }
following [] [] (to ∷ tos) is = cc
following [] (from ∷ froms) tos is = cc
following (part ∷ parts) [] tos is = cc
following (part ∷ parts) (from ∷ froms) [] is = cc
following (part ∷ parts) (from ∷ froms) (to ∷ tos) is =
    let goes = going part parts from to froms tos is in
    let more = following parts froms tos goes.rest in
    record { count = ap suc more.count; each = and_from (keeps_up (from, to)) _ (same_part part from to goes.from_own goes.to_own goes.up) more.each }

pub within_follows : (parts : List Part) (froms tos : Ends) → is_within parts froms tos ≡ true → follows froms tos ≡ true
within_follows parts froms tos is =
    let are = following parts froms tos is in
    and_from (length froms == length tos) _ (eq-eqb (length froms) (length tos) are.count) are.each
