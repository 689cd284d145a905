-- What a desk takes for granted of the job of a setting.
use Rattle.std.proofs.Common.{◌≡◌, ◌⊎◌, ◌<◌, ◌≤◌, ◌+◌, ◌==◌, ◌&&◌, ◌||◌, [], ◌∷◌, ℕ, zero, suc, ℤ, List, Option, Some, None, Bool, true, false, refl, ap, sym, ◌∙◌, inl, inr, subst, arith, add-one, length, nat_lt}
use Rattle.std.specs.Prelude.{nat_le, int_le, not, slice_get, if◌then◌else◌}
use Rattle.std.proofs.lemmas.Bool.{eqb-true, ltb-true, le-leb, lt-ltb, le-ltb, ltb-false, and_from, and_parts, or_parts}
use Rattle.std.proofs.lemmas.Int.{ints}
use mathlib.Core.Bool.{and-false}
use Rattle.ssq_plans.specs.declared.part.PartEnd.{PartEnd}
use Rattle.ssq_shape.specs.declared.bound.Bound.{Bound}
use Rattle.ssq_meaning.specs.Parts.{Part}
use Rattle.ssq_meaning.specs.Times.{is_above}
use Rattle.ssq_meaning.specs.Cut.{Cuts as Offsets, AreSameTo}
use Rattle.ssq_meaning.specs.Epochs.{watermark, watermark_before}
use Rattle.ssq_meaning.specs.Laws.{SaysSame}
use Rattle.ssq_core.specs.Course.{Ends, Cuts}
use Rattle.ssq_core.specs.Sound.{AreProper}
use Rattle.ssq_core.proofs.Holding.{lt_true}
use Rattle.ssq_course.specs.Setting.{Setting, parts_in, cut_of, cuts_of, watermark_at, has_lines, is_end_of, is_start, is_within, closes, is_next_of, job_of}
use Rattle.ssq_course.specs.Setting.{has_line as is_longer}
use Rattle.ssq_course.specs.Laws.{AreCausal}
use Rattle.ssq_course.proofs.Proper.{is_next_if, going}
use Rattle.ssq_open.specs.Lens.{found_from}
use Rattle.ssq_open.specs.Epochs.{starts}
use Rattle.ssq_board.specs.Core.{within, next_end, next_ends, is_behind, has_line, has_line_at}
use Rattle.ssq_board.specs.Rounds.{HasCap}
use Rattle.ssq_logs.specs.Asked.{most_lines}
use Rattle.ssq_terms.specs.Laws.{due_at, IsEndAt, TasksHaveTerms, DuesAreOfMarks, EndsAreOfParts}
use Rattle.ssq_terms.proofs.Marks.{unmarked}
use Rattle.ssq_terms.proofs.Starts.{AreParts, start_of_is, starts_start, found_numbers}
use Rattle.ssq_terms.proofs.Wanted.{parts_are}

-- the same parts have lines, as the course and the desk count them
lines_at : (froms tos : Ends) (i : ℕ) → has_lines (cut_of froms) (cut_of tos) i ≡ has_line_at froms tos i
lines_at [] tos i = refl
lines_at (from ∷ froms) [] i = refl
lines_at (from ∷ froms) (to ∷ tos) zero = refl
lines_at (from ∷ froms) (to ∷ tos) (suc i) = lines_at froms tos i

-- ---- the next cut

-- the next end is between the end and what was found
pub record IsBetween (from end most : ℕ) : Type 0 where
  pub low : from ≤ end
  pub high : end ≤ most

capped : (most end found : ℕ) (b : Bool) (lines : ℕ) → nat_lt (end + most) found ≡ b → end < found → found ≤ lines → IsBetween end (if b then end + most else found) lines
capped most end found true lines is less le = let below = ltb-true (end + most) found is in record { low = omega arith; high = omega (arith, below, le) }
capped most end found false lines is less le = record { low = omega (arith, less); high = le }

within_between : (cap : Option ℕ) (end found lines : ℕ) → end < found → found ≤ lines → IsBetween end (within cap end found) lines
within_between None end found lines less le = record { low = omega (arith, less); high = le }
within_between (Some most) end found lines less le = capped most end found (nat_lt (end + most) found) lines refl less le

next_between_by : (cap : Option ℕ) (end found lines : ℕ) (b : Bool) → nat_lt end found ≡ b → end ≤ lines → found ≤ lines → IsBetween end (if b then within cap end found else end) lines
next_between_by cap end found lines true is le low = within_between cap end found lines (ltb-true end found is) low
next_between_by cap end found lines false is le low = record { low = omega arith; high = le }

pub next_between : (cap : Option ℕ) (end found lines : ℕ) → end ≤ lines → found ≤ lines → IsBetween end (next_end cap end found) lines
next_between cap end found lines le low = next_between_by cap end found lines (nat_lt end found) refl le low

-- and above the end, where more was found
capped_above : (most end found : ℕ) (b : Bool) → nat_lt (end + most) found ≡ b → 0 < most → end < found → end < (if b then end + most else found)
capped_above most end found true is some less = omega (arith, some)
capped_above most end found false is some less = less

within_above : (cap : Option ℕ) (end found : ℕ) → HasCap cap → end < found → end < within cap end found
within_above None end found some less = less
within_above (Some most) end found some less = capped_above most end found (nat_lt (end + most) found) refl some less

next_above_by : (cap : Option ℕ) (end found : ℕ) (b : Bool) → HasCap cap → nat_lt end found ≡ b → nat_lt end (if b then within cap end found else end) ≡ b
next_above_by cap end found true some is = lt-ltb end (within cap end found) (within_above cap end found some (ltb-true end found is))
next_above_by cap end found false some is = le-ltb end end (omega arith)

next_above : (cap : Option ℕ) (end found : ℕ) → HasCap cap → nat_lt end (next_end cap end found) ≡ nat_lt end found
next_above cap end found some = next_above_by cap end found (nat_lt end found) some refl

either_true : (a b c : Bool) → ((b ≡ true) → c ≡ true) → (a || b) ≡ true → (a || c) ≡ true
either_true true b c more is = refl
either_true false b c more is = more is

-- where some part has lines that no plan covers, the next epoch has a line
next_longer : (cap : Option ℕ) (ends : Ends) (available : List ℕ) → HasCap cap → is_behind ends available ≡ true → is_longer ends (next_ends cap ends available) ≡ true
next_longer cap [] available some is = cc
next_longer cap (end ∷ ends) [] some is = cc
next_longer cap (end ∷ ends) (n ∷ available) some is =
    ap (λ (b : Bool). b || is_longer ends (next_ends cap ends available)) (next_above cap end.end n some)
    ∙ either_true (nat_lt end.end n) (is_behind ends available) (is_longer ends (next_ends cap ends available)) (next_longer cap ends available some) is

-- ---- where a cut is

-- an end of the part, which is not above its lines, nor above the most that are taken of a log
pub record IsEndIn (part : Part) (end : PartEnd) : Type 0 where
  pub own : is_end_of part end ≡ true
  pub most : end.end ≤ length part.lines
  pub few : end.end ≤ most_lines

abbrev pub AreEnds : List Part → Ends → Type 0
AreEnds [] [] = Unit {0}
AreEnds [] (end ∷ ends) = ⊥
AreEnds (part ∷ parts) [] = ⊥
AreEnds (part ∷ parts) (end ∷ ends) = IsEndIn part end × AreEnds parts ends

starts_are : (parts : List Part) (found : Ends) → AreParts parts found → AreEnds parts (starts found)
starts_are [] [] are = tt
starts_are [] (f ∷ found) are = absurd are
starts_are (part ∷ parts) [] are = absurd are
starts_are (part ∷ parts) (f ∷ found) are = (record { own = start_of_is part f are.0; most = omega arith; few = omega arith }, starts_are parts found are.1)

ends_are : (parts : List Part) (froms tos : Ends) → is_within parts froms tos ≡ true → AreEnds parts tos
ends_are [] [] [] is = tt
ends_are [] [] (to ∷ tos) is = cc
ends_are [] (from ∷ froms) tos is = cc
ends_are (part ∷ parts) [] tos is = cc
ends_are (part ∷ parts) (from ∷ froms) [] is = cc
ends_are (part ∷ parts) (from ∷ froms) (to ∷ tos) is =
    let goes = going part parts from to froms tos is in
    (record { own = goes.to_own; most = goes.most; few = goes.few }, ends_are parts froms tos goes.rest)

next_within : (cap : Option ℕ) (parts : List Part) (found ends : Ends) → AreParts parts found → AreEnds parts ends → is_within parts ends (next_ends cap ends (cut_of found)) ≡ true
next_within cap [] [] [] of are = refl
next_within cap [] [] (end ∷ ends) of are = absurd are
next_within cap [] (f ∷ found) ends of are = absurd of
next_within cap (part ∷ parts) [] ends of are = absurd of
next_within cap (part ∷ parts) (f ∷ found) [] of are = absurd are
next_within cap (part ∷ parts) (f ∷ found) (end ∷ ends) of are =
    let here = next_between cap end.end f.end (length part.lines) are.0.most of.0.most in
    let taken = next_between cap end.end f.end most_lines are.0.few of.0.few in
    and_from (is_end_of part end) _ are.0.own
    (and_from (is_end_of part end) _ are.0.own
    (and_from (nat_le end.end (next_end cap end.end f.end)) _ (le-leb end.end (next_end cap end.end f.end) here.low)
    (and_from (nat_le (next_end cap end.end f.end) (length part.lines)) _ (le-leb (next_end cap end.end f.end) (length part.lines) here.high)
    (and_from (nat_le (next_end cap end.end f.end) most_lines) _ (le-leb (next_end cap end.end f.end) most_lines taken.high)
    (next_within cap parts found ends of.1 are.1)))))

-- each proper cut is one of ends of the parts
pub cut_ends : (s : Setting) (cuts : Cuts) (found : Ends) (e : ℕ) → AreParts (parts_in s) found → cuts 0 ≡ starts found → AreProper (job_of s) cuts e → AreEnds (parts_in s) (cuts e)
cut_ends s cuts found zero are start proper = subst (λ (ends : Ends). AreEnds (parts_in s) ends) (sym start) (starts_are (parts_in s) found are)
cut_ends s cuts found (suc e) are start proper =
    subst (λ (n : ℕ). AreEnds (parts_in s) (cuts n)) (add-one e) (ends_are (parts_in s) (cuts e) (cuts (e + 1)) (is_next_if s cuts e (proper e (omega arith))).within)

-- The next cut may come, where some part has lines that no plan covers, or an epoch without lines is due.
next_comes : (s : Setting) (cuts : Cuts) (found : Ends) (cap : Option ℕ) (e : ℕ) → AreParts (parts_in s) found → HasCap cap → cuts 0 ≡ starts found → AreProper (job_of s) cuts e
    → cuts (e + 1) ≡ next_ends cap (cuts e) (cut_of found) → (is_behind (cuts e) (cut_of found) ≡ true) ⊎ (due_at s cuts e ≡ true) → is_next_of s cuts e ≡ true
next_comes s cuts found cap e are some start proper next more =
    let begins : is_start (parts_in s) (cuts 0) ≡ true = subst (λ (ends : Ends). is_start (parts_in s) ends ≡ true) (sym start) (starts_start (parts_in s) found are) in
    let goes : is_within (parts_in s) (cuts e) (cuts (e + 1)) ≡ true =
    subst (λ (ends : Ends). is_within (parts_in s) (cuts e) ends ≡ true) (sym next) (next_within cap (parts_in s) found (cuts e) are (cut_ends s cuts found e are start proper)) in
    and_from (is_start (parts_in s) (cuts 0)) _ begins (and_from (is_within (parts_in s) (cuts e) (cuts (e + 1))) _ goes (comes more))
  where
    either : (a b : Bool) → (a ≡ true) ⊎ (b ≡ true) → (a || b) ≡ true
    either true b is = refl
    either false b (inl is) = cc
    either false b (inr is) = is

    comes : (is_behind (cuts e) (cut_of found) ≡ true) ⊎ (due_at s cuts e ≡ true) → (is_longer (cuts e) (cuts (e + 1)) || due_at s cuts e) ≡ true
    comes (inl behind) = either (is_longer (cuts e) (cuts (e + 1))) (due_at s cuts e) (inl (subst (λ (ends : Ends). is_longer (cuts e) ends ≡ true) (sym next) (next_longer cap (cuts e) (cut_of found) some behind)))
    comes (inr due) = either (is_longer (cuts e) (cuts (e + 1))) (due_at s cuts e) (inr due)

-- ---- what is due

-- the law of cuts: epochs hang on them
abbrev pub EpochsHang : Type 0
EpochsHang = (query : Bound) (parts : List Part) (one other : Offsets) (n : ℕ) → AreSameTo one other n → SaysSame query parts parts one other n

-- the law of epochs without lines: the watermark stays
abbrev pub WatermarksStay : Type 0
WatermarksStay = (query : Bound) (parts : List Part) (cuts : Offsets) (e : ℕ) → cuts (e + 1) ≡ cuts e → watermark query parts cuts (e + 1) ≡ watermark query parts cuts e

-- what is due hangs on the cuts so far
due_same : EpochsHang → (s : Setting) (one other : Cuts) (n : ℕ) → ((e : ℕ) → e ≤ n → one e ≡ other e) → due_at s one n ≡ due_at s other n
due_same says s one other n same =
    let are = says s.job.bound (parts_in s) (cuts_of one) (cuts_of other) n (λ e le. ap cut_of (same e le)) in
    let now = are.same_watermark n (omega arith) in
    let before = are.same_watermark_before n (omega arith) in
    λ i. closes s.job.bound && is_above (now i) (before i)

-- where no part has a line, the ends stay
no_line : (parts : List Part) (froms tos : Ends) → is_within parts froms tos ≡ true → has_line froms tos ≡ false → cut_of tos ≡ cut_of froms
no_line [] [] [] is none = refl
no_line [] [] (to ∷ tos) is none = cc
no_line [] (from ∷ froms) tos is none = cc
no_line (part ∷ parts) [] tos is none = cc
no_line (part ∷ parts) (from ∷ froms) [] is none = cc
no_line (part ∷ parts) (from ∷ froms) (to ∷ tos) is none =
    let goes = going part parts from to froms tos is in
    let no = or_parts (nat_lt from.end to.end) (has_line froms tos) none in
    let same : to.end ≡ from.end = omega (arith, goes.up, ltb-false from.end to.end no.0) in
    let more = no_line parts froms tos goes.rest no.1 in
    λ i. same i ∷ more i

pub never_above : (t : Option ℤ) → is_above t t ≡ false
never_above None = refl
never_above (Some t) = ap not (let least : int_le t t ≡ true = grind (arith, ints) in least)

-- what is due after an epoch is told by its watermark and that of the next
next_due : (s : Setting) (cuts : Cuts) (e : ℕ) → due_at s cuts (e + 1) ≡ (closes s.job.bound && is_above (watermark_at s cuts (e + 1)) (watermark_at s cuts e))
next_due s cuts e =
    ap (λ (before : Option ℤ). closes s.job.bound && is_above (watermark_at s cuts (e + 1)) before) (ap (watermark_before s.job.bound (parts_in s) (cuts_of cuts)) (add-one e))

pub dues_are : DuesAreOfMarks
dues_are s cuts = record {
  first = ap (λ (now : Option ℤ). closes s.job.bound && is_above now None) (unmarked s cuts) ∙ and-false (closes s.job.bound);
  next = next_due s cuts;
}

-- after an epoch without lines none is due
due_quiet : WatermarksStay → (s : Setting) (cuts : Cuts) (e : ℕ) → AreProper (job_of s) cuts (e + 1) → has_line (cuts e) (cuts (e + 1)) ≡ false → due_at s cuts (e + 1) ≡ false
due_quiet quiet s cuts e proper none =
    let parts = parts_in s in
    let same = no_line parts (cuts e) (cuts (e + 1)) (is_next_if s cuts e (proper e (omega arith))).within none in
    let now : watermark_at s cuts (e + 1) ≡ watermark_at s cuts e = quiet s.job.bound parts (cuts_of cuts) e same in
    next_due s cuts e ∙ ap (λ (mark : Option ℤ). closes s.job.bound && is_above mark (watermark_at s cuts e)) now
    ∙ ap (λ (b : Bool). closes s.job.bound && b) (never_above (watermark_at s cuts e)) ∙ and-false (closes s.job.bound)

end_at : (parts : List Part) (ends : Ends) (i : ℕ) (end : PartEnd) → AreEnds parts ends → slice_get ends i ≡ Some end → IsEndAt parts i end
end_at [] [] i end are there = cc
end_at [] (other ∷ ends) i end are there = absurd are
end_at (part ∷ parts) [] i end are there = absurd are
end_at (part ∷ parts) (other ∷ ends) zero end are there =
    let same : other ≡ end = cc in
    let own : is_end_of part end ≡ true = subst (λ (e : PartEnd). is_end_of part e ≡ true) same are.0.own in
    let numbers = and_parts (part.stream == end.stream) (part.part == end.part) own in
    record {
      part = part;
      there = refl;
      stream = eqb-true part.stream end.stream numbers.0;
      number = eqb-true part.part end.part numbers.1;
      most = subst (λ (e : PartEnd). e.end ≤ length part.lines) same are.0.most;
    }
end_at (part ∷ parts) (other ∷ ends) (suc i) end are there =
    let rest = end_at parts ends i end are.1 there in
    record { part = rest.part; there = rest.there; stream = rest.stream; number = rest.number; most = rest.most }

pub ends_of_parts : EndsAreOfParts
ends_of_parts s bound partitions lens cuts e i end is lines start proper there =
    end_at (parts_in s) (cuts e) i end (cut_ends s cuts (found_from 0 lens.streams) e (parts_are s bound partitions lens is lines) start proper) there

-- with the laws of jobs, of cuts and of epochs without lines
pub have_terms : AreCausal → EpochsHang → WatermarksStay → TasksHaveTerms
have_terms causal says quiet s bound partitions lens r is lines of =
    let found = found_from 0 lens.streams in
    let numbers : r.available ≡ cut_of found = of.available ∙ sym (found_numbers 0 lens.streams) in (
      record {
        causal = causal s is.some_partitions;
        start = starts found;
        maps = λ cuts e i. lines_at (cuts e) (cuts (e + 1)) i;
        reduces = λ cuts e p. ap (nat_lt p) (sym of.partitions);
        outs = λ cuts e. refl;
        upkeeps = λ cuts p v less. lt_true p ((job_of s).course cuts).keeping less;
        upkeep_good = λ cuts p v. refl;
        next = λ cuts e start proper next more. next_comes s cuts found r.cap e (parts_are s bound partitions lens is lines) of.cap start proper (next ∙ ap (next_ends r.cap (cuts e)) numbers)
            (subst (λ (available : List ℕ). (is_behind (cuts e) available ≡ true) ⊎ (due_at s cuts e ≡ true)) numbers more);
        dues = λ cuts other n same. due_same says s cuts other n same;
        quiet = λ cuts e proper none. due_quiet quiet s cuts e proper none;
      },
      refl,
    )
