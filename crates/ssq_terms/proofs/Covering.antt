-- Proper cuts cover few lines, and so the states of a setting are those of its job.
use Rattle.std.proofs.Common.{◌≡◌, ◌<◌, ◌≤◌, ◌+◌, ◌*◌, ◌==◌, ◌&&◌, [], ◌∷◌, ℕ, zero, suc, List, Option, true, refl, sym, subst, arith, add-one, length}
use Rattle.std.specs.Prelude.{All, get_or, sum}
use Rattle.std.proofs.lemmas.Bool.{and_parts, eqb-true}
use Rattle.std.proofs.lemmas.List.{length-append}
use Rattle.std.proofs.lemmas.List.Elements.{All-head, All-tail}
use Rattle.std.proofs.lemmas.List.Sums.{sum_by-cons}
use Rattle.ssq_shape.specs.declared.bound.Bound.{Bound}
use Rattle.ssq_shape.specs.declared.bound.Shape.{Shape}
use Rattle.ssq_shape.specs.declared.bound.Shape.TheVariants.{Plain, Group, Dedup, Join}
use Rattle.ssq_shape.specs.Windows.{HasWindowsBy}
use Rattle.ssq_meaning.specs.Meaning.{Line}
use Rattle.ssq_meaning.specs.Parts.{Part}
use Rattle.ssq_meaning.specs.Cut.{AreWithin, AreCuts, start_of}
use Rattle.ssq_meaning.specs.Epochs.{joined}
use Rattle.ssq_core.specs.Course.{Ends, Cuts}
use Rattle.ssq_core.specs.Sound.{AreProper}
use Rattle.ssq_logs.specs.Asked.{most_lines}
use Rattle.ssq_course.specs.Setting.{Setting, parts_in, cut_of, cuts_of, is_end_of, is_start, is_within, job_of}
use Rattle.ssq_course.specs.States.{AreOfStates, CanHoldBy, CoverFewLines, HasFewColumns, StatesCanBeHeld}
use Rattle.ssq_course.proofs.Proper.{is_next_if, going}
use Rattle.ssq_open.specs.declared.wanted.Lens.{Lens}
use Rattle.ssq_open.specs.Lens.{found_from, IsFew}
use Rattle.ssq_terms.specs.Setting.{Runs, IsSettingOf, AreFound, found_lines}
use Rattle.ssq_terms.specs.Laws.{StatesAreJobs}
use Rattle.ssq_terms.specs.Partitions.{CoverFound}
use Rattle.ssq_terms.proofs.Starts.{AreParts}
use Rattle.ssq_terms.proofs.Wanted.{logs_count, parts_are}

-- ---- one cut and the next

starts_none : (parts : List Part) (ends : Ends) → is_start parts ends ≡ true → cut_of ends ≡ start_of parts
starts_none [] [] is = refl
starts_none [] (end ∷ ends) is = cc
starts_none (part ∷ parts) [] is = cc
starts_none (part ∷ parts) (end ∷ ends) is =
    let first = and_parts (is_end_of part end) (end.end == 0 && is_start parts ends) is in
    let second = and_parts (end.end == 0) (is_start parts ends) first.1 in
    let none = eqb-true end.end 0 second.0 in
    let rest = starts_none parts ends second.1 in
    λ i. none i ∷ rest i

cuts_within : (parts : List Part) (froms tos : Ends) → is_within parts froms tos ≡ true → AreWithin parts (cut_of froms) (cut_of tos)
cuts_within [] [] [] is = tt
cuts_within [] [] (to ∷ tos) is = cc
cuts_within [] (from ∷ froms) tos is = cc
cuts_within (part ∷ parts) [] tos is = cc
cuts_within (part ∷ parts) (from ∷ froms) [] is = cc
cuts_within (part ∷ parts) (from ∷ froms) (to ∷ tos) is = let goes = going part parts from to froms tos is in (goes.up, cuts_within parts froms tos goes.rest)

-- no more lines than the parts have together
few_covered : (parts : List Part) (found froms tos : Ends) → AreParts parts found → is_within parts froms tos ≡ true → sum (cut_of tos) ≤ most_lines * length parts
few_covered [] [] [] [] of is = omega arith
few_covered [] [] [] (to ∷ tos) of is = cc
few_covered [] [] (from ∷ froms) tos of is = cc
few_covered [] (f ∷ found) froms tos of is = absurd of
few_covered (part ∷ parts) [] froms tos of is = absurd of
few_covered (part ∷ parts) (f ∷ found) [] tos of is = cc
few_covered (part ∷ parts) (f ∷ found) (from ∷ froms) [] of is = cc
few_covered (part ∷ parts) (f ∷ found) (from ∷ froms) (to ∷ tos) of is =
    let goes = going part parts from to froms tos is in
    omega (arith, sum_by-cons (λ n. n) to.end (cut_of tos), goes.few, few_covered parts found froms tos of.1 goes.rest)

-- ---- what was found

pub sums_within : (xs ys : List ℕ) → ((i : ℕ) → get_or xs i 0 ≤ get_or ys i 0) → sum xs ≤ sum ys
sums_within [] ys within = omega arith
sums_within (x ∷ xs) [] within = omega (arith, sum_by-cons (λ n. n) x xs, within 0, sums_within xs [] (λ i. within (suc i)))
sums_within (x ∷ xs) (y ∷ ys) within = omega (arith, sum_by-cons (λ n. n) x xs, sum_by-cons (λ n. n) y ys, within 0, sums_within xs ys (λ i. within (suc i)))

few_found : (found : List ℕ) (lines : List (List Line)) → AreFound found lines → sum found ≤ most_lines * length found
few_found [] [] are = omega arith
few_found [] (own ∷ lines) are = absurd are
few_found (f ∷ found) [] are = absurd are
few_found (f ∷ found) (own ∷ lines) are = omega (arith, sum_by-cons (λ n. n) f found, are.1, few_found found lines are.2)

-- ---- over the epochs

few_joined : (streams : List (List ℕ)) → All IsFew streams → length (joined streams) ≤ 64 * length streams
few_joined [] few = omega arith
few_joined (own ∷ rest) few = omega (arith, length-append own (joined rest), All-head IsFew own rest few, few_joined rest (All-tail IsFew own rest few))

module _ (s : Setting) (bound : Bound) (partitions : Option ℕ) (lens : Lens) (is : IsSettingOf s bound partitions lens) (found : AreFound (found_lines lens) s.lines) where
  few_parts : length (parts_in s) ≤ 128
  few_parts = omega (arith, logs_count s bound partitions lens is, is.counted, few_joined lens.streams is.asked.few_parts, is.asked.each_stream, is.runs.few_streams)

  are_cuts : (cuts : Cuts) (n : ℕ) → AreProper (job_of s) cuts (suc n) → AreCuts (parts_in s) (cuts_of cuts) (suc n)
  are_cuts cuts n proper = record {
    starts = starts_none (parts_in s) (cuts 0) (is_next_if s cuts 0 (proper 0 (omega arith))).start;
    follow = λ e less. cuts_within (parts_in s) (cuts e) (cuts (e + 1)) (is_next_if s cuts e (proper e less)).within;
  }

  -- proper cuts of some epoch cover few lines
  pub cover_few : (cuts : Cuts) (n : ℕ) → AreProper (job_of s) cuts n → 0 < n → CoverFewLines s cuts n
  cover_few cuts zero proper some = absurd (omega (arith, some))
  cover_few cuts (suc n) proper some =
      let covered : sum (cut_of (cuts (n + 1))) ≤ most_lines * length (parts_in s) =
      few_covered (parts_in s) (found_from 0 lens.streams) (cuts n) (cuts (n + 1)) (parts_are s bound partitions lens is found) (is_next_if s cuts n (proper n (omega arith))).within in
      record { are_cuts = are_cuts cuts n proper; few = omega (arith, subst (λ (m : ℕ). sum (cut_of (cuts m)) ≤ most_lines * length (parts_in s)) (add-one n) covered, few_parts) }

  -- and so do cuts that cover no more than was found
  pub found_covers : (cuts : Cuts) (n : ℕ) → CoverFound s lens cuts n → CoverFewLines s cuts n
  found_covers cuts n covers = record {
    are_cuts = covers.are_cuts;
    few = omega (arith, sums_within (cut_of (cuts n)) (found_lines lens) covers.found, few_found (found_lines lens) s.lines found, few_joined lens.streams is.asked.few_parts, is.asked.each_stream, is.runs.few_streams);
  }

  -- and so the states after them can be held, by the query's shape
  can_hold : (shape : Shape) (cuts : Cuts) (n : ℕ) → Runs shape → HasWindowsBy shape → CoverFewLines s cuts n → CanHoldBy shape s cuts n
  can_hold Plain cuts n runs windows few = tt
  can_hold (Group grouping) cuts n runs windows few = (record { keys = runs.keys; aggregates = runs.aggregates; windows = windows }, few)
  can_hold (Dedup columns) cuts n runs windows few = (runs, few)
  can_hold (Join joining) cuts n runs windows few = (record { keys = runs.0; columns = subst (λ (b : Bound). All HasFewColumns b.streams) (sym is.query) is.runs.columns }, few)

-- with the laws of the states' files
pub states_are : ((s : Setting) (cuts : Cuts) → AreOfStates s cuts) → StatesCanBeHeld → StatesAreJobs
states_are of held s bound partitions lens is found = record {
  first = λ cuts p. (of s cuts).start p;
  versions = λ cuts n p v proper few less keeps.
      let shape : Runs s.job.bound.shape = subst (λ (b : Bound). Runs b.shape) (sym is.query) is.runs.shape in
      let windows : HasWindowsBy s.job.bound.shape = subst (λ (b : Bound). HasWindowsBy b.shape) (sym is.query) is.runs.windows in
      let covers = cover_few s bound partitions lens is found cuts n proper (omega (arith, less)) in
      let are = held s cuts n (can_hold s bound partitions lens is found s.job.bound.shape cuts n shape windows covers) in
      record {
        was_kept = are.states p v (omega (arith, less));
        is_kept = are.states p (v + 1) (omega (arith, less));
        few = are.few p (v + 1) (omega (arith, less));
        few_changes = are.few_changes p v less;
        change = (of s cuts).deltas p v;
        whole = (of s cuts).snapshots p v;
      };
}
