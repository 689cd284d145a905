-- What stands over logs stands over them when they have grown.
use Rattle.std.proofs.Common.{◌≡◌, ◌<◌, ◌≤◌, ◌+◌, ◌==◌, ◌&&◌, ◌∙◌, [], ◌∷◌, ℕ, zero, suc, List, true, refl, ap, sym, subst, inl, inr, arith, get_or, length}
use Rattle.std.specs.Prelude.{is_some, slice_get}
use Rattle.std.proofs.lemmas.List.{length-append}
use Rattle.ssq_outside.specs.Files.{Files}
use Rattle.ssq_shape.specs.declared.bound.Bound.{Bound}
use Rattle.ssq_shape.specs.declared.bound.Job.{Job as Query}
use Rattle.ssq_meaning.specs.Meaning.{Line}
use Rattle.ssq_meaning.specs.Parts.{Part, parts_of, AreGrown}
use Rattle.ssq_meaning.specs.Cut.{Cut}
use Rattle.ssq_meaning.specs.Feeding.{fault_in}
use Rattle.ssq_meaning.proofs.Growing.{AreGrownParts, AreCovered, with_more, fault_lasts, grown_parts, read_grown}
use Rattle.ssq_core.specs.Course.{Ends}
use Rattle.ssq_core.specs.Sound.{StandsOrEmpty}
use Rattle.ssq_core.specs.Standing.{Stands}
use Rattle.ssq_core.proofs.Images.{agree_stands}
use Rattle.ssq_course.specs.Setting.{cut_of, cuts_of, part_fault, is_end_of, is_start, is_within, is_next_of, job_of}
use Rattle.ssq_course.specs.Growing.{StaysAsLogsGrow}
use Rattle.ssq_course.proofs.Causal.{ReadAlike, over, agree, due_same}
use Rattle.ssq_course.proofs.Proper.{going, going_from, is_next_if, next_from}

-- ---- parts that have grown

-- the ends of an epoch that may follow are within the lines of their parts
within_covered : (parts : List Part) (froms tos : Ends) → is_within parts froms tos ≡ true → AreCovered parts (cut_of tos)
within_covered [] froms tos is = tt
within_covered (part ∷ parts) froms [] is = tt
within_covered (part ∷ parts) [] (to ∷ tos) is = cc
within_covered (part ∷ parts) (from ∷ froms) (to ∷ tos) is = let goes = going part parts from to froms tos is in (goes.most, within_covered parts froms tos goes.rest)

none_covered : (parts : List Part) → AreCovered parts []
none_covered [] = tt
none_covered (part ∷ parts) = tt

same_start : (parts others : List Part) (ends : Ends) → AreGrownParts parts others → is_start parts ends ≡ is_start others ends
same_start [] [] ends grown = refl
same_start [] (other ∷ others) ends grown = absurd grown
same_start (part ∷ parts) [] ends grown = absurd grown
same_start (part ∷ parts) (other ∷ others) [] grown = refl
same_start (part ∷ parts) (other ∷ others) (end ∷ ends) grown =
    let own : is_end_of part end ≡ is_end_of other end = ap (λ (it : Part). is_end_of it end) (sym grown.0.1) in
    let rest = same_start parts others ends grown.1 in
    λ i. own i && (end.end == 0 && rest i)

still_within : (parts others : List Part) (froms tos : Ends) → AreGrownParts parts others → is_within parts froms tos ≡ true → is_within others froms tos ≡ true
still_within [] [] froms tos grown is = is
still_within [] (other ∷ others) froms tos grown is = absurd grown
still_within (part ∷ parts) [] froms tos grown is = absurd grown
still_within (part ∷ parts) (other ∷ others) [] tos grown is = cc
still_within (part ∷ parts) (other ∷ others) (from ∷ froms) [] grown is = cc
still_within (part ∷ parts) (other ∷ others) (from ∷ froms) (to ∷ tos) grown is =
    let goes = going part parts from to froms tos is in
    let more = grown.0.0 in
    let most : to.end ≤ length (with_more part more).lines = omega (arith, goes.most, length-append part.lines more) in
    subst (λ (it : Part). is_within (it ∷ others) (from ∷ froms) (to ∷ tos) ≡ true) (sym grown.0.1)
    (going_from (with_more part more) others from to froms tos
    (record { from_own = goes.from_own; to_own = goes.to_own; up = goes.up; most = most; few = goes.few; rest = still_within parts others froms tos grown.1 goes.rest }))

-- each part has a fault in an epoch exactly where it had
first_fault : (query : Bound) (part other : Part) (from to : ℕ) → (more : List Line) × (other ≡ with_more part more) → to ≤ length part.lines → is_some (fault_in query part from to) ≡ is_some (fault_in query other from to)
first_fault query part other from to grown le = ap is_some (fault_lasts query part grown.0 from to le) ∙ ap (λ (it : Part). is_some (fault_in query it from to)) (sym grown.1)

same_fault : (query : Bound) (parts others : List Part) (number from : ℕ) (tos : Cut) → AreGrownParts parts others → AreCovered parts tos
    → part_fault query (slice_get parts number) from (get_or tos number 0) ≡ part_fault query (slice_get others number) from (get_or tos number 0)
same_fault query [] [] number from tos grown covered = refl
same_fault query [] (other ∷ others) number from tos grown covered = absurd grown
same_fault query (part ∷ parts) [] number from tos grown covered = absurd grown
same_fault query (part ∷ parts) (other ∷ others) zero from [] grown covered = first_fault query part other from 0 grown.0 (omega arith)
same_fault query (part ∷ parts) (other ∷ others) zero from (to ∷ tos) grown covered = first_fault query part other from to grown.0 covered.0
same_fault query (part ∷ parts) (other ∷ others) (suc number) from [] grown covered = same_fault query parts others number from [] grown.1 (none_covered parts)
same_fault query (part ∷ parts) (other ∷ others) (suc number) from (to ∷ tos) grown covered = same_fault query parts others number from tos grown.1 covered.1

-- ---- the job over logs that have grown

module _ (job : Query) (lines longer : List (List Line)) (grown : AreGrown lines longer) (files : Files) (st : Stands (job_of (over job lines)) files) where
  parts_grown : AreGrownParts (parts_of job.parts lines) (parts_of job.parts longer)
  parts_grown = grown_parts job.parts lines longer grown

  covered : (e : ℕ) → e < st.planned → AreCovered (parts_of job.parts lines) (cuts_of st.cuts (e + 1))
  covered e less = within_covered (parts_of job.parts lines) (st.cuts e) (st.cuts (e + 1)) (is_next_if (over job lines) st.cuts e (st.proper e less)).within

  alike : ReadAlike job lines longer st.cuts st.cuts st.planned
  alike = record {
    same = λ e le. refl;
    reads = read_grown job.bound (parts_of job.parts lines) (parts_of job.parts longer) (cuts_of st.cuts) st.planned parts_grown covered;
    faults = λ e number less. same_fault job.bound (parts_of job.parts lines) (parts_of job.parts longer) number (get_or (cut_of (st.cuts e)) number 0) (cut_of (st.cuts (e + 1))) parts_grown (covered e less);
  }

  still_next : (e : ℕ) → e < st.planned → is_next_of (over job longer) st.cuts e ≡ true
  still_next e less =
      let next = is_next_if (over job lines) st.cuts e (st.proper e less) in
      next_from (over job longer) st.cuts e (record {
        start = sym (same_start (parts_of job.parts lines) (parts_of job.parts longer) (st.cuts 0) parts_grown) ∙ next.start;
        within = still_within (parts_of job.parts lines) (parts_of job.parts longer) (st.cuts e) (st.cuts (e + 1)) parts_grown next.within;
        due = sym (due_same job lines longer st.cuts st.cuts st.planned alike e less) ∙ next.due;
      })

  still_stands : Stands (job_of (over job longer)) files
  still_stands = record {
    cuts = st.cuts;
    planned = st.planned;
    committed = st.committed;
    proper = still_next;
    at = agree_stands ((job_of (over job lines)).course st.cuts) ((job_of (over job longer)).course st.cuts) st.planned st.committed files (agree job lines longer st.cuts st.cuts st.planned alike) st.at;
  }

pub stands_grown : StaysAsLogsGrow Stands
stands_grown s longer files grown stands =
    subst (λ (job : Query). Stands (job_of (over job longer.lines)) files) grown.job (still_stands s.job s.lines longer.lines grown.lines files stands)

pub stands_or_empty_grown : StaysAsLogsGrow StandsOrEmpty
stands_or_empty_grown s longer files grown (inl none) = inl none
stands_or_empty_grown s longer files grown (inr stands) = inr (stands_grown s longer files grown stands)
