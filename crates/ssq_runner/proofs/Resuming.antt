-- A checkpoint that can be resumed: the opening takes it, and what is opened is what it stands for.
use Rattle.std.proofs.Common.{◌≡◌, ◌<◌, ◌≤◌, ◌+◌, ◌++◌, ◌∙◌, nat_lt, ℕ, zero, suc, Bool, true, false, true≢false, List, [], ◌∷◌, length, map, get_or, sum, take, drop, Option, Some, None, refl, sym, ap, subst, arith, inl, inr, if◌then◌else◌}
use Rattle.std.specs.Prelude.{IsTrue}
use Rattle.std.proofs.lemmas.Bool.{ltb-true, and_parts}
use Rattle.std.proofs.lemmas.Option.{none-some}
use Rattle.std.proofs.lemmas.List.{map-append, length-map, length-drop, take-append-drop}
use Rattle.std.proofs.lemmas.List.Sums.{sum_by-cons}
use Rattle.ssq_outside.specs.declared.name.Name.{Name}
use Rattle.ssq_outside.specs.declared.name.Name.TheVariants as name
use Rattle.ssq_outside.specs.Files.{Files}
use Rattle.ssq_outside.specs.History.{files_now}
use Rattle.ssq_outside.specs.Logs.{Held, Line}
use Rattle.ssq_plans.specs.declared.part.PartEnd.{PartEnd}
use Rattle.ssq_core.specs.Course.{Cuts, Job, truth, AreSameUpTo}
use Rattle.ssq_core.specs.Standing.{Stands, StandsAt, IsThere}
use Rattle.ssq_core.specs.Staying.{IsNoOther}
use Rattle.ssq_core.specs.Sound.{StandsOrEmpty}
use Rattle.ssq_course.specs.Setting.{Setting, job_of, course_of, parts_in, end_at, cut_of as offsets_of}
use Rattle.ssq_meaning.specs.Parts.{Part}
use Rattle.ssq_core.proofs.Files.{there_of, not_there}
use Rattle.ssq_core.proofs.Settling.{settled_files}
use Rattle.ssq_open.specs.Epochs.{follows}
use Rattle.ssq_open.specs.Lens.{asked, found_in, found_from}
use Rattle.ssq_open.specs.Sought.{Sought}
use Rattle.ssq_open.specs.Opening.{first_short, is_short, IsOpen, kept, begun}
use Rattle.ssq_open.specs.Jobs.{IsWantedJob, IsJobs, is_empty, stands}
use Rattle.ssq_terms.specs.Setting.{IsSettingOf, AreFound}
use Rattle.ssq_terms.specs.Laws.{JobIsWanted, PartsAreFound, FilesSayTheirCuts}
use Rattle.ssq_logs.specs.Asked.{AreAsked}
use Rattle.ssq_logs.specs.Opened.{Part as LogPart, AreLogsOf}
use Rattle.ssq_drive.specs.Rounds.{first_of}
use Rattle.ssq_runner.specs.Lens.{lens_of, apart}
use Rattle.ssq_runner.specs.Ending.{Begun, IsOwnRun, setting_in, cuts_in}
use Rattle.ssq_runner.specs.Running.{Given, IsRunOf, sought_in}
use Rattle.ssq_runner.specs.Complete.{CanBeResumed, is_empty as resumes_empty, stands as resumes, covered_by, planned_in, commits_in, covered_in, committed_in, GoOnFrom}
use Rattle.ssq_runner.proofs.Readying.{zero_at, begins_zero, follows_count}
use Rattle.ssq_runner.proofs.Owning.{counts_same}
use Rattle.ssq_runner.proofs.Growing.{follow_from}

-- ---- files

-- a checkpoint without epochs says nothing of where they would begin
restarted : (s : Setting) (one other : Cuts) (k : ℕ) (files : Files) → StandsAt (course_of s one) 0 k files → StandsAt (course_of s other) 0 k files
restarted s one other k files at = record {
  reached = at.reached;
  are_true = are;
  needed = at.needed;
  allowed = at.allowed;
  loads = at.loads;
  faultless = λ e there. absurd (none_below e (at.allowed (name.Out e) there));
}
  where
    none_below : (e : ℕ) → nat_lt e 0 ≡ true → ⊥
    none_below e is = (let l = ltb-true e 0 is in omega (arith, l))

    absent : (q : Name) (bytes : List ℕ) → (IsThere files q → ⊥) → IsNoOther files q (truth (course_of s one) q) → IsNoOther files q bytes
    absent q bytes never (inl none) = inl none
    absent q bytes never (inr is) = absurd (never (there_of files q (truth (course_of s one) q) is))

    are : (q : Name) → IsNoOther files q (truth (course_of s other) q)
    are name.Meta = at.are_true name.Meta
    are (name.Plan e) = absent (name.Plan e) (truth (course_of s other) (name.Plan e)) (λ there. none_below e (at.allowed (name.Plan e) there)) (at.are_true (name.Plan e))
    are (name.Commit e) = absent (name.Commit e) (truth (course_of s other) (name.Commit e)) (λ there. let l = ltb-true e k (at.allowed (name.Commit e) there) in let r = at.reached.planned_first in omega (arith, l, r)) (at.are_true (name.Commit e))
    are (name.Out e) = absent (name.Out e) (truth (course_of s other) (name.Out e)) (λ there. none_below e (at.allowed (name.Out e) there)) (at.are_true (name.Out e))
    are (name.Delta p v) = absent (name.Delta p v) (truth (course_of s other) (name.Delta p v)) (λ there. none_below v (and_parts (nat_lt p (course_of s one).keeping) (nat_lt v 0) (at.allowed (name.Delta p v) there)).1) (at.are_true (name.Delta p v))
    are (name.Snapshot p v) = absent (name.Snapshot p v) (truth (course_of s other) (name.Snapshot p v)) (λ there. none_below v (and_parts (nat_lt p (course_of s one).keeping) (nat_lt v 0) (at.allowed (name.Snapshot p v) there)).1) (at.are_true (name.Snapshot p v))

covered_some : (cuts : Cuts) (n e : ℕ) → n ≡ suc e → covered_by cuts n ≡ offsets_of (cuts n)
covered_some cuts n e is = ap (covered_by cuts) is ∙ sym (ap (λ (m : ℕ). offsets_of (cuts m)) is)

-- ---- no part is short

none_by : {A : Type 0} (b : Bool) (x : A) (rest : Option A) → b ≡ false → rest ≡ None → (if b then Some x else rest) ≡ None
none_by true x rest is none = absurd (true≢false is)
none_by false x rest is none = none

not_less : (n m : ℕ) (b : Bool) → nat_lt n m ≡ b → m ≤ n → b ≡ false
not_less n m true is le = absurd (let l = ltb-true n m is in omega (arith, l, le))
not_less n m false is le = refl

none_short : (ends found : List PartEnd) → ((i : ℕ) → get_or (offsets_of ends) i 0 ≤ get_or (offsets_of found) i 0) → first_short ends found ≡ None
none_short [] found le = refl
none_short (e ∷ ends) [] le = refl
none_short (e ∷ ends) (f ∷ found) le = none_by (is_short (e, f)) (e, f) (first_short ends found) (not_less f.end e.end (nat_lt f.end e.end) refl (le 0)) (none_short ends found (λ i. le (suc i)))

in_offsets : (stream at : ℕ) (found : List ℕ) → offsets_of (found_in stream at found) ≡ found
in_offsets stream at [] = refl
in_offsets stream at (n ∷ found) = ap (λ (l : List ℕ). n ∷ l) (in_offsets stream (at + 1) found)

from_offsets : (stream : ℕ) (counts found : List ℕ) → length found ≡ sum counts → offsets_of (found_from stream (apart counts found)) ≡ found
from_offsets stream [] [] each = refl
from_offsets stream [] (n ∷ found) each = absurd (omega (arith, each))
from_offsets stream (c ∷ counts) found each =
    let e : sum (c ∷ counts) ≡ c + sum counts = sum_by-cons (λ x. x) c counts in
    let rest : length (drop c found) ≡ sum counts = length-drop c found ∙ omega (arith, each, e) in
    map-append (λ (end : PartEnd). end.end) (found_in stream 0 (take c found)) (found_from (stream + 1) (apart counts (drop c found)))
    ∙ ap (λ (l : List ℕ). l ++ offsets_of (found_from (stream + 1) (apart counts (drop c found)))) (in_offsets stream 0 (take c found))
    ∙ ap (λ (l : List ℕ). take c found ++ l) (from_offsets (stream + 1) counts (drop c found) rest) ∙ take-append-drop c found

-- as many lines were found as were known to be there
pub known_found : {L : Type 0} (told tells : Type 0) (lines : L → List Line) (available : L → ℕ) (answers : L → List ℕ) (faults : L → ℕ) (held : Held) (known : List ℕ → ℕ → ℕ) (parts : List LogPart) (logs news : List L) (found : List ℕ) → told → tells
    → AreLogsOf told lines available answers faults held known parts logs → AreAsked tells lines available answers faults logs news found → (i : ℕ) → get_or (map (λ (part : LogPart). known part.source part.number) parts) i 0 ≤ get_or found i 0
known_found told tells lines available answers faults held known [] [] news found h t are ask i = omega arith
known_found told tells lines available answers faults held known (part ∷ parts) (log ∷ logs) (new ∷ news) (n ∷ found) h t are ask zero = (let b = are.0.begins h in let g = ask.0.grown t in omega (arith, b, g))
known_found told tells lines available answers faults held known (part ∷ parts) (log ∷ logs) (new ∷ news) (n ∷ found) h t are ask (suc i) = known_found told tells lines available answers faults held known parts logs news found h t are.1 ask.2 i
known_found told tells lines available answers faults held known [] (log ∷ logs) news found h t are ask i = absurd are
known_found told tells lines available answers faults held known (part ∷ parts) [] news found h t are ask i = absurd are
known_found told tells lines available answers faults held known (part ∷ parts) (log ∷ logs) [] found h t are ask i = absurd ask
known_found told tells lines available answers faults held known (part ∷ parts) (log ∷ logs) (new ∷ news) [] h t are ask i = absurd ask

-- the checkpoint is the job's, for what was found
pub resumed_jobs : {L : Type 0} (lines : L → List Line) (g : Given L) (s : Setting) (known found : List ℕ) → IsRunOf lines g s → length found ≡ sum g.counts → ((i : ℕ) → get_or known i 0 ≤ get_or found i 0) → CanBeResumed (job_of s) known (files_now g.start)
    → IsJobs (sought_in g found) (job_of s) (files_now g.start)
resumed_jobs lines g s known found run each le (resumes_empty none) =
    is_empty none (λ cuts i. record { partitions = run.first none i; parts = (run.parts ∙ sym (counts_same g.counts found each)) i; query = (run.query i).text })
resumed_jobs lines g s known found run each le (resumes is long) = by is.planned refl
  where
    by : (n : ℕ) → is.planned ≡ n → IsJobs (sought_in g found) (job_of s) (files_now g.start)
    by zero e =
        stands (record {
          cuts = λ f. [];
          planned = 0;
          committed = is.committed;
          proper = λ f less. absurd (omega (arith, less));
          at = restarted s is.cuts (λ f. []) is.committed (files_now g.start) (subst (λ (n : ℕ). StandsAt (course_of s is.cuts) n is.committed (files_now g.start)) e is.at);
        }) refl
    by (suc n) e =
        stands is (none_short (is.cuts is.planned) (found_from 0 (apart g.counts found)) (λ i.
        let l = long i in let c = ap (λ (cut : List ℕ). get_or cut i 0) (covered_some is.cuts is.planned n e) in let k = le i in let f = ap (λ (cut : List ℕ). get_or cut i 0) (from_offsets 0 g.counts found each) in omega (arith, l, c, k, f)))

-- it stands for the job, or is empty
pub resumed_stands : (job : Job) (known : List ℕ) (files : Files) → CanBeResumed job known files → StandsOrEmpty job files
resumed_stands job known files (resumes_empty none) = inl none
resumed_stands job known files (resumes is long) = inr is

-- ---- what is opened

pub covered_known : {job : Job} {known : List ℕ} {files : Files} (of : CanBeResumed job known files) (i : ℕ) → get_or (covered_in of) i 0 ≤ get_or known i 0
covered_known (resumes_empty none) i = omega arith
covered_known (resumes is long) i = long i

module _ {L : Type 0} (tells : Type 0) (lines : L → List Line) (available : L → ℕ) (answers : L → List ℕ) (faults : L → ℕ) (b : Begun L) where
  -- As many epochs were opened as are planned, and the first cuts are the checkpoint's.
  pub record IsResumed (planned commits : ℕ) (covered committed : List ℕ) : Type 0 where
    pub planned_is : planned ≡ length b.found.plans
    pub commits_are : commits ≡ b.found.committed
    pub covered_is : (i : ℕ) → get_or covered i 0 ≡ get_or (offsets_of (cuts_in b b.found.plans (length b.found.plans))) i 0
    pub committed_is : (i : ℕ) → get_or committed i 0 ≡ get_or (offsets_of (cuts_in b b.found.plans b.found.committed)) i 0

  -- where no epoch is, no line is covered
  zero_cut : (n : ℕ) → n ≡ 0 → (i : ℕ) → 0 ≡ get_or (offsets_of (cuts_in b b.found.plans n)) i 0
  zero_cut n is i = sym (ap (λ (m : ℕ). get_or (offsets_of (cuts_in b b.found.plans m)) i 0) is ∙ zero_at (first_of b.found) i (begins_zero 0 b.found.meta.parts))

  module _ (wanted : JobIsWanted) (parts_law : PartsAreFound) (files_law : FilesSayTheirCuts) (own : IsOwnRun tells lines available answers faults b) (found : List ℕ) (are : AreFound found (map lines b.logs)) where
    abbrev x : Setting
    x = setting_in tells lines available answers faults b

    abbrev sought : Sought
    sought = asked b.bound own.asks (lens_of b.found.meta.parts found)

    is_setting : IsSettingOf x b.bound own.asks (lens_of b.found.meta.parts found)
    is_setting = (own.settings found are).0

    is_wanted : IsWantedJob sought (job_of x)
    is_wanted = wanted x b.bound own.asks (lens_of b.found.meta.parts found) is_setting (subst (λ (l : List ℕ). AreFound l (map lines b.logs)) (sym (own.settings found are).1) are)

    desk_cuts : (e : ℕ) → own.found_is.desk.cuts e ≡ cuts_in b b.found.plans e
    desk_cuts e = ap (λ (cuts : Cuts). cuts e) own.found_is.cuts

    -- an end follows each
    pub follow : (e : ℕ) → e < length b.found.plans → IsTrue (follows (cuts_in b b.found.plans e) (cuts_in b b.found.plans (e + 1)))
    follow e less =
        subst (λ (cuts : Cuts). IsTrue (follows (cuts e) (cuts (e + 1)))) own.found_is.cuts
        (is_wanted.follow own.found_is.desk.cuts e (own.found_is.is.1 e (let p = own.found_is.planned in omega (arith, p, less))))

    -- a cut has an end for each log
    pub cut_count : (e : ℕ) → e ≤ length b.found.plans → length (cuts_in b b.found.plans e) ≡ length b.logs
    cut_count zero le =
        let law = parts_law x b.bound own.asks (lens_of b.found.meta.parts found) is_setting in
        ap length (sym law.3) ∙ length-map (parts_in x) (λ (part : Part). end_at part 0) ∙ law.0 ∙ length-map b.logs lines
    cut_count (suc e) le =
        let next : e + 1 ≡ suc e = omega arith in
        subst (λ (n : ℕ). length (cuts_in b b.found.plans n) ≡ length b.logs) next (sym (follows_count (cuts_in b b.found.plans e) (cuts_in b b.found.plans (e + 1)) (follow e (omega (arith, le)))) ∙ cut_count e (omega (arith, le)))

    -- no end falls
    pub opened_from : (from n : ℕ) → from + n ≤ length b.found.plans → (i : ℕ) → get_or (offsets_of (cuts_in b b.found.plans from)) i 0 ≤ get_or (offsets_of (cuts_in b b.found.plans (from + n))) i 0
    opened_from from zero le i = (let e = ap (λ (m : ℕ). get_or (offsets_of (cuts_in b b.found.plans m)) i 0) (let z : from + 0 ≡ from = omega arith in z) in omega (arith, e))
    opened_from from (suc n) le i =
        let before = opened_from from n (omega (arith, le)) i in
        let here = follow_from (cuts_in b b.found.plans (from + n)) (cuts_in b b.found.plans (from + n + 1)) (follow (from + n) (omega (arith, le))) i in
        let next = ap (λ (m : ℕ). get_or (offsets_of (cuts_in b b.found.plans m)) i 0) (let z : from + n + 1 ≡ from + suc n = omega arith in z) in
        omega (arith, before, here, next)

    pub committed_first : b.found.committed ≤ length b.found.plans
    committed_first = (let r = own.found_is.is.0.reached.planned_first in let p = own.found_is.planned in let c = own.found_is.committed in omega (arith, r, p, c))

    -- files that stand without epochs, and ones that stand with some, say where the desk's begin
    module _ (known : List ℕ) (files : Files) (here : files_now b.start ≡ files) (is : Stands (job_of x) files) (long : (i : ℕ) → get_or (covered_by is.cuts is.planned) i 0 ≤ get_or known i 0) where
      desk_at : StandsAt (course_of x own.found_is.desk.cuts) own.found_is.desk.planned own.found_is.desk.committed files
      desk_at = subst (λ (f : Files). StandsAt (course_of x own.found_is.desk.cuts) own.found_is.desk.planned own.found_is.desk.committed f) here own.found_is.is.0

      stood : IsResumed is.planned is.committed (covered_by is.cuts is.planned) (covered_by is.cuts is.committed)
      stood = by is.planned refl
        where
          by : (n : ℕ) → is.planned ≡ n → IsResumed is.planned is.committed (covered_by is.cuts is.planned) (covered_by is.cuts is.committed)
          by zero e =
              let law = files_law sought (job_of x) own.found_is.desk.cuts own.found_is.desk.cuts 0 is.committed own.found_is.desk.planned own.found_is.desk.committed files is_wanted (λ f less. absurd (omega (arith, less))) own.found_is.is.1
              (restarted x is.cuts own.found_is.desk.cuts is.committed files (subst (λ (n : ℕ). StandsAt (course_of x is.cuts) n is.committed files) e is.at)) desk_at (λ nothing. refl) in
              let none : is.committed ≡ 0 = (let r = is.at.reached.planned_first in omega (arith, r, e)) in
              let plans : length b.found.plans ≡ 0 = sym (law.0 ∙ own.found_is.planned) in
              let commits : b.found.committed ≡ 0 = sym (sym none ∙ law.1 ∙ own.found_is.committed) in
              record {
                planned_is = e ∙ sym plans;
                commits_are = none ∙ sym commits;
                covered_is = λ i. ap (λ (n : ℕ). get_or (covered_by is.cuts n) i 0) e ∙ zero_cut (length b.found.plans) plans i;
                committed_is = λ i. ap (λ (n : ℕ). get_or (covered_by is.cuts n) i 0) none ∙ zero_cut b.found.committed commits i;
              }
          by (suc n) e =
              let law = files_law sought (job_of x) is.cuts own.found_is.desk.cuts is.planned is.committed own.found_is.desk.planned own.found_is.desk.committed files is_wanted is.proper own.found_is.is.1 is.at desk_at (λ nothing. absurd (omega (arith, nothing, e))) in
              record {
                planned_is = law.0 ∙ own.found_is.planned;
                commits_are = law.1 ∙ own.found_is.committed;
                covered_is = λ i.
                    ap (λ (cut : List ℕ). get_or cut i 0) (covered_some is.cuts is.planned n e ∙ ap offsets_of (law.2 is.planned (omega arith) ∙ desk_cuts is.planned))
                    ∙ ap (λ (m : ℕ). get_or (offsets_of (cuts_in b b.found.plans m)) i 0) (law.0 ∙ own.found_is.planned);
                committed_is = λ i. at_commit is.committed refl law.1 law.2 i;
              }
            where
              at_commit : (k : ℕ) → is.committed ≡ k → is.committed ≡ own.found_is.desk.committed → AreSameUpTo is.cuts own.found_is.desk.cuts is.planned → (i : ℕ) → get_or (covered_by is.cuts is.committed) i 0 ≡ get_or (offsets_of (cuts_in b b.found.plans b.found.committed)) i 0
              at_commit zero k same cuts i = ap (λ (n : ℕ). get_or (covered_by is.cuts n) i 0) k ∙ zero_cut b.found.committed (sym (sym k ∙ same ∙ own.found_is.committed)) i
              at_commit (suc f) k same cuts i =
                  ap (λ (cut : List ℕ). get_or cut i 0) (covered_some is.cuts is.committed f k ∙ ap offsets_of (cuts is.committed is.at.reached.planned_first ∙ desk_cuts is.committed))
                  ∙ ap (λ (m : ℕ). get_or (offsets_of (cuts_in b b.found.plans m)) i 0) (same ∙ own.found_is.committed)

    pub resumed_is : (known : List ℕ) (files : Files) (s : Sought) → IsOpen s files b.start b.found → (of : CanBeResumed (job_of x) known files) → IsResumed (planned_in of) (commits_in of) (covered_in of) (committed_in of)
    resumed_is known files s (kept passes settled) (resumes_empty none) = absurd (none-some _ (sym (none name.Meta) ∙ passes.found.record_is.spells.text))
    resumed_is known files s (begun empty is settled) (resumes_empty none) = record {
      planned_is = sym (ap length is.plans);
      commits_are = sym is.committed;
      covered_is = zero_cut (length b.found.plans) (ap length is.plans);
      committed_is = zero_cut b.found.committed is.committed;
    }
    resumed_is known files s (kept passes settled) (resumes is long) = stood known files (settled_files b.start files settled) is long
    resumed_is known files s (begun empty first settled) (resumes is long) = absurd (not_there files name.Meta (empty name.Meta) (is.at.needed name.Meta refl))

    -- the cuts of plans that go on from those that were opened go on from the checkpoint
    module _ (cuts : Cuts) (same : (e : ℕ) → e ≤ length b.found.plans → cuts e ≡ cuts_in b b.found.plans e) where
      stood_on : (files : Files) (here : files_now b.start ≡ files) (is : Stands (job_of x) files) → (e : ℕ) → 0 < e → e ≤ is.planned → offsets_of (cuts e) ≡ offsets_of (is.cuts e)
      stood_on files here is e some le =
          let at : StandsAt (course_of x own.found_is.desk.cuts) own.found_is.desk.planned own.found_is.desk.committed files =
          subst (λ (f : Files). StandsAt (course_of x own.found_is.desk.cuts) own.found_is.desk.planned own.found_is.desk.committed f) here own.found_is.is.0 in
          let law = files_law sought (job_of x) is.cuts own.found_is.desk.cuts is.planned is.committed own.found_is.desk.planned own.found_is.desk.committed files is_wanted is.proper own.found_is.is.1 is.at at (λ nothing. absurd (omega (arith, nothing, some, le))) in
          ap offsets_of (same e (let p = law.0 in let q = own.found_is.planned in omega (arith, le, p, q)) ∙ sym (law.2 e le ∙ desk_cuts e))

      pub goes_on_from : (known : List ℕ) (files : Files) (s : Sought) → IsOpen s files b.start b.found → (of : CanBeResumed (job_of x) known files) → GoOnFrom of (λ e. offsets_of (cuts e))
      goes_on_from known files s open_is (resumes_empty none) = tt
      goes_on_from known files s (kept passes settled) (resumes is long) = stood_on files (settled_files b.start files settled) is
      goes_on_from known files s (begun empty first settled) (resumes is long) = absurd (not_there files name.Meta (empty name.Meta) (is.at.needed name.Meta refl))
