-- A checkpoint that stands for the job that is wanted passes, and a desk opens on it with what is found.
use Rattle.std.proofs.Common.{◌≡◌, ◌⊎◌, ◌<◌, ◌≤◌, ◌+◌, ◌∙◌, ◌==◌, ◌&&◌, ◌++◌, ◌^◌, [], ◌∷◌, zero, suc, ℕ, Bool, true, false, List, ℤ, Option, Some, None, Result, Ok, Err, refl, sym, ap, subst, inl, inr, arith, length, get_or, eq-eqb, lt-ltb, ltb-true}
use Rattle.std.specs.Prelude.{IsTrue, IsSome, is_some, not, nat_lt, IfOk, IfErr}
use Rattle.std.proofs.lemmas.Bool.{cases_lt, and_parts}
use Rattle.std.proofs.lemmas.Bool.Decides.{nat_tests}
use Rattle.std.proofs.lemmas.List.{length_push}
use Rattle.ssq_outside.specs.declared.name.Name.{Name}
use Rattle.ssq_outside.specs.declared.name.Name.TheVariants as name
use Rattle.ssq_outside.specs.Files.{Files, IsEmpty}
use Rattle.ssq_plans.specs.declared.meta.Meta.{Meta}
use Rattle.ssq_plans.specs.declared.plan.Plan.{Plan}
use Rattle.ssq_plans.specs.declared.commit.Commit.{Commit}
use Rattle.ssq_plans.specs.declared.part.PartEnd.{PartEnd}
use Rattle.ssq_plans.specs.declared.seen.SeenBy.{SeenBy}
use Rattle.ssq_plans.specs.Records.{IsMetaRecord, IsPlan, IsCommit, meta_text, plan_text, commit_text}
use Rattle.ssq_plans.proofs.Apart.{records_apart}
use Rattle.ssq_store.specs.declared.store.Store.{Store}
use Rattle.ssq_store.specs.Loaded.{Makes}
use Rattle.ssq_core.specs.Course.{Course, Cuts, Job, AreSameUpTo, truth, plan_of, commit_of}
use Rattle.ssq_core.specs.Standing.{Stands, StandsAt, is_needed, is_allowed}
use Rattle.ssq_core.specs.Staying.{IsNoOther}
use Rattle.ssq_core.specs.Machine.{waits}
use Rattle.ssq_core.specs.Sound.{StandsOrEmpty}
use Rattle.ssq_core.proofs.Files.{true_there, there_of}
use Rattle.ssq_core.proofs.Holding.{agree_truth}
use Rattle.ssq_core.proofs.Settling.{settled_files}
use Rattle.ssq_outside.specs.History.{History, had_now, files_now, LeavesNow, LeavesOnly}
use Rattle.ssq_outside.proofs.Steps.{weaker}
use Rattle.ssq_open.specs.Sought.{Sought}
use Rattle.ssq_open.specs.Spelled.{IsTheMeta, IsThePlan, IsTheCommit}
use Rattle.ssq_open.specs.declared.streams.Watermarked.{Watermarked}
use Rattle.ssq_open.specs.Watermarks.{has_lines, mark_by}
use Rattle.ssq_open.specs.Epochs.{starts, follows, cut_of, last_ends, no_plan, AreEndsAt, at_start, at_plan, IsThere, IsGoodPlan, IsGoodCommit, IsSinkRight, is_stray, ArePlansOf, IsSeenAt, none_yet, by_commit, IsMarkAt, IsProgress}
use Rattle.ssq_open.specs.declared.fault.OpenFault.{OpenFault}
use Rattle.ssq_open.specs.declared.wanted.Opened.{Opened}
use Rattle.ssq_open.specs.Opening.{Finds, Passes, first_short, first_meta, only_meta, IsOpen, kept, begun, IsRefused, unchanged, unfinished, IsOutside, IsImageOpening}
use Rattle.ssq_open.specs.Stateful.{keeping_in}
use Rattle.ssq_open.specs.Jobs.{IsWantedJob, IsJobs, is_empty, stands, IsDeskOf, States, AreStates, HoldStates}
use Rattle.ssq_open.specs.Looking.{Query, begins, IsDenied, IsLookedFor, IsRecordDenied}
use Rattle.ssq_open.proofs.Looks.{meta_denied, not_denied}
use Rattle.ssq_open.proofs.Walks.{short-none}
use Rattle.ssq_open.proofs.Planning.{pushed, no_mark}
use Rattle.ssq_open.proofs.Reading.{the_only}
use Rattle.ssq_open.proofs.Passing.{one_finding, not_refused}
use Rattle.ssq_open.proofs.Stated.{AreLaws, keeping_few, makes_states}

next_is : (e n : ℕ) (follow : Bool) → e < n → follow ≡ true → (e == e && nat_lt e n && follow) ≡ true
next_is e n follow less is = let same : (e == e) ≡ true = eq-eqb e e refl in let lower = lt-ltb e n less in rw (same, lower, is) refl

own_is : (e : ℕ) (lines : Bool) → lines ≡ true → (e == e && lines) ≡ true
own_is e lines is = let same : (e == e) ≡ true = eq-eqb e e refl in rw (same, is) refl

not_both : (b : Bool) → b ≡ true → IsTrue (not b) → ⊥
not_both true is isnt = cc
not_both false is isnt = cc

-- the plans of the first epochs of a course
abbrev first_plans : Course → ℕ → List Plan
first_plans course zero = []
first_plans course (suc n) = first_plans course n ++ plan_of course n ∷ []

pub plans_count : (course : Course) (n : ℕ) → length (first_plans course n) ≡ n
plans_count course zero = refl
plans_count course (suc n) = length_push (first_plans course n) (plan_of course n) ∙ ap (λ m. m + 1) (plans_count course n) ∙ omega arith

pub plans_each : (course : Course) (n e : ℕ) (default : Plan) → e < length (first_plans course n) → get_or (first_plans course n) e default ≡ plan_of course e
plans_each course zero e default less = absurd (omega (arith, less))
plans_each course (suc n) e default less =
    pushed (λ f p. p ≡ plan_of course f) (first_plans course n) (plan_of course n) (plans_each course n) (ap (plan_of course) (sym (plans_count course n))) e default less

-- the greatest times over the first epochs
abbrev first_seen : Course → ℕ → List SeenBy
first_seen course zero = []
first_seen course (suc k) = course.seen (k + 1)

module _ (s : Sought) (job : Job) (w : IsWantedJob s job) (files : Files) (st : Stands job files) where
  abbrev course : Course
  course = job.course st.cuts

  few : st.planned ≤ 4294967295
  few = st.at.reached.few

  file : (q : Name) → IsThere files q → files q ≡ Some (truth course q)
  file q there = true_there files q (truth course q) (st.at.are_true q) there

  the_meta : IsTheMeta files course.meta
  the_meta =
      the_only IsMetaRecord meta_text (files name.Meta) course.meta records_apart.metas (w.record_is st.cuts) (file name.Meta (st.at.needed name.Meta refl))

  the_plan : (e : ℕ) → e < st.planned → IsThePlan files e (plan_of course e)
  the_plan e less =
      the_only IsPlan plan_text (files (name.Plan e)) (plan_of course e) records_apart.plans (w.plans st.cuts st.planned e st.proper few less) (file (name.Plan e) (st.at.needed (name.Plan e) (lt-ltb e st.planned less)))

  the_commit : (e : ℕ) → e < st.committed → IsTheCommit files e (commit_of course e)
  the_commit e less =
      let can = w.commits st.cuts st.planned e st.proper few (omega (arith, less, st.at.reached.planned_first)) in
      the_only IsCommit commit_text (files (name.Commit e)) (commit_of course e) records_apart.commits can (file (name.Commit e) (st.at.needed (name.Commit e) (lt-ltb e st.committed less)))

  ends_at : (e : ℕ) → e < st.planned → AreEndsAt files (starts s.found) e (st.cuts e)
  ends_at zero less = at_start refl (w.start st.cuts 0 (st.proper 0 less))
  ends_at (suc e) less =
      let next : suc e ≡ e + 1 = omega arith in
      at_plan e (plan_of course e) next (the_plan e (omega (arith, less))) (ap st.cuts next ∙ sym (w.ends st.cuts (e + 1)))

  good_plan : (e : ℕ) → e < st.planned → IsGoodPlan files (starts s.found) e
  good_plan e less =
      let F : List PartEnd → Type 0 = λ ends. IsTrue (follows (st.cuts e) ends) in
      record {
        before = st.cuts e;
        plan = plan_of course e;
        after = ends_at e less;
        is = the_plan e less;
        next = next_is e 4294967295 (follows (st.cuts e) (course.ends (e + 1))) (omega (arith, less, few)) (subst F (sym (w.ends st.cuts (e + 1))) (w.follow st.cuts e (st.proper e less)));
      }

  good_commit : (e : ℕ) → e < st.committed → IsGoodCommit s.streams files e
  good_commit e less = record {
    commit = commit_of course e;
    is = the_commit e less;
    own = own_is e (has_lines s.streams (course.seen (e + 1))) (w.lines st.cuts e);
  }

  sink_right : (e : ℕ) → IsSinkRight files st.planned st.committed e
  sink_right e = record {
    needed = λ less. st.at.needed (name.Out e) (lt-ltb e st.committed less);
    taken = λ there. by_place (ltb-true e st.planned (st.at.allowed (name.Out e) there)) (cases_lt e st.committed);
  }
    where
      by_place : e < st.planned → (e < st.committed) ⊎ (st.committed ≤ e) → (e < st.committed) ⊎ ((e ≡ st.committed) × (st.committed < st.planned))
      by_place planned (inl less) = inl less
      by_place planned (inr more) = inr (omega (arith, planned, more, st.at.reached.one_ahead), omega (arith, planned, more))

  -- so many partitions keep state
  abbrev keeping : ℕ
  keeping = keeping_in s.keeps course.meta.partitions

  within : (p v : ℕ) → (nat_lt p course.keeping && nat_lt v st.planned) ≡ true → (nat_lt p keeping && nat_lt v st.planned) ≡ true
  within p v is = subst (λ (n : ℕ). (nat_lt p n && nat_lt v st.planned) ≡ true) (w.keeping st.cuts) is

  -- each file of the state is of one of them, and of a planned version
  no_stray : (q : Name) → IsTrue (is_stray keeping st.planned q) → IsThere files q → ⊥
  no_stray name.Meta stray there = cc
  no_stray (name.Plan e) stray there = cc
  no_stray (name.Commit e) stray there = cc
  no_stray (name.Out e) stray there = cc
  no_stray (name.Delta p v) stray there = not_both (nat_lt p keeping && nat_lt v st.planned) (within p v (st.at.allowed (name.Delta p v) there)) stray
  no_stray (name.Snapshot p v) stray there = not_both (nat_lt p keeping && nat_lt v st.planned) (within p v (st.at.allowed (name.Snapshot p v) there)) stray

  watermark_at : (e : ℕ) → e < st.planned → (seen : List SeenBy) → IsSeenAt files e seen → course.watermark e ≡ mark_by s.streams seen
  watermark_at e less seen (none_yet first none) = ap course.watermark first ∙ w.first_mark st.cuts ∙ sym (ap (mark_by s.streams) none ∙ no_mark s.streams)
  watermark_at e less seen (by_commit last c next the has) =
      let there : last < st.committed = omega (arith, less, next, st.at.reached.one_ahead) in
      let same : c ≡ commit_of course last = (the_commit last there).only c the.spells in
      ap course.watermark next ∙ w.next_mark st.cuts last ∙ sym (ap (mark_by s.streams) (has ∙ ap (λ (d : Commit). d.seen) same))

  marked_at : (e : ℕ) → e < st.planned → (p : Plan) (mark : Option ℤ) → IsThePlan files e p → IsMarkAt s.streams files e mark → p.watermark ≡ mark
  marked_at e less p mark is at = ap (λ (q : Plan). q.watermark) ((the_plan e less).only p is.spells) ∙ watermark_at e less at.seen at.over ∙ sym at.is

  abbrev plans : List Plan
  plans = first_plans course st.planned

  count : length plans ≡ st.planned
  count = plans_count course st.planned

  spelled : ArePlansOf files plans
  spelled e default less =
      let P : Plan → Type 0 = IsThePlan files e in
      subst P (sym (plans_each course st.planned e default less)) (the_plan e (omega (arith, less, count)))

  seen_at : (k : ℕ) → k ≤ st.committed → IsSeenAt files k (first_seen course k)
  seen_at zero less = none_yet refl refl
  seen_at (suc k) less = by_commit k (commit_of course k) (omega arith) (the_commit k (omega (arith, less))) refl

  progress : IsProgress s.streams files (starts s.found) plans st.committed (first_seen course st.committed)
  progress = record {
    are_plans = record {
      all = λ e there. omega (arith, count, ltb-true e st.planned (st.at.allowed (name.Plan e) there));
      good = λ e less. good_plan e (omega (arith, less, count));
    };
    spelled = spelled;
    commits = record {
      below = omega (arith, count, st.at.reached.planned_first);
      ahead = omega (arith, count, st.at.reached.one_ahead);
      good = good_commit;
      all = λ e there. ltb-true e st.committed (st.at.allowed (name.Commit e) there);
    };
    marked = λ e less. marked_at e (omega (arith, less, count));
    last = seen_at st.committed (omega arith);
  }

  -- where the planned epochs end
  cut_is : (e : ℕ) → e < st.planned → cut_of (starts s.found) plans (suc e) ≡ st.cuts (e + 1)
  cut_is e less = ap (λ (p : Plan). p.ends) (plans_each course st.planned e (no_plan (starts s.found)) (omega (arith, less, count))) ∙ w.ends st.cuts (e + 1)

  cut_upto : (e : ℕ) → e ≤ st.planned → 0 < st.planned → cut_of (starts s.found) plans e ≡ st.cuts e
  cut_upto zero less some = sym (w.start st.cuts 0 (st.proper 0 some))
  cut_upto (suc e) less some = cut_is e (omega (arith, less)) ∙ ap st.cuts (omega arith)

  long_at : first_short (st.cuts st.planned) s.found ≡ None → first_short (last_ends (starts s.found) plans) s.found ≡ None
  long_at long = by_count (cases_lt 0 st.planned)
    where
      by_count : (0 < st.planned) ⊎ (st.planned ≤ 0) → first_short (last_ends (starts s.found) plans) s.found ≡ None
      by_count (inl some) =
          ap (λ (n : ℕ). first_short (cut_of (starts s.found) plans n) s.found) count
          ∙ ap (λ (ends : List PartEnd). first_short ends s.found) (cut_upto st.planned (omega arith) some) ∙ long
      by_count (inr none) =
          let is : length plans ≡ 0 = omega (arith, count, none) in
          ap (λ (n : ℕ). first_short (cut_of (starts s.found) plans n) s.found) is ∙ short-none s.found

  finds : first_short (st.cuts st.planned) s.found ≡ None → Finds s files course.meta plans st.committed (first_seen course st.committed)
  finds long = record {
    record_is = the_meta;
    job = w.wanted st.cuts;
    epochs = record {
      progress = progress;
      sinks = λ e. subst (λ (n : ℕ). IsSinkRight files n st.committed e) (sym count) (sink_right e);
      no_stray = λ q. subst (λ (n : ℕ). IsTrue (is_stray keeping n q) → IsThere files q → ⊥) (sym count) (no_stray q);
    };
    long = long_at long;
  }

  -- what the files of the first epochs hold hangs on the cuts that their plans say
  abbrev other : Cuts
  other = cut_of (starts s.found) plans

  same_cuts : 0 < st.planned → AreSameUpTo st.cuts other st.planned
  same_cuts some e less = sym (cut_upto e less some)

  truth_same : (q : Name) → is_allowed course.keeping st.planned st.committed q ≡ true → truth course q ≡ truth (job.course other) q
  truth_same q allowed = by_count q allowed (cases_lt 0 st.planned)
    where
      no_less : (e n : ℕ) → n ≤ 0 → nat_lt e n ≡ true → ⊥
      no_less e n none is = grind (arith, nat_tests)

      by_count : (q : Name) → is_allowed course.keeping st.planned st.committed q ≡ true → (0 < st.planned) ⊎ (st.planned ≤ 0) → truth course q ≡ truth (job.course other) q
      by_count q allowed (inl some) = agree_truth course (job.course other) st.planned st.committed q st.at.reached.planned_first (w.causal.agrees st.cuts other st.planned (same_cuts some)) allowed
      by_count name.Meta allowed (inr none) = ap meta_text (w.one_record st.cuts other)
      by_count (name.Plan e) allowed (inr none) = absurd (no_less e st.planned none allowed)
      by_count (name.Commit e) allowed (inr none) = absurd (no_less e st.committed (omega (arith, none, st.at.reached.planned_first)) allowed)
      by_count (name.Out e) allowed (inr none) = absurd (no_less e st.planned none allowed)
      by_count (name.Delta p v) allowed (inr none) = absurd (no_less v st.planned none (and_parts (nat_lt p course.keeping) (nat_lt v st.planned) allowed).1)
      by_count (name.Snapshot p v) allowed (inr none) = absurd (no_less v st.planned none (and_parts (nat_lt p course.keeping) (nat_lt v st.planned) allowed).1)

  faulty_same : (e : ℕ) → e < st.planned → course.is_faulty e ≡ (job.course other).is_faulty e
  faulty_same e less = (w.causal.agrees st.cuts other st.planned (same_cuts (omega (arith, less)))).is_faulty e less

  same_keeping : course.keeping ≡ (job.course other).keeping
  same_keeping = w.keeping st.cuts ∙ ap (λ (m : Meta). keeping_in s.keeps m.partitions) (w.one_record st.cuts other) ∙ sym (w.keeping other)

  stands_other : StandsAt (job.course other) st.planned st.committed files
  stands_other = record {
    reached = st.at.reached;
    are_true = λ q. elim (st.at.are_true q) [
      | inl none ↦ inl none
      | inr is ↦ inr (is ∙ ap Some (truth_same q (st.at.allowed q (there_of files q (truth course q) is))))
    ];
    needed = st.at.needed;
    allowed = λ q there. subst (λ (n : ℕ). is_allowed n st.planned st.committed q ≡ true) same_keeping (st.at.allowed q there);
    loads = λ p less. st.at.loads p (subst (λ (n : ℕ). p < n) (sym same_keeping) less);
    faultless = λ e there. sym (faulty_same e (ltb-true e st.planned (st.at.allowed (name.Out e) there))) ∙ st.at.faultless e there;
  }

  proper_other : (e : ℕ) → e < st.planned → job.is_next other e ≡ true
  proper_other e less = w.causal.follows st.cuts other st.planned e (same_cuts (omega (arith, less))) less (st.proper e less)

  -- a desk opens with these plans
  desk_at : (found : Opened) → found.plans ≡ plans → found.committed ≡ st.committed → IsDeskOf s job files found
  desk_at found same equal =
      let cuts : Cuts = cut_of (starts s.found) found.plans in
      let S : List Plan → ℕ → ℕ → Type 0 = λ ps n k. StandsAt (job.course (cut_of (starts s.found) ps)) n k files in
      let N : List Plan → Type 0 = λ ps. (e : ℕ) → e < length ps → job.is_next (cut_of (starts s.found) ps) e ≡ true in
      let at : S plans (length plans) st.committed = subst (λ (n : ℕ). S plans n st.committed) (sym count) stands_other in
      let here : S found.plans (length found.plans) found.committed =
      subst (λ (k : ℕ). S found.plans (length found.plans) k) (sym equal) (subst (λ (ps : List Plan). S ps (length ps) st.committed) (sym same) at) in
      let next : N found.plans = subst N (sym same) (λ e less. proper_other e (omega (arith, less, count))) in
      record {
        desk = record {
          cuts = cuts;
          planned = length found.plans;
          committed = found.committed;
          there = λ q. is_some (files q);
          sure = λ q. is_some (files q);
          tasks = λ t. waits;
          stores = λ p. (job.course cuts).state p found.committed;
        };
        is = (here, next, (λ q. refl), (λ q. refl), (λ t. refl), (λ p less. refl));
        cuts = refl;
        planned = refl;
        committed = refl;
      }

  desk_found : (found : Opened) → Passes s files found → IsDeskOf s job files found
  desk_found found passes =
      let one = one_finding s.streams files (starts s.found) found.plans plans found.committed st.committed found.seen (first_seen course st.committed) passes.found.epochs.progress progress in
      desk_at found one.same_plans one.committed

-- the record alone stands for the job
pub begun_stands : (s : Sought) (job : Job) → IsWantedJob s job → ((cuts : Cuts) → (job.course cuts).meta ≡ first_meta s) → Stands job (only_meta (first_meta s))
begun_stands s job w first = record {
  cuts = λ e. starts s.found;
  planned = 0;
  committed = 0;
  proper = λ e less. absurd (omega (arith, less));
  at = record {
    reached = record { planned_first = omega arith; one_ahead = omega arith; few = omega arith };
    are_true = is_true;
    needed = is_needed_there;
    allowed = is_allowed_there;
    loads = λ p less. record { from = 0; deltas = λ v from low. absurd (omega (arith, low)); base = inl refl };
    faultless = λ e there. absurd (no_content there);
  };
}
  where
    no_content : IsSome {T = List ℕ} None → ⊥
    no_content there = cc

    is_true : (q : Name) → IsNoOther (only_meta (first_meta s)) q (truth (job.course (λ e. starts s.found)) q)
    is_true name.Meta = inr (ap (λ (m : Meta). Some (meta_text m)) (sym (first (λ e. starts s.found))))
    is_true (name.Plan e) = inl refl
    is_true (name.Commit e) = inl refl
    is_true (name.Out e) = inl refl
    is_true (name.Delta p v) = inl refl
    is_true (name.Snapshot p v) = inl refl

    nothing_below : (e : ℕ) → nat_lt e 0 ≡ true → ⊥
    nothing_below e is = grind (arith, nat_tests)

    is_needed_there : (q : Name) → is_needed 0 0 q ≡ true → IsThere (only_meta (first_meta s)) q
    is_needed_there name.Meta is = refl
    is_needed_there (name.Plan e) is = absurd (nothing_below e is)
    is_needed_there (name.Commit e) is = absurd (nothing_below e is)
    is_needed_there (name.Out e) is = absurd (nothing_below e is)
    is_needed_there (name.Delta p v) is = cc
    is_needed_there (name.Snapshot p v) is = cc

    is_allowed_there : (q : Name) → IsThere (only_meta (first_meta s)) q → is_allowed (job.course (λ e. starts s.found)).keeping 0 0 q ≡ true
    is_allowed_there name.Meta there = refl
    is_allowed_there (name.Plan e) there = absurd (no_content there)
    is_allowed_there (name.Commit e) there = absurd (no_content there)
    is_allowed_there (name.Out e) there = absurd (no_content there)
    is_allowed_there (name.Delta p v) there = absurd (no_content there)
    is_allowed_there (name.Snapshot p v) there = absurd (no_content there)

not_empty : (files : Files) (text : List ℕ) → IsEmpty files → files name.Meta ≡ Some text → ⊥
not_empty files text empty is = let none : files name.Meta ≡ None = empty name.Meta in cc

stands_some : (job : Job) (files : Files) → Stands job files → IsEmpty files → ⊥
stands_some job files st empty = not_empty files (truth (job.course st.cuts) name.Meta) empty (true_there files name.Meta (truth (job.course st.cuts) name.Meta) (st.at.are_true name.Meta) (st.at.needed name.Meta refl))

-- a desk opens on what an opening found of a checkpoint that stands for the job, or is empty and gets its record
pub desk_opens : (s : Sought) (job : Job) (files : Files) (now : History) (found : Opened) → IsWantedJob s job → (IsEmpty files → (cuts : Cuts) → (job.course cuts).meta ≡ first_meta s) → StandsOrEmpty job files → IsOpen s files now found
    → IsDeskOf s job (files_now now) found
unfolding begun_stands
desk_opens s job files now found w first (inl empty) (kept passes settled) = absurd (not_empty files (meta_text found.meta) empty passes.found.record_is.spells.text)
desk_opens s job files now found w first (inl empty) (begun none is settled) =
    let D : Files → Type 0 = λ f. IsDeskOf s job f found in
    subst D (sym (settled_files now (only_meta (first_meta s)) settled)) (desk_at s job w (only_meta (first_meta s)) (begun_stands s job w (first empty)) found is.plans is.committed)
desk_opens s job files now found w first (inr st) (kept passes settled) =
    let D : Files → Type 0 = λ f. IsDeskOf s job f found in
    subst D (sym (settled_files now files settled)) (desk_found s job w files st found passes)
desk_opens s job files now found w first (inr st) (begun none is settled) = absurd (stands_some job files st none)

-- a partition's number, and how many epochs are committed, have 32 bits
few_partitions : (s : Sought) (job : Job) → IsWantedJob s job → (cuts : Cuts) (p : ℕ) → p < keeping_in s.keeps (job.course cuts).meta.partitions → p < 2 ^ 32
few_partitions s job w cuts p less =
    let most = keeping_few s.keeps (job.course cuts).meta.partitions 64 (w.record_is cuts).0.1 in omega (arith, less, most)

few_committed : (course : Course) (n k : ℕ) (files : Files) → StandsAt course n k files → k ≤ 2 ^ 32
few_committed course n k files at = let first = at.reached.planned_first in let few = at.reached.few in omega (arith, first, few)

-- and the stores hold the job's states
pub states_held : AreLaws → (s : Sought) (job : Job) (states : States) (files : Files) (now : History) (found : Opened) → IsWantedJob s job → AreStates job states → StandsOrEmpty job files → IsOpen s files now found
    → HoldStates s states found
states_held law s job states files now found w are ours (begun none is settled) =
    let M : Meta → Type 0 = λ m. (p : ℕ) (default : Store) → p < keeping_in s.keeps m.partitions → (get_or found.stores p default).state ≡ [] in
    let empty = subst M (sym is.meta) is.stores.empty in
    record { each = λ p default less. empty p default less ∙ sym (are.first (cut_of (starts s.found) found.plans) p) ∙ ap (states (cut_of (starts s.found) found.plans) p) (sym is.committed) }
states_held law s job states files now found w are (inl none) (kept passes settled) = absurd (not_empty files (meta_text found.meta) none passes.found.record_is.spells.text)
states_held law s job states files now found w are (inr st) (kept passes settled) =
    let of : IsDeskOf s job files found = desk_found s job w files st found passes in
    let cuts : Cuts = of.desk.cuts in
    let own : Stands job files = record { cuts = cuts; planned = of.desk.planned; committed = of.desk.committed; proper = of.is.1; at = of.is.0 } in
    let same : found.meta ≡ (job.course cuts).meta = (the_meta s job w files own).only found.meta passes.found.record_is.spells in
    record {
      each = λ p default less. (
          let low : p < keeping_in s.keeps (job.course cuts).meta.partitions = subst (λ (m : Meta). p < keeping_in s.keeps m.partitions) same less in
          let makes = makes_states law job states are cuts of.desk.planned of.desk.committed files of.is.0 of.is.1 p (subst (λ (n : ℕ). p < n) (sym (w.keeping cuts)) low) in
          let loaded = subst (λ (n : ℕ). Makes files p n (get_or found.stores p default).state) (sym of.committed) (passes.loaded.made p default less) in
          let one = law.one files p of.desk.committed (get_or found.stores p default).state (states cuts p of.desk.committed) (few_partitions s job w cuts p low)
          (few_committed (job.course cuts) of.desk.planned of.desk.committed files of.is.0) loaded makes in
          one ∙ ap (λ (cut : Cuts). states cut p of.desk.committed) of.cuts ∙ ap (states (cut_of (starts s.found) found.plans) p) of.committed
          );
    }

-- and nothing but the outside refuses it
pub only_outside : AreLaws → (s : Sought) (job : Job) (states : States) (files now : Files) (fault : OpenFault) → IsWantedJob s job → AreStates job states → IsJobs s job files → IsRefused s files now fault → IsOutside fault
only_outside law s job states files now fault w are (is_empty empty first) (unchanged same refuses outside) = outside empty
only_outside law s job states files now fault w are (is_empty empty first) (unfinished none same outside) = outside
only_outside law s job states files now fault w are (stands st long) (unchanged same refuses outside) =
    not_refused s files (job.course st.cuts).meta (plans s job w files st) st.committed (first_seen (job.course st.cuts) st.committed) (finds s job w files st long)
    (λ p at less damaged. law.sound files p st.committed (states st.cuts p st.committed) at (few_partitions s job w st.cuts p less) (few_committed (job.course st.cuts) st.planned st.committed files st.at)
    (makes_states law job states are st.cuts st.planned st.committed files st.at st.proper p (subst (λ (n : ℕ). p < n) (sym (w.keeping st.cuts)) less)) damaged)
    fault refuses
only_outside law s job states files now fault w are (stands st long) (unfinished none same outside) = outside

-- each image of each moment stands, or stands empty, where each did before
pub images_stand : (s : Sought) (job : Job) (old new : History) → IsWantedJob s job → (IsEmpty (files_now old) → (cuts : Cuts) → (job.course cuts).meta ≡ first_meta s) → LeavesNow old (StandsOrEmpty job)
    → LeavesOnly old new (IsImageOpening s (had_now old)) → LeavesOnly old new (StandsOrEmpty job)
images_stand s job old new w first standing run = weaker (IsImageOpening s (had_now old)) (StandsOrEmpty job) old new run (λ f image. elim image [
  | inl is ↦ standing.each f is
  | inr alone ↦ inr (subst (λ (files : Files). Stands job files) (sym alone.1) (begun_stands s job w (first alone.0)))
])

pub ok_desk : (s : Sought) (job : Job) (files : Files) (now : History) (r : Result Opened OpenFault) → IfOk r (IsOpen s files now) → IsWantedJob s job → (IsEmpty files → (cuts : Cuts) → (job.course cuts).meta ≡ first_meta s) → StandsOrEmpty job files
    → IfOk r (IsDeskOf s job (files_now now))
ok_desk s job files now (Ok found) is w first ours = desk_opens s job files now found w first ours is
ok_desk s job files now (Err fault) is w first ours = tt

pub err_outside : AreLaws → (s : Sought) (job : Job) (states : States) (files now : Files) (r : Result Opened OpenFault) → IfErr r (IsRefused s files now) → IsWantedJob s job → AreStates job states → IsJobs s job files
    → IfErr r IsOutside
err_outside law s job states files now (Ok found) is w are ours = tt
err_outside law s job states files now (Err fault) is w are ours = only_outside law s job states files now fault w are ours is

-- nor does anything else deny a look at it
pub look_outside : (query : Query) (s : Sought) (job : Job) (files : Files) → IsLookedFor query s → IsWantedJob s job → StandsOrEmpty job files → (r : Result (Option Opened) OpenFault) → IfErr r (IsDenied query files) → IfErr r IsOutside
look_outside query s job files sought w ours (Ok found) denied = tt
look_outside query s job files sought w (inl empty) (Err fault) denied = denied.outside empty
look_outside query s job files sought w (inr st) (Err fault) denied =
    let course : Course = job.course st.cuts in
    let wanted = w.wanted st.cuts in
    let M : List ℕ → Type 0 = λ parts. IsProgress query.watermarked files (begins parts) (first_plans course st.planned) st.committed (first_seen course st.committed) in
    let F : List PartEnd → Type 0 = λ first. IsProgress query.watermarked files first (first_plans course st.planned) st.committed (first_seen course st.committed) in
    let S : List Watermarked → Type 0 = λ streams. IsProgress streams files (starts s.found) (first_plans course st.planned) st.committed (first_seen course st.committed) in
    not_denied query files course.meta (first_plans course st.planned) st.committed (first_seen course st.committed)
    (record {
      record_is = the_meta s job w files st;
      ours = record { query = wanted.ours.ours.query ∙ sought.text; parts = ap length wanted.parts ∙ sought.each };
      progress = subst M (sym wanted.parts) (subst F sought.begin (subst S sought.marked (progress s job w files st)));
    })
    fault denied.why

-- nor is its record denied for anything else
pub record_outside : {T : Type 0} (query : Query) (s : Sought) (job : Job) (files : Files) → IsLookedFor query s → IsWantedJob s job → StandsOrEmpty job files → (r : Result T OpenFault) → IfErr r (IsRecordDenied query files) → IfErr r IsOutside
record_outside query s job files sought w ours (Ok found) denied = tt
record_outside query s job files sought w ours (Err fault) denied =
    look_outside query s job files sought w ours (Err fault) (record { why = meta_denied query files fault denied.why; outside = denied.outside })
