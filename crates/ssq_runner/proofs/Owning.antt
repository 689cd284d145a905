-- What was opened is the job's own, where the checkpoint stands for the run's job or is empty.
use Rattle.std.proofs.Common.{◌≡◌, ◌≤◌, ◌+◌, ◌∙◌, ℕ, suc, List, [], ◌∷◌, length, map, sum, take, drop, unwrap_or, All, Option, Some, None, inl, inr, is_some, true, true≢false, refl, sym, ap, subst, arith}
use Rattle.std.specs.Option.{ForSome}
use Rattle.std.proofs.lemmas.List.{length-take, length-drop}
use Rattle.std.proofs.lemmas.List.Elements.{All-nil, All-cons, All-head, All-tail}
use Rattle.std.proofs.lemmas.List.Sums.{sum_by-cons}
use Rattle.ssq_outside.specs.declared.name.Name.{Name}
use Rattle.ssq_outside.specs.declared.name.Name.TheVariants as name
use Rattle.ssq_outside.specs.Files.{Files, Content, IsImage, IsEmpty, files_of}
use Rattle.ssq_outside.specs.History.{History, had_now, files_now, LeavesNow, LeavesOnly}
use Rattle.ssq_outside.specs.Logs.{Line}
use Rattle.ssq_outside.proofs.Steps.{last_among}
use Rattle.ssq_shape.specs.declared.bound.Bound.{Bound}
use Rattle.ssq_plans.specs.declared.meta.Meta.{Meta}
use Rattle.ssq_plans.specs.declared.part.PartEnd.{PartEnd}
use Rattle.ssq_core.specs.Course.{Cuts, Job}
use Rattle.ssq_core.specs.Standing.{Stands, StandsAt, IsThere}
use Rattle.ssq_plans.specs.Records.{meta_text}
use Rattle.ssq_core.specs.Settled.{IsSettledAs}
use Rattle.ssq_core.specs.Sound.{StandsOrEmpty}
use Rattle.ssq_core.proofs.Settling.{settled_files}
use Rattle.ssq_course.specs.Setting.{Setting, meta_of, state_at, job_of}
use Rattle.ssq_open.specs.declared.wanted.Lens.{Lens}
use Rattle.ssq_open.specs.declared.wanted.Opened.{Opened}
use Rattle.ssq_open.specs.Epochs.{starts, cut_of}
use Rattle.ssq_open.specs.Lens.{CanBeAsked, IsFew, asked, counts_of, found_from}
use Rattle.ssq_open.specs.Looking.{begins}
use Rattle.ssq_open.specs.Sought.{Sought}
use Rattle.ssq_open.specs.Opening.{IsImageOpening, IsOpen, kept, begun, first_meta, only_meta}
use Rattle.ssq_open.specs.Jobs.{IsWantedJob, IsDeskOf, AreStates}
use Rattle.ssq_board.specs.Shelf.{AreListed}
use Rattle.ssq_terms.specs.Setting.{CanRun, IsSettingOf, AreFound, found_lines}
use Rattle.ssq_terms.specs.Laws.{JobIsWanted, StatesAreJobs, FirstRecordIsJobs, PartsAreFound}
use Rattle.ssq_terms.specs.Opening.{FoundIsJobs, StoresHoldStates}
use Rattle.ssq_promise.specs.Run.{IsKept, RunIsKept, WasRun}
use Rattle.ssq_drive.specs.Rounds.{IsFoundOf, setting_for}
use Rattle.ssq_runner.specs.Lens.{lens_of, apart}
use Rattle.ssq_runner.specs.Ending.{IsOwnRun}
use Rattle.ssq_runner.specs.Running.{IsOpenedOn}
use Rattle.ssq_runner.proofs.Firsts.{apart_joined, apart_count, apart_few}
use Rattle.ssq_runner.proofs.Listed.{none_listed, state_listed}

-- ---- images

-- the files as they are now are an image
now_image : (h : History) → IsImage (had_now h) (files_now h)
now_image h q = last_among (had_now h q).settled (had_now h q).since

pub stands_now : (h : History) (P : Files → Type 0) → LeavesNow h P → P (files_now h)
stands_now h P each = each.each (files_now h) (now_image h)

-- where nothing was done
pub leaves_still : (P : Files → Type 0) (h : History) → LeavesNow h P → LeavesOnly h h P
leaves_still P h each = record {
  later = omega arith;
  kept = λ k le. refl;
  each = λ k from to image is. each.each image (subst (λ (m : ℕ). IsImage (h.had_at m) image) (omega (arith, from, to)) is);
}

-- and at the last of its moments
pub leaves_last : (P : Files → Type 0) (old new : History) → LeavesOnly old new P → P (files_now new)
leaves_last P old new all = all.each new.moment all.later (omega arith) (files_now new) (now_image new)

-- what stands or is empty, and has its record, stands
pub stand_with : (job : Job) (old new : History) (files : Files) → IsThere files name.Meta → LeavesOnly old new (StandsOrEmpty job) → LeavesOnly old new (λ image. image name.Meta ≡ files name.Meta) → LeavesOnly old new (Stands job)
stand_with job old new files there stands record_stays = record {
  later = stands.later;
  kept = stands.kept;
  each = λ k from to image is. elim (stands.each k from to image is) [
    | inl none ↦ absurd (gone files (sym (record_stays.each k from to image is) ∙ none name.Meta) there)
    | inr here ↦ here
  ];
}
  where
    gone : (f : Files) → f name.Meta ≡ None → IsThere f name.Meta → ⊥
    gone f none there = true≢false (sym (subst (λ (c : Content). is_some c ≡ true) none there))

-- An opening of what stands leaves what stands: no image is new where a file is there.
pub opening_keeps : (job : Job) (s : Sought) (old new : History) → LeavesNow old (Stands job) → LeavesOnly old new (IsImageOpening s (had_now old)) → LeavesOnly old new (Stands job)
opening_keeps job s old new each images = record {
  later = images.later;
  kept = images.kept;
  each = λ k from to image is. elim (images.each k from to image is) [
    | inl here ↦ each.each image here
    | inr alone ↦ absurd (gone (files_now old) (alone.0 name.Meta) ((stands_now old (Stands job) each).at.needed name.Meta refl))
  ];
}
  where
    gone : (f : Files) → f name.Meta ≡ None → IsThere f name.Meta → ⊥
    gone f none there = true≢false (sym (subst (λ (c : Content). is_some c ≡ true) none there))

settled_now : (h : History) (files : Files) → IsSettledAs h files → IsSettledAs h (files_now h)
settled_now h files settled = subst (IsSettledAs h) (sym (ap files_of settled.is)) settled

open_settled : (bound : Bound) (asks : Option ℕ) (lens : Lens) (files : Files) (h : History) (opened : Opened) → IsOpen (asked bound asks lens) files h opened → IsSettledAs h (files_now h)
open_settled bound asks lens files h opened (kept passes settled) = settled_now h files settled
open_settled bound asks lens files h opened (begun empty is settled) = settled_now h _ settled

-- ---- the lines apart

pub counts_same : (counts found : List ℕ) → length found ≡ sum counts → counts_of (apart counts found) ≡ counts
counts_same [] found each = refl
counts_same (c ∷ counts) found each =
    let e : sum (c ∷ counts) ≡ c + sum counts = sum_by-cons (λ x. x) c counts in
    let here : length (take c found) ≡ c = (let l = length-take c found in omega (arith, l, each, e)) in
    ap (λ (n : ℕ). n ∷ counts_of (apart counts (drop c found))) here ∙ ap (λ (l : List ℕ). c ∷ l) (counts_same counts (drop c found) (length-drop c found ∙ omega (arith, each, e)))

found_length : (found : List ℕ) (all : List (List Line)) → AreFound found all → length found ≡ length all
found_length [] [] are = refl
found_length (n ∷ found) (own ∷ all) are = ap suc (found_length found all are.2)
found_length [] (own ∷ all) are = absurd are
found_length (n ∷ found) [] are = absurd are

-- each stream has at most 64 parts
few_counts : (counts found : List ℕ) → length found ≡ sum counts → All IsFew (apart counts found) → All (λ count. count ≤ 64) counts
few_counts [] found each few = All-nil (λ count. count ≤ 64)
few_counts (c ∷ counts) found each few =
    let e : sum (c ∷ counts) ≡ c + sum counts = sum_by-cons (λ x. x) c counts in
    All-cons (λ count. count ≤ 64) c counts (let l = length-take c found in let h = All-head IsFew (take c found) (apart counts (drop c found)) few in omega (arith, l, h, each, e))
    (few_counts counts (drop c found) (length-drop c found ∙ omega (arith, each, e)) (All-tail IsFew (take c found) (apart counts (drop c found)) few))

-- ---- the run's own

module _ {L : Type 0} (tells : Type 0) (lines : L → List Line) (available : L → ℕ) (answers : L → List ℕ) (faults : L → ℕ)
    (wanted : JobIsWanted) (first_record : FirstRecordIsJobs) (found_law : FoundIsJobs) (parts_law : PartsAreFound) (states_law : StatesAreJobs) (stores_law : StoresHoldStates)
    (bound : Bound) (asks : Option ℕ) (counts found : List ℕ) (can_ask : CanBeAsked bound asks (lens_of counts found)) (runs : CanRun bound) (each : length found ≡ sum counts)
    (logs : List L) (s : Setting) (query : s.job.bound ≡ bound) (parts : s.job.parts ≡ counts) (all : s.lines ≡ map lines logs)
    (some_partitions : 1 ≤ s.job.partitions) (few_partitions : s.job.partitions ≤ 64) (as_asked : ForSome asks (λ count. s.job.partitions ≡ count)) where
  job : Job
  job = job_of s

  -- for each number of lines that may be found, of which there are as many as logs
  setting_at : (more : List ℕ) → length more ≡ sum counts → length s.lines ≡ length more → IsSettingOf s bound asks (lens_of counts more)
  setting_at more same long = record {
    query = query;
    runs = runs;
    asked = record {
      partitions_in = can_ask.partitions_in;
      few_parts = apart_few counts more (few_counts counts found each can_ask.few_parts);
      each_stream = apart_count counts more ∙ sym (apart_count counts found) ∙ can_ask.each_stream;
      few_streams = can_ask.few_streams;
    };
    some_partitions = some_partitions;
    few_partitions = few_partitions;
    as_asked = as_asked;
    parts = parts ∙ sym (counts_same counts more same);
    counted = long ∙ ap length (sym (apart_joined counts more same));
  }

  lens : Lens
  lens = lens_of counts found

  module _ (long : length s.lines ≡ length found) (are : AreFound found s.lines) {D : Type 0} (history : D → History) (before after : D) (first : IsEmpty (files_now (history before)) → s.job.partitions ≡ unwrap_or asks 1) where
    setting : IsSettingOf s bound asks (lens_of counts found)
    setting = setting_at found each long

    found_are : AreFound (found_lines (lens_of counts found)) s.lines
    found_are = subst (λ (l : List ℕ). AreFound l s.lines) (sym (apart_joined counts found each)) are

    pub is_wanted : IsWantedJob (asked bound asks (lens_of counts found)) (job_of s)
    is_wanted = wanted s bound asks (lens_of counts found) setting found_are

    pub record_is : IsEmpty (files_now (history before)) → (cuts : Cuts) → ((job_of s).course cuts).meta ≡ first_meta (asked bound asks (lens_of counts found))
    record_is empty = first_record s bound asks (lens_of counts found) setting (first empty)

    pub are_states : AreStates (job_of s) (state_at s)
    are_states = states_law s bound asks (lens_of counts found) setting found_are

    module _ (T : Type 0) (t : T) (opened : Opened) (is : IsOpenedOn T history bound asks (lens_of counts found) before after opened) (stands : StandsOrEmpty (job_of s) (files_now (history before))) where
      desk : IsDeskOf (asked bound asks (lens_of counts found)) (job_of s) (files_now (history after)) opened
      desk = is.desk t (job_of s) is_wanted record_is stands

      begin_same : starts (found_from 0 (apart counts found)) ≡ begins s.job.parts
      begin_same = (let l = parts_law s bound asks (lens_of counts found) setting in sym l.1 ∙ l.3)

      true_meta : (files : Files) {n k : ℕ} {cuts : Cuts} → StandsAt ((job_of s).course cuts) n k files → files name.Meta ≡ Some (meta_text (meta_of s))
      true_meta files at = elim (at.are_true name.Meta) [
        | inl none ↦ absurd (gone files none (at.needed name.Meta refl))
        | inr is ↦ is
      ]
        where
          gone : (f : Files) → f name.Meta ≡ None → IsThere f name.Meta → ⊥
          gone f none there = true≢false (sym (subst (λ (c : Content). is_some c ≡ true) none there))

      -- the record that is kept is the job's
      meta_same : IsOpen (asked bound asks (lens_of counts found)) (files_now (history before)) (history after) opened → opened.meta ≡ meta_of s
      meta_same (kept passes settled) =
          let d = desk in
          let there = d.is.0 in
          let here : files_now (history before) name.Meta ≡ Some (meta_text (meta_of s)) =
          ap (λ (f : Files). f name.Meta) (sym (settled_files (history after) (files_now (history before)) settled)) ∙ true_meta (files_now (history after)) there in
          sym (passes.found.record_is.only (meta_of s) (record { canonical = is_wanted.record_is d.desk.cuts; text = here }))
      meta_same (begun empty begins_as settled) = begins_as.meta ∙ sym (record_is empty (λ e. []))

      module _ (is_open : IsOpen (asked bound asks (lens_of counts found)) (files_now (history before)) (history after) opened) where
        meta_is : opened.meta ≡ meta_of s
        meta_is = meta_same is_open

        setting_is : setting_for lines bound opened logs ≡ s
        setting_is = λ i. record { job = record { bound = sym query i; partitions = (meta_is i).partitions; parts = (meta_is i).parts }; lines = sym all i }

        parts_are : opened.meta.parts ≡ counts
        parts_are = ap (λ (m : Meta). m.parts) meta_is ∙ parts

        names_of : IsOpen (asked bound asks (lens_of counts found)) (files_now (history before)) (history after) opened → AreListed (files_now (history after)) opened.names
        names_of (kept passes settled) = subst (λ (f : Files). AreListed f opened.names) (sym (settled_files (history after) (files_now (history before)) settled)) (state_listed (files_now (history before)) opened.names passes.listed)
        names_of (begun empty begins_as settled) =
            let first_one = first_meta (asked bound asks (lens_of counts found)) in
            subst (λ (f : Files). AreListed f opened.names) (sym (settled_files (history after) (only_meta first_one) settled)) (subst (λ (l : List Name). AreListed (only_meta first_one) l) (sym begins_as.names) (none_listed first_one))

        found_of : IsFoundOf s (files_now (history after)) opened
        found_of =
            let jobs = found_law (asked bound asks (lens_of counts found)) (job_of s) (files_now (history before)) (history after) opened is_wanted is_open desk in
            record {
              desk = desk.desk;
              is = desk.is;
              cuts = desk.cuts ∙ ap (λ (ends : List PartEnd). cut_of ends opened.plans) (begin_same ∙ ap begins (sym (ap (λ (m : Meta). m.parts) meta_is)));
              planned = desk.planned;
              committed = desk.committed;
              plans = jobs.plans;
              seen = jobs.seen;
              states = stores_law s bound asks (lens_of counts found) (files_now (history after)) opened setting (sym (ap (λ (m : Meta). m.partitions) meta_is)) is.stores (is.states t (job_of s) (state_at s) is_wanted are_states stands) desk;
              names = names_of is_open;
            }

        pub owned : (cap : Option ℕ) (rounds disk_faults : ℕ) (written : List ℕ)
            → (setting_for lines bound opened logs ≡ s) × IsOwnRun tells lines available answers faults (record { bound = bound; found = opened; cap = cap; rounds = rounds; start = history after; disk_faults = disk_faults; logs = logs; seen = found; written = written })
        owned cap rounds disk_faults written = (
          setting_is,
          record {
            asks = asks;
            settings = λ more there.
                let counted : length s.lines ≡ length more = ap length all ∙ sym (found_length more (map lines logs) there) in
                let same : length more ≡ sum counts = sym counted ∙ long ∙ each in (
                  subst (λ (x : Setting). IsSettingOf x bound asks (lens_of opened.meta.parts more)) (sym setting_is) (subst (λ (c : List ℕ). IsSettingOf s bound asks (lens_of c more)) (sym parts_are) (setting_at more same counted)),
                  ap (λ (c : List ℕ). found_lines (lens_of c more)) parts_are ∙ apart_joined counts more same,
                );
            settled = open_settled bound asks (lens_of counts found) (files_now (history before)) (history after) opened is_open;
            found_is = subst (λ (x : Setting). IsFoundOf x (files_now (history after)) opened) (sym setting_is) found_of;
          },
        )

        -- and what rounds promise is kept
        pub runs_on : RunIsKept tells → tells → (now : History) (told : List ℕ) → (run : WasRun tells (job_of s) (history after) now told) → IsKept tells (job_of s) (history after) now (files_now (history after)) told run
        runs_on law t now told run =
            law t (job_of s) (history after) now (files_now (history after)) told is_wanted.causal (open_settled bound asks (lens_of counts found) (files_now (history before)) (history after) opened is_open)
            (inr (record { cuts = desk.desk.cuts; planned = desk.desk.planned; committed = desk.desk.committed; proper = desk.is.1; at = desk.is.0 })) run
