-- A run whose checkpoint stands for its job, or is empty: what it opens is its own, and each image stands.
use Rattle.std.proofs.Common.{◌≡◌, ◌∙◌, ℕ, List, [], ◌∷◌, length, map, sum, unwrap_or, Option, inr, refl, sym, ap, subst}
use Rattle.std.specs.Option.{ForSome}
use Rattle.std.proofs.lemmas.List.{length-map}
use Rattle.ssq_outside.specs.declared.name.Name.TheVariants as name
use Rattle.ssq_outside.specs.Files.{IsEmpty}
use Rattle.ssq_outside.specs.History.{History, files_now, LeavesNow, LeavesOnly}
use Rattle.ssq_outside.specs.Logs.{Line}
use Rattle.ssq_outside.proofs.Steps.{joined as leaves_then}
use Rattle.ssq_shape.specs.declared.bound.Bound.{Bound}
use Rattle.ssq_core.specs.Course.{Job}
use Rattle.ssq_core.specs.Standing.{IsThere, Stands}
use Rattle.ssq_core.specs.Sound.{StandsOrEmpty}
use Rattle.ssq_course.specs.Setting.{Setting, state_at, job_of}
use Rattle.ssq_open.specs.declared.wanted.Opened.{Opened}
use Rattle.ssq_open.specs.declared.fault.OpenFault.{OpenFault}
use Rattle.ssq_open.specs.Lens.{CanBeAsked, asked}
use Rattle.ssq_open.specs.Sought.{Sought}
use Rattle.ssq_open.specs.Opening.{IsOutside}
use Rattle.ssq_open.specs.Jobs.{IsWantedJob, IsJobs, States, AreStates}
use Rattle.ssq_terms.specs.Setting.{CanRun, AreFound}
use Rattle.ssq_terms.specs.Laws.{JobIsWanted, StatesAreJobs, FirstRecordIsJobs, PartsAreFound}
use Rattle.ssq_terms.specs.Opening.{FoundIsJobs, StoresHoldStates}
use Rattle.ssq_promise.specs.Run.{IsKept, RunIsKept, WasRun}
use Rattle.ssq_logs.specs.Asked.{AreAsked}
use Rattle.ssq_drive.specs.Rounds.{setting_for}
use Rattle.ssq_runner.specs.declared.ask.Ask.{Ask}
use Rattle.ssq_runner.specs.Lens.{lens_of}
use Rattle.ssq_runner.specs.Ending.{IsOwnRun}
use Rattle.ssq_runner.specs.Running.{Given, IsOf, IsOpenedOn, IsRunOf, KeepsStanding, LeavesStanding, sought_in}
use Rattle.ssq_runner.proofs.Readying.{asked_count, asked_found}
use Rattle.ssq_runner.proofs.Firsts.{sought_same}
use Rattle.ssq_runner.proofs.Owning.{is_wanted, are_states, record_is, owned, runs_on, leaves_last, stand_with, stands_now}

-- logs that were asked hold what they held
pub asked_lines : {L : Type 0} (tells : Type 0) (lines : L → List Line) (available : L → ℕ) (answers : L → List ℕ) (faults : L → ℕ) (olds news : List L) (found : List ℕ) → AreAsked tells lines available answers faults olds news found → tells → map lines news ≡ map lines olds
asked_lines tells lines available answers faults [] [] [] ask t = refl
asked_lines tells lines available answers faults (old ∷ olds) (new ∷ news) (n ∷ found) ask t =
    ap (λ (l : List Line). l ∷ map lines news) (ask.0.same t) ∙ ap (λ (ls : List (List Line)). lines old ∷ ls) (asked_lines tells lines available answers faults olds news found ask.2 t)
asked_lines tells lines available answers faults [] [] (n ∷ found) ask t = absurd ask
asked_lines tells lines available answers faults [] (new ∷ news) found ask t = absurd ask
asked_lines tells lines available answers faults (old ∷ olds) [] found ask t = absurd ask
asked_lines tells lines available answers faults (old ∷ olds) (new ∷ news) [] ask t = absurd ask

module _ {L : Type 0} (tells reads : Type 0) (lines : L → List Line) (available : L → ℕ) (answers : L → List ℕ) (faults : L → ℕ)
    (wanted : JobIsWanted) (first_record : FirstRecordIsJobs) (found_law : FoundIsJobs) (parts_law : PartsAreFound) (states_law : StatesAreJobs) (stores_law : StoresHoldStates)
    (bound : Bound) (ask : Ask) (counts found : List ℕ) (can_ask : CanBeAsked bound ask.partitions (lens_of counts found)) (runs : CanRun bound) (each : length found ≡ sum counts)
    (g : Given L) (of : IsOf bound ask counts g) (s : Setting) (run : IsRunOf lines g s) (news : List L) (asks : AreAsked reads lines available answers faults g.logs news found) (r : reads)
    {D : Type 0} (history : D → History) (before after : D) (start : g.start ≡ history before) where
  long : length s.lines ≡ length found
  long = ap length run.lines_are ∙ length-map g.logs lines ∙ sym (asked_count reads lines available answers faults g.logs news found asks).1

  are : AreFound found s.lines
  are =
      let same = asked_lines reads lines available answers faults g.logs news found asks r ∙ sym run.lines_are in
      subst (AreFound found) same (asked_found reads lines available answers faults g.logs news found asks r)

  as_asked : ForSome ask.partitions (λ count. s.job.partitions ≡ count)
  as_asked = subst (λ (o : Option ℕ). ForSome o (λ count. s.job.partitions ≡ count)) of.asks_are run.as_asked

  first : IsEmpty (files_now (history before)) → s.job.partitions ≡ unwrap_or ask.partitions 1
  first empty = run.first (subst (λ (h : History). IsEmpty (files_now h)) (sym start) empty) ∙ ap (λ (o : Option ℕ). unwrap_or o 1) of.asks_are

  -- the opening leaves what stands
  pub opening_stands : (T : Type 0) → T → LeavesStanding T history bound ask.partitions (lens_of counts found) before after → LeavesNow g.start (StandsOrEmpty (job_of s)) → LeavesOnly g.start (history after) (StandsOrEmpty (job_of s))
  opening_stands T t leaves each_now =
      subst (λ (h : History). LeavesOnly h (history after) (StandsOrEmpty (job_of s))) (sym start)
      (leaves t (job_of s)
      (is_wanted tells lines available answers faults wanted first_record found_law parts_law states_law stores_law bound ask.partitions counts found can_ask runs each g.logs s (run.query ∙ of.bound_is) (run.parts ∙ of.counts_are) run.lines_are run.some_partitions run.few_partitions as_asked
      long are history before after first)
      (record_is tells lines available answers faults wanted first_record found_law parts_law states_law stores_law bound ask.partitions counts found can_ask runs each g.logs s (run.query ∙ of.bound_is) (run.parts ∙ of.counts_are) run.lines_are run.some_partitions run.few_partitions as_asked
      long are history before after first)
      (subst (λ (h : History). LeavesNow h (StandsOrEmpty (job_of s))) start each_now))

  -- nothing but the outside refuses what is the job's
  pub opening_outside : (T : Type 0) → T → (why : OpenFault) → (T → (job : Job) (states : States) → IsWantedJob (asked bound ask.partitions (lens_of counts found)) job → AreStates job states → IsJobs (asked bound ask.partitions (lens_of counts found)) job (files_now (history before)) → IsOutside why)
      → IsJobs (sought_in g found) (job_of s) (files_now g.start) → IsOutside why
  opening_outside T t why outside ours =
      outside t (job_of s) (state_at s)
      (is_wanted tells lines available answers faults wanted first_record found_law parts_law states_law stores_law bound ask.partitions counts found can_ask runs each g.logs s (run.query ∙ of.bound_is) (run.parts ∙ of.counts_are) run.lines_are run.some_partitions run.few_partitions as_asked
      long are history before after first)
      (are_states tells lines available answers faults wanted first_record found_law parts_law states_law stores_law bound ask.partitions counts found can_ask runs each g.logs s (run.query ∙ of.bound_is) (run.parts ∙ of.counts_are) run.lines_are run.some_partitions run.few_partitions as_asked
      long are history before after first)
      (subst (λ (w : Sought). IsJobs w (job_of s) (files_now (history before))) (sought_same g bound ask counts found of) (subst (λ (h : History). IsJobs (sought_in g found) (job_of s) (files_now h)) start ours))

  module _ (T : Type 0) (t : T) (opened : Opened) (is : IsOpenedOn T history bound ask.partitions (lens_of counts found) before after opened) where
    -- what was opened is the run's own
    pub own_run : (rounds disk_faults : ℕ) (written : List ℕ) → StandsOrEmpty (job_of s) (files_now g.start)
        → (setting_for lines bound opened g.logs ≡ s) × IsOwnRun tells lines available answers faults (record { bound = bound; found = opened; cap = ask.cap; rounds = rounds; start = history after; disk_faults = disk_faults; logs = g.logs; seen = found; written = written })
    own_run rounds disk_faults written stands =
        owned tells lines available answers faults wanted first_record found_law parts_law states_law stores_law bound ask.partitions counts found can_ask runs each g.logs s (run.query ∙ of.bound_is) (run.parts ∙ of.counts_are) run.lines_are run.some_partitions run.few_partitions as_asked
        long are history before after first T t opened is (subst (λ (h : History). StandsOrEmpty (job_of s) (files_now h)) start stands) (is.is_open t) ask.cap rounds disk_faults written

    -- what rounds promise that began on it is kept
    pub rounds_keep : RunIsKept tells → tells → (now : History) (told : List ℕ) → StandsOrEmpty (job_of s) (files_now g.start) → (was : WasRun tells (job_of s) (history after) now told)
        → IsKept tells (job_of s) (history after) now (files_now (history after)) told was
    rounds_keep law known now told stands was =
        runs_on tells lines available answers faults wanted first_record found_law parts_law states_law stores_law bound ask.partitions counts found can_ask runs each g.logs s (run.query ∙ of.bound_is) (run.parts ∙ of.counts_are) run.lines_are run.some_partitions run.few_partitions as_asked
        long are history before after first T t opened is (subst (λ (h : History). StandsOrEmpty (job_of s) (files_now h)) start stands) (is.is_open t) law known now told was

    -- and so each image stands of what rounds leave
    pub rounds_stand : RunIsKept tells → tells → (now : History) (told : List ℕ) → LeavesStanding T history bound ask.partitions (lens_of counts found) before after → LeavesNow g.start (StandsOrEmpty (job_of s))
        → WasRun tells (job_of s) (history after) now told → LeavesOnly g.start now (StandsOrEmpty (job_of s))
    rounds_stand law known now told leaves each_now was =
        leaves_then (StandsOrEmpty (job_of s)) g.start (history after) now (opening_stands T t leaves each_now)
        (rounds_keep law known now told (stands_now g.start (StandsOrEmpty (job_of s)) each_now) was).stands

    pub rounds_stay : RunIsKept tells → tells → (now : History) (told : List ℕ) → KeepsStanding T history before after → LeavesNow g.start (Stands (job_of s)) → WasRun tells (job_of s) (history after) now told → LeavesOnly g.start now (Stands (job_of s))
    rounds_stay law known now told keeps each_now was =
        let first : LeavesOnly g.start (history after) (Stands (job_of s)) =
        subst (λ (h : History). LeavesOnly h (history after) (Stands (job_of s))) (sym start) (keeps t (job_of s) (subst (λ (h : History). LeavesNow h (Stands (job_of s))) start each_now)) in
        let kept = rounds_keep law known now told (inr (stands_now g.start (Stands (job_of s)) each_now)) was in
        let there : IsThere (files_now (history after)) name.Meta = (leaves_last (Stands (job_of s)) g.start (history after) first).at.needed name.Meta refl in
        leaves_then (Stands (job_of s)) g.start (history after) now first (stand_with (job_of s) (history after) now (files_now (history after)) there kept.stands (kept.stays name.Meta refl there))
