-- No run that can go on is refused, none that has room meets a limit, and none that is faultless finds a fault.
use Rattle.std.proofs.Common.{◌≡◌, ◌<◌, ◌≤◌, ◌+◌, ◌*◌, ◌-◌, ◌∙◌, ◌&&◌, ℕ, zero, suc, ℤ, Bool, true, false, List, [], ◌∷◌, length, map, get_or, sum, All, Option, Some, None, Result, Ok, Err, inl, inr, refl, sym, ap, subst, arith, if◌then◌else◌}
use Rattle.std.specs.Prelude.{slice_get, not}
use Rattle.std.specs.List.{sum_by}
use Rattle.std.proofs.lemmas.Bool.{cases_lt}
use Rattle.std.proofs.lemmas.List.{length-map, length-append}
use Rattle.std.proofs.lemmas.List.Elements.{All-head, All-tail}
use mathlib.Core.Bool.{and-false}
use mathlib.Core.Option.{some, some-injective, some-ne-none}
use lib.ListN.{get_elem?}
use Rattle.ssq_outside.specs.History.{History, files_now}
use Rattle.ssq_outside.specs.Files.{Files}
use Rattle.ssq_outside.specs.Logs.{Held, Line}
use Rattle.ssq_shape.specs.declared.bound.Bound.{Bound}
use Rattle.ssq_shape.specs.declared.bound.Stream.{Stream}
use Rattle.ssq_plans.specs.declared.plan.Plan.{Plan}
use Rattle.ssq_plans.specs.declared.part.PartEnd.{PartEnd}
use Rattle.ssq_core.specs.Course.{Cuts}
use Rattle.ssq_course.specs.Setting.{Setting, job_of, parts_in, closes, watermark_at, cut_of as offsets_of, cuts_of as offsets}
use Rattle.ssq_meaning.specs.Parts.{Part}
use Rattle.ssq_meaning.specs.Meaning.{Values}
use Rattle.ssq_meaning.specs.Cut.{AreCuts, AreWithin, start_of}
use Rattle.ssq_meaning.specs.Cut.{Cuts as Offsets}
use Rattle.ssq_meaning.specs.Times.{is_above}
use Rattle.ssq_meaning.specs.Feeding.{LineAt}
use Rattle.ssq_meaning.specs.Epochs.{key_fault, watermark, watermark_before}
use Rattle.ssq_board.specs.declared.front.Cause.{Cause}
use Rattle.ssq_board.specs.declared.front.Cause.TheVariants as cause
use Rattle.ssq_open.specs.declared.fault.OpenFault.{OpenFault}
use Rattle.ssq_open.specs.Opening.{IsOutside}
use Rattle.ssq_open.specs.Jobs.{IsJobs}
use Rattle.ssq_open.specs.Epochs.{cut_of}
use Rattle.ssq_terms.specs.Setting.{AreFound}
use Rattle.ssq_terms.specs.Laws.{JobIsWanted, PartsAreFound, FilesSayTheirCuts, DuesAreOfMarks, due_at}
use Rattle.ssq_logs.specs.declared.fault.PartsFault.{PartsFault}
use Rattle.ssq_logs.specs.declared.fault.PartsFault.TheVariants as parts_fault
use Rattle.ssq_logs.specs.declared.fault.LengthFault.{LengthFault}
use Rattle.ssq_logs.specs.declared.fault.LengthFault.TheVariants as length_fault
use Rattle.ssq_logs.specs.Asked.{AreAsked, most_lines}
use Rattle.ssq_logs.specs.Parts.{counts_in, IsFew, IsFullAt}
use Rattle.ssq_logs.specs.Opened.{parts_of, AreLogsOf}
use Rattle.ssq_terms.proofs.Dealing.{never_above}
use Rattle.ssq_terms.proofs.Covering.{sums_within}
use Rattle.ssq_drive.specs.declared.round.Stopped.{Stopped}
use Rattle.ssq_drive.specs.Rounds.{IsRoundStop, IsFaultAt, IsKeyAt, first_of}
use Rattle.ssq_runner.specs.declared.ask.Ask.{Ask}
use Rattle.ssq_runner.specs.declared.fault.RunFault.{RunFault}
use Rattle.ssq_runner.specs.declared.fault.RunFault.TheVariants as fault
use Rattle.ssq_runner.specs.Faults.{fault_by, fault_of}
use Rattle.ssq_runner.specs.Lens.{lens_of}
use Rattle.ssq_runner.specs.Rounds.{Round, AreNext, HaveAnswered, epochs_after}
use Rattle.ssq_runner.specs.Ending.{Begun, Ends, IsEnd, IsUncounted, IsOwnRun, Owned, setting_in, cuts_in, finished, stopped, uncounted as rounds_uncounted, unput, starved as rounds_starved}
use Rattle.ssq_runner.specs.Running.{Given, IsRunOf, IsBegunBy, RunEnd, uncounted, refused, starved, ran, sought_in}
use Rattle.ssq_runner.specs.Sources.{IsUnparted, unparted, over}
use Rattle.ssq_runner.specs.Complete.{CanBeResumed, CanGoOn, IsNoRefusal, IsNoLimit, IsNoFault, GoOnFrom, RunsGoOn, RunsMeetNoLimit, RunsMeetNoFault, known_in, planned_in, commits_in, covered_in, committed_in, epochs_for, most_epochs}
use Rattle.ssq_runner.proofs.Cutting.{cut_more}
use Rattle.ssq_runner.proofs.Readying.{asked_count, asked_found, zero_at, begins_zero}
use Rattle.ssq_runner.proofs.Promising.{asked_lines}
use Rattle.ssq_runner.proofs.Sourcing.{each_log}
use Rattle.ssq_runner.proofs.Growing.{FoundWithin, IsStep, HasGrown, rounds_step, grown, free, free_few, next_from, follow_from}
use Rattle.ssq_runner.proofs.Resuming.{known_found, resumed_jobs, resumed_stands, covered_known, IsResumed, resumed_is, goes_on_from, cut_count, follow, opened_from, committed_first}
use Rattle.ssq_runner.proofs.Faultless.{IsFine, epoch_fine, keyless}

-- ---- the ends of runs

module _ {L : Type 0} (told tells : Type 0) (lines : L → List Line) (available : L → ℕ) (answers : L → List ℕ) (faults : L → ℕ) (OutTells : Type 0) where
  -- What has to be shown of a run over logs for its end to be as P has it.
  record IsShown (P : Result (Unit {0}) RunFault → Type 0) (g : Given L) (now : History) (disk_faults : ℕ) (logs : List L) (written text : List ℕ) (end : Result (Unit {0}) RunFault) : Type 0 where
    pub done : P (Ok tt)
    pub unput : P (Err fault.OutFault)
    pub starved : P (Err fault.NoMemory)
    pub uncounted : (why : LengthFault) → IsUncounted tells lines available answers faults g.logs logs why → P (Err (fault.Lines why))
    pub refused : (found : List ℕ) (why : OpenFault) → AreAsked tells lines available answers faults g.logs logs found
        → (tells → (s : Setting) → IsRunOf lines g s → IsJobs (sought_in g found) (job_of s) (files_now g.start) → IsOutside why) → P (Err (fault.Open why))
    pub stopped : (found : List ℕ) (asked_logs : List L) → AreAsked tells lines available answers faults g.logs asked_logs found → (b : Begun L) → IsBegunBy tells lines available answers faults g found b
        → (ends : Ends tells lines available answers faults b now disk_faults logs OutTells written text end) → (seen : List ℕ) → AreNext (Owned tells lines available answers faults b) (setting_in tells lines available answers faults b) b.cap seen (cuts_in b ends.plans) (epochs_after (length b.found.plans) ends.done) (length ends.plans)
        → HaveAnswered tells lines available answers faults 0 (record { found = seen; epochs = length ends.plans } ∷ ends.done) b.logs logs → (why : Stopped)
        → IsRoundStop tells (Owned tells lines available answers faults b) (setting_in tells lines available answers faults b) (cuts_in b ends.plans) seen (length ends.plans) (b.found.committed + length ends.told) (files_now now) b.disk_faults disk_faults (sum_by faults logs) why.key why.cause
        → P (Err (fault_of why))

  as_end : (P : Result (Unit {0}) RunFault → Type 0) (end other : Result (Unit {0}) RunFault) → end ≡ other → P other → P end
  as_end P end other same is = subst P (sym same) is

  run_is : (P : Result (Unit {0}) RunFault → Type 0) (g : Given L) (now : History) (disk_faults : ℕ) (logs : List L) (written text : List ℕ) (end : Result (Unit {0}) RunFault) → IsShown P g now disk_faults logs written text end
      → RunEnd tells lines available answers faults g now disk_faults logs OutTells written text end → P end
  run_is P g now disk_faults logs written text end show (uncounted why not stop still unsaid is) = as_end P end (Err (fault.Lines why)) is (show.uncounted why not)
  run_is P g now disk_faults logs written text end show (refused found why asked checks moments outside count unsaid is) = as_end P end (Err (fault.Open why)) is (show.refused found why asked outside)
  run_is P g now disk_faults logs written text end show (starved found asks still unsaid is) = as_end P end (Err fault.NoMemory) is show.starved
  run_is P g now disk_faults logs written text end show (ran found asked_logs asked b begun ends promised) = by ends.is_end
    where
      lines_before : (why : LengthFault) → IsUncounted tells lines available answers faults b.logs logs why → P (Err (fault.Lines why))
      lines_before why not = show.uncounted why (subst (λ (l : List L). IsUncounted tells lines available answers faults l logs why) begun.logs_are not)

      by : IsEnd tells lines available answers faults b now disk_faults logs OutTells written ends.plans ends.done ends.told text end → P end
      by (finished number all committed has_asked wrote left is) = as_end P end (Ok tt) is show.done
      by (stopped number seen next has_asked why stop put more split wrote left is) = as_end P end (Err (fault_of why)) is (show.stopped found asked_logs asked b begun ends seen next has_asked.answered why stop)
      by (rounds_uncounted number all before has_asked why not stop wrote left is) = as_end P end (Err (fault.Lines why)) is (lines_before why not)
      by (unput number seen next has_asked put more split wrote left is) = as_end P end (Err fault.OutFault) is show.unput
      by (rounds_starved number rounds were has_asked put more rest split wrote left is) = as_end P end (Err fault.NoMemory) is show.starved

  -- ---- what a run knows that can go on

  module _ (h : told) (t : tells) (held : Held) (known : List ℕ → ℕ → ℕ) (bound : Bound) (ask : Ask) (start : History) (s : Setting) (can : CanGoOn held known bound ask.partitions start s)
      (g : Given L) (counts : told → g.counts ≡ counts_in held bound.streams) (starts : g.start ≡ start) (are : AreLogsOf told lines available answers faults held known (parts_of bound.streams g.counts) g.logs) (run : IsRunOf lines g s)
      (news : List L) (found : List ℕ) (asks : AreAsked tells lines available answers faults g.logs news found) where
    each : length found ≡ sum g.counts
    each =
        (asked_count tells lines available answers faults g.logs news found asks).1
        ∙ each_log told lines available answers faults held known bound.streams g.counts g.logs (ap length (counts h) ∙ length-map bound.streams (λ (stream : Stream). held.parts stream.source)) are

    known_le : (i : ℕ) → get_or (known_in held known bound.streams) i 0 ≤ get_or found i 0
    known_le =
        known_found told tells lines available answers faults held known (parts_of bound.streams (counts_in held bound.streams)) g.logs news found h t
        (subst (λ (c : List ℕ). AreLogsOf told lines available answers faults held known (parts_of bound.streams c) g.logs) (counts h) are) asks

    abbrev resumed : CanBeResumed (job_of s) (known_in held known bound.streams) (files_now g.start)
    resumed = subst (λ (l : History). CanBeResumed (job_of s) (known_in held known bound.streams) (files_now l)) (sym starts) can.resumed

    pub jobs : IsJobs (sought_in g found) (job_of s) (files_now g.start)
    jobs = resumed_jobs lines g s (known_in held known bound.streams) found run each known_le resumed

-- ---- no refusal

going_stop : (tells owned : Type 0) (s : Setting) (cuts : Cuts) (found : List ℕ) (planned e : ℕ) (files : Files) (disk disk_now logs : ℕ) (key : Option Values) (why : Cause) → tells → owned → IsRoundStop tells owned s cuts found planned e files disk disk_now logs key why → IsNoRefusal (Err (fault_by why key))
going_stop tells owned s cuts found planned e files disk disk_now logs key (cause.BadLine a b o f) t own is = tt
going_stop tells owned s cuts found planned e files disk disk_now logs key (cause.Overflow a b o) t own is = tt
going_stop tells owned s cuts found planned e files disk disk_now logs None cause.KeyOverflow t own is = tt
going_stop tells owned s cuts found planned e files disk disk_now logs (Some keys) cause.KeyOverflow t own is = tt
going_stop tells owned s cuts found planned e files disk disk_now logs key cause.LogFault t own is = tt
going_stop tells owned s cuts found planned e files disk disk_now logs key (cause.LogShort a b m k) t own is = is.1 t
going_stop tells owned s cuts found planned e files disk disk_now logs key (cause.Damaged q) t own is = is.0 own
going_stop tells owned s cuts found planned e files disk disk_now logs key cause.DiskFault t own is = tt
going_stop tells owned s cuts found planned e files disk disk_now logs key cause.Full t own is = tt
going_stop tells owned s cuts found planned e files disk disk_now logs key cause.NoMemory t own is = tt

going_unparted : (told : Type 0) (held : Held) (streams : List Stream) (why : RunFault) → IsUnparted told held streams why → IsNoRefusal (Err why)
going_unparted told held streams (fault.Parts why) is = tt
going_unparted told held streams (fault.Lines why) is = absurd is
going_unparted told held streams (fault.Open why) is = absurd is
going_unparted told held streams (fault.Round why) is = absurd is
going_unparted told held streams (fault.KeyOverflow key) is = absurd is
going_unparted told held streams fault.OutFault is = absurd is
going_unparted told held streams fault.NoMemory is = tt

pub goes_on : {L : Type 0} (told tells : Type 0) (lines : L → List Line) (available : L → ℕ) (answers : L → List ℕ) (faults : L → ℕ) (OutTells : Type 0) → RunsGoOn told tells lines available answers faults OutTells
goes_on told tells lines available answers faults OutTells h t held known bound ask start now disk_faults disk_faults_now returned returned_now old written text end s can (unparted why cause still is) =
    subst IsNoRefusal (sym is) (going_unparted told held bound.streams why cause)
goes_on told tells lines available answers faults OutTells h t held known bound ask start now disk_faults disk_faults_now returned returned_now old written text end s can (over g counts of starts disk wrote are runs logs run_end back) =
    run_is told tells lines available answers faults OutTells IsNoRefusal g now disk_faults_now logs written text end (record {
      done = tt;
      unput = tt;
      starved = tt;
      uncounted = λ why not. tt;
      refused = λ found why asked outside. outside t s (runs h s can.setting) (jobs told tells lines available answers faults OutTells h t held known bound ask start s can g counts starts are (runs h s can.setting) logs found asked);
      stopped = λ found asked_logs asked b begun ends seen next has_asked why stop.
          let run = runs h s can.setting in
          let own = begun.own t s run
          (resumed_stands (job_of s) (known_in held known bound.streams) (files_now g.start) (resumed told tells lines available answers faults OutTells h t held known bound ask start s can g counts starts are run asked_logs found asked)) in
          going_stop tells (Owned tells lines available answers faults b) (setting_in tells lines available answers faults b) (cuts_in b ends.plans) seen (length ends.plans) (b.found.committed + length ends.told) (files_now now) b.disk_faults disk_faults_now (sum_by faults logs) why.key why.cause t (t, own.1) stop;
    }) run_end

-- ---- cuts and keys

-- the law of epochs without lines, as the crate of the meaning has it
abbrev pub MarksStay : Type 0
MarksStay = (query : Bound) (parts : List Part) (cuts : Offsets) (e : ℕ) → cuts (e + 1) ≡ cuts e → watermark query parts cuts (e + 1) ≡ watermark query parts cuts e

all_zero : (cut : List ℕ) (parts : List Part) → length cut ≡ length parts → ((i : ℕ) → get_or cut i 0 ≡ 0) → cut ≡ start_of parts
all_zero [] [] count none = refl
all_zero [] (part ∷ parts) count none = absurd (omega (arith, count))
all_zero (n ∷ cut) [] count none = absurd (omega (arith, count))
all_zero (n ∷ cut) (part ∷ parts) count none =
    let here : n ≡ 0 = none 0 in
    let rest = all_zero cut parts (omega (arith, count)) (λ i. none (suc i)) in
    λ i. here i ∷ rest i

are_within : (parts : List Part) (froms tos : List ℕ) → length froms ≡ length parts → length tos ≡ length parts → ((i : ℕ) → get_or froms i 0 ≤ get_or tos i 0) → AreWithin parts froms tos
are_within [] [] [] one other up = tt
are_within [] [] (to ∷ tos) one other up = absurd (omega (arith, other))
are_within [] (from ∷ froms) tos one other up = absurd (omega (arith, one))
are_within (part ∷ parts) [] tos one other up = absurd (omega (arith, one))
are_within (part ∷ parts) (from ∷ froms) [] one other up = absurd (omega (arith, other))
are_within (part ∷ parts) (from ∷ froms) (to ∷ tos) one other up = (up 0, are_within parts froms tos (omega (arith, one)) (omega (arith, other)) (λ i. up (suc i)))

-- ---- how far the cuts of rounds go

-- what was found of a part is not more than it will come to hold
found_most : (found : List ℕ) (all : List (List Line)) → AreFound found all → (i : ℕ) → get_or found i 0 ≤ get_or (map (λ (own : List Line). length own) all) i 0
found_most [] [] are i = omega arith
found_most (n ∷ found) (own ∷ all) are zero = are.0
found_most (n ∷ found) (own ∷ all) are (suc i) = found_most found all are.2 i
found_most [] (own ∷ all) are i = absurd are
found_most (n ∷ found) [] are i = absurd are

-- and so it is of what each round found
rounds_most : {L : Type 0} (tells : Type 0) (lines : L → List Line) (available : L → ℕ) (answers : L → List ℕ) (faults : L → ℕ) → tells → (i : ℕ) (rounds : List Round) (olds news : List L) → HaveAnswered tells lines available answers faults i rounds olds news
    → (k m : ℕ) → k < length olds → m ≡ i + k → All (λ (round : Round). get_or round.found m 0 ≤ get_or (map (λ (own : List Line). length own) (map lines olds)) k 0) rounds
rounds_most tells lines available answers faults t i rounds [] news have k m less at = absurd (omega (arith, less))
rounds_most tells lines available answers faults t i rounds (old ∷ olds) [] have k m less at = absurd have
rounds_most tells lines available answers faults t i rounds (old ∷ olds) (new ∷ news) have zero m less at =
    subst (λ (n : ℕ). All (λ (round : Round). get_or round.found n 0 ≤ length (lines old)) rounds) (let e : i ≡ m = omega (arith, at) in e)
    (subst (λ (own : List Line). All (λ (round : Round). get_or round.found i 0 ≤ length own) rounds) (have.0.same t) (have.0.within t))
rounds_most tells lines available answers faults t i rounds (old ∷ olds) (new ∷ news) have (suc k) m less at = rounds_most tells lines available answers faults t (i + 1) rounds olds news have.1 k m (omega (arith, less)) (omega (arith, at))

module _ {L : Type 0} (told tells : Type 0) (lines : L → List Line) (available : L → ℕ) (answers : L → List ℕ) (faults : L → ℕ) (OutTells : Type 0) (wanted : JobIsWanted) (parts_law : PartsAreFound) (files_law : FilesSayTheirCuts) (dues_law : DuesAreOfMarks) (still_law : MarksStay)
    (h : told) (t : tells) (held : Held) (known : List ℕ → ℕ → ℕ) (bound : Bound) (ask : Ask) (start : History) (s : Setting) (can : CanGoOn held known bound ask.partitions start s)
    (g : Given L) (counts : told → g.counts ≡ counts_in held bound.streams) (starts : g.start ≡ start) (are : AreLogsOf told lines available answers faults held known (parts_of bound.streams g.counts) g.logs) (run : IsRunOf lines g s)
    (found : List ℕ) (news : List L) (asks : AreAsked tells lines available answers faults g.logs news found) (b : Begun L) (begun : IsBegunBy tells lines available answers faults g found b)
    (now : History) (disk_faults : ℕ) (logs : List L) (written text : List ℕ) (end : Result (Unit {0}) RunFault) (ends : Ends tells lines available answers faults b now disk_faults logs OutTells written text end)
    (seen : List ℕ) (next : AreNext (Owned tells lines available answers faults b) (setting_in tells lines available answers faults b) b.cap seen (cuts_in b ends.plans) (epochs_after (length b.found.plans) ends.done) (length ends.plans))
    (has_asked : HaveAnswered tells lines available answers faults 0 (record { found = seen; epochs = length ends.plans } ∷ ends.done) b.logs logs) where
  of_start : CanBeResumed (job_of s) (known_in held known bound.streams) (files_now g.start)
  of_start = subst (λ (l : History). CanBeResumed (job_of s) (known_in held known bound.streams) (files_now l)) (sym starts) can.resumed

  -- what was opened is the run's own
  pub owned : (setting_in tells lines available answers faults b ≡ s) × IsOwnRun tells lines available answers faults b
  owned = begun.own t s run (resumed_stands (job_of s) (known_in held known bound.streams) (files_now g.start) of_start)

  found_all : AreFound found s.lines
  found_all =
      let same : map lines news ≡ s.lines = asked_lines tells lines available answers faults g.logs news found asks t ∙ sym run.lines_are in
      subst (AreFound found) same (asked_found tells lines available answers faults g.logs news found asks t)

  found_own : AreFound found (map lines b.logs)
  found_own = subst (AreFound found) (run.lines_are ∙ ap (map lines) (sym begun.logs_are)) found_all

  most : List ℕ
  most = map (λ (own : List Line). length own) s.lines

  -- whether an epoch without lines is due
  abbrev dues : ℕ → Bool
  dues = due_at (setting_in tells lines available answers faults b) (cuts_in b ends.plans)

  -- it is what the checkpoint stands for
  pub facts : IsResumed tells lines available answers faults b (planned_in can.resumed) (commits_in can.resumed) (covered_in can.resumed) (committed_in can.resumed)
  facts =
      subst (λ (l : History). (of : CanBeResumed (job_of s) (known_in held known bound.streams) (files_now l)) → IsResumed tells lines available answers faults b (planned_in of) (commits_in of) (covered_in of) (committed_in of)) starts
      (subst (λ (y : Setting). (of : CanBeResumed (job_of y) (known_in held known bound.streams) (files_now g.start)) → IsResumed tells lines available answers faults b (planned_in of) (commits_in of) (covered_in of) (committed_in of)) owned.0
      (resumed_is tells lines available answers faults b wanted parts_law files_law owned.1 found found_own (known_in held known bound.streams) (files_now g.start) (sought_in g found) (begun.opened t))) can.resumed

  cut_same : (e : ℕ) → e ≤ length b.found.plans → cuts_in b ends.plans e ≡ cuts_in b b.found.plans e
  cut_same e le = ap (λ (plans : List Plan). cut_of (first_of b.found) plans e) ends.has.keeps ∙ cut_more (first_of b.found) b.found.plans ends.has.more e le

  first_most : (i : ℕ) → get_or (offsets_of (cuts_in b ends.plans (length b.found.plans))) i 0 ≤ get_or most i 0
  unfolding most
  first_most i =
      let c = ap (λ (cut : List PartEnd). get_or (offsets_of cut) i 0) (cut_same (length b.found.plans) (omega arith)) in
      let f = facts.covered_is i in
      let k = covered_known can.resumed i in
      let l = known_le told tells lines available answers faults OutTells h t held known bound ask start s can g counts starts are run news found asks i in
      let m = found_most found s.lines found_all i in
      omega (arith, c, f, k, l, m)

  few_rounds : FoundWithin (length (cuts_in b ends.plans (length b.found.plans))) most (record { found = seen; epochs = length ends.plans } ∷ ends.done)
  unfolding most
  few_rounds i less =
      let count : length (cuts_in b ends.plans (length b.found.plans)) ≡ length b.logs =
      ap length (cut_same (length b.found.plans) (omega arith)) ∙ cut_count tells lines available answers faults b wanted parts_law files_law owned.1 found found_own (length b.found.plans) (omega arith) in
      subst (λ (all : List (List Line)). All (λ (round : Round). get_or round.found i 0 ≤ get_or (map (λ (own : List Line). length own) all) i 0) (record { found = seen; epochs = length ends.plans } ∷ ends.done)) (sym (run.lines_are ∙ ap (map lines) (sym begun.logs_are)))
      (rounds_most tells lines available answers faults t 0 (record { found = seen; epochs = length ends.plans } ∷ ends.done) b.logs logs has_asked i i (let c = count in omega (arith, c, less)) (omega arith))

  -- the epochs that were planned since were each to come
  steps : (e : ℕ) → length b.found.plans ≤ e → e < length ends.plans → IsStep b.cap (cuts_in b ends.plans) dues (length (cuts_in b ends.plans (length b.found.plans))) most e
  unfolding most
  steps =
      rounds_step (Owned tells lines available answers faults b) (t, owned.1) (setting_in tells lines available answers faults b) b.cap (cuts_in b ends.plans) (length (cuts_in b ends.plans (length b.found.plans))) most seen (length b.found.plans) (length ends.plans) (length ends.plans)
      ends.done few_rounds ends.has.are next

  -- after one without lines none is due
  quiet : (e : ℕ) → cuts_in b ends.plans (e + 1) ≡ cuts_in b ends.plans e → dues (e + 1) ≡ false
  quiet e same =
      let x = setting_in tells lines available answers faults b in
      let cuts = cuts_in b ends.plans in
      let mark = still_law x.job.bound (parts_in x) (offsets cuts) e (ap offsets_of same) in
      (dues_law x cuts).next e ∙ ap (λ (now : Option ℤ). closes x.job.bound && is_above now (watermark_at x cuts e)) mark ∙ ap (λ (above : Bool). closes x.job.bound && above) (never_above (watermark_at x cuts e)) ∙ and-false (closes x.job.bound)

  pub grows : (e n : ℕ) → e ≡ length b.found.plans + n → e ≤ length ends.plans → HasGrown (cuts_in b ends.plans) dues (map (λ (own : List Line). length own) s.lines) (length b.found.plans) e
  unfolding most
  grows = grown b.cap begun.has_cap (cuts_in b ends.plans) dues quiet most (length b.found.plans) (length ends.plans) first_most steps

  -- there is an end for each part in each cut
  ends_count : (e : ℕ) → e ≤ length ends.plans → length (cuts_in b ends.plans e) ≡ length b.logs
  ends_count e le = elim (cases_lt e (length b.found.plans)) [
    | inl early ↦ ap length (cut_same e (omega (arith, early))) ∙ cut_count tells lines available answers faults b wanted parts_law files_law owned.1 found found_own e (omega (arith, early))
    | inr late ↦
        (grows e (e - length b.found.plans) (omega (arith, late)) le).count ∙ ap length (cut_same (length b.found.plans) (omega arith))
        ∙ cut_count tells lines available answers faults b wanted parts_law files_law owned.1 found found_own (length b.found.plans) (omega arith)
  ]

  parts_count : length (parts_in (setting_in tells lines available answers faults b)) ≡ length b.logs
  parts_count =
      (parts_law (setting_in tells lines available answers faults b) b.bound owned.1.asks (lens_of b.found.meta.parts found) (owned.1.settings found found_own).0).0 ∙ length-map b.logs lines

  -- no end falls from one epoch to the next
  one_up : (e : ℕ) → e < length ends.plans → (i : ℕ) → get_or (offsets_of (cuts_in b ends.plans e)) i 0 ≤ get_or (offsets_of (cuts_in b ends.plans (e + 1))) i 0
  one_up e less i = elim (cases_lt e (length b.found.plans)) [
    | inl early ↦
        let here = ap (λ (cut : List PartEnd). get_or (offsets_of cut) i 0) (cut_same e (omega (arith, early))) in
        let next = ap (λ (cut : List PartEnd). get_or (offsets_of cut) i 0) (cut_same (e + 1) (omega (arith, early))) in
        let up = follow_from (cuts_in b b.found.plans e) (cuts_in b b.found.plans (e + 1)) (follow tells lines available answers faults b wanted parts_law files_law owned.1 found found_own e early) i in
        omega (arith, here, next, up)
    | inr late ↦
        let step = steps e late less in
        let up = next_from b.cap (cuts_in b ends.plans e) step.found i in
        let next = ap (λ (cut : List PartEnd). get_or (offsets_of cut) i 0) step.next in
        omega (arith, up, next)
  ]

  -- so these are cuts of the parts
  are_cuts : AreCuts (parts_in (setting_in tells lines available answers faults b)) (offsets (cuts_in b ends.plans)) (length ends.plans)
  are_cuts =
      let parts = parts_in (setting_in tells lines available answers faults b) in
      record {
        starts = all_zero (offsets_of (first_of b.found)) parts (length-map (first_of b.found) (λ (end : PartEnd). end.end) ∙ ends_count 0 (omega arith) ∙ sym parts_count) (λ i. zero_at (first_of b.found) i (begins_zero 0 b.found.meta.parts));
        follow = λ e less.
            are_within parts (offsets_of (cuts_in b ends.plans e)) (offsets_of (cuts_in b ends.plans (e + 1)))
            (length-map (cuts_in b ends.plans e) (λ (end : PartEnd). end.end) ∙ ends_count e (omega (arith, less)) ∙ sym parts_count)
            (length-map (cuts_in b ends.plans (e + 1)) (λ (end : PartEnd). end.end) ∙ ends_count (e + 1) (omega (arith, less)) ∙ sym parts_count) (one_up e less);
      }

  -- which go on from the checkpoint
  on_from : GoOnFrom can.resumed (offsets (cuts_in b ends.plans))
  on_from =
      subst (λ (l : History). (of : CanBeResumed (job_of s) (known_in held known bound.streams) (files_now l)) → GoOnFrom of (offsets (cuts_in b ends.plans))) starts
      (subst (λ (y : Setting). (of : CanBeResumed (job_of y) (known_in held known bound.streams) (files_now g.start)) → GoOnFrom of (offsets (cuts_in b ends.plans))) owned.0
      (goes_on_from tells lines available answers faults b wanted parts_law files_law owned.1 found found_own (cuts_in b ends.plans) cut_same (known_in held known bound.streams) (files_now g.start) (sought_in g found) (begun.opened t))) can.resumed

  -- and no key overflows in them
  no_key_at : (n : ℕ) → b.found.committed + n < length ends.plans
      → ((cuts : Offsets) (n e : ℕ) → AreCuts (parts_in s) cuts n → GoOnFrom can.resumed cuts → commits_in can.resumed ≤ e → e < n → key_fault s.job.bound (parts_in s) cuts e ≡ None)
      → (key : Values) → IsKeyAt (setting_in tells lines available answers faults b) (cuts_in b ends.plans) (b.found.committed + n) key → ⊥
  no_key_at n less keys key is =
      let x = setting_in tells lines available answers faults b in
      let none : key_fault x.job.bound (parts_in x) (offsets (cuts_in b ends.plans)) (b.found.committed + n) ≡ None =
      subst (λ (y : Setting). AreCuts (parts_in y) (offsets (cuts_in b ends.plans)) (length ends.plans) → key_fault y.job.bound (parts_in y) (offsets (cuts_in b ends.plans)) (b.found.committed + n) ≡ None) (sym owned.0)
      (λ cuts. keys (offsets (cuts_in b ends.plans)) (length ends.plans) (b.found.committed + n) cuts on_from (let c = facts.commits_are in omega (arith, c)) less) are_cuts in
      keyless x.job.bound (parts_in x) (offsets (cuts_in b ends.plans)) (b.found.committed + n) key none is

  -- an epoch after the committed ones begins after them
  pub behind : (n : ℕ) → b.found.committed + n ≤ length ends.plans → (i : ℕ) → get_or (committed_in can.resumed) i 0 ≤ get_or (offsets_of (cuts_in b ends.plans (b.found.committed + n))) i 0
  behind n le i = elim (cases_lt (b.found.committed + n) (length b.found.plans)) [
    | inl early ↦
        let c = ap (λ (cut : List PartEnd). get_or (offsets_of cut) i 0) (cut_same (b.found.committed + n) (omega (arith, early))) in
        let f = facts.committed_is i in
        let o = opened_from tells lines available answers faults b wanted parts_law files_law owned.1 found found_own b.found.committed n (omega (arith, early)) i in
        omega (arith, c, f, o)
    | inr late ↦
        let before = committed_first tells lines available answers faults b wanted parts_law files_law owned.1 found found_own in
        let there : b.found.committed + (length b.found.plans - b.found.committed) ≡ length b.found.plans = omega (arith, before) in
        let c = ap (λ (cut : List PartEnd). get_or (offsets_of cut) i 0) (cut_same (length b.found.plans) (omega arith)) in
        let f = facts.committed_is i in
        let o = opened_from tells lines available answers faults b wanted parts_law files_law owned.1 found found_own b.found.committed (length b.found.plans - b.found.committed) (omega (arith, there)) i in
        let m = ap (λ (e : ℕ). get_or (offsets_of (cuts_in b b.found.plans e)) i 0) there in
        let a = (grows (b.found.committed + n) (b.found.committed + n - length b.found.plans) (omega (arith, late)) le).above i in
        omega (arith, c, f, o, m, a)
  ]

  -- no line after them is the fault of an epoch
  no_fault_at : (n : ℕ) → b.found.committed + n < length ends.plans → ((i : ℕ) (part : Part) → slice_get (parts_in s) i ≡ Some part → IsFine s.job.bound part (get_or (committed_in can.resumed) i 0))
      → (at : LineAt) → IsFaultAt (setting_in tells lines available answers faults b) (cuts_in b ends.plans) (b.found.committed + n) (Some at) → ⊥
  no_fault_at n less good at is =
      epoch_fine s.job.bound (parts_in s) (offsets (cuts_in b ends.plans)) (b.found.committed + n) at
      (λ i part there place line le has. good i part there place line (let l = behind n (omega (arith, less)) i in omega (arith, l, le)) has)
      (subst (λ (y : Setting). IsFaultAt y (cuts_in b ends.plans) (b.found.committed + n) (Some at)) owned.0 is)

  pub faultless_stop : (disk disk_now failed : ℕ) (key : Option Values) (why : Cause) → ((i : ℕ) (part : Part) → slice_get (parts_in s) i ≡ Some part → IsFine s.job.bound part (get_or (committed_in can.resumed) i 0))
      → ((cuts : Offsets) (n e : ℕ) → AreCuts (parts_in s) cuts n → GoOnFrom can.resumed cuts → commits_in can.resumed ≤ e → e < n → key_fault s.job.bound (parts_in s) cuts e ≡ None)
      → IsRoundStop tells (Owned tells lines available answers faults b) (setting_in tells lines available answers faults b) (cuts_in b ends.plans) seen (length ends.plans) (b.found.committed + length ends.told) (files_now now) disk disk_now failed key why → IsNoFault (Err (fault_by why key))
  faultless_stop disk disk_now failed key (cause.BadLine a p o f) good keys is = no_fault_at (length ends.told) is.0 good _ (is.1 t)
  faultless_stop disk disk_now failed key (cause.Overflow a p o) good keys is = no_fault_at (length ends.told) is.0 good _ (is.1 t)
  faultless_stop disk disk_now failed None cause.KeyOverflow good keys is = is.1
  faultless_stop disk disk_now failed (Some own) cause.KeyOverflow good keys is = no_key_at (length ends.told) is.0 keys own (is.1 (t, owned.1))
  faultless_stop disk disk_now failed key cause.LogFault good keys is = tt
  faultless_stop disk disk_now failed key (cause.LogShort a p m k) good keys is = tt
  faultless_stop disk disk_now failed key (cause.Damaged q) good keys is = tt
  faultless_stop disk disk_now failed key cause.DiskFault good keys is = tt
  faultless_stop disk disk_now failed key cause.Full good keys is = tt
  faultless_stop disk disk_now failed key cause.NoMemory good keys is = tt

  -- so many epochs are never needed
  not_full : planned_in can.resumed + epochs_for s.job.bound (sum (map (λ (own : List Line). length own) s.lines) - sum (covered_in can.resumed)) < most_epochs → length ends.plans ≡ most_epochs → ⊥
  not_full few full = by (closes s.job.bound) refl few
    where
      so : HasGrown (cuts_in b ends.plans) dues (map (λ (own : List Line). length own) s.lines) (length b.found.plans) (length ends.plans)
      so = grows (length ends.plans) (length ends.has.more) (ap length ends.has.keeps ∙ length-append b.found.plans ends.has.more) (omega arith)

      all : sum (offsets_of (cuts_in b ends.plans (length ends.plans))) ≤ sum (map (λ (own : List Line). length own) s.lines)
      all = sums_within (offsets_of (cuts_in b ends.plans (length ends.plans))) (map (λ (own : List Line). length own) s.lines) so.below

      covered : sum (covered_in can.resumed) ≤ sum (offsets_of (cuts_in b ends.plans (length b.found.plans)))
      covered =
          sums_within (covered_in can.resumed) (offsets_of (cuts_in b ends.plans (length b.found.plans))) (λ i.
          let f = facts.covered_is i in let c = ap (λ (cut : List PartEnd). get_or (offsets_of cut) i 0) (cut_same (length b.found.plans) (omega arith)) in omega (arith, f, c))

      planned : planned_in can.resumed ≡ length b.found.plans
      planned = facts.planned_is

      -- none is ever due of a query that does not close
      never : closes s.job.bound ≡ false → (n : ℕ) → dues n ≡ false
      never is n =
          let x = setting_in tells lines available answers faults b in
          ap (λ (closing : Bool). closing && is_above (watermark_at x (cuts_in b ends.plans) n) (watermark_before x.job.bound (parts_in x) (offsets (cuts_in b ends.plans)) n)) (ap (λ (y : Setting). closes y.job.bound) owned.0 ∙ is)

      by : (closing : Bool) → closes s.job.bound ≡ closing
          → planned_in can.resumed + (if closing then (sum (map (λ (own : List Line). length own) s.lines) - sum (covered_in can.resumed)) + (sum (map (λ (own : List Line). length own) s.lines) - sum (covered_in can.resumed)) + 1
          else sum (map (λ (own : List Line). length own) s.lines) - sum (covered_in can.resumed)) < most_epochs → ⊥
      by true is few =
          too_many (planned_in can.resumed) (sum (map (λ (own : List Line). length own) s.lines)) most_epochs (sum (covered_in can.resumed)) (length ends.plans) (length b.found.plans)
          (sum (offsets_of (cuts_in b ends.plans (length b.found.plans)))) (sum (offsets_of (cuts_in b ends.plans (length ends.plans)))) (free (dues (length ends.plans))) few full planned covered all (free_few (dues (length ends.plans))) so.more
        where
          too_many : (planned lines most covered epochs first opened cut one : ℕ) → planned + ((lines - covered) + (lines - covered) + 1) < most → epochs ≡ most → planned ≡ first → covered ≤ opened → cut ≤ lines → one ≤ 1
              → 2 * opened + epochs ≤ 2 * cut + first + one → ⊥
          too_many planned lines most covered epochs first opened cut one few full same le all once grew = omega (arith, few, full, same, le, all, once, grew)
      by false is few =
          too_many (planned_in can.resumed) (sum (map (λ (own : List Line). length own) s.lines)) most_epochs (sum (covered_in can.resumed)) (length ends.plans) (length b.found.plans)
          (sum (offsets_of (cuts_in b ends.plans (length b.found.plans)))) (sum (offsets_of (cuts_in b ends.plans (length ends.plans)))) few full planned covered all (so.lines (never is))
        where
          too_many : (planned lines most covered epochs first opened cut : ℕ) → planned + (lines - covered) < most → epochs ≡ most → planned ≡ first → covered ≤ opened → cut ≤ lines → opened + epochs ≤ cut + first → ⊥
          too_many planned lines most covered epochs first opened cut few full same le all grew = omega (arith, few, full, same, le, all, grew)

  pub roomy_stop : (disk disk_now failed : ℕ) (key : Option Values) (why : Cause) → planned_in can.resumed + epochs_for s.job.bound (sum (map (λ (own : List Line). length own) s.lines) - sum (covered_in can.resumed)) < most_epochs
      → IsRoundStop tells (Owned tells lines available answers faults b) (setting_in tells lines available answers faults b) (cuts_in b ends.plans) seen (length ends.plans) (b.found.committed + length ends.told) (files_now now) disk disk_now failed key why → IsNoLimit (Err (fault_by why key))
  roomy_stop disk disk_now failed key (cause.BadLine a p o f) few is = tt
  roomy_stop disk disk_now failed key (cause.Overflow a p o) few is = tt
  roomy_stop disk disk_now failed None cause.KeyOverflow few is = tt
  roomy_stop disk disk_now failed (Some own) cause.KeyOverflow few is = tt
  roomy_stop disk disk_now failed key cause.LogFault few is = tt
  roomy_stop disk disk_now failed key (cause.LogShort a p m k) few is = tt
  roomy_stop disk disk_now failed key (cause.Damaged q) few is = tt
  roomy_stop disk disk_now failed key cause.DiskFault few is = tt
  roomy_stop disk disk_now failed key cause.Full few is = not_full few is.0
  roomy_stop disk disk_now failed key cause.NoMemory few is = tt

-- ---- no fault

faultless_unparted : (told : Type 0) (held : Held) (streams : List Stream) (why : RunFault) → IsUnparted told held streams why → IsNoFault (Err why)
faultless_unparted told held streams (fault.Parts why) is = tt
faultless_unparted told held streams (fault.Lines why) is = tt
faultless_unparted told held streams (fault.Open why) is = tt
faultless_unparted told held streams (fault.Round why) is = absurd is
faultless_unparted told held streams (fault.KeyOverflow key) is = absurd is
faultless_unparted told held streams fault.OutFault is = tt
faultless_unparted told held streams fault.NoMemory is = tt

pub finds_none : {L : Type 0} (told tells : Type 0) (lines : L → List Line) (available : L → ℕ) (answers : L → List ℕ) (faults : L → ℕ) (OutTells : Type 0) → JobIsWanted → PartsAreFound → FilesSayTheirCuts → DuesAreOfMarks → MarksStay → RunsMeetNoFault told tells lines available answers faults OutTells
finds_none told tells lines available answers faults OutTells wanted parts_law files_law dues_law still_law h t held known bound ask start now disk_faults disk_faults_now returned returned_now old written text end s faultless (unparted why cause still is) =
    subst IsNoFault (sym is) (faultless_unparted told held bound.streams why cause)
finds_none told tells lines available answers faults OutTells wanted parts_law files_law dues_law still_law h t held known bound ask start now disk_faults disk_faults_now returned returned_now old written text end s faultless (over g counts of starts disk wrote are runs logs run_end back) =
    let can = faultless.room.can in
    run_is told tells lines available answers faults OutTells IsNoFault g now disk_faults_now logs written text end (record {
      done = tt;
      unput = tt;
      starved = tt;
      uncounted = λ why not. tt;
      refused = λ found why asked outside. tt;
      stopped = λ found asked_logs asked b begun ends seen next has_asked why stop.
          faultless_stop told tells lines available answers faults OutTells wanted parts_law files_law dues_law still_law h t held known bound ask start s can g counts starts are (runs h s can.setting) found asked_logs asked b begun now disk_faults_now logs written text end ends
          seen next has_asked b.disk_faults disk_faults_now (sum_by faults logs) why.key why.cause faultless.good faultless.keys stop;
    }) run_end

-- ---- no limit

-- no stream has too many parts
few_streams : (held : Held) (streams : List Stream) (at : ℕ) → All IsFew (counts_in held streams) → IsFullAt held streams at → ⊥
few_streams held [] at few full = full
few_streams held (stream ∷ streams) zero few full = (let f = All-head IsFew (held.parts stream.source) (counts_in held streams) few in omega (arith, f, full))
few_streams held (stream ∷ streams) (suc at) few full = few_streams held streams at (All-tail IsFew (held.parts stream.source) (counts_in held streams) few) full.1

roomy_parts : (told : Type 0) (held : Held) (streams : List Stream) (why : PartsFault) → told → All IsFew (counts_in held streams) → IsUnparted told held streams (fault.Parts why) → IsNoLimit (Err (fault.Parts why))
roomy_parts told held streams (parts_fault.Full at) h few is = few_streams held streams at few (is h)
roomy_parts told held streams parts_fault.LogFault h few is = tt
roomy_parts told held streams parts_fault.NoMemory h few is = tt

roomy_unparted : (told : Type 0) (held : Held) (streams : List Stream) (why : RunFault) → told → All IsFew (counts_in held streams) → IsUnparted told held streams why → IsNoLimit (Err why)
roomy_unparted told held streams (fault.Parts why) h few is = roomy_parts told held streams why h few is
roomy_unparted told held streams (fault.Lines why) h few is = absurd is
roomy_unparted told held streams (fault.Open why) h few is = absurd is
roomy_unparted told held streams (fault.Round why) h few is = absurd is
roomy_unparted told held streams (fault.KeyOverflow key) h few is = absurd is
roomy_unparted told held streams fault.OutFault h few is = absurd is
roomy_unparted told held streams fault.NoMemory h few is = tt

-- what holds of the lines of all logs holds of those of one
lines_at : {L : Type 0} (lines : L → List Line) (P : List Line → Type 0) (logs : List L) (i : ℕ) (own : L) → All P (map lines logs) → get_elem? logs i ≡ some own → P (lines own)
lines_at lines P [] zero own all is = absurd (some-ne-none own (sym is))
lines_at lines P [] (suc i) own all is = absurd (some-ne-none own (sym is))
lines_at lines P (log ∷ logs) zero own all is = subst (λ (l : _). P (lines l)) (some-injective log own is) (All-head P (lines log) (map lines logs) all)
lines_at lines P (log ∷ logs) (suc i) own all is = lines_at lines P logs i own (All-tail P (lines log) (map lines logs) all) is

-- no log has too many lines
roomy_lines : {L : Type 0} (tells : Type 0) (lines : L → List Line) (available : L → ℕ) (answers : L → List ℕ) (faults : L → ℕ) (olds news : List L) (why : LengthFault) → tells → All (λ (own : List Line). length own ≤ most_lines) (map lines olds)
    → IsUncounted tells lines available answers faults olds news why → IsNoLimit (Err (fault.Lines why))
roomy_lines tells lines available answers faults olds news (length_fault.Full at found) t few is =
    let so = is.1 in
    (let m = is.0 in let w = so.within t in let e = ap (λ (l : List Line). length l) (so.same t) in let f = lines_at lines (λ (own : List Line). length own ≤ most_lines) olds at so.old few so.was in omega (arith, m, w, e, f))
roomy_lines tells lines available answers faults olds news length_fault.LogFault t few is = tt
roomy_lines tells lines available answers faults olds news length_fault.NoMemory t few is = tt

pub meets_none : {L : Type 0} (told tells : Type 0) (lines : L → List Line) (available : L → ℕ) (answers : L → List ℕ) (faults : L → ℕ) (OutTells : Type 0) → JobIsWanted → PartsAreFound → FilesSayTheirCuts → DuesAreOfMarks → MarksStay → RunsMeetNoLimit told tells lines available answers faults OutTells
meets_none told tells lines available answers faults OutTells wanted parts_law files_law dues_law still_law h t held known bound ask start now disk_faults disk_faults_now returned returned_now old written text end s room (unparted why cause still is) =
    subst IsNoLimit (sym is) (roomy_unparted told held bound.streams why h room.can.few_parts cause)
meets_none told tells lines available answers faults OutTells wanted parts_law files_law dues_law still_law h t held known bound ask start now disk_faults disk_faults_now returned returned_now old written text end s room (over g counts of starts disk wrote are runs logs run_end back) =
    let can = room.can in
    let run = runs h s can.setting in
    run_is told tells lines available answers faults OutTells IsNoLimit g now disk_faults_now logs written text end (record {
      done = tt;
      unput = tt;
      starved = tt;
      uncounted = λ why not. roomy_lines tells lines available answers faults g.logs logs why t (subst (All (λ (own : List Line). length own ≤ most_lines)) run.lines_are room.few_lines) not;
      refused = λ found why asked outside. tt;
      stopped = λ found asked_logs asked b begun ends seen next has_asked why stop.
          roomy_stop told tells lines available answers faults OutTells wanted parts_law files_law dues_law still_law h t held known bound ask start s can g counts starts are run found asked_logs asked b begun now disk_faults_now logs written text end ends
          seen next has_asked b.disk_faults disk_faults_now (sum_by faults logs) why.key why.cause room.few_epochs stop;
    }) run_end
