-- How rounds begin on what was opened.
use Rattle.std.proofs.Common.{◌≡◌, ◌≤◌, ◌+◌, ℕ, List, length, map, sum, All, inr, refl, sym, subst, arith}
use Rattle.ssq_outside.specs.History.{History, files_now}
use Rattle.ssq_outside.specs.Logs.{Line}
use Rattle.ssq_shape.specs.declared.bound.Bound.{Bound}
use Rattle.ssq_core.specs.Standing.{Stands}
use Rattle.ssq_core.specs.Sound.{StandsOrEmpty}
use Rattle.ssq_course.specs.Setting.{Setting, job_of}
use Rattle.ssq_board.specs.Rounds.{HasCap}
use Rattle.ssq_open.specs.declared.wanted.Opened.{Opened}
use Rattle.ssq_open.specs.Lens.{CanBeAsked, asked}
use Rattle.ssq_open.specs.Sought.{Sought}
use Rattle.ssq_open.specs.Opening.{IsOpen, IsBegun, SyncedSince}
use Rattle.ssq_promise.specs.Run.{AreFilesOf, RunIsKept, WasRun}
use Rattle.ssq_terms.specs.Setting.{CanRun}
use Rattle.ssq_terms.specs.Laws.{JobIsWanted, StatesAreJobs, FirstRecordIsJobs, PartsAreFound, due_at}
use Rattle.ssq_terms.specs.Opening.{FoundIsJobs, StoresHoldStates}
use Rattle.ssq_logs.specs.Asked.{AreAsked}
use Rattle.ssq_drive.specs.Rounds.{IsMeant}
use Rattle.ssq_runner.specs.declared.ask.Ask.{Ask}
use Rattle.ssq_runner.specs.Between.{HaveBegun}
use Rattle.ssq_runner.specs.Ending.{Begun, IsOwnRun, WasTried, cuts_in, setting_in}
use Rattle.ssq_runner.specs.Lens.{lens_of}
use Rattle.ssq_runner.specs.Running.{Given, IsOf, IsOpenedOn, IsRunOf, KeepsStanding, LeavesStanding}
use Rattle.ssq_runner.proofs.Firsts.{sought_same}
use Rattle.ssq_runner.proofs.Owning.{stands_now}
use Rattle.ssq_runner.proofs.Promising.{own_run, rounds_keep, rounds_stand, rounds_stay}
use Rattle.ssq_runner.proofs.Readying.{asked_under}

module _ {L : Type 0} (tells reads : Type 0) (lines : L → List Line) (available : L → ℕ) (answers : L → List ℕ) (faults : L → ℕ) (heard : tells → reads)
    (wanted : JobIsWanted) (first_record : FirstRecordIsJobs) (found_law : FoundIsJobs) (parts_law : PartsAreFound) (states_law : StatesAreJobs) (stores_law : StoresHoldStates) (kept_law : RunIsKept tells)
    (bound : Bound) (ask : Ask) (counts found : List ℕ) (can_ask : CanBeAsked bound ask.partitions (lens_of counts found)) (runs : CanRun bound) (each : length found ≡ sum counts) (has_cap : HasCap ask.cap)
    (g : Given L) (of : IsOf bound ask counts g) (news : List L) (asks : AreAsked reads lines available answers faults g.logs news found)
    {D : Type 0} (history : D → History) (disks : D → ℕ) (before after : D) (start : g.start ≡ history before) (faulty : g.disk_faults ≡ disks before) (T : Type 0) (seen : tells → T)
    (opened : Opened) (is : IsOpenedOn T history bound ask.partitions (lens_of counts found) before after opened) (counted : disks before ≤ disks after)
    (leaves : LeavesStanding T history bound ask.partitions (lens_of counts found) before after) (keeps : KeepsStanding T history before after) where
  -- what they begin on
  abbrev pub begun : Begun L
  begun = record {
    bound = bound;
    found = opened;
    cap = ask.cap;
    rounds = ask.rounds;
    start = history after;
    disk_faults = disks after;
    logs = g.logs;
    seen = found;
    written = g.written;
  }

  own : tells → (s : Setting) → IsRunOf lines g s → StandsOrEmpty (job_of s) (files_now g.start) → (setting_in tells lines available answers faults begun ≡ s) × IsOwnRun tells lines available answers faults begun
  own t s run stands =
      own_run tells reads lines available answers faults wanted first_record found_law parts_law states_law stores_law bound ask counts found can_ask runs each g of s run news asks (heard t) history before after start T (seen t) opened is
      ask.rounds (disks after) g.written stands

  -- the run that they are is that of the run's job
  was_run : (t : tells) (s : Setting) (run : IsRunOf lines g s) → StandsOrEmpty (job_of s) (files_now g.start) → (now : History) (epochs : List ℕ) → WasRun tells (job_of (setting_in tells lines available answers faults begun)) (history after) now epochs
      → WasRun tells (job_of s) (history after) now epochs
  was_run t s run stands now epochs was = subst (λ (x : Setting). WasRun tells (job_of x) (history after) now epochs) (own t s run stands).0 was

  pub have_begun : HaveBegun tells lines available answers faults g begun
  have_begun = record {
    found = found;
    logs = news;
    asked = asked_under reads tells lines available answers faults heard g.logs news found asks;
    begun = record {
      bound_is = sym of.bound_is;
      cap_is = sym of.cap_is;
      rounds_are = sym of.rounds_are;
      logs_are = refl;
      seen_is = refl;
      written_is = refl;
      counted = omega (arith, counted, faulty);
      has_cap = has_cap;
      opened = λ t. subst (λ (s : Sought). IsOpen s (files_now g.start) (history after) opened) (sym (sought_same g bound ask counts found of))
          (subst (λ (h : History). IsOpen (asked bound ask.partitions (lens_of counts found)) (files_now h) (history after) opened) (sym start) (is.is_open (seen t)));
      synced = λ t. subst (λ (s : Sought). SyncedSince g.start (history after) (IsBegun s (files_now g.start))) (sym (sought_same g bound ask counts found of))
          (subst (λ (h : History). SyncedSince h (history after) (IsBegun (asked bound ask.partitions (lens_of counts found)) (files_now h))) (sym start) (is.synced (seen t)));
      own = own;
    };
    kept = record {
      promised = λ t s run stands now logs plans done told end have.
          let same = (own t s run stands).0 in
          let was = was_run t s run stands now (map (λ t. t.epoch) told) have.run in
          record {
            run = was;
            files = subst (λ (x : Setting). AreFilesOf (job_of x) ask.cap (due_at x) (WasTried tells lines available answers faults begun logs plans done end) (opened.committed + length told ≡ length plans) (cuts_in begun plans) (length plans) now) same have.files;
            kept = rounds_keep tells reads lines available answers faults wanted first_record found_law parts_law states_law stores_law bound ask counts found can_ask runs each g of s run news asks (heard t) history before after start T (seen t) opened is
                kept_law t now (map (λ t. t.epoch) told) stands was;
            meant = subst (λ (x : Setting). All (IsMeant x (cuts_in begun plans)) told) same have.meant;
          };
      stands = λ t s run each_now now told was.
          rounds_stand tells reads lines available answers faults wanted first_record found_law parts_law states_law stores_law bound ask counts found can_ask runs each g of s run news asks (heard t) history before after start T (seen t) opened is
          kept_law t now (map (λ t. t.epoch) told) leaves each_now
          (was_run t s run (stands_now g.start (StandsOrEmpty (job_of s)) each_now) now (map (λ t. t.epoch) told) was);
      stay = λ t s run each_now now told was.
          rounds_stay tells reads lines available answers faults wanted first_record found_law parts_law states_law stores_law bound ask counts found can_ask runs each g of s run news asks (heard t) history before after start T (seen t) opened is
          kept_law t now (map (λ t. t.epoch) told) keeps each_now
          (was_run t s run (inr (stands_now g.start (Stands (job_of s)) each_now)) now (map (λ t. t.epoch) told) was);
    };
  }
