-- What a run is at between its steps: its rounds are under way, one has gone, or it is over.
use Rattle.std.specs.Prelude.{◌≡◌, ◌≤◌, ℕ, List, length, map, Result}
use Rattle.std.specs.List.{sum_by}
use Rattle.ssq_outside.specs.History.{History, files_now, LeavesNow, LeavesOnly}
use Rattle.ssq_outside.specs.Logs.{Held, Line}
use Rattle.ssq_shape.specs.declared.bound.Bound.{Bound}
use Rattle.ssq_plans.specs.declared.plan.Plan.{Plan}
use Rattle.ssq_step.specs.Indexing.{Timed}
use Rattle.ssq_core.specs.Standing.{Stands}
use Rattle.ssq_core.specs.Sound.{StandsOrEmpty}
use Rattle.ssq_course.specs.Setting.{Setting, job_of}
use Rattle.ssq_open.specs.declared.wanted.Opened.{Opened}
use Rattle.ssq_promise.specs.Run.{WasRun}
use Rattle.ssq_logs.specs.Asked.{AreAsked}
use Rattle.ssq_logs.specs.Parts.{counts_in}
use Rattle.ssq_logs.specs.Opened.{parts_of, AreLogsOf}
use Rattle.ssq_desk.specs.declared.told.Told.{Told}
use Rattle.ssq_drive.specs.Rounds.{AreReturned, Ended, HaveIndexes, IsRound, setting_for}
use Rattle.ssq_runner.specs.declared.ask.Ask.{Ask}
use Rattle.ssq_runner.specs.declared.fault.RunFault.{RunFault}
use Rattle.ssq_runner.specs.Ending.{Begun, HaveRun, WasTried, setting_in}
use Rattle.ssq_runner.specs.Going.{IsReady, scope_of}
use Rattle.ssq_runner.specs.Rounds.{Round}
use Rattle.ssq_runner.specs.Running.{Given, HavePromised, IsBegunBy, IsOf, IsRunOf, RunEnd}
use Rattle.ssq_runner.specs.Sources.{IsSettingFor}

module _ {L : Type 0} (told : Type 0) (lines : L → List Line) (available : L → ℕ) (answers : L → List ℕ) (faults : L → ℕ) where
  -- What a run over inputs is given: the query over what they hold, and the logs of its parts, as they were opened.
  pub record IsGivenBy (held : Held) (known : List ℕ → ℕ → ℕ) (bound : Bound) (ask : Ask) (start : History) (disk_faults : ℕ) (written : List ℕ) (g : Given L) : Type 0 where
    pub counts_are : told → g.counts ≡ counts_in held bound.streams
    pub of : IsOf bound ask g.counts g
    pub start_is : g.start ≡ start
    pub faults_are : g.disk_faults ≡ disk_faults
    pub written_is : g.written ≡ written
    pub logs_are : AreLogsOf told lines available answers faults held known (parts_of bound.streams g.counts) g.logs
    pub runs : told → (s : Setting) → IsSettingFor held bound ask.partitions start s → IsRunOf lines g s

module _ {L : Type 0} (tells : Type 0) (lines : L → List Line) (available : L → ℕ) (answers : L → List ℕ) (faults : L → ℕ) where
  -- What becomes of rounds that began so, whatever they do as a run of the machine: where the checkpoint stood for the run's job, or was empty, they
  -- keep what they promise; where each image did, so does each of each moment; and where each image stood, none is empty.
  pub record AreKept (g : Given L) (b : Begun L) : Type 0 where
    pub promised : tells → (s : Setting) → IsRunOf lines g s → StandsOrEmpty (job_of s) (files_now g.start) → (now : History) (logs : List L) (plans : List Plan) (done : List Round) (told : List Told) (end : Result (Unit {0}) RunFault)
        → HaveRun tells lines available answers faults b now plans told (WasTried tells lines available answers faults b logs plans done end) → HavePromised tells lines available answers faults s b now plans told (WasTried tells lines available answers faults b logs plans done end)
    pub stands : tells → (s : Setting) → IsRunOf lines g s → LeavesNow g.start (StandsOrEmpty (job_of s)) → (now : History) (told : List Told) → WasRun tells (job_of (setting_in tells lines available answers faults b)) b.start now (map (λ t. t.epoch) told)
        → LeavesOnly g.start now (StandsOrEmpty (job_of s))
    pub stay : tells → (s : Setting) → IsRunOf lines g s → LeavesNow g.start (Stands (job_of s)) → (now : History) (told : List Told) → WasRun tells (job_of (setting_in tells lines available answers faults b)) b.start now (map (λ t. t.epoch) told)
        → LeavesOnly g.start now (Stands (job_of s))

  -- Rounds began so: the logs were asked, and the checkpoint was opened over what they answered.
  pub record HaveBegun (g : Given L) (b : Begun L) : Type 0 where
    pub found : List ℕ
    pub logs : List L
    pub asked : AreAsked tells lines available answers faults g.logs logs found
    pub begun : IsBegunBy tells lines available answers faults g found b
    pub kept : AreKept g b

  -- Rounds are under way: so many are over, and the next may begin on this, with these indexes and so many lines found of each part.
  pub record AreUnderWay (g : Given L) (n : ℕ) (now : History) (disk_faults : ℕ) (logs : List L) (OutTells : Type 0) (written : List ℕ) (opened : Opened) (closings : List (List Timed)) (found : List ℕ) : Type 0 where
    pub b : Begun L
    pub begun : HaveBegun g b
    pub ready : IsReady tells lines available answers faults b n now disk_faults logs OutTells written opened found
    pub indexes : HaveIndexes g.bound opened.stores closings

  -- The next round has gone, after so many: it began on what was ready, and left this, of which nothing is written yet.
  pub record HasGone (g : Given L) (n : ℕ) (now : History) (disk_faults : ℕ) (logs : List L) (OutTells : Type 0) (written : List ℕ) (told : List Told) (end : Ended) : Type 0 where
    pub b : Begun L
    pub begun : HaveBegun g b
    pub before : History
    pub faults_before : ℕ
    pub logs_before : List L
    pub opened : Opened
    pub found : List ℕ
    pub ready : IsReady tells lines available answers faults b n before faults_before logs_before OutTells written opened found
    pub round : IsRound tells (setting_for lines b.bound opened logs_before) (length logs_before) (scope_of opened found b.cap) opened before now faults_before disk_faults (sum_by faults logs) told end
    pub back : AreReturned tells lines available answers faults logs_before logs
    pub counted : faults_before ≤ disk_faults

  -- A run over logs is over, and went so. Where each image stood for its job, or stood empty, so does each image of each moment; and where each
  -- stood, none is empty.
  pub record IsOver (g : Given L) (now : History) (disk_faults : ℕ) (logs : List L) (OutTells : Type 0) (written text : List ℕ) (end : Result (Unit {0}) RunFault) : Type 0 where
    pub ends : RunEnd tells lines available answers faults g now disk_faults logs OutTells written text end
    pub stands : tells → (s : Setting) → IsRunOf lines g s → LeavesNow g.start (StandsOrEmpty (job_of s)) → LeavesOnly g.start now (StandsOrEmpty (job_of s))
    pub stay : tells → (s : Setting) → IsRunOf lines g s → LeavesNow g.start (Stands (job_of s)) → LeavesOnly g.start now (Stands (job_of s))
