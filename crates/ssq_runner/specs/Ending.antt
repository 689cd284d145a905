-- What rounds leave, and how they end.
use Rattle.std.specs.Prelude.{◌≡◌, ◌⊎◌, ◌<◌, ◌≤◌, ◌+◌, ◌++◌, ◌||◌, ℕ, Bool, false, true, List, [], ◌∷◌, length, map, take, All, Option, None, Result, Ok, Err}
use Rattle.std.specs.List.{sum_by}
use mathlib.Core.Option.{some}
use lib.ListN.{get_elem?}
use Rattle.ssq_outside.specs.declared.name.Name.TheVariants as name
use Rattle.ssq_outside.specs.History.{History, LeavesNow, files_now}
use Rattle.ssq_outside.specs.Logs.{Line}
use Rattle.ssq_shape.specs.declared.bound.Bound.{Bound}
use Rattle.ssq_plans.specs.declared.plan.Plan.{Plan}
use Rattle.ssq_core.specs.Course.{Cuts}
use Rattle.ssq_core.specs.Settled.{IsSettledAs}
use Rattle.ssq_core.specs.Standing.{IsThere}
use Rattle.ssq_course.specs.Setting.{Setting, job_of, keeping_of}
use Rattle.ssq_board.specs.declared.front.Cause.TheVariants as cause
use Rattle.ssq_board.specs.Core.{is_of_epoch}
use Rattle.ssq_open.specs.declared.wanted.Opened.{Opened}
use Rattle.ssq_open.specs.Epochs.{cut_of}
use Rattle.ssq_promise.specs.Run.{WasRun, AreFilesOf}
use Rattle.ssq_logs.specs.declared.fault.LengthFault.{LengthFault}
use Rattle.ssq_logs.specs.declared.fault.LengthFault.TheVariants as length_fault
use Rattle.ssq_logs.specs.Asked.{IsStopped, most_lines}
use Rattle.ssq_terms.specs.Setting.{IsSettingOf, AreFound, found_lines}
use Rattle.ssq_terms.specs.Laws.{due_at}
use Rattle.ssq_desk.specs.declared.told.Told.{Told}
use Rattle.ssq_drive.specs.declared.round.Stopped.{Stopped}
use Rattle.ssq_drive.specs.Good.{HasGoodLines}
use Rattle.ssq_drive.specs.Kept.{IsKeptUp}
use Rattle.ssq_drive.specs.Rounds.{AreTold, IsMeant, IsFoundOf, IsRoundStop, setting_for, first_of}
use Rattle.ssq_runner.specs.declared.fault.RunFault.{RunFault}
use Rattle.ssq_runner.specs.declared.fault.RunFault.TheVariants as fault
use Rattle.ssq_runner.specs.Faults.{fault_of}
use Rattle.ssq_runner.specs.Lens.{lens_of}
use Rattle.ssq_runner.specs.Rounds.{Round, AreNext, AreRounds, BeginWith, HaveAnswered, IsOne, epochs_after}
use Rattle.ssq_runner.specs.Told.{told_text, done_line}

-- a run ended for a fault of an epoch, of a line or of a key
abbrev pub is_epoch_fault : Result (Unit {0}) RunFault → Bool
is_epoch_fault (Err (fault.Round why)) = is_of_epoch why
is_epoch_fault (Err (fault.KeyOverflow key)) = true
is_epoch_fault _ = false

-- a run ended since a log failed as the lines of a round were read
abbrev pub is_log_fault : Result (Unit {0}) RunFault → Bool
is_log_fault (Err (fault.Round cause.LogFault)) = true
is_log_fault _ = false

-- a run ended at an epoch that was open: for a fault of it, or since a log failed as its lines were read
abbrev pub is_open_fault : Result (Unit {0}) RunFault → Bool
is_open_fault end = is_epoch_fault end || is_log_fault end

-- a run ended since a call of the disk failed in a round, or memory ran out
abbrev pub is_call_fault : Result (Unit {0}) RunFault → Bool
is_call_fault (Err (fault.Round cause.DiskFault)) = true
is_call_fault (Err (fault.Round cause.NoMemory)) = true
is_call_fault (Err fault.NoMemory) = true
is_call_fault _ = false

-- no lines were found by which one plan more was tried
abbrev pub none_tried : List ℕ → Type 0
none_tried found = ⊥

-- What rounds begin on: the query, what was opened, the cap of their epochs, how many are asked for, the disk as it was opened and how
-- often it had failed, the logs before they were asked, what they answered as it was opened, and what was written before.
pub record Begun (L : Type 0) : Type 0 where
  pub bound : Bound
  pub found : Opened
  pub cap : Option ℕ
  pub rounds : ℕ
  pub start : History
  pub disk_faults : ℕ
  pub logs : List L
  pub seen : List ℕ
  pub written : List ℕ

module _ {L : Type 0} where
  -- the cuts of these plans, after those where the parts begin
  abbrev pub cuts_in : Begun L → List Plan → Cuts
  cuts_in b plans = cut_of (first_of b.found) plans

  -- These rounds are over, the latest of which comes first, and these epochs were told. The plans that were opened stay, and the rounds cut
  -- on from them, the query's setting being s; the epochs that are told are the first that were not committed, one after another: all of the rounds
  -- that are over, and all that are planned but for one at most, the last.
  pub record HasRounds (owned : Type 0) (s : Setting) (b : Begun L) (plans : List Plan) (done : List Round) (told : List Told) : Type 0 where
    pub more : List Plan
    pub keeps : plans ≡ b.found.plans ++ more
    pub are : AreRounds owned s b.cap (cuts_in b plans) (length b.found.plans) done
    pub within : epochs_after (length b.found.plans) done ≤ length plans
    pub told_are : AreTold (first_of b.found) plans b.found.committed told
    pub few : b.found.committed + length told ≤ length plans
    pub near : length plans ≤ b.found.committed + length told + 1
    pub whole : 0 < length done → epochs_after (length b.found.plans) done ≤ b.found.committed + length told

module _ {L : Type 0} (tells : Type 0) (lines : L → List Line) (available : L → ℕ) (answers : L → List ℕ) (faults : L → ℕ) where
  -- the query over all lines that its logs will come to hold, with the partitions and parts that were opened
  abbrev pub setting_in : Begun L → Setting
  setting_in b = setting_for lines b.bound b.found b.logs

  -- What was opened is the job's own: its files are settled, and what was found is what they hold. So it is for each number of lines that may
  -- be found of each part, which are not more than it will come to hold, nor than are taken of a log.
  pub record IsOwnRun (b : Begun L) : Type 0 where
    pub asks : Option ℕ
    pub settings : (found : List ℕ) → AreFound found (map lines b.logs) → IsSettingOf (setting_in b) b.bound asks (lens_of b.found.meta.parts found) × (found_lines (lens_of b.found.meta.parts found) ≡ found)
    pub settled : IsSettledAs b.start (files_now b.start)
    pub found_is : IsFoundOf (setting_in b) (files_now b.start) b.found

  -- disk and logs tell what they hold, and what was opened is the job's own
  abbrev pub Owned : Begun L → Type 0
  Owned b = tells × IsOwnRun b

  -- What rounds did that began so: they are a run of the machine; their plans are those of the files that they leave, or, once all are told,
  -- the publishing of one more failed, which was tried by lines that were found so; and each epoch is told as the meaning has it, which finds no fault in it.
  pub record HaveRun (b : Begun L) (now : History) (plans : List Plan) (told : List Told) (IsTried : List ℕ → Type 0) : Type 0 where
    pub run : WasRun tells (job_of (setting_in b)) b.start now (map (λ t. t.epoch) told)
    pub files : AreFilesOf (job_of (setting_in b)) b.cap (due_at (setting_in b)) IsTried (b.found.committed + length told ≡ length plans) (cuts_in b plans) (length plans) now
    pub meant : All (IsMeant (setting_in b) (cuts_in b plans)) told

  -- no line of these epochs is a fault
  abbrev pub AreGood : Begun L → List Plan → List Told → Type 0
  AreGood b plans told = All (λ (t : Told). HasGoodLines (setting_in b) (cuts_in b plans) t.epoch) told

  -- What rounds leave that are all over: the checkpoint is settled, and its files are those of these plans, of which each is committed; no snapshot is
  -- due, and no file of the state may go.
  pub record AreLeft (b : Begun L) (now : History) (plans : List Plan) : Type 0 where
    pub opened : Opened
    pub meta_is : opened.meta ≡ b.found.meta
    pub plans_are : opened.plans ≡ plans
    pub committed : opened.committed ≡ length plans
    pub settled : IsSettledAs now (files_now now)
    pub found_is : IsFoundOf (setting_in b) (files_now now) opened
    pub kept : IsKeptUp (keeping_of b.bound.shape b.found.meta.partitions) b.found.meta.partitions (files_now now)

  -- The logs were asked for these rounds, of which the first found what they answered as the checkpoint was opened.
  pub record WereAsked (b : Begun L) (rounds : List Round) (logs : List L) : Type 0 where
    pub answered : HaveAnswered tells lines available answers faults 0 rounds b.logs logs
    pub first : BeginWith b.seen rounds

  -- One plan more was tried: by the lines that the last round found, for which the logs were asked after those that are over, and in which a call of
  -- the disk failed, or memory ran out.
  pub record WasTried (b : Begun L) (logs : List L) (plans : List Plan) (done : List Round) (end : Result (Unit {0}) RunFault) (found : List ℕ) : Type 0 where
    pub asked : WereAsked b (record { found = found; epochs = length plans } ∷ done) logs
    pub failed : is_call_fault end ≡ true

  -- These are the rounds that are over; or they are those and one more, that cut on from them up to the last plan.
  abbrev pub AreBegun : (b : Begun L) → List Plan → (done rounds : List Round) → Type 0
  AreBegun b plans done rounds = (rounds ≡ done)
      ⊎ ((found : List ℕ) × AreNext (Owned b) (setting_in b) b.cap found (cuts_in b plans) (epochs_after (length b.found.plans) done) (length plans) × (rounds ≡ record { found = found; epochs = length plans } ∷ done))

  -- The log of this number came back with so many lines: all of them are there, of those that it held before, and no fewer than were known then.
  pub record HasSoMany (before after : List L) (at found : ℕ) : Type 0 where
    pub old : L
    pub own : L
    pub was : get_elem? before at ≡ some old
    pub is : get_elem? after at ≡ some own
    pub there : tells → available own ≡ found
    pub within : tells → found ≤ length (lines own)
    pub grown : tells → available old ≤ found
    pub same : tells → lines own ≡ lines old

  -- Why the lines of logs were not counted: a part has too many; or what failed has counted it.
  abbrev pub IsUncounted : (before after : List L) → LengthFault → Type 0
  IsUncounted before after (length_fault.Full at found) = (most_lines < found) × HasSoMany before after at found
  IsUncounted before after length_fault.LogFault = 0 < sum_by faults after
  IsUncounted before after length_fault.NoMemory = Unit {0}

  -- How rounds end: what they leave on the disk and of the logs, what is written and what is left to be written, and why.
  --  All rounds that were asked for are over and told, each log was asked once for each, and it is left to say how many epochs there are. Or
  --  one stopped, for which they were asked, too, at an epoch after those that were told, of which those of the rounds before are written. Or all are
  --  told, and the lines were not counted for one more, for which some logs were asked. Or the output failed, and a front of the lines of the last round was written,
  --  for which they were asked, too, and which has come to its end: all that it found is covered, and all are told. Or memory ran out, and lines of the last round are left.
  pub data IsEnd (b : Begun L) (now : History) (disk_faults : ℕ) (logs : List L) (OutTells : Type 0) (written : List ℕ) (plans : List Plan) (done : List Round) (told : List Told) (text : List ℕ) (end : Result (Unit {0}) RunFault) : Type 0 where
    finished : length done ≡ b.rounds → epochs_after (length b.found.plans) done ≡ length plans → b.found.committed + length told ≡ length plans → WereAsked b done logs
        → (OutTells → written ≡ b.written ++ told_text told) → text ≡ done_line (length plans) → end ≡ Ok tt → IsEnd b now disk_faults logs OutTells written plans done told text end
    stopped : length done < b.rounds → (found : List ℕ) → AreNext (Owned b) (setting_in b) b.cap found (cuts_in b plans) (epochs_after (length b.found.plans) done) (length plans)
        → WereAsked b (record { found = found; epochs = length plans } ∷ done) logs → (why : Stopped)
        → IsRoundStop tells (Owned b) (setting_in b) (cuts_in b plans) found (length plans) (b.found.committed + length told) (files_now now) b.disk_faults disk_faults (sum_by faults logs) why.key why.cause
        → (put more : List Told) → told ≡ put ++ more → (OutTells → written ≡ b.written ++ told_text put) → text ≡ told_text more → end ≡ Err (fault_of why) → IsEnd b now disk_faults logs OutTells written plans done told text end
    uncounted : length done < b.rounds → (epochs_after (length b.found.plans) done ≡ length plans) × (b.found.committed + length told ≡ length plans) → (before : List L) → WereAsked b done before → (why : LengthFault) → IsUncounted b.logs logs why
        → IsStopped tells lines available answers faults 0 before logs why → (OutTells → written ≡ b.written ++ told_text told) → text ≡ [] → end ≡ Err (fault.Lines why) → IsEnd b now disk_faults logs OutTells written plans done told text end
    unput : length done < b.rounds → (found : List ℕ) → IsOne (Owned b) (setting_in b) b.cap (cuts_in b plans) (epochs_after (length b.found.plans) done) (record { found = found; epochs = length plans }) × (b.found.committed + length told ≡ length plans)
        → WereAsked b (record { found = found; epochs = length plans } ∷ done) logs → (put more : List Told) → told ≡ put ++ more → (OutTells → (n : ℕ) × (written ≡ (b.written ++ told_text put) ++ take n (told_text more))) → text ≡ [] → end ≡ Err fault.OutFault
        → IsEnd b now disk_faults logs OutTells written plans done told text end
    starved : length done ≤ b.rounds → (rounds : List Round) → AreBegun b plans done rounds → WereAsked b rounds logs → (put more rest : List Told) → told ≡ put ++ (more ++ rest) → (OutTells → written ≡ b.written ++ told_text put) → text ≡ told_text more → end ≡ Err fault.NoMemory
        → IsEnd b now disk_faults logs OutTells written plans done told text end

  -- so, by some plans, rounds and epochs that were told
  pub record Ends (b : Begun L) (now : History) (disk_faults : ℕ) (logs : List L) (OutTells : Type 0) (written text : List ℕ) (end : Result (Unit {0}) RunFault) : Type 0 where
    pub plans : List Plan
    pub done : List Round
    pub told : List Told
    pub has : HasRounds (Owned b) (setting_in b) b plans done told
    pub is_end : IsEnd b now disk_faults logs OutTells written plans done told text end
    -- where disk and logs tell what they hold, whatever the files say
    pub good : tells → AreGood b plans told
    pub ran : tells → IsOwnRun b → HaveRun b now plans told (WasTried b logs plans done end)
    -- where a fault of an epoch ended it, each image has the plan of that epoch, which is the first that was not told
    pub planned_stays : is_epoch_fault end ≡ true → tells → IsOwnRun b → LeavesNow now (λ image. IsThere image (name.Plan (b.found.committed + length told)))
    -- and there, or where a log failed in a round, no image has the commit of that epoch
    pub uncommitted : is_open_fault end ≡ true → tells → IsOwnRun b → LeavesNow now (λ image. image (name.Commit (b.found.committed + length told)) ≡ None)
    -- where all are over
    pub left : end ≡ Ok tt → tells → IsOwnRun b → AreLeft b now plans
