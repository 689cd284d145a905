-- What is passed on to the call above.
use Rattle.std.proofs.Common.{◌≡◌, ◌≤◌, ◌∙◌, ℕ, List, [], ◌∷◌, Option, Some, None, Result, Ok, Err, refl, sym, ap, subst, inl, inr, arith}
use Rattle.std.specs.Prelude.{IfOk, IfErr, IsSome}
use Rattle.ssq_outside.specs.Faults.{Rises}
use Rattle.ssq_outside.specs.Files.{Files}
use Rattle.ssq_outside.specs.History.{History, LeavesNow, LeavesOnly}
use Rattle.ssq_outside.specs.Logs.{Held, Line}
use Rattle.ssq_outside.proofs.Steps.{begins, files_are_image}
use Rattle.ssq_shape.specs.declared.bound.Bound.{Bound}
use Rattle.ssq_shape.specs.declared.bound.Stream.{Stream}
use Rattle.ssq_board.specs.declared.front.Cause.TheVariants as cause
use Rattle.ssq_logs.specs.declared.fault.PartsFault.TheVariants as parts
use Rattle.ssq_logs.specs.declared.fault.LengthFault.{LengthFault}
use Rattle.ssq_logs.specs.declared.fault.LengthFault.TheVariants as lengths
use Rattle.ssq_logs.specs.Opened.{Part, AreLogsOf}
use Rattle.ssq_logs.specs.Parts.{counts_in}
use Rattle.ssq_open.specs.declared.fault.OpenFault.TheVariants as opening
use Rattle.ssq_runner.specs.declared.ask.Ask.{Ask}
use Rattle.ssq_runner.specs.declared.fault.RunFault.{RunFault}
use Rattle.ssq_runner.specs.declared.fault.RunFault.TheVariants as run
use Rattle.ssq_runner.specs.Sources as source
use Rattle.ssq_runner.specs.Sources.{RunOver, unparted, over}
use Rattle.ssq_bind.specs.Explained.{explained}
use Rattle.ssq_words.specs.declared.error.AskError.{AskError}
use Rattle.ssq_words.specs.declared.error.AskError.TheVariants as words
use Rattle.ssq_words.specs.Asking.{Asked, asks_explain, asks_run, asked, IsCause}
use Rattle.ssq_accept.specs.declared.refusal.Refusal.{Refusal}
use Rattle.ssq_accept.specs.declared.refusal.Refusal.TheVariants as refusal
use Rattle.ssq_run.specs.declared.stop.Stop.{Stop}
use Rattle.ssq_run.specs.declared.stop.Stop.TheVariants.{Usage, Refused, LogFault, DiskFault, OutFault, NoMemory}
use Rattle.ssq_run.specs.declared.prepare.Look.{Look}
use Rattle.ssq_run.specs.declared.prepare.Todo.TheVariants as todo
use Rattle.ssq_run.specs.Prepared.{IsLook, IsTodo, IsUnready}
use Rattle.ssq_run.specs.Queries.{IsRefusedFor}
use Rattle.ssq_run.specs.Stopping.{stop_in, stop_of_ask, stop_of_refusal, stop_of_end, IsToldAs, IsUnread, WordsCause, IsPastWords, HasCount}
use Rattle.ssq_run.specs.Looked.{LookEnd}
use Rattle.ssq_run.specs.Program.{Given, Went, IsIdle, IsUntouched, went_of, HasTold, has_explained, ran_out, has_run, has_told, ProgramEnd, unread, no_command, no_file, refused, obeyed}

-- what is not touched leaves what it might have left
pub still_leaves : (h : History) (P : Files → Type 0) → LeavesNow h P → LeavesOnly h h P
still_leaves h P now = (begins P P P h now (λ f p. p) (now.each _ (files_are_image _))).since

-- a run's fault has its count
pub run_counts : (streams : List Stream) (counts : List ℕ) (d0 d1 i0 i1 o0 o1 : ℕ) (end : Result (Unit {0}) RunFault) → source.HasCount d0 d1 i0 i1 o0 o1 end → HasCount i0 i1 d0 d1 o0 o1 (stop_of_end streams counts end)
run_counts streams counts d0 d1 i0 i1 o0 o1 (Ok done) is = tt
run_counts streams counts d0 d1 i0 i1 o0 o1 (Err (run.Parts (parts.Full stream))) is = tt
run_counts streams counts d0 d1 i0 i1 o0 o1 (Err (run.Parts parts.LogFault)) is = is
run_counts streams counts d0 d1 i0 i1 o0 o1 (Err (run.Parts parts.NoMemory)) is = tt
run_counts streams counts d0 d1 i0 i1 o0 o1 (Err (run.Lines (lengths.Full number lines))) is = tt
run_counts streams counts d0 d1 i0 i1 o0 o1 (Err (run.Lines lengths.LogFault)) is = is
run_counts streams counts d0 d1 i0 i1 o0 o1 (Err (run.Lines lengths.NoMemory)) is = tt
run_counts streams counts d0 d1 i0 i1 o0 o1 (Err (run.Open (opening.OtherQuery kept))) is = tt
run_counts streams counts d0 d1 i0 i1 o0 o1 (Err (run.Open (opening.OtherPartitions kept wanted))) is = tt
run_counts streams counts d0 d1 i0 i1 o0 o1 (Err (run.Open (opening.OtherParts stream kept found))) is = tt
run_counts streams counts d0 d1 i0 i1 o0 o1 (Err (run.Open (opening.LogShort stream part logged found))) is = tt
run_counts streams counts d0 d1 i0 i1 o0 o1 (Err (run.Open (opening.Damaged name))) is = tt
run_counts streams counts d0 d1 i0 i1 o0 o1 (Err (run.Open opening.DiskFault)) is = is
run_counts streams counts d0 d1 i0 i1 o0 o1 (Err (run.Open opening.NoMemory)) is = tt
run_counts streams counts d0 d1 i0 i1 o0 o1 (Err (run.Round (cause.BadLine stream part offset fault))) is = tt
run_counts streams counts d0 d1 i0 i1 o0 o1 (Err (run.Round (cause.Overflow stream part offset))) is = tt
run_counts streams counts d0 d1 i0 i1 o0 o1 (Err (run.Round cause.KeyOverflow)) is = tt
run_counts streams counts d0 d1 i0 i1 o0 o1 (Err (run.Round cause.LogFault)) is = is
run_counts streams counts d0 d1 i0 i1 o0 o1 (Err (run.Round (cause.LogShort stream part logged found))) is = tt
run_counts streams counts d0 d1 i0 i1 o0 o1 (Err (run.Round (cause.Damaged name))) is = tt
run_counts streams counts d0 d1 i0 i1 o0 o1 (Err (run.Round cause.DiskFault)) is = is
run_counts streams counts d0 d1 i0 i1 o0 o1 (Err (run.Round cause.Full)) is = tt
run_counts streams counts d0 d1 i0 i1 o0 o1 (Err (run.Round cause.NoMemory)) is = tt
run_counts streams counts d0 d1 i0 i1 o0 o1 (Err (run.KeyOverflow key)) is = tt
run_counts streams counts d0 d1 i0 i1 o0 o1 (Err run.OutFault) is = is
run_counts streams counts d0 d1 i0 i1 o0 o1 (Err run.NoMemory) is = tt

-- and is no fault of the words
pub run_past : (streams : List Stream) (counts : List ℕ) (end : Result (Unit {0}) RunFault) → IsPastWords (stop_of_end streams counts end)
run_past streams counts (Ok done) = tt
run_past streams counts (Err (run.Parts (parts.Full stream))) = tt
run_past streams counts (Err (run.Parts parts.LogFault)) = tt
run_past streams counts (Err (run.Parts parts.NoMemory)) = tt
run_past streams counts (Err (run.Lines (lengths.Full number lines))) = tt
run_past streams counts (Err (run.Lines lengths.LogFault)) = tt
run_past streams counts (Err (run.Lines lengths.NoMemory)) = tt
run_past streams counts (Err (run.Open (opening.OtherQuery kept))) = tt
run_past streams counts (Err (run.Open (opening.OtherPartitions kept wanted))) = tt
run_past streams counts (Err (run.Open (opening.OtherParts stream kept found))) = tt
run_past streams counts (Err (run.Open (opening.LogShort stream part logged found))) = tt
run_past streams counts (Err (run.Open (opening.Damaged name))) = tt
run_past streams counts (Err (run.Open opening.DiskFault)) = tt
run_past streams counts (Err (run.Open opening.NoMemory)) = tt
run_past streams counts (Err (run.Round (cause.BadLine stream part offset fault))) = tt
run_past streams counts (Err (run.Round (cause.Overflow stream part offset))) = tt
run_past streams counts (Err (run.Round cause.KeyOverflow)) = tt
run_past streams counts (Err (run.Round cause.LogFault)) = tt
run_past streams counts (Err (run.Round (cause.LogShort stream part logged found))) = tt
run_past streams counts (Err (run.Round (cause.Damaged name))) = tt
run_past streams counts (Err (run.Round cause.DiskFault)) = tt
run_past streams counts (Err (run.Round cause.Full)) = tt
run_past streams counts (Err (run.Round cause.NoMemory)) = tt
run_past streams counts (Err (run.KeyOverflow key)) = tt
run_past streams counts (Err run.OutFault) = tt
run_past streams counts (Err run.NoMemory) = tt

-- where the lines were not counted the parts are those of the streams, and else they are of no account
pub told_of : (streams : List Stream) (counts parts_are : List ℕ) (end : Result (Unit {0}) RunFault) → ((why : LengthFault) → end ≡ Err (run.Lines why) → counts ≡ parts_are) → stop_of_end streams counts end ≡ stop_of_end streams parts_are end
told_of streams counts parts_are (Ok done) same = refl
told_of streams counts parts_are (Err (run.Lines why)) same = ap (λ c. stop_of_end streams c (Err (run.Lines why))) (same why refl)
told_of streams counts parts_are (Err (run.Parts why)) same = refl
told_of streams counts parts_are (Err (run.Open why)) same = refl
told_of streams counts parts_are (Err (run.Round why)) same = refl
told_of streams counts parts_are (Err (run.KeyOverflow key)) same = refl
told_of streams counts parts_are (Err run.OutFault) same = refl
told_of streams counts parts_are (Err run.NoMemory) same = refl

-- what is told of a run, or that memory ran out, has its count, and is no fault of the words
pub told_counts : (streams : List Stream) (counts : List ℕ) (d0 d1 i0 i1 o0 o1 : ℕ) (end : Result (Unit {0}) RunFault) (stop : Option Stop) → source.HasCount d0 d1 i0 i1 o0 o1 end → IsToldAs stop (stop_of_end streams counts end) → HasCount i0 i1 d0 d1 o0 o1 stop
told_counts streams counts d0 d1 i0 i1 o0 o1 end stop is (inl same) = let C : Option Stop → Type 0 = HasCount i0 i1 d0 d1 o0 o1 in subst C (sym same) (run_counts streams counts d0 d1 i0 i1 o0 o1 end is)
told_counts streams counts d0 d1 i0 i1 o0 o1 end stop is (inr memory) = let C : Option Stop → Type 0 = HasCount i0 i1 d0 d1 o0 o1 in subst C (sym memory.1) tt

pub told_past : (streams : List Stream) (counts : List ℕ) (end : Result (Unit {0}) RunFault) (stop : Option Stop) → IsToldAs stop (stop_of_end streams counts end) → IsPastWords stop
told_past streams counts end stop (inl same) = subst IsPastWords (sym same) (run_past streams counts end)
told_past streams counts end stop (inr memory) = subst IsPastWords (sym memory.1) tt

pub told_by_parts : (streams : List Stream) (counts parts_are : List ℕ) (end : Result (Unit {0}) RunFault) (stop : Option Stop) → ((why : LengthFault) → end ≡ Err (run.Lines why) → counts ≡ parts_are) → IsToldAs stop (stop_of_end streams counts end) → IsToldAs stop (stop_of_end streams parts_are end)
told_by_parts streams counts parts_are end stop same (inl is) = inl (is ∙ told_of streams counts parts_are end same)
told_by_parts streams counts parts_are end stop same (inr memory) = inr ((λ none. memory.0 (told_of streams counts parts_are end same ∙ none)), memory.1)

-- a look that was denied tells nothing
pub denied_look : (bound : Bound) (files : Files) (text : List ℕ) (end : Option Stop) (stop : Stop) → text ≡ [] → end ≡ Some stop → LookEnd bound files [] (Some stop) → LookEnd bound files text end
denied_look bound files text end stop none is look =
    let T : List ℕ → Type 0 = λ t. LookEnd bound files t (Some stop) in
    let E : Option Stop → Type 0 = λ e. LookEnd bound files text e in
    subst E (sym is) (subst T (sym none) look)

-- where each fault that was counted so was counted in all
pub counts_by : (i0 i1 d0 d1 o0 o1 all_i0 all_i1 all_d0 all_d1 all_o0 all_o1 : ℕ) (stop : Option Stop) → (Rises i0 i1 → Rises all_i0 all_i1) → (Rises d0 d1 → Rises all_d0 all_d1) → (Rises o0 o1 → Rises all_o0 all_o1)
    → HasCount i0 i1 d0 d1 o0 o1 stop → HasCount all_i0 all_i1 all_d0 all_d1 all_o0 all_o1 stop
counts_by i0 i1 d0 d1 o0 o1 all_i0 all_i1 all_d0 all_d1 all_o0 all_o1 (Some LogFault) of_inputs of_disk of_out is = of_inputs is
counts_by i0 i1 d0 d1 o0 o1 all_i0 all_i1 all_d0 all_d1 all_o0 all_o1 (Some DiskFault) of_inputs of_disk of_out is = of_disk is
counts_by i0 i1 d0 d1 o0 o1 all_i0 all_i1 all_d0 all_d1 all_o0 all_o1 (Some OutFault) of_inputs of_disk of_out is = of_out is
counts_by i0 i1 d0 d1 o0 o1 all_i0 all_i1 all_d0 all_d1 all_o0 all_o1 None of_inputs of_disk of_out is = tt
counts_by i0 i1 d0 d1 o0 o1 all_i0 all_i1 all_d0 all_d1 all_o0 all_o1 (Some _) of_inputs of_disk of_out is = tt

-- where none was counted
pub none_counted : (before now : ℕ) → Rises 0 0 → Rises before now
none_counted before now rises = absurd (omega (arith, rises))

-- a refusal is told as such, or memory ran out
pub refusal_unread : (held : Held) (what : Asked) (why : Refusal) → IsRefusedFor held what why → IsUnread held what (stop_of_refusal why)
refusal_unread held what (refusal.Parse at own) is = (is, refl)
refusal_unread held what (refusal.Bind fault) is = (is, refl)
refusal_unread held what (refusal.Mode fault) is = (is, refl)
refusal_unread held what refusal.NoMemory is = tt

-- the words gave no command, or its query was not had
pub asked_unready : (held : Held) (line : List (List ℕ)) (error : AskError) → IsCause line error → IsUnready held line (stop_of_ask error)
asked_unready held line words.Usage cause = cause
asked_unready held line words.NoMemory cause = tt

pub unread_unready : (held : Held) (line : List (List ℕ)) (what : Asked) (own : Stop) → asked line ≡ Some what → IsUnread held what own → IsUnready held line own
unread_unready held line what (Refused why) is cause = (what, is, cause)
unread_unready held line what LogFault is cause = (what, is, tt)
unread_unready held line what NoMemory is cause = tt
unread_unready held line what _ is cause = absurd cause

-- the words were taken, so the stop is another
pub words_taken : (line : List (List ℕ)) (stop : Option Stop) → IsSome (asked line) → IsPastWords stop → WordsCause line stop
words_taken line (Some Usage) taken past = absurd past
words_taken line (Some NoMemory) taken past = tt
words_taken line None taken past = taken
words_taken line (Some _) taken past = taken

module _ {L : Type 0} (told tells : Type 0) (lines : L → List Line) (available : L → ℕ) (answers : L → List ℕ) (faults : L → ℕ) where
  -- logs that begin with what is known later begin with what was known before
  logs_earlier : (held : Held) (known later : List ℕ → ℕ → ℕ) → ((stream : List ℕ) (part : ℕ) → known stream part ≤ later stream part) → (own : List Part) (logs : List L)
      → AreLogsOf told lines available answers faults held later own logs → AreLogsOf told lines available answers faults held known own logs
  logs_earlier held known later less [] [] are = are
  logs_earlier held known later less [] (log ∷ logs) are = are
  logs_earlier held known later less (part ∷ own) [] are = are
  logs_earlier held known later less (part ∷ own) (log ∷ logs) are = (
    record {
      right = are.0.right;
      begins = λ t. (let at = are.0.begins t in let lower = less part.source part.number in omega (arith, at, lower));
      unasked = are.0.unasked;
      fresh = are.0.fresh;
    },
    logs_earlier held known later less own logs are.1,
  )

  -- what was known when the program began is no more than what was known when the query was run
  run_earlier : (held : Held) (known later : List ℕ → ℕ → ℕ) → ((stream : List ℕ) (part : ℕ) → known stream part ≤ later stream part) → (bound : Bound) (ask : Ask) (OutTells : Type 0) (went : Went) (end : Result (Unit {0}) RunFault)
      → RunOver told tells lines available answers faults held later bound ask went.start went.now went.disk_faults went.disk_faults_now went.returned went.returned_now OutTells went.old went.written went.text end
      → RunOver told tells lines available answers faults held known bound ask went.start went.now went.disk_faults went.disk_faults_now went.returned went.returned_now OutTells went.old went.written went.text end
  run_earlier held known later less bound ask OutTells went end (unparted why is still left) = unparted why is still left
  run_earlier held known later less bound ask OutTells went end (over g counts of start disk old own setting logs how back) =
      over g counts of start disk old (logs_earlier held known later less _ _ own) setting logs how back

  -- the query was run, over inputs of which more may have been known
  pub run_end : (given : Given) (held : Held) (later : List ℕ → ℕ → ℕ) (OutTells : Type 0) (went : Went) (stop : Option Stop) (bound : Bound) (ask : Ask) (counts : List ℕ) (end : Result (Unit {0}) RunFault)
      → IsTodo given.held given.words (todo.Run bound ask) → held ≡ given.held → ((stream : List ℕ) (part : ℕ) → given.known stream part ≤ later stream part)
      → RunOver told tells lines available answers faults held later bound ask went.start went.now went.disk_faults went.disk_faults_now went.returned went.returned_now OutTells went.old went.written went.text end
      → (told → (why : LengthFault) → end ≡ Err (run.Lines why) → counts ≡ counts_in held bound.streams) → IsToldAs stop (stop_of_end bound.streams counts end)
      → ProgramEnd told tells lines available answers faults given OutTells went stop
  run_end given held later OutTells went stop bound ask counts end is same less over_later counts_are told_as =
      let R : Held → Type 0 = λ h. RunOver told tells lines available answers faults h given.known bound ask went.start went.now went.disk_faults went.disk_faults_now went.returned went.returned_now OutTells went.old went.written went.text end in
      let S : Held → Type 0 = λ h. told → IsToldAs stop (stop_of_end bound.streams (counts_in h bound.streams) end) in
      obeyed (asks_run is.0 ask.partitions ask.cap ask.rounds) bound is.1 is.2
      (has_run is.0 ask.partitions ask.cap ask.rounds end (subst R same (run_earlier held given.known later less bound ask OutTells went end over_later))
      (subst S same (λ t. told_by_parts bound.streams counts (counts_in held bound.streams) end stop (counts_are t) told_as)))

  -- something was told of it
  pub look_end : (given : Given) (OutTells : Type 0) (went : Went) (stop : Option Stop) (bound : Bound) (look : Look) → IsTodo given.held given.words (todo.Look bound look) → ((what : Asked) → IsLook look what → HasTold bound OutTells went stop what)
      → ProgramEnd told tells lines available answers faults given OutTells went stop
  look_end given OutTells went stop bound look is told_so = obeyed is.0 bound is.1 is.3 (has_told is.0 (told_so is.0 is.2))

  -- the words are no command, its query's file was not read, or it is refused
  pub unready_end : (given : Given) (OutTells : Type 0) (went : Went) (own : Stop) → IsUnready given.held given.words own → IsIdle went → ProgramEnd told tells lines available answers faults given OutTells went (Some own)
  unready_end given OutTells went Usage is idle = no_command is refl idle
  unready_end given OutTells went NoMemory is idle = unread refl idle
  unready_end given OutTells went LogFault is idle = no_file is.0 is.1 (inl refl) idle
  unready_end given OutTells went (Refused why) is idle = refused is.0 is.1 why is.2.0 (ap Some (sym is.2.1)) idle
  unready_end given OutTells went _ is idle = absurd is.2

-- what is told of a query, for a command of another name
pub told_as : (bound : Bound) (OutTells : Type 0) (went : Went) (stop : Option Stop) (what other : Asked) → what ≡ other → HasTold bound OutTells went stop other → HasTold bound OutTells went stop what
told_as bound OutTells went stop what other same so = let P : Asked → Type 0 = HasTold bound OutTells went stop in subst P (sym same) so

-- what a query is was told, or memory ran out
pub explained_end : (bound : Bound) (OutTells : Type 0) (went : Went) (file : List ℕ) (end : Result (Unit {0}) Stop) → IsUntouched went → IfOk end (λ done. went.text ≡ explained bound) → IfErr end (λ stop. (stop ≡ NoMemory) × (went.text ≡ []))
    → HasTold bound OutTells went (stop_in end) (asks_explain file)
explained_end bound OutTells went file (Ok done) same text memory = has_explained file same text refl
explained_end bound OutTells went file (Err stop) same text memory = ran_out file (record { untouched = same; untold = memory.1 }) (ap Some memory.0)

-- nothing was done
pub idle_of : (start now : History) (disk_faults disk_faults_now : ℕ) (returned returned_now : List (List ℕ)) (old written text : List ℕ) → now ≡ start → returned_now ≡ returned → written ≡ old → text ≡ []
    → IsIdle (went_of start now disk_faults disk_faults_now returned returned_now old written text)
idle_of start now disk_faults disk_faults_now returned returned_now old written text still back same none = record { untouched = record { still = still; none_back = back; unwritten = same }; untold = none }

-- what leaves the disk as it is leaves what it might have left
pub same_leaves : (start now : History) (P : Files → Type 0) → now ≡ start → LeavesNow start P → LeavesOnly start now P
same_leaves start now P same each = let L : History → Type 0 = λ h. LeavesOnly start h P in subst L (sym same) (still_leaves start P each)
