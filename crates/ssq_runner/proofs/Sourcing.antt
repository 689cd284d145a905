-- The logs of the parts of streams.
use Rattle.std.proofs.Common.{◌≡◌, ◌<◌, ◌≤◌, ◌+◌, ◌-◌, ◌^◌, ◌∙◌, ℕ, zero, suc, List, [], ◌∷◌, length, map, min, sum, unwrap_or, Option, Some, None, Result, Ok, Err, OnErr, refl, sym, ap, subst, arith}
use Rattle.std.specs.Option.{ForSome}
use Rattle.std.specs.List.{sum_by}
use Rattle.std.proofs.lemmas.List.{length-append}
use Rattle.std.proofs.lemmas.List.Sums.{sum_by-cons}
use Rattle.ssq_outside.specs.Logs.{Held, Line}
use Rattle.ssq_shape.specs.declared.bound.Stream.{Stream}
use Rattle.ssq_outside.specs.Faults.{Rises}
use Rattle.ssq_outside.specs.Files.{Files}
use Rattle.ssq_outside.specs.History.{History, files_now}
use Rattle.ssq_shape.specs.declared.bound.Bound.{Bound}
use Rattle.ssq_plans.specs.declared.plan.Plan.{Plan}
use Rattle.ssq_core.specs.Course.{Cuts}
use Rattle.ssq_course.specs.Setting.{Setting}
use Rattle.ssq_meaning.specs.Meaning.{Values}
use Rattle.ssq_board.specs.declared.front.Cause.{Cause}
use Rattle.ssq_board.specs.declared.front.Cause.TheVariants as cause
use Rattle.ssq_open.specs.declared.fault.OpenFault.{OpenFault}
use Rattle.ssq_open.specs.declared.fault.OpenFault.TheVariants as opening
use Rattle.ssq_open.specs.Fault.{DiskRises}
use Rattle.ssq_desk.specs.declared.told.Told.{Told}
use Rattle.ssq_drive.specs.Rounds.{IsRoundStop}
use Rattle.ssq_logs.specs.declared.fault.PartsFault.{PartsFault}
use Rattle.ssq_logs.specs.declared.fault.PartsFault.TheVariants as parts_fault
use Rattle.ssq_logs.specs.declared.fault.LengthFault.{LengthFault}
use Rattle.ssq_logs.specs.declared.fault.LengthFault.TheVariants as length_fault
use Rattle.ssq_logs.specs.Parts.{counts_in, lines_in, InputsRise}
use Rattle.ssq_runner.specs.declared.fault.RunFault.{RunFault}
use Rattle.ssq_runner.specs.declared.fault.RunFault.TheVariants as fault
use Rattle.ssq_runner.specs.Faults.{fault_by, fault_of}
use Rattle.ssq_runner.specs.Rounds.{Round}
use Rattle.ssq_runner.specs.Putting.{OutRises}
use Rattle.ssq_runner.specs.Ending.{Begun, Owned, setting_in, cuts_in, IsEnd, IsUncounted, finished, stopped, unput, uncounted as rounds_uncounted, starved as rounds_starved}
use Rattle.ssq_runner.specs.Running.{Given, RunEnd, IsRunOf, uncounted, refused, starved, ran}
use Rattle.ssq_runner.specs.Sources.{HasCount, IsSettingFor, IsUnparted}
use Rattle.ssq_logs.specs.Opened.{Part, parts_from, parts_of, AreLogsOf}
use Rattle.ssq_drive.proofs.Making.{risen_from}

-- ---- how many there are

from_count : (source : List ℕ) (number left : ℕ) → length (parts_from source number left) ≡ left
from_count source number zero = refl
from_count source number (suc left) = ap suc (from_count source (number + 1) left)

parts_count : (streams : List Stream) (counts : List ℕ) → length counts ≡ length streams → length (parts_of streams counts) ≡ sum counts
parts_count [] [] each = refl
parts_count (stream ∷ streams) (count ∷ counts) each =
    let e : sum (count ∷ counts) ≡ count + sum counts = sum_by-cons (λ x. x) count counts in
    let rest = parts_count streams counts (omega (arith, each)) in
    length-append (parts_from stream.source 0 count) (parts_of streams counts) ∙ (let f = from_count stream.source 0 count in omega (arith, e, rest, f))
parts_count [] (count ∷ counts) each = absurd (omega (arith, each))
parts_count (stream ∷ streams) [] each = absurd (omega (arith, each))

-- what is so in any case is so of what failed
pub err_any : {A E P : Type 0} (r : Result A E) → P → OnErr r P
err_any (Ok x) p = tt
err_any (Err e) p = p

module _ {L : Type 0} (tells : Type 0) (lines : L → List Line) (available : L → ℕ) (answers : L → List ℕ) (faults : L → ℕ) where
  logs_count : (held : Held) (known : List ℕ → ℕ → ℕ) (parts : List Part) (logs : List L) → AreLogsOf tells lines available answers faults held known parts logs → length logs ≡ length parts
  logs_count held known [] [] are = refl
  logs_count held known (part ∷ parts) (log ∷ logs) are = ap suc (logs_count held known parts logs are.1)
  logs_count held known [] (log ∷ logs) are = absurd are
  logs_count held known (part ∷ parts) [] are = absurd are

  pub each_log : (held : Held) (known : List ℕ → ℕ → ℕ) (streams : List Stream) (counts : List ℕ) (logs : List L) → length counts ≡ length streams → AreLogsOf tells lines available answers faults held known (parts_of streams counts) logs → length logs ≡ sum counts
  each_log held known streams counts logs each are = logs_count held known (parts_of streams counts) logs are ∙ parts_count streams counts each

  -- logs that were opened were asked nothing
  pub none_answered : (held : Held) (known : List ℕ → ℕ → ℕ) (parts : List Part) (logs : List L) → tells → AreLogsOf tells lines available answers faults held known parts logs → map answers logs ≡ map (λ _. []) parts
  none_answered held known [] [] t are = refl
  none_answered held known (part ∷ parts) (log ∷ logs) t are = (let first = are.0.unasked t in let rest = none_answered held known parts logs t are.1 in λ i. first i ∷ rest i)
  none_answered held known [] (log ∷ logs) t are = absurd are
  none_answered held known (part ∷ parts) [] t are = absurd are

  -- ---- what was held and known before
  pub logs_before : (held mid : Held) (known more : List ℕ → ℕ → ℕ) (parts : List Part) (logs : List L) → (tells → mid ≡ held) → (tells → (stream : List ℕ) (part : ℕ) → known stream part ≤ more stream part)
      → AreLogsOf tells lines available answers faults mid more parts logs → AreLogsOf tells lines available answers faults held known parts logs
  logs_before held mid known more [] [] same grown are = tt
  logs_before held mid known more (part ∷ parts) (log ∷ logs) same grown are = (
    record {
      right = λ t. are.0.right t ∙ ap (λ (h : Held). h.lines part.source part.number) (same t);
      begins = λ t. (let b = are.0.begins t in let g = grown t part.source part.number in omega (arith, b, g));
      unasked = are.0.unasked;
      fresh = are.0.fresh;
    },
    logs_before held mid known more parts logs same grown are.1,
  )
  logs_before held mid known more [] (log ∷ logs) same grown are = absurd are
  logs_before held mid known more (part ∷ parts) [] same grown are = absurd are

  -- a fault of the outside was counted
  stop_counts : (owned : Type 0) (s : Setting) (cuts : Cuts) (found : List ℕ) (planned e : ℕ) (files : Files) (first disk disk_now logs inputs inputs_now out out_now : ℕ) (key : Option Values) (c : Cause) → disk ≤ first → (0 < logs → Rises inputs inputs_now)
      → IsRoundStop tells owned s cuts found planned e files first disk_now logs key c → HasCount disk disk_now inputs inputs_now out out_now (Err (fault_by c key))
  stop_counts owned s cuts found planned e files first disk disk_now logs inputs inputs_now out out_now key (cause.BadLine a b o r) le risen is = tt
  stop_counts owned s cuts found planned e files first disk disk_now logs inputs inputs_now out out_now key (cause.Overflow a b o) le risen is = tt
  stop_counts owned s cuts found planned e files first disk disk_now logs inputs inputs_now out out_now None cause.KeyOverflow le risen is = tt
  stop_counts owned s cuts found planned e files first disk disk_now logs inputs inputs_now out out_now (Some own) cause.KeyOverflow le risen is = tt
  stop_counts owned s cuts found planned e files first disk disk_now logs inputs inputs_now out out_now key cause.LogFault le risen is = risen is.1
  stop_counts owned s cuts found planned e files first disk disk_now logs inputs inputs_now out out_now key (cause.LogShort a b m k) le risen is = tt
  stop_counts owned s cuts found planned e files first disk disk_now logs inputs inputs_now out out_now key (cause.Damaged q) le risen is = tt
  stop_counts owned s cuts found planned e files first disk disk_now logs inputs inputs_now out out_now key cause.DiskFault le risen is = risen_from disk first disk_now le is
  stop_counts owned s cuts found planned e files first disk disk_now logs inputs inputs_now out out_now key cause.Full le risen is = tt
  stop_counts owned s cuts found planned e files first disk disk_now logs inputs inputs_now out out_now key cause.NoMemory le risen is = tt

  lines_count : (olds logs : List L) (disk disk_now inputs inputs_now out out_now : ℕ) (why : LengthFault) → (0 < sum_by faults logs → Rises inputs inputs_now) → IsUncounted tells lines available answers faults olds logs why → HasCount disk disk_now inputs inputs_now out out_now (Err (fault.Lines why))
  lines_count olds logs disk disk_now inputs inputs_now out out_now (length_fault.Full at found) risen is = tt
  lines_count olds logs disk disk_now inputs inputs_now out out_now length_fault.LogFault risen is = risen is
  lines_count olds logs disk disk_now inputs inputs_now out out_now length_fault.NoMemory risen is = tt

  open_count : (disk disk_now inputs inputs_now out out_now : ℕ) (why : OpenFault) → DiskRises why disk disk_now → HasCount disk disk_now inputs inputs_now out out_now (Err (fault.Open why))
  open_count disk disk_now inputs inputs_now out out_now (opening.OtherQuery k) is = tt
  open_count disk disk_now inputs inputs_now out out_now (opening.OtherPartitions k a) is = tt
  open_count disk disk_now inputs inputs_now out out_now (opening.OtherParts s k f) is = tt
  open_count disk disk_now inputs inputs_now out out_now (opening.LogShort s p l f) is = tt
  open_count disk disk_now inputs inputs_now out out_now (opening.Damaged q) is = tt
  open_count disk disk_now inputs inputs_now out out_now opening.DiskFault is = is
  open_count disk disk_now inputs inputs_now out out_now opening.NoMemory is = tt

  module _ (disk disk_now inputs inputs_now out out_now : ℕ) (logs : List L) (OutTells : Type 0) (written text : List ℕ) (end : Result (Unit {0}) RunFault) (risen : 0 < sum_by faults logs → Rises inputs inputs_now) (put : OutRises out out_now end) where
    at_end : (Ending : Type 0) (e : Result (Unit {0}) RunFault) → end ≡ e → HasCount disk disk_now inputs inputs_now out out_now e → HasCount disk disk_now inputs inputs_now out out_now end
    at_end Ending e same is = subst (HasCount disk disk_now inputs inputs_now out out_now) (sym same) is

    rounds_count : (b : Begun L) (now : History) (plans : List Plan) (done : List Round) (told : List Told) → disk ≤ b.disk_faults → IsEnd tells lines available answers faults b now disk_now logs OutTells written plans done told text end → HasCount disk disk_now inputs inputs_now out out_now end
    rounds_count b now plans done told le (finished number all committed asked wrote left is) = at_end (Unit {0}) (Ok tt) is tt
    rounds_count b now plans done told le (stopped number found next asked why stop put_told more split wrote left is) = at_end (Unit {0}) (Err (fault_of why)) is (stop_counts (Owned tells lines available answers faults b) (setting_in tells lines available answers faults b) (cuts_in b plans) found (length plans) (b.found.committed + length told) (files_now now) b.disk_faults disk disk_now (sum_by faults logs) inputs inputs_now out out_now why.key why.cause le risen stop)
    rounds_count b now plans done told le (rounds_uncounted number all before has_asked why not stop wrote left is) = at_end (Unit {0}) (Err (fault.Lines why)) is (lines_count b.logs logs disk disk_now inputs inputs_now out out_now why risen not)
    rounds_count b now plans done told le (unput number found next has_asked put_told more split wrote left is) = at_end (Unit {0}) (Err fault.OutFault) is (subst (OutRises out out_now) is put)
    rounds_count b now plans done told le (rounds_starved number rounds were has_asked put_told more rest split wrote left is) = at_end (Unit {0}) (Err fault.NoMemory) is tt

    pub run_counts : (g : Given L) (now : History) → g.disk_faults ≡ disk → RunEnd tells lines available answers faults g now disk_now logs OutTells written text end → HasCount disk disk_now inputs inputs_now out out_now end
    run_counts g now same (uncounted why not stop still unsaid is) = at_end (Unit {0}) (Err (fault.Lines why)) is (lines_count g.logs logs disk disk_now inputs inputs_now out out_now why risen not)
    run_counts g now same (refused found why asked checks moments outside count unsaid is) = at_end (Unit {0}) (Err (fault.Open why)) is (open_count disk disk_now inputs inputs_now out out_now why (subst (λ (n : ℕ). DiskRises why n disk_now) same count))
    run_counts g now same (starved found asks still unsaid is) = at_end (Unit {0}) (Err fault.NoMemory) is tt
    run_counts g now same (ran found asked_logs asked b begun ends promised) = rounds_count b now ends.plans ends.done ends.told (let c = begun.counted in omega (arith, c, same)) ends.is_end

-- what the inputs counted before, they count still
pub parts_count_on : (inputs mid now : ℕ) (why : PartsFault) → InputsRise inputs mid why → min mid (2 ^ 64 - 1) ≤ now → HasCount 0 0 inputs now 0 0 (Err (fault.Parts why))
parts_count_on inputs mid now (parts_fault.Full at) risen le = tt
parts_count_on inputs mid now parts_fault.LogFault risen le = omega (arith, risen, le)
parts_count_on inputs mid now parts_fault.NoMemory risen le = tt

-- before a disk or an output is asked, no fault of theirs is told
pub parted_counts : (disk inputs now out : ℕ) (why : RunFault) → HasCount 0 0 inputs now 0 0 (Err why) → HasCount disk disk inputs now out out (Err why)
parted_counts disk inputs now out (fault.Parts (parts_fault.Full at)) is = tt
parted_counts disk inputs now out (fault.Parts parts_fault.LogFault) is = is
parted_counts disk inputs now out (fault.Parts parts_fault.NoMemory) is = tt
parted_counts disk inputs now out (fault.Lines (length_fault.Full at found)) is = tt
parted_counts disk inputs now out (fault.Lines length_fault.LogFault) is = is
parted_counts disk inputs now out (fault.Lines length_fault.NoMemory) is = tt
parted_counts disk inputs now out (fault.Open why) is = unopened why is
  where
    unopened : (why : OpenFault) → HasCount 0 0 inputs now 0 0 (Err (fault.Open why)) → HasCount disk disk inputs now out out (Err (fault.Open why))
    unopened (opening.OtherQuery k) is = tt
    unopened (opening.OtherPartitions k a) is = tt
    unopened (opening.OtherParts s k f) is = tt
    unopened (opening.LogShort s p l f) is = tt
    unopened (opening.Damaged q) is = tt
    unopened opening.DiskFault is = absurd (omega (arith, is))
    unopened opening.NoMemory is = tt
parted_counts disk inputs now out (fault.Round why) is = unturned why is
  where
    unturned : (why : Cause) → HasCount 0 0 inputs now 0 0 (Err (fault.Round why)) → HasCount disk disk inputs now out out (Err (fault.Round why))
    unturned (cause.BadLine a b o r) is = tt
    unturned (cause.Overflow a b o) is = tt
    unturned cause.KeyOverflow is = tt
    unturned cause.LogFault is = is
    unturned (cause.LogShort a b m k) is = tt
    unturned (cause.Damaged q) is = tt
    unturned cause.DiskFault is = absurd (omega (arith, is))
    unturned cause.Full is = tt
    unturned cause.NoMemory is = tt
parted_counts disk inputs now out (fault.KeyOverflow key) is = tt
parted_counts disk inputs now out fault.OutFault is = absurd (omega (arith, is))
parted_counts disk inputs now out fault.NoMemory is = tt

-- the run is that of the inputs' setting
pub run_of : {L : Type 0} (lines : L → List Line) (held : Held) (bound : Bound) (asks : Option ℕ) (g : Given L) (s : Setting) → g.bound ≡ bound → g.asks ≡ asks → g.counts ≡ counts_in held bound.streams → map lines g.logs ≡ lines_in held bound.streams → IsSettingFor held bound asks g.start s → IsRunOf lines g s
run_of lines held bound asks g s same asked counts all is = record {
  query = is.query ∙ sym same;
  parts = is.parts ∙ sym counts;
  lines_are = is.lines_are ∙ sym all;
  some_partitions = is.some_partitions;
  few_partitions = is.few_partitions;
  as_asked = subst (λ (o : Option ℕ). ForSome o (λ count. s.job.partitions ≡ count)) (sym asked) is.as_asked;
  first = λ empty. is.first empty ∙ ap (λ (o : Option ℕ). unwrap_or o 1) (sym asked);
}

err_same : (one other : RunFault) (end : Result (Unit {0}) RunFault) → end ≡ Err one → end ≡ Err other → one ≡ other
err_same one other end e f = cc

-- what comes before the logs is no count of lines
pub never_lines : (told : Type 0) (held : Held) (streams : List Stream) (found : RunFault) (why : LengthFault) (end : Result (Unit {0}) RunFault) → end ≡ Err found → end ≡ Err (fault.Lines why) → IsUnparted told held streams found → ⊥
never_lines told held streams found why end own same is = let P : RunFault → Type 0 = IsUnparted told held streams in subst P (err_same found (fault.Lines why) end own same) is
