-- How a run over generated input ends, by how its run does.
use Rattle.std.proofs.Common.{◌≡◌, ◌<◌, ◌≤◌, ◌+◌, ◌∙◌, ◌⊎◌, ℕ, true, false, List, [], ◌∷◌, length, map, Option, Some, None, Result, Ok, Err, inl, inr, refl, sym, ap, ap₂, subst, arith, lt-ltb, ltb-true}
use Rattle.std.specs.Prelude.{IsSome, unwrap_or}
use Rattle.std.specs.List.{All, sum_by}
use Rattle.std.proofs.lemmas.Bool.{cases_lt}
use Rattle.std.proofs.lemmas.List.{length-map}
use Rattle.std.proofs.lemmas.List.Elements.{All-head, All-tail}
use Rattle.ssq_outside.specs.declared.name.Name.TheVariants as name
use Rattle.ssq_outside.specs.Files.{Files, IsEmpty}
use Rattle.ssq_outside.specs.History.{History, files_now}
use Rattle.ssq_outside.specs.Logs.{Held, Line}
use Rattle.ssq_shape.specs.declared.bound.Bound.{Bound}
use Rattle.ssq_shape.specs.declared.bound.Stream.{Stream}
use Rattle.ssq_shape.specs.Plain.{output_names}
use Rattle.ssq_json.specs.Stored.{AreRows}
use Rattle.ssq_meaning.specs.Meaning.{Values}
use Rattle.ssq_meaning.specs.Epochs.{EpochFault, of_line, of_key, fault as epoch_fault}
use Rattle.ssq_meaning.specs.declared.line.LineFault.{LineFault}
use Rattle.ssq_meaning.specs.declared.line.LineFault.TheVariants as line
use Rattle.ssq_plans.specs.declared.meta.Meta.{Meta}
use Rattle.ssq_plans.specs.declared.plan.Plan.{Plan}
use Rattle.ssq_core.specs.Course.{Cuts, Ends as EndsOf}
use Rattle.ssq_core.specs.Standing.{StandsAt}
use Rattle.ssq_course.specs.Setting.{Setting, cuts_of, course_of, parts_in, rows_at}
use Rattle.ssq_board.specs.declared.front.Cause.{Cause}
use Rattle.ssq_board.specs.declared.front.Cause.TheVariants as cause
use Rattle.ssq_board.specs.declared.front.RowFault.{RowFault}
use Rattle.ssq_board.specs.declared.front.RowFault.TheVariants as row
use Rattle.ssq_board.specs.Core.{is_behind, next_ends}
use Rattle.ssq_logs.specs.Asked.{AreAsked}
use Rattle.ssq_logs.specs.declared.fault.PartsFault.TheVariants as parts
use Rattle.ssq_logs.specs.declared.fault.LengthFault.{LengthFault}
use Rattle.ssq_logs.specs.declared.fault.LengthFault.TheVariants as lengths_fault
use Rattle.ssq_open.specs.declared.fault.OpenFault.{OpenFault}
use Rattle.ssq_open.specs.declared.fault.OpenFault.TheVariants as opening
use Rattle.ssq_open.specs.declared.wanted.Opened.{Opened}
use Rattle.ssq_open.specs.Epochs.{cut_of}
use Rattle.ssq_open.specs.Looking.{begins}
use Rattle.ssq_open.specs.Opening.{IsOpen, kept, begun}
use Rattle.ssq_open.specs.Sought.{Sought}
use Rattle.ssq_sink.specs.declared.fault.SinkFault.{SinkFault}
use Rattle.ssq_sink.specs.declared.fault.SinkFault.TheVariants as sink
use Rattle.ssq_sink.specs.Fault.{IfDamaged}
use Rattle.ssq_sink.specs.Table.{AreCounted, AreSinks, IsBadSink, output_kinds}
use Rattle.ssq_terms.specs.Laws.{due_at}
use Rattle.ssq_desk.specs.declared.told.Told.{Told}
use Rattle.ssq_desk.specs.Contents.{bad_of}
use Rattle.ssq_drive.specs.Rounds.{AreTold, IsMeant, IsRoundStop, first_of}
use Rattle.ssq_runner.specs.declared.ask.Ask.{Ask}
use Rattle.ssq_runner.specs.declared.fault.RunFault.{RunFault}
use Rattle.ssq_runner.specs.declared.fault.RunFault.TheVariants as run
use Rattle.ssq_runner.specs.Complete.{IsNoRefusal, IsNoLimit}
use Rattle.ssq_runner.specs.Ending.{Begun, Ends, IsEnd, Owned, IsOwnRun, setting_in, cuts_in, finished, stopped, uncounted as rounds_uncounted, unput, starved as rounds_starved}
use Rattle.ssq_runner.specs.Faults.{fault_by}
use Rattle.ssq_runner.specs.Rounds.{Round, AreNext, AreRounds, BeginWith, epochs_after}
use Rattle.ssq_runner.specs.Running.{Given, IsRunOf, IsBegunBy, RunEnd, uncounted, refused, starved, ran, sought_in}
use Rattle.ssq_runner.specs.Sources.{IsSettingFor, IsUnparted, RunOver, unparted, over}
use Rattle.ssq_run.specs.declared.stop.Stop.{Stop}
use Rattle.ssq_run.specs.declared.stop.Stop.TheVariants as stop
use Rattle.ssq_run.specs.Generated.{AreAllEpochs, AreEpochs, AreTold as IsTold, GenEnd, counted, at_fault, out_of_memory, IsFirstFault, in_memory, lengths, made_cap, made_setting}
use Rattle.ssq_value.specs.declared.column.Column.{Column}
use Rattle.ssq_run.specs.declared.stop.Wrong.{Wrong}
use Rattle.ssq_run.specs.Places.{columns_of, name_of}
use Rattle.ssq_run.specs.Stopping.{HasCount, IsPastWords, IsToldAs, stop_of_end, stop_of_fault, stop_of_line, stop_of_sink, wrong_of, wrong_row}
use Rattle.ssq_bind.specs.Read.{QueriesReadTheirStreams, ReadsItsStreams}
use Rattle.ssq_bind.specs.Typed.{IsTyped, QueriesAreTyped}
use Rattle.ssq_gen.specs.Made.{made_held}
use Rattle.ssq_tables.specs.Checkpoint.{CheckpointsHoldTables, rows_in_order}
use Rattle.ssq_tables.specs.Shown.{CanShow as IsShowable}
use Rattle.ssq_desk.proofs.Beginnings.{slice_below}
use Rattle.ssq_run.specs.Queries.{IsSomeQuery}
use Rattle.ssq_run.proofs.TableRows.{one_count, some_none}

-- ---- what its end is for the call above

fault_past : (streams : List Stream) (why : EpochFault) → IsPastWords (Some (stop_of_fault streams why))
fault_past streams (of_line at) = by_what at.what
  where
    by_what : (what : LineFault) → IsPastWords (Some (stop_of_line streams at.stream at.part at.offset what))
    by_what (line.Bad bad) = tt
    by_what line.Overflow = tt
fault_past streams (of_key key) = tt

fault_counts : (i0 i1 d0 d1 o0 o1 : ℕ) (streams : List Stream) (why : EpochFault) → HasCount i0 i1 d0 d1 o0 o1 (Some (stop_of_fault streams why))
fault_counts i0 i1 d0 d1 o0 o1 streams (of_line at) = by_what at.what
  where
    by_what : (what : LineFault) → HasCount i0 i1 d0 d1 o0 o1 (Some (stop_of_line streams at.stream at.part at.offset what))
    by_what (line.Bad bad) = tt
    by_what line.Overflow = tt
fault_counts i0 i1 d0 d1 o0 o1 streams (of_key key) = tt

pub gen_past : (bound : Bound) (number count : ℕ) (text : List ℕ) (why : Option Stop) → GenEnd bound number count text why → IsPastWords why
gen_past bound number count text why (counted all none) = subst IsPastWords (sym none) tt
gen_past bound number count text why (at_fault own first untold is) = subst IsPastWords (sym is) (fault_past bound.streams own)
gen_past bound number count text why (out_of_memory untold is) = subst IsPastWords (sym is) tt

pub gen_counts : (i0 i1 d0 d1 o0 o1 : ℕ) (bound : Bound) (number count : ℕ) (text : List ℕ) (why : Option Stop) → GenEnd bound number count text why → HasCount i0 i1 d0 d1 o0 o1 why
gen_counts i0 i1 d0 d1 o0 o1 bound number count text why (counted all none) = let C : Option Stop → Type 0 = HasCount i0 i1 d0 d1 o0 o1 in subst C (sym none) tt
gen_counts i0 i1 d0 d1 o0 o1 bound number count text why (at_fault own first untold is) = let C : Option Stop → Type 0 = HasCount i0 i1 d0 d1 o0 o1 in subst C (sym is) (fault_counts i0 i1 d0 d1 o0 o1 bound.streams own)
gen_counts i0 i1 d0 d1 o0 o1 bound number count text why (out_of_memory untold is) = let C : Option Stop → Type 0 = HasCount i0 i1 d0 d1 o0 o1 in subst C (sym is) tt

pub gen_as : (bound : Bound) (number count : ℕ) (text : List ℕ) (end : Option Stop) (own : Stop) → text ≡ [] → end ≡ Some own → GenEnd bound number count [] (Some own) → GenEnd bound number count text end
gen_as bound number count text end own none is so =
    let T : List ℕ → Type 0 = λ t. GenEnd bound number count t (Some own) in
    let E : Option Stop → Type 0 = λ e. GenEnd bound number count text e in
    subst E (sym is) (subst T (sym none) so)

-- ---- how its run ends

-- what is in memory failed, or memory ran out
abbrev IsInside : Option Stop → Type 0
IsInside (Some stop.LogFault) = Unit {0}
IsInside (Some stop.DiskFault) = Unit {0}
IsInside (Some stop.OutFault) = Unit {0}
IsInside (Some stop.NoMemory) = Unit {0}
IsInside _ = ⊥

-- so, unless the checkpoint is refused or a limit is met
abbrev IsOuter : Result (Unit {0}) RunFault → Type 0
IsOuter end = (streams : List Stream) (counts : List ℕ) → IsNoRefusal end → IsNoLimit end → IsInside (stop_of_end streams counts end)

-- It is done, and its sink files are those of all epochs; or it stopped at the first fault; or what is in memory failed.
pub data RanSo (s : Setting) (files : Files) (end : Result (Unit {0}) RunFault) : Type 0 where
  done : (cuts : Cuts) (n : ℕ) → AreAllEpochs s cuts n → StandsAt (course_of s cuts) n n files → end ≡ Ok tt → RanSo s files end
  faulty : (why : EpochFault) → IsFirstFault s why → ((streams : List Stream) (counts : List ℕ) → stop_of_end streams counts end ≡ Some (stop_of_fault streams why)) → RanSo s files end
  outer : IsOuter end → RanSo s files end

outer_parts : (told : Type 0) (held : Held) (streams : List Stream) (why : RunFault) → IsUnparted told held streams why → IsOuter (Err why)
outer_parts told held streams (run.Parts (parts.Full stream)) is = λ own counts goes free. absurd free
outer_parts told held streams (run.Parts parts.LogFault) is = λ own counts goes free. tt
outer_parts told held streams (run.Parts parts.NoMemory) is = λ own counts goes free. tt
outer_parts told held streams run.NoMemory is = λ own counts goes free. tt
outer_parts told held streams _ is = absurd is

outer_lines : (why : LengthFault) → IsOuter (Err (run.Lines why))
outer_lines (lengths_fault.Full part count) = λ own counts goes free. absurd free
outer_lines lengths_fault.LogFault = λ own counts goes free. tt
outer_lines lengths_fault.NoMemory = λ own counts goes free. tt

outer_open : (why : OpenFault) → IsOuter (Err (run.Open why))
outer_open opening.DiskFault = λ own counts goes free. tt
outer_open opening.NoMemory = λ own counts goes free. tt
outer_open _ = λ own counts goes free. absurd goes

-- ---- epochs that were told have no fault

told_clean : (s : Setting) (cuts : Cuts) (first : EndsOf) (plans : List Plan) (e : ℕ) (told : List Told) → AreTold first plans e told → All (IsMeant s cuts) told → (f : ℕ) → e ≤ f → f < e + length told
    → epoch_fault s.job.bound (parts_in s) (cuts_of cuts) f ≡ None
told_clean s cuts first plans e [] are all f least most = absurd (omega (arith, least, most))
told_clean s cuts first plans e (one ∷ rest) are all f least most = elim (cases_lt e f) [
  | inl less ↦ told_clean s cuts first plans (e + 1) rest are.1 (All-tail (IsMeant s cuts) one rest all) f (omega (arith, less)) (omega (arith, most))
  | inr same ↦ subst (λ (n : ℕ). epoch_fault s.job.bound (parts_in s) (cuts_of cuts) n ≡ None) (are.0.epoch ∙ omega (arith, least, same)) (All-head (IsMeant s cuts) one rest all).faultless
]

-- ---- what stands at the end

there_of : {A : Type 0} (o : Option A) (x : A) → IsSome o → (o ≡ None) ⊎ (o ≡ Some x) → o ≡ Some x
there_of o x some (inl none) = absurd cc
there_of o x some (inr is) = is

none_of : {A : Type 0} (o : Option A) → (IsSome o → ⊥) → o ≡ None
none_of None never = refl
none_of (Some x) never = absurd (never refl)

pub no_some : {A : Type 0} (o : Option A) (x : A) → o ≡ Some x → o ≡ None → ⊥
no_some o x is none = cc

-- the sink files of n epochs are the rows that the query means, and no other is there
record HasSinks (s : Setting) (cuts : Cuts) (n : ℕ) (files : Files) : Type 0 where
  there : (e : ℕ) → e < n → files (name.Out e) ≡ Some (rows_at s cuts e)
  none_past : (e : ℕ) → n < e + 1 → files (name.Out e) ≡ None

sinks_of : (s : Setting) (cuts : Cuts) (n : ℕ) (files : Files) → StandsAt (course_of s cuts) n n files → HasSinks s cuts n files
sinks_of s cuts n files stands = record {
  there = λ e less. there_of (files (name.Out e)) (rows_at s cuts e) (stands.needed (name.Out e) (lt-ltb e n less)) (stands.are_true (name.Out e));
  none_past = λ e past. none_of (files (name.Out e)) (λ some. (let low = ltb-true e n (stands.allowed (name.Out e) some) in absurd (omega (arith, low, past))));
}

some_of : {A : Type 0} (o : Option A) (x : A) → o ≡ Some x → IsSome o
some_of o x own = cc

-- as many sink files there have to be as there are epochs
counted_of : (s : Setting) (cuts : Cuts) (n : ℕ) (files : Files) → HasSinks s cuts n files → AreCounted files n
counted_of s cuts n files has = record {
  all = λ e some. elim (cases_lt e n) [ inl less ↦ less | inr past ↦ absurd (some_none (files (name.Out e)) some (has.none_past e (omega (arith, past)))) ];
  last = λ e is. some_of (files (name.Out e)) (rows_at s cuts e) (has.there e (omega (arith, is)));
}

-- ---- the rounds

none_after : (n : ℕ) (rounds : List Round) → length rounds ≡ 0 → n ≡ 0 → epochs_after n rounds ≡ 0
none_after n [] none zero_n = zero_n
none_after n (round ∷ rounds) none zero_n = absurd (omega (arith, none))

first_found : (seen at : List ℕ) (epochs : ℕ) (rounds : List Round) → length rounds ≡ 0 → BeginWith seen (record { found = at; epochs = epochs } ∷ rounds) → at ≡ seen
first_found seen at epochs [] none begin = begin
first_found seen at epochs (round ∷ rounds) none begin = absurd (omega (arith, none))

wrong_same : (columns : List Column) (f : RowFault) → wrong_of columns f ≡ wrong_row columns (bad_of f)
wrong_same columns row.TooLong = refl
wrong_same columns row.NotJson = refl
wrong_same columns row.NotObject = refl
wrong_same columns (row.WrongType column) = refl
wrong_same columns row.NoEventTime = refl

module _ {L : Type 0} (told tells : Type 0) (lines : L → List Line) (available : L → ℕ) (answers : L → List ℕ) (faults : L → ℕ) (whole : (log : L) → available log ≡ length (lines log)) (k : tells) where
  -- each log has all its lines there
  all_found : (olds news : List L) (found : List ℕ) → AreAsked tells lines available answers faults olds news found → found ≡ map length (map lines olds)
  all_found [] [] [] are = refl
  all_found [] [] (n ∷ ns) are = absurd are
  all_found [] (new ∷ news) found are = absurd are
  all_found (old ∷ olds) [] found are = absurd are
  all_found (old ∷ olds) (new ∷ news) [] are = absurd are
  all_found (old ∷ olds) (new ∷ news) (n ∷ ns) are =
      let own : n ≡ length (lines old) = sym (are.0.there k) ∙ whole new ∙ ap (λ (l : List Line). length l) (are.0.same k) in
      ap₂ (λ (m : ℕ) (ms : List ℕ). m ∷ ms) own (all_found olds news ns are.2)

  module _ (g : Given L) (s : Setting) (of : IsRunOf lines g s) (empty : IsEmpty (files_now g.start)) (capped : g.cap ≡ Some made_cap) (once : g.rounds ≡ 1) where
    none_planned : (sought : Sought) (at : History) (opened : Opened) → IsOpen sought (files_now g.start) at opened → (opened.plans ≡ []) × (opened.committed ≡ 0)
    none_planned sought at opened (kept passes settled) = absurd (no_some (files_now g.start name.Meta) _ passes.found.record_is.spells.text (empty name.Meta))
    none_planned sought at opened (begun none first settled) = (first.plans, first.committed)

    module _ (now : History) (disk_faults : ℕ) (logs : List L) (OutTells : Type 0) (written text : List ℕ) (end : Result (Unit {0}) RunFault) (found : List ℕ) (asked_logs : List L)
        (ask : AreAsked tells lines available answers faults g.logs asked_logs found) (b : Begun L) (by : IsBegunBy tells lines available answers faults g found b)
        (ends : Ends tells lines available answers faults b now disk_faults logs OutTells written text end) where
      abbrev S : Setting
      S = setting_in tells lines available answers faults b

      abbrev C : Cuts
      C = cuts_in b ends.plans

      own : (S ≡ s) × IsOwnRun tells lines available answers faults b
      own = by.own k s of (inl empty)

      owned : Owned tells lines available answers faults b
      owned = (k, own.1)

      plain : (b.found.plans ≡ []) × (b.found.committed ≡ 0)
      plain = none_planned (sought_in g found) b.start b.found (by.opened k)

      none_first : length b.found.plans ≡ 0
      none_first = ap (λ (p : List Plan). length p) plain.0

      seen : b.seen ≡ lengths S
      seen = by.seen_is ∙ all_found g.logs asked_logs found ask ∙ ap (λ (l : List L). map length (map lines l)) (sym by.logs_are)

      cut_so : (at : List ℕ) (from n : ℕ) → from ≡ 0 → at ≡ lengths S → AreNext (Owned tells lines available answers faults b) S b.cap at C from n → AreEpochs S C n
      cut_so at from n zero_from is next = record {
        starts = refl;
        next = λ e less. next.next e (omega (arith, zero_from)) less ∙ ap₂ (λ (c : Option ℕ) (f : List ℕ). next_ends c (C e) f) (by.cap_is ∙ capped) is;
        come = λ e less. subst (λ (f : List ℕ). (is_behind (C e) f ≡ true) ⊎ (due_at S C e ≡ true)) is (next.more owned e (omega (arith, zero_from)) less);
      }

      all_so : (rounds : List Round) → length rounds ≡ 1 → AreRounds (Owned tells lines available answers faults b) S b.cap C (length b.found.plans) rounds → epochs_after (length b.found.plans) rounds ≡ length ends.plans → BeginWith b.seen rounds
          → AreAllEpochs S C (length ends.plans)
      unfolding AreRounds
      all_so [] one are upto begin = absurd (omega (arith, one))
      all_so (round ∷ []) one are upto begin =
          let is : round.found ≡ lengths S = begin ∙ seen in
          record {
            epochs = subst (λ (n : ℕ). AreEpochs S C n) upto (cut_so round.found (length b.found.plans) round.epochs none_first is are.0.cut);
            covered = subst (λ (f : List ℕ). is_behind (C (length ends.plans)) f ≡ false) is (subst (λ (n : ℕ). is_behind (C n) round.found ≡ false) upto are.0.covers);
            quiet = subst (λ (n : ℕ). due_at S C n ≡ false) upto (are.0.quiet owned);
          }
      all_so (round ∷ other ∷ rounds) one are upto begin = absurd (omega (arith, one))

      stands_so : end ≡ Ok tt → StandsAt (course_of S C) (length ends.plans) (length ends.plans) (files_now now)
      stands_so is =
          let left = ends.left is k own.1 in
          let f = left.found_is in
          let cuts_same = f.cuts ∙ ap₂ (λ (m : Meta) (p : List Plan). cut_of (begins m.parts) p) left.meta_is left.plans_are in
          let planned_same = f.planned ∙ ap (λ (p : List Plan). length p) left.plans_are in
          let committed_same = f.committed ∙ left.committed in
          subst (λ (m : ℕ). StandsAt (course_of S C) (length ends.plans) m (files_now now)) committed_same
          (subst (λ (m : ℕ). StandsAt (course_of S C) m f.desk.committed (files_now now)) planned_same
          (subst (λ (c : Cuts). StandsAt (course_of S c) f.desk.planned f.desk.committed (files_now now)) cuts_same f.is.0))

      abbrev last : ℕ
      last = b.found.committed + length ends.told

      first_so : (at : List ℕ) (why : EpochFault) → length ends.done ≡ 0 → AreNext (Owned tells lines available answers faults b) S b.cap at C (epochs_after (length b.found.plans) ends.done) (length ends.plans)
          → BeginWith b.seen (record { found = at; epochs = length ends.plans } ∷ ends.done) → last < length ends.plans → epoch_fault S.job.bound (parts_in S) (cuts_of C) last ≡ Some why → IsFirstFault S why
      first_so at why none next begin below is = record {
        cuts = C;
        n = length ends.plans;
        e = last;
        epochs = cut_so at (epochs_after (length b.found.plans) ends.done) (length ends.plans) (none_after (length b.found.plans) ends.done none none_first) (first_found b.seen at (length ends.plans) ends.done none begin ∙ seen) next;
        below = below;
        is = is;
        clean = λ f less. told_clean S C (first_of b.found) ends.plans b.found.committed ends.told ends.has.told_are (ends.ran k own.1).meant f (let zero_is = plain.1 in omega (arith, zero_is)) less;
      }

      by_stop : (at : List ℕ) → length ends.done ≡ 0 → AreNext (Owned tells lines available answers faults b) S b.cap at C (epochs_after (length b.found.plans) ends.done) (length ends.plans)
          → BeginWith b.seen (record { found = at; epochs = length ends.plans } ∷ ends.done) → (key : Option Values) (why : Cause)
          → IsRoundStop tells (Owned tells lines available answers faults b) S C at (length ends.plans) last (files_now now) b.disk_faults disk_faults (sum_by faults logs) key why → RanSo S (files_now now) (Err (fault_by why key))
      by_stop at none next begin key (cause.BadLine t p o f) is =
          faulty (of_line (record { stream = t; part = p; offset = o; what = line.Bad (bad_of f) })) (first_so at (of_line (record { stream = t; part = p; offset = o; what = line.Bad (bad_of f) })) none next begin is.0 (is.1 k))
          (λ streams counts. ap (λ (w : Wrong). Some (stop.BadLine (name_of streams t) p o w)) (wrong_same (columns_of streams t) f))
      by_stop at none next begin key (cause.Overflow t p o) is =
          faulty (of_line (record { stream = t; part = p; offset = o; what = line.Overflow })) (first_so at (of_line (record { stream = t; part = p; offset = o; what = line.Overflow })) none next begin is.0 (is.1 k)) (λ streams counts. refl)
      by_stop at none next begin None cause.KeyOverflow is = absurd is.1
      by_stop at none next begin (Some key) cause.KeyOverflow is = faulty (of_key key) (first_so at (of_key key) none next begin is.0 (is.1 owned)) (λ streams counts. refl)
      by_stop at none next begin key cause.LogFault is = outer (λ streams counts goes free. tt)
      by_stop at none next begin key (cause.LogShort t p logged count) is = absurd (is.1 k)
      by_stop at none next begin key (cause.Damaged q) is = absurd (is.0 owned)
      by_stop at none next begin key cause.DiskFault is = outer (λ streams counts goes free. tt)
      by_stop at none next begin key cause.Full is = outer (λ streams counts goes free. absurd free)
      by_stop at none next begin key cause.NoMemory is = outer (λ streams counts goes free. tt)

      none_done : length ends.done < b.rounds → length ends.done ≡ 0
      none_done less = let all = by.rounds_are ∙ once in omega (arith, less, all)

      abbrev So : Result (Unit {0}) RunFault → Type 0
      So = RanSo S (files_now now)

      by_end : IsEnd tells lines available answers faults b now disk_faults logs OutTells written ends.plans ends.done ends.told text end → So end
      by_end (finished len upto all asked put untold is) = done C (length ends.plans) (all_so ends.done (len ∙ by.rounds_are ∙ once) ends.has.are upto asked.first) (stands_so is) is
      by_end (stopped less at next asked why stop_is put more told_is put_is text_is is) = subst So (sym is) (by_stop at (none_done less) next asked.first why.key why.cause stop_is)
      by_end (rounds_uncounted less upto before asked why uncounted_is stopped_is put_is text_is is) = outer (subst (λ (e : Result (Unit {0}) RunFault). IsOuter e) (sym is) (outer_lines why))
      by_end (unput less at next asked put more told_is put_is text_is is) = outer (subst (λ (e : Result (Unit {0}) RunFault). IsOuter e) (sym is) (λ streams counts goes free. tt))
      by_end (rounds_starved most rounds are asked put more rest told_is put_is text_is is) = outer (subst (λ (e : Result (Unit {0}) RunFault). IsOuter e) (sym is) (λ streams counts goes free. tt))

      ended_so : RanSo s (files_now now) end
      ended_so = subst (λ (o : Setting). RanSo o (files_now now) end) own.0 (by_end ends.is_end)

    run_so : (now : History) (disk_faults : ℕ) (logs : List L) (OutTells : Type 0) (written text : List ℕ) (end : Result (Unit {0}) RunFault) → RunEnd tells lines available answers faults g now disk_faults logs OutTells written text end → RanSo s (files_now now) end
    run_so now disk_faults logs OutTells written text end (uncounted why uncounted_is stopped_is same unsaid is) = outer (subst (λ (e : Result (Unit {0}) RunFault). IsOuter e) (sym is) (outer_lines why))
    run_so now disk_faults logs OutTells written text end (refused found why ask denial opens jobs rises unsaid is) = outer (subst (λ (e : Result (Unit {0}) RunFault). IsOuter e) (sym is) (outer_open why))
    run_so now disk_faults logs OutTells written text end (starved found ask same unsaid is) = outer (subst (λ (e : Result (Unit {0}) RunFault). IsOuter e) (sym is) (λ streams counts goes free. tt))
    run_so now disk_faults logs OutTells written text end (ran found asked_logs ask b by ends promised) = ended_so now disk_faults logs OutTells written text end found asked_logs ask b by ends

  -- a run over an empty disk, of one round with this cap
  pub over_so : (held : Held) (known : List ℕ → ℕ → ℕ) (bound : Bound) (ask : Ask) (start now : History) (disk_faults disk_faults_now : ℕ) (returned returned_now : List (List ℕ)) (OutTells : Type 0) (old written text : List ℕ) (end : Result (Unit {0}) RunFault)
      → RunOver told tells lines available answers faults held known bound ask start now disk_faults disk_faults_now returned returned_now OutTells old written text end → told → ask.cap ≡ Some made_cap → ask.rounds ≡ 1 → IsEmpty (files_now start)
      → (s : Setting) → IsSettingFor held bound ask.partitions start s → RanSo s (files_now now) end
  over_so held known bound ask start now disk_faults disk_faults_now returned returned_now OutTells old written text end (unparted why is still left) t capped once empty s setting =
      outer (subst (λ (e : Result (Unit {0}) RunFault). IsOuter e) (sym left) (outer_parts told held bound.streams why is))
  over_so held known bound ask start now disk_faults disk_faults_now returned returned_now OutTells old written text end (over g counts of start_is disk old_is logs_are setting_is logs how back) t capped once empty s setting =
      run_so g s (setting_is t s setting) (subst (λ (h : History). IsEmpty (files_now h)) (sym start_is) empty) (of.cap_is ∙ capped) (of.rounds_are ∙ once) now disk_faults_now logs OutTells written text end how

-- ---- how generated input ends

same_stop : (x y : Stop) → Some x ≡ Some y → x ≡ y
same_stop x y e = ap (λ (o : Option Stop). unwrap_or o x) e

told_of : (streams : List Stream) (why : EpochFault) → in_memory (stop_of_fault streams why) ≡ stop_of_fault streams why
told_of streams (of_line at) = by_what at.what
  where
    by_what : (what : LineFault) → in_memory (stop_of_line streams at.stream at.part at.offset what) ≡ stop_of_line streams at.stream at.part at.offset what
    by_what (line.Bad bad) = refl
    by_what line.Overflow = refl
told_of streams (of_key key) = refl

inside_memory : (why : Stop) → IsInside (Some why) → in_memory why ≡ stop.NoMemory
inside_memory stop.LogFault is = refl
inside_memory stop.DiskFault is = refl
inside_memory stop.OutFault is = refl
inside_memory stop.NoMemory is = refl
inside_memory _ is = absurd is

-- its run stopped
pub gen_stop : (bound : Bound) (number count : ℕ) (files : Files) (end : Result (Unit {0}) RunFault) (why : Stop) (counts : List ℕ) → RanSo (made_setting bound number count) files end → IsNoRefusal end → IsNoLimit end
    → IsToldAs (Some why) (stop_of_end bound.streams counts end) → GenEnd bound number count [] (Some (in_memory why))
gen_stop bound number count files end why counts so goes free (inr memory) = out_of_memory refl (ap (λ (w : Stop). Some (in_memory w)) (same_stop why stop.NoMemory memory.1))
gen_stop bound number count files end why counts (done cuts n all has is) goes free (inl same) =
    absurd (some_apart (same ∙ ap (λ (e : Result (Unit {0}) RunFault). stop_of_end bound.streams counts e) is))
  where
    some_apart : Some why ≡ None → ⊥
    some_apart e = cc
gen_stop bound number count files end why counts (faulty own first told) goes free (inl same) =
    let is : why ≡ stop_of_fault bound.streams own = same_stop why (stop_of_fault bound.streams own) (same ∙ told bound.streams counts) in
    at_fault own first refl (ap (λ (w : Stop). Some w) (ap in_memory is ∙ told_of bound.streams own))
gen_stop bound number count files end why counts (outer inside) goes free (inl same) =
    let O : Option Stop → Type 0 = λ o. IsInside o in
    out_of_memory refl (ap (λ (w : Stop). Some w) (inside_memory why (subst O (sym same) (inside bound.streams counts goes free))))

-- or it is done, and its checkpoint stands with all epochs
pub record IsRan (s : Setting) (files : Files) : Type 0 where
  pub cuts : Cuts
  pub n : ℕ
  pub all : AreAllEpochs s cuts n
  pub stands : StandsAt (course_of s cuts) n n files

pub gen_ran : (s : Setting) (files : Files) (streams : List Stream) (counts : List ℕ) (end : Result (Unit {0}) RunFault) → RanSo s files end → IsNoRefusal end → IsNoLimit end → IsToldAs None (stop_of_end streams counts end) → IsRan s files
gen_ran s files streams counts end (done cuts n all stands is) goes free told = record { cuts = cuts; n = n; all = all; stands = stands }
gen_ran s files streams counts end (faulty own first is) goes free (inl none) = absurd (none_some (none ∙ is streams counts))
  where
    none_some : None ≡ Some (stop_of_fault streams own) → ⊥
    none_some e = cc
gen_ran s files streams counts end (outer inside) goes free (inl none) =
    let O : Option Stop → Type 0 = λ o. IsInside o in
    absurd (subst O (sym none) (inside streams counts goes free))
gen_ran s files streams counts end (faulty own first is) goes free (inr memory) = absurd (none_memory memory.1)
  where
    none_memory : None ≡ Some stop.NoMemory → ⊥
    none_memory e = cc
gen_ran s files streams counts end (outer inside) goes free (inr memory) = absurd (none_memory memory.1)
  where
    none_memory : None ≡ Some stop.NoMemory → ⊥
    none_memory e = cc

bytes_same : (o : Option (List ℕ)) (one other : List ℕ) → o ≡ Some one → o ≡ Some other → one ≡ other
bytes_same o one other is also = ap (λ (f : Option (List ℕ)). unwrap_or f one) (sym is ∙ also)

-- its table was told as counts
pub gen_told : (bound : Bound) (number count : ℕ) (files : Files) (epochs : List (List Values)) (text : List ℕ) → IsRan (made_setting bound number count) files → AreSinks bound files epochs → IsTold bound count epochs text
    → GenEnd bound number count text None
gen_told bound number count files epochs text so sinks told =
    let s : Setting = made_setting bound number count in
    let has = sinks_of s so.cuts so.n files so.stands in
    let same : so.n ≡ length epochs = one_count files so.n (length epochs) (counted_of s so.cuts so.n files has) sinks.counted in
    counted (record {
      cuts = so.cuts;
      epochs = epochs;
      all = subst (λ (n : ℕ). AreAllEpochs s so.cuts n) same so.all;
      rows = λ e own is.
          let sink_is = sinks.each e own is in
          let below = slice_below epochs e own is in
          subst (λ (bytes : List ℕ). AreRows (output_names bound) (output_kinds bound) bytes own)
          (bytes_same (files (name.Out e)) sink_is.bytes (rows_at s so.cuts e) sink_is.there (has.there e (omega (arith, below, same)))) sink_is.are;
      told = told;
    }) refl

-- a query that was accepted can be shown
pub can_show : (bound : Bound) → IsSomeQuery bound → QueriesAreTyped → QueriesReadTheirStreams → IsShowable bound
can_show bound some typed read =
    let names = some.1.accepted.names in
    record {
      typed = subst IsTyped (sym names.is) (typed some.1.query names.unbroken);
      windows = some.1.accepted.windows;
      streams = subst ReadsItsStreams (sym names.is) (read some.1.query names.unbroken);
    }

-- or memory ran out: its sink files can be read again
pub gen_bad : (bound : Bound) (number count : ℕ) (files : Files) (fault : SinkFault) → IsRan (made_setting bound number count) files → CheckpointsHoldTables → IsShowable bound → IfDamaged (IsBadSink bound files) fault
    → GenEnd bound number count [] (Some (in_memory (stop_of_sink fault)))
gen_bad bound number count files (sink.Damaged at) so hold showable bad =
    let s : Setting = made_setting bound number count in
    let table = hold s so.cuts so.n so.n files bad.m showable (length-map bound.streams (λ (stream : Stream). (made_held number count).parts stream.source)) so.stands bad.counted in
    absurd (bad.first.bad (record { rows = rows_in_order s so.cuts bad.first.e; is = table.each bad.first.e bad.first.below }))
gen_bad bound number count files sink.DiskFault so hold showable bad = out_of_memory refl refl
gen_bad bound number count files sink.NoMemory so hold showable bad = out_of_memory refl refl
