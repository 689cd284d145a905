-- How a command ends for which its premises hold: what comes before it is obeyed, and how a run does.
use Rattle.std.proofs.Common.{◌≡◌, ◌≢◌, ◌⊎◌, ◌∙◌, ℕ, List, Option, Some, None, Result, Ok, Err, refl, sym, ap, subst, inl, inr, arith}
use Rattle.ssq_outside.specs.Faults.{Rises}
use Rattle.ssq_outside.specs.History.{History}
use Rattle.ssq_outside.specs.Logs.{Held, Line}
use Rattle.ssq_accept.specs.Accepting.{IsRefused, AcceptedAreTaken}
use Rattle.ssq_ast.specs.declared.query.Query.{Query}
use Rattle.ssq_parse.specs.File.{Fault, query_of}
use Rattle.ssq_bind.specs.Bound.{bound_of}
use Rattle.ssq_shape.specs.declared.bound.Bound.{Bound}
use Rattle.ssq_shape.specs.declared.bound.Stream.{Stream}
use Rattle.ssq_board.specs.declared.front.Cause.TheVariants as cause
use Rattle.ssq_logs.specs.declared.fault.PartsFault.TheVariants as parts
use Rattle.ssq_logs.specs.declared.fault.LengthFault.TheVariants as lengths
use Rattle.ssq_logs.specs.Parts.{counts_in}
use Rattle.ssq_open.specs.declared.fault.OpenFault.TheVariants as opening
use Rattle.ssq_runner.specs.declared.ask.Ask.{Ask}
use Rattle.ssq_runner.specs.declared.fault.RunFault.{RunFault}
use Rattle.ssq_runner.specs.declared.fault.RunFault.TheVariants as run
use Rattle.ssq_runner.specs.Complete.{IsNoRefusal, IsNoLimit, IsNoFault, RunsGoOn, RunsMeetNoLimit, RunsMeetNoFault}
use Rattle.ssq_words.specs.Asking.{Asked, asks_run, asked}
use Rattle.ssq_run.specs.declared.stop.Stop.{Stop}
use Rattle.ssq_run.specs.declared.stop.Stop.TheVariants.{LogFault, NoMemory}
use Rattle.ssq_run.specs.declared.prepare.Todo.TheVariants as todo
use Rattle.ssq_run.specs.Prepared.{IsTodo}
use Rattle.ssq_run.specs.Queries.{read_of, text_for, IsQueryAt, IsQueryFor, IsQueryOf, IsRefusedFor}
use Rattle.ssq_run.specs.Stopping.{stop_of_refusal, stop_of_end, status_in, IsToldAs}
use Rattle.ssq_run.specs.Program.{Given, Went, IsOutside, ask_of, HasTold, HasObeyed, has_run, has_told, ProgramEnd, unread, no_command, no_file, refused, obeyed, IsStatus}
use Rattle.ssq_course.specs.Setting.{Setting}
use Rattle.ssq_runner.specs.Sources.{IsSettingFor, RunOver}
use Rattle.ssq_run.specs.Going.{AsksRun, IsAskedFor, CanGoOn, HasRoom, IsFaultless, NoneFailed, IsDone, IsDoneToAFault}

-- the status of a run's end, by what it is
data IsEndStatus (end : Result (Unit {0}) RunFault) (n : ℕ) : Type 0 where
  done : n ≡ 0 → IsEndStatus end n
  at_fault : (n ≡ 4) ⊎ (n ≡ 5) → (IsNoFault end → ⊥) → IsEndStatus end n
  outside : (n ≡ 6) ⊎ ((n ≡ 7) ⊎ (n ≡ 8)) → IsEndStatus end n
  of_checkpoint : n ≡ 9 → (IsNoRefusal end → ⊥) → IsEndStatus end n
  memory : n ≡ 10 → IsEndStatus end n
  limit : n ≡ 11 → (IsNoLimit end → ⊥) → IsEndStatus end n

-- (a constructor of the definitions is hidden by its name here)
abbrev no : ⊥ → ⊥
no never = never

end_status : (streams : List Stream) (counts : List ℕ) (end : Result (Unit {0}) RunFault) → IsEndStatus end (status_in (stop_of_end streams counts end))
end_status streams counts (Ok over) = done refl
end_status streams counts (Err (run.Parts (parts.Full stream))) = limit refl no
end_status streams counts (Err (run.Parts parts.LogFault)) = outside (inl refl)
end_status streams counts (Err (run.Parts parts.NoMemory)) = memory refl
end_status streams counts (Err (run.Lines (lengths.Full number lines))) = limit refl no
end_status streams counts (Err (run.Lines lengths.LogFault)) = outside (inl refl)
end_status streams counts (Err (run.Lines lengths.NoMemory)) = memory refl
end_status streams counts (Err (run.Open (opening.OtherQuery kept))) = of_checkpoint refl no
end_status streams counts (Err (run.Open (opening.OtherPartitions kept wanted))) = of_checkpoint refl no
end_status streams counts (Err (run.Open (opening.OtherParts stream kept found))) = of_checkpoint refl no
end_status streams counts (Err (run.Open (opening.LogShort stream part logged found))) = of_checkpoint refl no
end_status streams counts (Err (run.Open (opening.Damaged name))) = of_checkpoint refl no
end_status streams counts (Err (run.Open opening.DiskFault)) = outside (inr (inl refl))
end_status streams counts (Err (run.Open opening.NoMemory)) = memory refl
end_status streams counts (Err (run.Round (cause.BadLine stream part offset fault))) = at_fault (inl refl) no
end_status streams counts (Err (run.Round (cause.Overflow stream part offset))) = at_fault (inr refl) no
end_status streams counts (Err (run.Round cause.KeyOverflow)) = at_fault (inr refl) no
end_status streams counts (Err (run.Round cause.LogFault)) = outside (inl refl)
end_status streams counts (Err (run.Round (cause.LogShort stream part logged found))) = of_checkpoint refl no
end_status streams counts (Err (run.Round (cause.Damaged name))) = of_checkpoint refl no
end_status streams counts (Err (run.Round cause.DiskFault)) = outside (inr (inl refl))
end_status streams counts (Err (run.Round cause.Full)) = limit refl no
end_status streams counts (Err (run.Round cause.NoMemory)) = memory refl
end_status streams counts (Err (run.KeyOverflow key)) = at_fault (inr refl) no
end_status streams counts (Err run.OutFault) = outside (inr (inr refl))
end_status streams counts (Err run.NoMemory) = memory refl

-- a text is read as one query, which is bound in one way
ok_same : (found : Result Query Fault) (x y : Query) → found ≡ Ok x → found ≡ Ok y → x ≡ y
ok_same found x y is also = cc

one_query : (text : List ℕ) (bound other : Bound) → IsQueryOf text bound → IsQueryOf text other → bound ≡ other
one_query text bound other is also =
    is.accepted.names.is ∙ ap bound_of (ok_same (query_of text) is.query also.query is.accepted.read.read also.accepted.read.read) ∙ sym also.accepted.names.is

one_command : (words : List (List ℕ)) (what other : Asked) → asked words ≡ Some what → asked words ≡ Some other → what ≡ other
one_command words what other is also = cc

no_command_too : (words : List (List ℕ)) (what : Asked) → asked words ≡ Some what → asked words ≡ None → ⊥
no_command_too words what is none = cc

same_run : (file other : List ℕ) (partitions many most more : Option ℕ) (rounds again : ℕ) → asks_run file partitions most rounds ≡ asks_run other many more again → (file ≡ other) × (partitions ≡ many)
same_run file other partitions many most more rounds again e = (cc, cc)

-- what is asked of the run is asked of the query that was read
pub setting_here : (given : Given) (held : Held) (bound : Bound) (ask : Ask) (start : History) (s : Setting) → IsAskedFor given start s → IsTodo given.held given.words (todo.Run bound ask) → held ≡ given.held → IsSettingFor held bound ask.partitions start s
setting_here given held bound ask start s of is held_is =
    let a = of.asks in
    let same = same_run is.0 a.file ask.partitions a.partitions ask.cap a.most ask.rounds a.rounds (one_command given.words (asks_run is.0 ask.partitions ask.cap ask.rounds) (asks_run a.file a.partitions a.most a.rounds) is.1 a.asks) in
    let F : List ℕ → Type 0 = λ f. IsQueryAt given.held f bound in
    let B : Bound → Type 0 = λ b. IsSettingFor given.held b a.partitions start s in
    let P : Option ℕ → Type 0 = λ p. IsSettingFor given.held bound p start s in
    let H : Held → Type 0 = λ h. IsSettingFor h bound ask.partitions start s in
    subst H (sym held_is) (subst P (sym same.1) (subst B (sym (one_query (read_of given.held a.file) bound a.bound (subst F same.0 is.2) a.is)) of.setting))

-- nothing is told of a query where it is run
not_told : (bound : Bound) (OutTells : Type 0) (went : Went) (stop : Option Stop) (file : List ℕ) (partitions most : Option ℕ) (rounds : ℕ) → HasTold bound OutTells went stop (asks_run file partitions most rounds) → ⊥
not_told bound OutTells went stop file partitions most rounds told = elim told [ ]

module _ {L : Type 0} (told tells : Type 0) (lines : L → List Line) (available : L → ℕ) (answers : L → List ℕ) (faults : L → ℕ) (given : Given) (OutTells : Type 0) (went : Went) (stop : Option Stop) where
  abbrev Obeyed : Asked → Bound → Type 0
  Obeyed own bound = HasObeyed told tells lines available answers faults given.held given.known bound OutTells went stop own

  -- words that ask for this of a query that is accepted: it was obeyed, or the inputs failed or memory ran out before
  pub ends_of : (own : Asked) (bound : Bound) → asked given.words ≡ Some own → IsQueryFor given.held own bound → AcceptedAreTaken → ProgramEnd told tells lines available answers faults given OutTells went stop → IsOutside stop ⊎ Obeyed own bound
  ends_of own bound asks accepted taken (unread is idle) = inl (inr is)
  ends_of own bound asks accepted taken (no_command none is idle) = absurd (no_command_too given.words own asks none)
  ends_of own bound asks accepted taken (no_file what is outer idle) = inl outer
  ends_of own bound asks accepted taken (refused what is why cause same idle) =
      let R : Asked → Type 0 = λ a. IsRefusedFor given.held a why in
      let denial : IsRefused (text_for given.held own) why = subst R (one_command given.words what own is asks) cause in
      inl (inr (same ∙ ap (λ r. Some (stop_of_refusal r)) (taken (text_for given.held own) accepted.query bound why accepted.accepted denial)))
  ends_of own bound asks accepted taken (obeyed what other is query so) =
      let same = one_command given.words what own is asks in
      let Q : Asked → Type 0 = λ a. IsQueryFor given.held a other in
      let A : Asked → Type 0 = λ a. Obeyed a other in
      inr (subst (Obeyed own) (one_query (text_for given.held own) other bound (subst Q same query) accepted) (subst A same so))

  -- the run that the words ask for, and why it ended
  record Ran (asks : AsksRun given) : Type 0 where
    end : Result (Unit {0}) RunFault
    over : RunOver told tells lines available answers faults given.held given.known asks.bound (ask_of asks.partitions asks.most asks.rounds) went.start went.now went.disk_faults went.disk_faults_now went.returned went.returned_now OutTells went.old went.written went.text end
    is : told → IsToldAs stop (stop_of_end asks.bound.streams (counts_in given.held asks.bound.streams) end)

  ran_of : (asks : AsksRun given) → AcceptedAreTaken → ProgramEnd told tells lines available answers faults given OutTells went stop → IsOutside stop ⊎ Ran asks
  ran_of asks taken end = by_obeyed (ends_of (asks_run asks.file asks.partitions asks.most asks.rounds) asks.bound asks.asks asks.is taken end)
    where
      by_obeyed : IsOutside stop ⊎ Obeyed (asks_run asks.file asks.partitions asks.most asks.rounds) asks.bound → IsOutside stop ⊎ Ran asks
      by_obeyed (inl outer) = inl outer
      by_obeyed (inr (has_run file partitions most rounds own ran is)) = inr (record { end = own; over = ran; is = is })
      by_obeyed (inr (has_told what so)) = absurd (not_told asks.bound OutTells went stop asks.file asks.partitions asks.most asks.rounds so)

  outside_status : IsOutside stop → (status_in stop ≡ 6) ⊎ (status_in stop ≡ 10)
  outside_status (inl is) = inl (ap status_in is)
  outside_status (inr is) = inr (ap status_in is)

  ran_status : (asks : AsksRun given) → told → (ran : Ran asks) → IsEndStatus ran.end (status_in stop)
  ran_status asks t ran = by_told (ran.is t)
    where
      by_told : IsToldAs stop (stop_of_end asks.bound.streams (counts_in given.held asks.bound.streams) ran.end) → IsEndStatus ran.end (status_in stop)
      by_told (inl same) = let S : Option Stop → Type 0 = λ s. IsEndStatus ran.end (status_in s) in subst S (sym same) (end_status asks.bound.streams (counts_in given.held asks.bound.streams) ran.end)
      by_told (inr out) = memory (ap status_in out.1)

  module _ (taken : AcceptedAreTaken) (end : ProgramEnd told tells lines available answers faults given OutTells went stop) (before after status : ℕ) (answer : IsStatus stop before after status) where
    -- what can go on is not refused
    not_9 : told → tells → (can : CanGoOn given went.start) → RunsGoOn told tells lines available answers faults OutTells → IsOutside stop ⊎ Ran can.asks → status_in stop ≡ 9 → ⊥
    not_9 t k can goes (inl outer) nine = elim (outside_status outer) [ inl six ↦ absurd (omega (arith, six, nine)) | inr ten ↦ absurd (omega (arith, ten, nine)) ]
    not_9 t k can goes (inr ran) nine =
        by_kind (ran_status can.asks t ran) (goes t k given.held given.known can.asks.bound (ask_of can.asks.partitions can.asks.most can.asks.rounds) went.start went.now went.disk_faults went.disk_faults_now went.returned went.returned_now went.old went.written went.text ran.end can.setting can.can ran.over)
      where
        by_kind : IsEndStatus ran.end (status_in stop) → IsNoRefusal ran.end → ⊥
        by_kind (done is) fine = absurd (omega (arith, is, nine))
        by_kind (at_fault (inl is) no_fault) fine = absurd (omega (arith, is, nine))
        by_kind (at_fault (inr is) no_fault) fine = absurd (omega (arith, is, nine))
        by_kind (outside (inl is)) fine = absurd (omega (arith, is, nine))
        by_kind (outside (inr (inl is))) fine = absurd (omega (arith, is, nine))
        by_kind (outside (inr (inr is))) fine = absurd (omega (arith, is, nine))
        by_kind (of_checkpoint is refuses) fine = refuses fine
        by_kind (memory is) fine = absurd (omega (arith, is, nine))
        by_kind (limit is full) fine = absurd (omega (arith, is, nine))

    pub goes_on : told → tells → RunsGoOn told tells lines available answers faults OutTells → CanGoOn given went.start → status ≢ 9
    goes_on t k goes can = by_answer answer
      where
        by_answer : IsStatus stop before after status → status ≡ 9 → ⊥
        by_answer (inl is) nine = not_9 t k can goes (ran_of can.asks taken end) (sym is ∙ nine)
        by_answer (inr (inl is)) nine = absurd (omega (arith, is.0, nine))
        by_answer (inr (inr is)) nine = absurd (omega (arith, is, nine))

    module _ (i0 i1 d0 d1 o0 o1 : ℕ) (none : NoneFailed i0 i1 d0 d1 o0 o1) (log : status ≡ 6 → Rises i0 i1) (disk : status ≡ 7 → Rises d0 d1) (out : status ≡ 8 → Rises o0 o1) where
      no_6 : status ≡ 6 → ⊥
      no_6 is = none.inputs_whole (log is)

      no_7 : status ≡ 7 → ⊥
      no_7 is = none.disk_whole (disk is)

      no_8 : status ≡ 8 → ⊥
      no_8 is = none.out_whole (out is)

      -- the status is the stop's, unless memory ran out: the output did not fail
      by_status : (P : Type 0) → (status ≡ status_in stop → P) → (status ≡ 10 → P) → P
      by_status P own ten = by_answer answer
        where
          by_answer : IsStatus stop before after status → P
          by_answer (inl is) = own is
          by_answer (inr (inl is)) = absurd (no_8 is.0)
          by_answer (inr (inr is)) = ten is

      outside_done : IsOutside stop → status ≡ status_in stop → IsDone status
      outside_done outer is = elim (outside_status outer) [ inl six ↦ absurd (no_6 (is ∙ six)) | inr ten ↦ inr (is ∙ ten) ]

      -- a command is done to its end, or memory ran out, where it is so once it is obeyed
      pub done_by : (own : Asked) (bound : Bound) → asked given.words ≡ Some own → IsQueryFor given.held own bound → (status ≡ status_in stop → Obeyed own bound → IsDone status) → IsDone status
      done_by own bound asks accepted done_so = by_status (IsDone status) (λ is. by_end is (ends_of own bound asks accepted taken end)) (λ is. inr is)
        where
          by_end : status ≡ status_in stop → IsOutside stop ⊎ Obeyed own bound → IsDone status
          by_end is (inl outer) = outside_done outer is
          by_end is (inr so) = done_so is so

      module _ (t : told) (k : tells) where
        -- what has room is done to a fault
        to_a_fault : (room : HasRoom given went.start) → RunsGoOn told tells lines available answers faults OutTells → RunsMeetNoLimit told tells lines available answers faults OutTells → IsOutside stop ⊎ Ran room.asks → status ≡ status_in stop → IsDoneToAFault status
        to_a_fault room goes free (inl outer) is = inl (outside_done outer is)
        to_a_fault room goes free (inr ran) is =
            by_kind (ran_status room.asks t ran)
            (goes t k given.held given.known room.asks.bound (ask_of room.asks.partitions room.asks.most room.asks.rounds) went.start went.now went.disk_faults went.disk_faults_now went.returned went.returned_now went.old went.written went.text ran.end room.setting room.room.can ran.over)
            (free t k given.held given.known room.asks.bound (ask_of room.asks.partitions room.asks.most room.asks.rounds) went.start went.now went.disk_faults went.disk_faults_now went.returned went.returned_now went.old went.written went.text ran.end room.setting room.room ran.over)
          where
            by_kind : IsEndStatus ran.end (status_in stop) → IsNoRefusal ran.end → IsNoLimit ran.end → IsDoneToAFault status
            by_kind (done same) fine within = inl (inl (is ∙ same))
            by_kind (at_fault (inl same) no_fault) fine within = inr (inl (is ∙ same))
            by_kind (at_fault (inr same) no_fault) fine within = inr (inr (is ∙ same))
            by_kind (outside (inl same)) fine within = absurd (no_6 (is ∙ same))
            by_kind (outside (inr (inl same))) fine within = absurd (no_7 (is ∙ same))
            by_kind (outside (inr (inr same))) fine within = absurd (no_8 (is ∙ same))
            by_kind (of_checkpoint same refuses) fine within = absurd (refuses fine)
            by_kind (memory same) fine within = inl (inr (is ∙ same))
            by_kind (limit same full) fine within = absurd (full within)

        pub done_to_a_fault : RunsGoOn told tells lines available answers faults OutTells → RunsMeetNoLimit told tells lines available answers faults OutTells → HasRoom given went.start → IsDoneToAFault status
        done_to_a_fault goes free room = by_status (IsDoneToAFault status) (λ is. to_a_fault room goes free (ran_of room.asks taken end) is) (λ is. inl (inr is))

        -- and what is faultless is done
        to_the_end : (fine : IsFaultless given went.start) → RunsMeetNoFault told tells lines available answers faults OutTells → IsOutside stop ⊎ Ran fine.asks → status ≡ status_in stop → IsDoneToAFault status → IsDone status
        to_the_end fine faults_none ran is (inl all) = all
        to_the_end fine faults_none (inl outer) is (inr line) = outside_done outer is
        to_the_end fine faults_none (inr ran) is (inr line) =
            by_kind (ran_status fine.asks t ran)
            (faults_none t k given.held given.known fine.asks.bound (ask_of fine.asks.partitions fine.asks.most fine.asks.rounds) went.start went.now went.disk_faults went.disk_faults_now went.returned went.returned_now went.old went.written went.text ran.end fine.setting fine.faultless ran.over)
          where
            at_4_or_5 : (n : ℕ) → (n ≢ 4) → (n ≢ 5) → status_in stop ≡ n → ⊥
            at_4_or_5 n not_4 not_5 same = elim line [ inl four ↦ not_4 (sym same ∙ sym is ∙ four) | inr five ↦ not_5 (sym same ∙ sym is ∙ five) ]

            by_kind : IsEndStatus ran.end (status_in stop) → IsNoFault ran.end → IsDone status
            by_kind (done same) clean = inl (is ∙ same)
            by_kind (at_fault same no_fault) clean = absurd (no_fault clean)
            by_kind (outside (inl same)) clean = absurd (no_6 (is ∙ same))
            by_kind (outside (inr (inl same))) clean = absurd (no_7 (is ∙ same))
            by_kind (outside (inr (inr same))) clean = absurd (no_8 (is ∙ same))
            by_kind (of_checkpoint same refuses) clean = absurd (at_4_or_5 9 (λ e. absurd (omega (arith, e))) (λ e. absurd (omega (arith, e))) same)
            by_kind (memory same) clean = inr (is ∙ same)
            by_kind (limit same full) clean = absurd (at_4_or_5 11 (λ e. absurd (omega (arith, e))) (λ e. absurd (omega (arith, e))) same)

        pub all_done : RunsGoOn told tells lines available answers faults OutTells → RunsMeetNoLimit told tells lines available answers faults OutTells → RunsMeetNoFault told tells lines available answers faults OutTells → IsFaultless given went.start → IsDone status
        all_done goes free faults_none fine =
            let room : HasRoom given went.start = record { asks = fine.asks; setting = fine.setting; room = fine.faultless.room } in
            by_status (IsDone status) (λ is. to_the_end fine faults_none (ran_of fine.asks taken end) is (done_to_a_fault goes free room)) (λ is. inr is)
