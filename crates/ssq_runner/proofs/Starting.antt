-- How a round that is not the first begins, or does not.
use Rattle.std.proofs.Common.{◌≡◌, ◌<◌, ◌≤◌, ◌+◌, ◌++◌, ◌∙◌, nat_lt, ℕ, zero, suc, Bool, true, false, true≢false, List, [], ◌∷◌, length, get_or, Option, Some, None, Result, Ok, Err, OnOk, IfErr, inl, inr, refl, sym, ap, subst, arith, if◌then◌else◌}
use Rattle.std.proofs.lemmas.List.{append-nil}
use Rattle.std.proofs.lemmas.Bool.{ltb-true}
use Rattle.std.proofs.lemmas.Option.{none-some}
use Rattle.ssq_course.specs.Setting.{cut_of as offsets_of}
use Rattle.ssq_open.specs.Epochs.{cut_of}
use Rattle.ssq_open.specs.Watermarks.{watermarked}
use Rattle.std.specs.List.{sum_by}
use mathlib.Core.Option.{some}
use lib.ListN.{get_elem?}
use Rattle.ssq_outside.specs.History.{History, files_now}
use Rattle.ssq_outside.specs.Logs.{Line}
use Rattle.ssq_plans.specs.declared.part.PartEnd.{PartEnd}
use Rattle.ssq_board.specs.declared.front.Cause.{Cause}
use Rattle.ssq_board.specs.declared.front.Cause.TheVariants as cause
use Rattle.ssq_open.specs.declared.wanted.Opened.{Opened}
use Rattle.ssq_logs.specs.Asked.{AreAsked}
use Rattle.ssq_drive.specs.Rounds.{IsRoundStop}
use Rattle.ssq_drive.proofs.Dueness.{first_of as first_not}
use Rattle.ssq_runner.specs.declared.fault.RunFault.{RunFault}
use Rattle.ssq_runner.specs.declared.fault.RunFault.TheVariants as fault
use Rattle.ssq_runner.specs.Faults.{fault_by}
use Rattle.ssq_runner.specs.Told.{done_line}
use Rattle.ssq_runner.specs.Ending.{Begun, Ends, IsEnd, Owned, WasTried, WereAsked, stopped, finished, starved, uncounted as end_uncounted, cuts_in, is_epoch_fault, is_log_fault, is_open_fault, setting_in}
use Rattle.ssq_runner.specs.Going.{SoFar, IsReady}
use Rattle.ssq_runner.specs.Stops.{short_of, planned_ends, IsUnready, uncounted, short}
use Rattle.ssq_runner.proofs.Answering.{asked_on, begin_on}
use Rattle.ssq_runner.proofs.Cutting.{text_none, never_ok}
use Rattle.ssq_runner.proofs.Readying.{asked_under, asked_at, asked_found, asked_count, can_on, planned_same, ends_each}
use Rattle.ssq_runner.proofs.Turning.{untried}
use Rattle.ssq_runner.proofs.Stopping.{stopped_under, uncounted_is, uncounted_since, uncounted_under}

-- a short part is told by its numbers
abbrev is_short : Cause → Type 0
is_short (cause.LogShort s p logged lines) = lines < logged
is_short _ = ⊥

-- and so the run stops for it
short_fault : (c : Cause) → is_short c → fault_by c None ≡ fault.Round c
short_fault (cause.LogShort s p logged lines) less = refl
short_fault (cause.BadLine s p o f) less = refl
short_fault (cause.Overflow s p o) less = refl
short_fault cause.KeyOverflow less = refl
short_fault cause.LogFault less = refl
short_fault (cause.Damaged q) less = refl
short_fault cause.DiskFault less = refl
short_fault cause.Full less = refl
short_fault cause.NoMemory less = refl

-- which is no fault of an open epoch
short_apart : (c : Cause) → is_short c → is_open_fault (Err (fault.Round c)) ≡ false
short_apart (cause.LogShort s p logged lines) less = refl
short_apart (cause.BadLine s p o f) less = absurd less
short_apart (cause.Overflow s p o) less = absurd less
short_apart cause.KeyOverflow less = absurd less
short_apart cause.LogFault less = absurd less
short_apart (cause.Damaged q) less = absurd less
short_apart cause.DiskFault less = absurd less
short_apart cause.Full less = absurd less
short_apart cause.NoMemory less = absurd less

own_of : Cause → Option Cause → Cause
own_of d None = d
own_of d (Some c) = c

short_by : (b : Bool) (end : PartEnd) (lines : ℕ) (rest : Option Cause) (c : Cause) → nat_lt lines end.end ≡ b → ((d : Cause) → rest ≡ Some d → is_short d) → (if b then Some (cause.LogShort end.stream end.part end.end lines) else rest) ≡ Some c → is_short c
unfolding own_of
short_by true end lines rest c e later is = subst is_short (ap (own_of c) is) (ltb-true lines end.end e)
short_by false end lines rest c e later is = later c is

short_is : (ends : List PartEnd) (found : List ℕ) (c : Cause) → short_of ends found ≡ Some c → is_short c
short_is [] found c is = absurd (none-some c is)
short_is (end ∷ ends) [] c is = absurd (none-some c is)
short_is (end ∷ ends) (lines ∷ found) c is = short_by (nat_lt lines end.end) end lines (short_of ends found) c refl (λ d e. short_is ends found d e) is

-- none is told where each has what is planned of it
long_none : (b : Bool) (end : PartEnd) (lines : ℕ) (rest : Option Cause) (c : Cause) → nat_lt lines end.end ≡ b → end.end ≤ lines → rest ≡ None → (if b then Some c else rest) ≡ None
long_none true end lines rest c e le none = absurd (let less = ltb-true lines end.end e in omega (arith, less, le))
long_none false end lines rest c e le none = none

never_short : (ends : List PartEnd) (found : List ℕ) → ((i : ℕ) → i < length ends → get_or (offsets_of ends) i 0 ≤ get_or found i 0) → short_of ends found ≡ None
never_short [] found long = refl
never_short (end ∷ ends) [] long = refl
never_short (end ∷ ends) (lines ∷ found) long = long_none (nat_lt lines end.end) end lines (short_of ends found) _ refl (long 0 (omega arith)) (never_short ends found (λ i less. long (suc i) (omega (arith, less))))

planned_some : (opened : Opened) (i : ℕ) → i < length (planned_ends opened) → 0 < length opened.plans
planned_some opened i less = by (length opened.plans) refl
  where
    by : (n : ℕ) → length opened.plans ≡ n → 0 < length opened.plans
    by zero e = absurd (let l : length (planned_ends opened) ≡ 0 = ap (λ (m : ℕ). length (cut_of [] opened.plans m)) e in omega (arith, less, l))
    by (suc n) e = omega (arith, e)

-- a log that was asked had no more lines than it answered
asked_old : {L : Type 0} (T U : Type 0) (lines : L → List Line) (available : L → ℕ) (answers : L → List ℕ) (faults : L → ℕ) → (U → T) → (olds news : List L) (found : List ℕ) → AreAsked T lines available answers faults olds news found → U → (i : ℕ) → i < length olds
    → (old : L) × (get_elem? olds i ≡ some old) × (available old ≤ get_or found i 0)
asked_old T U lines available answers faults less (old ∷ olds) (new ∷ news) (n ∷ found) ask u zero at = (old, refl, ask.0.grown (less u))
asked_old T U lines available answers faults less (old ∷ olds) (new ∷ news) (n ∷ found) ask u (suc i) at = asked_old T U lines available answers faults less olds news found ask.2 u i (omega (arith, at))
asked_old T U lines available answers faults less [] news found ask u i at = absurd (omega (arith, at))
asked_old T U lines available answers faults less (old ∷ olds) [] found ask u i at = absurd ask
asked_old T U lines available answers faults less (old ∷ olds) (new ∷ news) [] ask u i at = absurd ask

module _ {L : Type 0} (T U : Type 0) (lines : L → List Line) (available : L → ℕ) (answers : L → List ℕ) (faults : L → ℕ) (less_known : U → T)
    (b : Begun L) (n : ℕ) (now : History) (disk : ℕ) (olds news : List L) (OutTells : Type 0) (written : List ℕ) (opened : Opened) (so : SoFar U lines available answers faults b n now disk olds OutTells written opened) where
  -- the logs were asked once more
  asked_more : 0 < n → (found : List ℕ) (epochs : ℕ) → AreAsked U lines available answers faults olds news found → WereAsked U lines available answers faults b (record { found = found; epochs = epochs } ∷ so.done) news
  asked_more later found epochs ask = record {
    answered = asked_on U lines available answers faults 0 so.done b.logs olds news found [] epochs refl so.asked.answered ask;
    first = begin_on b.seen (record { found = found; epochs = epochs }) so.done (let m = so.number in omega (arith, m, later)) so.asked.first;
  }

  -- the logs were asked, and no part is short
  pub ready_on : 0 < n → (found : List ℕ) → AreAsked T lines available answers faults olds news found → short_of (planned_ends opened) found ≡ None → IsReady U lines available answers faults b n now disk news OutTells written opened found
  ready_on later found ask none =
      let under = asked_under T U lines available answers faults less_known olds news found ask in
      let count = asked_count T lines available answers faults olds news found ask in
      record {
        before = olds;
        so_far = so;
        asked = λ epochs. asked_more later found epochs under;
        can = can_on T lines available answers faults b.bound b.cap olds news opened found so.fits ask none;
        few = (let f = so.fits.few_logs in let c = count.0 in omega (arith, f, c));
        seen = λ u i own at. (let e = asked_at T lines available answers faults olds news found ask (less_known u) i own at in omega (arith, e));
        are = λ u. asked_found T lines available answers faults olds news found ask (less_known u);
      }

  -- nothing was done, and so the run ends
  idle_end : (why : RunFault) (text : List ℕ) → is_open_fault (Err why) ≡ false → IsEnd U lines available answers faults b now disk news OutTells written opened.plans so.done so.told text (Err why) → Ends U lines available answers faults b now disk news OutTells written text (Err why)
  idle_end why text other end = record {
    plans = opened.plans;
    done = so.done;
    told = so.told;
    has = so.has;
    is_end = end;
    good = so.good;
    planned_stays = λ own. absurd (true≢false (sym own ∙ first_not (is_epoch_fault (Err why)) (is_log_fault (Err why)) other));
    uncommitted = λ inside. absurd (true≢false (sym inside ∙ other));
    ran = λ u own. untried U lines available answers faults b now opened.plans so.told (WasTried U lines available answers faults b news opened.plans so.done (Err why)) (so.ran u own).0;
    left = λ ok. absurd (never_ok why ok);
  }

  pub unready_end : 0 < n → (why : RunFault) (text : List ℕ) → n < b.rounds → text ≡ [] → IsUnready T lines available answers faults opened olds news why → Ends U lines available answers faults b now disk news OutTells written text (Err why)
  unready_end later why text few empty (uncounted c is ask) =
      idle_end why text (ap (λ (w : RunFault). is_open_fault (Err w)) is) (end_uncounted (let m = so.number in omega (arith, m, few)) (so.all, so.committed ∙ so.whole later) olds so.asked c
      (uncounted_since U lines available answers faults so.done b.logs olds news c so.asked.answered (uncounted_under T U lines available answers faults less_known olds news c (uncounted_is T lines available answers faults olds news c ask)))
      (stopped_under T U lines available answers faults less_known 0 olds news c ask) so.wrote empty (ap Err is))
  unready_end later why text few empty (short found stop ask is named) =
      idle_end why text (ap (λ (w : RunFault). is_open_fault (Err w)) named ∙ short_apart stop (short_is (planned_ends opened) found stop is)) (stopped (let m = so.number in omega (arith, m, few)) found
      (record {
        next = λ e ge le. absurd (let a = so.all in omega (arith, ge, le, a));
        due = λ e ge le. absurd (let a = so.all in omega (arith, ge, le, a));
        more = λ own e ge le. absurd (let a = so.all in omega (arith, ge, le, a));
      })
      (asked_more later found (length opened.plans) (asked_under T U lines available answers faults less_known olds news found ask)) (record { cause = stop; key = None }) (stop_of stop is ask (short_is (planned_ends opened) found stop is)) so.told [] (sym (append-nil so.told))
      so.wrote (empty ∙ text_none) (ap Err (named ∙ sym (short_fault stop (short_is (planned_ends opened) found stop is)))))
    where
      -- where logs tell what they hold none is short
      never : (c : Cause) → AreAsked T lines available answers faults olds news found → short_of (planned_ends opened) found ≡ Some c → U → ⊥
      never c ask is u = none-some c (sym (never_short (planned_ends opened) found (λ i less. long ask u i less)) ∙ is)
        where
          long : AreAsked T lines available answers faults olds news found → U → (i : ℕ) → i < length (planned_ends opened) → get_or (offsets_of (planned_ends opened)) i 0 ≤ get_or found i 0
          long ask u i less =
              let some_planned : 0 < length opened.plans = planned_some opened i less in
              let same = planned_same opened some_planned in
              let each = ends_each (watermarked b.bound.streams) opened so.fits.numbers (length opened.plans) (omega arith) in
              let at : i < length olds = (let l = so.fits.log_each in let e = ap length same in omega (arith, less, l, e, each)) in
              let old = asked_old T U lines available answers faults less_known olds news found ask u i at in
              (let t = so.there later u i old.0 old.1 in let o = old.2 in let e = ap (λ (ends : List PartEnd). get_or (offsets_of ends) i 0) same in omega (arith, t, o, e))

      stop_of : (c : Cause) → short_of (planned_ends opened) found ≡ Some c → AreAsked T lines available answers faults olds news found → is_short c
          → IsRoundStop U (Owned U lines available answers faults b) (setting_in U lines available answers faults b) (cuts_in b opened.plans) found (length opened.plans) (b.found.committed + length so.told) (files_now now) b.disk_faults disk (sum_by faults news) None c
      stop_of (cause.LogShort s p logged k) is ask less = (less, λ u. never (cause.LogShort s p logged k) ask is u)
      stop_of (cause.BadLine s p o f) is ask less = absurd less
      stop_of (cause.Overflow s p o) is ask less = absurd less
      stop_of cause.KeyOverflow is ask less = absurd less
      stop_of cause.LogFault is ask less = absurd less
      stop_of (cause.Damaged q) is ask less = absurd less
      stop_of cause.DiskFault is ask less = absurd less
      stop_of cause.Full is ask less = absurd less
      stop_of cause.NoMemory is ask less = absurd less

  -- all rounds are over
  pub finish : (end : Result (Unit {0}) RunFault) (before text : List ℕ) → n ≡ b.rounds → 0 < n → before ≡ [] → WereAsked U lines available answers faults b so.done news
      → OnOk end (text ≡ before ++ done_line opened.committed) → IfErr end (λ why. (why ≡ fault.NoMemory) × (text ≡ before)) → Ends U lines available answers faults b now disk news OutTells written text end
  finish (Ok done) before text all some_round empty have said unsaid = record {
    plans = opened.plans;
    done = so.done;
    told = so.told;
    has = so.has;
    is_end = finished (so.number ∙ all) so.all (so.committed ∙ so.whole some_round) have so.wrote (said ∙ ap (λ (l : List ℕ). l ++ done_line opened.committed) empty ∙ ap done_line (so.whole some_round)) refl;
    good = so.good;
    planned_stays = λ own. absurd (true≢false (sym own));
    uncommitted = λ inside. absurd (true≢false (sym inside));
    ran = λ u own. untried U lines available answers faults b now opened.plans so.told (WasTried U lines available answers faults b news opened.plans so.done (Ok done)) (so.ran u own).0;
    left = λ ok u own.
        let ran = so.ran u own in
        record { opened = opened; meta_is = so.meta_is; plans_are = refl; committed = so.whole some_round; settled = ran.1; found_is = ran.2; kept = so.kept some_round u own };
  }
  finish (Err why) before text all some_round empty have said unsaid =
      idle_end why text (ap (λ (w : RunFault). is_open_fault (Err w)) unsaid.0) (starved (let m = so.number in omega (arith, m, all)) so.done (inl refl) have so.told [] [] (sym (append-nil so.told)) so.wrote (unsaid.1 ∙ empty ∙ text_none) (ap Err unsaid.0))

-- The logs were asked for the next round, and memory ran out before it began.
pub starve : {L : Type 0} (tells : Type 0) (lines : L → List Line) (available : L → ℕ) (answers : L → List ℕ) (faults : L → ℕ) (b : Begun L) (n : ℕ) (now : History) (disk : ℕ) (logs : List L) (OutTells : Type 0) (written : List ℕ) (opened : Opened) (found text : List ℕ)
    → IsReady tells lines available answers faults b n now disk logs OutTells written opened found → n ≤ b.rounds → text ≡ [] → Ends tells lines available answers faults b now disk logs OutTells written text (Err fault.NoMemory)
starve tells lines available answers faults b n now disk logs OutTells written opened found text ready le empty =
    let so = ready.so_far in
    record {
      plans = opened.plans;
      done = so.done;
      told = so.told;
      has = so.has;
      is_end = starved (let m = so.number in omega (arith, m, le)) (record { found = found; epochs = length opened.plans } ∷ so.done)
          (inr (
            found,
            record {
              next = λ e ge less. absurd (let a = so.all in omega (arith, ge, less, a));
              due = λ e ge less. absurd (let a = so.all in omega (arith, ge, less, a));
              more = λ own e ge less. absurd (let a = so.all in omega (arith, ge, less, a));
            },
            refl,
          ))
          (ready.asked (length opened.plans)) so.told [] [] (sym (append-nil so.told)) so.wrote (empty ∙ text_none) refl;
      good = so.good;
      planned_stays = λ own. absurd (true≢false (sym own));
      uncommitted = λ inside. absurd (true≢false (sym inside));
      ran = λ t own. untried tells lines available answers faults b now opened.plans so.told (WasTried tells lines available answers faults b logs opened.plans so.done (Err fault.NoMemory)) (so.ran t own).0;
      left = λ ok. absurd (never_ok fault.NoMemory ok);
    }
