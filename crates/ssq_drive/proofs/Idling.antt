-- A round for which there was no memory, and the logs that come back.
use Rattle.std.proofs.Common.{◌≡◌, ◌+◌, ◌∙◌, ℕ, true≢false, List, [], ◌∷◌, length, None, Ok, Err, refl, sym, ap, subst, inl, inr, arith}
use Rattle.std.specs.List.{AllZip}
use Rattle.std.proofs.lemmas.List.{append-nil}
use Rattle.std.proofs.lemmas.List.Elements.{All-nil}
use Rattle.ssq_outside.specs.History.{History, LeavesNow, files_now}
use Rattle.ssq_outside.specs.Logs.{Line}
use Rattle.ssq_feed.specs.Causes.{LogWent}
use Rattle.ssq_core.specs.Course.{Cuts}
use Rattle.ssq_course.specs.Setting.{Setting, job_of}
use Rattle.ssq_open.specs.declared.wanted.Opened.{Opened}
use Rattle.ssq_open.specs.Epochs.{cut_of}
use Rattle.ssq_board.specs.declared.front.Cause.TheVariants as cause
use Rattle.ssq_board.specs.Core.{Scope, is_of_epoch}
use Rattle.ssq_promise.specs.Run.{AreTrueTo, NothingIsRun, OpenedIsTrue, as_planned}
use Rattle.ssq_desk.specs.declared.closed.NextRound.{NextRound}
use Rattle.ssq_desk.specs.declared.told.Told.{Told}
use Rattle.ssq_drive.specs.Good.{HasGoodLines}
use Rattle.ssq_drive.specs.declared.round.Stopped.{Stopped}
use Rattle.ssq_drive.specs.Rounds.{Ended, IsOwn, IsRound, IsRoundStop, IsMeant, CanBegin, AreReturned, first_of}

-- memory ran out
abbrev pub starved : Stopped
starved = record { cause = cause.NoMemory; key = None }

abbrev why_or : Stopped → Ended → Stopped
why_or d (Ok x) = d
why_or d (Err e) = e

no_log : cause.NoMemory ≡ cause.LogFault → ⊥
no_log is = cc

pub err_ok : (why : Stopped) (next : NextRound) → Err why ≡ Ok next → ⊥
err_ok why next is = cc

-- nothing was planned, done or told
pub idle : (tells : Type 0) (nothing : NothingIsRun tells) (at_rest : OpenedIsTrue) (s : Setting) (n : ℕ) (r : Scope) (found : Opened) (h : History) (disk logs : ℕ) → CanBegin s.job.bound n found r
    → IsRound tells s n r found h h disk disk logs [] (Err starved)
idle tells nothing at_rest s n r found h disk logs can = record {
  plans = found.plans;
  went = record {
    on = record { more = []; behind = sym (append-nil found.plans); next = λ e from less. absurd (omega (arith, from, less)); due = λ e from less. absurd (omega (arith, from, less)) };
    told_are = tt;
    good = λ t. All-nil (λ (told : Told). HasGoodLines s (cut_of (first_of found) found.plans) told.epoch);
    few = (let b = can.numbers.before in omega (arith, b));
    near = (let n = can.numbers.near in omega (arith, n));
    over = λ next ends. absurd (err_ok starved next ends);
    stopped = λ why stops.
        subst (λ (w : Stopped). IsRoundStop tells (tells × IsOwn s r h found) s (cut_of (first_of found) found.plans) r.available (length found.plans) (found.committed + 0) (files_now h) disk disk logs w.key w.cause) (ap (why_or starved) stops) tt;
    keyless = λ why stops other. ap (λ (w : Stopped). w.key) (sym (ap (why_or starved) stops));
  };
  ran = λ t own. record {
    run = nothing (job_of s) h;
    files = as_planned
        (subst (λ (planned : ℕ). LeavesNow h (AreTrueTo ((job_of s).course (cut_of (first_of found) found.plans)) planned)) own.found_is.planned
        (subst (λ (cuts : Cuts). LeavesNow h (AreTrueTo ((job_of s).course cuts) own.found_is.desk.planned)) own.found_is.cuts (at_rest (job_of s) h own.found_is.desk own.settled own.found_is.is)));
    due = λ e from less. absurd (omega (arith, from, less));
    meant = All-nil (IsMeant s (cut_of (first_of found) found.plans));
    planned_stays = λ why stops own. absurd (true≢false (sym own ∙ ap (λ (w : Stopped). is_of_epoch w.cause) (sym (ap (why_or starved) stops))));
    uncommitted = λ why stops inside. absurd (elim inside [
      | inl own ↦ true≢false (sym own ∙ ap (λ (w : Stopped). is_of_epoch w.cause) (sym (ap (why_or starved) stops)))
      | inr log ↦ no_log (ap (λ (w : Stopped). w.cause) (ap (why_or starved) stops) ∙ log)
    ]);
    settled = λ next ends. absurd (err_ok starved next ends);
    found = λ next ends. absurd (err_ok starved next ends);
    kept = λ next ends. absurd (err_ok starved next ends);
    quiet = λ next ends. absurd (err_ok starved next ends);
  };
}

module _ {L : Type 0} (tells : Type 0) (lines : L → List Line) (available : L → ℕ) (answers : L → List ℕ) (faults : L → ℕ) where
  -- logs that nobody read
  pub same_back : (logs : List L) → AreReturned tells lines available answers faults logs logs
  same_back [] = tt
  same_back (log ∷ logs) = (record { same = λ t. refl; grown = λ t. omega arith; unasked = λ t. refl; counted = omega arith }, same_back logs)

  -- and logs that were read
  pub read_back : (logs news : List L) → AllZip (LogWent tells lines available answers faults) logs news → AreReturned tells lines available answers faults logs news
  read_back [] [] went = tt
  read_back [] (new ∷ news) went = absurd went
  read_back (log ∷ logs) [] went = absurd went
  read_back (log ∷ logs) (new ∷ news) went = (record { same = went.0.same; grown = went.0.grown; unasked = went.0.unasked; counted = went.0.counted }, read_back logs news went.1)
