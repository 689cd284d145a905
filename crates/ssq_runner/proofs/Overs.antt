-- A round that has gone: rounds go on after it, or the run is over.
use Rattle.std.proofs.Common.{◌≡◌, ◌<◌, ◌+◌, ◌++◌, ℕ, List, Result, Ok, Err, IfOk, IfErr, OnOk, inr, sym, subst, arith, add-one}
use Rattle.ssq_outside.specs.History.{History, files_now}
use Rattle.ssq_outside.specs.Logs.{Line}
use Rattle.ssq_shape.specs.declared.bound.Bound.{Bound}
use Rattle.ssq_core.specs.Standing.{Stands}
use Rattle.ssq_core.specs.Sound.{StandsOrEmpty}
use Rattle.ssq_course.specs.Setting.{Setting, job_of}
use Rattle.ssq_promise.specs.Run.{RunsAreJoined}
use Rattle.ssq_desk.specs.declared.closed.NextRound.{NextRound}
use Rattle.ssq_desk.specs.declared.told.Told.{Told}
use Rattle.ssq_drive.specs.Rounds.{Ended, HaveIndexes}
use Rattle.ssq_runner.specs.declared.fault.RunFault.{RunFault}
use Rattle.ssq_runner.specs.Between.{HasGone, HaveBegun, IsOver}
use Rattle.ssq_runner.specs.Ending.{Begun, Ends, HaveRun, WasTried}
use Rattle.ssq_runner.specs.Going.{SoFar}
use Rattle.ssq_runner.specs.Putting.{IsUntold}
use Rattle.ssq_runner.specs.Running.{Given, IsRunOf, ran}
use Rattle.ssq_runner.specs.Told.{told_text}
use Rattle.ssq_runner.proofs.Cutting.{CutsHang}
use Rattle.ssq_runner.proofs.Owning.{stands_now}
use Rattle.ssq_runner.proofs.Turning.{turned, ended}

module _ {L : Type 0} (tells : Type 0) (lines : L → List Line) (available : L → ℕ) (answers : L → List ℕ) (faults : L → ℕ) (g : Given L) where
  -- rounds ended, and so the run is over
  pub rounds_over : (b : Begun L) → HaveBegun tells lines available answers faults g b → (now : History) (disk : ℕ) (logs : List L) (OutTells : Type 0) (written text : List ℕ) (end : Result (Unit {0}) RunFault)
      → Ends tells lines available answers faults b now disk logs OutTells written text end → IsOver tells lines available answers faults g now disk logs OutTells written text end
  rounds_over b begun now disk logs OutTells written text end ends = record {
    ends = ran begun.found begun.logs begun.asked b begun.begun ends (λ t s run stands. begun.kept.promised t s run stands now logs ends.plans ends.done ends.told end (have t s run stands));
    stands = λ t s run each. begun.kept.stands t s run each now ends.told (have t s run (stands_now g.start (StandsOrEmpty (job_of s)) each)).run;
    stay = λ t s run each. begun.kept.stay t s run each now ends.told (have t s run (inr (stands_now g.start (Stands (job_of s)) each))).run;
  }
    where
      have : tells → (s : Setting) → IsRunOf lines g s → StandsOrEmpty (job_of s) (files_now g.start) → HaveRun tells lines available answers faults b now ends.plans ends.told (WasTried tells lines available answers faults b logs ends.plans ends.done end)
      have t s run stands = ends.ran t (begun.begun.own t s run stands).1

  module _ (n : ℕ) (now : History) (disk : ℕ) (logs : List L) (OutTells : Type 0) (written : List ℕ) (told : List Told) (end : Ended) (gone : HasGone tells lines available answers faults g n now disk logs OutTells written told end) where
    -- it is over, and one more is
    pub gone_over : CutsHang → RunsAreJoined tells → (next : NextRound) (text : List ℕ) → end ≡ Ok next → (OutTells → text ≡ written ++ told_text told) → SoFar tells lines available answers faults gone.b (n + 1) now disk logs OutTells text next.opened
    gone_over hang joined next text ok wrote =
        subst (λ (m : ℕ). SoFar tells lines available answers faults gone.b m now disk logs OutTells text next.opened) (sym (add-one n))
        (turned tells lines available answers faults hang joined gone.b n gone.before now gone.faults_before disk gone.logs_before logs OutTells written gone.opened gone.found told end gone.ready gone.round gone.back gone.counted next text ok wrote)

    -- and with it come the indexes for the next
    pub gone_indexes : (next : NextRound) → end ≡ Ok next → HaveIndexes g.bound next.opened.stores next.closings.items
    gone_indexes next ok = subst (λ (bound : Bound). HaveIndexes bound next.opened.stores next.closings.items) gone.begun.begun.bound_is (gone.round.went.over next ok).indexes

    -- its lines are not written
    pub gone_untold : CutsHang → RunsAreJoined tells → (written_now text : List ℕ) (why : RunFault) (before after : ℕ) → n < g.rounds → IsUntold OutTells written written_now before after text told end why
        → IsOver tells lines available answers faults g now disk logs OutTells written_now text (Err why)
    gone_untold hang joined written_now text why before after few untold =
        rounds_over gone.b gone.begun now disk logs OutTells written_now text (Err why)
        (ended tells lines available answers faults hang joined gone.b n gone.before now gone.faults_before disk gone.logs_before logs OutTells written gone.opened gone.found told end gone.ready gone.round gone.back gone.counted written_now text why before after
        (let r = gone.begun.begun.rounds_are in omega (arith, few, r)) untold)

-- what is so in any case is so of what came
pub on_any : {A E P : Type 0} (r : Result A E) → P → OnOk r P
on_any (Ok x) p = p
on_any (Err e) p = tt

-- what is so of what came is so of this, which came
pub of_ok : {A E : Type 0} (r : Result A E) (P : A → Type 0) (x : A) → r ≡ Ok x → IfOk r P → P x
of_ok {A} {E} r P x same is = subst (λ (o : Result A E). IfOk o P) same is

pub of_err : {A E : Type 0} (r : Result A E) (P : E → Type 0) (e : E) → r ≡ Err e → IfErr r P → P e
of_err {A} {E} r P e same is = subst (λ (o : Result A E). IfErr o P) same is
