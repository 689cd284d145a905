-- A round that is over leads from one moment between rounds to the next.
use Rattle.std.proofs.Common.{◌≡◌, ◌<◌, ◌≤◌, ◌+◌, ◌++◌, ◌∙◌, ℕ, suc, Bool, true, false, true≢false, List, [], ◌∷◌, length, map, take, All, Option, Some, None, Ok, Err, inl, inr, refl, sym, ap, subst, arith, append_assoc}
use Rattle.std.proofs.lemmas.List.{length-append}
use Rattle.std.proofs.lemmas.List.Elements.{All-nil, All-cons, All-head, All-tail, All-append}
use Rattle.std.specs.List.{sum_by}
use Rattle.std.specs.Prelude.{◌⊎◌, IsSomeAnd}
use Rattle.ssq_outside.specs.Files.{Files}
use Rattle.ssq_outside.specs.declared.name.Name.TheVariants as name
use Rattle.ssq_outside.specs.History.{History, LeavesNow, files_now}
use Rattle.ssq_outside.specs.Logs.{Line}
use Rattle.ssq_plans.specs.declared.plan.Plan.{Plan}
use Rattle.ssq_core.specs.Course.{Ends as EndsOf, Cuts, Job}
use Rattle.ssq_core.specs.Settled.{IsSettledAs}
use Rattle.ssq_core.specs.Standing.{IsThere}
use Rattle.ssq_course.specs.Setting.{Setting, parts_in, closes, keeping_of, cut_of as offsets_of, cuts_of as offsets, job_of}
use Rattle.ssq_meaning.specs.Epochs.{fault_between}
use Rattle.ssq_shape.specs.declared.bound.Bound.{Bound}
use Rattle.ssq_open.specs.declared.wanted.Opened.{Opened}
use Rattle.ssq_open.specs.Epochs.{cut_of}
use Rattle.ssq_terms.specs.Setting.{AreFound}
use Rattle.ssq_terms.specs.Laws.{due_at}
use Rattle.ssq_promise.specs.Run.{AreFilesOf, CallFailed, RunsAreJoined, WasRun, as_planned, one_tried}
use Rattle.ssq_board.specs.declared.front.Cause.{Cause}
use Rattle.ssq_board.specs.declared.front.Cause.TheVariants as cause
use Rattle.ssq_meaning.specs.Feeding.{LineAt}
use Rattle.ssq_meaning.specs.Meaning.{Values}
use Rattle.ssq_board.specs.Core.{next_ends, is_behind, is_of_epoch}
use Rattle.ssq_board.specs.Rounds.{HasCap}
use Rattle.ssq_open.specs.Looking.{begins}
use Rattle.ssq_plans.specs.declared.meta.Meta.{Meta}
use Rattle.ssq_board.proofs.Leasts.{some_is as same_cause}
use Rattle.ssq_desk.specs.declared.closed.NextRound.{NextRound}
use Rattle.ssq_desk.specs.declared.told.Told.{Told}
use Rattle.ssq_drive.specs.Damaged.{IsDamagedIn}
use Rattle.ssq_drive.specs.Good.{HasGoodLines}
use Rattle.ssq_drive.specs.declared.round.Stopped.{Stopped}
use Rattle.ssq_drive.specs.Rounds.{IsRound, RoundRan, Ended, IsOwn, IsFoundOf, IsMeant, IsMore, CanBegin, AreReturned, PlansOn, AreTold, IsRoundStop, IsFaultAt, IsKeyAt, IsOfOpen, StoppedAtCall, setting_for, first_of}
use Rattle.ssq_desk.specs.Contents.{line_of}
use Rattle.ssq_drive.proofs.Making.{risen_from}
use Rattle.ssq_runner.specs.Lens.{lens_of}
use Rattle.ssq_runner.specs.Rounds.{Round, AreNext, AreRounds, HaveAnswered, IsOne, epochs_after}
use Rattle.ssq_runner.specs.Told.{told_text}
use Rattle.ssq_runner.specs.declared.fault.RunFault.{RunFault}
use Rattle.ssq_runner.specs.Faults.{fault_by}
use Rattle.ssq_runner.specs.Putting.{IsUntold, stopped as untold_stopped, failed, starved as untold_starved}
use Rattle.ssq_runner.specs.Ending.{Begun, HasRounds, IsOwnRun, Owned, HaveRun, Ends, IsEnd, AreGood, WasTried, WereAsked, stopped, unput, starved, cuts_in, is_call_fault, is_epoch_fault, is_open_fault, none_tried, setting_in}
use Rattle.ssq_runner.specs.Going.{SoFar, IsReady, Fits, scope_of}
use Rattle.ssq_runner.proofs.Cutting.{CutsHang, cut_more, rounds_same, told_more, told_then, text_then, never_ok}
use Rattle.ssq_runner.proofs.Answering.{back_after, same_lines, returned_count, returned_at}

-- what is told of epochs among the first has the same rows, however the later ones are cut
pub rows_more : CutsHang → (s : Setting) (one other : Cuts) (n e : ℕ) (first : EndsOf) (plans : List Plan) (told : List Told) → ((f : ℕ) → f ≤ n → other f ≡ one f) → AreTold first plans e told → e + length told ≤ n
    → All (IsMeant s one) told → All (IsMeant s other) told
rows_more hang s one other n e first plans [] same are le rows = All-nil (IsMeant s other)
rows_more hang s one other n e first plans (t ∷ rest) same are le rows =
    let here : t.epoch < n = let at = are.0.epoch in omega (arith, at, le) in
    let law = hang s.job.bound (parts_in s) (offsets one) (offsets other) n (λ f below. ap offsets_of (sym (same f below))) in
    let own = All-head (IsMeant s one) t rest rows in
    All-cons (IsMeant s other) t rest (record { faultless = sym (law.same_fault t.epoch here) ∙ own.faultless; watermark = own.watermark ∙ law.same_watermark t.epoch (omega (arith, here)); rows = own.rows ∙ ap length (law.same_out t.epoch here) })
    (rows_more hang s one other n (e + 1) first plans rest same are.1 (omega (arith, le)) (All-tail (IsMeant s one) t rest rows))

-- and none of their lines is a fault
good_more : (s : Setting) (one other : Cuts) (n e : ℕ) (first : EndsOf) (plans : List Plan) (told : List Told) → ((f : ℕ) → f ≤ n → other f ≡ one f) → AreTold first plans e told → e + length told ≤ n
    → All (λ (t : Told). HasGoodLines s one t.epoch) told → All (λ (t : Told). HasGoodLines s other t.epoch) told
good_more s one other n e first plans [] same are le good = All-nil (λ (t : Told). HasGoodLines s other t.epoch)
good_more s one other n e first plans (t ∷ rest) same are le good =
    let here : t.epoch < n = let at = are.0.epoch in omega (arith, at, le) in
    All-cons (λ (t : Told). HasGoodLines s other t.epoch) t rest
    (ap (λ (ends : EndsOf). fault_between s.job.bound (parts_in s) (offsets_of ends) (offsets_of (other (t.epoch + 1)))) (same t.epoch (omega (arith, here)))
    ∙ ap (λ (ends : EndsOf). fault_between s.job.bound (parts_in s) (offsets_of (one t.epoch)) (offsets_of ends)) (same (t.epoch + 1) (omega (arith, here))) ∙ All-head (λ (t : Told). HasGoodLines s one t.epoch) t rest good)
    (good_more s one other n (e + 1) first plans rest same are.1 (omega (arith, le)) (All-tail (λ (t : Told). HasGoodLines s one t.epoch) t rest good))

-- one plan more was tried by lines that were found so, too, and all are told of these epochs, too
files_once : (job : Job) (cap : Option ℕ) (due : Cuts → ℕ → Bool) (One Other : List ℕ → Type 0) (Done All : Type 0) (cuts : Cuts) (planned : ℕ) (now : History) → (Done → All) → (Done → (found : List ℕ) → One found → Other found)
    → AreFilesOf job cap due One Done cuts planned now → AreFilesOf job cap due Other All cuts planned now
files_once job cap due One Other Done All cuts planned now all more (as_planned each) = as_planned each
files_once job cap due One Other Done All cuts planned now all more (one_tried done found is behind each) = one_tried (all done) found (more done found is) behind each

-- the epochs that are told
abbrev pub epochs_of : List Told → List ℕ
epochs_of told = map (λ (t : Told). t.epoch) told

pub epochs_then : (told more : List Told) → epochs_of (told ++ more) ≡ epochs_of told ++ epochs_of more
epochs_then [] more = refl
epochs_then (t ∷ rest) more = ap (λ (l : List ℕ). t.epoch ∷ l) (epochs_then rest more)

module _ {L : Type 0} (tells : Type 0) (lines : L → List Line) (available : L → ℕ) (answers : L → List ℕ) (faults : L → ℕ) where
  -- the setting of a round is that of the run, where logs tell what they hold
  pub same_setting : (b : Begun L) (done : List Round) (logs : List L) (opened : Opened) → opened.meta ≡ b.found.meta → HaveAnswered tells lines available answers faults 0 done b.logs logs → tells
      → setting_for lines b.bound opened logs ≡ setting_in tells lines available answers faults b
  same_setting b done logs opened meta have t = λ i. record {
    job = record { bound = b.bound; partitions = (meta i).partitions; parts = (meta i).parts };
    lines = same_lines tells lines available answers faults 0 done b.logs logs have t i;
  }

  -- the plans of a round go on from those of the rounds before
  pub going_on : CutsHang → (b : Begun L) (opened : Opened) (done : List Round) (told more_told : List Told) (found : List ℕ) (plans : List Plan)
      → HasRounds (Owned tells lines available answers faults b) (setting_in tells lines available answers faults b) b opened.plans done told → opened.meta ≡ b.found.meta
      → epochs_after (length b.found.plans) done ≡ length opened.plans → b.found.committed + length told ≡ opened.committed
      → PlansOn (closes b.bound) (first_of opened) b.cap found opened.plans plans → AreTold (first_of opened) plans opened.committed more_told → opened.committed + length more_told ≤ length plans → length plans ≤ opened.committed + length more_told + 1
      → (Owned tells lines available answers faults b → (e : ℕ) → length opened.plans ≤ e → e < length plans → IsMore (setting_in tells lines available answers faults b) (cuts_in b plans) found e)
      → HasRounds (Owned tells lines available answers faults b) (setting_in tells lines available answers faults b) b plans done (told ++ more_told)
      × AreNext (Owned tells lines available answers faults b) (setting_in tells lines available answers faults b) b.cap found (cuts_in b plans) (epochs_after (length b.found.plans) done) (length plans)
  going_on hang b opened done told more_told found plans has meta all committed on are few near more =
      let first : first_of opened ≡ first_of b.found = ap (λ (m : Meta). begins m.parts) meta in
      let grown : length plans ≡ length opened.plans + length on.more = ap length on.behind ∙ length-append opened.plans on.more in
      let same : (e : ℕ) → e ≤ length opened.plans → cuts_in b plans e ≡ cuts_in b opened.plans e = λ e le. ap (λ (ps : List Plan). cut_of (first_of b.found) ps e) on.behind ∙ cut_more (first_of b.found) opened.plans on.more e le in (
        record {
          more = has.more ++ on.more;
          keeps = on.behind ∙ ap (λ (ps : List Plan). ps ++ on.more) has.keeps ∙ append_assoc b.found.plans has.more on.more;
          are = rounds_same hang (Owned tells lines available answers faults b) (setting_in tells lines available answers faults b) b.cap (cuts_in b opened.plans) (cuts_in b plans) (length b.found.plans) done (length opened.plans) same has.within has.are;
          within = (let w = has.within in omega (arith, w, grown));
          told_are = told_then (first_of b.found) plans b.found.committed told more_told
              (subst (λ (ps : List Plan). AreTold (first_of b.found) ps b.found.committed told) (sym on.behind) (told_more (first_of b.found) opened.plans on.more b.found.committed told has.few has.told_are))
              (subst (λ (n : ℕ). AreTold (first_of b.found) plans n more_told) (sym committed) (subst (λ (ends : EndsOf). AreTold ends plans opened.committed more_told) first are));
          few = subst (λ (n : ℕ). b.found.committed + n ≤ length plans) (sym (length-append told more_told)) (omega (arith, few, committed));
          near = (let e = length-append told more_told in omega (arith, near, committed, e));
          whole = λ some. (let e = length-append told more_told in let w = has.whole some in omega (arith, w, e));
        },
        record {
          next = λ e ge less. subst (λ (ends : EndsOf). cut_of ends plans (e + 1) ≡ next_ends b.cap (cut_of ends plans e) found) first (on.next e (subst (λ (n : ℕ). n ≤ e) all ge) less);
          due = λ e ge less. elim (on.due e (subst (λ (n : ℕ). n ≤ e) all ge) less) [
            | inl behind ↦ inl (subst (λ (ends : EndsOf). is_behind (cut_of ends plans e) found ≡ true) first behind)
            | inr last ↦ inr last
          ];
          more = λ own e ge less. more own e (subst (λ (n : ℕ). n ≤ e) all ge) less;
        },
      )

  -- so was what rounds did, where one plan more was tried by lines that were found so
  pub tried_so : (b : Begun L) (now : History) (plans : List Plan) (told : List Told) (One Other : List ℕ → Type 0) → ((found : List ℕ) → One found → Other found) → HaveRun tells lines available answers faults b now plans told One
      → HaveRun tells lines available answers faults b now plans told Other
  tried_so b now plans told One Other more have =
      let s = setting_in tells lines available answers faults b in
      record {
        run = have.run;
        files = files_once (job_of s) b.cap (due_at s) One Other (b.found.committed + length told ≡ length plans) (b.found.committed + length told ≡ length plans) (cuts_in b plans) (length plans) now (λ all. all) (λ all found. more found) have.files;
        meant = have.meant;
      }

  -- by none, and so by any
  pub untried : (b : Begun L) (now : History) (plans : List Plan) (told : List Told) (Other : List ℕ → Type 0) → HaveRun tells lines available answers faults b now plans told none_tried → HaveRun tells lines available answers faults b now plans told Other
  untried b now plans told Other = tried_so b now plans told none_tried Other (λ found none. absurd none)

  -- what a round did goes on from what those before it did
  pub running_on : CutsHang → RunsAreJoined tells → (b : Begun L) (start now : History) (opened : Opened) (done : List Round) (told more_told : List Told) (found : List ℕ) (plans more : List Plan) (end : Ended)
      → plans ≡ opened.plans ++ more → b.found.committed + length told ≡ opened.committed
      → HasRounds (Owned tells lines available answers faults b) (setting_in tells lines available answers faults b) b opened.plans done told → HaveRun tells lines available answers faults b start opened.plans told none_tried
      → RoundRan tells (setting_in tells lines available answers faults b) (scope_of opened found b.cap) start now (cuts_in b plans) (length opened.plans) opened.committed (length plans) more_told end
      → HaveRun tells lines available answers faults b now plans (told ++ more_told) (λ lines. (lines ≡ found) × StoppedAtCall end)
  running_on hang joined b start now opened done told more_told found plans more end behind committed has have ran =
      let s = setting_in tells lines available answers faults b in
      record {
        run = subst (WasRun tells (job_of s) b.start now) (sym (epochs_then told more_told)) (joined (job_of s) b.start start now (epochs_of told) (epochs_of more_told) have.run ran.run);
        files = files_once (job_of s) b.cap (due_at s) (λ lines. lines ≡ found) (λ lines. (lines ≡ found) × StoppedAtCall end) ((opened.committed + length more_told ≡ length plans) × StoppedAtCall end) (b.found.committed + length (told ++ more_told) ≡ length plans) (cuts_in b plans) (length plans) now
            (λ done. (let all = done.0 in let e = length-append told more_told in omega (arith, all, e, committed))) (λ done lines same. (same, done.1)) ran.files;
        meant = All-append (IsMeant s (cuts_in b plans)) told more_told
            (rows_more hang s (cuts_in b opened.plans) (cuts_in b plans) (length opened.plans) b.found.committed (first_of b.found) opened.plans told
            (λ f le. ap (λ (ps : List Plan). cut_of (first_of b.found) ps f) behind ∙ cut_more (first_of b.found) opened.plans more f le) has.told_are has.few have.meant) ran.meant;
      }

  -- what was found is the job's own for this round, too
  pub own_round : (b : Begun L) (found : List ℕ) (now : History) (opened : Opened) → opened.meta ≡ b.found.meta → HasCap b.cap → AreFound found (map lines b.logs) → IsOwnRun tells lines available answers faults b
      → IsSettledAs now (files_now now) → IsFoundOf (setting_in tells lines available answers faults b) (files_now now) opened
      → IsOwn (setting_in tells lines available answers faults b) (scope_of opened found b.cap) now opened
  own_round b found now opened meta cap are own settled is =
      let lens = lens_of b.found.meta.parts found in
      let fits = own.settings found are in
      record {
        asks = own.asks;
        lens = lens;
        setting = fits.0;
        scope = record { partitions = ap (λ (m : Meta). m.partitions) meta; available = sym fits.1; cap = cap };
        lines = subst (λ (l : List ℕ). AreFound l (map lines b.logs)) (sym fits.1) are;
        settled = settled;
        found_is = is;
      }

fault_moved : (s t : Setting) (cuts others : Cuts) (e f : ℕ) (at : Option LineAt) → s ≡ t → cuts ≡ others → e ≡ f → IsFaultAt s cuts e at → IsFaultAt t others f at
fault_moved s t cuts others e f at same cut here is = subst (λ (x : Setting). IsFaultAt x others f at) same (subst (λ (c : Cuts). IsFaultAt s c f at) cut (subst (λ (n : ℕ). IsFaultAt s cuts n at) here is))

key_moved : (one other : Type 0) (s t : Setting) (cuts others : Cuts) (e f : ℕ) (key : Option Values) → (other → s ≡ t) → (other → one) → cuts ≡ others → e ≡ f → IsSomeAnd key (λ own. one → IsKeyAt s cuts e own)
    → IsSomeAnd key (λ own. other → IsKeyAt t others f own)
key_moved one other s t cuts others e f None same own cut here is = absurd is
key_moved one other s t cuts others e f (Some key) same own cut here is =
    λ o. subst (λ (x : Setting). IsKeyAt x others f key) (same o) (subst (λ (c : Cuts). IsKeyAt s c f key) cut (subst (λ (n : ℕ). IsKeyAt s cuts n key) here (is (own o))))

more_by : (s t : Setting) (cuts others : Cuts) (found : List ℕ) (e : ℕ) → s ≡ t → cuts ≡ others → IsMore s cuts found e → IsMore t others found e
more_by s t cuts others found e same cut is = subst (λ (x : Setting). IsMore x others found e) same (subst (λ (c : Cuts). IsMore s c found e) cut is)

-- why a round stopped, said of the run
pub stop_moved : (tells one other : Type 0) (s t : Setting) (cuts others : Cuts) (found : List ℕ) (planned e f : ℕ) (files : Files) (first disk disk_now logs : ℕ) (key : Option Values) (cause : Cause) → (tells → s ≡ t) → s.job.bound ≡ t.job.bound
    → (other → tells) → (other → one) → cuts ≡ others → e ≡ f → first ≤ disk
    → IsRoundStop tells one s cuts found planned e files disk disk_now logs key cause → IsRoundStop tells other t others found planned f files first disk_now logs key cause
stop_moved tells one other s t cuts others found planned e f files first disk disk_now logs key (cause.BadLine a b o r) same query known own cut at le is =
    (subst (λ (n : ℕ). n < planned) at is.0, λ told. fault_moved s t cuts others e f (line_of (cause.BadLine a b o r)) (same told) cut at (is.1 told))
stop_moved tells one other s t cuts others found planned e f files first disk disk_now logs key (cause.Overflow a b o) same query known own cut at le is =
    (subst (λ (n : ℕ). n < planned) at is.0, λ told. fault_moved s t cuts others e f (line_of (cause.Overflow a b o)) (same told) cut at (is.1 told))
stop_moved tells one other s t cuts others found planned e f files first disk disk_now logs key cause.KeyOverflow same query known own cut at le is =
    (subst (λ (n : ℕ). n < planned) at is.0, key_moved one other s t cuts others e f key (λ o. same (known o)) own cut at is.1)
stop_moved tells one other s t cuts others found planned e f files first disk disk_now logs key cause.LogFault same query known own cut at le is = (subst (λ (n : ℕ). n < planned) at is.0, is.1)
stop_moved tells one other s t cuts others found planned e f files first disk disk_now logs key (cause.LogShort a b m k) same query known own cut at le is = is
stop_moved tells one other s t cuts others found planned e f files first disk disk_now logs key (cause.Damaged q) same query known own cut at le is =
    ((λ o. is.0 (own o)), λ told. subst (λ (x : Setting). IsDamagedIn (keeping_of x.job.bound.shape x.job.partitions) f files q) (same told) (subst (λ (n : ℕ). IsDamagedIn (keeping_of s.job.bound.shape s.job.partitions) n files q) at (is.1 told)))
stop_moved tells one other s t cuts others found planned e f files first disk disk_now logs key cause.DiskFault same query known own cut at le is = risen_from first disk disk_now le is
stop_moved tells one other s t cuts others found planned e f files first disk disk_now logs key cause.Full same query known own cut at le is =
    (is.0, full_by is.1, (λ o. more_by s t cuts others found planned (same (known o)) cut (is.2 (own o))), sym at ∙ is.3)
  where
    full_by : (is_behind (cuts planned) found ≡ true) ⊎ (closes s.job.bound ≡ true) → (is_behind (others planned) found ≡ true) ⊎ (closes t.job.bound ≡ true)
    full_by (inl behind) = inl (subst (λ (c : Cuts). is_behind (c planned) found ≡ true) cut behind)
    full_by (inr closing) = inr (subst (λ (query : Bound). closes query ≡ true) query closing)
stop_moved tells one other s t cuts others found planned e f files first disk disk_now logs key cause.NoMemory same query known own cut at le is = tt

ok_err : (next : NextRound) (why : Stopped) → Ok next ≡ Err why → ⊥
ok_err next why is = cc

abbrev why_or : Stopped → Ended → Stopped
why_or d (Ok next) = d
why_or d (Err why) = why

-- a fault of a round is one of an epoch where its cause is
epoch_fault_by : (why : Cause) (key : Option Values) → is_epoch_fault (Err (fault_by why key)) ≡ is_of_epoch why
epoch_fault_by (cause.BadLine a b o r) key = refl
epoch_fault_by (cause.Overflow a b o) key = refl
epoch_fault_by cause.KeyOverflow None = refl
epoch_fault_by cause.KeyOverflow (Some key) = refl
epoch_fault_by cause.LogFault key = refl
epoch_fault_by (cause.LogShort a b m k) key = refl
epoch_fault_by (cause.Damaged q) key = refl
epoch_fault_by cause.DiskFault key = refl
epoch_fault_by cause.Full key = refl
epoch_fault_by cause.NoMemory key = refl

-- a fault of a round is one of an open epoch where its cause is
open_fault_by : (why : Cause) (key : Option Values) → is_open_fault (Err (fault_by why key)) ≡ true → IsOfOpen why
open_fault_by (cause.BadLine a b o r) key is = inl refl
open_fault_by (cause.Overflow a b o) key is = inl refl
open_fault_by cause.KeyOverflow key is = inl refl
open_fault_by cause.LogFault key is = inr refl
open_fault_by (cause.LogShort a b m k) key is = absurd (true≢false (sym is))
open_fault_by (cause.Damaged q) key is = absurd (true≢false (sym is))
open_fault_by cause.DiskFault key is = absurd (true≢false (sym is))
open_fault_by cause.Full key is = absurd (true≢false (sym is))
open_fault_by cause.NoMemory key is = absurd (true≢false (sym is))

-- and a failed call where its cause is
call_fault_by : (why : Cause) (key : Option Values) → CallFailed (Some why) → is_call_fault (Err (fault_by why key)) ≡ true
call_fault_by why key (inl disk) = ap (λ (c : Cause). is_call_fault (Err (fault_by c key))) (same_cause why cause.DiskFault disk)
call_fault_by why key (inr memory) = ap (λ (c : Cause). is_call_fault (Err (fault_by c key))) (same_cause why cause.NoMemory memory)

-- a round that is over did not stop
ok_stopped : {A : Type 0} {end : Ended} (next : NextRound) → end ≡ Ok next → StoppedAtCall end → A
ok_stopped next ok at_call = absurd (ok_err next at_call.0 (sym ok ∙ at_call.1))

-- what can begin again over the logs that came back can be run on
pub fits_over : {L : Type 0} (tells : Type 0) (lines : L → List Line) (available : L → ℕ) (answers : L → List ℕ) (faults : L → ℕ) (bound : Bound) (cap : Option ℕ) (logs news : List L) (found : List ℕ) (of next : Opened)
    → length logs ≤ 128 → AreReturned tells lines available answers faults logs news → CanBegin bound (length logs) next (scope_of of found cap) → Fits bound cap (length news) next
fits_over tells lines available answers faults bound cap logs news found of next few back can = record {
  runs = can.runs;
  some_partitions = can.some_partitions;
  few_partitions = can.few_partitions;
  streams = can.streams;
  few_streams = can.few_streams;
  log_each = returned_count tells lines available answers faults logs news back ∙ can.log_each;
  few_logs = subst (λ (n : ℕ). n ≤ 128) (sym (returned_count tells lines available answers faults logs news back)) few;
  has_cap = can.cap;
  numbers = can.numbers;
  stores = can.stores;
}

module _ {L : Type 0} (tells : Type 0) (lines : L → List Line) (available : L → ℕ) (answers : L → List ℕ) (faults : L → ℕ)
    (hang : CutsHang) (joined : RunsAreJoined tells)
    (b : Begun L) (n : ℕ) (start now : History) (disk disk_now : ℕ) (logs news : List L) (OutTells : Type 0) (written : List ℕ) (opened : Opened) (found : List ℕ) (told : List Told) (end : Ended)
    (ready : IsReady tells lines available answers faults b n start disk logs OutTells written opened found)
    (round : IsRound tells (setting_for lines b.bound opened logs) (length logs) (scope_of opened found b.cap) opened start now disk disk_now (sum_by faults news) told end)
    (back : AreReturned tells lines available answers faults logs news) (counted : disk ≤ disk_now) where
  abbrev pub so : SoFar tells lines available answers faults b n start disk ready.before OutTells written opened
  so = ready.so_far

  found_of : tells → IsOwnRun tells lines available answers faults b → AreFound found (map lines b.logs)
  found_of t own =
      let same : map lines logs ≡ map lines b.logs = same_lines tells lines available answers faults 0 (record { found = found; epochs = 0 } ∷ ready.so_far.done) b.logs logs (ready.asked 0).answered t in
      subst (AreFound found) same (ready.are t)

  abbrev pub all_told : List Told
  all_told = so.told ++ told

  same_s : tells → setting_for lines b.bound opened logs ≡ setting_in tells lines available answers faults b
  same_s t = same_setting tells lines available answers faults b (record { found = found; epochs = 0 } ∷ so.done) logs opened so.meta_is (ready.asked 0).answered t

  cuts_same : cut_of (first_of opened) round.plans ≡ cuts_in b round.plans
  cuts_same = ap (λ (m : Meta). cut_of (begins m.parts) round.plans) so.meta_is

  -- what was opened for it is the job's own
  own_at : tells → IsOwnRun tells lines available answers faults b → IsOwn (setting_for lines b.bound opened logs) (scope_of opened found b.cap) start opened
  own_at t own =
      let before = so.ran t own in
      subst (λ (s : Setting). IsOwn s (scope_of opened found b.cap) start opened) (sym (same_s t))
      (own_round tells lines available answers faults b found start opened so.meta_is so.fits.has_cap (found_of t own) own before.1 before.2)

  pub ran_on : tells → IsOwnRun tells lines available answers faults b
      → RoundRan tells (setting_in tells lines available answers faults b) (scope_of opened found b.cap) start now (cuts_in b round.plans) (length opened.plans) opened.committed (length round.plans) told end
  ran_on t own =
      subst (λ (cuts : Cuts). RoundRan tells (setting_in tells lines available answers faults b) (scope_of opened found b.cap) start now cuts (length opened.plans) opened.committed (length round.plans) told end) cuts_same
      (subst (λ (s : Setting). RoundRan tells s (scope_of opened found b.cap) start now (cut_of (first_of opened) round.plans) (length opened.plans) opened.committed (length round.plans) told end) (same_s t) (round.ran t (own_at t own)))

  goes : HasRounds (Owned tells lines available answers faults b) (setting_in tells lines available answers faults b) b round.plans so.done all_told
      × AreNext (Owned tells lines available answers faults b) (setting_in tells lines available answers faults b) b.cap found (cuts_in b round.plans) (epochs_after (length b.found.plans) so.done) (length round.plans)
  goes =
      going_on tells lines available answers faults hang b opened so.done so.told told found round.plans so.has so.meta_is so.all so.committed round.went.on round.went.told_are round.went.few round.went.near
      (λ own e ge less. (ran_on own.0 own.1).due e ge less)

  pub have_on : tells → IsOwnRun tells lines available answers faults b → HaveRun tells lines available answers faults b now round.plans all_told (λ lines. (lines ≡ found) × StoppedAtCall end)
  have_on t own = running_on tells lines available answers faults hang joined b start now opened so.done so.told told found round.plans round.went.on.more end round.went.on.behind so.committed so.has (so.ran t own).0 (ran_on t own)

  -- no line of what was told is a fault
  good_on : tells → AreGood tells lines available answers faults b round.plans all_told
  good_on t =
      let s = setting_in tells lines available answers faults b in
      All-append (λ (x : Told). HasGoodLines s (cuts_in b round.plans) x.epoch) so.told told
      (good_more s (cuts_in b opened.plans) (cuts_in b round.plans) (length opened.plans) b.found.committed (first_of b.found) opened.plans so.told
      (λ f le. ap (λ (ps : List Plan). cut_of (first_of b.found) ps f) round.went.on.behind ∙ cut_more (first_of b.found) opened.plans round.went.on.more f le) so.has.told_are so.has.few (so.good t))
      (subst (λ (cuts : Cuts). All (λ (x : Told). HasGoodLines s cuts x.epoch) told) cuts_same
      (subst (λ (y : Setting). All (λ (x : Told). HasGoodLines y (cut_of (first_of opened) round.plans) x.epoch) told) (same_s t) (round.went.good t)))

  -- it is one of the rounds, where it is over
  one_over : (next : NextRound) → end ≡ Ok next
      → IsOne (Owned tells lines available answers faults b) (setting_in tells lines available answers faults b) b.cap (cuts_in b round.plans) (epochs_after (length b.found.plans) so.done) (record { found = found; epochs = length round.plans })
  one_over next ok = record {
    on = goes.0.within;
    cut = goes.1;
    covers = subst (λ (ends : EndsOf). is_behind ends found ≡ false) (ap (λ (f : Cuts). f (length round.plans)) cuts_same) (round.went.over next ok).covered;
    quiet = λ own. (ran_on own.0 own.1).quiet next ok;
  }

  -- and all are told
  all_over : (next : NextRound) → end ≡ Ok next → b.found.committed + length all_told ≡ length round.plans
  all_over next ok = (let e = length-append so.told told in let a = (round.went.over next ok).all in let c = so.committed in omega (arith, e, a, c))

  -- the logs came back from it
  back_asked : WereAsked tells lines available answers faults b (record { found = found; epochs = length round.plans } ∷ so.done) news
  back_asked =
      let ask = ready.asked (length round.plans) in
      record { answered = back_after tells lines available answers faults 0 (record { found = found; epochs = length round.plans } ∷ so.done) b.logs logs news ask.answered back; first = ask.first }

  -- the round is over
  pub turned : (next : NextRound) (text : List ℕ) → end ≡ Ok next → (OutTells → text ≡ written ++ told_text told) → SoFar tells lines available answers faults b (suc n) now disk_now news OutTells text next.opened
  unfolding AreRounds
  turned next text ok wrote =
      let over = round.went.over next ok in
      record {
        done = record { found = found; epochs = length round.plans } ∷ so.done;
        told = all_told;
        number = ap suc so.number;
        has = subst (λ (ps : List Plan). HasRounds (Owned tells lines available answers faults b) (setting_in tells lines available answers faults b) b ps (record { found = found; epochs = length round.plans } ∷ so.done) all_told) (sym over.plans_are) (record {
          more = goes.0.more;
          keeps = goes.0.keeps;
          are = (one_over next ok, goes.0.are);
          within = omega arith;
          told_are = goes.0.told_are;
          few = goes.0.few;
          near = goes.0.near;
          whole = λ some. (let e = length-append so.told told in let a = over.all in let c = so.committed in omega (arith, e, a, c));
        });
        all = ap length (sym over.plans_are);
        committed = (let e = length-append so.told told in let a = over.all in let c = so.committed in let d = over.committed in omega (arith, e, a, c, d));
        whole = λ some_round. over.committed ∙ ap length (sym over.plans_are);
        meta_is = over.meta_is ∙ so.meta_is;
        good = λ t. subst (λ (ps : List Plan). AreGood tells lines available answers faults b ps all_told) (sym over.plans_are) (good_on t);
        wrote = λ o. wrote o ∙ ap (λ (l : List ℕ). l ++ told_text told) (so.wrote o) ∙ append_assoc b.written (told_text so.told) (told_text told) ∙ ap (λ (l : List ℕ). b.written ++ l) (sym (text_then so.told told));
        asked = back_asked;
        fits = fits_over tells lines available answers faults b.bound b.cap logs news found opened next.opened ready.few back over.can;
        there = λ some_round t i own at.
            let old = returned_at tells lines available answers faults logs news back i own at in
            (let a = over.can.long i in let e = ready.seen t i old.0 old.1 in let g = old.2.grown t in omega (arith, a, e, g));
        disk_counted = (let c = so.disk_counted in omega (arith, c, counted));
        ran = λ t own.
            let ran = ran_on t own in
            (subst (λ (ps : List Plan). HaveRun tells lines available answers faults b now ps all_told none_tried) (sym over.plans_are) (tried_so tells lines available answers faults b now round.plans all_told (λ lines. (lines ≡ found) × StoppedAtCall end) none_tried (λ lines tried. ok_stopped next ok tried.1) (have_on t own)), ran.settled next ok, ran.found next ok);
        kept = λ some_round t own. (ran_on t own).kept next ok;
      }

  -- the round stopped, or its lines were not written
  pub ended : (written_now text : List ℕ) (why : RunFault) (before after : ℕ) → n < b.rounds → IsUntold OutTells written written_now before after text told end why
      → Ends tells lines available answers faults b now disk_now news OutTells written_now text (Err why)
  ended written_now text why before after less untold = record {
    plans = round.plans;
    done = so.done;
    told = all_told;
    has = goes.0;
    is_end = end_of untold;
    good = good_on;
    ran = λ t own. tried_so tells lines available answers faults b now round.plans all_told (λ lines. (lines ≡ found) × StoppedAtCall end) (WasTried tells lines available answers faults b news round.plans so.done (Err why)) (λ lines tried. tried_at untold lines tried) (have_on t own);
    planned_stays = λ own t of. planned_so own t of untold;
    uncommitted = λ at t of. uncommitted_so at t of untold;
    left = λ ok. absurd (never_ok why ok);
  }
    where
      some_done : length so.done < b.rounds
      some_done = (let m = so.number in omega (arith, m, less))

      some_le : length so.done ≤ b.rounds
      some_le = (let m = so.number in omega (arith, m, less))

      put_so : OutTells → written ≡ b.written ++ told_text so.told
      put_so = so.wrote

      stop_at : (stop : Stopped) → end ≡ Err stop
          → IsRoundStop tells (Owned tells lines available answers faults b) (setting_in tells lines available answers faults b) (cuts_in b round.plans) found (length round.plans) (b.found.committed + length all_told) (files_now now) b.disk_faults disk_now (sum_by faults news) stop.key stop.cause
      stop_at stop is_err =
          stop_moved tells (tells × IsOwn (setting_for lines b.bound opened logs) (scope_of opened found b.cap) start opened) (Owned tells lines available answers faults b) (setting_for lines b.bound opened logs) (setting_in tells lines available answers faults b) (cut_of (first_of opened) round.plans) (cuts_in b round.plans) found (length round.plans) (opened.committed + length told) (b.found.committed + length all_told)
          (files_now now) b.disk_faults disk disk_now (sum_by faults news) stop.key stop.cause same_s refl (λ own. own.0) (λ own. (own.0, own_at own.0 own.1)) cuts_same (let e = length-append so.told told in let c = so.committed in omega (arith, e, c)) so.disk_counted (round.went.stopped stop is_err)

      -- it is a fault of an epoch only where the round stopped for that
      planned_so : is_epoch_fault (Err why) ≡ true → tells → IsOwnRun tells lines available answers faults b → IsUntold OutTells written written_now before after text told end why → LeavesNow now (λ (image : Files). IsThere image (name.Plan (b.found.committed + length all_told)))
      planned_so own t of (untold_stopped stop is_err is_why same left) =
          let number : opened.committed + length told ≡ b.found.committed + length all_told = (let e = length-append so.told told in let c = so.committed in omega (arith, e, c)) in
          subst (λ (k : ℕ). LeavesNow now (λ (image : Files). IsThere image (name.Plan k))) number
          ((ran_on t of).planned_stays stop is_err (sym (epoch_fault_by stop.cause stop.key) ∙ sym (ap (λ (w : RunFault). is_epoch_fault (Err w)) is_why) ∙ own))
      planned_so own t of (failed next over is_why risen front empty) = absurd (true≢false (sym own ∙ ap (λ (w : RunFault). is_epoch_fault (Err w)) is_why))
      planned_so own t of (untold_starved is_why first rest split same left) = absurd (true≢false (sym own ∙ ap (λ (w : RunFault). is_epoch_fault (Err w)) is_why))

      -- and so no image has its commit, nor where a log failed
      uncommitted_so : is_open_fault (Err why) ≡ true → tells → IsOwnRun tells lines available answers faults b → IsUntold OutTells written written_now before after text told end why → LeavesNow now (λ (image : Files). image (name.Commit (b.found.committed + length all_told)) ≡ None)
      uncommitted_so at t of (untold_stopped stop is_err is_why same left) =
          subst (λ (k : ℕ). LeavesNow now (λ (image : Files). image (name.Commit k) ≡ None)) (let e = length-append so.told told in let c = so.committed in omega (arith, e, c))
          ((ran_on t of).uncommitted stop is_err (open_fault_by stop.cause stop.key (sym (ap (λ (w : RunFault). is_open_fault (Err w)) is_why) ∙ at)))
      uncommitted_so at t of (failed next over is_why risen front empty) = absurd (true≢false (sym at ∙ ap (λ (w : RunFault). is_open_fault (Err w)) is_why))
      uncommitted_so at t of (untold_starved is_why first rest split same left) = absurd (true≢false (sym at ∙ ap (λ (w : RunFault). is_open_fault (Err w)) is_why))

      -- one plan more was tried only where a call failed
      tried_at : IsUntold OutTells written written_now before after text told end why → (lines_found : List ℕ) → (lines_found ≡ found) × StoppedAtCall end → WasTried tells lines available answers faults b news round.plans so.done (Err why) lines_found
      tried_at untold lines_found tried = record {
        asked = subst (λ (l : List ℕ). WereAsked tells lines available answers faults b (record { found = l; epochs = length round.plans } ∷ so.done) news) (sym tried.0) back_asked;
        failed = by untold;
      }
        where
          by : IsUntold OutTells written written_now before after text told end why → is_call_fault (Err why) ≡ true
          by (untold_stopped stop is_err is_why same left) =
              ap (λ (w : RunFault). is_call_fault (Err w)) is_why
              ∙ call_fault_by stop.cause stop.key (subst (λ (w : Stopped). CallFailed (Some w.cause)) (ap (why_or stop) (sym tried.1.1 ∙ is_err)) tried.1.2)
          by (failed next over is_why risen front empty) = absurd (ok_stopped next over tried.1)
          by (untold_starved is_why first rest split same left) = ap (λ (w : RunFault). is_call_fault (Err w)) is_why

      end_of : IsUntold OutTells written written_now before after text told end why → IsEnd tells lines available answers faults b now disk_now news OutTells written_now round.plans so.done all_told text (Err why)
      end_of (untold_stopped stop is_err is_why same left) =
          stopped some_done found goes.1 back_asked stop (stop_at stop is_err) so.told told refl (λ o. same o ∙ put_so o) left (ap Err is_why)
      end_of (failed next over is_why risen front empty) = unput some_done found (one_over next over, all_over next over) back_asked so.told told refl (λ o. let f = front o in (f.0, f.1 ∙ ap (λ (l : List ℕ). l ++ take f.0 (told_text told)) (put_so o))) empty (ap Err is_why)
      end_of (untold_starved is_why first rest split same left) = starved some_le (record { found = found; epochs = length round.plans } ∷ so.done) (inr (found, goes.1, refl)) back_asked so.told first rest (ap (λ (l : List Told). so.told ++ l) split) (λ o. same o ∙ put_so o) left (ap Err is_why)

-- a round's own query and cap are those of the run
pub of_run : {L : Type 0} (tells : Type 0) (lines : L → List Line) (b : Begun L) (bound : Bound) (cap : Option ℕ) (logs : List L) (opened : Opened) (found : List ℕ) (start now : History) (disk disk_now faulty : ℕ) (told : List Told) (end : Ended)
    → b.bound ≡ bound → b.cap ≡ cap → IsRound tells (setting_for lines bound opened logs) (length logs) (scope_of opened found cap) opened start now disk disk_now faulty told end
    → IsRound tells (setting_for lines b.bound opened logs) (length logs) (scope_of opened found b.cap) opened start now disk disk_now faulty told end
of_run tells lines b bound cap logs opened found start now disk disk_now faulty told end same caps round =
    subst (λ (x : Bound). IsRound tells (setting_for lines x opened logs) (length logs) (scope_of opened found b.cap) opened start now disk disk_now faulty told end) (sym same)
    (subst (λ (x : Option ℕ). IsRound tells (setting_for lines bound opened logs) (length logs) (scope_of opened found x) opened start now disk disk_now faulty told end) (sym caps) round)
