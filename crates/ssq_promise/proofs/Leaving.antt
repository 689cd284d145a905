-- What a round that is over leaves, and what a run keeps.
use Rattle.std.proofs.Common.{◌≡◌, ◌&&◌, ◌≤◌, ◌∷◌, [], ℕ, Bool, true, false, true≢false, List, Option, Some, None, refl, sym, ap, ◌∙◌, subst, inl, inr, arith}
use Rattle.std.specs.Prelude.{is_some}
use Rattle.std.proofs.lemmas.Bool.{cases_lt}
use Rattle.ssq_outside.specs.declared.name.Name.{Name}
use Rattle.ssq_outside.specs.declared.name.Name.TheVariants as name
use Rattle.ssq_outside.specs.Files.{Files, Had, files_of, settled_at}
use Rattle.ssq_outside.specs.History.{History, had_now, files_now, LeavesOnly}
use Rattle.ssq_outside.proofs.Steps.{files_are_image}
use Rattle.ssq_core.specs.Course.{Cuts, Job, IsCausal, AreSameUpTo}
use Rattle.ssq_core.specs.Standing.{IsThere, StandsAt}
use Rattle.ssq_core.specs.Settled.{IsSettledAs}
use Rattle.ssq_core.specs.Machine.{Desk, running, waits}
use Rattle.ssq_core.specs.Sound.{Sound, StandsOrEmpty, IsSoundAt, IsSoundWith, IsSure}
use Rattle.ssq_core.proofs.Hads.{sure_settled}
use Rattle.ssq_core.proofs.Images.{stands_by, plan_below, commit_below, agree_stands}
use Rattle.ssq_core.proofs.Desks.{settled_first}
use Rattle.ssq_core.proofs.Moves.{moves_on, open_sound, first_sound as starts_sound}
use Rattle.ssq_core.proofs.Acked.{settled_stay, acknowledged_stay}
use Rattle.ssq_core.proofs.Settling.{settled_files}
use Rattle.ssq_board.specs.declared.front.Cause.{Cause}
use Rattle.ssq_board.specs.declared.front.Entry.{Entry}
use Rattle.ssq_board.specs.declared.front.Entry.TheVariants as entry
use Rattle.ssq_board.specs.declared.front.Cause.TheVariants as cause
use Rattle.ssq_board.specs.Core.{Scope, Core, is_open, is_stopped, May, after, due, or_stop, events_all}
use Rattle.ssq_board.specs.Shown.{Start, IsSound}
use Rattle.ssq_board.specs.Shelf.{Shelf, last_of, shelf_by, snapshot_on}
use Rattle.ssq_board.specs.Follows.{Terms, State, Leads, Moves, Shows, ShowsShelf, shown, life_of}
use Rattle.ssq_board.proofs.Following.{list_follows}
use Rattle.ssq_board.proofs.Keeping.{sure_there, or_stop_none}
use Rattle.ssq_board.proofs.Opening.{shows_first}
use Rattle.ssq_board.proofs.Sounds.{first_sound}
use Rattle.ssq_promise.specs.Run.{closed, WasRun, Begins, IsLeft, IsKept}
use Rattle.ssq_promise.proofs.Joining.{still_settled, shown_first, begins_shelf}

-- as long as a desk runs, names that it takes for settled are
abbrev IsStill : State → Type 0
IsStill s = s.core.front.stop ≡ None → s.core.front.settled ≡ true → s.shelf.tidy ≡ true → had_now s.disk ≡ settled_at (files_now s.disk)

false_true : {A : Type 0} → false ≡ true → A
false_true e = absurd (true≢false (sym e))

some_none : {A : Type 0} (f : Cause) → ◌≡◌ {A = Option Cause} (Some f) None → A
some_none f e = absurd (let x = e in cc)

stopped_none : {A : Type 0} (o : Option Cause) (f : Cause) → or_stop o (Some f) ≡ None → A
stopped_none None f e = some_none f e
stopped_none (Some g) f e = some_none g e

-- a sync leaves what is settled
synced_still : (old new : History) → had_now new ≡ settled_at (files_now old) → had_now new ≡ settled_at (files_now new)
synced_still old new is = is ∙ ap settled_at (sym (ap files_of is))

still_by : (job : Job) (r : Scope) (s : State) (e : Entry) (n : State) → IsStill s → May r s.core e → Moves job r s.core s.cuts e s.disk n.disk → n.core ≡ after r s.core e → n.shelf ≡ shelf_by s.core s.shelf e → IsStill n
still_by job r s (entry.Plan e) n still may moves is shelf runs settled tidy = false_true (sym (ap (λ (c : Core). c.front.settled) is) ∙ settled)
still_by job r s (entry.Version t) n still may moves is shelf runs settled tidy =
    let running : is_stopped s.core.front.stop ≡ false = ap is_stopped (or_stop_none s.core.front.stop (due s.core t None) (sym (ap (λ (c : Core). c.front.stop) is) ∙ runs)) in
    false_true (sym (ap (λ (c : Core). c.front.settled) is ∙ ap (λ (b : Bool). b && s.core.front.settled) running) ∙ settled)
still_by job r s (entry.Missed t) n still may moves is shelf runs settled tidy = some_none cause.DiskFault (sym (ap (λ (c : Core). c.front.stop) is) ∙ runs)
still_by job r s (entry.OutFile e) n still may moves is shelf runs settled tidy = false_true (sym (ap (λ (c : Core). c.front.settled) is) ∙ settled)
still_by job r s (entry.Commit e next) n still may moves is shelf runs settled tidy = false_true (sym (ap (λ (c : Core). c.front.settled) is) ∙ settled)
still_by job r s (entry.Stop f) n still may moves is shelf runs settled tidy = some_none f (sym (ap (λ (c : Core). c.front.stop) is) ∙ runs)
still_by job r s (entry.Sync clock) n still may moves is shelf runs settled tidy = synced_still s.disk n.disk moves.0.1
still_by job r s (entry.Claim t) n still may moves is shelf runs settled tidy =
    subst (λ (h : History). had_now h ≡ settled_at (files_now h)) (sym moves)
    (still (sym (ap (λ (c : Core). c.front.stop) is) ∙ runs) (sym (ap (λ (c : Core). c.front.settled) is) ∙ settled) (sym (ap (λ (k : Shelf). k.tidy) shelf) ∙ tidy))
still_by job r s (entry.Report t f) n still may moves is shelf runs settled tidy =
    subst (λ (h : History). had_now h ≡ settled_at (files_now h)) (sym moves)
    (still (or_stop_none s.core.front.stop (due s.core t f) (sym (ap (λ (c : Core). c.front.stop) is) ∙ runs)) (sym (ap (λ (c : Core). c.front.settled) is) ∙ settled) (sym (ap (λ (k : Shelf). k.tidy) shelf) ∙ tidy))
still_by job r s (entry.Upkeep p v) n still may moves is shelf runs settled tidy =
    subst (λ (h : History). had_now h ≡ settled_at (files_now h)) (sym moves)
    (still (sym (ap (λ (c : Core). c.front.stop) is) ∙ runs) (sym (ap (λ (c : Core). c.front.settled) is) ∙ settled) (sym (ap (λ (k : Shelf). k.tidy) shelf) ∙ tidy))
still_by job r s (entry.Snapshot p v) n still may moves is shelf runs settled tidy =
    let running : is_stopped s.core.front.stop ≡ false = ap is_stopped (sym (ap (λ (c : Core). c.front.stop) is) ∙ runs) in
    false_true (sym (ap (λ (k : Shelf). k.tidy) shelf ∙ ap (λ (b : Bool). (snapshot_on b (name.Snapshot p v) s.shelf).tidy) running) ∙ tidy)
still_by job r s (entry.Unmade p v f) n still may moves is shelf runs settled tidy = stopped_none s.core.front.stop f (sym (ap (λ (c : Core). c.front.stop) is) ∙ runs)
still_by job r s (entry.Untaken p v) n still may moves is shelf runs settled tidy = some_none cause.DiskFault (sym (ap (λ (c : Core). c.front.stop) is) ∙ runs)
still_by job r s (entry.Drop q) n still may moves is shelf runs settled tidy = false_true (sym (ap (λ (k : Shelf). k.tidy) shelf) ∙ tidy)
still_by job r s (entry.Undropped q) n still may moves is shelf runs settled tidy = some_none cause.DiskFault (sym (ap (λ (c : Core). c.front.stop) is) ∙ runs)

still_run : (tells : Type 0) → tells → (job : Job) (r : Scope) (next : Cuts → ℕ → Bool) (es : List Entry) (s n : State) → Leads tells job r next s es n → IsStill s → IsStill n
still_run tells t job r next [] s n l still = subst IsStill l still
still_run tells t job r next (e ∷ es) s n l still = still_run tells t job r next es l.0 n l.2 (still_by job r s e l.0 still l.1.may (l.1.moves t) l.1.core l.1.shelf)

-- where the desk takes all names for settled, all plans and commits are
all_settled : (job : Job) (d : Desk) (had : Had) → (sound : IsSoundAt job d had) → ((q : Name) → d.there q ≡ true → d.sure q ≡ true) → (d.planned ≤ sound.b) × (d.committed ≤ sound.a)
all_settled job d had sound settled = (plans, commits)
  where
    plans : d.planned ≤ sound.b
    plans = elim (cases_lt sound.b d.planned) [ inl less ↦ false_true (sym (sound.plan_open less) ∙ settled (name.Plan sound.b) (sound.plan_there sound.b less)) | inr most ↦ most ]

    commits : d.committed ≤ sound.a
    commits = elim (cases_lt sound.a d.committed) [ inl less ↦ false_true (sym (sound.commit_open less) ∙ settled (name.Commit sound.a) (sound.commit_there sound.a less)) | inr most ↦ most ]

-- then its files stand as far as it has come
stands_here : (job : Job) (d : Desk) (had : Had) → (sound : IsSoundAt job d had) → ((q : Name) → d.there q ≡ true → d.sure q ≡ true) → StandsAt (job.course d.cuts) d.planned d.committed (files_of had)
stands_here job d had sound settled =
    let all = all_settled job d had sound settled in
    let few = settled_first d.planned d.committed sound.b sound.a sound.holds.reached.planned_first sound.holds.one_open in
    let there : (q : Name) → d.there q ≡ true → IsThere (files_of had) q = λ q is. sym (sound.there q) ∙ is in
    stands_by (job.course d.cuts) d.planned d.committed sound.b sound.a d.planned d.committed had (files_of had) sound.holds (files_are_image had) few.1.1 few.1.0 (omega arith) sound.holds.reached
    (λ e less. there (name.Plan e) (sound.plan_there e less)) (λ e less. there (name.Commit e) (sound.commit_there e less))
    (λ e is. elim (plan_below (job.course d.cuts) d.planned d.committed sound.b sound.a had e (files_of had (name.Plan e)) sound.holds (files_are_image had (name.Plan e)) is) [
      | inl less ↦ omega (arith, less, few.1.1)
      | inr last ↦ omega (arith, last.0, last.1)
    ])
    (λ e is. commit_below (job.course d.cuts) d.planned d.committed sound.b sound.a had e (files_of had (name.Commit e)) sound.holds (files_are_image had (name.Commit e)) is)

-- the desk that opens on files that stand
abbrev found_desk : Job → Cuts → ℕ → ℕ → Files → Desk
found_desk job cuts n k files = record {
  cuts = cuts;
  planned = n;
  committed = k;
  there = λ q. is_some (files q);
  sure = λ q. is_some (files q);
  tasks = λ t. waits;
  stores = λ p. (job.course cuts).state p k;
}

same_by : (a b : Bool) → (a ≡ true → b ≡ true) → (b ≡ true → a ≡ true) → a ≡ b
same_by true b to from = sym (to refl)
same_by false true to from = from refl
same_by false false to from = refl

-- what is there is settled, snapshots too where upkeep is
all_sure : (job : Job) (r : Scope) (next : Cuts → ℕ → Bool) (terms : Terms job r next) (c : Core) (k : Shelf) (d : Desk) → Shows job r next terms c d → ShowsShelf c k d → c.front.settled ≡ true → k.tidy ≡ true
    → (q : Name) → d.there q ≡ true → d.sure q ≡ true
all_sure job r next terms c k d shows held settled tidy name.Meta there = shows.settled settled name.Meta refl there
all_sure job r next terms c k d shows held settled tidy (name.Plan e) there = shows.settled settled (name.Plan e) refl there
all_sure job r next terms c k d shows held settled tidy (name.Commit e) there = shows.settled settled (name.Commit e) refl there
all_sure job r next terms c k d shows held settled tidy (name.Out e) there = shows.settled settled (name.Out e) refl there
all_sure job r next terms c k d shows held settled tidy (name.Delta p v) there = shows.settled settled (name.Delta p v) refl there
all_sure job r next terms c k d shows held settled tidy (name.Snapshot p v) there = held.tidy tidy p v there

pub sound_by : (job : Job) (stop : Option Cause) (d : Desk) (had : Had) → stop ≡ None → IsSoundWith job (life_of stop) (Some d) had → IsSoundAt job d had
sound_by job None d had is sound = sound
sound_by job (Some f) d had is sound = some_none f is

pub round_leaves_found : (tells : Type 0) → tells → (job : Job) (r : Scope) (next : Cuts → ℕ → Bool) (terms : Terms job r next) (st : Start) (es : List Entry) (s n : State) → Begins job r next terms st s
    → Leads tells job r next s es n → n.core.front.stop ≡ None → n.core.front.settled ≡ true → n.shelf.tidy ≡ true → is_open n.core ≡ false
    → (cuts : Cuts) → AreSameUpTo cuts n.cuts n.core.front.planned → IsLeft job n cuts
round_leaves_found tells t job r next terms st es s n b l runs settled tidy between cuts same =
    let here : Shows job r next terms s.core b.desk = subst (λ (x : Core). Shows job r next terms x b.desk) (sym b.core)
    (shows_first job r next terms st b.files b.desk b.at.committed b.at.begins b.at.from b.is st.is_planned b.at.planned b.at.to b.at.due) in
    let sound : IsSound r s.core = subst (IsSound r) (sym b.core) (first_sound r st b.at.start) in
    let f = list_follows tells job r next terms t es s n b.desk sound (sym b.cuts) here (begins_shelf job r next terms st s b) l in
    let begun : Sound job (record { disk = s.disk; desk = Some b.desk; life = running }) = subst (λ (h : Had). IsSoundAt job b.desk h) (sym b.settled.is) (open_sound job b.files b.desk b.is) in
    let first : Sound job (shown s.disk s.core b.desk) = subst (Sound job) (sym (shown_first r st s.disk s.core b.desk b.core)) begun in
    let last : IsSoundAt job f.0 (had_now n.disk) = sound_by job n.core.front.stop f.0 (had_now n.disk) runs (moves_on tells job (events_all r s.core es) (shown s.disk s.core b.desk) (shown n.disk n.core f.0) t terms.causal first f.1).sound in
    let shows : Shows job r next terms n.core f.0 = f.3 in
    let is_still = still_run tells t job r next es s n l (λ run set clean. still_settled s.disk b.files b.settled) runs settled tidy in
    let at = stands_here job f.0 (had_now n.disk) last (all_sure job r next terms n.core n.shelf f.0 shows f.4 settled tidy) in
    let at' : StandsAt (job.course f.0.cuts) n.core.front.planned n.core.front.committed (files_now n.disk) = subst (λ (x : ℕ). StandsAt (job.course f.0.cuts) n.core.front.planned x (files_now n.disk)) shows.committed
    (subst (λ (x : ℕ). StandsAt (job.course f.0.cuts) x f.0.committed (files_now n.disk)) shows.planned at) in
    let agrees : AreSameUpTo f.0.cuts cuts n.core.front.planned = λ e most. ap (λ (c : Cuts). c e) f.2 ∙ sym (same e most) in
    let stands : StandsAt (job.course cuts) n.core.front.planned n.core.front.committed (files_now n.disk) =
    agree_stands (job.course f.0.cuts) (job.course cuts) n.core.front.planned n.core.front.committed (files_now n.disk) (terms.causal.agrees f.0.cuts cuts n.core.front.planned agrees) at' in
    let d = found_desk job cuts n.core.front.planned n.core.front.committed (files_now n.disk) in record {
      settled = record { is = is_still };
      desk = d;
      is = (stands, (λ e less. terms.causal.follows f.0.cuts cuts n.core.front.planned e agrees less (shows.proper e less)), (λ q. refl), (λ q. refl), (λ t. refl), (λ p less. refl));
      are = refl;
      planned = refl;
      committed = refl;
      listed = λ q is. sym (f.4.sure q is) ∙ same_by (f.0.sure q) (f.0.there q) (sure_there (last_of n.core) n.core.front.committed n.core.front.stop n.shelf f.0 f.4 q is) (all_sure job r next terms n.core n.shelf f.0 shows f.4 settled tidy q) ∙ last.there q;
    }

-- What a run keeps.
pub run_is_kept : (tells : Type 0) → tells → (job : Job) (start now : History) (files : Files) (told : List ℕ) → IsCausal job → IsSettledAs start files → StandsOrEmpty job files → (run : WasRun tells job start now told)
    → IsKept tells job start now files told run
run_is_kept tells t job start now files told causal settled stands run =
    let sound : Sound job (closed start) = starts_sound job (closed start) (record { desk = refl; files = files; settled = settled; stands = stands }) in record {
      stands = (moves_on tells job run.events (closed start) (closed now) t causal sound run.leads).stands;
      stays = λ q other there.
          let sure : IsSure (had_now start) q = subst (λ (h : Had). IsSure h q) (sym settled.is) (sure_settled files q there) in
          subst (λ (f : Files). LeavesOnly start now (λ image. image q ≡ f q)) (settled_files start files settled)
          (settled_stay tells t job run.events (closed start) (closed now) q causal sound run.leads other sure);
      acknowledged_stay = λ before after at split begins ends e among.
          acknowledged_stay tells t job before after (closed start) at (closed now) e causal sound begins ends among;
    }
