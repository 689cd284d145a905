-- The files that a round leaves are those of its plans.
use Rattle.std.proofs.Common.{◌≡◌, ◌&&◌, Option, None, ◌⊎◌, ◌<◌, ◌≤◌, ◌+◌, ◌||◌, [], ◌∷◌, ℕ, Bool, true, false, true≢false, List, Some, if◌then◌else◌, nat_lt, refl, sym, ap, ◌∙◌, subst, inl, inr, arith, le-ltb}
use Rattle.std.proofs.lemmas.Bool.{cases_lt, ltb-true, ltb-false}
use Rattle.ssq_outside.specs.declared.name.Name.{Name}
use Rattle.ssq_outside.specs.declared.name.Name.TheVariants as name
use Rattle.ssq_outside.specs.Files.{Content, Files, Had, MayBe, IsImage, IsSyncStep, added, removed, settled_at}
use Rattle.ssq_outside.specs.History.{History, had_now, files_now, LeavesNow}
use Rattle.ssq_core.specs.Course.{Course, Ends, Cuts, Job, AgreeUpTo, AreSameUpTo, truth}
use Rattle.ssq_core.specs.Standing.{is_allowed}
use Rattle.ssq_core.specs.Settled.{IsSettledAs}
use Rattle.ssq_core.specs.Machine.{Desk, opened, publishes, seals_by, upkeep, out, waits}
use Rattle.ssq_core.specs.Sound.{Sound, IsSoundAt}
use Rattle.ssq_core.proofs.Hads.{added_cases, removed_cases, settled_may}
use Rattle.ssq_core.proofs.Holding.{agree_truth, lt_true, more_allowed}
use Rattle.ssq_core.proofs.Desks.{settled_first}
use Rattle.ssq_core.proofs.Moves.{moves_on, open_sound}
use Rattle.ssq_board.specs.declared.front.Entry.{Entry}
use Rattle.ssq_board.specs.declared.front.Entry.TheVariants as entry
use Rattle.ssq_outside.specs.declared.gate.TaskId.{TaskId}
use Rattle.ssq_outside.specs.declared.gate.Kind.TheVariants as kind
use Rattle.ssq_outside.proofs.Steps.{present_after}
use Rattle.ssq_core.proofs.Files.{some_is_there, none_is_not}
use Rattle.ssq_board.specs.declared.front.Cause.{Cause}
use Rattle.ssq_board.specs.declared.front.Cause.TheVariants as cause
use Rattle.ssq_board.specs.Core.{Scope, Core, HasCause, May, after, fails_apart, cuts_by, events_all, extended, is_behind, due, is_open, is_stopped, next_ends, or_stop}
use Rattle.ssq_board.specs.Shown.{Start, IsSound}
use Rattle.ssq_board.specs.Follows.{Terms, State, Step, Leads, Shows, Goes, Tries, ShowsShelf, IsTried, BringsVersion, publishes_by, makes_by, change_of, shown}
use Rattle.ssq_board.proofs.Following.{list_follows}
use Rattle.ssq_board.proofs.Opening.{shows_first}
use Rattle.ssq_board.proofs.Sounds.{first_sound, step_sound}
use Rattle.ssq_promise.specs.Run.{Begins, AreTrueTo, AreTriedTo, AreFilesOf, CallFailed, as_planned, one_tried}
use Rattle.ssq_promise.proofs.Joining.{shown_first, begins_shelf}
use Rattle.ssq_promise.proofs.Leaving.{sound_by}

-- each content that a name may have is the true one, and of an epoch below this one
abbrev pub HasTruth : Course → ℕ → Had → Type 0
HasTruth course n had = (q : Name) (c : Content) → MayBe (had q) c → (c ≡ None) ⊎ ((c ≡ Some (truth course q)) × (is_allowed course.keeping n n q ≡ true))

-- and so it is, but that the plan of this epoch may be there
abbrev pub HasTried : Course → ℕ → Had → Type 0
HasTried course n had = (q : Name) (c : Content) → MayBe (had q) c → (c ≡ None) ⊎ ((c ≡ Some (truth course q)) × ((is_allowed course.keeping n n q ≡ true) ⊎ (q ≡ name.Plan n)))

image_true : (course : Course) (n : ℕ) (had : Had) → HasTruth course n had → (image : Files) → IsImage had image → AreTrueTo course n image
image_true course n had has image is = record {
  are_true = λ q. elim (has q (image q) (is q)) [ inl none ↦ inl none | inr there ↦ inr there.0 ];
  allowed = λ q there. elim (has q (image q) (is q)) [ inl none ↦ absurd (none_is_not (image q) none there) | inr so ↦ so.1 ];
}

pub now_true : (course : Course) (n : ℕ) (h : History) → HasTruth course n (had_now h) → LeavesNow h (AreTrueTo course n)
now_true course n h has = record { each = image_true course n (had_now h) has }

image_tried : (course : Course) (n : ℕ) (had : Had) → HasTried course n had → (image : Files) → IsImage had image → AreTriedTo course n image
image_tried course n had has image is = record {
  are_true = λ q. elim (has q (image q) (is q)) [ inl none ↦ inl none | inr there ↦ inr there.0 ];
  allowed = λ q there. elim (has q (image q) (is q)) [ inl none ↦ absurd (none_is_not (image q) none there) | inr so ↦ so.1 ];
}

now_tried : (course : Course) (n : ℕ) (h : History) → HasTried course n (had_now h) → LeavesNow h (AreTriedTo course n)
now_tried course n h has = record { each = image_tried course n (had_now h) has }

-- in a sound state it is so
sound_true : (job : Job) (d : Desk) (had : Had) → IsSoundAt job d had → HasTruth (job.course d.cuts) d.planned had
sound_true job d had sound q c may = elim (sound.holds.are_true q c may) [
  | inl none ↦ inl none
  | inr is ↦ inr (is, allowed (sound.holds.allowed q c may (some_is_there c (truth (job.course d.cuts) q) is)))
]
  where
    allowed : (is_allowed (job.course d.cuts).keeping sound.b d.committed q ≡ true) ⊎ ((q ≡ name.Plan sound.b) × (sound.b < d.planned)) → is_allowed (job.course d.cuts).keeping d.planned d.planned q ≡ true
    allowed (inl at) =
        let few = settled_first d.planned d.committed sound.b sound.a sound.holds.reached.planned_first sound.holds.one_open in
        more_allowed (job.course d.cuts).keeping sound.b d.committed d.planned d.planned q few.1.1 sound.holds.reached.planned_first at
    allowed (inr new) = subst (λ (x : Name). is_allowed (job.course d.cuts).keeping d.planned d.planned x ≡ true) (sym new.0) (lt_true sound.b d.planned new.1)

-- and of settled files on which a desk opens
pub opened_true : (job : Job) (disk : History) (d : Desk) → IsSettledAs disk (files_now disk) → opened job (files_now disk) d → LeavesNow disk (AreTrueTo (job.course d.cuts) d.planned)
opened_true job disk d settled is = now_true (job.course d.cuts) d.planned disk (subst (HasTruth (job.course d.cuts) d.planned) (sym settled.is) has)
  where
    has : HasTruth (job.course d.cuts) d.planned (settled_at (files_now disk))
    has q c may =
        let same : c ≡ files_now disk q = settled_may (files_now disk) q c may in
        elim (is.0.are_true q) [
          | inl none ↦ inl (same ∙ none)
          | inr there ↦ inr (
            same ∙ there,
            more_allowed (job.course d.cuts).keeping d.planned d.committed d.planned d.planned q (omega arith) is.0.reached.planned_first (is.0.allowed q (some_is_there (files_now disk q) (truth (job.course d.cuts) q) there)),
          )
        ]

-- and with one true file more
added_true : (course : Course) (n : ℕ) (had : Had) (q : Name) → HasTruth course n had → is_allowed course.keeping n n q ≡ true → HasTruth course n (added q (truth course q) had)
added_true course n had q has may r c is = elim (added_cases q r (truth course q) c had is) [
  | inl old ↦ has r c old
  | inr new ↦ inr (new.1 ∙ ap (λ (x : Name). Some (truth course x)) (sym new.0), subst (λ (x : Name). is_allowed course.keeping n n x ≡ true) (sym new.0) may)
]

-- and with one file less
removed_true : (course : Course) (n : ℕ) (had : Had) (q : Name) → HasTruth course n had → HasTruth course n (removed q had)
removed_true course n had q has r c is = elim (removed_cases q r c had is) [ inl old ↦ has r c old | inr gone ↦ inl gone.1 ]

agree_true : (one other : Course) (n : ℕ) (had : Had) → AgreeUpTo one other n → HasTruth one n had → HasTruth other n had
agree_true one other n had agree has q c may = elim (has q c may) [
  | inl none ↦ inl none
  | inr so ↦ inr (so.0 ∙ ap Some (agree_truth one other n n q (omega arith) agree so.1), subst (λ (keeping : ℕ). is_allowed keeping n n q ≡ true) agree.keeping so.1)
]

tried_none : (course : Course) (n : ℕ) (had : Had) → HasTruth course n had → HasTried course n had
tried_none course n had has q c may = elim (has q c may) [ inl none ↦ inl none | inr so ↦ inr (so.0, inl so.1) ]

tried_one : (course : Course) (n : ℕ) (had : Had) → HasTruth course n had → HasTried course n (added (name.Plan n) (truth course (name.Plan n)) had)
tried_one course n had has q c is = elim (added_cases (name.Plan n) q (truth course (name.Plan n)) c had is) [
  | inl old ↦ tried_none course n had has q c old
  | inr new ↦ inr (new.1 ∙ ap (λ (x : Name). Some (truth course x)) (sym new.0), inr new.0)
]

agree_tried : (one other : Course) (n : ℕ) (had : Had) → AgreeUpTo one other (n + 1) → HasTried one n had → HasTried other n had
agree_tried one other n had agree has q c may = elim (has q c may) [
  | inl none ↦ inl none
  | inr so ↦ elim so.1 [
    | inl at ↦ inr (so.0 ∙ ap Some (same (more_allowed one.keeping n n (n + 1) (n + 1) q (omega arith) (omega arith) at)), inl (subst (λ (keeping : ℕ). is_allowed keeping n n q ≡ true) agree.keeping at))
    | inr new ↦ inr (so.0 ∙ ap Some (same (subst (λ (x : Name). is_allowed one.keeping (n + 1) (n + 1) x ≡ true) (sym new) (lt_true n (n + 1) (omega arith)))), inr new)
  ]
]
  where
    same : is_allowed one.keeping (n + 1) (n + 1) q ≡ true → truth one q ≡ truth other q
    same at = agree_truth one other (n + 1) (n + 1) q (omega arith) agree at

out_waits : out ≡ waits → ⊥
out_waits e = cc

-- ---- cuts that go on

pub extended_below : (cuts : Cuts) (n : ℕ) (ends : Ends) (e : ℕ) → e ≤ n → extended cuts n ends e ≡ cuts e
extended_below cuts n ends e le = by (nat_lt n e) refl
  where
    by : (b : Bool) → nat_lt n e ≡ b → (if b then ends else cuts e) ≡ cuts e
    by false other = refl
    by true less = absurd (let l = ltb-true n e less in omega (arith, l, le))

extended_same : (one other : Cuts) (n : ℕ) (ends : Ends) → AreSameUpTo one other n → AreSameUpTo (extended one n ends) (extended other n ends) (n + 1)
extended_same one other n ends same e le = by (nat_lt n e) refl
  where
    by : (b : Bool) → nat_lt n e ≡ b → (if b then ends else one e) ≡ (if b then ends else other e)
    by true less = refl
    by false not_less = same e (elim (cases_lt n e) [ inl less ↦ absurd (let t = sym not_less ∙ lt_true n e less in true≢false (sym t)) | inr most ↦ most ])

-- ---- entries

-- What is so of a state: each content is true to the cuts; or one plan more was tried.
data IsTrueSo (job : Job) (r : Scope) (disk : History) (cuts : Cuts) (n : ℕ) (ends : Ends) (due : Bool) (k : ℕ) (settled : Bool) (stop : Option Cause) : Type 0 where
  so_far : HasTruth (job.course cuts) n (had_now disk) → IsTrueSo job r disk cuts n ends due k settled stop
  so_tried : n ≤ k → settled ≡ true → CallFailed stop → (is_behind ends r.available || due) ≡ true → HasTried (job.course (extended cuts n (next_ends r.cap ends r.available))) n (had_now disk) → IsTrueSo job r disk cuts n ends due k settled stop

abbrev IsTrueState : Job → Scope → State → Type 0
IsTrueState job r s = IsTrueSo job r s.disk s.cuts s.core.front.planned s.core.ends s.core.front.due s.core.front.committed s.core.front.settled s.core.front.stop

both_true : {a b : Bool} → a ≡ true → b ≡ true → (a && b) ≡ true
both_true p q = λ i. p i && q i

-- beside a report a desk stops for a call that failed, or for the limit of epochs
failed_below : (r : Scope) (c : Core) (f : Cause) → HasCause r c f → c.front.planned < 4294967295 → CallFailed (Some f)
failed_below r c (cause.BadLine s p o x) has less = absurd has
failed_below r c (cause.Overflow s p o) has less = absurd has
failed_below r c cause.KeyOverflow has less = absurd has
failed_below r c cause.LogFault has less = absurd has
failed_below r c (cause.LogShort s p m n) has less = absurd has
failed_below r c (cause.Damaged q) has less = absurd has
failed_below r c cause.DiskFault has less = inl refl
failed_below r c cause.Full has less = absurd (let most = has.0 in omega (arith, most, less))
failed_below r c cause.NoMemory has less = inr refl

-- a desk that stopped for one has no other cause
failed_first : (o later : Option Cause) → CallFailed o → CallFailed (or_stop o later)
failed_first o later (inl is) = inl (ap (λ (x : Option Cause). or_stop x later) is)
failed_first o later (inr is) = inr (ap (λ (x : Option Cause). or_stop x later) is)

module _ (job : Job) (r : Scope) (next : Cuts → ℕ → Bool) (terms : Terms job r next) where
  -- one more true file was published, or not
  file_tried : (old new : History) (cuts : Cuts) (n : ℕ) (q : Name) → HasTruth (job.course cuts) n (had_now old) → is_allowed (job.course cuts).keeping n n q ≡ true → Tries (publishes q (truth (job.course cuts) q)) old new → HasTruth (job.course cuts) n (had_now new)
  file_tried old new cuts n q has may step = elim (present_after old new (λ (had : Had). had ≡ added q (truth (job.course cuts) q) (had_now old)) step) [
    | inl same ↦ subst (HasTruth (job.course cuts) n) (sym same) has
    | inr is ↦ subst (HasTruth (job.course cuts) n) (sym is) (added_true (job.course cuts) n (had_now old) q has may)
  ]

  plan_true : (cuts : Cuts) (n : ℕ) (ends : Ends) (had : Had) → HasTruth (job.course cuts) n had → HasTruth (job.course (extended cuts n ends)) n had
  plan_true cuts n ends had has = agree_true (job.course cuts) (job.course (extended cuts n ends)) n had (terms.causal.agrees cuts (extended cuts n ends) n (λ e le. sym (extended_below cuts n ends e le))) has

  -- the next plan was published, or not
  plan_tried : (old new : History) (cuts : Cuts) (n : ℕ) (ends : Ends) → HasTruth (job.course cuts) n (had_now old)
      → Tries (publishes (name.Plan n) (truth (job.course (extended cuts n ends)) (name.Plan n))) old new → HasTried (job.course (extended cuts n ends)) n (had_now new)
  plan_tried old new cuts n ends has step = elim (present_after old new (λ (had : Had). had ≡ added (name.Plan n) (truth (job.course (extended cuts n ends)) (name.Plan n)) (had_now old)) step) [
    | inl same ↦ subst (HasTried (job.course (extended cuts n ends)) n) (sym same) (tried_none (job.course (extended cuts n ends)) n (had_now old) (plan_true cuts n ends (had_now old) has))
    | inr is ↦ subst (HasTried (job.course (extended cuts n ends)) n) (sym is) (tried_one (job.course (extended cuts n ends)) n (had_now old) (plan_true cuts n ends (had_now old) has))
  ]

  -- a call that failed
  tried_true : (old new : History) (c : Core) (cuts : Cuts) (f : Cause) (e : Entry) → HasCause r c f → HasTruth (job.course cuts) c.front.planned (had_now old) → May r c e → fails_apart e ≡ false → Tries (change_of job c (cuts_by r cuts c e) e) old new
      → IsTrueSo job r new cuts c.front.planned c.ends c.front.due c.front.committed c.front.settled (Some f)
  tried_true old new c cuts f (entry.Plan e) cause has may other step =
      so_tried (ltb-false c.front.committed c.front.planned may.2) may.3 (failed_below r c f cause (let at = may.1 in let few = may.5 in omega (arith, at, few))) may.4
      (plan_tried old new cuts c.front.planned (next_ends r.cap c.ends r.available) has
      (subst (λ (k : ℕ). Tries (publishes (name.Plan k) (truth (job.course (extended cuts c.front.planned (next_ends r.cap c.ends r.available))) (name.Plan k))) old new) may.1 step))
  tried_true old new c cuts f (entry.OutFile e) cause has may other step =
      so_far (file_tried old new cuts c.front.planned (name.Out e) has (lt_true e c.front.planned (let at = may.1 in let l = ltb-true c.front.committed c.front.planned may.2 in omega (arith, at, l))) step)
  tried_true old new c cuts f (entry.Commit e due) cause has may other step =
      so_far (file_tried old new cuts c.front.planned (name.Commit e) has (lt_true e c.front.planned (let at = may.1 in let l = ltb-true c.front.committed c.front.planned may.2 in omega (arith, at, l))) step)
  tried_true old new c cuts f (entry.Sync clock) cause has may other step = so_far (elim (present_after old new (IsSyncStep (had_now old)) step) [
    | inl same ↦ subst (HasTruth (job.course cuts) c.front.planned) (sym same) has
    | inr sync ↦ λ q x is. has q x (sync.fewer q x is)
  ])
  tried_true old new c cuts f (entry.Claim t) cause has may other step = so_far (subst (λ (h : History). HasTruth (job.course cuts) c.front.planned (had_now h)) (sym step) has)
  tried_true old new c cuts f (entry.Report t g) cause has may other step = absurd (true≢false other)
  tried_true old new c cuts f (entry.Version t) cause has may other step = absurd (true≢false other)
  tried_true old new c cuts f (entry.Missed t) cause has may other step = absurd (true≢false other)
  tried_true old new c cuts f (entry.Upkeep p v) cause has may other step = so_far (subst (λ (h : History). HasTruth (job.course cuts) c.front.planned (had_now h)) (sym step) has)
  tried_true old new c cuts f (entry.Snapshot p v) cause has may other step = absurd (true≢false other)
  tried_true old new c cuts f (entry.Unmade p v g) cause has may other step = absurd (true≢false other)
  tried_true old new c cuts f (entry.Untaken p v) cause has may other step = absurd (true≢false other)
  tried_true old new c cuts f (entry.Drop q) cause has may other step = absurd (true≢false other)
  tried_true old new c cuts f (entry.Undropped q) cause has may other step = absurd (true≢false other)
  tried_true old new c cuts f (entry.Stop g) cause has may other step = so_far (subst (λ (h : History). HasTruth (job.course cuts) c.front.planned (had_now h)) (sym step) has)

  stop_true : (old new : History) (c : Core) (cuts : Cuts) (f : Cause) (change : _) → HasCause r c f → HasTruth (job.course cuts) c.front.planned (had_now old) → IsTried job r c cuts change → Tries change old new
      → IsTrueSo job r new cuts c.front.planned c.ends c.front.due c.front.committed c.front.settled (Some f)
  stop_true old new c cuts f change cause has (inl none) step =
      let same : new ≡ old = subst (λ x. Tries x old new) none step in
      so_far (subst (λ (h : History). HasTruth (job.course cuts) c.front.planned (had_now h)) (sym same) has)
  stop_true old new c cuts f change cause has (inr tried) step = tried_true old new c cuts f tried.0 cause has tried.1 tried.2 (subst (λ x. Tries x old new) tried.3 step)

  -- the delta of a task of the epoch that runs was published, or not
  delta_true : (old new : History) (c : Core) (cuts : Cuts) (t : TaskId) → HasTruth (job.course cuts) c.front.planned (had_now old) → t.epoch ≡ c.front.committed → is_open c ≡ true → t.kind ≡ kind.Reduce
      → BringsVersion (job.course cuts) t → Tries (publishes_by job cuts t None) old new → HasTruth (job.course cuts) c.front.planned (had_now new)
  delta_true old new c cuts t has epoch opened same brings step =
      let keeps : nat_lt t.number (job.course cuts).keeping ≡ true = ap (seals_by (job.course cuts) t) (sym same) ∙ brings.1 in
      let planned : nat_lt t.epoch c.front.planned ≡ true = lt_true t.epoch c.front.planned (let l = ltb-true c.front.committed c.front.planned opened in omega (arith, epoch, l)) in
      file_tried old new cuts c.front.planned (name.Delta t.number t.epoch) has (both_true keeps planned) step

  -- a snapshot that is being made is of a partition that keeps state, and of an epoch that is planned
  snapshot_allowed : (s : State) (d : Desk) (p v : ℕ) → d.cuts ≡ s.cuts → Shows job r next terms s.core d → d.tasks (upkeep p v) ≡ out → IsSoundAt job d (had_now s.disk) → is_allowed (job.course s.cuts).keeping s.core.front.planned s.core.front.planned (name.Snapshot p v) ≡ true
  snapshot_allowed s d p v cuts shows away sound =
      let keeps : p < (job.course d.cuts).keeping = elim (sound.holdings.upkept (upkeep p v) refl) [ inl none ↦ absurd (out_waits (sym away ∙ none)) | inr less ↦ less ] in
      let keeps' : p < (job.course s.cuts).keeping = subst (λ (k : Cuts). p < (job.course k).keeping) cuts keeps in
      let planned : v < s.core.front.planned = elim (cases_lt v s.core.front.planned) [ inl less ↦ less | inr most ↦ absurd (out_waits (sym away ∙ shows.later (upkeep p v) most)) ] in
      both_true (lt_true p (job.course s.cuts).keeping keeps') (lt_true v s.core.front.planned planned)

  -- what a running desk shows is true to the cuts
  running_true : (s : State) (d : Desk) → d.cuts ≡ s.cuts → Shows job r next terms s.core d → s.core.front.stop ≡ None → Sound job (shown s.disk s.core d) → HasTruth (job.course s.cuts) s.core.front.planned (had_now s.disk)
  running_true s d cuts shows runs sound =
      subst (λ (n : ℕ). HasTruth (job.course s.cuts) n (had_now s.disk)) shows.planned
      (subst (λ (k : Cuts). HasTruth (job.course k) d.planned (had_now s.disk)) cuts (sound_true job d (had_now s.disk) (sound_by job s.core.front.stop d (had_now s.disk) runs sound)))

  module _ (tells : Type 0) (t : tells) where
    -- nothing was done to the disk, nor to the counts
    still_true : (s n : State) → n.disk ≡ s.disk → n.cuts ≡ s.cuts → n.core.front.planned ≡ s.core.front.planned → n.core.ends ≡ s.core.ends → n.core.front.due ≡ s.core.front.due → n.core.front.committed ≡ s.core.front.committed → n.core.front.settled ≡ s.core.front.settled → (CallFailed s.core.front.stop → CallFailed n.core.front.stop)
        → IsTrueState job r s → IsTrueState job r n
    still_true s n disk cuts planned ends due committed settled stop is =
        subst (λ (h : History). IsTrueSo job r h n.cuts n.core.front.planned n.core.ends n.core.front.due n.core.front.committed n.core.front.settled n.core.front.stop) (sym disk)
        (subst (λ (k : Cuts). IsTrueSo job r s.disk k n.core.front.planned n.core.ends n.core.front.due n.core.front.committed n.core.front.settled n.core.front.stop) (sym cuts)
        (subst (λ (m : ℕ). IsTrueSo job r s.disk s.cuts m n.core.ends n.core.front.due n.core.front.committed n.core.front.settled n.core.front.stop) (sym planned)
        (subst (λ (l : Ends). IsTrueSo job r s.disk s.cuts s.core.front.planned l n.core.front.due n.core.front.committed n.core.front.settled n.core.front.stop) (sym ends)
        (subst (λ (b : Bool). IsTrueSo job r s.disk s.cuts s.core.front.planned s.core.ends b n.core.front.committed n.core.front.settled n.core.front.stop) (sym due)
        (subst (λ (m : ℕ). IsTrueSo job r s.disk s.cuts s.core.front.planned s.core.ends s.core.front.due m n.core.front.settled n.core.front.stop) (sym committed)
        (subst (λ (b : Bool). IsTrueSo job r s.disk s.cuts s.core.front.planned s.core.ends s.core.front.due s.core.front.committed b n.core.front.stop) (sym settled) (stop_goes is)))))))
      where
        stop_goes : IsTrueState job r s → IsTrueSo job r s.disk s.cuts s.core.front.planned s.core.ends s.core.front.due s.core.front.committed s.core.front.settled n.core.front.stop
        stop_goes (so_far has) = so_far has
        stop_goes (so_tried all settled failed more has) = so_tried all settled (stop failed) more has

    step_true : (e : Entry) (s n : State) (d d' : Desk) → Step tells job r next s e n → d.cuts ≡ s.cuts → Shows job r next terms s.core d → ShowsShelf s.core s.shelf d → Sound job (shown s.disk s.core d)
        → d'.cuts ≡ n.cuts → Shows job r next terms n.core d' → Sound job (shown n.disk n.core d') → IsTrueState job r s → IsTrueState job r n
    step_true (entry.Plan e) s n d d' step cuts shows held sound cuts' shows' sound' is = so_far (running_true n d' cuts' shows' (ap (λ (c : Core). c.front.stop) step.core) sound')
    step_true (entry.OutFile e) s n d d' step cuts shows held sound cuts' shows' sound' is = so_far (running_true n d' cuts' shows' (ap (λ (c : Core). c.front.stop) step.core) sound')
    step_true (entry.Commit e due) s n d d' step cuts shows held sound cuts' shows' sound' is = so_far (running_true n d' cuts' shows' (ap (λ (c : Core). c.front.stop) step.core) sound')
    step_true (entry.Sync clock) s n d d' step cuts shows held sound cuts' shows' sound' is = so_far (running_true n d' cuts' shows' (ap (λ (c : Core). c.front.stop) step.core) sound')
    step_true (entry.Claim u) s n d d' step cuts shows held sound cuts' shows' sound' is =
        still_true s n (step.moves t) step.cuts (ap (λ (c : Core). c.front.planned) step.core) (ap (λ (c : Core). c.ends) step.core) (ap (λ (c : Core). c.front.due) step.core) (ap (λ (c : Core). c.front.committed) step.core) (ap (λ (c : Core). c.front.settled) step.core)
        (λ (x : CallFailed s.core.front.stop). subst CallFailed (sym (ap (λ (c : Core). c.front.stop) step.core)) x) is
    step_true (entry.Report u f) s n d d' step cuts shows held sound cuts' shows' sound' is =
        still_true s n (step.moves t) step.cuts (ap (λ (c : Core). c.front.planned) step.core) (ap (λ (c : Core). c.ends) step.core) (ap (λ (c : Core). c.front.due) step.core) (ap (λ (c : Core). c.front.committed) step.core) (ap (λ (c : Core). c.front.settled) step.core)
        (λ (x : CallFailed s.core.front.stop). subst CallFailed (sym (ap (λ (c : Core). c.front.stop) step.core)) (failed_first s.core.front.stop (due s.core u f) x)) is
    step_true (entry.Version u) s n d d' step cuts shows held sound cuts' shows' sound' is = by s.core.front.stop refl
      where
        -- after a Stop nothing was done to the disk
        by : (o : Option Cause) → s.core.front.stop ≡ o → IsTrueState job r n
        by None runs =
            let moves : Goes (publishes_by job s.cuts u None) s.disk n.disk = subst (λ (o : Option Cause). Goes (publishes_by job s.cuts u o) s.disk n.disk) runs (step.moves t) in
            let has = delta_true s.disk n.disk s.core s.cuts u (running_true s d cuts shows runs sound) step.may.1 step.may.0 step.may.3 (step.right t) moves.0 in
            so_far (subst (λ (m : ℕ). HasTruth (job.course n.cuts) m (had_now n.disk)) (sym (ap (λ (c : Core). c.front.planned) step.core))
            (subst (λ (k : Cuts). HasTruth (job.course k) s.core.front.planned (had_now n.disk)) (sym step.cuts) has))
        by (Some f) stops =
            let kept : n.disk ≡ s.disk = subst (λ (o : Option Cause). Goes (publishes_by job s.cuts u o) s.disk n.disk) stops (step.moves t) in
            still_true s n kept step.cuts (ap (λ (c : Core). c.front.planned) step.core) (ap (λ (c : Core). c.ends) step.core) (ap (λ (c : Core). c.front.due) step.core) (ap (λ (c : Core). c.front.committed) step.core)
            (ap (λ (c : Core). c.front.settled) step.core ∙ ap (λ (o : Option Cause). is_stopped o && s.core.front.settled) stops)
            (λ (x : CallFailed s.core.front.stop). subst CallFailed (sym (ap (λ (c : Core). c.front.stop) step.core)) (failed_first s.core.front.stop (due s.core u None) x)) is
    step_true (entry.Missed u) s n d d' step cuts shows held sound cuts' shows' sound' is =
        let has = delta_true s.disk n.disk s.core s.cuts u (running_true s d cuts shows step.may.4 sound) step.may.1 step.may.0 step.may.3 (step.right t) (step.moves t) in
        so_far (subst (λ (m : ℕ). HasTruth (job.course n.cuts) m (had_now n.disk)) (sym (ap (λ (c : Core). c.front.planned) step.core))
        (subst (λ (k : Cuts). HasTruth (job.course k) s.core.front.planned (had_now n.disk)) (sym step.cuts) has))
    step_true (entry.Upkeep p v) s n d d' step cuts shows held sound cuts' shows' sound' is =
        still_true s n (step.moves t) step.cuts (ap (λ (c : Core). c.front.planned) step.core) (ap (λ (c : Core). c.ends) step.core) (ap (λ (c : Core). c.front.due) step.core) (ap (λ (c : Core). c.front.committed) step.core) (ap (λ (c : Core). c.front.settled) step.core)
        (λ (x : CallFailed s.core.front.stop). subst CallFailed (sym (ap (λ (c : Core). c.front.stop) step.core)) x) is
    step_true (entry.Snapshot p v) s n d d' step cuts shows held sound cuts' shows' sound' is = by s.core.front.stop refl
      where
        -- after a Stop nothing was done to the disk
        by : (o : Option Cause) → s.core.front.stop ≡ o → IsTrueState job r n
        by None runs = so_far (running_true n d' cuts' shows' (ap (λ (c : Core). c.front.stop) step.core ∙ runs) sound')
        by (Some f) stops =
            let kept : n.disk ≡ s.disk = subst (λ (o : Option Cause). Goes (makes_by job s.cuts p v o) s.disk n.disk) stops (step.moves t) in
            still_true s n kept step.cuts (ap (λ (c : Core). c.front.planned) step.core) (ap (λ (c : Core). c.ends) step.core) (ap (λ (c : Core). c.front.due) step.core) (ap (λ (c : Core). c.front.committed) step.core) (ap (λ (c : Core). c.front.settled) step.core)
            (λ (x : CallFailed s.core.front.stop). subst CallFailed (sym (ap (λ (c : Core). c.front.stop) step.core)) x) is
    step_true (entry.Unmade p v f) s n d d' step cuts shows held sound cuts' shows' sound' is =
        still_true s n (step.moves t) step.cuts (ap (λ (c : Core). c.front.planned) step.core) (ap (λ (c : Core). c.ends) step.core) (ap (λ (c : Core). c.front.due) step.core) (ap (λ (c : Core). c.front.committed) step.core) (ap (λ (c : Core). c.front.settled) step.core)
        (λ (x : CallFailed s.core.front.stop). subst CallFailed (sym (ap (λ (c : Core). c.front.stop) step.core)) (failed_first s.core.front.stop (Some f) x)) is
    step_true (entry.Untaken p v) s n d d' step cuts shows held sound cuts' shows' sound' is =
        let out = held.claimed p v step.keeps in
        let was = running_true s d cuts shows step.may sound in
        let has = file_tried s.disk n.disk s.cuts s.core.front.planned (name.Snapshot p v) was (snapshot_allowed s d p v cuts shows out (sound_by job s.core.front.stop d (had_now s.disk) step.may sound)) (step.moves t) in
        so_far (subst (λ (m : ℕ). HasTruth (job.course n.cuts) m (had_now n.disk)) (sym (ap (λ (c : Core). c.front.planned) step.core))
        (subst (λ (k : Cuts). HasTruth (job.course k) s.core.front.planned (had_now n.disk)) (sym step.cuts) has))
    step_true (entry.Drop q) s n d d' step cuts shows held sound cuts' shows' sound' is = so_far (running_true n d' cuts' shows' (ap (λ (c : Core). c.front.stop) step.core ∙ step.may) sound')
    step_true (entry.Undropped q) s n d d' step cuts shows held sound cuts' shows' sound' is =
        let was = running_true s d cuts shows step.may sound in
        let has : HasTruth (job.course s.cuts) s.core.front.planned (had_now n.disk) = elim (present_after s.disk n.disk (λ (had : Had). had ≡ removed q (had_now s.disk)) (step.moves t)) [
          | inl same ↦ subst (HasTruth (job.course s.cuts) s.core.front.planned) (sym same) was
          | inr gone ↦ subst (HasTruth (job.course s.cuts) s.core.front.planned) (sym gone) (removed_true (job.course s.cuts) s.core.front.planned (had_now s.disk) q was)
        ] in
        so_far (subst (λ (m : ℕ). HasTruth (job.course n.cuts) m (had_now n.disk)) (sym (ap (λ (c : Core). c.front.planned) step.core))
        (subst (λ (k : Cuts). HasTruth (job.course k) s.core.front.planned (had_now n.disk)) (sym step.cuts) has))
    step_true (entry.Stop f) s n d d' step cuts shows held sound cuts' shows' sound' is =
        let m = step.moves t in
        let mid : State = record { disk = n.disk; core = after r s.core (entry.Stop f); shelf = s.shelf; cuts = s.cuts } in
        still_true mid n refl step.cuts (ap (λ (c : Core). c.front.planned) step.core) (ap (λ (c : Core). c.ends) step.core) (ap (λ (c : Core). c.front.due) step.core) (ap (λ (c : Core). c.front.committed) step.core) (ap (λ (c : Core). c.front.settled) step.core)
        (λ (x : CallFailed (Some f)). subst CallFailed (sym (ap (λ (c : Core). c.front.stop) step.core)) x)
        (stop_true s.disk n.disk s.core s.cuts f m.0 step.may.1 (running_true s d cuts shows step.may.0 sound) m.1 m.2)

    -- what is due where no epoch is open
    abbrev IsDueSo : State → Type 0
    IsDueSo n = n.core.front.planned ≤ n.core.front.committed → n.core.front.due ≡ next n.cuts n.core.front.planned

    closed_due : (s : State) (d : Desk) → d.cuts ≡ s.cuts → Shows job r next terms s.core d → IsDueSo s
    closed_due s d cuts shows all = shows.due (le-ltb s.core.front.committed s.core.front.planned all) ∙ ap (λ (k : Cuts). next k s.core.front.planned) cuts

    -- and so it is of what entries lead to
    run_true : (es : List Entry) (s n : State) (d : Desk) → IsSound r s.core → d.cuts ≡ s.cuts → Shows job r next terms s.core d → ShowsShelf s.core s.shelf d → Sound job (shown s.disk s.core d) → IsTrueState job r s → Leads tells job r next s es n
        → IsTrueState job r n × (n.cuts n.core.front.planned ≡ n.core.ends) × IsDueSo n
    run_true [] s n d core cuts shows held sound is l =
        subst (λ (x : State). IsTrueState job r x × (x.cuts x.core.front.planned ≡ x.core.ends) × IsDueSo x) l (is, ap (λ (k : Cuts). k s.core.front.planned) (sym cuts) ∙ shows.ends, closed_due s d cuts shows)
    run_true (e ∷ es) s n d core cuts shows held sound is l =
        let mid = l.0 in
        let one = list_follows tells job r next terms t (e ∷ []) s mid d core cuts shows held (mid, l.1, refl) in
        let later : Sound job (shown mid.disk mid.core one.0) = (moves_on tells job (events_all r s.core (e ∷ [])) (shown s.disk s.core d) (shown mid.disk mid.core one.0) t terms.causal sound one.1).sound in
        run_true es mid n one.0 (subst (IsSound r) (sym l.1.core) (step_sound r s.core e l.1.may core)) one.2 one.3 one.4 later (step_true e s mid d one.0 l.1 cuts shows held sound one.2 one.3 later is) l.2

pub either_of : (a b : Bool) → (a || b) ≡ true → (a ≡ true) ⊎ (b ≡ true)
either_of true b is = inl refl
either_of false b is = inr is

-- said of other cuts that are the same so far
files_by : (job : Job) (r : Scope) (next : Cuts → ℕ → Bool) (terms : Terms job r next) (n : State) (cuts : Cuts) → IsTrueState job r n → n.cuts n.core.front.planned ≡ n.core.ends
    → (n.core.front.planned ≤ n.core.front.committed → n.core.front.due ≡ next n.cuts n.core.front.planned) → AreSameUpTo cuts n.cuts n.core.front.planned
    → AreFilesOf job r.cap next (λ found. found ≡ r.available) ((n.core.front.planned ≤ n.core.front.committed) × (n.core.front.settled ≡ true) × CallFailed n.core.front.stop) cuts n.core.front.planned n.disk
files_by job r next terms n cuts (so_far has) ends dues same =
    as_planned (now_true (job.course cuts) n.core.front.planned n.disk
    (agree_true (job.course n.cuts) (job.course cuts) n.core.front.planned (had_now n.disk) (terms.causal.agrees n.cuts cuts n.core.front.planned (λ e le. sym (same e le))) has))
files_by job r next terms n cuts (so_tried all settled failed more has) ends dues same =
    let k = n.core.front.planned in
    let here : cuts k ≡ n.core.ends = same k (omega arith) ∙ ends in
    let to = next_ends r.cap n.core.ends r.available in
    let comes : (is_behind (cuts k) r.available ≡ true) ⊎ (next cuts k ≡ true) = elim (either_of (is_behind n.core.ends r.available) n.core.front.due more) [
      | inl behind ↦ inl (ap (λ (l : Ends). is_behind l r.available) here ∙ behind)
      | inr due ↦ inr (terms.dues cuts n.cuts k same ∙ sym (dues all) ∙ due)
    ] in
    one_tried (all, settled, failed) r.available refl comes
    (subst (λ (l : Ends). LeavesNow n.disk (AreTriedTo (job.course (extended cuts k (next_ends r.cap l r.available))) k)) (sym here)
    (now_tried (job.course (extended cuts k to)) k n.disk
    (agree_tried (job.course (extended n.cuts k to)) (job.course (extended cuts k to)) k (had_now n.disk)
    (terms.causal.agrees (extended n.cuts k to) (extended cuts k to) (k + 1) (extended_same n.cuts cuts k to (λ e le. sym (same e le)))) has)))

pub round_leaves_true : (tells : Type 0) → tells → (job : Job) (r : Scope) (next : Cuts → ℕ → Bool) (terms : Terms job r next) (st : Start) (es : List Entry) (s n : State) → Begins job r next terms st s
    → Leads tells job r next s es n
    → (cuts : Cuts) → AreSameUpTo cuts n.cuts n.core.front.planned → AreFilesOf job r.cap next (λ found. found ≡ r.available) ((n.core.front.planned ≤ n.core.front.committed) × (n.core.front.settled ≡ true) × CallFailed n.core.front.stop) cuts n.core.front.planned n.disk
round_leaves_true tells t job r next terms st es s n b l cuts same =
    let here : Shows job r next terms s.core b.desk = subst (λ (x : Core). Shows job r next terms x b.desk) (sym b.core)
    (shows_first job r next terms st b.files b.desk b.at.committed b.at.begins b.at.from b.is st.is_planned b.at.planned b.at.to b.at.due) in
    let sound : IsSound r s.core = subst (IsSound r) (sym b.core) (first_sound r st b.at.start) in
    let sound_first : IsSoundAt job b.desk (had_now s.disk) = subst (λ (h : Had). IsSoundAt job b.desk h) (sym b.settled.is) (open_sound job b.files b.desk b.is) in
    let begun : Sound job (shown s.disk s.core b.desk) = subst (Sound job) (sym (shown_first r st s.disk s.core b.desk b.core)) sound_first in
    let first_true : IsTrueState job r s = so_far (subst (λ (m : ℕ). HasTruth (job.course s.cuts) m (had_now s.disk)) here.planned
    (subst (λ (k : Cuts). HasTruth (job.course k) b.desk.planned (had_now s.disk)) (sym b.cuts) (sound_true job b.desk (had_now s.disk) sound_first))) in
    let last = run_true job r next terms tells t es s n b.desk sound (sym b.cuts) here (begins_shelf job r next terms st s b) begun first_true l in
    files_by job r next terms n cuts last.0 last.1 last.2 same
