-- The files of a desk make the state of the snapshot that is due.
use Rattle.std.proofs.Common.{◌≡◌, ◌⊎◌, ◌<◌, ◌≤◌, ◌+◌, ◌^◌, ℕ, suc, true, List, [], length, Option, Some, None, refl, sym, ap, ◌∙◌, subst, inl, inr, arith}
use Rattle.std.specs.Prelude.{IfSome, IsSome, is_some}
use Rattle.ssq_outside.specs.declared.name.Name.{Name}
use Rattle.ssq_outside.specs.declared.name.Name.TheVariants as name
use Rattle.ssq_outside.specs.Files.{Content, Files}
use Rattle.ssq_outside.specs.History.{History, files_now}
use Rattle.ssq_upkeep.specs.Upkeep.{IsDue, is_among}
use Rattle.ssq_meaning.specs.Meaning.{Line}
use Rattle.ssq_version.specs.State.{State, IsState, between}
use Rattle.ssq_version.specs.Text.{delta_text, snapshot_text}
use Rattle.ssq_store.specs.Loaded.{AreTrue, IsDelta, IsSnapshot, Makes, content_in, files_in}
use Rattle.ssq_core.specs.Course.{Course, Cuts, truth}
use Rattle.ssq_core.specs.Sound.{is_state}
use Rattle.ssq_core.proofs.Files.{true_there}
use Rattle.ssq_course.specs.Setting.{Setting, course_of, job_of, state_at}
use Rattle.ssq_open.specs.Jobs.{IsVersion}
use Rattle.ssq_board.specs.Shelf.{asked_in, last_of, there_in}
use Rattle.ssq_promise.specs.Run.{KnowsState}
use Rattle.ssq_promise.proofs.Knowing.{round_knows_state, false_true}
use Rattle.ssq_terms.specs.Laws.{StatesAreJobs, TasksHaveTerms, due_at}
use Rattle.ssq_terms.specs.Opening.{DeskOpensAsFound}
use Rattle.ssq_ledger.specs.Names.{IsNewestBelow}
use Rattle.ssq_ledger.specs.Shown.{LeadsHere, Shown, cuts_of, first_state, shelf_of, state}
use Rattle.ssq_desk.specs.declared.round.Round.{Round}
use Rattle.ssq_desk.specs.Contents.{keeping_in}
use Rattle.ssq_desk.specs.Round.{IsRound, Owns, setting_of}
use Rattle.ssq_desk.specs.Upkeep.{IsReadBy, IsUnread, files_for, names_in}
use Rattle.ssq_desk.specs.Whole.{opening_in}
use Rattle.ssq_desk.proofs.Beginnings.{begins_on}
use Rattle.ssq_desk.proofs.Missing.{missing_is_absent}
use Rattle.ssq_desk.proofs.Readings.{IsNeeded, a_delta, a_snapshot, floor_of, needed_is, needs_delta, needs_snapshot, read_is, some_read}

-- the newest snapshot lies below
pub newest_older : (p v : ℕ) (names : List Name) (below : Option ℕ) → IsNewestBelow p v names below → IfSome below (λ b. b < v)
newest_older p v names None newest = tt
newest_older p v names (Some b) newest = newest.0

-- ---- any course

module _ (course : Course) (states : ℕ → State) (files : Files) (names : List Name) (p v : ℕ)
    (first : states 0 ≡ [])
    (versions : (w : ℕ) → w ≤ v → IsVersion course p w (states w) (states (w + 1)))
    (true_file : (q : Name) → is_some (files q) ≡ true → files q ≡ Some (truth course q))
    (there : (q : Name) → is_state q ≡ true → is_some (files q) ≡ is_among names q)
    (deltas : (w : ℕ) → w ≤ v → (is_among names (name.Delta p w) ≡ true) ⊎ ((s : ℕ) × (w ≤ s) × (s < v) × (is_among names (name.Snapshot p s) ≡ true)))
    (below : Option ℕ) (newest : IsNewestBelow p v names below) where
  -- each delta from the floor on is there
  delta_there : (w : ℕ) → floor_of below ≤ w → w ≤ v → is_some (files (name.Delta p w)) ≡ true
  delta_there w from to = elim (deltas w to) [
    | inl here ↦ there (name.Delta p w) refl ∙ here
    | inr cover ↦ by below refl newest cover
  ]
    where
      by : (o : Option ℕ) → below ≡ o → IsNewestBelow p v names o → ((s : ℕ) × (w ≤ s) × (s < v) × (is_among names (name.Snapshot p s) ≡ true)) → is_some (files (name.Delta p w)) ≡ true
      by None is none cover = false_true (sym (none cover.0 cover.2) ∙ cover.3)
      by (Some b) is most cover = absurd (let f : floor_of below ≡ b + 1 = ap floor_of is in let m = most.2 cover.0 cover.2 cover.3 in let le = cover.1 in omega (arith, f, from, m, le))

  -- so is each file that is needed
  pub needed_there : (q : Name) → is_among (files_for p v below) q ≡ true → is_some (files q) ≡ true
  needed_there q among = by (needed_is p v below (newest_older p v names below newest) q among)
    where
      by : IsNeeded p v below q → is_some (files q) ≡ true
      by (a_delta w is from to) = ap (λ (x : Name). is_some (files x)) is ∙ delta_there w from to
      by (a_snapshot b at is) = ap (λ (x : Name). is_some (files x)) is ∙ there (name.Snapshot p b) refl ∙ (subst (IsNewestBelow p v names) at newest).1

  module _ (change : (p v : ℕ) (before after : State) → IsState before → IsState after → length (between before after) < 2 ^ 64 → IsDelta (Some (delta_text p v (between before after))) p v before after)
      (made : (files : Files) (p n floor : ℕ) (states : ℕ → State) → AreTrue files p n floor states → Makes files p n (states n))
      (read : List (Name × List ℕ)) (are : names_in read ≡ files_for p v below) (found : (q : Name) → is_among (names_in read) q ≡ true → content_in read q ≡ files q) where
    own : (q : Name) → is_among (names_in read) q ≡ true → content_in read q ≡ Some (truth course q)
    own q among = found q among ∙ true_file q (needed_there q (ap (λ l. is_among l q) (sym are) ∙ among))

    next : (w : ℕ) → w + 1 ≡ suc w
    next w = omega arith

    snapshot_is : (w : ℕ) → w ≤ v → is_some (content_in read (name.Snapshot p w)) ≡ true → IsSnapshot (content_in read (name.Snapshot p w)) p w (states (w + 1))
    snapshot_is w le here =
        let version = versions w le in
        record { kept = version.is_kept; few = version.few; is = own (name.Snapshot p w) (some_read read (name.Snapshot p w) here) ∙ ap Some version.whole }

    delta_is : (w : ℕ) → floor_of below ≤ w → w ≤ v → IsDelta (content_in read (name.Delta p w)) p w (states w) (states (w + 1))
    delta_is w from le =
        let version = versions w le in
        let among : is_among (names_in read) (name.Delta p w) ≡ true = ap (λ l. is_among l (name.Delta p w)) are ∙ needs_delta p v below (newest_older p v names below newest) w from le in
        subst (λ (c : Content). IsDelta c p w (states w) (states (w + 1))) (sym (own (name.Delta p w) among ∙ ap Some version.change)) (change p w (states w) (states (w + 1)) version.was_kept version.is_kept version.few_changes)

    based : (o : Option ℕ) → below ≡ o → (floor_of below ≡ 0) ⊎ ((w : ℕ) × (floor_of below ≡ suc w) × (w < v + 1) × IsSome (files_in read (name.Snapshot p w)))
    based None is = inl (ap floor_of is)
    based (Some b) is = inr (
      b,
      ap floor_of is ∙ next b,
      (let less = (subst (IsNewestBelow p v names) is newest).0 in omega (arith, less)),
      ap is_some (own (name.Snapshot p b) (ap (λ l. is_among l (name.Snapshot p b)) are ∙ ap (λ o. is_among (files_for p v o) (name.Snapshot p b)) is ∙ needs_snapshot p v b)),
    )

    pub makes_state : Makes (files_in read) p (v + 1) (states (v + 1))
    makes_state = made (files_in read) p (v + 1) (floor_of below) states (record {
      first = first;
      snapshots = λ w less here. subst (λ (e : ℕ). IsSnapshot (content_in read (name.Snapshot p w)) p w (states e)) (next w) (snapshot_is w (omega (arith, less)) here);
      deltas = λ w from less. subst (λ (e : ℕ). IsDelta (content_in read (name.Delta p w)) p w (states w) (states e)) (next w) (delta_is w from (omega (arith, less)));
      base = based below refl;
    })

-- ---- a desk

module _ {D L : Type 0} (stores logs : Type 0) (history : D → History) (lines : L → List Line) (shown : Shown D (Round L)) (round : IsRound (setting_of lines shown.opening) shown.opening.opened shown.scope)
    (have : TasksHaveTerms) (opens : DeskOpensAsFound) (of : StatesAreJobs) (here : Owns stores logs history lines shown → LeadsHere (Owns stores logs history lines shown) history (opening_in lines) shown) (runs : shown.core.front.stop ≡ None)
    (p v : ℕ) (keeps : p < keeping_in (setting_of lines shown.opening)) (due : IsDue (asked_in (shelf_of (opening_in lines) shown)) (shelf_of (opening_in lines) shown).settled p (last_of shown.core) v)
    (t : Owns stores logs history lines shown) where
  abbrev owned : Type 0
  owned = Owns stores logs history lines shown

  abbrev s : Setting
  s = setting_of lines shown.opening

  abbrev cuts : Cuts
  cuts = cuts_of (opening_in lines) shown

  abbrev names : List Name
  names = there_in (shelf_of (opening_in lines) shown)

  abbrev states : ℕ → State
  states = state_at s cuts p

  knows : KnowsState (job_of s) (state (history shown.disk) shown.core (shelf_of (opening_in lines) shown) cuts) p v
  knows =
      let o = opening_in lines shown.opening in
      let begin = begins_on owned s shown.opening.opened shown.scope round {start = history shown.opened} (λ t. t.1.1) have opens t in
      round_knows_state owned t (job_of s) shown.scope (due_at s) begin.0 o.start shown.history (first_state o shown.scope (history shown.opened)) (state (history shown.disk) shown.core (shelf_of (opening_in lines) shown) cuts) begin.1 (here t) runs
      (keeping_in s) (λ cuts. refl) p v keeps due

  versions : (w : ℕ) → w ≤ v → IsVersion (course_of s cuts) p w (states w) (states (w + 1))
  versions w le =
      let own = t.1.1 in
      (of s s.job.bound own.asks own.lens own.setting own.lines).versions cuts shown.core.front.planned p w knows.proper knows.few (let less = knows.planned in omega (arith, le, less)) keeps

  first : states 0 ≡ []
  first = (let own = t.1.1 in (of s s.job.bound own.asks own.lens own.setting own.lines).first cuts p)

  true_file : (q : Name) → is_some (files_now (history shown.disk) q) ≡ true → files_now (history shown.disk) q ≡ Some (truth (course_of s cuts) q)
  true_file q here = true_there (files_now (history shown.disk)) q (truth (course_of s cuts) q) (knows.are_true q) here

  -- no file that is needed is missing
  pub never_missing : stores → (q : Name) → IsUnread stores (files_now (history shown.disk)) p v names q → ⊥
  never_missing tells q unread =
      false_true (sym (ap is_some (missing_is_absent (files_now (history shown.disk)) (files_for p v unread.below) q (unread.unfound.1 tells))) ∙ needed_there (course_of s cuts) states (files_now (history shown.disk)) names p v first versions true_file knows.there knows.deltas unread.below unread.newest q unread.unfound.0)

  -- what was read makes the state
  pub read_makes : (change : (p v : ℕ) (before after : State) → IsState before → IsState after → length (between before after) < 2 ^ 64 → IsDelta (Some (delta_text p v (between before after))) p v before after)
      → ((files : Files) (p n floor : ℕ) (states : ℕ → State) → AreTrue files p n floor states → Makes files p n (states n))
      → (read : List (Name × List ℕ)) → IsReadBy stores (files_now (history shown.disk)) p v names read
      → (state : State) × Makes (files_in read) p (v + 1) state × (truth (course_of s cuts) (name.Snapshot p v) ≡ snapshot_text p v state)
  read_makes change made read is = (
    states (v + 1),
    makes_state (course_of s cuts) states (files_now (history shown.disk)) names p v first versions true_file knows.there knows.deltas is.below is.newest change made read is.are (read_is (files_now (history shown.disk)) read (is.found t.0)),
    (versions v (omega arith)).whole,
  )
