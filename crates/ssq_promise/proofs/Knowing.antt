-- Which files of a partition's state a desk has: each delta that was committed is there, or a settled snapshot stands for it.
use Rattle.std.proofs.Common.{◌≡◌, ◌⊎◌, ◌<◌, ◌≤◌, ◌+◌, ◌==◌, ◌&&◌, [], ◌∷◌, ℕ, Bool, true, false, true≢false, List, Option, Some, None, if◌then◌else◌, refl, sym, ap, ◌∙◌, subst, inl, inr, arith}
use Rattle.std.specs.Prelude.{is_some}
use Rattle.std.proofs.lemmas.Bool.{cases_lt, and_parts, eqb-true, or_left}
use Rattle.std.proofs.lemmas.Bool.Decides.{nat_tests}
use Rattle.ssq_outside.specs.declared.name.Name.{Name}
use Rattle.ssq_outside.specs.declared.name.Name.TheVariants as name
use Rattle.ssq_outside.specs.declared.gate.TaskId.{TaskId}
use Rattle.ssq_outside.specs.declared.gate.Kind.{Kind}
use Rattle.ssq_outside.specs.declared.gate.Kind.TheVariants as kind
use Rattle.ssq_outside.specs.Files.{Files, Content, Had, files_of, same_name}
use Rattle.ssq_outside.specs.History.{History, had_now, files_now}
use Rattle.ssq_outside.proofs.Steps.{files_are_image}
use Rattle.ssq_upkeep.specs.Upkeep.{IsDue, MayGo, is_among, is_up_to}
use Rattle.ssq_upkeep.proofs.Among.{among_both}
use Rattle.ssq_core.specs.declared.event.Event.{Event}
use Rattle.ssq_core.specs.declared.event.Event.TheVariants as event
use Rattle.ssq_core.specs.Course.{Course, Cuts, Job, truth}
use Rattle.ssq_core.specs.Standing.{CanLoad}
use Rattle.ssq_core.specs.Staying.{IsNoOther}
use Rattle.ssq_core.specs.Machine as machine
use Rattle.ssq_core.specs.Machine.{Desk, Seals, SealsBy, back, failed, life_after, opened, out, running, placed, with_commit, with_file, with_plan, with_store, with_sync, without_file}
use Rattle.ssq_core.specs.Sound.{Sound, IsSoundAt, AreProper, is_state}
use Rattle.ssq_core.proofs.Moves.{moves_on, open_sound}
use Rattle.ssq_board.specs.declared.front.Cause.{Cause}
use Rattle.ssq_board.specs.declared.front.Entry.{Entry}
use Rattle.ssq_board.specs.Core.{Scope, Core, events_all}
use Rattle.ssq_board.specs.Shown.{Start, IsSound}
use Rattle.ssq_board.specs.Shelf.{Shelf, there_in, asked_in, last_of}
use Rattle.ssq_board.specs.Follows.{Terms, State, Leads, Shows, ShowsShelf, shown}
use Rattle.ssq_board.proofs.Following.{list_follows}
use Rattle.ssq_board.proofs.Opening.{shows_first}
use Rattle.ssq_board.proofs.Sounds.{first_sound}
use Rattle.ssq_board.proofs.Upkeeping.{still_sure}
use Rattle.ssq_promise.specs.Run.{Begins, KnowsState}
use Rattle.ssq_promise.proofs.Joining.{shown_first, begins_shelf}
use Rattle.ssq_promise.proofs.Leaving.{sound_by}

pub false_true : {A : Type 0} → false ≡ true → A
false_true e = absurd (true≢false (sym e))

if_more : (b x : Bool) → x ≡ true → (if b then true else x) ≡ true
if_more true x is = refl
if_more false x is = is

abbrev some_of : {A : Type 0} → (default : A) → Option A → A
some_of default None = default
some_of default (Some x) = x

-- a settled snapshot of this version or a later one stands for the delta, and lies 20 below an acknowledged epoch
abbrev IsCovered : Desk → (p v : ℕ) → Type 0
IsCovered d p v = (s : ℕ) × (v ≤ s) × (d.sure (name.Snapshot p s) ≡ true) × (d.sure (name.Commit (s + 20)) ≡ true)

module _ (keeping : ℕ) where
  pub record IsKnown (d : Desk) : Type 0 where
    pub sure : (q : Name) → d.sure q ≡ true → d.there q ≡ true
    pub deltas : (p v : ℕ) → p < keeping → v < d.committed → (d.there (name.Delta p v) ≡ true) ⊎ IsCovered d p v

  -- files came, and nothing else
  grown : (d n : Desk) → ((q : Name) → d.there q ≡ true → n.there q ≡ true) → n.sure ≡ d.sure → n.committed ≡ d.committed → IsKnown d → IsKnown n
  grown d n more sure count k = record {
    sure = λ q is. more q (k.sure q (ap (λ f. f q) (sym sure) ∙ is));
    deltas = λ p v keeps less. elim (k.deltas p v keeps (subst (λ (m : ℕ). v < m) count less)) [
      | inl there ↦ inl (more (name.Delta p v) there)
      | inr covered ↦ inr (covered.0, covered.1, ap (λ f. f (name.Snapshot p covered.0)) sure ∙ covered.2, ap (λ f. f (name.Commit (covered.0 + 20))) sure ∙ covered.3)
    ];
  }

  -- one file came
  filed : (q : Name) (d : Desk) → IsKnown d → IsKnown (with_file q d)
  filed q d k = grown d (with_file q d) (λ r is. if_more (same_name r q) (d.there r) is) refl refl k

  -- names were synced
  synced : (d : Desk) → IsKnown d → IsKnown (with_sync d)
  synced d k = record {
    sure = λ q is. is;
    deltas = λ p v keeps less. elim (k.deltas p v keeps less) [
      | inl there ↦ inl there
      | inr covered ↦ inr (covered.0, covered.1, k.sure (name.Snapshot p covered.0) covered.2, k.sure (name.Commit (covered.0 + 20)) covered.3)
    ];
  }

  -- an epoch was committed, with all its deltas
  done : (d : Desk) → ((p : ℕ) → p < keeping → d.sure (name.Delta p d.committed) ≡ true) → IsKnown d → IsKnown (with_commit d)
  done d all k = record {
    sure = k.sure;
    deltas = λ p v keeps less. elim (cases_lt v d.committed) [
      | inl before ↦ k.deltas p v keeps before
      | inr last ↦ inl (let is : d.committed ≡ v = omega (arith, less, last) in subst (λ (e : ℕ). d.there (name.Delta p e) ≡ true) is (k.sure (name.Delta p d.committed) (all p keeps)))
    ];
  }

  -- a delta was removed
  dropped_delta : (d : Desk) (p s v : ℕ) → d.sure (name.Snapshot p s) ≡ true → d.sure (name.Commit (s + 20)) ≡ true → v ≤ s → IsKnown d → IsKnown (without_file (name.Delta p v) d)
  dropped_delta d p s v sure acked most k = record {
    sure = λ q is. still_sure (same_name q (name.Delta p v)) (d.sure q) (d.there q) (k.sure q) is;
    deltas = λ o w keeps less. elim (k.deltas o w keeps less) [
      | inl there ↦ by o w there (o == p && w == v) refl
      | inr covered ↦ inr covered
    ];
  }
    where
      by : (o w : ℕ) → d.there (name.Delta o w) ≡ true → (b : Bool) → (o == p && w == v) ≡ b → ((without_file (name.Delta p v) d).there (name.Delta o w) ≡ true) ⊎ IsCovered (without_file (name.Delta p v) d) o w
      by o w there false is = inl (ap (λ (b : Bool). if b then false else d.there (name.Delta o w)) is ∙ there)
      by o w there true is =
          let both = and_parts (o == p) (w == v) is in
          let same : o ≡ p = eqb-true o p both.0 in
          let last : w ≡ v = eqb-true w v both.1 in
          inr (s, omega (arith, last, most), ap (λ (n : ℕ). d.sure (name.Snapshot n s)) same ∙ sure, acked)

  -- a snapshot was removed
  dropped_snapshot : (d : Desk) (p s v : ℕ) → d.sure (name.Snapshot p s) ≡ true → d.sure (name.Commit (s + 20)) ≡ true → v < s → IsKnown d → IsKnown (without_file (name.Snapshot p v) d)
  dropped_snapshot d p s v sure acked below k = record {
    sure = λ q is. still_sure (same_name q (name.Snapshot p v)) (d.sure q) (d.there q) (k.sure q) is;
    deltas = λ o w keeps less. elim (k.deltas o w keeps less) [
      | inl there ↦ inl there
      | inr covered ↦ inr (by o w covered (o == p && covered.0 == v) refl)
    ];
  }
    where
      and_last : (a b : Bool) → b ≡ false → (a && b) ≡ false
      and_last true b e = e
      and_last false b e = refl

      other : (s == v) ≡ false
      other = grind (arith, nat_tests)

      by : (o w : ℕ) (c : IsCovered d o w) (b : Bool) → (o == p && c.0 == v) ≡ b → IsCovered (without_file (name.Snapshot p v) d) o w
      by o w c false is = (c.0, c.1, ap (λ (b : Bool). if b then false else d.sure (name.Snapshot o c.0)) is ∙ c.2, c.3)
      by o w c true is =
          let both = and_parts (o == p) (c.0 == v) is in
          let same : o ≡ p = eqb-true o p both.0 in
          let last : c.0 ≡ v = eqb-true c.0 v both.1 in
          let less = c.1 in
          (s, omega (arith, less, last, below), ap (λ (b : Bool). if b then false else d.sure (name.Snapshot o s)) (and_last (o == p) (s == v) other) ∙ ap (λ (n : ℕ). d.sure (name.Snapshot n s)) same ∙ sure, acked)

  dropped : (q : Name) (d : Desk) → MayGo d.sure q → IsKnown d → IsKnown (without_file q d)
  dropped q d may k = elim may.is [
    | inl delta ↦ subst (λ (r : Name). IsKnown (without_file r d)) (sym delta.0) (dropped_delta d may.p may.s may.v may.snapshot may.acknowledged delta.1 k)
    | inr snapshot ↦ subst (λ (r : Name). IsKnown (without_file r d)) (sym snapshot.0) (dropped_snapshot d may.p may.s may.v may.snapshot may.acknowledged snapshot.1 k)
  ]

  module _ (tells : Type 0) (job : Job) (keeps : (cuts : Cuts) → (job.course cuts).keeping ≡ keeping) where
    -- a desk that opens
    pub opens_known : (files : Files) (d : Desk) → opened job files d → IsKnown d
    opens_known files d is = record {
      sure = λ q sure. is.2 q ∙ sym (is.3 q) ∙ sure;
      deltas = λ p v less before. by p v before (is.0.loads p (subst (λ (n : ℕ). p < n) (sym (keeps d.cuts)) less));
    }
      where
        by : (p v : ℕ) → v < d.committed → CanLoad files p d.committed → (d.there (name.Delta p v) ≡ true) ⊎ IsCovered d p v
        by p v before load = elim (cases_lt v load.from) [
          | inl below ↦ elim load.base [
            | inl none ↦ absurd (omega (arith, below, none))
            | inr floor ↦ inr (
              floor.0,
              (let a = floor.1 in omega (arith, a, below)),
              is.3 (name.Snapshot p floor.0) ∙ floor.3,
              is.3 (name.Commit (floor.0 + 20)) ∙ is.0.needed (name.Commit (floor.0 + 20)) (let a = floor.2 in grind (arith, nat_tests)),
            )
          ]
          | inr from ↦ inl (is.2 (name.Delta p v) ∙ load.deltas v from before)
        ]

    -- a task is elsewhere
    moved : (t : TaskId) (place : machine.Place) (d : Desk) → IsKnown d → IsKnown (placed t place d)
    moved t place d k = record { sure = k.sure; deltas = k.deltas }

    sealed : (course : Course) (d : Desk) (t : TaskId) (bytes : List ℕ) (n : Desk) (k : Kind) → SealsBy course d t bytes n k → IsKnown d → IsKnown n
    sealed course d t bytes n kind.Map seals k = absurd seals
    sealed course d t bytes n kind.Reduce seals k = subst IsKnown (sym seals.3) (record { sure = k.sure; deltas = k.deltas })
    sealed course d t bytes n kind.Out seals k = subst IsKnown (sym seals.1) (moved t (machine.sealed bytes) d k)
    sealed course d t bytes n kind.Upkeep seals k = subst IsKnown (sym seals.1) (moved t (machine.sealed bytes) d k)

    abbrev AreKnown : machine.State → Type 0
    AreKnown s = (d : Desk) → s.desk ≡ Some d → IsKnown d

    via : (s n : machine.State) → AreKnown s → (d d' : Desk) (desk : Option Desk) (disk : History) (life : machine.Life) → s.desk ≡ Some d → desk ≡ Some d' → n ≡ record { disk = disk; desk = desk; life = life } → (IsKnown d → IsKnown d') → AreKnown n
    via s n known d d' desk disk life here there is next = λ x at. subst IsKnown (ap (some_of d') (sym there ∙ sym (ap (λ (y : machine.State). y.desk) is) ∙ at)) (next (known d here))

    none : (n : machine.State) → n.desk ≡ None → AreKnown n
    none n is = λ x at. absurd (no x (sym is ∙ at))
      where
        no : (x : Desk) → ◌≡◌ {A = Option Desk} None (Some x) → ⊥
        no x e = cc

    pub step_known : (e : Event) (s n : machine.State) → machine.Step tells job s e n → AreKnown s → AreKnown n
    step_known event.Init s n st known = none n (ap (λ (y : machine.State). y.desk) st.4 ∙ st.2.5)
    step_known event.Open s n st known = λ x at. subst IsKnown (ap (some_of st.2.0) (sym st.2.6 ∙ sym (ap (λ (y : machine.State). y.desk) st.4) ∙ at)) (opens_known (files_now s.disk) st.2.0 st.2.4)
    step_known (event.Plan e) s n st known = via s n known st.2.0 st.2.1 st.1 n.disk (life_after s.life st.0) st.2.2 st.2.3 st.4 (λ k. subst IsKnown (sym st.2.4.9) (filed (name.Plan e) (with_plan st.2.4.0 st.2.0) (record { sure = k.sure; deltas = k.deltas })))
    step_known (event.Claim t) s n st known = via s n known st.2.0 st.2.1 st.1 n.disk (life_after s.life st.0) st.2.2 st.2.3 st.4 (λ k. subst IsKnown (sym st.2.4.3) (moved t out st.2.0 k))
    step_known (event.Seal t) s n st known = via s n known st.2.0 st.2.1 st.1 n.disk (life_after s.life st.0) st.2.2 st.2.3 st.4 (λ k. sealed (job.course st.2.0.cuts) st.2.0 t st.2.4.0 st.2.1 t.kind st.2.4.2 k)
    step_known (event.Report t) s n st known = via s n known st.2.0 st.2.1 st.1 n.disk (life_after s.life st.0) st.2.2 st.2.3 st.4 (λ k.
        let d = st.2.0 in
        elim st.2.4 [
          | inl lost ↦ subst IsKnown (sym lost.2) (moved t failed d k)
          | inr came ↦ elim came.2 [
            | inl quiet ↦ subst IsKnown (sym quiet.1) (moved t (back ((job.course d.cuts).is_fault t) came.0) d k)
            | inr more ↦ elim more [
              | inl brings ↦ subst IsKnown (sym brings.6) (filed (name.Delta t.number t.epoch) (placed t (back false came.0) d) (moved t (back false came.0) d k))
              | inr missed ↦ subst IsKnown (sym missed.6) (moved t (back false came.0) d k)
            ]
          ]
        ])
    step_known (event.OutFile e) s n st known = via s n known st.2.0 st.2.1 st.1 n.disk (life_after s.life st.0) st.2.2 st.2.3 st.4 (λ k. subst IsKnown (sym st.2.4.5) (filed (name.Out e) st.2.0 k))
    step_known (event.Sync clock) s n st known = via s n known st.2.0 st.2.1 st.1 n.disk (life_after s.life st.0) st.2.2 st.2.3 st.4 (λ k. subst IsKnown (sym st.2.4.2) (synced st.2.0 k))
    step_known (event.Commit e) s n st known = via s n known st.2.0 st.2.1 st.1 n.disk (life_after s.life st.0) st.2.2 st.2.3 st.4 (λ k.
        let d = st.2.0 in
        let at : d.committed ≡ e = st.2.4.2.is in
        subst IsKnown (sym st.2.4.7) (filed (name.Commit e) (with_commit d) (done d (λ p less. subst (λ (x : ℕ). d.sure (name.Delta p x) ≡ true) (sym at) (st.2.4.5 p (subst (λ (m : ℕ). p < m) (sym (keeps d.cuts)) less))) k)))
    step_known (event.Snapshot p v) s n st known = via s n known st.2.0 st.2.1 st.1 n.disk (life_after s.life st.0) st.2.2 st.2.3 st.4 (λ k. subst IsKnown (sym st.2.4.4) (filed (name.Snapshot p v) st.2.0 k))
    step_known (event.Drop q) s n st known = via s n known st.2.0 st.2.1 st.1 n.disk (life_after s.life st.0) st.2.2 st.2.3 st.4 (λ k. subst IsKnown (sym st.2.4.3) (dropped q st.2.0 st.2.4.1 k))
    step_known event.Stop s n st known = λ x at. known x (sym (ap (λ (y : machine.State). y.desk) st.4) ∙ at)
    step_known event.End s n st known = none n (ap (λ (y : machine.State). y.desk) st)
    step_known event.Crash s n st known = none n (ap (λ (y : machine.State). y.desk) st.2)

    pub run_known : (es : List Event) (s n : machine.State) → machine.Leads tells job s es n → AreKnown s → AreKnown n
    run_known [] s n l known = subst AreKnown l known
    run_known (e ∷ es) s n l known = run_known es l.0 n l.2 (step_known e s l.0 l.1 known)

-- ---- a desk

trichotomy : (s v : ℕ) → (s < v) ⊎ ((s ≡ v) ⊎ (v < s))
trichotomy s v = elim (cases_lt s v) [
  | inl less ↦ inl less
  | inr most ↦ elim (cases_lt v s) [ inl above ↦ inr (inr above) | inr same ↦ inr (inl (omega (arith, most, same))) ]
]

module _ (keeping : ℕ) (c : Core) (k : Shelf) (d : Desk) (known : IsKnown keeping d) (held : ShowsShelf c k d) (committed : d.committed ≡ c.front.committed) (p v : ℕ) (keeps : p < keeping) (due : IsDue (asked_in k) k.settled p (last_of c) v) where
  -- what is due is acknowledged
  pub due_committed : v < c.front.committed
  due_committed = elim (cases_lt v c.front.committed) [
    | inl less ↦ less
    | inr most ↦ false_true (sym (held.commits v most) ∙ known.sure (name.Commit v) (held.acknowledged v ∙ due.acknowledged))
  ]

  pub due_deltas : (w : ℕ) → w ≤ v → (is_among (there_in k) (name.Delta p w) ≡ true) ⊎ ((s : ℕ) × (w ≤ s) × (s < v) × (is_among (there_in k) (name.Snapshot p s) ≡ true))
  due_deltas w le = elim (known.deltas p w keeps (let less = due_committed in omega (arith, le, less, committed))) [
    | inl there ↦ inl (sym (held.names (name.Delta p w) refl) ∙ there)
    | inr cover ↦ (let there : is_among (there_in k) (name.Snapshot p cover.0) ≡ true = sym (held.names (name.Snapshot p cover.0) refl) ∙ known.sure (name.Snapshot p cover.0) cover.2 in
        elim (trichotomy cover.0 v) [
          | inl below ↦ inr (cover.0, cover.1, below, there)
          | inr other ↦ elim other [
            | inl same ↦ false_true (sym due.absent ∙ among_both (there_in k) k.claimed (name.Snapshot p v) ∙ or_left (is_among (there_in k) (name.Snapshot p v)) (is_among k.claimed (name.Snapshot p v)) (subst (λ (s : ℕ). is_among (there_in k) (name.Snapshot p s) ≡ true) same there))
            | inr above ↦ false_true (sym (due.stays cover.0 above (sym (held.sure (name.Snapshot p cover.0) refl) ∙ cover.2)) ∙ sym (held.acknowledged (cover.0 + 20)) ∙ cover.3)
          ]
        ])
  ]

pub round_knows_state : (tells : Type 0) → tells → (job : Job) (r : Scope) (next : Cuts → ℕ → Bool) (terms : Terms job r next) (st : Start) (es : List Entry) (s n : State) → Begins job r next terms st s
    → Leads tells job r next s es n → n.core.front.stop ≡ None → (keeping : ℕ) → ((cuts : Cuts) → (job.course cuts).keeping ≡ keeping)
    → (p v : ℕ) → p < keeping → IsDue (asked_in n.shelf) n.shelf.settled p (last_of n.core) v → KnowsState job n p v
round_knows_state tells t job r next terms st es s n b l runs keeping keeps p v less due =
    let here : Shows job r next terms s.core b.desk = subst (λ (x : Core). Shows job r next terms x b.desk) (sym b.core)
    (shows_first job r next terms st b.files b.desk b.at.committed b.at.begins b.at.from b.is st.is_planned b.at.planned b.at.to b.at.due) in
    let sound : IsSound r s.core = subst (IsSound r) (sym b.core) (first_sound r st b.at.start) in
    let f = list_follows tells job r next terms t es s n b.desk sound (sym b.cuts) here (begins_shelf job r next terms st s b) l in
    let begun : IsSoundAt job b.desk (had_now s.disk) = subst (λ (h : Had). IsSoundAt job b.desk h) (sym b.settled.is) (open_sound job b.files b.desk b.is) in
    let first : Sound job (shown s.disk s.core b.desk) = subst (Sound job) (sym (shown_first r st s.disk s.core b.desk b.core)) begun in
    let last : IsSoundAt job f.0 (had_now n.disk) = sound_by job n.core.front.stop f.0 (had_now n.disk) runs (moves_on tells job (events_all r s.core es) (shown s.disk s.core b.desk) (shown n.disk n.core f.0) t terms.causal first f.1).sound in
    let shows : Shows job r next terms n.core f.0 = f.3 in
    let held : ShowsShelf n.core n.shelf f.0 = f.4 in
    let known : IsKnown keeping f.0 = run_known keeping tells job keeps (events_all r s.core es) (shown s.disk s.core b.desk) (shown n.disk n.core f.0) f.1
    (λ d at. subst (IsKnown keeping) (ap (some_of b.desk) at) (opens_known keeping tells job keeps b.files b.desk b.is)) f.0 refl in
    let less_planned = due_committed keeping n.core n.shelf f.0 known held shows.committed p v less due in record {
      planned = (let reached = last.holds.reached.planned_first in let a = shows.committed in let b = shows.planned in omega (arith, reached, a, b, less_planned));
      proper = subst (λ (cuts : Cuts). AreProper job cuts n.core.front.planned) f.2 shows.proper;
      few = (let few = last.holds.reached.few in let b = shows.planned in omega (arith, few, b));
      are_true = λ q. subst (λ (cuts : Cuts). IsNoOther (files_now n.disk) q (truth (job.course cuts) q)) f.2 (last.holds.are_true q (files_now n.disk q) (files_are_image (had_now n.disk) q));
      there = λ q is. sym (last.there q) ∙ held.names q is;
      deltas = due_deltas keeping n.core n.shelf f.0 known held shows.committed p v less due;
    }
