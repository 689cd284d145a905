-- How a round went, by its desk.
use Rattle.std.proofs.Common.{◌≡◌, ◌≢◌, ◌⊎◌, ◌<◌, ◌≤◌, ◌+◌, ◌-◌, ◌||◌, nat_lt, ℕ, Bool, true, false, true≢false, List, [], ◌∷◌, length, map, get_or, slice_get, Option, Some, None, IfSome, IsSomeAnd, Ok, Err, if◌then◌else◌, sym, refl, ap, ◌∙◌, subst, inl, inr, arith, le-ltb, ltb-true}
use Rattle.std.specs.List.{list_any}
use Rattle.std.proofs.lemmas.Bool.{ltb-false}
use Rattle.std.proofs.lemmas.List.{length-map}
use Rattle.ssq_outside.specs.declared.name.Name.TheVariants as name
use Rattle.ssq_outside.specs.Files.{Files}
use Rattle.ssq_outside.specs.History.{History, LeavesNow, files_now}
use Rattle.ssq_meaning.specs.Meaning.{Line, Values}
use Rattle.ssq_meaning.specs.Epochs.{fault, of_key}
use Rattle.ssq_meaning.specs.Times.{Delay, delays}
use Rattle.ssq_meaning.proofs.Causal.{says_same}
use Rattle.ssq_plans.specs.declared.plan.Plan.{Plan}
use Rattle.ssq_plans.specs.declared.meta.Meta.{Meta}
use Rattle.ssq_plans.specs.declared.seen.SeenBy.{SeenBy}
use Rattle.ssq_core.specs.Course.{Cuts, Ends, Job, AreSameUpTo}
use Rattle.ssq_core.specs.Standing.{IsThere}
use Rattle.ssq_store.specs.declared.store.Store.{Store}
use Rattle.ssq_course.specs.Setting.{Setting, parts_in, first_ends, job_of, keeping_of, closes, state_at}
use Rattle.ssq_course.specs.Setting.{cut_of as offsets_of, cuts_of as offsets}
use Rattle.ssq_open.specs.declared.wanted.Opened.{Opened}
use Rattle.ssq_open.specs.Looking.{begins}
use Rattle.ssq_open.specs.Epochs.{cut_of, last_ends, starts}
use Rattle.ssq_open.specs.Jobs.{IsDeskOf}
use Rattle.ssq_open.specs.Lens.{asked, found_from}
use Rattle.ssq_open.specs.Numbers.{HasNumbers}
use Rattle.ssq_open.specs.Stores.{AreStores}
use Rattle.ssq_open.specs.Watermarks.{watermarked}
use Rattle.ssq_board.specs.declared.front.Cause.{Cause}
use Rattle.ssq_board.specs.declared.front.Cause.TheVariants as cause
use Rattle.ssq_board.specs.declared.front.Entry.{Entry}
use Rattle.ssq_board.specs.declared.front.Ready.TheVariants as ready
use Rattle.ssq_board.specs.Core.{Scope, Core, IsFull, after_all, cuts_all, is_behind, is_of_epoch, is_open, ready_of}
use Rattle.ssq_board.specs.Shelf.{Shelf, AreListed, acknowledged_in, shelf_all}
use Rattle.ssq_board.specs.Shown.{IsSound, first}
use Rattle.ssq_board.specs.Told.{acknowledged_of}
use Rattle.ssq_board.specs.Follows.{State, Leads}
use Rattle.ssq_board.specs.Laws.{IsOpenedAt}
use Rattle.ssq_board.proofs.Readies.{over_is}
use Rattle.ssq_board.proofs.Sounds.{first_sound}
use Rattle.ssq_board.proofs.Telling.{Runs, runs_of, tells_all}
use Rattle.ssq_terms.specs.Laws.{PartsAreFound, TasksHaveTerms, HasTerms, UnmarkedHaveNoTimes, due_at}
use Rattle.ssq_terms.specs.Opening.{DeskOpensAsFound}
use Rattle.ssq_terms.specs.Partitions.{HoldsStateOf}
use Rattle.ssq_promise.specs.Run.{Begins, CallFailed, IsLeft, AreFilesOf, RoundGoesOn, RoundIsRun, RoundLeavesFound, RoundLeavesTrue, WasRun, WentOn, as_planned, one_tried}
use Rattle.ssq_promise.proofs.Truths.{either_of}
use Rattle.ssq_ledger.specs.Shown.{Shown, Opening, IsLegal, IsInOrder, cuts_of, did, first_state, shelf_of, state}
use Rattle.ssq_desk.specs.declared.closed.NextRound.{NextRound}
use Rattle.ssq_desk.specs.declared.round.Round.{Round}
use Rattle.ssq_desk.specs.declared.told.Told.{Told}
use Rattle.ssq_desk.specs.Round.{Owns, is_due_on, setting_of, start_at}
use Rattle.ssq_desk.specs.Round.{IsRound as IsDeskRound}
use Rattle.ssq_desk.specs.Contents.{IsStopOf, keeping_in}
use Rattle.ssq_desk.specs.Closing.{AreTold as DeskTold, IsNext}
use Rattle.ssq_desk.specs.First.{first_shown}
use Rattle.ssq_desk.specs.Whole.{opening_in}
use Rattle.ssq_drive.specs.Damaged.{HasDamaged, IsDamagedIn}
use Rattle.ssq_drive.specs.Driven.{StopsFor, IsDriven, IsUpkept, brings_due}
use Rattle.ssq_drive.specs.Good.{IsGood}
use Rattle.ssq_drive.specs.declared.round.Stopped.{Stopped}
use Rattle.ssq_drive.specs.Kept.{IsKeptUp, NeedsNoUpkeep}
use Rattle.ssq_drive.specs.Rounds.{CanBegin, Ended, HaveIndexes, IsFoundOf, IsMore, IsOfOpen, IsOver, IsOwn, IsRound, IsRoundStop, RoundRan, RoundWent, StoppedAtCall, first_of}
use Rattle.ssq_drive.proofs.Counting.{counted}
use Rattle.ssq_drive.proofs.Cutting.{AreNextCuts, GoOn, entries_go, first_of_two, none_some, stops_open}
use Rattle.ssq_drive.proofs.Fitting.{FitsPlans, built_fits, next_fits, plans_on}
use Rattle.ssq_drive.proofs.Idling.{err_ok}
use Rattle.ssq_drive.proofs.KeepLemmas.{old_all}
use Rattle.ssq_drive.proofs.Needing.{commits_are, files_kept, needs_none}
use Rattle.ssq_drive.proofs.Dues.{found_due, never_due}
use Rattle.ssq_drive.proofs.Planned.{stop_planned}
use Rattle.ssq_drive.proofs.Uncommitted.{stop_uncommitted}
use Rattle.ssq_drive.proofs.Parting.{begin_as_counted, start_is}
use Rattle.ssq_drive.proofs.Saying.{told_are, told_from, told_good, told_meant, same_from}
use Rattle.ssq_drive.proofs.Starting.{planned_found}
use Rattle.ssq_drive.proofs.Stopping.{stop_is, stop_later}

-- what a desk of a round shows in the end, and what it gives back
pub record IsClosed {D L : Type 0} (stores logs : Type 0) (lines : L → List Line) (history : D → History) (faults : D → ℕ) (first : Shown D (Round L)) (log_faults : ℕ) (told : List Told) (end : Ended) (desk : Shown D (Round L)) : Type 0 where
  pub legal : IsLegal (Owns stores logs history lines desk) history (opening_in lines) desk
  pub order : IsInOrder desk.scope desk.core
  pub why : IfSome desk.core.front.stop (StopsFor (HasDamaged stores logs history lines desk) first.scope desk.core (faults first.disk) (faults desk.disk))
  pub telling : DeskTold (Owns stores logs history lines desk) (setting_of lines desk.opening) (cuts_of (opening_in lines) desk) desk.opening.opened.committed (acknowledged_in desk.core) told
  pub over : (next : NextRound) → end ≡ Ok next → (ready_of desk.scope desk.core ≡ ready.Over) × ((shelf_of (opening_in lines) desk).tidy ≡ true)
      × IsNext (Owns stores logs history lines desk) (setting_of lines desk.opening) (cuts_of (opening_in lines) desk) desk.scope.available desk.core (shelf_of (opening_in lines) desk) desk.opening.opened next.opened
      × HaveIndexes desk.opening.view.bound.now next.opened.stores next.closings.items
  pub kept : (next : NextRound) → end ≡ Ok next → IsUpkept (keeping_in (setting_of lines desk.opening)) desk.scope.partitions desk.core (shelf_of (opening_in lines) desk)
  pub stopped : (why : Stopped) → end ≡ Err why → (desk.core.front.stop ≡ Some why.cause)
      × IsStopOf (stores × logs) (Owns stores logs history lines desk) (setting_of lines desk.opening) (cuts_of (opening_in lines) desk) desk.core.front.committed why.key why.cause
  pub keyless : (why : Stopped) → end ≡ Err why → why.cause ≢ cause.KeyOverflow → why.key ≡ None
  pub faulty : desk.core.front.stop ≡ Some cause.LogFault → 0 < log_faults
  pub good : stores × logs → IsGood lines desk

-- the laws of rounds and of jobs on which all this rests
pub record HaveLaws (tells : Type 0) : Type 0 where
  pub parts : PartsAreFound
  pub terms : TasksHaveTerms
  pub opens : DeskOpensAsFound
  pub unmarked : UnmarkedHaveNoTimes
  pub run : RoundIsRun tells
  pub over : RoundLeavesFound tells
  pub files : RoundLeavesTrue tells
  pub on : RoundGoesOn tells

-- a desk that runs did not stop for a call
runs_not : (o : Option Cause) → o ≡ None → CallFailed o → ⊥
runs_not o runs (inl is) = absurd (none_some cause.DiskFault (sym runs ∙ is))
runs_not o runs (inr is) = absurd (none_some cause.NoMemory (sym runs ∙ is))

-- where a round may begin, its desk may
pub desk_begins : {L : Type 0} (lines : L → List Line) (round : Round L) (r : Scope) → round.view.partitions ≡ round.opened.meta.partitions → CanBegin round.view.bound.now (length round.logs.items) round.opened r
    → (first_ends (setting_of lines round) ≡ first_of round.opened) × IsDeskRound (setting_of lines round) round.opened r
desk_begins lines round r same can =
    let s = setting_of lines round in
    let logs : length s.lines ≡ length (first_of round.opened) = length-map round.logs.items lines ∙ can.log_each in
    let begin : first_ends s ≡ first_of round.opened = begin_as_counted round.opened.meta.parts s.lines logs in
    let count : length (parts_in s) ≡ length (first_of round.opened) = sym (length-map (parts_in s) _) ∙ ap length begin in (
      begin,
      record {
        runs = can.runs;
        partitions = can.partitions ∙ sym same;
        some_partitions = subst (λ (n : ℕ). 1 ≤ n) (sym same) can.some_partitions;
        few_partitions = subst (λ (n : ℕ). n ≤ 64) (sym same) can.few_partitions;
        streams = can.streams;
        parts = can.parts ∙ sym count;
        logs = logs ∙ sym count;
        first = begin;
        cap = can.cap;
        few_streams = can.few_streams;
        few_tasks = can.few_tasks;
        few_lines = can.few_lines;
        numbers = subst (λ (ends : Ends). HasNumbers (watermarked s.job.bound.streams) ends round.opened) (sym begin) can.numbers;
        stores = subst (λ (n : ℕ). AreStores (keeping_of s.job.bound.shape n) round.opened.committed round.opened.stores) (sym same) can.stores;
        long = subst (λ (ends : Ends). (i : ℕ) → get_or (offsets_of (last_ends ends round.opened.plans)) i 0 ≤ get_or r.available i 0) (sym begin) can.long;
      },
    )

leads_by : (one other : Type 0) → one → (job : Job) (r : Scope) (due : Cuts → ℕ → Bool) (es : List Entry) (s n : State) → Leads one job r due s es n → Leads other job r due s es n
leads_by one other t job r due [] s n leads = leads
leads_by one other t job r due (e ∷ es) s n leads =
    let step = leads.1 in
    (leads.0, record { may = step.may; keeps = step.keeps; moves = λ _. step.moves t; right = λ _. step.right t; core = step.core; shelf = step.shelf; cuts = step.cuts }, leads_by one other t job r due es leads.0 n leads.2)

-- one plan more was tried where this is so, too
pub files_done : (job : Job) (cap : Option ℕ) (due : Cuts → ℕ → Bool) (IsFound : List ℕ → Type 0) (Done All : Type 0) (cuts : Cuts) (planned : ℕ) (now : History) → (Done → All)
    → AreFilesOf job cap due IsFound Done cuts planned now → AreFilesOf job cap due IsFound All cuts planned now
files_done job cap due IsFound Done All cuts planned now all (as_planned each) = as_planned each
files_done job cap due IsFound Done All cuts planned now all (one_tried done found is comes each) = one_tried (all done) found is comes each

-- a store that holds a state by some cuts does so by others that are the same so far
holds_by : (s : Setting) (one other : Cuts) (e p : ℕ) → state_at s one p e ≡ state_at s other p e → (store : Option Store) → HoldsStateOf s one e p store → HoldsStateOf s other e p store
holds_by s one other e p same None holds = holds
holds_by s one other e p same (Some store) holds = (holds.0, holds.1, holds.2 ∙ same)

-- where at most one more is planned than is committed, all that are planned are acknowledged, but perhaps the last
told_near : (planned committed : ℕ) (settled : Bool) → planned ≤ committed + 1 → planned ≤ (if nat_lt committed planned || settled then committed else committed - 1) + 1
told_near planned committed settled near = by (nat_lt committed planned) refl settled
  where
    by : (a : Bool) → nat_lt committed planned ≡ a → (b : Bool) → planned ≤ (if a || b then committed else committed - 1) + 1
    by true opened b = omega (arith, near)
    by false closed true = omega (arith, near)
    by false closed false = (let none = ltb-false committed planned closed in omega (arith, none))

-- a key is told on weaker grounds
stop_on : (tells one other : Type 0) (s : Setting) (cuts : Cuts) (e : ℕ) (key : Option Values) (f : Cause) → (other → one) → IsStopOf tells one s cuts e key f → IsStopOf tells other s cuts e key f
stop_on tells one other s cuts e key (cause.BadLine t p o x) so why = why
stop_on tells one other s cuts e key (cause.Overflow t p o) so why = why
stop_on tells one other s cuts e key cause.KeyOverflow so why = by key why
  where
    by : (key : Option Values) → IsSomeAnd key (λ own. one → fault s.job.bound (parts_in s) (offsets cuts) e ≡ Some (of_key own)) → IsSomeAnd key (λ own. other → fault s.job.bound (parts_in s) (offsets cuts) e ≡ Some (of_key own))
    by None is = is
    by (Some own) is = λ o. is (so o)
stop_on tells one other s cuts e key (cause.LogShort t p m n) so why = why
stop_on tells one other s cuts e key (cause.Damaged q) so why = λ o. why (so o)
stop_on tells one other s cuts e key cause.LogFault so why = why
stop_on tells one other s cuts e key cause.DiskFault so why = why
stop_on tells one other s cuts e key cause.Full so why = why
stop_on tells one other s cuts e key cause.NoMemory so why = why

module _ {D L : Type 0} (stores logs : Type 0) (lines : L → List Line) (history : D → History) (faults : D → ℕ) (round : Round L) (r : Scope) (disk now : D) (es : List Entry)
    (can : CanBegin round.view.bound.now (length round.logs.items) round.opened r) (begin : first_ends (setting_of lines round) ≡ first_of round.opened) (is : IsDeskRound (setting_of lines round) round.opened r)
    (quiet : closes round.view.bound.now ≡ false → list_any brings_due es ≡ false) (back : (k : Shelf) → k.claimed ≡ [] → (shelf_all r (first r (opening_in lines round).start) k es).claimed ≡ []) (log_faults : ℕ) (told : List Told) (end : Ended)
    (closed : IsClosed stores logs lines history faults (first_shown lines round disk r) log_faults told end (did (first_shown lines round disk r) now es)) where
  abbrev s : Setting
  s = setting_of lines round

  abbrev found : Opened
  found = round.opened

  abbrev o : Opening
  o = opening_in lines round

  abbrev begun : Core
  begun = first r o.start

  abbrev c : Core
  c = after_all r begun es

  abbrev cuts : Cuts
  cuts = cuts_all r o.cuts begun es

  abbrev shelf : Shelf
  shelf = shelf_all r begun o.shelf es

  abbrev owned : Type 0
  owned = Owns stores logs history lines (did (first_shown lines round disk r) now es)

  runs : Runs r begun es c
  runs = runs_of owned o.job r o.due es (first_state o r (history disk)) (state closed.legal.0 c shelf cuts) closed.legal.2

  planned : begun.front.planned ≡ length found.plans
  planned = planned_found found.committed (length found.plans) can.numbers.before can.numbers.near

  -- the cuts go on
  go : GoOn r (closes s.job.bound) begun c o.cuts cuts
  go = entries_go r (closes s.job.bound) es begun c o.cuts runs (ap (cut_of (first_ends s) found.plans) planned) (never_due s.job.bound found) quiet

  next_cuts : AreNextCuts r (closes s.job.bound) (length found.plans) c.front.planned (cut_of (first_of found) found.plans) cuts
  next_cuts = subst (λ (n : ℕ). AreNextCuts r (closes s.job.bound) n c.front.planned (cut_of (first_of found) found.plans) cuts) planned
      (subst (λ (ends : Ends). AreNextCuts r (closes s.job.bound) begun.front.planned c.front.planned (cut_of ends found.plans) cuts) begin go.cuts)

  more : length found.plans ≤ c.front.planned
  more = subst (λ (n : ℕ). n ≤ c.front.planned) planned go.more

  begins_so : cuts 0 ≡ first_of found
  begins_so = next_cuts.kept 0 (omega arith)

  sound : IsSound r c
  sound = closed.order.sound

  acknowledged : found.committed + length told ≡ acknowledged_in c
  acknowledged = closed.telling.count

  -- all that are told are planned
  below : acknowledged_in c ≤ c.front.committed
  below = by (is_open c || c.front.settled)
    where
      by : (b : Bool) → (if b then c.front.committed else c.front.committed - 1) ≤ c.front.committed
      by true = omega arith
      by false = omega arith

  within : found.committed + length told ≤ c.front.planned
  within = (let a = acknowledged in let b = below in let d = sound.before in omega (arith, a, b, d))

  -- and all that are planned are told, but perhaps the last
  near_told : c.front.planned ≤ found.committed + length told + 1
  near_told = (let a = acknowledged in let n = told_near c.front.planned c.front.committed c.front.settled sound.near in omega (arith, a, n))

  all_open : is_open c ≡ true → acknowledged_in c ≡ c.front.committed
  all_open opened = ap (λ (b : Bool). if b || c.front.settled then c.front.committed else c.front.committed - 1) opened

  all_settled : c.front.settled ≡ true → acknowledged_in c ≡ c.front.committed
  all_settled settled = by (is_open c) c.front.settled settled
    where
      by : (a b : Bool) → b ≡ true → (if a || b then c.front.committed else c.front.committed - 1) ≡ c.front.committed
      by true b is = refl
      by false true is = refl
      by false false is = absurd (true≢false (sym is))

  nothing : (f : Cause) → None ≡ Some f → ⊥
  nothing f is = cc

  -- an epoch that is open is planned, and the first that is not told
  open_untold : is_open c ≡ true → (c.front.committed ≡ found.committed + length told) × (found.committed + length told < c.front.planned)
  open_untold opened =
      let less = ltb-true c.front.committed c.front.planned opened in
      let all = sym (all_open opened) ∙ sym acknowledged in
      (all, omega (arith, less, all))

  -- so it is where it stopped for a cause of its epoch
  open_there : (why : Stopped) → end ≡ Err why → is_of_epoch why.cause ≡ true → (c.front.committed ≡ found.committed + length told) × (found.committed + length told < c.front.planned)
  open_there why stops own = open_untold (stops_open r es begun c runs (λ f none. absurd (nothing f none)) why.cause (closed.stopped why stops).0 own)

  -- why it stopped, by its desk
  why_is : (why : Stopped) → end ≡ Err why → StopsFor (HasDamaged stores logs history lines (did (first_shown lines round disk r) now es)) r c (faults disk) (faults now) why.cause
  why_is why stops =
      subst (λ (x : Option Cause). IfSome x (StopsFor (HasDamaged stores logs history lines (did (first_shown lines round disk r) now es)) r c (faults disk) (faults now))) (closed.stopped why stops).0 closed.why

  -- where it stopped for a cause that tasks of the open epoch alone bring, one is open
  open_for : (why : Stopped) → end ≡ Err why → IsOfOpen why.cause → is_open c ≡ true
  open_for why stops (inl own) = stops_open r es begun c runs (λ f none. absurd (nothing f none)) why.cause (closed.stopped why stops).0 own
  open_for why stops (inr log) =
      subst (λ (f : Cause). StopsFor (HasDamaged stores logs history lines (did (first_shown lines round disk r) now es)) r c (faults disk) (faults now) f) log (why_is why stops)

  -- where a call failed the round stopped at that
  stopped_at : (o : Ended) → end ≡ o → CallFailed c.front.stop → StoppedAtCall end
  stopped_at (Ok next) ends failed = absurd (runs_not c.front.stop (over_is r c (closed.over next ends).0).0 failed)
  stopped_at (Err why) ends failed = (why, ends, subst CallFailed (closed.stopped why ends).0 failed)

  -- where it is over no upkeep is left
  needs_here : (own : NextRound) → end ≡ Ok own → NeedsNoUpkeep (keeping_of s.job.bound.shape found.meta.partitions) found.meta.partitions own.opened.committed own.opened.names
  needs_here own ends =
      let n = (closed.over own ends).2 in
      let settled = (over_is r c (closed.over own ends).0).2 in
      let u = closed.kept own ends in
      subst (λ (m : ℕ). NeedsNoUpkeep (keeping_of s.job.bound.shape m) m own.opened.committed own.opened.names) can.partitions
      (needs_none (keeping_of s.job.bound.shape r.partitions) r.partitions own.opened.committed c shelf own.opened.names n.names_are n.committed_is settled (old_all r begun o.shelf es (λ settled tidy. refl) settled u.tidy) (back o.shelf refl)
      (subst (λ (m : ℕ). IsUpkept (keeping_of s.job.bound.shape m) r.partitions c shelf) (sym is.partitions) u))

  -- where it is over
  is_over : (own : NextRound) → end ≡ Ok own → IsOver s.job.bound (length round.logs.items) r found own.opened.plans told own.opened own.closings.items
  is_over own ends =
      let was = closed.over own ends in
      let next = own.opened in
      let n = was.2 in
      let o = over_is r c was.0 in
      let all : acknowledged_in c ≡ c.front.committed = all_settled o.2 in
      let fits = next_fits owned s (first_of found) cuts r.available c shelf found next n begins_so in
      let count = n.planned in
      let up = o.1 in
      let before = sound.before in
      let done = n.committed_is in
      let told_all = acknowledged in
      let same_first : first_ends s ≡ first_of next = begin ∙ ap (λ (m : Meta). begins m.parts) (sym n.meta_is) in
      let same_meta : found.meta ≡ next.meta = sym n.meta_is in
      record {
        plans_are = refl;
        committed = omega (arith, count, up, before, done);
        all = omega (arith, count, up, before, all, told_all);
        meta_is = n.meta_is;
        covered = ap (λ (ends : Ends). is_behind ends r.available) (ap (cut_of (first_of found) next.plans) count ∙ fits.are c.front.planned (omega arith) ∙ go.last) ∙ o.3;
        kept = needs_here own ends;
        indexes = was.3;
        can = record {
          runs = can.runs;
          partitions = can.partitions ∙ ap (λ (m : Meta). m.partitions) same_meta;
          some_partitions = subst (λ (m : Meta). 1 ≤ m.partitions) same_meta can.some_partitions;
          few_partitions = subst (λ (m : Meta). m.partitions ≤ 64) same_meta can.few_partitions;
          streams = subst (λ (m : Meta). length m.parts ≡ length s.job.bound.streams) same_meta can.streams;
          few_streams = can.few_streams;
          parts = subst (λ (m : Meta). length r.available ≡ length (begins m.parts)) same_meta can.parts;
          log_each = subst (λ (m : Meta). length round.logs.items ≡ length (begins m.parts)) same_meta can.log_each;
          cap = can.cap;
          few_tasks = can.few_tasks;
          few_lines = can.few_lines;
          numbers = subst (λ (ends : Ends). HasNumbers (watermarked s.job.bound.streams) ends next) same_first n.numbers;
          stores = subst (λ (m : ℕ). AreStores (keeping_of s.job.bound.shape m) next.committed next.stores) (sym is.partitions ∙ can.partitions ∙ ap (λ (m : Meta). m.partitions) same_meta) n.stores;
          long = subst (λ (ends : Ends). (i : ℕ) → get_or (offsets_of (last_ends ends next.plans)) i 0 ≤ get_or r.available i 0) same_first n.within;
        };
      }

  module _ (laws : HaveLaws (stores × logs)) (t : stores × logs) (own : IsOwn s r (history disk) found) where
    starts_so : first_ends s ≡ starts (found_from 0 own.lens.streams)
    starts_so = (laws.parts s s.job.bound own.asks own.lens own.setting).1

    abbrev own_desk : IsDeskOf (asked s.job.bound own.asks own.lens) (job_of s) (files_now (history disk)) found
    own_desk = record {
      desk = own.found_is.desk;
      is = own.found_is.is;
      cuts = own.found_is.cuts ∙ ap (λ (ends : Ends). cut_of ends found.plans) (sym begin ∙ starts_so);
      planned = own.found_is.planned;
      committed = own.found_is.committed;
    }

    is_owned : owned
    is_owned = (
      t.0,
      (
        t.1,
        record {
          asks = own.asks;
          lens = own.lens;
          setting = own.setting;
          scope = own.scope;
          lines = own.lines;
          settled = own.settled;
          desk = own_desk;
          jobs = record { plans = own.found_is.plans; seen = own.found_is.seen };
          states = own.found_is.states;
          names = own.found_is.names;
        },
      ),
    )

    abbrev has_terms : HasTerms s r own.lens
    has_terms = laws.terms s s.job.bound own.asks own.lens r own.setting own.lines own.scope

    begins_on : Begins (job_of s) r (due_at s) has_terms.0 o.start (first_state o r (history disk))
    begins_on = record {
      files = files_now (history disk);
      settled = own.settled;
      desk = own.found_is.desk;
      is = own.found_is.is;
      at = subst (λ (ends : Ends). IsOpenedAt (job_of s) r (due_at s) has_terms.0 (start_at ends s.job.bound found) own.found_is.desk) (sym starts_so)
          (laws.opens s s.job.bound own.asks own.lens r (files_now (history disk)) found (is_due_on s.job.bound found) own.setting own.lines own.scope has_terms.0 has_terms.1 own_desk
          (found_due s own.found_is.desk.cuts found can.numbers.before own.found_is.plans laws.unmarked can.runs own.found_is.seen));
      core = refl;
      cuts = ap (λ (ends : Ends). cut_of ends found.plans) begin ∙ sym own.found_is.cuts;
      shelf = record { names = own.found_is.names; news = refl; claimed = refl; tidy = refl };
    }

    leads_on : Leads (stores × logs) (job_of s) r (due_at s) (first_state o r (history disk)) es (state (history now) c shelf cuts)
    leads_on = subst (λ (h : History). Leads (stores × logs) (job_of s) r (due_at s) (first_state o r (history disk)) es (state h c shelf cuts)) (closed.legal.1 is_owned)
        (leads_by owned (stores × logs) is_owned (job_of s) r (due_at s) es (first_state o r (history disk)) (state closed.legal.0 c shelf cuts) closed.legal.2)

    went_on : WentOn (job_of s) r (due_at s) (first_state o r (history disk)) (state (history now) c shelf cuts)
    went_on = laws.on t (job_of s) r (due_at s) has_terms.0 o.start es (first_state o r (history disk)) (state (history now) c shelf cuts) begins_on leads_on

    is_run : WasRun (stores × logs) (job_of s) (history disk) (history now) (map (λ (x : Told). x.epoch) told)
    is_run =
        let number = counted r o.start es c (first_sound r o.start (start_is s r found is.numbers is.parts)) runs in
        let here = acknowledged in
        let length_told = length-map told (λ (x : Told). x.epoch) in
        subst (WasRun (stores × logs) (job_of s) (history disk) (history now))
        (same_from found.committed (acknowledged_of r o.start es) (map (λ (x : Told). x.epoch) told) (tells_all r o.start es c runs).in_order (told_from owned s cuts told found.committed closed.telling.each) (omega (arith, number, here, length_told)))
        (laws.run t (job_of s) r (due_at s) has_terms.0 o.start es (first_state o r (history disk)) (state (history now) c shelf cuts) begins_on leads_on)

    -- what it leaves
    left : (next : NextRound) → end ≡ Ok next → IsLeft (job_of s) (state (history now) c shelf cuts) (cut_of (first_of next.opened) next.opened.plans)
    left next ends =
        let was = closed.over next ends in
        let n = was.2 in
        let over = over_is r c was.0 in
        let fits = next_fits owned s (first_of found) cuts r.available c shelf found next.opened n begins_so in
        let same : first_of found ≡ first_of next.opened = ap (λ (m : Meta). begins m.parts) (sym n.meta_is) in
        laws.over t (job_of s) r (due_at s) has_terms.0 o.start es (first_state o r (history disk)) (state (history now) c shelf cuts) begins_on leads_on over.0 over.2 was.1
        (le-ltb c.front.committed c.front.planned over.1) (cut_of (first_of next.opened) next.opened.plans)
        (subst (λ (ends : Ends). AreSameUpTo (cut_of ends next.opened.plans) cuts c.front.planned) same fits.are)

    found_next : (next : NextRound) → end ≡ Ok next → IsFoundOf s (files_now (history now)) next.opened
    found_next own_next ends =
        let was = closed.over own_next ends in
        let next = own_next.opened in
        let n = was.2 in
        let l = left own_next ends in
        let fits = next_fits owned s (first_of found) cuts r.available c shelf found next n begins_so in
        let same : first_of found ≡ first_of next = ap (λ (m : Meta). begins m.parts) (sym n.meta_is) in
        let cut_is : (k : ℕ) → k ≤ c.front.planned → l.desk.cuts k ≡ cuts k = λ k le. ap (λ (x : Cuts). x k) l.are ∙ ap (λ (ends : Ends). cut_of ends next.plans k) (sym same) ∙ fits.are k le in
        let law = says_same s.job.bound (parts_in s) (offsets cuts) (offsets l.desk.cuts) c.front.planned (λ k le. ap offsets_of (sym (cut_is k le))) in
        let count = n.planned in
        let done = n.committed_is in
        let before = sound.before in
        record {
          desk = l.desk;
          is = l.is;
          cuts = l.are;
          planned = l.planned ∙ sym n.planned;
          committed = l.committed ∙ sym n.committed_is;
          plans = λ e default less.
              let mark = law.same_watermark e (omega (arith, less, count)) in
              let to = sym (cut_is (e + 1) (omega (arith, less, count))) in
              n.plans_are is_owned e default less ∙ (λ i. (let plan : Plan = record { epoch = e; watermark = mark i; ends = to i } in plan));
          seen = inr (n.seen_is is_owned ∙ (let times = λ (d : Delay). law.same_seen d.0 next.committed (omega (arith, done, before)) in
              λ i. map (λ (d : Delay). (let line : SeenBy = record { stream = d.0; time = times d i } in line)) (delays s.job.bound)));
          states = λ p. holds_by s cuts l.desk.cuts next.committed p (law.same_state s.job.partitions p next.committed (omega (arith, done, before))) (slice_get next.stores p) (n.states is_owned p);
          names = subst (AreListed (files_now (history now))) (sym n.names_are) l.listed;
        }

    -- said of plans of its cuts: that an epoch is to come
    more_by : (plans : List Plan) → FitsPlans (first_of found) found.plans plans c.front.planned cuts → (e : ℕ) → e ≤ c.front.planned → (is_behind (cuts e) r.available ≡ true) ⊎ (due_at s cuts e ≡ true)
        → IsMore s (cut_of (first_of found) plans) r.available e
    more_by plans fits e le comes = elim comes [
      | inl behind ↦ inl (ap (λ (ends : Ends). is_behind ends r.available) (fits.are e le) ∙ behind)
      | inr due ↦ inr (has_terms.0.dues (cut_of (first_of found) plans) cuts e (λ k less. fits.are k (omega (arith, less, le))) ∙ due)
    ]

    -- there are too many epochs only where one more is
    full_by : (plans : List Plan) → FitsPlans (first_of found) found.plans plans c.front.planned cuts → IsFull r c → IsMore s (cut_of (first_of found) plans) r.available c.front.planned
    full_by plans fits limit = more_by plans fits c.front.planned (omega arith) (elim (either_of (is_behind c.ends r.available) c.front.due limit.3) [
      | inl behind ↦ inl (ap (λ (ends : Ends). is_behind ends r.available) go.last ∙ behind)
      | inr due ↦ inr (sym (went_on.due_is limit.1) ∙ due)
    ])

    -- where it is over none is due
    none_due : (plans : List Plan) → FitsPlans (first_of found) found.plans plans c.front.planned cuts → (next : NextRound) → end ≡ Ok next → due_at s (cut_of (first_of found) plans) (length plans) ≡ false
    none_due plans fits next ends =
        let over = over_is r c (closed.over next ends).0 in
        subst (λ (n : ℕ). due_at s (cut_of (first_of found) plans) n ≡ false) (sym fits.count)
        (has_terms.0.dues (cut_of (first_of found) plans) cuts c.front.planned (λ k le. fits.are k le) ∙ sym (went_on.due_is (le-ltb c.front.committed c.front.planned over.1)) ∙ over.4)

    ran_by : (plans : List Plan) → FitsPlans (first_of found) found.plans plans c.front.planned cuts
        → RoundRan (stores × logs) s r (history disk) (history now) (cut_of (first_of found) plans) (length found.plans) found.committed (length plans) told end
    ran_by plans fits = record {
      run = is_run;
      files = files_done (job_of s) r.cap (due_at s) (λ lines. lines ≡ r.available) ((c.front.planned ≤ c.front.committed) × (c.front.settled ≡ true) × CallFailed c.front.stop) ((found.committed + length told ≡ length plans) × StoppedAtCall end) (cut_of (first_of found) plans) (length plans) (history now)
          (λ done. ((let a = acknowledged in let all = all_settled done.1 in let b = sound.before in let d = done.0 in let count = fits.count in omega (arith, a, all, b, d, count)), stopped_at end refl done.2))
          (subst (λ (n : ℕ). AreFilesOf (job_of s) r.cap (due_at s) (λ lines. lines ≡ r.available) ((c.front.planned ≤ c.front.committed) × (c.front.settled ≡ true) × CallFailed c.front.stop) (cut_of (first_of found) plans) n (history now)) (sym fits.count)
          (laws.files t (job_of s) r (due_at s) has_terms.0 o.start es (first_state o r (history disk)) (state (history now) c shelf cuts) begins_on leads_on (cut_of (first_of found) plans) fits.are));
      due = λ e ge less. (let count = fits.count in let start = planned in more_by plans fits e (omega (arith, less, count)) (went_on.come e (omega (arith, ge, start)) (omega (arith, less, count))));
      meant = told_meant owned s cuts (first_of found) plans c.front.planned fits.are c.front.committed sound.before went_on.faultless is_owned told found.committed closed.telling.each (let a = acknowledged in let b = below in omega (arith, a, b));
      planned_stays = λ why stops own.
          subst (λ (k : ℕ). LeavesNow (history now) (λ (image : Files). IsThere image (name.Plan k))) (open_there why stops own).0
          (stop_planned (stores × logs) t (job_of s) r (due_at s) has_terms.0 o.start es (first_state o r (history disk)) (state (history now) c shelf cuts) begins_on leads_on why.cause (closed.stopped why stops).0 own);
      uncommitted = λ why stops inside.
          subst (λ (k : ℕ). LeavesNow (history now) (λ (image : Files). image (name.Commit k) ≡ None)) (open_untold (open_for why stops inside)).0
          (stop_uncommitted (stores × logs) t (job_of s) r (due_at s) has_terms.0 o.start es (first_state o r (history disk)) (state (history now) c shelf cuts) begins_on leads_on why.cause (closed.stopped why stops).0 inside);
      settled = λ next ends. (left next ends).settled;
      found = found_next;
      kept = λ next ends.
          let f = found_next next ends in
          subst (λ (m : ℕ). IsKeptUp (keeping_of s.job.bound.shape m) m (files_now (history now))) (sym can.partitions ∙ is.partitions)
          (files_kept (keeping_of s.job.bound.shape found.meta.partitions) found.meta.partitions next.opened.committed next.opened.names (files_now (history now)) f.names
          (λ e. commits_are ((job_of s).course f.desk.cuts) f.desk.planned f.desk.committed (files_now (history now)) f.is.0 e ∙ ap (nat_lt e) f.committed) (needs_here next ends));
      quiet = none_due plans fits;
    }

  -- what was opened is the job's own, and disk and logs tell what they hold
  abbrev ours : Type 0
  ours = (stores × logs) × IsOwn s r (history disk) found

  module _ (laws : HaveLaws (stores × logs)) where
    -- why it stopped, by plans of these cuts
    stop_told : (plans : List Plan) → FitsPlans (first_of found) found.plans plans c.front.planned cuts → (why : Stopped) → end ≡ Err why
        → IsRoundStop (stores × logs) ours s (cut_of (first_of found) plans) r.available (length plans) (found.committed + length told) (files_now (history now)) (faults disk) (faults now) log_faults why.key why.cause
    stop_told plans fits why stops =
        let was = closed.stopped why stops in
        let count = fits.count in
        subst (λ (n : ℕ). IsRoundStop (stores × logs) ours s (cut_of (first_of found) plans) r.available n (found.committed + length told) (files_now (history now)) (faults disk) (faults now) log_faults why.key why.cause) (sym count)
        (stop_is (stores × logs) ours (HasDamaged stores logs history lines (did (first_shown lines round disk r) now es)) (files_now (history now)) s cuts (cut_of (first_of found) plans) r.available c.front.planned c.front.committed (found.committed + length told) why.key (faults disk) (faults now) log_faults r c why.cause fits.are (open_there why stops)
        (stop_on (stores × logs) owned ours s cuts c.front.committed why.key why.cause (λ u. is_owned laws u.0 u.1) was.1)
        (why_is why stops) (λ opened. (open_untold opened).1) (λ same. closed.faulty (was.0 ∙ ap Some same)) full
        (λ q bad. ((λ u. bad.0 (is_owned laws u.0 u.1)), λ t. subst (λ (n : ℕ). IsDamagedIn (keeping_of s.job.bound.shape s.job.partitions) n (files_now (history now)) q) (sym acknowledged) (bad.1 t.0))))
      where
        behind_or : (b : Bool) → closes s.job.bound ≡ b → IsFull r c → (is_behind (cut_of (first_of found) plans c.front.planned) r.available ≡ true) ⊎ (closes s.job.bound ≡ true)
        behind_or true is limit = inr is
        behind_or false is limit = inl (ap (λ (ends : Ends). is_behind ends r.available) (fits.are c.front.planned (omega arith) ∙ go.last) ∙ first_of_two (is_behind c.ends r.available) c.front.due limit.3 (go.quiet is))

        all_told : IsFull r c → found.committed + length told ≡ c.front.planned
        all_told limit = (let a = acknowledged in let all = all_settled limit.2 in let none = ltb-false c.front.committed c.front.planned limit.1 in let b = sound.before in omega (arith, a, all, none, b))

        full : IsFull r c → (c.front.planned ≡ 4294967295) × ((is_behind (cut_of (first_of found) plans c.front.planned) r.available ≡ true) ⊎ (closes s.job.bound ≡ true)) × (ours → IsMore s (cut_of (first_of found) plans) r.available c.front.planned) × (found.committed + length told ≡ c.front.planned)
        full limit = (limit.0, behind_or (closes s.job.bound) refl limit, λ u. full_by laws u.0 u.1 plans fits limit, all_told limit)

    -- whatever the disk tells
    went_by : (plans : List Plan) → FitsPlans (first_of found) found.plans plans c.front.planned cuts → ((next : NextRound) → end ≡ Ok next → next.opened.plans ≡ plans)
        → RoundWent (stores × logs) ours s (length round.logs.items) r found (files_now (history now)) (faults disk) (faults now) log_faults plans told end
    went_by plans fits same = record {
      on = plans_on r (closes s.job.bound) (first_of found) found.plans plans c.front.planned cuts next_cuts fits;
      told_are = told_are owned s cuts (first_of found) plans c.front.planned fits.are told found.committed closed.telling.each within;
      good = λ t. told_good owned s cuts (first_of found) plans c.front.planned fits.are found.committed c.front.committed sound.before (closed.good t).1.told told found.committed closed.telling.each (omega arith) (let a = acknowledged in let b = below in omega (arith, a, b));
      few = (let count = fits.count in let less = within in omega (arith, count, less));
      near = (let count = fits.count in let n = near_told in omega (arith, count, n));
      over = λ next ends. subst (λ (l : List Plan). IsOver s.job.bound (length round.logs.items) r found l told next.opened next.closings.items) (same next ends) (is_over next ends);
      stopped = λ why stops. stop_told plans fits why stops;
      keyless = closed.keyless;
    }

    -- by plans of its cuts
    round_by : (plans : List Plan) → FitsPlans (first_of found) found.plans plans c.front.planned cuts → ((next : NextRound) → end ≡ Ok next → next.opened.plans ≡ plans)
        → IsRound (stores × logs) s (length round.logs.items) r found (history disk) (history now) (faults disk) (faults now) log_faults told end
    round_by plans fits same = record { plans = plans; went = went_by plans fits same; ran = λ t own. ran_by laws t own plans fits }

abbrev plans_or : List Plan → Ended → List Plan
plans_or plans (Ok next) = next.opened.plans
plans_or plans (Err f) = plans

-- how a round went, and what it did, where these entries came
round_is : {D L : Type 0} (stores logs : Type 0) (lines : L → List Line) (history : D → History) (faults : D → ℕ) (round : Round L) (r : Scope) (disk now : D) (es : List Entry)
    → CanBegin round.view.bound.now (length round.logs.items) round.opened r → first_ends (setting_of lines round) ≡ first_of round.opened → IsDeskRound (setting_of lines round) round.opened r
    → (closes round.view.bound.now ≡ false → list_any brings_due es ≡ false) → ((k : Shelf) → k.claimed ≡ [] → (shelf_all r (first r (opening_in lines round).start) k es).claimed ≡ []) → (log_faults : ℕ) (told : List Told) (end : Ended)
    → IsClosed stores logs lines history faults (first_shown lines round disk r) log_faults told end (did (first_shown lines round disk r) now es) → HaveLaws (stores × logs)
    → IsRound (stores × logs) (setting_of lines round) (length round.logs.items) r round.opened (history disk) (history now) (faults disk) (faults now) log_faults told end
round_is stores logs lines history faults round r disk now es can begin is quiet back log_faults told (Ok next) closed laws =
    let n = (closed.over next refl).2 in
    let fits = next_fits _ (setting_of lines round) (first_of round.opened) _ r.available _ _ round.opened next.opened n (begins_so stores logs lines history faults round r disk now es can begin is quiet back log_faults told (Ok next) closed) in
    round_by stores logs lines history faults round r disk now es can begin is quiet back log_faults told (Ok next) closed laws next.opened.plans fits (λ other ends. sym (ap (plans_or next.opened.plans) ends))
round_is stores logs lines history faults round r disk now es can begin is quiet back log_faults told (Err why) closed laws =
    let next = next_cuts stores logs lines history faults round r disk now es can begin is quiet back log_faults told (Err why) closed in
    let below = more stores logs lines history faults round r disk now es can begin is quiet back log_faults told (Err why) closed in
    let fits = built_fits r (closes round.view.bound.now) (first_of round.opened) round.opened.plans _ _ next below in
    round_by stores logs lines history faults round r disk now es can begin is quiet back log_faults told (Err why) closed laws _ fits (λ other ends. absurd (err_ok why other ends))

-- how a round went, where the disk failed more often since, and where it tells, holds what it held
round_later : (tells : Type 0) (s : Setting) (n : ℕ) (r : Scope) (found : Opened) (start now later : History) (disk before after logs : ℕ) (told : List Told) (end : Ended) → (tells → later ≡ now) → before ≤ after
    → IsRound tells s n r found start now disk before logs told end → IsRound tells s n r found start later disk after logs told end
round_later tells s n r found start now later disk before after logs told end same more round =
    let went = round.went in
    record {
      plans = round.plans;
      went = record {
        on = went.on;
        told_are = went.told_are;
        good = went.good;
        few = went.few;
        near = went.near;
        over = went.over;
        stopped = λ why stops.
            stop_later tells (tells × IsOwn s r start found) s (cut_of (first_of found) round.plans) r.available (length round.plans) (found.committed + length told) (files_now now) (files_now later) disk before after logs why.key why.cause (λ t. ap files_now (same t)) more (went.stopped why stops);
        keyless = went.keyless;
      };
      ran = λ t own. subst (λ (h : History). RoundRan tells s r start h (cut_of (first_of found) round.plans) (length found.plans) found.committed (length round.plans) told end) (sym (same t)) (round.ran t own);
    }

-- how a round went, by its desk in the end, and by the disk that came back
pub round_closed : {D L : Type 0} (stores logs : Type 0) (lines : L → List Line) (history : D → History) (faults : D → ℕ) (round : Round L) (r : Scope) (disk : D) (desk : Shown D (Round L)) (back : D)
    → round.view.partitions ≡ round.opened.meta.partitions → CanBegin round.view.bound.now (length round.logs.items) round.opened r → IsDriven faults (HasDamaged stores logs history lines) (closes round.view.bound.now) (first_shown lines round disk r) desk
    → (stores → history back ≡ history desk.disk) → faults desk.disk ≤ faults back
    → (log_faults : ℕ) (told : List Told) (end : Ended) → IsClosed stores logs lines history faults (first_shown lines round disk r) log_faults told end desk → HaveLaws (stores × logs)
    → IsRound (stores × logs) (setting_of lines round) (length round.logs.items) r round.opened (history disk) (history back) (faults disk) (faults back) log_faults told end
round_closed stores logs lines history faults round r disk desk back same can driven kept more log_faults told end closed laws =
    let b = desk_begins lines round r same can in
    round_later (stores × logs) (setting_of lines round) (length round.logs.items) r round.opened (history disk) (history desk.disk) (history back) (faults disk) (faults desk.disk) (faults back) log_faults told end (λ t. kept t.0) more
    (round_is stores logs lines history faults round r disk desk.disk driven.entries.0 can b.0 b.1 driven.quiet driven.returned log_faults told end
    (subst (IsClosed stores logs lines history faults (first_shown lines round disk r) log_faults told end) driven.entries.1 closed) laws)
