-- What a desk tells of the epoch that runs, and what it gives back when it ends.
use Rattle.std.proofs.Common.{take, add-one, ltb-false, ◌≡◌, ◌⊎◌, ◌<◌, ◌≤◌, ◌+◌, ◌-◌, ◌^◌, ◌||◌, [], ◌∷◌, ℕ, ℤ, zero, suc, Bool, true, false, true≢false, List, length, map, get_or, nat_lt, Option, Some, None, refl, sym, ap, ◌∙◌, subst, inr, arith, ext_get_or, le-ltb}
use Rattle.std.specs.Prelude.{◌≢◌, All, IsSome, MatchOption, if◌then◌else◌, is_some, slice_get}
use Rattle.std.specs.Option.{ForSome}
use Rattle.std.specs.List.{sum_by, list_any, AllZip}
use Rattle.std.proofs.lemmas.List.Sums.{sum_by-cons}
use Rattle.std.proofs.lemmas.List.{length-map, get_or-map}
use mathlib.Core.Option.{some, some-injective, some-ne-none}
use lib.ListN.{get_elem?}
use Rattle.ssq_outside.specs.History.{History}
use Rattle.ssq_outside.specs.declared.name.Name.{Name}
use Rattle.ssq_time.specs.Time.{IsStampTime}
use Rattle.ssq_meaning.specs.Meaning.{Line}
use Rattle.ssq_meaning.specs.Epochs.{out}
use Rattle.ssq_plans.specs.declared.plan.Plan.{Plan}
use Rattle.ssq_plans.specs.declared.part.PartEnd.{PartEnd}
use Rattle.ssq_shape.specs.declared.bound.Bound.{Bound}
use Rattle.ssq_plans.specs.declared.seen.SeenBy.{SeenBy}
use Rattle.ssq_plans.specs.Records.{HasLineTime}
use Rattle.ssq_meaning.specs.Times.{Delay, delays}
use Rattle.ssq_water.specs.Water.{seen_at}
use Rattle.ssq_feed.specs.Causes.{LogWent}
use Rattle.ssq_step.specs.Indexing.{Timed}
use Rattle.ssq_store.specs.declared.store.Store.{Store}
use Rattle.ssq_sink.proofs.Passes.{get_some as part_there}
use Rattle.ssq_task.specs.Committing.{lines_of}
use Rattle.ssq_core.specs.Course.{Ends, Cuts, Job}
use Rattle.ssq_course.specs.Setting.{Setting, parts_in, cut_of, first_ends, course_of}
use Rattle.ssq_open.specs.declared.wanted.Opened.{Opened}
use Rattle.ssq_open.specs.Epochs.{no_plan, follows}
use Rattle.ssq_open.specs.Epochs.{cut_of as plan_ends}
use Rattle.ssq_open.specs.Watermarks.{watermarked, has_lines}
use Rattle.ssq_open.specs.Stores.{AreStores}
use Rattle.ssq_terms.specs.Partitions.{HoldsStateOf}
use Rattle.ssq_terms.proofs.Marks.{lines_of_each}
use Rattle.ssq_course.specs.Setting.{cuts_of as offsets}
use Rattle.ssq_board.specs.declared.front.Cause.TheVariants as cause
use Rattle.ssq_board.specs.declared.front.Ready.TheVariants as ready
use Rattle.ssq_board.specs.declared.front.Place.{Place}
use Rattle.ssq_board.specs.declared.front.Place.TheVariants as place
use Rattle.ssq_board.specs.declared.front.Entry.{Entry}
use Rattle.ssq_board.specs.declared.front.Entry.TheVariants as entry
use Rattle.ssq_board.specs.Core.{Scope, Core, May, after, is_fine, is_open, ready_of}
use Rattle.ssq_board.specs.Rounds.{is_away}
use Rattle.ssq_board.specs.Shelf.{acknowledged_in}
use Rattle.ssq_board.specs.Shown.{Start, first, planned_by}
use Rattle.ssq_board.specs.Follows.{State, Leads}
use Rattle.ssq_board.proofs.Lists.{at_length, there_at, all_fine}
use Rattle.ssq_board.proofs.Readies.{commit_may, over_is}
use Rattle.ssq_board.proofs.Sounds.{open_less}
use Rattle.ssq_ledger.specs.Shown.{Shown, IsLegal, IsInOrder, state, first_state, cuts_of, shelf_of}
use Rattle.ssq_desk.specs.declared.closed.NextRound.{NextRound}
use Rattle.ssq_desk.specs.declared.desk.Load.{Load}
use Rattle.ssq_desk.specs.declared.desk.PartLog.{PartLog}
use Rattle.ssq_desk.specs.declared.round.Round.{Round}
use Rattle.ssq_desk.specs.declared.told.Told.{Told}
use Rattle.ssq_desk.specs.Round.{setting_of, Owns}
use Rattle.ssq_desk.specs.Whole.{IsWhole, opening_in}
use Rattle.ssq_desk.specs.Contents.{is_away as is_with_worker, IsHeldAt, keeping_in}
use Rattle.ssq_desk.specs.First.{AreIndexes}
use Rattle.ssq_desk.specs.Closing.{IsToldOf, AreTold, IsNext, closings_in, lines_between, stores_in}
use Rattle.ssq_desk.proofs.Betweens.{ends_are, ends_within}
use Rattle.ssq_desk.proofs.Feeding.{all_at}
use Rattle.ssq_desk.proofs.Keeping.{between_held}
use Rattle.ssq_desk.proofs.Leaving.{IsLeft, held_left, keeping_most}
use Rattle.ssq_desk.proofs.Planned.{at_get, fine_not_gone}
use Rattle.ssq_desk.proofs.Ends.{AreWithin, planned_first}
use Rattle.ssq_desk.proofs.Telling.{between_most, sum_most, told_less}
use Rattle.ssq_desk.proofs.Beginnings.{map_at}

module _ {D L S F : Type 0} (stores logs : Type 0) (history : D → History) (lines : L → List Line) (available : L → ℕ) (answers : L → List ℕ) (faults : L → ℕ) (written : S → List ℕ) (sealed : F → List ℕ) (shown : Shown D (Round L)) (load : Load L S F)
    (whole : IsWhole stores logs history lines available answers faults written sealed shown load) (legal : IsLegal (Owns stores logs history lines shown) history (opening_in lines) shown) (order : IsInOrder shown.scope shown.core)
    (next : ready_of shown.scope shown.core ≡ ready.Commit) where
  -- the parts begin where the epochs before end
  froms_are : map (λ (x : PartLog L). x.from) load.part_logs.items ≡ cut_of (cuts_of (opening_in lines) shown shown.core.front.committed)
  froms_are =
      let may = commit_may shown.scope shown.core false next in
      let epoch = whole.holds.epoch may.0 may.2 in
      let parts = whole.holds.parts in
      let maps = order.sound.maps in
      let each = whole.round.parts in
      ext_get_or 0 (map (λ (x : PartLog L). x.from) load.part_logs.items) (cut_of (cuts_of (opening_in lines) shown shown.core.front.committed))
      (length-map load.part_logs.items (λ (x : PartLog L). x.from) ∙ parts ∙ sym epoch.froms ∙ sym (length-map (cuts_of (opening_in lines) shown shown.core.front.committed) (λ (e : PartEnd). e.end)))
      (λ i less. (
      let below : i < length load.part_logs.items = (let n = length-map load.part_logs.items (λ (x : PartLog L). x.from) in omega (arith, less, n)) in
      let part_log = there_at load.part_logs.items i below in
      let part = part_there (parts_in (setting_of lines shown.opening)) i (omega (arith, below, parts)) in
      let at = there_at shown.core.maps i (omega (arith, below, parts, maps, each)) in
      get_or-map (λ (x : PartLog L). x.from) load.part_logs.items i part_log.0 0 below ∙ ap (λ (x : PartLog L). x.from) (at_get load.part_logs.items i part_log.0 part_log.0 part_log.1)
      ∙ (epoch.mapped i part.0 at.0 part_log.0 part.1 at.1 part_log.1).begins))

  tos_are : map (λ (e : PartEnd). e.end) shown.core.ends ≡ cut_of (cuts_of (opening_in lines) shown (shown.core.front.committed + 1))
  tos_are =
      let may = commit_may shown.scope shown.core false next in
      let near = order.sound.near in
      let less = open_less shown.core may.2 in
      ap cut_of (sym (ap (cuts_of (opening_in lines) shown) (let one : shown.core.front.committed + 1 ≡ shown.core.front.planned = omega (arith, near, less) in one) ∙ ends_are stores logs history lines available answers faults written sealed shown load whole legal order))

  -- an epoch's plan is there
  pub plan_below : shown.core.front.committed < length load.plans.items
  plan_below = (let may = commit_may shown.scope shown.core false next in let less = open_less shown.core may.2 in let count = whole.plans.count in omega (arith, less, count))

  -- its lines can be counted
  pub few_lines : lines_between (map (λ (x : PartLog L). x.from) load.part_logs.items) (map (λ (e : PartEnd). e.end) shown.core.ends) < 2 ^ 64
  few_lines =
      let count = length-map shown.core.ends (λ (e : PartEnd). e.end) ∙ order.sound.ends in
      let between = between_most (map (λ (x : PartLog L). x.from) load.part_logs.items) (map (λ (e : PartEnd). e.end) shown.core.ends) in
      let most = sum_most (map (λ (e : PartEnd). e.end) shown.core.ends) shown.scope.available count (ends_within stores logs history lines available answers faults written sealed shown load whole legal order) in
      let few = whole.round.few_lines in omega (arith, between, most, few)

  -- what is told of it
  pub told_right : (told : Told) → told.epoch ≡ shown.core.front.committed → told.lines ≡ lines_between (map (λ (x : PartLog L). x.from) load.part_logs.items) (map (λ (e : PartEnd). e.end) shown.core.ends)
      → ((d : Plan) → told.watermark ≡ (get_or load.plans.items shown.core.front.committed d).watermark)
      → (Owns stores logs history lines shown → told.rows ≡ length (out (setting_of lines shown.opening).job.bound (parts_in (setting_of lines shown.opening)) (offsets (cuts_of (opening_in lines) shown)) shown.core.front.committed))
      → IsToldOf (Owns stores logs history lines shown) (setting_of lines shown.opening) (cuts_of (opening_in lines) shown) shown.core.front.committed told
  told_right told epoch between mark rows =
      let none : Plan = record { epoch = 0; watermark = None; ends = [] } in
      let less : shown.core.front.committed < shown.core.front.planned = open_less shown.core (commit_may shown.scope shown.core false next).2 in record {
        number = epoch;
        lines_are = between ∙ (λ i. lines_between (froms_are i) (tos_are i));
        printed = subst (λ (m : Option ℤ). ForSome m IsStampTime) (sym (mark none)) (whole.plans.marks shown.core.front.committed none plan_below);
        watermark_is = λ t. mark none ∙ ap (λ (p : Plan). p.watermark) (whole.plans.each t shown.core.front.committed none less);
        rows_are = rows;
      }

-- ---- the logs

none_away : (l : List Place) (i : ℕ) (at : Place) → list_any is_away l ≡ false → get_elem? l i ≡ some at → is_with_worker at → ⊥
none_away [] i at none here away = absurd (some-ne-none at (sym here))
none_away (p ∷ l) zero at none here away = by p (subst is_with_worker (sym (some-injective p at here)) away) none
  where
    by : (p : Place) → is_with_worker p → list_any is_away (p ∷ l) ≡ false → ⊥
    by place.Away away none = true≢false none
    by place.Rests away none = away
    by place.Waits away none = away
    by (place.Back f) away none = away
none_away (p ∷ l) (suc i) at none here away = none_away l i at (rest (is_away p) (list_any is_away l) none) here away
  where
    rest : (a b : Bool) → (a || b) ≡ false → b ≡ false
    rest true b e = absurd (true≢false e)
    rest false b e = e

all_zip : {A B : Type 0} (P : A → B → Type 0) (xs : List A) (ys : List B) → length ys ≡ length xs → ((i : ℕ) (x : A) (y : B) → get_elem? xs i ≡ some x → get_elem? ys i ≡ some y → P x y) → AllZip P xs ys
all_zip P [] [] count each = tt
all_zip P [] (y ∷ ys) count each = absurd (omega (arith, count))
all_zip P (x ∷ xs) [] count each = absurd (omega (arith, count))
all_zip P (x ∷ xs) (y ∷ ys) count each = (each 0 x y refl refl, all_zip P xs ys (omega (arith, count)) (λ i a b here there. each (suc i) a b here there))

log_or : {L : Type 0} → L → Option L → L
log_or d None = d
log_or d (Some x) = x

same_log : {L : Type 0} (a b : L) → Some a ≡ Some b → a ≡ b
unfolding log_or
same_log a b e = ap (log_or a) e

one_of_sum : {L : Type 0} (f : L → ℕ) (l : List L) (i : ℕ) (a : L) → get_elem? l i ≡ some a → f a ≤ sum_by f l
one_of_sum f [] i a here = absurd (some-ne-none a (sym here))
one_of_sum f (x ∷ l) zero a here = (let all = sum_by-cons f x l in let same = ap f (some-injective x a here) in omega (arith, all, same))
one_of_sum f (x ∷ l) (suc i) a here = (let all = sum_by-cons f x l in let rest = one_of_sum f l i a here in omega (arith, all, rest))

-- ---- what follows from the entries

-- the epochs of the round so far: where names are not settled between epochs, one was committed in it
record IsAhead (first : ℕ) (c : Core) : Type 0 where
  low : first ≤ c.front.committed
  before : c.front.committed ≤ c.front.planned
  few : c.front.planned ≤ 4294967295
  ahead : is_open c ≡ false → c.front.settled ≡ false → first < c.front.committed

step_ahead : (r : Scope) (first : ℕ) (c : Core) (e : Entry) → May r c e → IsAhead first c → IsAhead first (after r c e)
step_ahead r first c (entry.Plan e) may is = record {
  low = is.low;
  before = (let b = is.before in omega (arith, b));
  few = (let less = may.5 in let same = may.1 in omega (arith, less, same));
  ahead = λ closed unsettled. absurd (let over = ltb-false c.front.committed (c.front.planned + 1) closed in let b = is.before in omega (arith, over, b));
}
step_ahead r first c (entry.Claim t) may is = record { low = is.low; before = is.before; few = is.few; ahead = is.ahead }
step_ahead r first c (entry.Report t f) may is = record { low = is.low; before = is.before; few = is.few; ahead = is.ahead }
step_ahead r first c (entry.Version t) may is = record { low = is.low; before = is.before; few = is.few; ahead = λ closed unsettled. absurd (true≢false (sym may.0 ∙ closed)) }
step_ahead r first c (entry.Missed t) may is = record { low = is.low; before = is.before; few = is.few; ahead = is.ahead }
step_ahead r first c (entry.OutFile e) may is = record { low = is.low; before = is.before; few = is.few; ahead = λ closed unsettled. absurd (true≢false (sym may.2 ∙ closed)) }
step_ahead r first c (entry.Sync clock) may is = record { low = is.low; before = is.before; few = is.few; ahead = λ closed unsettled. absurd (true≢false unsettled) }
step_ahead r first c (entry.Commit e due) may is = record {
  low = (let l = is.low in omega (arith, l));
  before = (let less = open_less c may.2 in omega (arith, less));
  few = is.few;
  ahead = λ closed unsettled. (let l = is.low in omega (arith, l));
}
step_ahead r first c (entry.Upkeep p v) may is = is
step_ahead r first c (entry.Snapshot p v) may is = is
step_ahead r first c (entry.Unmade p v f) may is = record { low = is.low; before = is.before; few = is.few; ahead = is.ahead }
step_ahead r first c (entry.Untaken p v) may is = record { low = is.low; before = is.before; few = is.few; ahead = is.ahead }
step_ahead r first c (entry.Drop q) may is = is
step_ahead r first c (entry.Undropped q) may is = record { low = is.low; before = is.before; few = is.few; ahead = is.ahead }
step_ahead r first c (entry.Stop f) may is = record { low = is.low; before = is.before; few = is.few; ahead = is.ahead }

run_ahead : (tells : Type 0) (job : Job) (r : Scope) (due : Cuts → ℕ → Bool) (first : ℕ) (es : List Entry) (a n : State) → Leads tells job r due a es n → IsAhead first a.core → IsAhead first n.core
run_ahead tells job r due first [] a n l is = subst (λ (x : State). IsAhead first x.core) l is
run_ahead tells job r due first (e ∷ es) a n l is =
    run_ahead tells job r due first es l.0 n l.2 (subst (IsAhead first) (sym l.1.core) (step_ahead r first a.core e l.1.may is))

first_ahead : (r : Scope) (s : Start) → planned_by s.is_planned s.committed ≤ 4294967295 → IsAhead s.committed (first r s)
first_ahead r s few = record { low = omega arith; before = by s.is_planned; few = few; ahead = λ closed unsettled. absurd (true≢false unsettled) }
  where
    by : (b : Bool) → s.committed ≤ planned_by b s.committed
    by true = omega arith
    by false = omega arith

module _ {D L S F : Type 0} (stores logs : Type 0) (history : D → History) (lines : L → List Line) (available : L → ℕ) (answers : L → List ℕ) (faults : L → ℕ) (written : S → List ℕ) (sealed : F → List ℕ) (shown : Shown D (Round L)) (load : Load L S F)
    (whole : IsWhole stores logs history lines available answers faults written sealed shown load) (legal : IsLegal (Owns stores logs history lines shown) history (opening_in lines) shown) (order : IsInOrder shown.scope shown.core) where
  abbrev s : Setting
  s = setting_of lines shown.opening

  abbrev cuts : Cuts
  cuts = cuts_of (opening_in lines) shown

  abbrev owned : Type 0
  owned = Owns stores logs history lines shown

  ahead : IsAhead shown.opening.opened.committed shown.core
  ahead =
      let found = shown.opening.opened in
      let numbers = whole.round.numbers in
      let planned = planned_first found.committed (length found.plans) (nat_lt found.committed (length found.plans)) refl numbers.before numbers.near in
      run_ahead owned (opening_in lines shown.opening).job shown.scope (opening_in lines shown.opening).due found.committed shown.history (first_state (opening_in lines shown.opening) shown.scope (history shown.opened))
      (state legal.0 shown.core (shelf_of (opening_in lines) shown) cuts) legal.2 (first_ahead shown.scope (opening_in lines shown.opening).start (let few = numbers.few_plans in omega (arith, few, planned)))

  -- no log is with a worker
  pub there_back : (list_any is_away shown.core.maps ≡ false) → (i : ℕ) (part_log : PartLog L) → get_elem? load.part_logs.items i ≡ some part_log
      → (own : L) × (part_log.log ≡ Some own) × ((before : L) × (get_elem? shown.opening.logs.items i ≡ some before) × LogWent logs lines available answers faults before own)
  there_back none i part_log here =
      let less = at_length load.part_logs.items i part_log here in
      let parts = whole.holds.parts in
      let maps = order.sound.maps in
      let each = whole.round.parts in
      let part = part_there (parts_in s) i (omega (arith, less, parts)) in
      let at = there_at shown.core.maps i (omega (arith, less, parts, maps, each)) in
      let log = (whole.holds.logs i part.0 at.0 part_log part.1 at.1 here).log (none_away shown.core.maps i at.0 none at.1) in
      (log.0, log.1, (log.2.before, log.2.before_is, log.2.has_gone))

  pub logs_there : (list_any is_away shown.core.maps ≡ false) → All (λ (x : PartLog L). IsSome x.log) load.part_logs.items
  logs_there none = all_at (λ (x : PartLog L). IsSome x.log) load.part_logs.items (λ i part_log here. ap is_some (there_back none i part_log here).1)

  -- each log went on from the one that was opened
  pub logs_back : (list_any is_away shown.core.maps ≡ false) → (back : List L) → map (λ (log : L). Some log) back ≡ map (λ (x : PartLog L). x.log) load.part_logs.items
      → AllZip (LogWent logs lines available answers faults) shown.opening.logs.items back
  logs_back none back same =
      let count : length back ≡ length load.part_logs.items = sym (length-map back (λ (log : L). Some log)) ∙ ap length same ∙ length-map load.part_logs.items (λ (x : PartLog L). x.log) in
      let opened : length shown.opening.logs.items ≡ length (parts_in s) = sym (length-map shown.opening.logs.items lines) ∙ whole.round.logs in
      let parts = whole.holds.parts in
      all_zip (LogWent logs lines available answers faults) shown.opening.logs.items back (omega (arith, count, opened, parts)) (λ i before own there here. (
      let less = at_length back i own here in
      let part_log = there_at load.part_logs.items i (omega (arith, less, count)) in
      let log = there_back none i part_log.0 part_log.1 in
      let both : some (Some own) ≡ some part_log.0.log = sym (map_at (λ (log : L). Some log) back i own here) ∙ ap (λ l. get_elem? l i) same ∙ map_at (λ (x : PartLog L). x.log) load.part_logs.items i part_log.0 part_log.1 in
      let own_is : log.0 ≡ own = same_log log.0 own (sym log.1 ∙ sym (some-injective (Some own) part_log.0.log both)) in
      let before_is : log.2.0 ≡ before = some-injective log.2.0 before (sym log.2.1 ∙ there) in
      subst (λ (x : L). LogWent logs lines available answers faults x own) before_is (subst (λ (x : L). LogWent logs lines available answers faults log.2.0 x) own_is log.2.2)))

  -- a log that stopped the desk is among them, and counts a fault
  pub faulty_back : (back : List L) → map (λ (log : L). Some log) back ≡ map (λ (x : PartLog L). x.log) load.part_logs.items → shown.core.front.stop ≡ Some cause.LogFault → 0 < sum_by faults back
  faulty_back back same stopped =
      let was = whole.faulty stopped in
      let count : length back ≡ length load.part_logs.items = sym (length-map back (λ (log : L). Some log)) ∙ ap length same ∙ length-map load.part_logs.items (λ (x : PartLog L). x.log) in
      let less = at_length load.part_logs.items was.at was.part_log was.part_log_is in
      let own = there_at back was.at (omega (arith, less, count)) in
      let both : some (Some own.0) ≡ some was.part_log.log = sym (map_at (λ (log : L). Some log) back was.at own.0 own.1) ∙ ap (λ l. get_elem? l was.at) same ∙ map_at (λ (x : PartLog L). x.log) load.part_logs.items was.at was.part_log was.part_log_is in
      let own_is : was.log ≡ own.0 = same_log was.log own.0 (sym was.log_is ∙ sym (some-injective (Some own.0) was.part_log.log both)) in
      let part = one_of_sum faults back was.at own.0 own.1 in
      let counted = was.counted in
      let same_count = ap faults own_is in omega (arith, part, counted, same_count)

  -- what was told of the acknowledged epochs
  pub told_back : (b : Bool) (told : List Told) → (is_open shown.core || shown.core.front.settled) ≡ b → (b ≡ true → told ≡ load.told.items) → (b ≡ false → told ≡ take (length load.told.items - 1) load.told.items)
      → AreTold owned s cuts shown.opening.opened.committed (acknowledged_in shown.core) told
  told_back true told is all rest =
      subst (λ (n : ℕ). AreTold owned s cuts shown.opening.opened.committed n told) (sym (ap (λ (b : Bool). if b then shown.core.front.committed else shown.core.front.committed - 1) is))
      (subst (λ (l : List Told). AreTold owned s cuts shown.opening.opened.committed shown.core.front.committed l) (sym (all refl)) whole.told)
  told_back false told is all rest =
      let neither = both_false (is_open shown.core) shown.core.front.settled is in
      subst (λ (n : ℕ). AreTold owned s cuts shown.opening.opened.committed n told) (sym (ap (λ (b : Bool). if b then shown.core.front.committed else shown.core.front.committed - 1) is))
      (subst (λ (l : List Told). AreTold owned s cuts shown.opening.opened.committed (shown.core.front.committed - 1) l) (sym (rest refl))
      (told_less owned s cuts shown.opening.opened.committed shown.core.front.committed load.told.items (ahead.ahead neither.0 neither.1) whole.told))
    where
      both_false : (a b : Bool) → (a || b) ≡ false → (a ≡ false) × (b ≡ false)
      both_false true b e = absurd (true≢false e)
      both_false false b e = (refl, e)

  -- where the planned epochs end, by their plans
  plan_cuts : (e : ℕ) → e ≤ shown.core.front.planned → plan_ends (first_ends s) load.plans.items e ≡ cuts e
  plan_cuts zero le = sym whole.plans.begins
  plan_cuts (suc e) le = whole.plans.ends e (no_plan (first_ends s)) (omega (arith, le)) ∙ ap cuts (add-one e)

  -- what partitions keep, where the round is over
  over_left : ready_of shown.scope shown.core ≡ ready.Over → IsLeft owned s cuts shown.core.front.committed load.held.items
  over_left over =
      let o = over_is shown.scope shown.core over in
      let closed : is_open shown.core ≡ false = le-ltb shown.core.front.committed shown.core.front.planned o.1 in
      let many = whole.holds.keeping in
      let most = keeping_most s.job.bound.shape s.job.partitions in
      let reduces = order.sound.reduces in
      let scoped = whole.round.partitions in
      held_left owned s cuts shown.core.front.committed load.held.items many (λ p own here. (
      let less = at_length load.held.items p own here in
      let at = there_at shown.core.reduces p (omega (arith, less, many, most, reduces, scoped)) in
      between_held owned s cuts shown.core.front.committed p at.0 own (fine_not_gone at.0 (all_fine is_fine shown.core.reduces p at.0 (order.between closed).reduces at.1))
      (subst (λ (b : Bool). IsHeldAt owned s cuts b shown.core.front.committed p at.0 own) closed (whole.holds.kept o.0 p at.0 own at.1 here))))

  -- what the next round opens
  pub next_right : (next : Opened) (names : List Name) → names ≡ (shelf_of (opening_in lines) shown).settled → ready_of shown.scope shown.core ≡ ready.Over → next ≡ record { meta = load.kept.meta; plans = load.plans.items; committed = shown.core.front.committed; seen = lines_of load.view.bound.now load.seen; stores = stores_in load.held.items; names = names }
      → All HasLineTime next.seen → IsNext owned s cuts shown.scope.available shown.core (shelf_of (opening_in lines) shown) shown.opening.opened next
  next_right next names listed over is years =
      let runs = (over_is shown.scope shown.core over).0 in
      let bound = whole.view.bound in
      let seen = whole.holds.seen_so_far runs in
      let left = over_left over in
      let plans : next.plans ≡ load.plans.items = ap (λ (o : Opened). o.plans) is in
      let seen_is : next.seen ≡ lines_of s.job.bound load.seen = ap (λ (o : Opened). o.seen) is ∙ ap (λ (b : Bound). lines_of b load.seen) bound in
      let committed : next.committed ≡ shown.core.front.committed = ap (λ (o : Opened). o.committed) is in
      let stores_are : next.stores ≡ stores_in load.held.items = ap (λ (o : Opened). o.stores) is in
      let count : length next.plans ≡ shown.core.front.planned = ap length plans ∙ whole.plans.count in
      let cut_is : (e : ℕ) → e ≤ shown.core.front.planned → plan_ends (first_ends s) next.plans e ≡ cuts e = λ e le. ap (λ l. plan_ends (first_ends s) l e) plans ∙ plan_cuts e le in
      record {
        meta_is = ap (λ (o : Opened). o.meta) is ∙ whole.kept.meta_is;
        stores = subst (λ (n : ℕ). AreStores (keeping_in s) n next.stores) (sym committed) (subst (λ (l : List Store). AreStores (keeping_in s) shown.core.front.committed l) (sym stores_are) left.stores);
        names_are = ap (λ (o : Opened). o.names) is ∙ listed;
        committed_is = committed;
        planned = count;
        plans_on = (whole.plans.on.0, plans ∙ whole.plans.on.1);
        ends = λ e default less. ap (λ l. (get_or l e default).ends) plans ∙ whole.plans.ends e default (omega (arith, less, count));
        numbers = record {
          before = (let b = order.sound.before in omega (arith, b, committed, count));
          near = (let n = order.sound.near in omega (arith, n, committed, count));
          few_plans = (let f = ahead.few in omega (arith, f, count));
          follow = λ e less. (let one = cut_is e (omega (arith, less, count)) in let other = cut_is (e + 1) (omega (arith, less, count)) in
              (λ i. follows (one i) (other i)) ∙ whole.plans.follow e (omega (arith, less, count)));
          marks = subst (λ l. All (λ (p : Plan). ForSome p.watermark IsStampTime) l) (sym plans) whole.plans.marks;
          seen = inr (ap (has_lines (watermarked s.job.bound.streams)) seen_is ∙ lines_of_each (seen_at load.seen) s.job.bound.streams);
          years = years;
        };
        within = subst (λ (ends : Ends). AreWithin shown.scope.available ends) (sym (cut_is (length next.plans) (omega (arith, count)) ∙ ap cuts count ∙ ends_are stores logs history lines available answers faults written sealed shown load whole legal order))
            (ends_within stores logs history lines available answers faults written sealed shown load whole legal order);
        plans_are = λ t e default less. ap (λ l. get_or l e default) plans ∙ whole.plans.each t e default (omega (arith, less, count));
        seen_is = λ t. seen_is ∙ (let are = seen.are t in λ i. map (λ (d : Delay). (let line : SeenBy = record { stream = d.0; time = are d.0 i } in line)) (delays s.job.bound))
            ∙ ap (λ (n : ℕ). (course_of s cuts).seen n) (sym committed);
        states = λ t p. subst (λ (n : ℕ). HoldsStateOf s cuts n p (slice_get next.stores p)) (sym committed) (subst (λ (l : List Store). HoldsStateOf s cuts shown.core.front.committed p (slice_get l p)) (sym stores_are) (left.states t p));
      }

  -- with an index for each store
  indexes_right : (next : Opened) (closings : List (List Timed)) → ready_of shown.scope shown.core ≡ ready.Over → next.stores ≡ stores_in load.held.items → closings ≡ closings_in load.held.items → AreIndexes (Unit {0}) shown.opening.view.bound.now next.stores closings
  indexes_right next closings over stores_are closings_are =
      subst (λ (l : List Store). AreIndexes (Unit {0}) s.job.bound l closings) (sym stores_are) (subst (λ (l : List (List Timed)). AreIndexes (Unit {0}) s.job.bound (stores_in load.held.items) l) (sym closings_are) (over_left over).indexes)

  pub next_back : (next : Option NextRound) (b : Bool) (names : List Name) → names ≡ (shelf_of (opening_in lines) shown).settled
      → MatchOption next (b ≡ false) (λ next. (b ≡ true) × (next.opened ≡ record { meta = load.kept.meta; plans = load.plans.items; committed = shown.core.front.committed; seen = lines_of load.view.bound.now load.seen; stores = stores_in load.held.items; names = names }) × All HasLineTime next.opened.seen × (next.closings.items ≡ closings_in load.held.items))
      → (b ≡ true → (ready_of shown.scope shown.core ≡ ready.Over) × ((shelf_of (opening_in lines) shown).tidy ≡ true)) → (b ≡ false → (ready_of shown.scope shown.core ≢ ready.Over) ⊎ ((shelf_of (opening_in lines) shown).tidy ≡ false))
      → MatchOption next ((ready_of shown.scope shown.core ≢ ready.Over) ⊎ ((shelf_of (opening_in lines) shown).tidy ≡ false)) (λ next. (ready_of shown.scope shown.core ≡ ready.Over) × ((shelf_of (opening_in lines) shown).tidy ≡ true)
      × IsNext owned s cuts shown.scope.available shown.core (shelf_of (opening_in lines) shown) shown.opening.opened next.opened × AreIndexes (Unit {0}) shown.opening.view.bound.now next.opened.stores next.closings.items)
  next_back None b names listed is over other = other is
  next_back (Some next) b names listed is over other = ((over is.0).0, (over is.0).1, next_right next.opened names listed (over is.0).0 is.1 is.2, indexes_right next.opened next.closings.items (over is.0).0 (ap (λ (o : Opened). o.stores) is.1) is.3)

  -- where the round is over there is a greatest time, or none, for each stream
  pub seen_each : ready_of shown.scope shown.core ≡ ready.Over → length load.seen ≡ length load.view.bound.now.streams
  seen_each over = (whole.holds.seen_so_far (over_is shown.scope shown.core over).0).streams ∙ ap (λ (b : Bound). length b.streams) (sym whole.view.bound)
