-- How the first round begins on what was opened.
use Rattle.std.proofs.Common.{◌≡◌, ◌<◌, ◌≤◌, ◌+◌, ◌*◌, ◌++◌, ◌∙◌, ◌^◌, ℕ, zero, suc, Bool, true, false, List, [], ◌∷◌, length, map, get_or, sum, take, drop, All, Option, Some, None, Err, refl, sym, ap, subst, arith, if◌then◌else◌}
use Rattle.std.proofs.lemmas.List.{append-nil, length-map, length-drop, length-take, take-append-drop}
use Rattle.std.proofs.lemmas.List.Concat.{flat_map-cons}
use Rattle.std.proofs.lemmas.List.Sums.{sum_by-cons}
use Rattle.std.proofs.lemmas.List.Elements.{All-nil, All-cons, All-head, All-tail}
use Rattle.std.proofs.lemmas.Bool.{ltb-false}
use Rattle.std.proofs.lemmas.Option.{none-some}
use Rattle.std.specs.Option.{ForSome}
use Rattle.ssq_outside.specs.History.{History, files_now, LeavesNow}
use Rattle.ssq_outside.specs.Logs.{Line}
use Rattle.ssq_shape.specs.declared.bound.Bound.{Bound}
use Rattle.ssq_shape.specs.declared.bound.Shape.{Shape}
use Rattle.ssq_shape.specs.declared.bound.Shape.TheVariants.{Plain, Group, Dedup, Join}
use Rattle.ssq_plans.specs.declared.part.PartEnd.{PartEnd}
use Rattle.ssq_course.specs.Setting.{Setting, parts_in, end_at, job_of, keeping_of, cut_of as offsets_of}
use Rattle.ssq_meaning.specs.Parts.{Part}
use Rattle.ssq_open.specs.declared.wanted.Opened.{Opened}
use Rattle.ssq_open.specs.Epochs.{starts, last_ends}
use Rattle.ssq_open.specs.Lens.{CanBeAsked, IsFew, found_from}
use Rattle.ssq_open.specs.Numbers.{HasNumbers}
use Rattle.ssq_open.specs.Stateful.{keeping_of as opened_keeping}
use Rattle.ssq_open.specs.Stores.{AreStores}
use Rattle.ssq_open.specs.Opening.{first_short, is_short}
use Rattle.ssq_open.specs.Watermarks.{watermarked}
use Rattle.ssq_board.specs.Rounds.{HasCap}
use Rattle.ssq_terms.specs.Setting.{CanRun, IsSettingOf, found_lines}
use Rattle.ssq_terms.specs.Laws.{PartsAreFound}
use Rattle.ssq_promise.specs.Run.{AreTrueTo, NothingIsRun, OpenedIsTrue, as_planned}
use Rattle.ssq_logs.specs.Asked.{AreAsked}
use Rattle.ssq_desk.specs.declared.told.Told.{Told}
use Rattle.ssq_drive.specs.Good.{HasGoodLines}
use Rattle.ssq_drive.specs.Rounds.{CanBegin, IsMeant, first_of}
use Rattle.ssq_runner.specs.Lens.{lens_of, apart}
use Rattle.ssq_runner.specs.Rounds.{AreRounds}
use Rattle.ssq_runner.specs.Ending.{Begun, cuts_in, setting_in}
use Rattle.ssq_runner.specs.Going.{IsReady, planned_lines, scope_of}
use Rattle.ssq_open.specs.Fault.{DiskRises}
use Rattle.ssq_open.specs.Lens.{asked}
use Rattle.ssq_open.specs.Sought.{Sought}
use Rattle.ssq_open.specs.Opening.{IsRefused, IsOutside, IsOpening}
use Rattle.ssq_open.specs.Jobs.{IsWantedJob, IsJobs, States, AreStates}
use Rattle.ssq_open.specs.declared.fault.OpenFault.{OpenFault}
use Rattle.ssq_core.specs.Course.{Cuts, Job}
use Rattle.ssq_runner.specs.declared.ask.Ask.{Ask}
use Rattle.ssq_runner.specs.declared.fault.RunFault.{RunFault}
use Rattle.ssq_runner.specs.Running.{Given, IsOf, IsRunOf, IsOpenedOn, IsUnopened, denied, untried, RunEnd, refused, starved, sought_in}
use Rattle.ssq_runner.proofs.Cutting.{text_start}
use Rattle.ssq_runner.proofs.Answering.{none_asked, asked_on}
use Rattle.ssq_runner.proofs.Readying.{asked_under, asked_at, asked_found, asked_count, ends_each}

-- a setting over logs of which nothing is known
setting_over : Bound → ℕ → List ℕ → List ℕ → Setting
setting_over bound partitions parts found = record { job = record { bound = bound; partitions = partitions; parts = parts }; lines = map (λ _. []) found }

-- as many partitions keep state, as the opening and the course count them
same_keeping : (shape : Shape) (partitions : ℕ) → opened_keeping shape partitions ≡ keeping_of shape partitions
same_keeping Plain partitions = refl
same_keeping (Group grouping) partitions = refl
same_keeping (Dedup columns) partitions = refl
same_keeping (Join joining) partitions = refl

-- the lines apart are the lines
pub apart_joined : (counts found : List ℕ) → length found ≡ sum counts → found_lines (lens_of counts found) ≡ found
apart_joined [] [] count = refl
apart_joined [] (n ∷ found) count = absurd (omega (arith, count))
apart_joined (c ∷ counts) found count =
    let e : sum (c ∷ counts) ≡ c + sum counts = sum_by-cons (λ x. x) c counts in
    let rest : length (drop c found) ≡ sum counts = length-drop c found ∙ (omega (arith, count, e)) in
    flat_map-cons (λ list. list) (take c found) (apart counts (drop c found)) ∙ ap (λ (l : List ℕ). take c found ++ l) (apart_joined counts (drop c found) rest) ∙ take-append-drop c found

-- no part is short
short_at : (ends found : List PartEnd) → first_short ends found ≡ None → length ends ≡ length found → (i : ℕ) → get_or (offsets_of ends) i 0 ≤ get_or (offsets_of found) i 0
short_at [] found none count i = omega arith
short_at (end ∷ ends) [] none count i = absurd (omega (arith, count))
short_at (end ∷ ends) (there ∷ found) none count i = first_by (is_short (end, there)) refl none (λ j rest. short_at ends found rest (omega (arith, count)) j) i
  where
    first_by : (b : Bool) → is_short (end, there) ≡ b → (if b then Some (end, there) else first_short ends found) ≡ None → ((j : ℕ) → first_short ends found ≡ None → get_or (offsets_of ends) j 0 ≤ get_or (offsets_of found) j 0) → (i : ℕ)
        → get_or (offsets_of (end ∷ ends)) i 0 ≤ get_or (offsets_of (there ∷ found)) i 0
    first_by true e none rest i = absurd (none-some (end, there) (sym none))
    first_by false e none rest zero = ltb-false there.end end.end e
    first_by false e none rest (suc i) = rest i none

module _ (law : PartsAreFound) (bound : Bound) (asks : Option ℕ) (counts found : List ℕ) (can_ask : CanBeAsked bound asks (lens_of counts found)) (runs : CanRun bound) (each : length found ≡ sum counts)
    {D : Type 0} (tells : Type 0) (history : D → History) (before now : D) (opened : Opened) (is : IsOpenedOn tells history bound asks (lens_of counts found) before now opened) where
  s : Setting
  s = setting_over bound opened.meta.partitions opened.meta.parts found

  is_setting : IsSettingOf s bound asks (lens_of counts found)
  unfolding s setting_over
  is_setting = record {
    query = refl;
    runs = runs;
    asked = can_ask;
    some_partitions = is.some_partitions;
    few_partitions = is.few_partitions;
    as_asked = is.as_asked;
    parts = is.parts;
    counted = length-map found (λ _. []) ∙ ap length (sym (apart_joined counts found each));
  }

  -- where the parts begin
  begin_same : starts (found_from 0 (apart counts found)) ≡ first_of opened
  unfolding s setting_over
  begin_same = (let l = law s bound asks (lens_of counts found) is_setting in sym l.1 ∙ l.3)

  begin_count : length (first_of opened) ≡ length found
  unfolding s setting_over
  begin_count = (let l = law s bound asks (lens_of counts found) is_setting in ap length (sym l.3) ∙ length-map (parts_in s) (λ (part : Part). end_at part 0) ∙ l.0 ∙ length-map found (λ _. []))

  found_same : offsets_of (found_from 0 (apart counts found)) ≡ found
  found_same = (let l = law s bound asks (lens_of counts found) is_setting in l.2 ∙ apart_joined counts found each)

  pub can_first : (logs : ℕ) (cap : Option ℕ) → logs ≡ length found → logs ≤ 128 → sum found < 2 ^ 64 → HasCap cap → CanBegin bound logs opened (scope_of opened found cap)
  can_first logs cap same few small has_cap = record {
    runs = runs;
    partitions = refl;
    some_partitions = is.some_partitions;
    few_partitions = is.few_partitions;
    streams = ap length is.parts ∙ length-map (apart counts found) length ∙ can_ask.each_stream;
    few_streams = can_ask.few_streams;
    parts = sym begin_count;
    log_each = same ∙ sym begin_count;
    cap = has_cap;
    few_tasks = (let p = is.few_partitions in omega (arith, same, few, p));
    few_lines = small;
    numbers = subst (λ (ends : List PartEnd). HasNumbers (watermarked bound.streams) ends opened) begin_same is.numbers;
    stores = subst (λ (n : ℕ). AreStores n opened.committed opened.stores) (same_keeping bound.shape opened.meta.partitions) is.stores;
    long = λ i. long i;
  }
    where
      ends_long : first_short (last_ends (first_of opened) opened.plans) (found_from 0 (apart counts found)) ≡ None
      ends_long = subst (λ (ends : List PartEnd). first_short (last_ends ends opened.plans) (found_from 0 (apart counts found)) ≡ None) begin_same is.long

      long : (i : ℕ) → get_or (planned_lines opened) i 0 ≤ get_or found i 0
      long i = (let l = short_at (last_ends (first_of opened) opened.plans) (found_from 0 (apart counts found)) ends_long ends_count i in let f = ap (λ (l : List ℕ). get_or l i 0) found_same in omega (arith, l, f))
        where
          ends_count : length (last_ends (first_of opened) opened.plans) ≡ length (found_from 0 (apart counts found))
          ends_count =
              ends_each (watermarked bound.streams) opened (subst (λ (ends : List PartEnd). HasNumbers (watermarked bound.streams) ends opened) begin_same is.numbers) (length opened.plans) (omega arith)
              ∙ begin_count ∙ sym (ap length found_same) ∙ length-map (found_from 0 (apart counts found)) (λ (end : PartEnd). end.end)

-- the logs were asked, and nothing was done yet
pub ready_first : {L : Type 0} (T U : Type 0) (lines : L → List Line) (available : L → ℕ) (answers : L → List ℕ) (faults : L → ℕ) → (U → T) → NothingIsRun U → OpenedIsTrue → (b : Begun L) (news : List L) (found : List ℕ) (OutTells : Type 0)
    → b.seen ≡ found → AreAsked T lines available answers faults b.logs news found → length b.logs ≤ 128 → CanBegin b.bound (length news) b.found (scope_of b.found found b.cap)
    → IsReady U lines available answers faults b 0 b.start b.disk_faults news OutTells b.written b.found found
unfolding AreRounds
ready_first T U lines available answers faults less nothing at_rest b news found OutTells seen ask few can =
    let under = asked_under T U lines available answers faults less b.logs news found ask in
    let count = asked_count T lines available answers faults b.logs news found ask in
    record {
      before = b.logs;
      so_far = record {
        done = [];
        told = [];
        number = refl;
        has = record { more = []; keeps = sym (append-nil b.found.plans); are = tt; within = omega arith; told_are = tt; few = (let n = can.numbers.before in omega (arith, n)); near = (let n = can.numbers.near in omega (arith, n)); whole = λ never. absurd (omega (arith, never)) };
        all = refl;
        committed = omega arith;
        whole = λ never. absurd (omega (arith, never));
        meta_is = refl;
        good = λ u. All-nil (λ (t : Told). HasGoodLines (setting_in U lines available answers faults b) (cuts_in b b.found.plans) t.epoch);
        wrote = λ o. text_start b.written;
        asked = record { answered = none_asked U lines available answers faults 0 b.logs; first = tt };
        fits = record {
          runs = can.runs;
          some_partitions = can.some_partitions;
          few_partitions = can.few_partitions;
          streams = can.streams;
          few_streams = can.few_streams;
          log_each = sym count.0 ∙ can.log_each;
          few_logs = few;
          has_cap = can.cap;
          numbers = can.numbers;
          stores = can.stores;
        };
        there = λ never. absurd (omega (arith, never));
        disk_counted = omega arith;
        kept = λ never. absurd (omega (arith, never));
        ran = λ u own.
            let s = setting_in U lines available answers faults b in
            let desk = own.found_is.desk in (
              record {
                run = nothing (job_of s) b.start;
                files = as_planned
                    (subst (λ (planned : ℕ). LeavesNow b.start (AreTrueTo ((job_of s).course (cuts_in b b.found.plans)) planned)) own.found_is.planned
                    (subst (λ (cuts : Cuts). LeavesNow b.start (AreTrueTo ((job_of s).course cuts) desk.planned)) own.found_is.cuts (at_rest (job_of s) b.start desk own.settled own.found_is.is)));
                meant = All-nil (IsMeant s (cuts_in b b.found.plans));
              },
              own.settled,
              own.found_is,
            );
      };
      asked = λ epochs. record { answered = asked_on U lines available answers faults 0 [] b.logs b.logs news found [] epochs refl (none_asked U lines available answers faults 0 b.logs) under; first = sym seen };
      can = can;
      few = (let c = count.0 in omega (arith, few, c));
      seen = λ u i own at. (let e = asked_at T lines available answers faults b.logs news found ask (less u) i own at in omega (arith, e));
      are = λ u. asked_found T lines available answers faults b.logs news found ask (less u);
    }

-- the job that is wanted is that of the query, the parts and the lines that were found
pub sought_same : {L : Type 0} (g : Given L) (bound : Bound) (ask : Ask) (counts found : List ℕ) → IsOf bound ask counts g → sought_in g found ≡ asked bound ask.partitions (lens_of counts found)
sought_same g bound ask counts found of = λ i. asked (of.bound_is i) (of.asks_are i) (lens_of (of.counts_are i) found)

-- nothing was opened, and so the run ends
pub unopened_end : {D L : Type 0} (T U : Type 0) (history : D → History) (disks : D → ℕ) (lines : L → List Line) (available : L → ℕ) (answers : L → List ℕ) (faults : L → ℕ) → (U → T) → (g : Given L) (bound : Bound) (ask : Ask) (counts found : List ℕ) (before now : D) (logs : List L)
    (OutTells : Type 0) (written text : List ℕ) (why : RunFault) → AreAsked U lines available answers faults g.logs logs found
    → ((cause : OpenFault) → (T → (job : Job) (states : States) → IsWantedJob (asked bound ask.partitions (lens_of counts found)) job → AreStates job states → IsJobs (asked bound ask.partitions (lens_of counts found)) job (files_now (history before)) → IsOutside cause) → U → (s : Setting) → IsRunOf lines g s → IsJobs (sought_in g found) (job_of s) (files_now g.start) → IsOutside cause)
    → IsOf bound ask counts g → g.start ≡ history before → g.disk_faults ≡ disks before → g.written ≡ written → text ≡ [] → IsUnopened T history disks bound ask.partitions (lens_of counts found) before now why
    → RunEnd U lines available answers faults g (history now) (disks now) logs OutTells written text (Err why)
unopened_end T U history disks lines available answers faults less g bound ask counts found before now logs OutTells written text why asks ours of start faulty wrote empty (denied cause is checks moments outside risen) =
    refused found cause asks
    (λ u. subst (λ (s : Sought). IsRefused s (files_now g.start) (files_now (history now)) cause) (sym (sought_same g bound ask counts found of)) (subst (λ (h : History). IsRefused (asked bound ask.partitions (lens_of counts found)) (files_now h) (files_now (history now)) cause) (sym start) (checks (less u))))
    (λ u. subst (λ (s : Sought). IsOpening s g.start (history now)) (sym (sought_same g bound ask counts found of)) (subst (λ (h : History). IsOpening (asked bound ask.partitions (lens_of counts found)) h (history now)) (sym start) (moments (less u))))
    (ours cause outside)
    (subst (λ (n : ℕ). DiskRises cause n (disks now)) (sym faulty) risen) (record { unwritten = λ o. sym wrote; untold = empty }) (ap Err is)
unopened_end T U history disks lines available answers faults less g bound ask counts found before now logs OutTells written text why asks ours of start faulty wrote empty (untried is same) =
    starved found asks (ap history same ∙ sym start) (record { unwritten = λ o. sym wrote; untold = empty }) (ap Err is)

-- streams of at most 64 parts each
pub apart_few : (counts found : List ℕ) → All (λ count. count ≤ 64) counts → All IsFew (apart counts found)
apart_few [] found few = All-nil IsFew
apart_few (c ∷ counts) found few =
    All-cons IsFew (take c found) (apart counts (drop c found)) (let l = length-take c found in let h = All-head (λ count. count ≤ 64) c counts few in omega (arith, l, h)) (apart_few counts (drop c found) (All-tail (λ count. count ≤ 64) c counts few))

pub apart_count : (counts found : List ℕ) → length (apart counts found) ≡ length counts
apart_count [] found = refl
apart_count (c ∷ counts) found = ap suc (apart_count counts (drop c found))

pub few_together : (counts : List ℕ) → All (λ count. count ≤ 64) counts → sum counts ≤ 64 * length counts
few_together [] few = omega arith
few_together (c ∷ counts) few = (let e : sum (c ∷ counts) ≡ c + sum counts = sum_by-cons (λ x. x) c counts in let h = All-head (λ count. count ≤ 64) c counts few in let r = few_together counts (All-tail (λ count. count ≤ 64) c counts few) in omega (arith, e, h, r))

pub can_ask : (bound : Bound) (asks : Option ℕ) (counts found : List ℕ) → ForSome asks (λ count. (1 ≤ count) × (count ≤ 64)) → All (λ count. count ≤ 64) counts → length counts ≡ length bound.streams → length bound.streams ≤ 2 → CanBeAsked bound asks (lens_of counts found)
can_ask bound asks counts found some_asked few each streams = record {
  partitions_in = some_asked;
  few_parts = apart_few counts found few;
  each_stream = apart_count counts found ∙ each;
  few_streams = omega (arith, streams);
}
