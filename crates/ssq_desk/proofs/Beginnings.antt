-- What is so of a desk where its round begins.
use Rattle.std.proofs.Common.{◌≡◌, ◌<◌, ◌≤◌, ◌+◌, ◌-◌, ◌^◌, ◌==◌, ◌&&◌, not, Bool, [], ◌∷◌, ℕ, ℤ, zero, suc, true, false, true≢false, List, map, length, get_or, nat_lt, Option, Some, None, inl, inr, refl, sym, ap, ◌∙◌, subst, arith, add-one}
use Rattle.std.specs.Prelude.{All, IfSome, IsTrue, slice_get, is_some, option_and_then}
use Rattle.std.specs.List.{cons_option, list_all, zip}
use Rattle.std.proofs.lemmas.Bool.{eq-eqb, eqb-true, ne_eqb, cases_lt, ltb-true}
use Rattle.std.proofs.lemmas.List.{append-nil, length-map, get_or_default}
use Rattle.std.proofs.lemmas.List.Elements.{All-nil, All-cons, All-head, All-tail}
use Rattle.std.proofs.lemmas.Option.{slice_get-get_or}
use Rattle.ssq_outside.specs.History.{History, files_now}
use mathlib.Core.Option.{some, some-injective, some-ne-none}
use lib.ListN.{get_elem?}
use Rattle.ssq_shape.specs.declared.bound.Bound.{Bound}
use Rattle.ssq_shape.specs.declared.bound.Stream.{Stream}
use Rattle.ssq_meaning.specs.Meaning.{Line}
use Rattle.ssq_meaning.specs.Parts.{Part, parts_from, parts_of}
use Rattle.ssq_meaning.specs.Cut.{Cuts as Offsets}
use Rattle.ssq_meaning.specs.Times.{Delay, delay_of, delays, delays_from, is_above, later, watermark_by}
use Rattle.ssq_meaning.specs.Epochs.{seen, watermark_before}
use Rattle.ssq_meaning.proofs.Causal.{says_same}
use Rattle.ssq_meaning.proofs.Water.{later_none}
use Rattle.ssq_water.specs.Water.{seen_at}
use Rattle.ssq_plans.specs.declared.plan.Plan.{Plan}
use Rattle.ssq_plans.specs.declared.part.PartEnd.{PartEnd}
use Rattle.ssq_plans.specs.declared.seen.SeenBy.{SeenBy}
use Rattle.ssq_core.specs.Course.{Cuts, Ends, plan_of}
use Rattle.ssq_core.proofs.Holding.{both_are}
use Rattle.ssq_course.specs.Setting.{Setting, parts_in, end_at, first_ends, course_of, job_of, closes, watermark_at, seen_at as lines_at, cuts_of as offsets, cut_of as cut_numbers}
use Rattle.ssq_open.specs.declared.streams.Watermarked.{Watermarked}
use Rattle.ssq_open.specs.declared.wanted.Opened.{Opened}
use Rattle.ssq_open.specs.Epochs.{cut_of, no_plan, follows, keeps_up}
use Rattle.ssq_open.specs.Watermarks.{watermarked, watermarked_from, watermarked_by, is_line_of}
use Rattle.ssq_task.specs.Committing.{told}
use Rattle.ssq_task.proofs.Commits.{told_more, none_before, streams_of, places_of}
use Rattle.ssq_terms.specs.Laws.{due_at, TasksHaveTerms}
use Rattle.ssq_terms.specs.Opening.{DeskOpensAsFound}
use Rattle.ssq_terms.proofs.Wanted.{parts_found}
use Rattle.ssq_terms.proofs.Unmarked.{unmarked_none}
use Rattle.ssq_board.specs.Core.{Scope}
use Rattle.ssq_board.specs.Shown.{IsStart, first, planned_by}
use Rattle.ssq_board.specs.Follows.{Terms}
use Rattle.ssq_board.specs.Laws.{IsOpenedAt}
use Rattle.ssq_promise.specs.Run.{Begins}
use Rattle.ssq_ledger.specs.Shown.{TellsPlans, first_state}
use Rattle.ssq_desk.specs.declared.desk.PartLog.{PartLog}
use Rattle.ssq_desk.specs.Round.{IsRound, IsOwned, is_due, is_due_on, mark_of, opening_of, start_at}
use Rattle.ssq_desk.specs.First.{part_logs_of}
use Rattle.ssq_desk.specs.Contents.{AreSeen}
use Rattle.ssq_desk.specs.Whole.{ArePlans}
use Rattle.ssq_desk.proofs.Ends.{planned_first}

-- ---- the parts and their lines

abbrev part_or : Part → Option Part → Part
part_or d None = d
part_or d (Some p) = p

lines_from : (stream number left : ℕ) (counts : List ℕ) (lines : List (List Line)) (i : ℕ) (part : Part) (own : List Line) → slice_get (parts_from stream number left counts lines) i ≡ Some part → get_elem? lines i ≡ some own
    → own ≡ part.lines
unfolding parts_from
lines_from stream number left counts [] i part own there here = absurd (some-ne-none own (sym here))
lines_from stream number (suc left) counts (first ∷ lines) zero part own there here = sym (some-injective first own here) ∙ ap (λ (o : Option Part). (part_or part o).lines) there
lines_from stream number (suc left) counts (first ∷ lines) (suc i) part own there here = lines_from stream (number + 1) left counts lines i part own there here
lines_from stream number zero [] (first ∷ lines) i part own there here = absurd (true≢false (sym (ap is_some there)))
lines_from stream number zero (count ∷ counts) (first ∷ lines) i part own there here = lines_from (stream + 1) 0 count counts (first ∷ lines) i part own there here

pub own_lines : (counts : List ℕ) (lines : List (List Line)) (i : ℕ) (part : Part) (own : List Line) → slice_get (parts_of counts lines) i ≡ Some part → get_elem? lines i ≡ some own → own ≡ part.lines
own_lines [] lines i part own there here = absurd (true≢false (sym (ap is_some there)))
own_lines (count ∷ counts) lines i part own there here = lines_from 0 0 count counts lines i part own there here

module _ {A : Type 0} where
  pub slice_below : (l : List A) (i : ℕ) (a : A) → slice_get l i ≡ Some a → i < length l
  slice_below [] i a e = absurd (true≢false (sym (ap is_some e)))
  slice_below (x ∷ l) zero a e = omega arith
  slice_below (x ∷ l) (suc i) a e = omega (arith, slice_below l i a e)

pub map_at : {A B : Type 0} (f : A → B) (l : List A) (i : ℕ) (a : A) → get_elem? l i ≡ some a → get_elem? (map f l) i ≡ some (f a)
map_at f [] i a e = absurd (some-ne-none a (sym e))
map_at f (x ∷ l) zero a e = ap (λ y. some (f y)) (some-injective x a e)
map_at f (x ∷ l) (suc i) a e = map_at f l i a e

-- what the desk has of a part, with its log
pub record IsPlaced {L : Type 0} (parts ends : List PartEnd) (logs : List L) (i : ℕ) (part_log : PartLog L) : Type 0 where
  pub log : L
  pub here : get_elem? logs i ≡ some log
  pub log_is : part_log.log ≡ Some log
  pub stream_is : (d : PartEnd) → (get_or parts i d).stream ≡ part_log.stream
  pub part_is : (d : PartEnd) → (get_or parts i d).part ≡ part_log.part
  pub from_is : (d : PartEnd) → (get_or ends i d).end ≡ part_log.from
  pub nothing : part_log.fed ≡ None
  pub part_below : i < length parts
  pub end_below : i < length ends

module _ {L : Type 0} where
  pub part_logs_count : (parts ends : List PartEnd) (logs : List L) → length parts ≡ length logs → length ends ≡ length logs → length (part_logs_of parts ends logs) ≡ length logs
  part_logs_count [] [] [] p e = refl
  part_logs_count [] [] (log ∷ logs) p e = absurd (omega (arith, p))
  part_logs_count [] (end ∷ ends) logs p e = absurd (omega (arith, p, e))
  part_logs_count (part ∷ parts) [] logs p e = absurd (omega (arith, p, e))
  part_logs_count (part ∷ parts) (end ∷ ends) [] p e = absurd (omega (arith, p))
  part_logs_count (part ∷ parts) (end ∷ ends) (log ∷ logs) p e = omega (arith, part_logs_count parts ends logs (omega (arith, p)) (omega (arith, e)))

  pub part_log_at : (parts ends : List PartEnd) (logs : List L) (i : ℕ) (part_log : PartLog L) → get_elem? (part_logs_of parts ends logs) i ≡ some part_log → IsPlaced parts ends logs i part_log
  part_log_at [] ends logs i part_log e = absurd (some-ne-none part_log (sym e))
  part_log_at (part ∷ parts) [] logs i part_log e = absurd (some-ne-none part_log (sym e))
  part_log_at (part ∷ parts) (end ∷ ends) [] i part_log e = absurd (some-ne-none part_log (sym e))
  part_log_at (part ∷ parts) (end ∷ ends) (log ∷ logs) zero part_log e =
      let same = some-injective (record { stream = part.stream; part = part.part; from = end.end; log = Some log; fed = None }) part_log e in record {
        log = log;
        here = refl;
        log_is = sym (ap (λ (x : PartLog L). x.log) same);
        stream_is = λ d. ap (λ (x : PartLog L). x.stream) same;
        part_is = λ d. ap (λ (x : PartLog L). x.part) same;
        from_is = λ d. ap (λ (x : PartLog L). x.from) same;
        nothing = sym (ap (λ (x : PartLog L). x.fed) same);
        part_below = omega arith;
        end_below = omega arith;
      }
  part_log_at (part ∷ parts) (end ∷ ends) (log ∷ logs) (suc i) part_log e =
      let is = part_log_at parts ends logs i part_log e in record {
        log = is.log;
        here = is.here;
        log_is = is.log_is;
        stream_is = is.stream_is;
        part_is = is.part_is;
        from_is = is.from_is;
        nothing = is.nothing;
        part_below = (let less = is.part_below in omega (arith, less));
        end_below = (let less = is.end_below in omega (arith, less));
      }

-- ---- the greatest times

abbrev pub line_by : (ℕ → Option ℤ) → Delay → SeenBy
line_by of stream = record { stream = stream.0; time = of stream.0 }

own_streams : (of : ℕ → Option ℤ) (ds : List Delay) → streams_of (map (line_by of) ds) ≡ places_of ds
own_streams of [] = refl
own_streams of (d ∷ ds) = ap (λ (l : List ℕ). d.0 ∷ l) (own_streams of ds)

-- a commit's lines tell the greatest times of all streams, where those without a line have none
pub told_from : (of : ℕ → Option ℤ) (at : ℕ) (streams : List Stream) (stream : ℕ) → at ≤ stream → ((j : ℕ) → at + j ≡ stream → IfSome (slice_get streams j) (λ s. s.delay ≡ None) → of stream ≡ None)
    → told (map (line_by of) (delays_from at streams)) stream ≡ of stream
unfolding delays_from
told_from of at [] stream le none = (let m = minus at stream le in sym (none m.0 m.1 tt))
  where
    minus : (m n : ℕ) → m ≤ n → (j : ℕ) × (m + j ≡ n)
    minus m n le = (n - m, omega (arith, le))
told_from of at (s ∷ streams) stream le none = elim (cases_lt at stream) [
  | inl less ↦ there s.delay less (told_from of (at + 1) streams stream (omega (arith, less)) (λ j e unmarked. none (suc j) (omega (arith, e)) unmarked))
  | inr not ↦ here s.delay refl (omega (arith, le, not))
]
  where
    there : (delay : Option ℤ) → at < stream → told (map (line_by of) (delays_from (at + 1) streams)) stream ≡ of stream
        → told (map (line_by of) (cons_option (delay_of at delay) (delays_from (at + 1) streams))) stream ≡ of stream
    there None less rest = rest
    there (Some delay) less rest = told_more (record { stream = at; time = of at }) (map (line_by of) (delays_from (at + 1) streams)) stream false (ne_eqb at stream (λ same. omega (arith, less, same))) ∙ rest

    here : (delay : Option ℤ) → s.delay ≡ delay → at ≡ stream → told (map (line_by of) (cons_option (delay_of at delay) (delays_from (at + 1) streams))) stream ≡ of stream
    here None is same =
        none_before (at + 1) stream streams (map (line_by of) (delays_from (at + 1) streams)) (omega (arith, same)) (own_streams of (delays_from (at + 1) streams))
        ∙ sym (none 0 (omega (arith, same)) is)
    here (Some delay) is same =
        told_more (record { stream = at; time = of at }) (map (line_by of) (delays_from (at + 1) streams)) stream true (eq-eqb at stream same)
        ∙ ap (later (of at)) (none_before (at + 1) stream streams (map (line_by of) (delays_from (at + 1) streams)) (omega (arith, same)) (own_streams of (delays_from (at + 1) streams)))
        ∙ later_none (of at) ∙ ap of same

pub nothing_seen : (query : Bound) (parts : List Part) (cuts : Offsets) (stream : ℕ) → told [] stream ≡ seen query parts cuts stream 0
unfolding seen
nothing_seen query parts cuts stream = refl

-- a watermarked stream is one of the query
abbrev IsBelow : ℕ → Watermarked → Type 0
IsBelow n w = w.stream < n

marked_below : (at : ℕ) (streams : List Stream) (n : ℕ) → at + length streams ≤ n → All (IsBelow n) (watermarked_from at streams)
marked_below at [] n le = All-nil (IsBelow n)
marked_below at (s ∷ rest) n le = by s.delay (marked_below (at + 1) rest n (omega (arith, le)))
  where
    by : (delay : Option ℤ) → All (IsBelow n) (watermarked_from (at + 1) rest) → All (IsBelow n) (watermarked_by at delay (watermarked_from (at + 1) rest))
    by None more = more
    by (Some late) more = All-cons (IsBelow n) (record { stream = at; delay = late }) (watermarked_from (at + 1) rest) (omega (arith, le)) more

-- lines that are one for each of these are of streams of the query
own_below : (ws : List Watermarked) (lines : List SeenBy) (n : ℕ) → length ws ≡ length lines → list_all is_line_of (zip ws lines) ≡ true → All (IsBelow n) ws → All (λ (line : SeenBy). line.stream < n) lines
own_below ws [] n count own below = All-nil (λ (line : SeenBy). line.stream < n)
own_below [] (line ∷ lines) n count own below = absurd (omega (arith, count))
own_below (w ∷ ws) (line ∷ lines) n count own below =
    let both = both_are (w.stream == line.stream) (list_all is_line_of (zip ws lines)) own in
    All-cons (λ (line : SeenBy). line.stream < n) line lines (subst (λ (m : ℕ). m < n) (eqb-true w.stream line.stream both.0) (All-head (IsBelow n) w ws below))
    (own_below ws lines n (omega (arith, count)) both.1 (All-tail (IsBelow n) w ws below))

-- ---- the round

-- the same parts have as many ends
followed : (before ends : Ends) → IsTrue (follows before ends) → length ends ≡ length before
followed before ends is = (let both = both_are (length before == length ends) (list_all keeps_up (zip before ends)) is in sym (eqb-true (length before) (length ends) both.0))

-- each cut that was opened has one end for each part
pub long_ends : (firsts : Ends) (plans : List Plan) (n k : ℕ) → length firsts ≡ n → ((e : ℕ) → e < length plans → IsTrue (follows (cut_of firsts plans e) (cut_of firsts plans (e + 1)))) → k ≤ length plans
    → length (cut_of firsts plans k) ≡ n
long_ends firsts plans n zero count follow le = count
long_ends firsts plans n (suc k) count follow le =
    subst (λ (m : ℕ). length (cut_of firsts plans m) ≡ n) (add-one k)
    (followed (cut_of firsts plans k) (cut_of firsts plans (k + 1)) (follow k (omega (arith, le))) ∙ long_ends firsts plans n k count follow (omega (arith, le)))

-- the plans of a job tell where its cuts end, and a watermark that hangs on the epochs before
pub tells_plans : (s : Setting) → TellsPlans (job_of s)
tells_plans s = record {
  ends = λ cuts e. refl;
  watermark = λ cuts other e same. (says_same s.job.bound (parts_in s) (offsets cuts) (offsets other) e (λ k le. ap cut_numbers (same k le))).same_watermark e (omega arith);
}

module _ (s : Setting) (found : Opened) (r : Scope) (is : IsRound s found r) where
  firsts_count : length (first_ends s) ≡ length (parts_in s)
  firsts_count = length-map (parts_in s) (λ (part : Part). end_at part 0)

  ends_count : (k : ℕ) → k ≤ length found.plans → length (cut_of (first_ends s) found.plans k) ≡ length (parts_in s)
  ends_count k le = long_ends (first_ends s) found.plans (length (parts_in s)) k firsts_count is.numbers.follow le

  pub from_count : length (start_at (first_ends s) s.job.bound found).from ≡ length (parts_in s)
  from_count = ends_count found.committed is.numbers.before

  pub start_is : IsStart r (start_at (first_ends s) s.job.bound found)
  start_is = (let to = ends_count (length found.plans) (omega arith) in record { from = from_count ∙ sym to; available = is.parts ∙ sym to })

  pub few_planned : nat_lt found.committed (length found.plans) ≡ true → found.committed < 4294967295
  few_planned planned = (let less = ltb-true found.committed (length found.plans) planned in let few = is.numbers.few_plans in omega (arith, less, few))

  pub few_parts : length s.job.parts ≤ 2 ^ 32
  few_parts = subst (λ (n : ℕ). n ≤ 2 ^ 32) (sym is.streams) is.few_streams

  pub lines_below : All (λ (line : SeenBy). line.stream < length s.job.bound.streams) found.seen
  lines_below = elim is.numbers.seen [
    | inl none ↦ subst (λ (lines : List SeenBy). All (λ (line : SeenBy). line.stream < length s.job.bound.streams) lines) (sym none) (All-nil (λ (line : SeenBy). line.stream < length s.job.bound.streams))
    | inr own ↦ (let both = both_are (length (watermarked s.job.bound.streams) == length found.seen) (list_all is_line_of (zip (watermarked s.job.bound.streams) found.seen)) own in
        own_below (watermarked s.job.bound.streams) found.seen (length s.job.bound.streams) (eqb-true (length (watermarked s.job.bound.streams)) (length found.seen) both.0) both.1
        (marked_below 0 s.job.bound.streams (length s.job.bound.streams) (omega arith)))
  ]

  -- each plan ends where the next cut is
  pub planned_ends : (e : ℕ) (default : Plan) → e < length found.plans → (get_or found.plans e default).ends ≡ cut_of (first_ends s) found.plans (e + 1)
  planned_ends e default less =
      subst (λ (n : ℕ). (get_or found.plans e default).ends ≡ cut_of (first_ends s) found.plans n) (sym (add-one e))
      (ap (λ (p : Plan). p.ends) (get_or_default found.plans e default (no_plan (first_ends s)) less))

module _ (owned : Type 0) (s : Setting) (found : Opened) (r : Scope) (is : IsRound s found r) {start : History} (own : owned → IsOwned s found r start) where
  pub terms : TasksHaveTerms → owned → Terms (job_of s) r (due_at s)
  terms have t = (let o = own t in (have s s.job.bound o.asks o.lens r o.setting o.lines o.scope).0)

  -- the cuts that a desk of the machine opens with are those that were opened
  pub same_cuts : (t : owned) → (own t).desk.desk.cuts ≡ cut_of (first_ends s) found.plans
  same_cuts t = (let o = own t in o.desk.cuts ∙ ap (λ (ends : Ends). cut_of ends found.plans) (sym (parts_found s s.job.bound o.asks o.lens o.setting).1))

  pub plans_are : ArePlans owned found.plans s (cut_of (first_ends s) found.plans) (planned_by (nat_lt found.committed (length found.plans)) found.committed) found.plans
  plans_are =
      let count = planned_first found.committed (length found.plans) (nat_lt found.committed (length found.plans)) refl is.numbers.before is.numbers.near in record {
        count = sym count;
        on = ([], sym (append-nil found.plans));
        begins = refl;
        follow = λ e less. is.numbers.follow e (subst (λ (n : ℕ). e < n) count less);
        ends = λ e default less. planned_ends s found r is e default (subst (λ (n : ℕ). e < n) count less);
        marks = is.numbers.marks;
        each = λ t e default less. (own t).jobs.plans e default (subst (λ (n : ℕ). e < n) count less) ∙ ap (λ (cuts : Cuts). plan_of (course_of s cuts) e) (same_cuts t);
      }

  told_is : owned → (stream : ℕ) → told found.seen stream ≡ seen s.job.bound (parts_in s) (offsets (cut_of (first_ends s) found.plans)) stream found.committed
  told_is t stream = elim (own t).jobs.seen [
    | inl none ↦ ap (λ (lines : List SeenBy). told lines stream) none.1 ∙ nothing_seen s.job.bound (parts_in s) (offsets (cut_of (first_ends s) found.plans)) stream ∙ ap (seen s.job.bound (parts_in s) (offsets (cut_of (first_ends s) found.plans)) stream) (sym none.0)
    | inr mine ↦ (
        let of : ℕ → Option ℤ = λ stream. seen s.job.bound (parts_in s) (offsets (cut_of (first_ends s) found.plans)) stream found.committed in
        ap (λ (lines : List SeenBy). told lines stream) (mine ∙ ap (λ (cuts : Cuts). lines_at s cuts found.committed) (same_cuts t))
        ∙ told_from of 0 s.job.bound.streams stream (omega arith)
        (λ j e unmarked. unmarked_none s.job.bound (parts_in s) (offsets (cut_of (first_ends s) found.plans)) stream found.committed is.runs.events
        (subst (λ (n : ℕ). IfSome (slice_get s.job.bound.streams n) (λ s. s.delay ≡ None)) (let same : j ≡ stream = omega (arith, e) in same) unmarked))
        )
  ]

  pub times_are : (times : List (Option ℤ)) → length times ≡ length s.job.bound.streams → ((stream : ℕ) → seen_at times stream ≡ told found.seen stream)
      → AreSeen owned s (cut_of (first_ends s) found.plans) found.committed times
  times_are times count are = record { streams = count; are = λ t stream. are stream ∙ told_is t stream }

  -- the watermark of the last of the first so many plans is that before the next epoch
  mark_is : owned → (n : ℕ) → n ≤ length found.plans → mark_of found.plans n ≡ watermark_before s.job.bound (parts_in s) (offsets (cut_of (first_ends s) found.plans)) n
  mark_is t zero le = refl
  mark_is t (suc n) le =
      let plan : Plan = plan_of (course_of s (cut_of (first_ends s) found.plans)) n in
      ap (option_and_then (λ (plan : Plan). plan.watermark)) (slice_get-get_or found.plans n plan (omega (arith, le)))
      ∙ ap (λ (plan : Plan). plan.watermark) ((own t).jobs.plans n plan (omega (arith, le)) ∙ ap (λ (cuts : Cuts). plan_of (course_of s cuts) n) (same_cuts t))

  -- where no epoch is planned beyond the committed ones, what is due on what was opened is what is due by its cuts
  found_due : (t : owned) → nat_lt found.committed (length found.plans) ≡ false → is_due_on s.job.bound found ≡ due_at s (own t).desk.desk.cuts found.committed
  found_due t none =
      let cuts : Cuts = cut_of (first_ends s) found.plans in
      let now : watermark_by (delays s.job.bound) (told found.seen) ≡ watermark_at s cuts found.committed = (λ i. watermark_by (delays s.job.bound) (λ stream. told_is t stream i)) in
      let last = mark_is t found.committed is.numbers.before in
      ap (λ (b : Bool). not b && is_due s.job.bound (told found.seen) (mark_of found.plans found.committed)) none
      ∙ (λ i. closes s.job.bound && is_above (now i) (last i))
      ∙ ap (λ (c : Cuts). due_at s c found.committed) (sym (same_cuts t))

  -- a desk of the machine opens on the disk where the round begins
  pub begins_on : (have : TasksHaveTerms) → DeskOpensAsFound → (t : owned) → (terms : Terms (job_of s) r (due_at s)) × Begins (job_of s) r (due_at s) terms (start_at (first_ends s) s.job.bound found) (first_state (opening_of s found) r start)
  begins_on have opens t =
      let o = own t in
      let both = have s s.job.bound o.asks o.lens r o.setting o.lines o.scope in
      let so = (parts_found s s.job.bound o.asks o.lens o.setting).1 in (
        both.0,
        record {
          files = files_now start;
          settled = o.settled;
          desk = o.desk.desk;
          is = o.desk.is;
          at = subst (λ (ends : Ends). IsOpenedAt (job_of s) r (due_at s) both.0 (start_at ends s.job.bound found) o.desk.desk) (sym so)
              (opens s s.job.bound o.asks o.lens r (files_now start) found (is_due_on s.job.bound found) o.setting o.lines o.scope both.0 both.1 o.desk (found_due t));
          core = refl;
          cuts = sym (same_cuts t);
          shelf = record { names = o.names; news = refl; claimed = refl; tidy = refl };
        },
      )
