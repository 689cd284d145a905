-- The job of each query is causal: what its files hold of first epochs hangs on what these read.
use Rattle.std.proofs.Common.{◌≡◌, ◌<◌, ◌≤◌, ◌+◌, ◌&&◌, ◌||◌, [], ◌∷◌, ℕ, suc, List, Option, Some, None, Bool, true, false, refl, ap, sym, ◌∙◌, arith, get_or, nat_lt}
use Rattle.std.specs.Prelude.{◌-◌, is_some, slice_get, map, take, drop, option_map}
use Rattle.std.specs.List.{enumerate_from}
use Rattle.std.proofs.lemmas.Bool.{ltb-false}
use Rattle.ssq_outside.specs.declared.gate.Kind.{Kind}
use Rattle.ssq_outside.specs.declared.gate.Kind.TheVariants as kind
use Rattle.ssq_shape.specs.declared.bound.Bound.{Bound}
use Rattle.ssq_shape.specs.declared.bound.Shape.{Shape}
use Rattle.ssq_shape.specs.declared.bound.Shape.TheVariants.{Plain, Group, Dedup, Join}
use Rattle.ssq_shape.specs.declared.bound.Job.{Job as Query}
use Rattle.ssq_plans.specs.declared.seen.SeenBy.{SeenBy}
use Rattle.ssq_meaning.specs.Meaning.{Line, lines_between}
use Rattle.ssq_meaning.specs.Parts.{Part, parts_of}
use Rattle.ssq_meaning.specs.Cut.{Cut, of_parts}
use Rattle.ssq_meaning.specs.Times.{delays, is_above}
use Rattle.ssq_meaning.specs.Feeding.{fault_in, fault_at, first_of_all, or_else}
use Rattle.ssq_meaning.specs.Operator.{operator_of}
use Rattle.ssq_meaning.specs.Epochs.{bucket, fault, fault_between, of_line, of_key}
use Rattle.ssq_meaning.specs.Laws.{ReadsSame, SaysSame}
use Rattle.ssq_meaning.proofs.Causal.{read_same, read_says}
use Rattle.ssq_meaning.proofs.Overflowing.{no_key_fault}
use Rattle.ssq_version.specs.State.{between}
use Rattle.ssq_version.specs.Text.{delta_text, snapshot_text}
use Rattle.ssq_sink.specs.Sink.{sink_text}
use Rattle.ssq_core.proofs.Holding.{lt_true}
use Rattle.ssq_core.specs.Course.{Cuts, AreSameUpTo, AgreeUpTo}
use Rattle.ssq_course.specs.Setting.{Setting, keeping_of, parts_in, cut_of, cuts_of, seen_at, has_lines, part_fault, is_task_by, is_fault_by, course_of, is_start, is_within, has_line, closes, is_next_of}
use Rattle.ssq_course.specs.Laws.{AreCausal}
use Rattle.ssq_course.proofs.Proper.{is_due}

-- ---- first epochs that read the same

-- a query, with how its work is divided, over these lines
abbrev pub over : Query → List (List Line) → Setting
over job lines = record { job = job; lines = lines }

-- The first n epochs end at the same lines of these logs as of others, and read the same of them; and a part has a fault there in the ones
-- exactly where it has one in the others.
pub record ReadAlike (job : Query) (lines others : List (List Line)) (one other : Cuts) (n : ℕ) : Type 0 where
  pub same : AreSameUpTo one other n
  pub reads : ReadsSame job.bound (parts_of job.parts lines) (parts_of job.parts others) (cuts_of one) (cuts_of other) n
  pub faults : (e number : ℕ) → e < n → is_fault_by (over job lines) one e number kind.Map ≡ is_fault_by (over job others) other e number kind.Map

module _ (job : Query) (lines others : List (List Line)) (one other : Cuts) (n : ℕ) (alike : ReadAlike job lines others one other n) where
  says : SaysSame job.bound (parts_of job.parts lines) (parts_of job.parts others) (cuts_of one) (cuts_of other) n
  says = read_says job.bound (parts_of job.parts lines) (parts_of job.parts others) (cuts_of one) (cuts_of other) n alike.reads

  task_same : (e number : ℕ) (k : Kind) → e < n → is_task_by (over job lines) one e number k ≡ is_task_by (over job others) other e number k
  task_same e number kind.Map less =
      let from = alike.same e (omega (arith, less)) in
      let to = alike.same (e + 1) (omega (arith, less)) in
      λ i. has_lines (cut_of (from i)) (cut_of (to i)) number
  task_same e number kind.Reduce less = refl
  task_same e number kind.Out less = refl
  task_same e number kind.Upkeep less = refl

  fault_same : (e number : ℕ) (k : Kind) → e < n → is_fault_by (over job lines) one e number k ≡ is_fault_by (over job others) other e number k
  fault_same e number kind.Map less = alike.faults e number less
  fault_same e number kind.Reduce less =
      let old = says.same_accepted e (omega (arith, less)) in
      let new = says.same_on_time e less in
      let before = says.same_watermark_before e (omega (arith, less)) in
      let now = says.same_watermark e (omega (arith, less)) in
      λ i. is_some ((operator_of job.bound).fault (bucket job.partitions number (old i)) (bucket job.partitions number (new i)) (before i) (now i))
  fault_same e number kind.Out less = refl
  fault_same e number kind.Upkeep less = refl

  seen_same : (e : ℕ) → e ≤ n → seen_at (over job lines) one e ≡ seen_at (over job others) other e
  seen_same e le = λ i. map (λ stream. (let line : SeenBy = record { stream = stream.0; time = says.same_seen stream.0 e le i } in line)) (delays job.bound)

  -- an epoch is due over the ones as over the others
  pub due_same : (e : ℕ) → e < n → is_due (over job lines) one e ≡ is_due (over job others) other e
  due_same e less =
      let from = alike.same e (omega (arith, less)) in
      let to = alike.same (e + 1) (omega (arith, less)) in
      let before = says.same_watermark_before e (omega (arith, less)) in
      let now = says.same_watermark e (omega (arith, less)) in
      λ i. has_line (from i) (to i) || (closes job.bound && is_above (now i) (before i))

  pub agree : AgreeUpTo (course_of (over job lines) one) (course_of (over job others) other) n
  agree = record {
    meta = refl;
    keeping = refl;
    ends = λ e less. alike.same (e + 1) (omega (arith, less));
    watermark = λ e less. says.same_watermark e (omega (arith, less));
    seen = λ e less. seen_same (e + 1) (omega (arith, less));
    is_faulty = λ e less. ap is_some (says.same_fault e less);
    rows = λ e less. ap (sink_text job.bound) (says.same_out e less);
    state = λ p v le. ap (snapshot_text p (v - 1)) (says.same_state job.partitions p v le);
    delta = λ p v less.
        let old = says.same_state job.partitions p v (omega (arith, less)) in
        let new = says.same_state job.partitions p (v + 1) (omega (arith, less)) in
        λ i. delta_text p v (between (old i) (new i));
    is_task = λ t less. task_same t.epoch t.number t.kind less;
    is_fault = λ t less. fault_same t.epoch t.number t.kind less;
  }

-- ---- of the same logs

module _ (s : Setting) (one other : Cuts) (n : ℕ) (same : AreSameUpTo one other n) where
  alike_so_far : ReadAlike s.job s.lines s.lines one other n
  alike_so_far = record {
    same = same;
    reads = read_same s.job.bound (parts_in s) (cuts_of one) (cuts_of other) n (λ e le. ap cut_of (same e le));
    faults = λ e number less.
        let from = same e (omega (arith, less)) in
        let to = same (e + 1) (omega (arith, less)) in
        λ i. part_fault s.job.bound (slice_get (parts_in s) number) (get_or (cut_of (from i)) number 0) (get_or (cut_of (to i)) number 0);
  }

  next_same : (e : ℕ) → e < n → is_next_of s one e ≡ is_next_of s other e
  next_same e less =
      let first = same 0 (omega (arith, less)) in
      let from = same e (omega (arith, less)) in
      let to = same (e + 1) (omega (arith, less)) in
      let due = due_same s.job s.lines s.lines one other n alike_so_far e less in
      λ i. is_start (parts_in s) (first i) && (is_within (parts_in s) (from i) (to i) && due i)

-- ---- what has a fault

-- a test on an option that is false
pub none_of : {A : Type 0} → (x : Option A) → is_some x ≡ false → x ≡ None
none_of None is = refl
none_of (Some x) is = cc

-- between an offset and one not after it there is no line
pub no_lines : (from to : ℕ) (lines : List Line) → to ≤ from → lines_between from to lines ≡ []
no_lines from to lines le = ap (λ (m : ℕ). take m (drop from lines)) (let none : to - from ≡ 0 = omega (arith, le) in none)

no_fault_in : (query : Bound) (part : Part) (from to : ℕ) → to ≤ from → fault_in query part from to ≡ None
no_fault_in query part from to le = ap (λ (lines : List Line). first_of_all (map (λ line. fault_at query part line.0 line.1) (enumerate_from from lines))) (no_lines from to part.lines le)

-- where no part with new lines has a fault, there is none
quiet_lines : (query : Bound) (parts : List Part) (froms tos : Cut) → ((i : ℕ) → has_lines froms tos i ≡ true → part_fault query (slice_get parts i) (get_or froms i 0) (get_or tos i 0) ≡ false)
    → fault_between query parts froms tos ≡ None
unfolding of_parts
quiet_lines query [] froms tos quiet = refl
quiet_lines query (part ∷ parts) [] tos quiet = refl
quiet_lines query (part ∷ parts) (from ∷ froms) [] quiet = refl
quiet_lines query (part ∷ parts) (from ∷ froms) (to ∷ tos) quiet =
    let first : fault_in query part from to ≡ None = by (nat_lt from to) refl in
    let rest = quiet_lines query parts froms tos (λ i lines. quiet (suc i) lines) in
    λ i. or_else (first i) (rest i)
  where
    by : (b : Bool) → nat_lt from to ≡ b → fault_in query part from to ≡ None
    by true h = none_of (fault_in query part from to) (quiet 0 h)
    by false h = no_fault_in query part from to (ltb-false from to h)

-- an epoch in which no task has a fault has none
faultless : (s : Setting) (cuts : Cuts) (e : ℕ) → 1 ≤ s.job.partitions → ((i : ℕ) → has_lines (cut_of (cuts e)) (cut_of (cuts (e + 1))) i ≡ true → is_fault_by s cuts e i kind.Map ≡ false)
    → ((p : ℕ) → p < s.job.partitions → is_fault_by s cuts e p kind.Reduce ≡ false) → is_some (fault s.job.bound (parts_in s) (cuts_of cuts) e) ≡ false
faultless s cuts e some quiet still =
    let lines = quiet_lines s.job.bound (parts_in s) (cut_of (cuts e)) (cut_of (cuts (e + 1))) quiet in
    let keys = no_key_fault s.job.bound (parts_in s) (cuts_of cuts) e s.job.partitions some (λ p less. none_of _ (still p less)) in
    λ i. is_some (or_else (option_map of_line (lines i)) (option_map of_key (keys i)))

-- each partition that keeps state is one
kept_is_one : (shape : Shape) (partitions p : ℕ) → p < keeping_of shape partitions → nat_lt p partitions ≡ true
kept_is_one Plain partitions p less = absurd (omega (arith, less))
kept_is_one (Group grouping) partitions p less = lt_true p partitions less
kept_is_one (Dedup columns) partitions p less = lt_true p partitions less
kept_is_one (Join joining) partitions p less = lt_true p partitions less

pub are_causal : AreCausal
are_causal s some = record {
  agrees = λ one other n same. agree s.job s.lines s.lines one other n (alike_so_far s one other n same);
  follows = λ one other n e same less next. sym (next_same s one other n same e less) ∙ next;
  faults = λ cuts e quiet. faultless s cuts e some (λ i lines. quiet (record { epoch = e; kind = kind.Map; number = i }) lines refl refl)
      (λ p less. quiet (record { epoch = e; kind = kind.Reduce; number = p }) (lt_true p s.job.partitions less) refl refl);
  reduces = λ cuts e p less. kept_is_one s.job.bound.shape s.job.partitions p less;
}
