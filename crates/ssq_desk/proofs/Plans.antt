-- A desk is whole once the next epoch is planned.
use Rattle.std.proofs.Common.{◌≡◌, ◌<◌, ◌≤◌, ◌+◌, ◌++◌, [], ◌∷◌, ℕ, ℤ, zero, suc, Bool, true≢false, List, length, length-append, get_or, Option, Some, None, inl, inr, refl, sym, ap, ◌∙◌, subst, arith, le-ltb, lt-ltb}
use Rattle.std.specs.Prelude.{IfSome, IsTrue, if◌then◌else◌, is_some, vec_capacity}
use Rattle.std.specs.Option.{ForSome}
use Rattle.std.proofs.lemmas.List.{append_assoc}
use Rattle.std.proofs.lemmas.List.Elements.{All-push}
use Rattle.ssq_time.specs.Time.{IsStampTime}
use Rattle.std.proofs.lemmas.Bool.{cases_lt}
use Rattle.ssq_outside.specs.History.{History}
use Rattle.ssq_meaning.specs.Meaning.{Line}
use Rattle.ssq_meaning.proofs.Causal.{says_same}
use Rattle.ssq_plans.specs.declared.plan.Plan.{Plan}
use Rattle.ssq_plans.specs.declared.part.PartEnd.{PartEnd}
use Rattle.std.specs.Global.{Vec}
use Rattle.ssq_feed.specs.Causes.{LogWent}
use Rattle.ssq_task.specs.declared.partition.Held.{Held}
use Rattle.ssq_core.specs.Course.{Cuts, Ends, AreSameUpTo, plan_of}
use Rattle.ssq_open.specs.Epochs.{follows}
use Rattle.ssq_course.specs.Setting.{Setting, parts_in, cut_of, cuts_of as offsets, watermark_at, course_of}
use Rattle.ssq_board.specs.declared.front.Entry.TheVariants as entry
use Rattle.ssq_board.specs.declared.front.Ready.TheVariants as ready
use Rattle.ssq_board.specs.Core.{Scope, Core, after, after_all, cuts_by, extended, next_ends, ready_of}
use Rattle.ssq_board.specs.Shown.{first}
use Rattle.ssq_ledger.specs.Shown.{Shown, IsLegal, IsInOrder, state, first_state, cuts_of, shelf_of, did}
use Rattle.ssq_desk.specs.declared.desk.Load.{Load}
use Rattle.ssq_desk.specs.declared.desk.PartLog.{PartLog}
use Rattle.ssq_desk.specs.declared.desk.Share.{Share}
use Rattle.ssq_desk.specs.declared.desk.OutWork.{OutWork}
use Rattle.ssq_desk.specs.declared.desk.Pending.{Pending}
use Rattle.ssq_desk.specs.declared.round.Round.{Round}
use Rattle.ssq_desk.specs.Round.{setting_of, Owns}
use Rattle.ssq_desk.specs.Contents.{Holds, AreSeen, IsOutWork, keeping_in}
use Rattle.ssq_desk.specs.Making.{AreReady, IsMadeFor, IsWorkFor}
use Rattle.ssq_desk.specs.declared.told.Told.{Told}
use Rattle.ssq_desk.specs.Closing.{AreTold}
use Rattle.ssq_desk.specs.Tasks.{IsViewOf}
use Rattle.ssq_desk.specs.Whole.{IsWhole, IsKept, HoldsIn, ArePlans, opening_in}
use Rattle.ssq_desk.proofs.Ends.{next_follows}
use Rattle.ssq_desk.proofs.Telling.{told_stay}
use Rattle.ssq_desk.proofs.Planned.{IsMade, IsBetween, planned}
use Rattle.ssq_desk.proofs.Wholes.{cuts_then, leads_core}
use Rattle.ssq_desk.proofs.Betweens.{between}

-- what is said of the value in an option, as an equation on it
pub for_some : {A : Type 0} (o : Option A) (P : A → Type 0) → IfSome o P → ForSome o P
for_some None P is x e = absurd (true≢false (sym (ap is_some e)))
for_some {A} (Some y) P is x e = subst P (ap (λ (o : Option A). or o) e) is
  where
    or : Option A → A
    or None = y
    or (Some a) = a

module _ {A : Type 0} where
  kept_at : (l : List A) (a : A) (i : ℕ) (d : A) → i < length l → get_or (l ++ a ∷ []) i d ≡ get_or l i d
  kept_at [] a i d less = absurd (omega (arith, less))
  kept_at (x ∷ xs) a zero d less = refl
  kept_at (x ∷ xs) a (suc i) d less = kept_at xs a i d (omega (arith, less))

  last_at : (l : List A) (a d : A) → get_or (l ++ a ∷ []) (length l) d ≡ a
  last_at [] a d = refl
  last_at (x ∷ xs) a d = last_at xs a d

-- the plans of the first epochs hang on these
same_plan : (s : Setting) (cuts other : Cuts) (n e : ℕ) → AreSameUpTo cuts other n → e < n → plan_of (course_of s cuts) e ≡ plan_of (course_of s other) e
same_plan s cuts other n e same less =
    let mark = (says_same s.job.bound (parts_in s) (offsets cuts) (offsets other) n (λ k le. ap cut_of (same k le))).same_watermark e (omega (arith, less)) in
    let ends = same (e + 1) (omega (arith, less)) in
    (λ i. record { epoch = e; watermark = mark i; ends = ends i })

-- one plan more
one_plan : (owned : Type 0) (opened : List Plan) (s : Setting) (cuts : Cuts) (n : ℕ) (ends : Ends) (plans : List Plan) (plan : Plan) → ArePlans owned opened s cuts n plans → plan.epoch ≡ n
    → (owned → plan.watermark ≡ watermark_at s cuts n) → plan.ends ≡ ends → ForSome plan.watermark IsStampTime → IsTrue (follows (cuts n) ends) → ArePlans owned opened s (extended cuts n ends) (n + 1) (plans ++ plan ∷ [])
one_plan owned opened s cuts n ends plans plan are epoch mark ends_is printed goes = record {
  on = (are.on.0 ++ plan ∷ [], ap (λ (l : List Plan). l ++ plan ∷ []) are.on.1 ∙ append_assoc opened are.on.0 (plan ∷ []));
  count = (let a = length-append plans (plan ∷ []) in let b = are.count in omega arith);
  begins = sym (same 0 (omega arith)) ∙ are.begins;
  follow = also_follow;
  ends = also_ends;
  marks = All-push (λ (p : Plan). ForSome p.watermark IsStampTime) plans plan are.marks printed;
  each = each;
}
  where
    same : AreSameUpTo cuts (extended cuts n ends) n
    same e le = sym (ap (λ (b : Bool). if b then ends else cuts e) (le-ltb n e le))

    next_is : (extended cuts n ends) (n + 1) ≡ ends
    next_is = ap (λ (b : Bool). if b then ends else cuts (n + 1)) (lt-ltb n (n + 1) (omega arith))

    also_follow : (e : ℕ) → e < n + 1 → IsTrue (follows (extended cuts n ends e) (extended cuts n ends (e + 1)))
    also_follow e less = elim (cases_lt e n) [
      | inl below ↦ (let one = same e (omega (arith, below)) in let other = same (e + 1) (omega (arith, below)) in (λ i. follows (sym one i) (sym other i)) ∙ are.follow e below)
      | inr not ↦ (
          let here : n ≡ e = omega (arith, less, not) in
          subst (λ (k : ℕ). IsTrue (follows (extended cuts n ends k) (extended cuts n ends (k + 1)))) here
          ((λ i. follows (sym (same n (omega arith)) i) (next_is i)) ∙ goes)
          )
    ]

    also_ends : (e : ℕ) (default : Plan) → e < n + 1 → (get_or (plans ++ plan ∷ []) e default).ends ≡ extended cuts n ends (e + 1)
    also_ends e default less = elim (cases_lt e n) [
      | inl below ↦ ap (λ (p : Plan). p.ends) (kept_at plans plan e default (omega (arith, below, are.count))) ∙ are.ends e default below ∙ same (e + 1) (omega (arith, below))
      | inr not ↦ (
          let is : length plans ≡ e = omega (arith, less, not, are.count) in
          let here : n ≡ e = omega (arith, less, not) in
          ap (λ (k : ℕ). (get_or (plans ++ plan ∷ []) k default).ends) (sym is) ∙ ap (λ (p : Plan). p.ends) (last_at plans plan default) ∙ ends_is ∙ sym next_is ∙ ap (λ (k : ℕ). extended cuts n ends (k + 1)) here
          )
    ]

    own : owned → plan ≡ plan_of (course_of s (extended cuts n ends)) n
    own t =
        let marked : plan.watermark ≡ watermark_at s (extended cuts n ends) n =
        mark t ∙ (says_same s.job.bound (parts_in s) (offsets cuts) (offsets (extended cuts n ends)) n (λ k le. ap cut_of (same k le))).same_watermark n (omega arith) in
        let ended : plan.ends ≡ (extended cuts n ends) (n + 1) = ends_is ∙ sym next_is in
        (λ i. record { epoch = epoch i; watermark = marked i; ends = ended i })

    each : owned → (e : ℕ) (default : Plan) → e < n + 1 → get_or (plans ++ plan ∷ []) e default ≡ plan_of (course_of s (extended cuts n ends)) e
    each t e default less = elim (cases_lt e n) [
      | inl below ↦ kept_at plans plan e default (omega (arith, below, are.count)) ∙ are.each t e default below ∙ same_plan s cuts (extended cuts n ends) n e same below
      | inr not ↦ (
          let is : length plans ≡ e = omega (arith, less, not, are.count) in
          let here : n ≡ e = omega (arith, less, not) in
          ap (λ (k : ℕ). get_or (plans ++ plan ∷ []) k default) (sym is) ∙ last_at plans plan default ∙ own t ∙ ap (plan_of (course_of s (extended cuts n ends))) here
          )
    ]

-- what partitions have, said of the setting
ready_in : {S : Type 0} (owned : Type 0) (written : S → List ℕ) (partitions own parts known keeping kept : ℕ) (shares : List (Share S)) → partitions ≡ own → parts ≡ known → keeping ≡ kept
    → AreReady owned written partitions parts keeping shares → AreReady owned written own known kept shares
ready_in owned written partitions own parts known keeping kept shares a b d is =
    subst (λ n. AreReady owned written n known kept shares) a (subst (λ n. AreReady owned written partitions n kept shares) b (subst (λ n. AreReady owned written partitions parts n shares) d is))

-- a load with one plan more than another
pub record HasPlan {L S F : Type 0} (old new : Load L S F) (plan : Plan) : Type 0 where
  pub view_is : new.view ≡ old.view
  pub plans_are : new.plans.items ≡ old.plans.items ++ plan ∷ []
  pub told_is : new.told ≡ old.told
  pub kept_is : new.kept ≡ old.kept
  pub part_logs_are : new.part_logs.items ≡ old.part_logs.items
  pub shares_are : new.shares.items ≡ old.shares.items
  pub held_is : new.held.items ≡ old.held.items
  pub out_is : new.out ≡ old.out
  pub seen_is : new.seen ≡ old.seen
  pub pending_is : new.pending ≡ old.pending

module _ {D L S F : Type 0} (stores logs : Type 0) (history : D → History) (lines : L → List Line) (available : L → ℕ) (answers : L → List ℕ) (faults : L → ℕ) (written : S → List ℕ) (sealed : F → List ℕ) (shown : Shown D (Round L)) (load made now : Load L S F)
    (whole : IsWhole stores logs history lines available answers faults written sealed shown load) (legal : IsLegal (Owns stores logs history lines shown) history (opening_in lines) shown) (order : IsInOrder shown.scope shown.core)
    (here : Vec PartEnd) (is_made : IsMadeFor (Owns stores logs history lines shown) written shown.core.ends load made here) (plan : Plan) (has : HasPlan made now plan) where
  pub planned_whole : (disk : D) → ready_of shown.scope shown.core ≡ ready.Plan → plan.epoch ≡ shown.core.front.planned
      → (Owns stores logs history lines shown → plan.watermark ≡ watermark_at (setting_of lines shown.opening) (cuts_of (opening_in lines) shown) shown.core.front.planned)
      → plan.ends ≡ next_ends shown.scope.cap shown.core.ends shown.scope.available → ForSome plan.watermark IsStampTime
      → IsWhole stores logs history lines available answers faults written sealed (did shown disk (entry.Plan shown.core.front.planned ∷ [])) now
  planned_whole disk next epoch mark ends printed =
      let s : Setting = setting_of lines shown.opening in
      let r : Scope = shown.scope in
      let c : Core = shown.core in
      let cuts : Cuts = cuts_of (opening_in lines) shown in
      let later : Cuts = extended cuts c.front.planned (next_ends r.cap c.ends r.available) in
      let core : Core = after r c (entry.Plan c.front.planned) in
      let b : IsBetween s cuts r c = between stores logs history lines available answers faults written sealed shown load whole legal order next in
      let known : c ≡ after_all r (first r (opening_in lines shown.opening).start) shown.history =
      leads_core (Owns stores logs history lines shown) (opening_in lines shown.opening).job r (opening_in lines shown.opening).due (first_state (opening_in lines shown.opening) r (history shown.opened)) shown.history (state legal.0 c (shelf_of (opening_in lines) shown) cuts) legal.2 in
      let same : cuts_of (opening_in lines) (did shown disk (entry.Plan c.front.planned ∷ [])) ≡ later =
      cuts_then (opening_in lines shown.opening) r shown.history (entry.Plan c.front.planned) ∙ ap (λ (x : Core). cuts_by r cuts x (entry.Plan c.front.planned)) (sym known) in
      let work : OutWork S F = is_made.work.0 in
      let work_is : IsWorkFor (Owns stores logs history lines shown) written load work = is_made.work.2 in
      let out : IsOutWork (Owns stores logs history lines shown) written s cuts c.front.committed work = record {
        none = work_is.no_rows;
        room = subst (λ (n : ℕ). n ≤ vec_capacity work.rows) whole.view.partitions work_is.room;
        times = subst (AreSeen (Owns stores logs history lines shown) s cuts c.front.committed) (sym work_is.times) (whole.holds.seen_so_far b.running);
        rows_empty = work_is.rows_empty;
        commit_empty = work_is.commit_empty;
      } in
      let all : IsMade (Owns stores logs history lines shown) written s cuts c load.part_logs.items made.part_logs.items made.shares.items work = record {
        begun = is_made.begun;
        ready = ready_in (Owns stores logs history lines shown) written load.view.partitions s.job.partitions (length load.part_logs.items) (length (parts_in s)) (length load.held.items) (keeping_in s) made.shares.items whole.view.partitions whole.holds.parts whole.holds.keeping is_made.ready;
        out = out;
      } in
      let goes : IsTrue (follows (cuts c.front.planned) (next_ends r.cap c.ends r.available)) = subst (λ (from : Ends). IsTrue (follows from (next_ends r.cap c.ends r.available))) (sym b.ends) (next_follows r.cap c.ends r.available) in
      let stays : AreSameUpTo cuts later c.front.planned = λ e le. sym (ap (λ (x : Bool). if x then next_ends r.cap c.ends r.available else cuts e) (le-ltb c.front.planned e le)) in
      let h = planned (stores × logs) (Owns stores logs history lines shown) lines available (LogWent logs lines available answers faults) shown.opening.logs.items written sealed s cuts r c load.part_logs.items made.part_logs.items made.shares.items work load.seen all b load.pending load.out load.shares.items load.held.items whole.holds in
      let moved : HoldsIn stores logs history lines available answers faults written sealed shown (cuts_of (opening_in lines) (did shown disk (entry.Plan c.front.planned ∷ []))) core now.part_logs.items now.shares.items now.held.items now.out now.seen now.pending =
      (let part_logs = sym has.part_logs_are in let shares = sym has.shares_are in let held = sym (has.held_is ∙ ap (λ (v : Vec (Option Held)). v.items) is_made.held_is) in let outs = sym (has.out_is ∙ is_made.work.1) in let seen = sym (has.seen_is ∙ is_made.seen_is) in let pending = sym (has.pending_is ∙ is_made.pending_is) in
      transported (stores × logs) (Owns stores logs history lines shown) lines available (LogWent logs lines available answers faults) shown.opening.logs.items written sealed s r.available core _ _ _ _ _ _ _ _ _ _ _ _ _ _ (sym same) part_logs shares held outs seen pending h) in record {
        round = whole.round;
        view = subst (IsViewOf s) (sym (has.view_is ∙ is_made.view_is)) whole.view;
        holds = moved;
        plans = subst (λ (plans : List Plan). ArePlans (Owns stores logs history lines shown) shown.opening.opened.plans s (cuts_of (opening_in lines) (did shown disk (entry.Plan c.front.planned ∷ []))) (c.front.planned + 1) plans) (sym (has.plans_are ∙ ap (λ (l : List Plan). l ++ plan ∷ []) is_made.plans_are))
            (subst (λ (x : Cuts). ArePlans (Owns stores logs history lines shown) shown.opening.opened.plans s x (c.front.planned + 1) (load.plans.items ++ plan ∷ [])) (sym same) (one_plan (Owns stores logs history lines shown) shown.opening.opened.plans s cuts c.front.planned (next_ends r.cap c.ends r.available) load.plans.items plan whole.plans epoch mark ends printed goes));
        told = subst (λ (l : List Told). AreTold (Owns stores logs history lines shown) s (cuts_of (opening_in lines) (did shown disk (entry.Plan c.front.planned ∷ []))) shown.opening.opened.committed c.front.committed l) (sym (ap (λ v. v.items) has.told_is ∙ is_made.told_are))
            (subst (λ (x : Cuts). AreTold (Owns stores logs history lines shown) s x shown.opening.opened.committed c.front.committed load.told.items) (sym same)
            (told_stay (Owns stores logs history lines shown) s cuts later c.front.planned shown.opening.opened.committed c.front.committed load.told.items order.sound.before stays whole.told));
        faulty = λ e. absurd (true≢false (sym (ap is_some e)));
        told_room = λ opened. subst (λ v. length v.items < vec_capacity v) (sym has.told_is) is_made.told_room;
        kept = subst (IsKept s shown.opening.opened) (sym (has.kept_is ∙ is_made.kept_is)) whole.kept;
      }
    where
      transported : {L S F : Type 0} (reads owned : Type 0) (lines : L → List Line) (available : L → ℕ) (went : L → L → Type 0) (opened : List L) (written : S → List ℕ) (sealed : F → List ℕ) (s : Setting) (found : List ℕ) (core : Core)
          (cuts cuts' : Cuts) (part_logs part_logs' : List (PartLog L)) (shares shares' : List (Share S)) (held held' : List (Option Held)) (out out' : Option (OutWork S F)) (seen seen' : List (Option ℤ)) (pending pending' : Option (Pending F))
          → cuts ≡ cuts' → part_logs ≡ part_logs' → shares ≡ shares' → held ≡ held' → out ≡ out' → seen ≡ seen' → pending ≡ pending'
          → Holds reads owned lines available went opened written sealed s cuts found core part_logs shares held out seen pending → Holds reads owned lines available went opened written sealed s cuts' found core part_logs' shares' held' out' seen' pending'
      transported {L} {S} {F} reads owned lines available went opened written sealed s found core cuts cuts' part_logs part_logs' shares shares' held held' out out' seen seen' pending pending' a b c k d e f h =
          subst (λ (x : Cuts). Holds reads owned lines available went opened written sealed s x found core part_logs' shares' held' out' seen' pending') a
          (subst (λ (x : List (PartLog _)). Holds reads owned lines available went opened written sealed s cuts found core x shares' held' out' seen' pending') b
          (subst (λ (x : List (Share S)). Holds reads owned lines available went opened written sealed s cuts found core part_logs x held' out' seen' pending') c
          (subst (λ (x : List (Option Held)). Holds reads owned lines available went opened written sealed s cuts found core part_logs shares x out' seen' pending') k
          (subst (λ (x : Option (OutWork _ _)). Holds reads owned lines available went opened written sealed s cuts found core part_logs shares held x seen' pending') d
          (subst (λ (x : List (Option ℤ)). Holds reads owned lines available went opened written sealed s cuts found core part_logs shares held out x pending') e
          (subst (λ (x : Option (Pending _)). Holds reads owned lines available went opened written sealed s cuts found core part_logs shares held out seen x) f h))))))
