-- What an opening found is the job's, and a round begins on it.
use Rattle.std.proofs.Common.{◌≡◌, ◌⊎◌, ◌<◌, ◌≤◌, ◌+◌, [], ◌∷◌, ℕ, suc, List, Option, Some, None, Bool, true, false, refl, ap, sym, ◌∙◌, inl, inr, subst, arith, length, nat_lt, get_or}
use Rattle.std.specs.Prelude.{IfSome, slice_get}
use Rattle.std.proofs.lemmas.Bool.{ltb-true, ltb-false, lt-ltb}
use Rattle.std.proofs.lemmas.List.{length-map}
use Rattle.std.proofs.lemmas.Option.{slice_get_cases}
use Rattle.ssq_outside.specs.declared.name.Name.TheVariants as name
use Rattle.ssq_outside.specs.Files.{Files}
use Rattle.ssq_outside.specs.History.{files_now}
use Rattle.ssq_shape.specs.declared.bound.Bound.{Bound}
use Rattle.ssq_plans.specs.declared.part.PartEnd.{PartEnd}
use Rattle.ssq_plans.specs.declared.plan.Plan.{Plan}
use Rattle.ssq_plans.specs.declared.commit.Commit.{Commit}
use Rattle.ssq_plans.specs.declared.seen.SeenBy.{SeenBy}
use Rattle.ssq_meaning.specs.Parts.{Part}
use Rattle.ssq_store.specs.declared.store.Store.{Store}
use Rattle.ssq_core.specs.Course.{Ends, Cuts, Job, truth, plan_of, commit_of}
use Rattle.ssq_core.specs.Machine.{Desk, opened}
use Rattle.ssq_core.proofs.Files.{true_there_by}
use Rattle.ssq_core.proofs.Settling.{settled_files}
use Rattle.ssq_course.specs.Setting.{Setting, parts_in, keeping_of, state_at, job_of}
use Rattle.ssq_task.specs.Reducing.{IsIndexed}
use Rattle.ssq_open.specs.declared.wanted.Lens.{Lens}
use Rattle.ssq_open.specs.declared.wanted.Opened.{Opened}
use Rattle.ssq_open.specs.Lens.{asked, found_from}
use Rattle.ssq_open.specs.Sought.{Sought}
use Rattle.ssq_open.specs.Spelled.{IsThePlan, IsTheCommit}
use Rattle.ssq_open.specs.Epochs.{starts, cut_of, last_ends, IsSeenAt, none_yet, by_commit}
use Rattle.ssq_open.specs.Opening.{kept, begun, Passes}
use Rattle.ssq_open.specs.Stateful.{keeps_state, keeping_in}
use Rattle.ssq_open.specs.Jobs.{IsWantedJob, IsDeskOf}
use Rattle.ssq_board.specs.Core.{Scope}
use Rattle.ssq_board.specs.Shown.{planned_by}
use Rattle.ssq_terms.specs.Setting.{IsSettingOf, AreFound, found_lines}
use Rattle.ssq_terms.specs.Laws.{IsScopeOf}
use Rattle.ssq_terms.specs.Opening.{IsJobsFound, FoundIsJobs, DeskOpensAsFound, StoresHoldStates, PartitionsBegin}
use Rattle.ssq_terms.specs.Partitions.{HoldsStateOf}
use Rattle.ssq_terms.proofs.Starts.{AreParts, found_numbers}
use Rattle.ssq_terms.proofs.Wanted.{parts_are, same_keeping}
use Rattle.ssq_terms.proofs.Dealing.{AreEnds, cut_ends}

-- ---- what was found

module _ (s : Sought) (job : Job) (files : Files) (d : Desk) (w : IsWantedJob s job) (op : opened job files d) where
  -- a plan that a file spells is the job's
  plan_is : (e : ℕ) (p : Plan) → e < d.planned → IsThePlan files e p → p ≡ plan_of (job.course d.cuts) e
  plan_is e p less is =
      let text = true_there_by (files (name.Plan e)) (truth (job.course d.cuts) (name.Plan e)) (op.0.are_true (name.Plan e)) (op.0.needed (name.Plan e) (lt-ltb e d.planned less)) in
      sym (is.only (plan_of (job.course d.cuts) e) (record { canonical = w.plans d.cuts d.planned e op.1 op.0.reached.few less; text = text }))

  -- and so is a commit
  commit_is : (e : ℕ) (c : Commit) → e < d.committed → IsTheCommit files e c → c ≡ commit_of (job.course d.cuts) e
  commit_is e c less is =
      let text = true_there_by (files (name.Commit e)) (truth (job.course d.cuts) (name.Commit e)) (op.0.are_true (name.Commit e)) (op.0.needed (name.Commit e) (lt-ltb e d.committed less)) in
      let planned : e < d.planned = omega (arith, less, op.0.reached.planned_first) in
      sym (is.only (commit_of (job.course d.cuts) e) (record { canonical = w.commits d.cuts d.planned e op.1 op.0.reached.few planned; text = text }))

  seen_is : (k : ℕ) (seen : List SeenBy) → d.committed ≡ k → IsSeenAt files k seen → ((k ≡ 0) × (seen ≡ [])) ⊎ (seen ≡ (job.course d.cuts).seen k)
  seen_is k seen count (none_yet none empty) = inl (none, empty)
  seen_is k seen count (by_commit last c next is same) =
      let own = commit_is last c (omega (arith, count, next)) is in
      inr (same ∙ ap (λ (c : Commit). c.seen) own ∙ ap (λ (n : ℕ). (job.course d.cuts).seen n) (sym next))

-- with the files that stand where what was found passed
kept_found : (s : Sought) (job : Job) (files : Files) (found : Opened) → IsWantedJob s job → Passes s files found → (of : IsDeskOf s job files found) → IsJobsFound s job files found of
kept_found s job files found w passes of = record {
  plans = λ e default less. plan_is s job files of.desk w of.is e (get_or found.plans e default) (omega (arith, less, of.planned)) (passes.found.epochs.progress.spelled e default less);
  seen = seen_is s job files of.desk w of.is found.committed found.seen of.committed passes.found.epochs.progress.last;
}

pub found_is : FoundIsJobs
found_is s job files now found w (kept passes settled) of =
    kept_found s job (files_now now) found w (subst (λ (f : Files). Passes s f found) (sym (settled_files now files settled)) passes) of
found_is s job files now found w (begun empty first settled) of = record {
  plans = λ e default less. absurd (omega (arith, less, ap length first.plans));
  seen = inl (first.committed, first.seen);
}

-- ---- where a round begins

ends_count : (parts : List Part) (ends : Ends) → AreEnds parts ends → length ends ≡ length parts
ends_count [] [] are = refl
ends_count [] (end ∷ ends) are = absurd are
ends_count (part ∷ parts) [] are = absurd are
ends_count (part ∷ parts) (end ∷ ends) are = ap suc (ends_count parts ends are.1)

parts_count : (parts : List Part) (found : Ends) → AreParts parts found → length found ≡ length parts
parts_count [] [] are = refl
parts_count [] (end ∷ found) are = absurd are
parts_count (part ∷ parts) [] are = absurd are
parts_count (part ∷ parts) (end ∷ found) are = ap suc (parts_count parts found are.1)

-- an epoch is planned beyond those that are committed, or none is
planned_is : (k n : ℕ) (b : Bool) → nat_lt k n ≡ b → k ≤ n → n ≤ k + 1 → n ≡ planned_by b k
planned_is k n true is le near = let less = ltb-true k n is in omega (arith, less, near)
planned_is k n false is le near = let over = ltb-false k n is in omega (arith, over, le)

module _ (s : Setting) (bound : Bound) (partitions : Option ℕ) (lens : Lens) (r : Scope) (files : Files) (found : Opened) (is : IsSettingOf s bound partitions lens) (lines : AreFound (found_lines lens) s.lines) (scope : IsScopeOf r s lens)
    (of : IsDeskOf (asked bound partitions lens) (job_of s) files found) where
  first : Ends
  first = starts (found_from 0 lens.streams)

  begins : of.desk.cuts 0 ≡ starts (found_from 0 lens.streams)
  begins = ap (λ (cuts : Cuts). cuts 0) of.cuts

  -- each cut has one end for each part
  counted : (e : ℕ) → e ≤ of.desk.planned → length (of.desk.cuts e) ≡ length (parts_in s)
  counted e le =
      ends_count (parts_in s) (of.desk.cuts e)
      (cut_ends s of.desk.cuts (found_from 0 lens.streams) e (parts_are s bound partitions lens is lines) begins (λ f less. of.is.1 f (omega (arith, less, le))))

  from_is : of.desk.cuts found.committed ≡ cut_of (starts (found_from 0 lens.streams)) found.plans found.committed
  from_is = ap (λ (cuts : Cuts). cuts found.committed) of.cuts

  to_is : of.desk.cuts of.desk.planned ≡ last_ends (starts (found_from 0 lens.streams)) found.plans
  to_is = ap (λ (cuts : Cuts). cuts of.desk.planned) of.cuts ∙ ap (cut_of (starts (found_from 0 lens.streams)) found.plans) of.planned

  available_count : length r.available ≡ length (parts_in s)
  available_count =
      ap length (scope.available ∙ sym (found_numbers 0 lens.streams)) ∙ length-map (found_from 0 lens.streams) (λ (end : PartEnd). end.end)
      ∙ parts_count (parts_in s) (found_from 0 lens.streams) (parts_are s bound partitions lens is lines)

  to_count : length (last_ends (starts (found_from 0 lens.streams)) found.plans) ≡ length (parts_in s)
  to_count = ap length (sym to_is) ∙ counted of.desk.planned (omega arith)

  from_count : length (cut_of (starts (found_from 0 lens.streams)) found.plans found.committed) ≡ length (parts_in s)
  from_count = ap length (sym from_is) ∙ counted found.committed (omega (arith, of.is.0.reached.planned_first, of.committed))

  planned : of.desk.planned ≡ planned_by (nat_lt found.committed (length found.plans)) found.committed
  planned =
      of.planned ∙ planned_is found.committed (length found.plans) (nat_lt found.committed (length found.plans)) refl (omega (arith, of.is.0.reached.planned_first, of.committed, of.planned))
      (omega (arith, of.is.0.reached.one_ahead, of.committed, of.planned))

pub opens_as_found : DeskOpensAsFound
opens_as_found s bound partitions lens r files found due is lines scope terms start of due_is = record {
  start = record {
    from = from_count s bound partitions lens r files found is lines scope of ∙ sym (to_count s bound partitions lens r files found is lines scope of);
    available = available_count s bound partitions lens r files found is lines scope of ∙ sym (to_count s bound partitions lens r files found is lines scope of);
  };
  committed = of.committed;
  planned = planned s bound partitions lens r files found is lines scope of;
  begins = begins s bound partitions lens r files found is lines scope of ∙ sym start;
  from = from_is s bound partitions lens r files found is lines scope of;
  to = ap of.desk.cuts (sym (planned s bound partitions lens r files found is lines scope of)) ∙ to_is s bound partitions lens r files found is lines scope of;
  due = due_is;
}

-- ---- from which stores

pub stores_hold : StoresHoldStates
stores_hold s bound partitions lens files found is same are holds of p = by (slice_get found.stores p) (slice_get_cases found.stores p).1
  where
    keeping : keeping_of s.job.bound.shape s.job.partitions ≡ keeping_in (keeps_state bound.shape) found.meta.partitions
    keeping = same_keeping s.job.bound.shape s.job.partitions ∙ (λ i. keeping_in (keeps_state (is.query i).shape) (same i))

    by : (own : Option Store) → ((store : Store) × (p < length found.stores) × (own ≡ Some store) × (get_or found.stores p store ≡ store)) ⊎ ((length found.stores ≤ p) × (own ≡ None))
        → HoldsStateOf s of.desk.cuts found.committed p own
    by own (inr beyond) = subst (HoldsStateOf s of.desk.cuts found.committed p) (sym beyond.1) (omega (arith, beyond.0, are.many, keeping))
    by own (inl (store, less, there, at)) =
        let kept : p < keeping_in (keeps_state bound.shape) found.meta.partitions = omega (arith, less, are.many) in
        subst (HoldsStateOf s of.desk.cuts found.committed p) (sym there) (
          omega (arith, kept, keeping),
          ap (λ (store : Store). store.partition) (sym at) ∙ (are.each p store kept).partition,
          ap (λ (store : Store). store.state) (sym at) ∙ holds.each p store kept ∙ ap (λ (cuts : Cuts). state_at s cuts p found.committed) (sym of.cuts),
        )

pub partitions_begin : PartitionsBegin
partitions_begin s bound partitions lens files found is same are holds of p held there indexed = record {
  store = subst (HoldsStateOf s of.desk.cuts found.committed p) (sym there) (stores_hold s bound partitions lens files found is same are holds of p);
  indexed = subst (λ (query : Bound). IfSome held (IsIndexed query)) (sym is.query) indexed;
}
