-- What is found is in order: one plan more, the greatest times of a commit, and all of it where a checkpoint is kept or begun.
use Rattle.std.proofs.Common.{◌≡◌, ◌<◌, ◌≤◌, ◌+◌, ◌∙◌, ◌++◌, ◌==◌, ◌&&◌, [], ◌∷◌, zero, suc, ℕ, List, None, length, refl, sym, ap, subst, inl, inr, add-one, arith}
use Rattle.std.specs.Prelude.{IsTrue, nat_lt}
use Rattle.std.specs.Option.{ForSome}
use Rattle.std.proofs.Math.ListN.{get_or-append}
use Rattle.std.proofs.Math.Seq.{get_or-append_seam}
use Rattle.std.proofs.lemmas.Bool.{and_parts, ltb-true}
use Rattle.std.proofs.lemmas.List.Elements.{All-nil, All-same, All-push, All-weaker}
use Rattle.std.proofs.lemmas.List.{length_push}
use Rattle.ssq_time.specs.Time.{IsStampTime}
use Rattle.ssq_plans.specs.declared.meta.Meta.{Meta}
use Rattle.ssq_plans.specs.declared.plan.Plan.{Plan}
use Rattle.ssq_plans.specs.declared.commit.Commit.{Commit}
use Rattle.ssq_plans.specs.declared.part.PartEnd.{PartEnd}
use Rattle.ssq_plans.specs.Records.{HasLineTime, IsSeen, IsMeta, IsMetaRecord, IsPlan, IsCommit}
use Rattle.ssq_open.specs.declared.streams.Watermarked.{Watermarked}
use Rattle.ssq_open.specs.declared.wanted.Opened.{Opened}
use Rattle.ssq_open.specs.declared.kept.Epochs.{Epochs}
use Rattle.ssq_open.specs.Stateful.{keeping_in}
use Rattle.ssq_open.specs.Stores.{AreStores}
use Rattle.ssq_open.specs.Watermarks.{has_lines}
use Rattle.ssq_open.specs.Sought.{Sought, IsJob}
use Rattle.ssq_open.specs.Opening.{CanBeSought, first_meta, first_short}
use Rattle.ssq_open.specs.Epochs.{starts, follows, is_next, is_own, no_plan, cut_of, last_ends}
use Rattle.ssq_open.specs.Numbers.{ArePlansInOrder, AreTimesInOrder, AreEpochsInOrder, IsCheckedInOrder, IsInOrder}
use Rattle.ssq_open.proofs.Walks.{short-none}
use Rattle.ssq_open.proofs.Planning.{below_next}
use Rattle.ssq_open.proofs.Beginning.{first_is}

-- a watermark that can be printed
abbrev Printed : Plan → Type 0
Printed plan = ForSome plan.watermark IsStampTime

-- an epoch's ends follow those of the epoch before
abbrev Follows : List PartEnd → List Plan → ℕ → Type 0
Follows first plans e = IsTrue (follows (cut_of first plans e) (cut_of first plans (e + 1)))

-- one plan more leaves the cuts before it
cut_before : (first : List PartEnd) (plans : List Plan) (p : Plan) (e : ℕ) → e ≤ length plans → cut_of first (plans ++ p ∷ []) e ≡ cut_of first plans e
cut_before first plans p zero less = refl
cut_before first plans p (suc e) less = ap (λ (q : Plan). q.ends) (get_or-append plans (p ∷ []) (no_plan first) e (omega (arith, less)))

cut_new : (first : List PartEnd) (plans : List Plan) (p : Plan) → cut_of first (plans ++ p ∷ []) (length plans + 1) ≡ p.ends
cut_new first plans p = rw add-one (ap (λ (q : Plan). q.ends) (get_or-append_seam plans p [] (no_plan first)))

next_below : (before : List PartEnd) (e : ℕ) (p : Plan) → IsTrue (is_next before e p) → e < 4294967295
next_below before e p next = ltb-true e 4294967295 (and_parts (p.epoch == e) (nat_lt e 4294967295) (and_parts (p.epoch == e && nat_lt e 4294967295) (follows before p.ends) next).0).1

next_follows : (before : List PartEnd) (e : ℕ) (p : Plan) → IsTrue (is_next before e p) → IsTrue (follows before p.ends)
next_follows before e p next = (and_parts (p.epoch == e && nat_lt e 4294967295) (follows before p.ends) next).1

pub plans_next : (first : List PartEnd) (plans : List Plan) (e : ℕ) (p : Plan) → length plans ≡ e → ArePlansInOrder first plans → IsTrue (is_next (last_ends first plans) e p) → IsPlan p
    → ArePlansInOrder first (plans ++ p ∷ [])
plans_next first plans e p count order next is = record {
  few = omega (arith, length_push plans p, count, next_below (last_ends first plans) e p next);
  follow = λ f less. below_next (Follows first (plans ++ p ∷ [])) (length plans) before here f (omega (arith, less, length_push plans p));
  marks = All-push Printed plans p order.marks is.1;
}
  where
    before : (f : ℕ) → f < length plans → Follows first (plans ++ p ∷ []) f
    before f less = rw (cut_before first plans p f (omega (arith, less)), cut_before first plans p (f + 1) (omega (arith, less))) (order.follow f less)

    here : Follows first (plans ++ p ∷ []) (length plans)
    here = rw (cut_before first plans p (length plans) (omega arith), cut_new first plans p) (next_follows (last_ends first plans) e p next)

-- before the first commit there are no times
pub no_times : (streams : List Watermarked) → AreTimesInOrder streams []
no_times streams = record { lines = inl refl; years = All-nil HasLineTime }

-- the times of a commit that is an epoch's own
pub own_times : (streams : List Watermarked) (e : ℕ) (c : Commit) → IsTrue (is_own streams e c) → IsCommit c → AreTimesInOrder streams c.seen
own_times streams e c own is = record {
  lines = inr (and_parts (c.epoch == e) (has_lines streams c.seen) own).1;
  years = All-weaker IsSeen HasLineTime (λ s seen. seen.1) c.seen is.1;
}

-- what a kept checkpoint holds, of the job that is wanted
pub checked_in_order : (s : Sought) (meta : Meta) (epochs : Epochs) → IsMetaRecord meta → IsJob s meta → AreEpochsInOrder s.streams (starts s.found) epochs
    → first_short (last_ends (starts s.found) epochs.plans) s.found ≡ None → IsCheckedInOrder s meta epochs
checked_in_order s meta epochs range job order long = record { range = range.0; job = job; order = order; long = long }

pub kept_in_order : (s : Sought) (found : Opened) → IsCheckedInOrder s found.meta (record { plans = found.plans; committed = found.committed; seen = found.seen })
    → AreStores (keeping_in s.keeps found.meta.partitions) found.committed found.stores → IsInOrder s found
kept_in_order s found is stores = record {
  numbers = record {
    before = is.order.before;
    near = is.order.near;
    few_plans = is.order.plans.few;
    follow = is.order.plans.follow;
    marks = is.order.plans.marks;
    seen = is.order.times.lines;
    years = is.order.times.years;
  };
  range = is.range;
  job = is.job;
  long = is.long;
  stores = stores;
}

-- a checkpoint that was begun has no epoch
pub first_in_order : (s : Sought) (found : Opened) → CanBeSought s.partitions s.parts → found.meta ≡ first_meta s → found.plans ≡ [] → found.committed ≡ 0 → found.seen ≡ []
    → AreStores (keeping_in s.keeps found.meta.partitions) 0 found.stores → IsInOrder s found
first_in_order s found can meta plans committed seen stores = record {
  numbers = record {
    before = omega (arith, committed);
    near = omega (arith, count);
    few_plans = omega (arith, count);
    follow = λ e less. absurd (omega (arith, less, count));
    marks = All-same Printed found.plans [] plans (All-nil Printed);
    seen = inl seen;
    years = All-same HasLineTime found.seen [] seen (All-nil HasLineTime);
  };
  range = subst IsMeta (sym meta) (first_is s can);
  job = subst (IsJob s) (sym meta) (record { ours = record { ours = record { query = refl; streams = refl }; partitions = λ asked sought. rw sought refl }; parts = refl });
  long = ap (λ plans. first_short (last_ends (starts s.found) plans) s.found) plans ∙ short-none s.found;
  stores = subst (λ (n : ℕ). AreStores (keeping_in s.keeps found.meta.partitions) n found.stores) (sym committed) stores;
}
  where
    count : length found.plans ≡ 0
    count = ap length plans
