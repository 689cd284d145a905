-- Logs that were asked for a round.
use Rattle.std.proofs.Common.{◌≡◌, ◌<◌, ◌≤◌, ◌+◌, ◌*◌, ◌∙◌, nat_lt, ℕ, zero, suc, Bool, true, false, List, [], ◌∷◌, length, map, get_or, sum, All, Option, Some, None, refl, sym, ap, subst, arith, add-one, if◌then◌else◌}
use Rattle.std.proofs.lemmas.List.{get_or_default}
use Rattle.std.proofs.lemmas.Bool.{ltb-false, eqb-true, and_parts}
use Rattle.std.specs.List.{list_all, zip}
use Rattle.std.proofs.lemmas.List.Sums.{sum_by-cons}
use Rattle.std.specs.Prelude.{IsTrue, ◌==◌}
use Rattle.std.proofs.lemmas.List.Elements.{All-nil, All-cons, All-head, All-tail, All-append}
use mathlib.Core.Option.{some, some-injective, some-ne-none}
use lib.ListN.{get_elem?}
use Rattle.ssq_outside.specs.Logs.{Line}
use Rattle.ssq_shape.specs.declared.bound.Bound.{Bound}
use Rattle.ssq_plans.specs.declared.part.PartEnd.{PartEnd}
use Rattle.ssq_plans.specs.declared.plan.Plan.{Plan}
use Rattle.ssq_course.specs.Setting.{cut_of as offsets_of}
use Rattle.ssq_open.specs.declared.wanted.Opened.{Opened}
use Rattle.ssq_open.specs.Epochs.{cut_of, last_ends, no_plan, follows, keeps_up}
use Rattle.ssq_open.specs.Looking.{begins_from, parts_of}
use Rattle.ssq_board.specs.declared.front.Cause.{Cause}
use Rattle.ssq_board.specs.declared.front.Cause.TheVariants as cause
use Rattle.ssq_open.specs.declared.streams.Watermarked.{Watermarked}
use Rattle.ssq_open.specs.Watermarks.{watermarked}
use Rattle.ssq_open.specs.Numbers.{HasNumbers}
use Rattle.ssq_terms.specs.Setting.{AreFound}
use Rattle.ssq_logs.specs.Asked.{AreAsked}
use Rattle.ssq_drive.specs.Rounds.{CanBegin, AreReturned, first_of}
use Rattle.ssq_runner.specs.Going.{Fits, planned_lines, scope_of}
use Rattle.ssq_runner.specs.Stops.{short_of, planned_ends}

module _ {L : Type 0} (T U : Type 0) (lines : L → List Line) (available : L → ℕ) (answers : L → List ℕ) (faults : L → ℕ) (less : U → T) where
  -- what is said where less is known
  pub asked_under : (olds news : List L) (found : List ℕ) → AreAsked T lines available answers faults olds news found → AreAsked U lines available answers faults olds news found
  asked_under [] [] [] ask = tt
  asked_under (old ∷ olds) (new ∷ news) (n ∷ found) ask =
      (record { same = λ u. ask.0.same (less u); there = λ u. ask.0.there (less u); within = λ u. ask.0.within (less u); grown = λ u. ask.0.grown (less u); told = λ u. ask.0.told (less u); counted = ask.0.counted }, ask.1, asked_under olds news found ask.2)
  asked_under [] [] (n ∷ found) ask = absurd ask
  asked_under [] (new ∷ news) found ask = absurd ask
  asked_under (old ∷ olds) [] found ask = absurd ask
  asked_under (old ∷ olds) (new ∷ news) [] ask = absurd ask

  pub returned_under : (olds news : List L) → AreReturned T lines available answers faults olds news → AreReturned U lines available answers faults olds news
  returned_under [] [] back = tt
  returned_under (old ∷ olds) (new ∷ news) back = (record { same = λ u. back.0.same (less u); grown = λ u. back.0.grown (less u); unasked = λ u. back.0.unasked (less u); counted = back.0.counted }, returned_under olds news back.1)
  returned_under [] (new ∷ news) back = absurd back
  returned_under (old ∷ olds) [] back = absurd back

-- where the parts begin no line is covered
parts_zero : (stream n : ℕ) → All (λ (p : PartEnd). p.end ≡ 0) (parts_of stream n)
parts_zero stream zero = All-nil (λ (p : PartEnd). p.end ≡ 0)
parts_zero stream (suc n) = All-append (λ (p : PartEnd). p.end ≡ 0) (parts_of stream n) (record { stream = stream; part = n; end = 0 } ∷ []) (parts_zero stream n) (All-cons (λ (p : PartEnd). p.end ≡ 0) _ [] refl (All-nil (λ (p : PartEnd). p.end ≡ 0)))

pub begins_zero : (stream : ℕ) (parts : List ℕ) → All (λ (p : PartEnd). p.end ≡ 0) (begins_from stream parts)
begins_zero stream [] = All-nil (λ (p : PartEnd). p.end ≡ 0)
begins_zero stream (count ∷ rest) = All-append (λ (p : PartEnd). p.end ≡ 0) (parts_of stream count) (begins_from (stream + 1) rest) (parts_zero stream count) (begins_zero (stream + 1) rest)

pub zero_at : (ends : List PartEnd) (i : ℕ) → All (λ (p : PartEnd). p.end ≡ 0) ends → get_or (offsets_of ends) i 0 ≡ 0
zero_at [] i all = refl
zero_at (end ∷ ends) zero all = All-head (λ (p : PartEnd). p.end ≡ 0) end ends all
zero_at (end ∷ ends) (suc i) all = zero_at ends i (All-tail (λ (p : PartEnd). p.end ≡ 0) end ends all)

-- no part has fewer lines than are planned of it
some_or : {A : Type 0} → Option A → Type 0
some_or None = ⊥
some_or (Some x) = Unit {0}

long_by : (b : Bool) (end : PartEnd) (ends : List PartEnd) (lines : ℕ) (found : List ℕ) (c : Cause) → nat_lt lines end.end ≡ b → (if b then Some c else short_of ends found) ≡ None
    → ((j : ℕ) → short_of ends found ≡ None → get_or (offsets_of ends) j 0 ≤ get_or found j 0) → (i : ℕ) → get_or (offsets_of (end ∷ ends)) i 0 ≤ get_or (lines ∷ found) i 0
unfolding some_or
long_by true end ends lines found c e none rest i = absurd (subst some_or none tt)
long_by false end ends lines found c e none rest zero = ltb-false lines end.end e
long_by false end ends lines found c e none rest (suc i) = rest i none

not_short : (ends : List PartEnd) (found : List ℕ) → length found ≡ length ends → short_of ends found ≡ None → (i : ℕ) → get_or (offsets_of ends) i 0 ≤ get_or found i 0
not_short [] found count none i = omega arith
not_short (end ∷ ends) [] count none i = absurd (omega (arith, count))
not_short (end ∷ ends) (lines ∷ found) count none i = long_by (nat_lt lines end.end) end ends lines found (cause.LogShort end.stream end.part end.end lines) refl none (λ j rest. not_short ends found (omega (arith, count)) rest j) i

-- where the planned epochs end hangs on where the parts begin only where none is planned
same_ends : (first other : List PartEnd) (plans : List Plan) (n : ℕ) → n < length plans → cut_of first plans (suc n) ≡ cut_of other plans (suc n)
same_ends first other plans n less = ap (λ (p : Plan). p.ends) (get_or_default plans n (no_plan first) (no_plan other) less)

pub planned_same : (opened : Opened) → 0 < length opened.plans → last_ends (first_of opened) opened.plans ≡ planned_ends opened
planned_same opened some_planned = by (length opened.plans) refl
  where
    by : (n : ℕ) → length opened.plans ≡ n → last_ends (first_of opened) opened.plans ≡ planned_ends opened
    by zero e = absurd (omega (arith, some_planned, e))
    by (suc n) e = ap (cut_of (first_of opened) opened.plans) e ∙ same_ends (first_of opened) [] opened.plans n (omega (arith, e)) ∙ ap (cut_of [] opened.plans) (sym e)

pub planned_long : (opened : Opened) (found : List ℕ) → length found ≡ length (first_of opened) → length (last_ends (first_of opened) opened.plans) ≡ length (first_of opened) → short_of (planned_ends opened) found ≡ None
    → (i : ℕ) → get_or (planned_lines opened) i 0 ≤ get_or found i 0
planned_long opened found count each none i = by (length opened.plans) refl
  where
    by : (n : ℕ) → length opened.plans ≡ n → get_or (planned_lines opened) i 0 ≤ get_or found i 0
    by zero e = subst (λ (m : ℕ). get_or (offsets_of (cut_of (first_of opened) opened.plans m)) i 0 ≤ get_or found i 0) (sym e) (let z = zero_at (first_of opened) i (begins_zero 0 opened.meta.parts) in omega (arith, z))
    by (suc n) e =
        let same = planned_same opened (omega (arith, e)) in
        subst (λ (ends : List PartEnd). get_or (offsets_of ends) i 0 ≤ get_or found i 0) (sym same) (not_short (planned_ends opened) found (count ∙ sym each ∙ ap length same) none i)

module _ {L : Type 0} (tells : Type 0) (lines : L → List Line) (available : L → ℕ) (answers : L → List ℕ) (faults : L → ℕ) where
  pub asked_count : (olds news : List L) (found : List ℕ) → AreAsked tells lines available answers faults olds news found → (length news ≡ length olds) × (length found ≡ length olds)
  asked_count [] [] [] ask = (refl, refl)
  asked_count (old ∷ olds) (new ∷ news) (n ∷ found) ask = (let rest = asked_count olds news found ask.2 in (ap suc rest.0, ap suc rest.1))
  asked_count [] [] (n ∷ found) ask = absurd ask
  asked_count [] (new ∷ news) found ask = absurd ask
  asked_count (old ∷ olds) [] found ask = absurd ask
  asked_count (old ∷ olds) (new ∷ news) [] ask = absurd ask

  -- so many logs have no more lines than that together
  pub asked_sum : (olds news : List L) (found : List ℕ) → AreAsked tells lines available answers faults olds news found → sum found ≤ 1099511627776 * length found
  asked_sum [] [] [] ask = omega arith
  asked_sum (old ∷ olds) (new ∷ news) (n ∷ found) ask = (let rest = asked_sum olds news found ask.2 in let here = ask.1 in let e : sum (n ∷ found) ≡ n + sum found = sum_by-cons (λ x. x) n found in omega (arith, rest, here, e))
  asked_sum [] [] (n ∷ found) ask = absurd ask
  asked_sum [] (new ∷ news) found ask = absurd ask
  asked_sum (old ∷ olds) [] found ask = absurd ask
  asked_sum (old ∷ olds) (new ∷ news) [] ask = absurd ask

  -- what a log answered is there
  pub asked_at : (olds news : List L) (found : List ℕ) → AreAsked tells lines available answers faults olds news found → tells → (i : ℕ) (own : L) → get_elem? news i ≡ some own → available own ≡ get_or found i 0
  asked_at (old ∷ olds) (new ∷ news) (n ∷ found) ask t zero own at = subst (λ (x : L). available x ≡ n) (some-injective new own at) (ask.0.there t)
  asked_at (old ∷ olds) (new ∷ news) (n ∷ found) ask t (suc i) own at = asked_at olds news found ask.2 t i own at
  asked_at [] [] [] ask t i own at = absurd (some-ne-none own (sym at))
  asked_at [] [] (n ∷ found) ask t i own at = absurd ask
  asked_at [] (new ∷ news) found ask t i own at = absurd ask
  asked_at (old ∷ olds) [] found ask t i own at = absurd ask
  asked_at (old ∷ olds) (new ∷ news) [] ask t i own at = absurd ask

  -- and the log will come to hold it, and no more of it is taken
  pub asked_found : (olds news : List L) (found : List ℕ) → AreAsked tells lines available answers faults olds news found → tells → AreFound found (map lines news)
  asked_found [] [] [] ask t = tt
  asked_found (old ∷ olds) (new ∷ news) (n ∷ found) ask t = (ask.0.within t, ask.1, asked_found olds news found ask.2 t)
  asked_found [] [] (n ∷ found) ask t = absurd ask
  asked_found [] (new ∷ news) found ask t = absurd ask
  asked_found (old ∷ olds) [] found ask t = absurd ask
  asked_found (old ∷ olds) (new ∷ news) [] ask t = absurd ask

-- an end follows each
pub follows_count : (before ends : List PartEnd) → IsTrue (follows before ends) → length before ≡ length ends
follows_count before ends is = eqb-true (length before) (length ends) (and_parts (length before == length ends) (list_all keeps_up (zip before ends)) is).0

-- where none is planned, and after each plan, there is an end for each part
pub ends_each : (streams : List Watermarked) (opened : Opened) → HasNumbers streams (first_of opened) opened → (n : ℕ) → n ≤ length opened.plans → length (cut_of (first_of opened) opened.plans n) ≡ length (first_of opened)
ends_each streams opened numbers zero le = refl
ends_each streams opened numbers (suc n) le =
    sym (follows_count (cut_of (first_of opened) opened.plans n) (cut_of (first_of opened) opened.plans (suc n)) (subst (λ (m : ℕ). IsTrue (follows (cut_of (first_of opened) opened.plans n) (cut_of (first_of opened) opened.plans m))) (add-one n) (numbers.follow n (omega (arith, le))))) ∙ ends_each streams opened numbers n (omega (arith, le))

pub can_on : {L : Type 0} (tells : Type 0) (lines : L → List Line) (available : L → ℕ) (answers : L → List ℕ) (faults : L → ℕ) (bound : Bound) (cap : Option ℕ) (olds news : List L) (opened : Opened) (found : List ℕ)
    → Fits bound cap (length olds) opened → AreAsked tells lines available answers faults olds news found → short_of (planned_ends opened) found ≡ None → CanBegin bound (length news) opened (scope_of opened found cap)
can_on tells lines available answers faults bound cap olds news opened found fits ask none =
    let count = asked_count tells lines available answers faults olds news found ask in
    let most = asked_sum tells lines available answers faults olds news found ask in
    let few = fits.few_logs in
    let parts : length found ≡ length (first_of opened) = count.1 ∙ fits.log_each in
    record {
      runs = fits.runs;
      partitions = refl;
      some_partitions = fits.some_partitions;
      few_partitions = fits.few_partitions;
      streams = fits.streams;
      few_streams = fits.few_streams;
      parts = parts;
      log_each = count.0 ∙ fits.log_each;
      cap = fits.has_cap;
      few_tasks = (let a = count.1 in let p = fits.few_partitions in omega (arith, a, few, p));
      few_lines = (let a = count.1 in omega (arith, a, few, most));
      numbers = fits.numbers;
      stores = fits.stores;
      long = planned_long opened found parts (ends_each (watermarked bound.streams) opened fits.numbers (length opened.plans) (omega arith)) none;
    }
