-- Between epochs all tasks are back.
use Rattle.std.proofs.Common.{◌≡◌, ◌⊎◌, ◌≤◌, ◌+◌, ℕ, zero, suc, Bool, true, false, true≢false, List, [], ◌∷◌, length, map, replicate, set, Option, Some, None, nat_lt, ◌&&◌, sym, refl, ap, ◌∙◌, subst, inl, inr, arith, lt-ltb}
use Rattle.std.specs.List.{list_all}
use Rattle.std.proofs.lemmas.Bool.{and_parts}
use mathlib.Core.Option.{some, some-injective, some-ne-none}
use lib.ListN.{get_elem?}
use Rattle.ssq_outside.specs.declared.gate.Kind.{Kind}
use Rattle.ssq_outside.specs.declared.gate.Kind.TheVariants as kind
use Rattle.ssq_core.specs.Course.{Cuts, Job}
use Rattle.ssq_board.specs.declared.front.Cause.{Cause}
use Rattle.ssq_board.specs.declared.front.Cause.TheVariants as cause
use Rattle.ssq_board.specs.declared.front.Place.{Place}
use Rattle.ssq_board.specs.declared.front.Place.TheVariants as place
use Rattle.ssq_board.specs.declared.front.Entry.{Entry}
use Rattle.ssq_board.specs.declared.front.Entry.TheVariants as entry
use Rattle.ssq_board.specs.Core.{Scope, Core, May, after, is_fine, is_open, may_start, tasks_of, with_tasks, with_front, stopped_front, or_stop, due}
use Rattle.ssq_board.specs.Shown.{Start, IsStart, IsSound, first, first_by}
use Rattle.ssq_board.proofs.Sounds.{step_sound, first_sound}
use Rattle.ssq_board.specs.Follows.{State, Leads}
use Rattle.ssq_ledger.specs.Shown.{AreBack}
use Rattle.ssq_ledger.proofs.Written.{IsBackWritten, head_kept, step_back, first_back}

-- where all are fine, none waits, and none is away
fine_at : (l : List Place) (n : ℕ) (q : Place) → list_all is_fine l ≡ true → get_elem? l n ≡ some q → is_fine q ≡ true
fine_at [] n q e here = absurd (some-ne-none q (sym here))
fine_at (p ∷ ps) zero q e here = ap is_fine (sym (some-injective p q here)) ∙ (and_parts (is_fine p) (list_all is_fine ps) e).0
fine_at (p ∷ ps) (suc n) q e here = fine_at ps n q (and_parts (is_fine p) (list_all is_fine ps) e).1 here

-- The out task is the last: once it is with a worker or back, all others are back without a fault; and so they are between epochs.
pub record IsLast (c : Core) : Type 0 where
  pub out : (get_elem? c.outs 0 ≡ some place.Away) ⊎ (get_elem? c.outs 0 ≡ some (place.Back None)) → AreBack c
  pub between : is_open c ≡ false → AreBack c

waits_out : (get_elem? (place.Waits ∷ []) 0 ≡ some place.Away) ⊎ (get_elem? (place.Waits ∷ []) 0 ≡ some (place.Back None)) → ⊥
waits_out (inl e) = (let i' = some-injective _ _ e in cc)
waits_out (inr e) = (let i' = some-injective _ _ e in cc)

waits_fine : is_fine place.Waits ≡ true → ⊥
waits_fine e = true≢false (sym e)

away_fine : is_fine place.Away ≡ true → ⊥
away_fine e = true≢false (sym e)

open_after : (c : Core) → c.front.committed ≤ c.front.planned → nat_lt c.front.committed (c.front.planned + 1) ≡ false → ⊥
open_after c le e = true≢false (sym (lt-ltb c.front.committed (c.front.planned + 1) (omega (arith, le))) ∙ e)

never : {A : Type 0} (c : Core) → is_open c ≡ true → is_open c ≡ false → A
never c e f = absurd (true≢false (sym e ∙ f))

-- a task that is handed out
claimed : (c : Core) (n : ℕ) (k : Kind) → is_open c ≡ true → may_start c k ≡ true → get_elem? (tasks_of k c) n ≡ some place.Waits → IsLast c → IsLast (with_tasks k c (set (tasks_of k c) n place.Away))
claimed c n kind.Map opened may here d = record { out = λ o. absurd (waits_fine (fine_at c.maps n place.Waits (d.out o).maps here)); between = λ e. never c opened e }
claimed c n kind.Reduce opened may here d = record { out = λ o. absurd (waits_fine (fine_at c.reduces n place.Waits (d.out o).reduces here)); between = λ e. never c opened e }
claimed c n kind.Out opened may here d =
    let both = and_parts (list_all is_fine c.maps) (list_all is_fine c.reduces) (and_parts c.front.fresh (list_all is_fine c.maps && list_all is_fine c.reduces) may).1 in
    let all : AreBack c = record { maps = both.0; reduces = both.1 } in
    record { out = λ o. record { maps = all.maps; reduces = all.reduces }; between = λ e. never c opened e }
claimed c n kind.Upkeep opened may here d = absurd (some-ne-none place.Waits (sym here))

back_out : (c : Core) (n : ℕ) (p : Place) → get_elem? c.outs n ≡ some place.Away → IsLast c → (get_elem? (set c.outs n p) 0 ≡ some place.Away) ⊎ (get_elem? (set c.outs n p) 0 ≡ some (place.Back None)) → AreBack c
back_out c zero p here d o = d.out (inl here)
back_out c (suc n) p here d (inl e) = d.out (inl (sym (head_kept c.outs n p) ∙ e))
back_out c (suc n) p here d (inr e) = d.out (inr (sym (head_kept c.outs n p) ∙ e))

-- a task that is taken back
reported : (c : Core) (n : ℕ) (f stop : Option Cause) (k : Kind) → is_open c ≡ true → get_elem? (tasks_of k c) n ≡ some place.Away → IsLast c
    → IsLast (with_front (with_tasks k c (set (tasks_of k c) n (place.Back f))) (stopped_front c.front stop))
reported c n f stop kind.Map opened here d = record { out = λ o. absurd (away_fine (fine_at c.maps n place.Away (d.out o).maps here)); between = λ e. never c opened e }
reported c n f stop kind.Reduce opened here d = record { out = λ o. absurd (away_fine (fine_at c.reduces n place.Away (d.out o).reduces here)); between = λ e. never c opened e }
reported c n f stop kind.Out opened here d = record { out = λ o. (let all = back_out c n (place.Back f) here d o in record { maps = all.maps; reduces = all.reduces }); between = λ e. never c opened e }
reported c n f stop kind.Upkeep opened here d = absurd (some-ne-none place.Away (sym here))

step_last : (r : Scope) (c : Core) (e : Entry) → May r c e → IsSound r c → IsBackWritten c → IsLast c → IsLast (after r c e)
step_last r c (entry.Plan e) m s w d = record { out = λ o. absurd (waits_out o); between = λ e. absurd (open_after c s.before e) }
step_last r c (entry.Claim t) m s w d = claimed c t.number t.kind m.1 m.3 m.4 d
step_last r c (entry.Report t f) m s w d = reported c t.number f (or_stop c.front.stop (due c t f)) t.kind m.0 m.2 d
step_last r c (entry.Version t) m s w d =
    let same = reported c t.number None (or_stop c.front.stop (due c t None)) t.kind m.0 m.2 d in
    record { out = λ o. (let all = same.out o in record { maps = all.maps; reduces = all.reduces }); between = λ b. never c m.0 b }
step_last r c (entry.Missed t) m s w d = reported c t.number (Some cause.DiskFault) (Some cause.DiskFault) t.kind m.0 m.2 d
step_last r c (entry.OutFile e) m s w d = record { out = λ o. (let all = d.out o in record { maps = all.maps; reduces = all.reduces }); between = λ b. (let all = d.between b in record { maps = all.maps; reduces = all.reduces }) }
step_last r c (entry.Sync clock) m s w d = record { out = λ o. (let all = d.out o in record { maps = all.maps; reduces = all.reduces }); between = λ b. (let all = d.between b in record { maps = all.maps; reduces = all.reduces }) }
step_last r c (entry.Commit e next) m s w d = (let all = d.out (inr (w m.4)) in record { out = λ o. record { maps = all.maps; reduces = all.reduces }; between = λ b. record { maps = all.maps; reduces = all.reduces } })
step_last r c (entry.Upkeep p v) m s w d = d
step_last r c (entry.Snapshot p v) m s w d = d
step_last r c (entry.Unmade p v f) m s w d = record { out = λ o. (let all = d.out o in record { maps = all.maps; reduces = all.reduces }); between = λ b. (let all = d.between b in record { maps = all.maps; reduces = all.reduces }) }
step_last r c (entry.Untaken p v) m s w d = record { out = λ o. (let all = d.out o in record { maps = all.maps; reduces = all.reduces }); between = λ b. (let all = d.between b in record { maps = all.maps; reduces = all.reduces }) }
step_last r c (entry.Drop q) m s w d = d
step_last r c (entry.Undropped q) m s w d = record { out = λ o. (let all = d.out o in record { maps = all.maps; reduces = all.reduces }); between = λ b. (let all = d.between b in record { maps = all.maps; reduces = all.reduces }) }
step_last r c (entry.Stop f) m s w d = record { out = λ o. (let all = d.out o in record { maps = all.maps; reduces = all.reduces }); between = λ b. (let all = d.between b in record { maps = all.maps; reduces = all.reduces }) }

rest_fine : {A : Type 0} (l : List A) → list_all is_fine (map (λ _. place.Rests) l) ≡ true
rest_fine [] = refl
rest_fine (x ∷ xs) = rest_fine xs

all_rest : (n : ℕ) → list_all is_fine (replicate n place.Rests) ≡ true
all_rest zero = refl
all_rest (suc n) = all_rest n

first_last : (r : Scope) (s : Start) → IsLast (first r s)
first_last r s = by_planned s.is_planned
  where
    by_planned : (b : Bool) → IsLast (first_by b r s)
    by_planned true = record { out = λ o. absurd (waits_out o); between = λ e. absurd (true≢false (sym (lt-ltb s.committed (s.committed + 1) (omega arith)) ∙ e)) }
    by_planned false = record { out = λ o. record { maps = rest_fine s.to; reduces = all_rest r.partitions }; between = λ e. record { maps = rest_fine s.to; reduces = all_rest r.partitions } }

run_last : (tells : Type 0) (job : Job) (r : Scope) (next : Cuts → ℕ → Bool) (es : List Entry) (a n : State) → Leads tells job r next a es n → IsSound r a.core → IsBackWritten a.core → IsLast a.core → IsLast n.core
run_last tells job r next [] a n l s w d = subst (λ (x : State). IsLast x.core) l d
run_last tells job r next (e ∷ es) a n l s w d =
    run_last tells job r next es l.0 n l.2 (subst (IsSound r) (sym l.1.core) (step_sound r a.core e l.1.may s)) (subst IsBackWritten (sym l.1.core) (step_back r a.core e l.1.may w))
    (subst IsLast (sym l.1.core) (step_last r a.core e l.1.may s w d))

-- between epochs each task is back without a fault, or was not there
pub between_epochs : (tells : Type 0) (job : Job) (r : Scope) (next : Cuts → ℕ → Bool) (es : List Entry) (a n : State) (s : Start) → IsStart r s → Leads tells job r next a es n → a.core ≡ first r s
    → is_open n.core ≡ false → AreBack n.core
between_epochs tells job r next es a n s d l is closed =
    (run_last tells job r next es a n l (subst (IsSound r) (sym is) (first_sound r s d)) (subst IsBackWritten (sym is) (first_back r s)) (subst IsLast (sym is) (first_last r s))).between closed

-- Between epochs the out task is back as well.
abbrev pub IsOutBack : Core → Type 0
IsOutBack c = is_open c ≡ false → list_all is_fine c.outs ≡ true

only_fine : (outs : List Place) → length outs ≤ 1 → get_elem? outs 0 ≡ some (place.Back None) → list_all is_fine outs ≡ true
only_fine [] le e = absurd (some-ne-none (place.Back None) (sym e))
only_fine (p ∷ []) le e = ap (λ q. is_fine q && true) (some-injective p (place.Back None) e)
only_fine (p ∷ q ∷ l) le e = absurd (omega arith)

step_out : (r : Scope) (c : Core) (e : Entry) → May r c e → IsSound r c → IsBackWritten c → IsOutBack c → IsOutBack (after r c e)
step_out r c (entry.Plan e) m s w d = λ closed. absurd (open_after c s.before closed)
step_out r c (entry.Claim t) m s w d = λ closed. never c m.1 closed
step_out r c (entry.Report t f) m s w d = λ closed. never c m.0 closed
step_out r c (entry.Version t) m s w d = λ closed. never c m.0 closed
step_out r c (entry.Missed t) m s w d = λ closed. never c m.0 closed
step_out r c (entry.OutFile e) m s w d = d
step_out r c (entry.Sync clock) m s w d = d
step_out r c (entry.Commit e next) m s w d = λ closed. only_fine c.outs s.outs (w m.4)
step_out r c (entry.Upkeep p v) m s w d = d
step_out r c (entry.Snapshot p v) m s w d = d
step_out r c (entry.Unmade p v f) m s w d = d
step_out r c (entry.Untaken p v) m s w d = d
step_out r c (entry.Drop q) m s w d = d
step_out r c (entry.Undropped q) m s w d = d
step_out r c (entry.Stop f) m s w d = d

first_out : (r : Scope) (s : Start) → IsOutBack (first r s)
first_out r s = by_planned s.is_planned
  where
    by_planned : (b : Bool) → IsOutBack (first_by b r s)
    by_planned true = λ closed. absurd (true≢false (sym (lt-ltb s.committed (s.committed + 1) (omega arith)) ∙ closed))
    by_planned false = λ closed. refl

run_out : (tells : Type 0) (job : Job) (r : Scope) (next : Cuts → ℕ → Bool) (es : List Entry) (a n : State) → Leads tells job r next a es n → IsSound r a.core → IsBackWritten a.core → IsOutBack a.core → IsOutBack n.core
run_out tells job r next [] a n l s w d = subst (λ (x : State). IsOutBack x.core) l d
run_out tells job r next (e ∷ es) a n l s w d =
    run_out tells job r next es l.0 n l.2 (subst (IsSound r) (sym l.1.core) (step_sound r a.core e l.1.may s)) (subst IsBackWritten (sym l.1.core) (step_back r a.core e l.1.may w))
    (subst IsOutBack (sym l.1.core) (step_out r a.core e l.1.may s w d))

pub out_between : (tells : Type 0) (job : Job) (r : Scope) (next : Cuts → ℕ → Bool) (es : List Entry) (a n : State) (s : Start) → IsStart r s → Leads tells job r next a es n → a.core ≡ first r s → IsOutBack n.core
out_between tells job r next es a n s d l is =
    run_out tells job r next es a n l (subst (IsSound r) (sym is) (first_sound r s d)) (subst IsBackWritten (sym is) (first_back r s)) (subst IsOutBack (sym is) (first_out r s))
