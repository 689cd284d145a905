-- The rows of an epoch are published only once its out task is back.
use Rattle.std.proofs.Common.{◌≡◌, ℕ, zero, suc, Bool, true, false, true≢false, List, [], ◌∷◌, Option, Some, None, set, sym, refl, ◌∙◌, subst}
use mathlib.Core.Option.{some, some-injective, some-ne-none}
use lib.ListN.{get_elem?}
use Rattle.ssq_outside.specs.declared.gate.Kind.{Kind}
use Rattle.ssq_outside.specs.declared.gate.Kind.TheVariants as kind
use Rattle.ssq_core.specs.Course.{Cuts, Job}
use Rattle.ssq_board.specs.declared.front.Cause.{Cause}
use Rattle.ssq_board.specs.declared.front.Cause.TheVariants as cause
use Rattle.ssq_board.specs.declared.front.Place.{Place}
use Rattle.ssq_board.specs.declared.front.Place.TheVariants as place
use Rattle.ssq_board.specs.declared.front.Entry.{Entry}
use Rattle.ssq_board.specs.declared.front.Entry.TheVariants as entry
use Rattle.ssq_board.specs.Core.{Scope, Core, May, after, tasks_of, with_tasks, with_front, stopped_front, or_stop, due}
use Rattle.ssq_board.specs.Shown.{Start, first, first_by}
use Rattle.ssq_board.specs.Follows.{State, Leads}

abbrev pub IsBackWritten : Core → Type 0
IsBackWritten c = c.front.written ≡ true → get_elem? c.outs 0 ≡ some (place.Back None)

pub head_kept : (l : List Place) (n : ℕ) (p : Place) → get_elem? (set l (suc n) p) 0 ≡ get_elem? l 0
head_kept [] n p = refl
head_kept (x ∷ xs) n p = refl

kept : (outs : List Place) (n : ℕ) (q p : Place) → (q ≡ place.Back None → ⊥) → get_elem? outs n ≡ some q → get_elem? outs 0 ≡ some (place.Back None) → get_elem? (set outs n p) 0 ≡ some (place.Back None)
kept outs zero q p other here back = absurd (other (some-injective q (place.Back None) (sym here ∙ back)))
kept outs (suc n) q p other here back = head_kept outs n p ∙ back

moved_back : (c : Core) (n : ℕ) (q p : Place) → (q ≡ place.Back None → ⊥) → (k : Kind) → get_elem? (tasks_of k c) n ≡ some q → IsBackWritten c → IsBackWritten (with_tasks k c (set (tasks_of k c) n p))
moved_back c n q p other kind.Map here d = d
moved_back c n q p other kind.Reduce here d = d
moved_back c n q p other kind.Out here d = λ written. kept c.outs n q p other here (d written)
moved_back c n q p other kind.Upkeep here d = absurd (some-ne-none q (sym here))

waits_other : place.Waits ≡ place.Back None → ⊥
waits_other e = cc

away_other : place.Away ≡ place.Back None → ⊥
away_other e = cc

reported_back : (c : Core) (n : ℕ) (f stop : Option Cause) → (k : Kind) → get_elem? (tasks_of k c) n ≡ some place.Away → IsBackWritten c → IsBackWritten (with_front (with_tasks k c (set (tasks_of k c) n (place.Back f))) (stopped_front c.front stop))
reported_back c n f stop kind.Map here d = d
reported_back c n f stop kind.Reduce here d = d
reported_back c n f stop kind.Out here d = λ written. kept c.outs n place.Away (place.Back f) away_other here (d written)
reported_back c n f stop kind.Upkeep here d = absurd (some-ne-none place.Away (sym here))

pub step_back : (r : Scope) (c : Core) (e : Entry) → May r c e → IsBackWritten c → IsBackWritten (after r c e)
step_back r c (entry.Plan e) m d = λ written. absurd (true≢false (sym written))
step_back r c (entry.Claim t) m d = moved_back c t.number place.Waits place.Away waits_other t.kind m.4 d
step_back r c (entry.Report t f) m d = reported_back c t.number f (or_stop c.front.stop (due c t f)) t.kind m.2 d
step_back r c (entry.Version t) m d = reported_back c t.number None (or_stop c.front.stop (due c t None)) t.kind m.2 d
step_back r c (entry.Missed t) m d = reported_back c t.number (Some cause.DiskFault) (Some cause.DiskFault) t.kind m.2 d
step_back r c (entry.OutFile e) m d = λ written. m.4
step_back r c (entry.Sync clock) m d = d
step_back r c (entry.Commit e next) m d = d
step_back r c (entry.Upkeep p v) m d = d
step_back r c (entry.Snapshot p v) m d = d
step_back r c (entry.Unmade p v f) m d = d
step_back r c (entry.Untaken p v) m d = d
step_back r c (entry.Drop q) m d = d
step_back r c (entry.Undropped q) m d = d
step_back r c (entry.Stop f) m d = d

pub first_back : (r : Scope) (s : Start) → IsBackWritten (first r s)
first_back r s = by_planned s.is_planned
  where
    by_planned : (b : Bool) → IsBackWritten (first_by b r s)
    by_planned true = λ written. absurd (true≢false (sym written))
    by_planned false = λ written. absurd (true≢false (sym written))

run_back : (tells : Type 0) (job : Job) (r : Scope) (next : Cuts → ℕ → Bool) (es : List Entry) (a n : State) → Leads tells job r next a es n → IsBackWritten a.core → IsBackWritten n.core
run_back tells job r next [] a n l d = subst (λ (x : State). IsBackWritten x.core) l d
run_back tells job r next (e ∷ es) a n l d = run_back tells job r next es l.0 n l.2 (subst IsBackWritten (sym l.1.core) (step_back r a.core e l.1.may d))

-- the out task that is away has not written
pub unwritten : (tells : Type 0) (job : Job) (r : Scope) (next : Cuts → ℕ → Bool) (es : List Entry) (a n : State) (s : Start) → Leads tells job r next a es n → a.core ≡ first r s → get_elem? n.core.outs 0 ≡ some place.Away → n.core.front.written ≡ false
unwritten tells job r next es a n s l is away = by_written n.core.front.written refl
  where
    back : IsBackWritten n.core
    back = run_back tells job r next es a n l (subst IsBackWritten (sym is) (first_back r s))

    by_written : (b : Bool) → n.core.front.written ≡ b → b ≡ false
    by_written false e = refl
    by_written true e = absurd (away_other (some-injective place.Away (place.Back None) (sym away ∙ back e)))
