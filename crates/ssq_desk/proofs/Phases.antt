-- Reduce tasks begin only once all map tasks are back without a fault.
use Rattle.std.proofs.Common.{◌≡◌, ℕ, zero, suc, [], ◌∷◌, Bool, true, false, true≢false, List, set, Some, None, refl, sym, ap, ◌∙◌, subst}
use Rattle.std.specs.Prelude.{map, replicate}
use Rattle.std.specs.List.{list_all}
use mathlib.Core.Option.{some, some-injective, some-ne-none}
use lib.ListN.{get_elem?}
use Rattle.ssq_outside.specs.History.{History}
use Rattle.ssq_outside.specs.declared.gate.Kind.{Kind}
use Rattle.ssq_outside.specs.declared.gate.Kind.TheVariants as kind
use Rattle.ssq_core.specs.Course.{Cuts, Job}
use Rattle.ssq_board.specs.declared.front.Cause.TheVariants as cause
use Rattle.ssq_board.specs.declared.front.Place.{Place}
use Rattle.ssq_board.specs.declared.front.Place.TheVariants as place
use Rattle.ssq_board.specs.declared.front.Entry.{Entry}
use Rattle.ssq_board.specs.declared.front.Entry.TheVariants as entry
use Rattle.ssq_board.specs.Core.{Scope, Core, May, after, is_fine, may_start, tasks_of, with_tasks}
use Rattle.ssq_board.specs.Shown.{Start, first_by, first_place}
use Rattle.ssq_board.specs.Follows.{State, Leads}
use Rattle.ssq_board.proofs.Lists.{all_fine}
use Rattle.ssq_ledger.specs.Shown.{Shown, Opening, IsLegal}
use Rattle.ssq_desk.proofs.Handing.{and_right}

-- with a worker, or back
abbrev pub is_begun : Place → Bool
is_begun place.Rests = false
is_begun place.Waits = false
is_begun place.Away = true
is_begun (place.Back f) = true

-- where a reduce task has begun all map tasks are back without a fault
abbrev pub IsPhased : Core → Type 0
IsPhased c = (p : ℕ) (own : Place) → get_elem? c.reduces p ≡ some own → is_begun own ≡ true → list_all is_fine c.maps ≡ true

-- a task that waits or is away is elsewhere
moved_phased : (c : Core) (n : ℕ) (k : Kind) (old p : Place) → IsPhased c → get_elem? (tasks_of k c) n ≡ some old → is_fine old ≡ false → (k ≡ kind.Reduce → list_all is_fine c.maps ≡ true)
    → IsPhased (with_tasks k c (set (tasks_of k c) n p))
moved_phased c n kind.Map old p phased here busy begins = λ q own there begun. absurd (true≢false (sym (all_fine is_fine c.maps n old (phased q own there begun) here) ∙ busy))
moved_phased c n kind.Reduce old p phased here busy begins = λ q own there begun. begins refl
moved_phased c n kind.Out old p phased here busy begins = phased
moved_phased c n kind.Upkeep old p phased here busy begins = absurd (some-ne-none old (sym here))

-- a task that is away has begun
away_phased : (c : Core) (n : ℕ) (k : Kind) (p : Place) → IsPhased c → get_elem? (tasks_of k c) n ≡ some place.Away → IsPhased (with_tasks k c (set (tasks_of k c) n p))
away_phased c n k p phased here =
    moved_phased c n k place.Away p phased here refl (λ is. phased n place.Away (subst (λ (k : Kind). get_elem? (tasks_of k c) n ≡ some place.Away) is here) refl)

all_wait : (l : List Place) (p : ℕ) (own : Place) → get_elem? (map (λ _. place.Waits) l) p ≡ some own → is_begun own ≡ false
all_wait [] p own here = absurd (some-ne-none own (sym here))
all_wait (x ∷ l) zero own here = ap is_begun (sym (some-injective place.Waits own here))
all_wait (x ∷ l) (suc p) own here = all_wait l p own here

none_begun : (b : Bool) (n p : ℕ) (own : Place) → get_elem? (replicate n (first_place b)) p ≡ some own → is_begun own ≡ false
none_begun b zero p own here = absurd (some-ne-none own (sym here))
none_begun true (suc n) zero own here = ap is_begun (sym (some-injective place.Waits own here))
none_begun false (suc n) zero own here = ap is_begun (sym (some-injective place.Rests own here))
none_begun b (suc n) (suc p) own here = none_begun b n p own here

step_phased : (r : Scope) (c : Core) (e : Entry) → May r c e → IsPhased c → IsPhased (after r c e)
step_phased r c (entry.Plan e) m phased = λ p own here begun. absurd (true≢false (sym begun ∙ all_wait c.reduces p own here))
step_phased r c (entry.Claim t) m phased =
    moved_phased c t.number t.kind place.Waits place.Away phased m.4 refl (λ is. and_right c.front.fresh (list_all is_fine c.maps) (subst (λ (k : Kind). may_start c k ≡ true) is m.3))
step_phased r c (entry.Report t f) m phased = away_phased c t.number t.kind (place.Back f) phased m.2
step_phased r c (entry.Version t) m phased = away_phased c t.number t.kind (place.Back None) phased m.2
step_phased r c (entry.Missed t) m phased = away_phased c t.number t.kind (place.Back (Some cause.DiskFault)) phased m.2
step_phased r c (entry.OutFile e) m phased = phased
step_phased r c (entry.Sync clock) m phased = phased
step_phased r c (entry.Commit e next) m phased = phased
step_phased r c (entry.Upkeep p v) m phased = phased
step_phased r c (entry.Snapshot p v) m phased = phased
step_phased r c (entry.Unmade p v f) m phased = phased
step_phased r c (entry.Untaken p v) m phased = phased
step_phased r c (entry.Drop q) m phased = phased
step_phased r c (entry.Undropped q) m phased = phased
step_phased r c (entry.Stop f) m phased = phased

first_phased : (b : Bool) (r : Scope) (s : Start) → IsPhased (first_by b r s)
first_phased b r s = λ p own here begun. absurd (true≢false (sym begun ∙ none_begun b r.partitions p own here))

run_phased : (tells : Type 0) (job : Job) (r : Scope) (next : Cuts → ℕ → Bool) (es : List Entry) (a n : State) → Leads tells job r next a es n → IsPhased a.core → IsPhased n.core
run_phased tells job r next [] a n leads phased = subst (λ (x : State). IsPhased x.core) leads phased
run_phased tells job r next (e ∷ es) a n leads phased =
    run_phased tells job r next es leads.0 n leads.2 (subst IsPhased (sym leads.1.core) (step_phased r a.core e leads.1.may phased))

-- so it is on each ledger, by its history
pub maps_done : {D O : Type 0} (tells : Type 0) (history : D → History) (opening : O → Opening) (shown : Shown D O) → IsLegal tells history opening shown → (p : ℕ) → get_elem? shown.core.reduces p ≡ some place.Away → list_all is_fine shown.core.maps ≡ true
maps_done tells history opening shown legal p here =
    run_phased tells (opening shown.opening).job shown.scope (opening shown.opening).due shown.history _ _ legal.2 (first_phased (opening shown.opening).start.is_planned shown.scope (opening shown.opening).start) p place.Away here refl
