-- The lines of the planned epochs end where the cuts say.
use Rattle.std.proofs.Common.{◌≡◌, ◌≤◌, ◌+◌, ℕ, zero, suc, Bool, true, false, List, [], ◌∷◌, Option, length, get_or, nat_lt, rules, refl, sym, ap, ◌∙◌, subst, arith, lt-ltb}
use Rattle.std.specs.Prelude.{◌==◌, if◌then◌else◌}
use Rattle.std.specs.List.{list_all, zip}
use Rattle.std.proofs.lemmas.Bool.{eq-eqb, le-leb}
use Rattle.ssq_plans.specs.declared.part.PartEnd.{PartEnd}
use Rattle.ssq_core.specs.Course.{Ends, Cuts, Job}
use Rattle.ssq_core.proofs.Holding.{both_true}
use Rattle.ssq_course.specs.Setting.{cut_of}
use Rattle.ssq_open.specs.Epochs.{keeps_up, follows}
use Rattle.ssq_board.specs.declared.front.Entry.{Entry}
use Rattle.ssq_board.specs.declared.front.Entry.TheVariants as entry
use Rattle.ssq_board.specs.Core.{Scope, Core, after, cuts_by, next_end, next_part, next_ends}
use Rattle.ssq_board.specs.Shown.{planned_by}
use Rattle.ssq_board.specs.Follows.{State, Leads}
use Rattle.ssq_board.proofs.Lists.{next_length}
use Rattle.ssq_terms.proofs.Dealing.{next_between}

-- where the planned epochs end is what the desk knows
abbrev pub AreEnds : Cuts → Core → Type 0
AreEnds cuts c = cuts c.front.planned ≡ c.ends

step_ends : (r : Scope) (cuts : Cuts) (c : Core) (e : Entry) → AreEnds cuts c → AreEnds (cuts_by r cuts c e) (after r c e)
step_ends r cuts c (entry.Plan e) is =
    ap (λ (b : Bool). if b then next_ends r.cap c.ends r.available else cuts (c.front.planned + 1)) (lt-ltb c.front.planned (c.front.planned + 1) (omega arith))
step_ends r cuts c (entry.Claim t) is = is
step_ends r cuts c (entry.Report t f) is = is
step_ends r cuts c (entry.Version t) is = is
step_ends r cuts c (entry.Missed t) is = is
step_ends r cuts c (entry.OutFile e) is = is
step_ends r cuts c (entry.Sync clock) is = is
step_ends r cuts c (entry.Commit e due) is = is
step_ends r cuts c (entry.Upkeep p v) is = is
step_ends r cuts c (entry.Snapshot p v) is = is
step_ends r cuts c (entry.Unmade p v f) is = is
step_ends r cuts c (entry.Untaken p v) is = is
step_ends r cuts c (entry.Drop q) is = is
step_ends r cuts c (entry.Undropped q) is = is
step_ends r cuts c (entry.Stop f) is = is

pub run_ends : (tells : Type 0) (job : Job) (r : Scope) (next : Cuts → ℕ → Bool) (es : List Entry) (a n : State) → Leads tells job r next a es n → AreEnds a.cuts a.core → AreEnds n.cuts n.core
run_ends tells job r next [] a n l is = subst (λ (x : State). AreEnds x.cuts x.core) l is
run_ends tells job r next (e ∷ es) a n l is =
    run_ends tells job r next es l.0 n l.2
    ((λ i. l.1.cuts i ((l.1.core i).front.planned)) ∙ step_ends r a.cuts a.core e is ∙ sym (ap (λ (c : Core). c.ends) l.1.core))

-- of no part more lines are planned than were found
abbrev pub AreWithin : List ℕ → Ends → Type 0
AreWithin available ends = (i : ℕ) → get_or (cut_of ends) i 0 ≤ get_or available i 0

next_within : (cap : Option ℕ) (ends : Ends) (available : List ℕ) → AreWithin available ends → AreWithin available (next_ends cap ends available)
next_within cap [] available are i = omega arith
next_within cap (end ∷ ends) [] are zero = are zero
next_within cap (end ∷ ends) [] are (suc i) = next_within cap ends [] (λ j. are (suc j)) i
next_within cap (end ∷ ends) (n ∷ available) are zero = (next_between cap end.end n n (are zero) (omega arith)).high
next_within cap (end ∷ ends) (n ∷ available) are (suc i) = next_within cap ends available (λ j. are (suc j)) i

part_kept : (end : PartEnd) (to : ℕ) → end.end ≤ to → keeps_up (end, (let e : PartEnd = record { stream = end.stream; part = end.part; end = to } in e)) ≡ true
part_kept end to le = rw (eq-eqb end.stream end.stream refl, eq-eqb end.part end.part refl, le-leb end.end to le) refl

-- the next ends are of the same parts, and none falls
next_keeps : (cap : Option ℕ) (ends : Ends) (available : List ℕ) → list_all keeps_up (zip ends (next_ends cap ends available)) ≡ true
next_keeps cap [] available = refl
next_keeps cap (end ∷ ends) [] = both_true (keeps_up (end, end)) _ (part_kept end end.end (omega arith)) (next_keeps cap ends [])
next_keeps cap (end ∷ ends) (n ∷ available) =
    both_true (keeps_up (end, next_part cap end n)) _ (part_kept end (next_end cap end.end n) ((next_between cap end.end n (end.end + n) (omega arith) (omega arith)).low)) (next_keeps cap ends available)

pub next_follows : (cap : Option ℕ) (ends : Ends) (available : List ℕ) → follows ends (next_ends cap ends available) ≡ true
next_follows cap ends available =
    both_true (length ends == length (next_ends cap ends available)) _ (eq-eqb (length ends) (length (next_ends cap ends available)) (sym (next_length cap ends available))) (next_keeps cap ends available)

step_within : (r : Scope) (c : Core) (e : Entry) → AreWithin r.available c.ends → AreWithin r.available (after r c e).ends
step_within r c (entry.Plan e) are = next_within r.cap c.ends r.available are
step_within r c (entry.Claim t) are = are
step_within r c (entry.Report t f) are = are
step_within r c (entry.Version t) are = are
step_within r c (entry.Missed t) are = are
step_within r c (entry.OutFile e) are = are
step_within r c (entry.Sync clock) are = are
step_within r c (entry.Commit e due) are = are
step_within r c (entry.Upkeep p v) are = are
step_within r c (entry.Snapshot p v) are = are
step_within r c (entry.Unmade p v f) are = are
step_within r c (entry.Untaken p v) are = are
step_within r c (entry.Drop q) are = are
step_within r c (entry.Undropped q) are = are
step_within r c (entry.Stop f) are = are

pub run_within : (tells : Type 0) (job : Job) (r : Scope) (next : Cuts → ℕ → Bool) (es : List Entry) (a n : State) → Leads tells job r next a es n → AreWithin r.available a.core.ends → AreWithin r.available n.core.ends
run_within tells job r next [] a n l are = subst (λ (x : State). AreWithin r.available x.core.ends) l are
run_within tells job r next (e ∷ es) a n l are =
    run_within tells job r next es l.0 n l.2 (subst (λ (c : Core). AreWithin r.available c.ends) (sym l.1.core) (step_within r a.core e are))

-- as many epochs are planned as there are plans
pub planned_first : (committed plans : ℕ) (b : Bool) → nat_lt committed plans ≡ b → committed ≤ plans → plans ≤ committed + 1 → planned_by b committed ≡ plans
planned_first committed plans true is before near = grind (arith, is, before, near, rules)
planned_first committed plans false is before near = grind (arith, is, before, near, rules)
