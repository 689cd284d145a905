use Rattle.std.proofs.Common.{◌≡◌, [], ◌∷◌, ℕ, Option, Some, None, Result, Ok, Err, inr, sym, ap, ◌∙◌, subst, arith}
use Rattle.ssq_outside.specs.declared.name.Name.{Name}
use Rattle.ssq_outside.specs.History.{files_now}
use Rattle.ssq_board.specs.declared.front.Cause.{Cause}
use Rattle.ssq_board.specs.declared.front.Entry.TheVariants as entry
use Rattle.ssq_board.specs.Shelf.{there_in}
use Rattle.ssq_ledger.specs.Shown.{Shown, did, shelf_of}
use Rattle.ssq_ledger.specs.Upkept.{IsClaimed, NoneIsDue}
use Rattle.ssq_desk.specs.declared.round.Round.{Round}
use Rattle.ssq_desk.specs.declared.upkeep.UpkeepTask.{UpkeepTask}
use Rattle.ssq_desk.specs.Contents.{keeping_in}
use Rattle.ssq_desk.specs.Round.{Owns, setting_of}
use Rattle.ssq_desk.specs.Upkeep.{AreReadFor, IsHandedOut, IsMissing, IsNextDue, IsUnread}
use Rattle.ssq_desk.specs.Whole.{IsWhole, opening_in}
use Rattle.ssq_desk.proofs.Entries.{fails_outside}
use Rattle.ssq_desk.proofs.Upkeeps.{IsUnderway, back_fails, back_is, back_whole, few_keep, handed_claimed, handed_is, handed_next, handed_task, handed_whole, keeping_is, read_before, unclaimed_whole}
use Rattle.ssq_desk.proofs.desk.Desk.claim_upkeep.Given.{Over}
use Rattle.ssq_desk.proofs.desk.Desk.claim_upkeep.Goals as goal
use Rattle.ssq_desk.proofs.desk.Desk.claim_upkeep.Goals.{After-begin}

-- a file that the snapshot needs is not there, of this desk
abbrev missing_in : (g : Over) → Shown g.row.D.Denot (Round g.row.L.Denot) → ℕ → ℕ → Name → Type 0
missing_in g x p v = IsMissing g.D.Disk.tells (Owns g.D.Disk.tells g.L.Log.tells g.D.Disk.history g.L.Log.lines x) (files_now (g.D.Disk.history x.disk)) p v (there_in (shelf_of (opening_in g.L.Log.lines) x))

-- what is answered, by the desk before
abbrev handed_by : (g : Over) → Result (Option (UpkeepTask g.row.D-Stage.Denot)) Cause → Shown g.row.D.Denot (Round g.row.L.Denot) → Shown g.row.D.Denot (Round g.row.L.Denot) → Type 0
handed_by g result new x = IsHandedOut (opening_in g.L.Log.lines) (keeping_in (setting_of g.L.Log.lines x.opening)) (missing_in g x) (g.D.Disk.faults x.disk) (g.D.Disk.faults new.disk) x new result

-- the desk runs
runs : (g : Over) {x y : Shown g.row.D.Denot (Round g.row.L.Denot)} → x ≡ y → y.core.front.stop ≡ None → x.core.front.stop ≡ None
runs g same running = ap (λ (x : Shown g.row.D.Denot (Round g.row.L.Denot)). x.core.front.stop) same ∙ running

-- the snapshot is under way
way_of : (g : Over) (c : After-begin g)
    → IsUnderway g.D.Disk.tells g.L.Log.tells g.D.Disk.history g.L.Log.lines g.L.Log.available g.L.Log.answers g.L.Log.faults g.D.Stage.Stage.written g.D.Stage.Stage.sealed c.self.inside.ledger c.self.inside.load c.count_of-keeping.result c.claim_upkeep.new.self c.in-Some.partition c.in-Some.version c.begin.new.ledger
way_of g c = record {
  whole = c.self.invariant;
  shelf = c.is_legal.ensures.shelf;
  keeps = keeping_is _ _ _ _ _ _ _ _ _ _ _ c.self.invariant c.count_of-keeping.result c.as_slice.result.now c.count_of-keeping.ensures c.as_slice.ensures.value;
  claimed = subst (λ (o : Option (ℕ × ℕ)). IsClaimed (opening_in g.L.Log.lines) c.count_of-keeping.result c.self.inside.ledger c.claim_upkeep.new.self (Ok o)) c.in-Some.is c.in_ok-claimed.ensures;
  begun = c.begin.ensures.did;
}

pub count_of-keeping-requires : goal.count_of-keeping-requires
count_of-keeping-requires g c = few_keep _ _ _ _ _ _ _ _ _ _ _ c.self.invariant c.as_slice.result.now c.as_slice.ensures.value

pub claim_upkeep-requires-clause-running : goal.claim_upkeep-requires-clause-running
claim_upkeep-requires-clause-running g c = runs g c.self.view_is c.requires.running

pub claim_upkeep-requires-clause-keeping : goal.claim_upkeep-requires-clause-keeping
claim_upkeep-requires-clause-keeping g c = (let same = keeping_is _ _ _ _ _ _ _ _ _ _ _ c.self.invariant c.count_of-keeping.result c.as_slice.result.now c.count_of-keeping.ensures c.as_slice.ensures.value in λ t. omega (arith, same))

pub report_unmade-requires-clause-claimed : goal.report_unmade-requires-clause-claimed
report_unmade-requires-clause-claimed g c = handed_claimed (way_of g (goal.at.report_unmade-requires-clause-claimed g c).After-begin)

pub report_unmade-requires-clause-outside : goal.report_unmade-requires-clause-outside
report_unmade-requires-clause-outside g c =
    fails_outside (IsUnread g.D.Disk.tells (files_now (g.D.Disk.history c.claim_upkeep.new.self.disk)) c.in-Some.partition c.in-Some.version (there_in (shelf_of (opening_in g.L.Log.lines) c.claim_upkeep.new.self))) (g.D.Disk.faults c.claim_upkeep.new.self.disk) (g.D.Disk.faults c.begin.new.ledger.disk) c.in-Err.cause c.in-Err.ensures.cause

-- memory ran out
pub invariant_of-self : goal.invariant_of-self
invariant_of-self g c = unclaimed_whole _ _ _ _ _ _ _ _ _ _ _ c.self.invariant c.count_of-keeping.result c.claim_upkeep.new.self c.in_err-claimed.field-0.0 c.in_err-claimed.ensures

-- none is due
pub invariant_of-self-in_default : goal.invariant_of-self-in_default
invariant_of-self-in_default g c =
    let s = c.self.inside in
    let none = subst (λ (o : Option (ℕ × ℕ)). IsClaimed (opening_in g.L.Log.lines) c.count_of-keeping.result s.ledger c.claim_upkeep.new.self (Ok o)) c.in_default.is c.in_ok-claimed.ensures in
    subst (λ (x : Shown g.row.D.Denot (Round g.row.L.Denot)). IsWhole g.D.Disk.tells g.L.Log.tells g.D.Disk.history g.L.Log.lines g.L.Log.available g.L.Log.answers g.L.Log.faults g.D.Stage.Stage.written g.D.Stage.Stage.sealed x s.load) (sym none.0) c.self.invariant

pub returns-in_default-clause-handed : goal.returns-in_default-clause-handed
returns-in_default-clause-handed g c =
    let s = c.self.inside in
    let none = subst (λ (o : Option (ℕ × ℕ)). IsClaimed (opening_in g.L.Log.lines) c.count_of-keeping.result s.ledger c.claim_upkeep.new.self (Ok o)) c.in_default.is c.in_ok-claimed.ensures in
    let keeps = keeping_is _ _ _ _ _ _ _ _ _ _ _ c.self.invariant c.count_of-keeping.result c.as_slice.result.now c.count_of-keeping.ensures c.as_slice.ensures.value in
    subst (handed_by g (Ok None) c.claim_upkeep.new.self) c.self.view_is
    (none.0, subst (λ (n : ℕ). NoneIsDue n s.ledger.core (shelf_of (opening_in g.L.Log.lines) s.ledger)) keeps none.1)

-- it is handed out
pub invariant_of-self-in-Ok : goal.invariant_of-self-in-Ok
invariant_of-self-in-Ok g c = handed_whole (way_of g (goal.at.invariant_of-self-in-Ok g c).After-begin)

pub returns-in-Ok-clause-handed : goal.returns-in-Ok-clause-handed
returns-in-Ok-clause-handed g c =
    let s = c.self.inside in
    let now = c.begin.new.ledger in
    let task = c.in-Ok.task in
    let of = c.in-Ok.ensures.of in
    let way = way_of g (goal.at.returns-in-Ok-clause-handed g c).After-begin in
    let P : ℕ → ℕ → Type 0 = λ a b. (now ≡ did s.ledger now.disk (entry.Upkeep a b ∷ [])) × IsNextDue (opening_in g.L.Log.lines) (keeping_in (setting_of g.L.Log.lines s.ledger.opening)) s.ledger a b in
    subst (handed_by g (Ok (Some task)) now) c.self.view_is (subst (P task.partition) (sym of.1) (subst (λ (a : ℕ). P a c.in-Some.version) (sym of.0) (handed_is way, handed_next way)))

pub returns-in-Ok-clause-task : goal.returns-in-Ok-clause-task
returns-in-Ok-clause-task g c =
    handed_task (way_of g (goal.at.returns-in-Ok-clause-task g c).After-begin) c.tasks_have_terms.ensures.terms c.round_begins_as_found.ensures.opens c.job_is_wanted.ensures.states c.is_legal.ensures.here (runs g c.self.view_is c.requires.running)
    c.sealed_files_are_true.ensures.between c.loading_is_exact.ensures.made g.D.Stage.Stage.faults c.in-Ok.task c.in-Ok.ensures.of.0 c.in-Ok.ensures.of.1 c.in-Ok.ensures.read c.in-Ok.ensures.empty c.in-Ok.ensures.fresh

pub returns-in-Ok-clause-read : goal.returns-in-Ok-clause-read
returns-in-Ok-clause-read g c =
    subst (λ (x : Shown g.row.D.Denot (Round g.row.L.Denot)). AreReadFor g.D.Disk.tells (files_now (g.D.Disk.history x.disk)) (there_in (shelf_of (opening_in g.L.Log.lines) x)) c.in-Ok.task) c.self.view_is
    (read_before (way_of g (goal.at.returns-in-Ok-clause-read g c).After-begin) c.in-Ok.task c.in-Ok.ensures.read)

-- it came back at once
pub invariant_of-self-in-Err : goal.invariant_of-self-in-Err
invariant_of-self-in-Err g c =
    let last = c.report_unmade.new.self in
    let way = way_of g (goal.at.invariant_of-self-in-Err g c).After-begin in
    let fails = back_fails way c.tasks_have_terms.ensures.terms c.round_begins_as_found.ensures.opens c.job_is_wanted.ensures.states c.is_legal.ensures.here (runs g c.self.view_is c.requires.running) g.D.Disk.faults last c.in-Err.cause c.in-Err.ensures.cause c.report_unmade.ensures in
    back_whole way last c.in-Err.cause (g.D.Disk.faults c.self.inside.ledger.disk) (g.D.Disk.faults last.disk) fails c.report_unmade.ensures

pub returns-in-Err-clause-handed : goal.returns-in-Err-clause-handed
returns-in-Err-clause-handed g c =
    let last = c.report_unmade.new.self in
    let way = way_of g (goal.at.returns-in-Err-clause-handed g c).After-begin in
    let fails = back_fails way c.tasks_have_terms.ensures.terms c.round_begins_as_found.ensures.opens c.job_is_wanted.ensures.states c.is_legal.ensures.here (runs g c.self.view_is c.requires.running) g.D.Disk.faults last c.in-Err.cause c.in-Err.ensures.cause c.report_unmade.ensures in
    subst (handed_by g (Err c.in-Err.cause) last) c.self.view_is (inr (c.in-Some.partition, c.in-Some.version, handed_next way, back_is way last c.in-Err.cause c.report_unmade.ensures, fails))
