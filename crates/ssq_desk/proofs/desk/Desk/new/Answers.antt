use Rattle.std.proofs.Common.{◌≡◌, ◌≤◌, ◌<◌, ℕ, List, Option, true, length, refl, sym, ap, ◌∙◌, subst}
use Rattle.std.specs.Prelude.{vec_capacity}
use Rattle.std.specs.Global.{Vec}
use Rattle.std.specs.Vec.{with_items}
use Rattle.ssq_course.specs.Setting.{job_of}
use Rattle.ssq_meaning.specs.declared.fed_row.View.{View}
use Rattle.ssq_open.specs.declared.wanted.Opened.{Opened}
use Rattle.ssq_board.specs.Core.{Scope}
use Rattle.ssq_board.specs.Shelf.{first_shelf}
use Rattle.ssq_board.specs.Shown.{Start, IsStart}
use Rattle.ssq_board.specs.Follows.{Terms}
use Rattle.ssq_store.specs.declared.store.Store.{Store}
use Rattle.ssq_task.specs.declared.partition.Held.{Held}
use Rattle.ssq_terms.specs.Laws.{due_at}
use Rattle.ssq_ledger.specs.Shown.{Shown}
use Rattle.ssq_desk.specs.declared.desk.Share.{Share}
use Rattle.ssq_desk.specs.declared.round.Round.{Round}
use Rattle.ssq_desk.specs.Round.{OwnsRound, setting_of}
use Rattle.ssq_desk.specs.First.{part_logs_of, held_of, IsMadeOf, BeginsAs, BeginsWork, first_shown}
use Rattle.ssq_desk.specs.Whole.{IsWhole, opening_in}
use Rattle.ssq_desk.proofs.Beginnings.{few_parts, few_planned, lines_below, terms, tells_plans}
use Rattle.ssq_desk.proofs.Beginnings.{start_is as begins_well}
use Rattle.ssq_desk.proofs.Began.{start_is, each_part, each_end, load_of, opens}
use Rattle.ssq_desk.proofs.desk.Desk.new.Given.{Over}
use Rattle.ssq_desk.proofs.desk.Desk.new.Goals as goal
use Rattle.ssq_desk.proofs.desk.Desk.new.Goals.{After-into_vec-3, In-Ok}

-- the round that begins
abbrev round_by : (g : Over) → View → Opened → Vec g.row.L.Denot → Round g.row.L.Denot
round_by g view opened logs = record { view = view; opened = opened; logs = logs }

abbrev scope_by : View → Vec ℕ → Option ℕ → Scope
scope_by view found most = record { partitions = view.partitions; available = found.items; cap = most }

made_of : (g : Over) (c : In-Ok g) → IsMadeOf c.args.view.bound.now c.args.view.partitions c.args.opened (length c.args.logs.items) c.in-Ok.made
made_of g c = subst (λ (n : ℕ). IsMadeOf c.args.view.bound.now c.args.view.partitions c.args.opened n c.in-Ok.made) (ap length c.as_slice.ensures.value) c.in-Ok.ensures

-- the start that was made is the round's own
start_made : (g : Over) (c : In-Ok g) → c.in-Ok.made.begun.start ≡ (opening_in g.L.Log.lines (round_by g c.args.view c.args.opened c.args.logs)).start
start_made g c = start_is g.L.Log.lines (round_by g c.args.view c.args.opened c.args.logs) c.requires.round (made_of g c)

-- the desk is whole, whatever came of the files of its tasks
begun : (g : Over) (c : After-into_vec-3 g) → IsMadeOf c.args.view.bound.now c.args.view.partitions c.args.opened (length c.args.logs.items) c.in-Ok.made
    → BeginsAs (g.D.Disk.faults c.in-Ok-new.ledger.disk) (g.D.Disk.faults c.begin_out-out.new.ledger.disk) (first_shown g.L.Log.lines (round_by g c.args.view c.args.opened c.args.logs) c.args.disk (scope_by c.args.view c.args.available c.args.cap)) c.begin_out-out.new.ledger
    × IsWhole g.D.Disk.tells g.L.Log.tells g.D.Disk.history g.L.Log.lines g.L.Log.available g.L.Log.answers g.L.Log.faults g.D.Stage.Stage.written g.D.Stage.Stage.sealed c.begin_out-out.new.ledger
    (load_of (round_by g c.args.view c.args.opened c.args.logs) c.in-Ok.made c.into_vec-3.result c.with_logs-part_logs.result (with_items c.in-Ok.made.room.shares c.begin_out-out.new.shares) c.with_closings-held.result c.begin_out-out.result)
begun g c m =
    let round = round_by g c.args.view c.args.opened c.args.logs in
    let r = scope_by c.args.view c.args.available c.args.cap in
    let held = c.with_closings-held.ensures ∙ ap (λ (stores : List Store). held_of stores c.args.closings.items) c.into_vec-2.ensures in
    let part_logs = c.with_logs-part_logs.ensures ∙ (λ i. part_logs_of (c.as_slice-2.ensures.value i) (c.as_slice-3.ensures.value i) c.args.logs.items) in
    let old_is = c.in-Ok-new.ensures.made ∙ ap (λ (x : Round g.row.L.Denot). first_shown g.L.Log.lines x c.args.disk r) c.of-opening.ensures in
    let planned = sym (ap (λ (x : Start). x.is_planned) (c.start.view_is ∙ start_is g.L.Log.lines round c.requires.round m)) in
    let before = g.D.Disk.faults c.in-Ok-new.ledger.disk in
    let later = g.D.Disk.faults c.begin_out-out.new.ledger.disk in
    let work = subst (λ (olds : List (Share g.row.D-Stage.Denot)). BeginsWork g.D.Disk.tells g.D.Stage.Stage.written c.start.inside.is_planned c.in-Ok.made.room.rows c.in-Ok.made.room.seen c.with_closings-held.result.items olds c.begin_out-out.new.shares before later c.in-Ok-new.ledger c.begin_out-out.new.ledger c.begin_out-out.result) c.deref_mut.ensures.value
    (subst (λ (own : List (Option Held)). BeginsWork g.D.Disk.tells g.D.Stage.Stage.written c.start.inside.is_planned c.in-Ok.made.room.rows c.in-Ok.made.room.seen own c.deref_mut.result.now c.begin_out-out.new.shares before later c.in-Ok-new.ledger c.begin_out-out.new.ledger c.begin_out-out.result) c.as_slice-4.ensures.value c.begin_out-out.ensures.begun) in
    opens g.D.Disk.tells g.L.Log.tells g.D.Disk.history g.L.Log.lines g.L.Log.available g.L.Log.answers g.L.Log.faults g.D.Stage.Stage.written g.D.Stage.Stage.sealed round c.args.disk r c.in-Ok.made c.requires.round m c.requires.long c.into_vec-3.result c.with_logs-part_logs.result c.with_closings-held.result c.args.closings.items c.requires.indexes held
    c.into_vec-3.ensures part_logs c.begin_out-out.new.shares g.D.Disk.tells c.start.inside.is_planned c.in-Ok-new.ledger c.begin_out-out.new.ledger c.begin_out-out.result before later (λ t. t.0) planned old_is work

pub make_first-requires-clause-streams : goal.make_first-requires-clause-streams
make_first-requires-clause-streams g c =
    lines_below _ _ _ c.requires.round

pub new-requires-clause-start : goal.new-requires-clause-start
new-requires-clause-start g c =
    subst (λ (x : Start). IsStart (scope_by c.args.view c.args.available c.args.cap) x) (sym (start_made g (goal.at.new-requires-clause-start g c).In-Ok)) (begins_well _ _ _ c.requires.round)

pub new-requires-clause-opened : goal.new-requires-clause-opened
new-requires-clause-opened g c = start_made g (goal.at.new-requires-clause-opened g c).In-Ok ∙ ap (λ (x : Round g.row.L.Denot). (opening_in g.L.Log.lines x).start) (sym c.of-opening.ensures)

pub new-requires-clause-terms : goal.new-requires-clause-terms
new-requires-clause-terms g c =
    let round = round_by g c.args.view c.args.opened c.args.logs in
    let r = scope_by c.args.view c.args.available c.args.cap in
    subst (λ (x : Round g.row.L.Denot). g.D.Disk.tells × OwnsRound g.L.Log.tells g.L.Log.lines x r (g.D.Disk.history c.args.disk) → Terms (job_of (setting_of g.L.Log.lines x)) r (due_at (setting_of g.L.Log.lines x))) (sym c.of-opening.ensures)
    (terms (g.D.Disk.tells × OwnsRound g.L.Log.tells g.L.Log.lines round r (g.D.Disk.history c.args.disk)) (setting_of g.L.Log.lines round) round.opened r c.requires.round (λ t. t.1.1) c.tasks_have_terms.ensures.terms)

pub new-requires-clause-listed : goal.new-requires-clause-listed
new-requires-clause-listed g c =
    ap (λ (x : Round g.row.L.Denot). first_shelf x.opened.names) c.of-opening.ensures ∙ ap first_shelf (sym c.into_vec.ensures)

pub new-requires-clause-plans : goal.new-requires-clause-plans
new-requires-clause-plans g c =
    tells_plans (setting_of g.L.Log.lines c.of-opening.result.value)

pub with_logs-part_logs-requires-clause-parts : goal.with_logs-part_logs-requires-clause-parts
with_logs-part_logs-requires-clause-parts g c =
    let at = (goal.at.with_logs-part_logs-requires-clause-parts g c).In-Ok in
    ap length c.as_slice-2.ensures.value ∙ each_part g.L.Log.lines (round_by g c.args.view c.args.opened c.args.logs) c.requires.round (made_of g at)

pub with_logs-part_logs-requires-clause-ends : goal.with_logs-part_logs-requires-clause-ends
with_logs-part_logs-requires-clause-ends g c =
    let at = (goal.at.with_logs-part_logs-requires-clause-ends g c).In-Ok in
    ap length c.as_slice-3.ensures.value ∙ each_end g.L.Log.lines (round_by g c.args.view c.args.opened c.args.logs) c.requires.round (made_of g at)

pub with_closings-held-requires-clause-fits : goal.with_closings-held-requires-clause-fits
with_closings-held-requires-clause-fits g c =
    subst (λ (stores : List Store). length stores ≤ vec_capacity c.in-Ok.made.rooms.held) (sym c.into_vec-2.ensures) c.in-Ok.ensures.rooms.held_room

pub invariant_of-result : goal.invariant_of-result
invariant_of-result g c = (let at = goal.at.invariant_of-result g c in (begun g at.After-into_vec-3 (made_of g at.In-Ok)).1)

pub returns-clause-made : goal.returns-clause-made
returns-clause-made g c =
    let at = goal.at.returns-clause-made g c in
    subst (λ (n : ℕ). BeginsAs n (g.D.Disk.faults c.begin_out-out.new.ledger.disk) (first_shown g.L.Log.lines (round_by g c.args.view c.args.opened c.args.logs) c.args.disk (scope_by c.args.view c.args.available c.args.cap)) c.begin_out-out.new.ledger)
    (ap (λ (x : Shown g.row.D.Denot (Round g.row.L.Denot)). g.D.Disk.faults x.disk) c.in-Ok-new.ensures.made) (begun g at.After-into_vec-3 (made_of g at.In-Ok)).0

pub make_first-requires-clause-few : goal.make_first-requires-clause-few
make_first-requires-clause-few g c = few_parts _ _ _ c.requires.round

pub make_first-requires-clause-before : goal.make_first-requires-clause-before
make_first-requires-clause-before g c = c.requires.round.numbers.before

pub make_first-requires-clause-years : goal.make_first-requires-clause-years
make_first-requires-clause-years g c = c.requires.round.numbers.years

pub make_first-requires-clause-delays : goal.make_first-requires-clause-delays
make_first-requires-clause-delays g c = c.requires.round.runs.delays

pub new-requires-clause-numbers : goal.new-requires-clause-numbers
new-requires-clause-numbers g c =
    subst (λ (x : Start). x.is_planned ≡ true → x.committed < 4294967295) (sym (start_made g (goal.at.new-requires-clause-numbers g c).In-Ok)) (few_planned _ _ _ c.requires.round)

pub new-requires-clause-few : goal.new-requires-clause-few
new-requires-clause-few g c = c.requires.round.few_tasks

pub with_logs-part_logs-requires-clause-none : goal.with_logs-part_logs-requires-clause-none
with_logs-part_logs-requires-clause-none g c = c.in-Ok.ensures.rooms.no_part_logs

pub with_logs-part_logs-requires-clause-fits : goal.with_logs-part_logs-requires-clause-fits
with_logs-part_logs-requires-clause-fits g c = (made_of g (goal.at.with_logs-part_logs-requires-clause-fits g c).In-Ok).rooms.part_logs_room

pub with_closings-held-requires-clause-none : goal.with_closings-held-requires-clause-none
with_closings-held-requires-clause-none g c = c.in-Ok.ensures.rooms.no_held

pub with_closings-held-requires-clause-each : goal.with_closings-held-requires-clause-each
with_closings-held-requires-clause-each g c = c.requires.indexes.count ∙ sym (ap length c.into_vec-2.ensures)

pub begin_out-out-requires : goal.begin_out-out-requires
begin_out-out-requires g c = ap (λ (x : Shown g.row.D.Denot (Round g.row.L.Denot)). x.core.front.stop) c.in-Ok-new.ensures.made

pub returns-clause-same : goal.returns-clause-same
returns-clause-same g c = λ tells. c.begin_out-out.ensures.same tells ∙ ap (λ (x : Shown g.row.D.Denot (Round g.row.L.Denot)). g.D.Disk.history x.disk) c.in-Ok-new.ensures.made

pub returns-clause-counted : goal.returns-clause-counted
returns-clause-counted g c =
    subst (λ (n : ℕ). n ≤ g.D.Disk.faults c.begin_out-out.new.ledger.disk) (ap (λ (x : Shown g.row.D.Denot (Round g.row.L.Denot)). g.D.Disk.faults x.disk) c.in-Ok-new.ensures.made) c.begin_out-out.ensures.counted

pub returns-in-Err-clause-back : goal.returns-in-Err-clause-back
returns-in-Err-clause-back g c = (c.in-Err.ensures.back, refl)
