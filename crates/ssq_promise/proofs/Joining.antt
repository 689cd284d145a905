-- Rounds as runs, and runs joined.
use Rattle.std.proofs.Common.{◌≡◌, ◌++◌, ◌∷◌, [], ℕ, Bool, List, Option, Some, None, refl, sym, ap, ◌∙◌, subst}
use Rattle.ssq_outside.specs.declared.name.Name.TheVariants as name
use Rattle.ssq_outside.specs.Files.{Files, settled_at}
use Rattle.ssq_outside.specs.History.{History, had_now, files_now}
use Rattle.ssq_core.specs.declared.event.Event.{Event}
use Rattle.ssq_core.specs.declared.event.Event.TheVariants as event
use Rattle.ssq_core.specs.Course.{Cuts, Job}
use Rattle.ssq_core.specs.Settled.{IsSettledAs}
use Rattle.ssq_core.specs.Machine as machine
use Rattle.ssq_core.specs.Machine.{Desk, running, opened, Allows, syncs}
use Rattle.ssq_core.specs.Laws.{acknowledged}
use Rattle.ssq_core.proofs.Settling.{settled_files}
use Rattle.ssq_board.specs.declared.front.Entry.{Entry}
use Rattle.ssq_board.specs.Core.{Scope, Core, events_all}
use Rattle.ssq_board.specs.Shown.{Start, IsSound, first}
use Rattle.ssq_board.specs.Follows.{Terms, State, Leads, Shows, ShowsShelf, shown, life_of}
use Rattle.ssq_board.specs.Told.{acknowledged_of}
use Rattle.ssq_board.proofs.Following.{list_follows}
use Rattle.ssq_board.proofs.Opening.{shows_first, shelf_first}
use Rattle.ssq_board.proofs.Sounds.{first_sound}
use Rattle.ssq_board.proofs.Leading.{elapses_same}
use Rattle.ssq_promise.specs.Run.{closed, WasRun, Begins}

pub assoc : {A : Type 0} (a b c : List A) → (a ++ b) ++ c ≡ a ++ (b ++ c)
assoc [] b c = refl
assoc (x ∷ a) b c = ap (λ l. x ∷ l) (assoc a b c)

-- one list of events after another
pub leads_more : (tells : Type 0) (job : Job) (es fs : List Event) (s mid n : machine.State) → machine.Leads tells job s es mid → machine.Leads tells job mid fs n → machine.Leads tells job s (es ++ fs) n
leads_more tells job [] fs s mid n l more = subst (λ (x : machine.State). machine.Leads tells job x fs n) (sym l) more
leads_more tells job (e ∷ es) fs s mid n l more = (l.0, l.1, leads_more tells job es fs l.0 mid n l.2 more)

-- an end of a call leaves no commit to be acknowledged
ack_end : (es : List Event) (p : Option ℕ) (more : List Event) → acknowledged p (es ++ event.End ∷ more) ≡ acknowledged p es ++ acknowledged None more
ack_end [] p more = refl
ack_end (event.Commit e ∷ es) p more = ack_end es (Some e) more
ack_end (event.Sync clock ∷ es) (Some e) more = ap (λ l. e ∷ l) (ack_end es None more)
ack_end (event.Sync clock ∷ es) None more = ack_end es None more
ack_end (event.Stop ∷ es) p more = ack_end es None more
ack_end (event.End ∷ es) p more = ack_end es None more
ack_end (event.Crash ∷ es) p more = ack_end es None more
ack_end (event.Init ∷ es) p more = ack_end es p more
ack_end (event.Open ∷ es) p more = ack_end es p more
ack_end (event.Plan e ∷ es) p more = ack_end es p more
ack_end (event.Claim t ∷ es) p more = ack_end es p more
ack_end (event.Seal t ∷ es) p more = ack_end es p more
ack_end (event.Report t ∷ es) p more = ack_end es p more
ack_end (event.OutFile e ∷ es) p more = ack_end es p more
ack_end (event.Snapshot p' v ∷ es) p more = ack_end es p more
ack_end (event.Drop q ∷ es) p more = ack_end es p more

-- a disk that is settled is as a sync leaves it
pub still_settled : (disk : History) (files : Files) → IsSettledAs disk files → had_now disk ≡ settled_at (files_now disk)
still_settled disk files settled = settled.is ∙ ap settled_at (sym (settled_files disk files settled))

-- A desk may be opened on files that are settled: that takes no time.
open_step : (tells : Type 0) (job : Job) (disk : History) (files : Files) (d : Desk) → IsSettledAs disk files → opened job files d
    → machine.Step tells job (closed disk) event.Open (record { disk = disk; desk = Some d; life = running })
open_step tells job disk files d settled is =
    let now : opened job (files_now disk) d = subst (λ (f : Files). opened job f d) (sym (settled_files disk files settled)) is in
    (syncs, Some d, (d, refl, refl, now.0.needed name.Meta refl, now, refl, refl), (λ t. (elapses_same disk (Allows syncs (had_now disk)), still_settled disk files settled, tt)), refl)

first_runs : (r : Scope) (st : Start) (c : Core) → c ≡ first r st → c.front.stop ≡ None
first_runs r st c is = ap (λ (x : Core). x.front.stop) is ∙ by st.is_planned
  where
    by : (b : Bool) → (first r st).front.stop ≡ None
    by b = refl

pub shown_first : (r : Scope) (st : Start) (disk : History) (c : Core) (d : Desk) → c ≡ first r st → shown disk c d ≡ record { disk = disk; desk = Some d; life = running }
shown_first r st disk c d is = ap (λ l. record { disk = disk; desk = Some d; life = life_of l }) (first_runs r st c is)

-- the shelf shows the desk that is opened
pub begins_shelf : (job : Job) (r : Scope) (due : Cuts → ℕ → Bool) (terms : Terms job r due) (st : Start) (s : State) (b : Begins job r due terms st s) → ShowsShelf s.core s.shelf b.desk
begins_shelf job r due terms st s b = subst (λ (c : Core). ShowsShelf c s.shelf b.desk) (sym b.core) (shelf_first job r st b.files b.desk s.shelf b.at.committed b.is b.shelf st.is_planned)

pub round_is_run : (tells : Type 0) → tells → (job : Job) (r : Scope) (due : Cuts → ℕ → Bool) (terms : Terms job r due) (st : Start) (es : List Entry) (s n : State) → Begins job r due terms st s
    → Leads tells job r due s es n → WasRun tells job s.disk n.disk (acknowledged_of r st es)
round_is_run tells t job r due terms st es s n b l =
    let shows : Shows job r due terms (first r st) b.desk = shows_first job r due terms st b.files b.desk b.at.committed b.at.begins b.at.from b.is st.is_planned b.at.planned b.at.to b.at.due in
    let here : Shows job r due terms s.core b.desk = subst (λ (x : Core). Shows job r due terms x b.desk) (sym b.core) shows in
    let sound : IsSound r s.core = subst (IsSound r) (sym b.core) (first_sound r st b.at.start) in
    let f = list_follows tells job r due terms t es s n b.desk sound (sym b.cuts) here (begins_shelf job r due terms st s b) l in
    let evs = events_all r s.core es in
    let begun : machine.Leads tells job (record { disk = s.disk; desk = Some b.desk; life = running }) evs (shown n.disk n.core f.0) = subst (λ (x : machine.State). machine.Leads tells job x evs (shown n.disk n.core f.0)) (shown_first r st s.disk s.core b.desk b.core) f.1 in
    let ended : machine.Leads tells job (shown n.disk n.core f.0) (event.End ∷ []) (closed n.disk) = (closed n.disk, refl, refl) in
    let all = leads_more tells job evs (event.End ∷ []) (record { disk = s.disk; desk = Some b.desk; life = running }) (shown n.disk n.core f.0) (closed n.disk) begun ended in record {
      events = event.Open ∷ (evs ++ event.End ∷ []);
      leads = (record { disk = s.disk; desk = Some b.desk; life = running }, open_step tells job s.disk b.files b.desk b.settled b.is, all);
      tells_of = λ more. ap (acknowledged None) (assoc evs (event.End ∷ []) more) ∙ ack_end evs None more ∙ ap (λ (c : Core). acknowledged None (events_all r c es) ++ acknowledged None more) b.core;
    }

pub nothing_is_run : (tells : Type 0) (job : Job) (disk : History) → WasRun tells job disk disk []
nothing_is_run tells job disk = record { events = []; leads = refl; tells_of = λ more. refl }

pub runs_are_joined : (tells : Type 0) (job : Job) (start mid now : History) (told more : List ℕ) → WasRun tells job start mid told → WasRun tells job mid now more → WasRun tells job start now (told ++ more)
runs_are_joined tells job start mid now told more a b = record {
  events = a.events ++ b.events;
  leads = leads_more tells job a.events b.events (closed start) (closed mid) (closed now) a.leads b.leads;
  tells_of = λ rest. ap (acknowledged None) (assoc a.events b.events rest) ∙ a.tells_of (b.events ++ rest) ∙ ap (λ l. told ++ l) (b.tells_of rest) ∙ sym (assoc told more (acknowledged None rest));
}
