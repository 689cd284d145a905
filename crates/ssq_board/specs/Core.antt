-- The states of a desk, what may come in each, and what each entry does.
use Rattle.std.specs.Prelude.{◌≡◌, ◌<◌, ◌+◌, ◌&&◌, ◌||◌, not, nat_lt, ℕ, zero, suc, Bool, true, false, List, [], ◌∷◌, ◌++◌, Option, Some, None, map, set, if◌then◌else◌}
use Rattle.std.specs.List.{list_all, list_any}
use mathlib.Core.Option.{some}
use mathlib.Core.Option as math
use lib.ListN.{get_elem?}
use Rattle.ssq_outside.specs.declared.gate.TaskId.{TaskId}
use Rattle.ssq_outside.specs.declared.gate.Kind.{Kind}
use Rattle.ssq_outside.specs.declared.gate.Kind.TheVariants as kind
use Rattle.ssq_plans.specs.declared.part.PartEnd.{PartEnd}
use Rattle.ssq_core.specs.declared.event.Event.{Event}
use Rattle.ssq_core.specs.declared.event.Event.TheVariants as event
use Rattle.ssq_core.specs.Course.{Ends, Cuts}
use Rattle.ssq_core.specs.Machine.{upkeep}
use Rattle.ssq_board.specs.declared.front.Cause.{Cause}
use Rattle.ssq_board.specs.declared.front.Cause.TheVariants as cause
use Rattle.ssq_board.specs.declared.front.Place.{Place}
use Rattle.ssq_board.specs.declared.front.Place.TheVariants as place
use Rattle.ssq_board.specs.declared.front.Front.{Front}
use Rattle.ssq_board.specs.declared.front.Ready.{Ready}
use Rattle.ssq_board.specs.declared.front.Ready.TheVariants as ready
use Rattle.ssq_board.specs.declared.front.Entry.{Entry}
use Rattle.ssq_board.specs.declared.front.Entry.TheVariants as entry

-- What a round has before it: how many partitions there are, how many lines each part was found to have, and how many lines of a
-- part an epoch may take.
pub record Scope : Type 0 where
  pub partitions : ℕ
  pub available : List ℕ
  pub cap : Option ℕ

-- What the desk knows: its counts, where the lines of the planned epochs end, and where each task of the epoch that runs is.
pub record Core : Type 0 where
  pub front : Front
  pub ends : Ends
  pub maps : List Place
  pub reduces : List Place
  pub outs : List Place

-- The next cut: each part's end goes on to what was found, but by no more than the cap, and never falls.
abbrev pub within : Option ℕ → ℕ → ℕ → ℕ
within None end found = found
within (Some most) end found = if nat_lt (end + most) found then end + most else found

abbrev pub next_end : Option ℕ → ℕ → ℕ → ℕ
next_end cap end found = if nat_lt end found then within cap end found else end

abbrev pub next_part : Option ℕ → PartEnd → ℕ → PartEnd
next_part cap e found = record { stream = e.stream; part = e.part; end = next_end cap e.end found }

abbrev pub next_ends : Option ℕ → Ends → List ℕ → Ends
next_ends cap [] found = []
next_ends cap (e ∷ es) [] = e ∷ next_ends cap es []
next_ends cap (e ∷ es) (s ∷ ss) = next_part cap e s ∷ next_ends cap es ss

-- some part has lines that no plan covers
abbrev pub is_behind : Ends → List ℕ → Bool
is_behind [] found = false
is_behind (e ∷ es) [] = false
is_behind (e ∷ es) (s ∷ ss) = nat_lt e.end s || is_behind es ss

-- some part has lines between these two cuts
abbrev pub has_line : Ends → Ends → Bool
has_line [] to = false
has_line (f ∷ fs) [] = false
has_line (f ∷ fs) (t ∷ ts) = nat_lt f.end t.end || has_line fs ts

-- the part of this number has
abbrev pub has_line_at : Ends → Ends → ℕ → Bool
has_line_at [] to i = false
has_line_at (f ∷ fs) [] i = false
has_line_at (f ∷ fs) (t ∷ ts) zero = nat_lt f.end t.end
has_line_at (f ∷ fs) (t ∷ ts) (suc i) = has_line_at fs ts i

-- a map task for each part with lines between two cuts
abbrev pub dealt : Ends → Ends → List Place
dealt [] to = []
dealt (f ∷ fs) [] = place.Rests ∷ dealt fs []
dealt (f ∷ fs) (t ∷ ts) = (if nat_lt f.end t.end then place.Waits else place.Rests) ∷ dealt fs ts

abbrev pub is_waiting : Place → Bool
is_waiting place.Waits = true
is_waiting _ = false

-- back with its result, or not there at all
abbrev pub is_fine : Place → Bool
is_fine place.Rests = true
is_fine (place.Back None) = true
is_fine _ = false

-- neither to be claimed nor with a worker
abbrev pub is_here : Place → Bool
is_here place.Waits = false
is_here place.Away = false
is_here _ = true

-- the tasks of a kind: snapshots are not of an epoch
abbrev pub tasks_of : Kind → Core → List Place
tasks_of kind.Map c = c.maps
tasks_of kind.Reduce c = c.reduces
tasks_of kind.Out c = c.outs
tasks_of kind.Upkeep c = []

-- one of two lists, by the kind
abbrev pub if_map : Kind → List Place → List Place → List Place
if_map kind.Map l old = l
if_map _ l old = old

abbrev pub if_reduce : Kind → List Place → List Place → List Place
if_reduce kind.Reduce l old = l
if_reduce _ l old = old

abbrev pub if_out : Kind → List Place → List Place → List Place
if_out kind.Out l old = l
if_out _ l old = old

abbrev pub with_tasks : Kind → Core → List Place → Core
with_tasks k c l = record { front = c.front; ends = c.ends; maps = if_map k l c.maps; reduces = if_reduce k l c.reduces; outs = if_out k l c.outs }

abbrev pub at : Core → TaskId → math.Option Place
at c t = get_elem? (tasks_of t.kind c) t.number

abbrev pub moved : Core → TaskId → Place → Core
moved c t p = with_tasks t.kind c (set (tasks_of t.kind c) t.number p)

abbrev pub with_front : Core → Front → Core
with_front c f = record { front = f; ends = c.ends; maps = c.maps; reduces = c.reduces; outs = c.outs }

abbrev pub is_stopped : Option Cause → Bool
is_stopped None = false
is_stopped (Some f) = true

-- an epoch is planned and not committed
abbrev pub is_open : Core → Bool
is_open c = nat_lt c.front.committed c.front.planned

-- an epoch may be planned: with lines that no plan covers, or without lines where that is due
abbrev pub is_more : Scope → Core → Bool
is_more r c = is_behind c.ends r.available || c.front.due

-- whether tasks of this kind may be claimed
abbrev pub may_start : Core → Kind → Bool
may_start c kind.Map = c.front.fresh
may_start c kind.Reduce = c.front.fresh && list_all is_fine c.maps
may_start c kind.Out = c.front.fresh && (list_all is_fine c.maps && list_all is_fine c.reduces)
may_start c kind.Upkeep = false

-- a cause that is the epoch's own, of a line or of a key: any other comes from outside
abbrev pub is_of_epoch : Cause → Bool
is_of_epoch (cause.BadLine s p o f) = true
is_of_epoch (cause.Overflow s p o) = true
is_of_epoch cause.KeyOverflow = true
is_of_epoch _ = false

-- Of two causes the one that counts: one from outside before the epoch's own, and else the first.
abbrev pub worse_by : Bool → Cause → Cause → Cause
worse_by true first later = if is_of_epoch later then first else later
worse_by false first later = first

abbrev pub worse : Option Cause → Option Cause → Option Cause
worse None later = later
worse (Some first) None = Some first
worse (Some first) (Some later) = Some (worse_by (is_of_epoch first) first later)

abbrev pub fault_at : Place → Option Cause
fault_at (place.Back fault) = fault
fault_at _ = None

-- the cause that counts of those that the tasks of a phase met, in their order
abbrev pub fault_in : List Place → Option Cause
fault_in [] = None
fault_in (p ∷ ps) = worse (fault_at p) (fault_in ps)

-- A phase stops for a cause from outside at once, and for the epoch's own only where none of its tasks is to come.
abbrev pub due_of : Bool → Option Cause → Option Cause
due_of all None = None
due_of all (Some f) = if all || not (is_of_epoch f) then Some f else None

abbrev pub due_stop : List Place → Option Cause
due_stop ps = due_of (list_all is_here ps) (fault_in ps)

-- the first of two causes
abbrev pub or_stop : Option Cause → Option Cause → Option Cause
or_stop None later = later
or_stop (Some f) later = Some f

-- the Stop that the report of a task brings about: none after another
abbrev pub due : Core → TaskId → Option Cause → Option Cause
due c t f = if is_stopped c.front.stop then None else due_stop (set (tasks_of t.kind c) t.number (place.Back f))

-- as many epochs are planned as there may be, and one more is to be
abbrev pub IsFull : Scope → Core → Type 0
IsFull r c = (c.front.planned ≡ 4294967295) × (is_open c ≡ false) × (c.front.settled ≡ true) × (is_more r c ≡ true)

-- What a Stop beside a report has for its cause: the limit of epochs, a call of the disk that failed, or memory that ran out.
abbrev pub HasCause : Scope → Core → Cause → Type 0
HasCause r c cause.Full = IsFull r c
HasCause r c cause.DiskFault = Unit {0}
HasCause r c cause.NoMemory = Unit {0}
HasCause r c _ = ⊥

-- Where its call fails there is an entry of its own, or none: where a task or a snapshot comes back, and where a file is removed.
abbrev pub fails_apart : Entry → Bool
fails_apart (entry.Report t f) = true
fails_apart (entry.Version t) = true
fails_apart (entry.Missed t) = true
fails_apart (entry.Snapshot p v) = true
fails_apart (entry.Unmade p v f) = true
fails_apart (entry.Untaken p v) = true
fails_apart (entry.Drop q) = true
fails_apart (entry.Undropped q) = true
fails_apart _ = false

-- An entry that may come, by what the desk counts and where its tasks are. What upkeep asks of files beside, `MayKeep` says.
abbrev pub May : Scope → Core → Entry → Type 0
May r c (entry.Plan e) = (c.front.stop ≡ None) × (e ≡ c.front.planned) × (is_open c ≡ false) × (c.front.settled ≡ true) × (is_more r c ≡ true) × (e < 4294967295)
May r c (entry.Claim t) = (c.front.stop ≡ None) × (is_open c ≡ true) × (t.epoch ≡ c.front.committed) × (may_start c t.kind ≡ true) × (at c t ≡ some place.Waits)
May r c (entry.Report t f) = (is_open c ≡ true) × (t.epoch ≡ c.front.committed) × (at c t ≡ some place.Away)
May r c (entry.Version t) = (is_open c ≡ true) × (t.epoch ≡ c.front.committed) × (at c t ≡ some place.Away) × (t.kind ≡ kind.Reduce)
May r c (entry.Missed t) = (is_open c ≡ true) × (t.epoch ≡ c.front.committed) × (at c t ≡ some place.Away) × (t.kind ≡ kind.Reduce) × (c.front.stop ≡ None)
May r c (entry.OutFile e) = (c.front.stop ≡ None) × (e ≡ c.front.committed) × (is_open c ≡ true) × (c.front.written ≡ false) × (get_elem? c.outs 0 ≡ some (place.Back None))
May r c (entry.Sync clock) = c.front.stop ≡ None
May r c (entry.Commit e due) = (c.front.stop ≡ None) × (e ≡ c.front.committed) × (is_open c ≡ true) × (c.front.fresh ≡ true) × (c.front.written ≡ true) × (c.front.settled ≡ true)
May r c (entry.Upkeep p v) = c.front.stop ≡ None
May r c (entry.Snapshot p v) = Unit {0}
May r c (entry.Unmade p v f) = is_of_epoch f ≡ false
May r c (entry.Untaken p v) = c.front.stop ≡ None
May r c (entry.Drop q) = c.front.stop ≡ None
May r c (entry.Undropped q) = c.front.stop ≡ None
May r c (entry.Stop f) = (c.front.stop ≡ None) × HasCause r c f

-- the counts after each entry
abbrev pub planned_front : Scope → Core → Front
planned_front r c = record { planned = c.front.planned + 1; committed = c.front.committed; fresh = false; settled = false; written = false; has_lines = is_behind c.ends r.available; due = false; stop = None }

abbrev pub written_front : Front → Front
written_front f = record { planned = f.planned; committed = f.committed; fresh = f.fresh; settled = false; written = true; has_lines = f.has_lines; due = f.due; stop = None }

abbrev pub synced_front : Front → Front
synced_front f = record { planned = f.planned; committed = f.committed; fresh = true; settled = true; written = f.written; has_lines = f.has_lines; due = f.due; stop = None }

-- after an epoch without lines none is due
abbrev pub committed_front : Front → Bool → Front
committed_front f due = record { planned = f.planned; committed = f.committed + 1; fresh = f.fresh; settled = false; written = f.written; has_lines = f.has_lines; due = due && f.has_lines; stop = None }

abbrev pub stopped_front : Front → Option Cause → Front
stopped_front f stop = record { planned = f.planned; committed = f.committed; fresh = f.fresh; settled = f.settled; written = f.written; has_lines = f.has_lines; due = f.due; stop = stop }

-- a version that comes back is a file more, but not after a Stop
abbrev pub version_front : Front → Option Cause → Front
version_front f stop = record {
  planned = f.planned;
  committed = f.committed;
  fresh = f.fresh;
  settled = is_stopped f.stop && f.settled;
  written = f.written;
  has_lines = f.has_lines;
  due = f.due;
  stop = stop;
}

-- what it does to the desk
abbrev pub after : Scope → Core → Entry → Core
after r c (entry.Plan e) = record {
  front = planned_front r c;
  ends = next_ends r.cap c.ends r.available;
  maps = dealt c.ends (next_ends r.cap c.ends r.available);
  reduces = map (λ _. place.Waits) c.reduces;
  outs = place.Waits ∷ [];
}
after r c (entry.Claim t) = moved c t place.Away
after r c (entry.Report t f) = with_front (moved c t (place.Back f)) (stopped_front c.front (or_stop c.front.stop (due c t f)))
after r c (entry.Version t) = with_front (moved c t (place.Back None)) (version_front c.front (or_stop c.front.stop (due c t None)))
after r c (entry.Missed t) = with_front (moved c t (place.Back (Some cause.DiskFault))) (stopped_front c.front (Some cause.DiskFault))
after r c (entry.OutFile e) = with_front c (written_front c.front)
after r c (entry.Sync clock) = with_front c (synced_front c.front)
after r c (entry.Commit e due) = with_front c (committed_front c.front due)
after r c (entry.Upkeep p v) = c
after r c (entry.Snapshot p v) = c
after r c (entry.Unmade p v f) = with_front c (stopped_front c.front (or_stop c.front.stop (Some f)))
after r c (entry.Untaken p v) = with_front c (stopped_front c.front (Some cause.DiskFault))
after r c (entry.Drop q) = c
after r c (entry.Undropped q) = with_front c (stopped_front c.front (Some cause.DiskFault))
after r c (entry.Stop f) = with_front c (stopped_front c.front (Some f))

abbrev pub after_all : Scope → Core → List Entry → Core
after_all r c [] = c
after_all r c (e ∷ es) = after_all r (after r c e) es

-- The events of the machine that an entry stands for: an out task that brings its files has sealed them, and so has a reduce task that
-- brings a version; and a task that comes back brings about the Stop that is due.
abbrev pub seals : Kind → TaskId → Option Cause → List Event
seals kind.Out t None = event.Seal t ∷ []
seals _ t f = []

abbrev pub stops : Option Cause → List Event
stops None = []
stops (Some f) = event.Stop ∷ []

-- the snapshot that came back is published, but not after a Stop
abbrev pub makes : Option Cause → ℕ → ℕ → List Event
makes None p v = event.Snapshot p v ∷ []
makes (Some f) p v = []

-- a cause brings about a Stop, but not after another
abbrev pub stops_by : Option Cause → Cause → Option Cause
stops_by None f = Some f
stops_by (Some g) f = None

abbrev pub events_of : Core → Entry → List Event
events_of c (entry.Plan e) = event.Plan e ∷ []
events_of c (entry.Claim t) = event.Claim t ∷ []
events_of c (entry.Report t f) = seals t.kind t f ++ (event.Report t ∷ stops (due c t f))
events_of c (entry.Version t) = event.Seal t ∷ event.Report t ∷ stops (due c t None)
events_of c (entry.Missed t) = event.Seal t ∷ event.Report t ∷ event.Stop ∷ []
events_of c (entry.OutFile e) = event.OutFile e ∷ []
events_of c (entry.Sync clock) = event.Sync clock ∷ []
events_of c (entry.Commit e due) = event.Commit e ∷ []
events_of c (entry.Upkeep p v) = event.Claim (upkeep p v) ∷ []
events_of c (entry.Snapshot p v) = event.Seal (upkeep p v) ∷ event.Report (upkeep p v) ∷ makes c.front.stop p v
events_of c (entry.Unmade p v f) = event.Report (upkeep p v) ∷ stops (stops_by c.front.stop f)
events_of c (entry.Untaken p v) = event.Seal (upkeep p v) ∷ event.Report (upkeep p v) ∷ event.Stop ∷ []
events_of c (entry.Drop q) = event.Drop q ∷ []
events_of c (entry.Undropped q) = event.Stop ∷ []
events_of c (entry.Stop f) = event.Stop ∷ []

-- the history of the machine
abbrev pub events_all : Scope → Core → List Entry → List Event
events_all r c [] = []
events_all r c (e ∷ es) = events_of c e ++ events_all r (after r c e) es

-- The cuts after an entry: a plan brings the next.
abbrev pub extended : Cuts → ℕ → Ends → Cuts
extended cuts n ends = λ e. if nat_lt n e then ends else cuts e

abbrev pub cuts_by : Scope → Cuts → Core → Entry → Cuts
cuts_by r cuts c (entry.Plan e) = extended cuts c.front.planned (next_ends r.cap c.ends r.available)
cuts_by r cuts c _ = cuts

abbrev pub cuts_all : Scope → Cuts → Core → List Entry → Cuts
cuts_all r cuts c [] = cuts
cuts_all r cuts c (e ∷ es) = cuts_all r (cuts_by r cuts c e) (after r c e) es

-- f of each, added up
abbrev pub total : {A : Type 0} → (A → ℕ) → List A → ℕ
total f [] = 0
total f (x ∷ xs) = f x + total f xs

-- how many entries can still come before the next plan, syncs aside
abbrev pub need_of : Place → ℕ
need_of place.Waits = 2
need_of place.Away = 1
need_of _ = 0

abbrev pub file_need : Core → ℕ
file_need c = if is_open c then (if c.front.written then 1 else 2) else 0

abbrev pub stop_need : Option Cause → ℕ
stop_need None = 1
stop_need (Some f) = 0

abbrev pub need : Core → ℕ
need c = total need_of c.maps + total need_of c.reduces + total need_of c.outs + file_need c + stop_need c.front.stop

-- What is next where an epoch runs.
abbrev pub ready_tasks : Core → Ready
ready_tasks c =
    if not c.front.fresh then ready.Sync
    else if list_any is_waiting c.maps then ready.Task
    else if not (list_all is_fine c.maps) then ready.Idle
    else if list_any is_waiting c.reduces then ready.Task
    else if not (list_all is_fine c.reduces) then ready.Idle
    else if list_any is_waiting c.outs then ready.Task
    else if not c.front.written then ready.Idle
    else if c.front.settled then ready.Commit
    else ready.Sync

-- what is next
abbrev pub ready_of : Scope → Core → Ready
ready_of r c =
    if is_stopped c.front.stop then ready.Stopped
    else if is_open c then ready_tasks c
    else if not c.front.settled then ready.Sync
    else if is_more r c then ready.Plan
    else ready.Over
