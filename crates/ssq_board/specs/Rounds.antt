-- What is left of a round, and what each turn of it does on one thread.
use Rattle.std.specs.Prelude.{◌≡◌, ◌⊎◌, ◌+◌, ◌-◌, ◌*◌, ◌<◌, ◌&&◌, not, ℕ, zero, suc, Bool, true, false, List, [], ◌∷◌, length, Option, Some, None, if◌then◌else◌}
use Rattle.std.specs.List.{list_all, list_any}
use Rattle.ssq_outside.specs.declared.gate.TaskId.{TaskId}
use Rattle.ssq_outside.specs.declared.gate.Kind.{Kind}
use Rattle.ssq_outside.specs.declared.gate.Kind.TheVariants as kind
use Rattle.ssq_core.specs.Course.{Ends}
use Rattle.ssq_board.specs.declared.front.Cause.{Cause}
use Rattle.ssq_board.specs.declared.front.Place.{Place}
use Rattle.ssq_board.specs.declared.front.Place.TheVariants as place
use Rattle.ssq_board.specs.declared.front.Entry.{Entry}
use Rattle.ssq_board.specs.declared.front.Entry.TheVariants as entry
use Rattle.ssq_board.specs.Core.{Scope, Core, May, after_all, is_stopped, is_open, is_waiting, is_fine, tasks_of, need}

-- these entries came, or the desk is stopped
abbrev pub Comes : Scope → Core → Core → List Entry → Type 0
Comes r c n es = (n ≡ after_all r c es) ⊎ (is_stopped n.front.stop ≡ true)

-- an epoch may take lines
abbrev pub HasCap : Option ℕ → Type 0
HasCap None = Unit {0}
HasCap (Some most) = 0 < most

-- All entries of an epoch but plans and syncs spend of the room that was taken for it, and so does a Stop. What upkeep does has room of its
-- own.
abbrev pub spends : Entry → Bool
spends (entry.Claim t) = true
spends (entry.Report t f) = true
spends (entry.Version t) = true
spends (entry.Missed t) = true
spends (entry.OutFile e) = true
spends (entry.Commit e due) = true
spends (entry.Stop f) = true
spends _ = false

-- A task was claimed, and its result is back; the rows of an out task without a fault are published.
abbrev pub brings_rows : Kind → Option Cause → Bool
brings_rows kind.Out None = true
brings_rows _ f = false

abbrev pub works : TaskId → Option Cause → ℕ → List Entry
works t f e = entry.Claim t ∷ entry.Report t f ∷ (if brings_rows t.kind f then entry.OutFile e ∷ [] else [])

abbrev pub Worked : Scope → Core → Core → Type 0
Worked r c n = (t : TaskId) × (f : Option Cause) × May r c (entry.Claim t) × Comes r c n (works t f c.front.committed)

-- A reduce task was claimed, and its version is back.
abbrev pub Versioned : Scope → Core → Core → Type 0
Versioned r c n = (t : TaskId) × (t.kind ≡ kind.Reduce) × May r c (entry.Claim t) × Comes r c n (entry.Claim t ∷ entry.Version t ∷ [])

-- how many lines no plan covers
abbrev pub lines_left : Ends → List ℕ → ℕ
lines_left [] found = 0
lines_left (e ∷ es) [] = 0
lines_left (e ∷ es) (s ∷ ss) = (s - e.end) + lines_left es ss

abbrev pub one_if : Bool → ℕ
one_if true = 1
one_if false = 0

-- so many times a number
abbrev pub weigh : ℕ → ℕ → ℕ
weigh w zero = 0
weigh w (suc n) = w + weigh w n

-- How many epochs can still be planned, at most: one with lines and one without for each line, what is due, and what may be due after
-- the epoch that runs.
abbrev pub epochs_left : Scope → Core → ℕ
epochs_left r c = 2 * lines_left c.ends r.available + one_if c.front.due + one_if (is_open c && c.front.has_lines)

-- an epoch's entries weigh less than an epoch
abbrev pub weight : Scope → ℕ
weight r = 4 * (length r.available + r.partitions) + 15

-- what is left to do
abbrev pub left : Scope → Core → ℕ
left r c = if is_stopped c.front.stop then 0 else 1 + (weigh (weight r) (epochs_left r c) + 2 * need c + one_if (not c.front.settled) + one_if (is_open c && not c.front.fresh))

-- Between two turns on one thread: nobody has a task, and the rows of an out task that brought them are published.
abbrev pub is_away : Place → Bool
is_away place.Away = true
is_away _ = false

pub record IsAtRest (c : Core) : Type 0 where
  pub here : (k : Kind) → list_any is_away (tasks_of k c) ≡ false
  pub outs : is_open c ≡ true → c.front.stop ≡ None → (c.outs ≡ place.Waits ∷ []) ⊎ (c.front.written ≡ true)

-- Where a task may be handed out, it is the first that waits of the first kind of which one waits.
pub record WaitsFor (c : Core) : Type 0 where
  pub running : c.front.stop ≡ None
  pub opened : is_open c ≡ true
  pub fresh : c.front.fresh ≡ true
  pub first : (list_any is_waiting c.maps ≡ true) ⊎ ((list_any is_waiting c.maps ≡ false) × (list_all is_fine c.maps ≡ true)
      × ((list_any is_waiting c.reduces ≡ true) ⊎ ((list_any is_waiting c.reduces ≡ false) × (list_all is_fine c.reduces ≡ true) × (list_any is_waiting c.outs ≡ true))))
