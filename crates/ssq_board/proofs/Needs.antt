-- How many entries can still come, after each entry.
use Rattle.std.proofs.Common.{◌≡◌, ◌+◌, ◌*◌, ◌≤◌, nat_lt, ℕ, zero, suc, Bool, true, false, true≢false, List, [], ◌∷◌, length, set, Option, Some, None, if◌then◌else◌, sym, ap, ◌∙◌, arith, le-ltb}
use mathlib.Core.Option.{some, some-injective, some-ne-none}
use lib.ListN.{get_elem?}
use Rattle.ssq_outside.specs.declared.gate.TaskId.{TaskId}
use Rattle.ssq_outside.specs.declared.gate.Kind.{Kind}
use Rattle.ssq_outside.specs.declared.gate.Kind.TheVariants as kind
use Rattle.ssq_board.specs.declared.front.Cause.{Cause}
use Rattle.ssq_board.specs.declared.front.Cause.TheVariants as cause
use Rattle.ssq_board.specs.declared.front.Place.{Place}
use Rattle.ssq_board.specs.declared.front.Place.TheVariants as place
use Rattle.ssq_board.specs.declared.front.Entry.{Entry}
use Rattle.ssq_board.specs.declared.front.Entry.TheVariants as entry
use Rattle.ssq_board.specs.Core.{Scope, Core, total, need_of, file_need, stop_need, need, is_open, at, moved, with_front, with_tasks, tasks_of, stopped_front, or_stop, due, May, after}
use Rattle.ssq_board.specs.Shown.{IsSound}
use Rattle.ssq_board.specs.Rounds.{spends}

total_set : {A : Type 0} (g : A → ℕ) (l : List A) (j : ℕ) (v w : A) → get_elem? l j ≡ some v → total g (set l j w) + g v ≡ total g l + g w
total_set g [] j v w e = absurd (some-ne-none v (sym e))
total_set g (x ∷ xs) zero v w e = omega (arith, ap g (some-injective x v e))
total_set g (x ∷ xs) (suc j) v w e = omega (arith, total_set g xs j v w e)

need_few : (p : Place) → need_of p ≤ 2
need_few place.Rests = omega arith
need_few place.Waits = omega arith
need_few place.Away = omega arith
need_few (place.Back f) = omega arith

total_few : (l : List Place) → total need_of l ≤ 2 * length l
total_few [] = omega arith
total_few (p ∷ ps) = omega (arith, need_few p, total_few ps)

file_few : (open_ written : Bool) → (if open_ then (if written then 1 else 2) else 0) ≤ 2
file_few false w = omega arith
file_few true true = omega arith
file_few true false = omega arith

stop_few : (o : Option Cause) → stop_need o ≤ 1
stop_few None = omega arith
stop_few (Some f) = omega arith

pub need_bound : (c : Core) → need c ≤ 2 * (length c.maps + length c.reduces + length c.outs) + 3
need_bound c = omega (arith, total_few c.maps, total_few c.reduces, total_few c.outs, file_few (nat_lt c.front.committed c.front.planned) c.front.written, stop_few c.front.stop)

-- a task that moves changes it by the need of its two places, and a Stop by its own
pub need_moved : (c : Core) (t : TaskId) (q p : Place) (o : Option Cause) → at c t ≡ some q → need (with_front (moved c t p) (stopped_front c.front o)) + need_of q + stop_need c.front.stop ≡ need c + need_of p + stop_need o
need_moved c t q p o here = by t.kind here
  where
    by : (k : Kind) → get_elem? (tasks_of k c) t.number ≡ some q
        → need (with_front (with_tasks k c (set (tasks_of k c) t.number p)) (stopped_front c.front o)) + need_of q + stop_need c.front.stop ≡ need c + need_of p + stop_need o
    by kind.Map e = omega (arith, total_set need_of c.maps t.number q p e)
    by kind.Reduce e = omega (arith, total_set need_of c.reduces t.number q p e)
    by kind.Out e = omega (arith, total_set need_of c.outs t.number q p e)
    by kind.Upkeep e = absurd (some-ne-none q (sym e))

pub stop_less : (a b : Option Cause) → stop_need (or_stop a b) ≤ stop_need a
stop_less None b = stop_few b
stop_less (Some f) b = omega arith

pub need_claim : (r : Scope) (c : Core) (t : TaskId) → at c t ≡ some place.Waits → need (after r c (entry.Claim t)) + 1 ≡ need c
need_claim r c t here = (let a = need_moved c t place.Waits place.Away c.front.stop here in omega arith)

pub need_report : (r : Scope) (c : Core) (t : TaskId) (f : Option Cause) → at c t ≡ some place.Away → need (after r c (entry.Report t f)) + 1 ≤ need c
need_report r c t f here = (let a = need_moved c t place.Away (place.Back f) (or_stop c.front.stop (due c t f)) here in let b = stop_less c.front.stop (due c t f) in omega arith)

-- a version spends as a report does
pub need_version : (r : Scope) (c : Core) (t : TaskId) → at c t ≡ some place.Away → need (after r c (entry.Version t)) + 1 ≤ need c
need_version r c t here = need_report r c t None here

pub need_missed : (r : Scope) (c : Core) (t : TaskId) → at c t ≡ some place.Away → need (after r c (entry.Missed t)) + 1 ≤ need c
need_missed r c t here = (let a = need_moved c t place.Away (place.Back (Some cause.DiskFault)) (Some cause.DiskFault) here in omega arith)

open_is : (c : Core) → is_open c ≡ true → file_need c ≡ (if c.front.written then 1 else 2)
open_is c e = ap (λ b. if b then (if c.front.written then 1 else 2) else 0) e

running_one : (c : Core) → c.front.stop ≡ None → stop_need c.front.stop ≡ 1
running_one c e = ap stop_need e

pub need_falls : (r : Scope) (c : Core) (e : Entry) → IsSound r c → May r c e → spends e ≡ true → need (after r c e) + 1 ≤ need c
need_falls r c (entry.Plan e) d m h = absurd (true≢false (sym h))
need_falls r c (entry.Sync clock) d m h = absurd (true≢false (sym h))
need_falls r c (entry.Claim t) d m h = (let a = need_claim r c t m.4 in omega arith)
need_falls r c (entry.Report t f) d m h = need_report r c t f m.2
need_falls r c (entry.Version t) d m h = need_version r c t m.2
need_falls r c (entry.Missed t) d m h = need_missed r c t m.2
need_falls r c (entry.OutFile e) d m h =
    let two : file_need c ≡ 2 = open_is c m.2 ∙ ap (λ (b : Bool). if b then 1 else 2) m.3 in
    let one : file_need (after r c (entry.OutFile e)) ≡ 1 = open_is (after r c (entry.OutFile e)) m.2 in
    let run = running_one c m.0 in
    omega arith
need_falls r c (entry.Commit e b) d m h =
    let one : file_need c ≡ 1 = open_is c m.2 ∙ ap (λ (b : Bool). if b then 1 else 2) m.4 in
    let none : file_need (after r c (entry.Commit e b)) ≡ 0 = ap (λ (b : Bool). if b then (if c.front.written then 1 else 2) else 0) (le-ltb (c.front.committed + 1) c.front.planned d.near) in
    let run = running_one c m.0 in
    omega arith
need_falls r c (entry.Upkeep p v) d m h = absurd (true≢false (sym h))
need_falls r c (entry.Snapshot p v) d m h = absurd (true≢false (sym h))
need_falls r c (entry.Unmade p v f) d m h = absurd (true≢false (sym h))
need_falls r c (entry.Untaken p v) d m h = absurd (true≢false (sym h))
need_falls r c (entry.Drop q) d m h = absurd (true≢false (sym h))
need_falls r c (entry.Undropped q) d m h = absurd (true≢false (sym h))
need_falls r c (entry.Stop f) d m h = (let run = running_one c m.0 in omega arith)

pub need_sync : (r : Scope) (c : Core) (clock : ℕ) → c.front.stop ≡ None → need (after r c (entry.Sync clock)) ≡ need c
need_sync r c clock m = (let run = running_one c m in omega arith)

-- after a plan there is need for its tasks
pub need_plan : (r : Scope) (c : Core) → IsSound r c → need c ≤ 2 * (length r.available + r.partitions) + 5
need_plan r c d = omega (arith, need_bound c, d.maps, d.reduces, d.outs)
