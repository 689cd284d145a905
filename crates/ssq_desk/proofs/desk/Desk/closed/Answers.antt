use Rattle.std.proofs.Common.{take, ◌≡◌, ◌⊎◌, ◌≤◌, ◌<◌, ◌-◌, ◌^◌, ◌||◌, [], ℕ, length, map, inl, inr, true, false, nat_lt, List, Some, None, sym, ap, ◌∙◌, subst}
use Rattle.std.specs.Prelude.{◌≢◌, All, IsSome, MatchOption, vec_capacity}
use Rattle.std.proofs.lemmas.List.{append-nil}
use Rattle.std.specs.Global.{Vec}
use Rattle.std.specs.List.{list_any, AllZip, sum_by}
use Rattle.ssq_outside.specs.declared.gate.Kind.TheVariants as kind
use Rattle.ssq_plans.specs.Records.{HasLineTime}
use Rattle.ssq_shape.specs.declared.bound.Bound.{Bound}
use Rattle.ssq_feed.specs.Causes.{LogWent}
use Rattle.ssq_task.specs.Committing.{lines_of}
use Rattle.ssq_board.specs.declared.front.Cause.{Cause}
use Rattle.ssq_board.specs.declared.front.Cause.TheVariants as cause
use Rattle.ssq_board.specs.declared.front.Front.{Front}
use Rattle.ssq_board.specs.declared.front.Ready.TheVariants as ready
use Rattle.ssq_board.specs.Core.{ready_of}
use Rattle.ssq_board.specs.Rounds.{is_away}
use Rattle.ssq_board.specs.Shelf.{Shelf, acknowledged_in}
use Rattle.ssq_ledger.specs.Shown.{Shown, cuts_of, shelf_of}
use Rattle.ssq_desk.specs.declared.round.Round.{Round}
use Rattle.ssq_desk.specs.Round.{Owns, setting_of}
use Rattle.ssq_desk.specs.Contents.{IsStopOf, key_in}
use Rattle.ssq_desk.specs.declared.desk.Load.{Load}
use Rattle.ssq_desk.specs.declared.desk.PartLog.{PartLog}
use Rattle.ssq_desk.specs.declared.desk.Share.{Share}
use Rattle.ssq_desk.specs.First.{AreIndexes}
use Rattle.ssq_desk.specs.Whole.{opening_in}
use Rattle.ssq_desk.specs.Closing.{AreTold, IsNext, closings_in, stores_in}
use Rattle.ssq_desk.proofs.Closings.{logs_there, logs_back, faulty_back, told_back, next_back, seen_each}
use Rattle.ssq_desk.proofs.Leaving.{stopped_for}
use Rattle.ssq_desk.proofs.Upkeeps.{shelf_still}
use Rattle.ssq_desk.proofs.desk.Desk.closed.Goals as goal

pub next_if-next-requires-clause-each : goal.next_if-next-requires-clause-each
next_if-next-requires-clause-each g c over =
    let s = c.self.inside in
    subst (λ (l : Load g.row.L.Denot g.row.D-Stage.Denot g.row.D-Stage-Sealed.Denot). length l.seen ≡ length l.view.bound.now.streams) (sym c.drop_files.ensures.kept)
    (seen_each g.D.Disk.tells g.L.Log.tells g.D.Disk.history g.L.Log.lines g.L.Log.available g.L.Log.answers g.L.Log.faults g.D.Stage.Stage.written g.D.Stage.Stage.sealed s.ledger s.load c.self.invariant c.is_legal.ensures.legal c.is_in_order.ensures (sym c.ready.ensures ∙ (c.is_over-is_over.ensures.over over).0))

pub logs_of-requires-clause-there : goal.logs_of-requires-clause-there
logs_of-requires-clause-there g c =
    let s = c.self.inside in
    let none = subst (λ (x : Shown g.row.D.Denot (Round g.row.L.Denot)). list_any is_away x.core.maps ≡ false) (sym c.self.view_is) (c.requires.back kind.Map) in
    subst (λ (l : Load g.row.L.Denot g.row.D-Stage.Denot g.row.D-Stage-Sealed.Denot). All (λ (x : PartLog g.row.L.Denot). IsSome x.log) l.part_logs.items) (sym c.drop_files.ensures.kept)
    (logs_there g.D.Disk.tells g.L.Log.tells g.D.Disk.history g.L.Log.lines g.L.Log.available g.L.Log.answers g.L.Log.faults g.D.Stage.Stage.written g.D.Stage.Stage.sealed s.ledger s.load c.self.invariant c.is_legal.ensures.legal c.is_in_order.ensures none)

pub returns-clause-stopped : goal.returns-clause-stopped
returns-clause-stopped g c =
    let s = c.self.inside in
    subst (λ (x : Shown g.row.D.Denot (Round g.row.L.Denot)). (f : Cause) → x.core.front.stop ≡ Some f → IsStopOf (g.D.Disk.tells × g.L.Log.tells) (Owns g.D.Disk.tells g.L.Log.tells g.D.Disk.history g.L.Log.lines x) (setting_of g.L.Log.lines x.opening) (cuts_of (opening_in g.L.Log.lines) x) x.core.front.committed c.take_key-key.result f) c.self.view_is
    (λ f stopped. stopped_for (g.D.Disk.tells × g.L.Log.tells) (Owns g.D.Disk.tells g.L.Log.tells g.D.Disk.history g.L.Log.lines s.ledger) (setting_of g.L.Log.lines s.ledger.opening) (cuts_of (opening_in g.L.Log.lines) s.ledger) s.ledger.core.front.committed (key_in s.load.shares.items) c.take_key-key.result f
    (λ is. c.take_key-key.ensures.key (ap (λ (front : Front). front.stop) c.front-front.ensures ∙ stopped ∙ ap (λ (f : Cause). Some f) is) ∙ ap (λ (l : List (Share g.row.D-Stage.Denot)). key_in l) c.deref_mut.ensures.value) (c.self.invariant.holds.stop f stopped))

pub returns-clause-no_key : goal.returns-clause-no_key
returns-clause-no_key g c =
    subst (λ (x : Shown g.row.D.Denot (Round g.row.L.Denot)). x.core.front.stop ≢ Some cause.KeyOverflow → c.take_key-key.result ≡ None) c.self.view_is
    (λ other. c.take_key-key.ensures.none (λ is. other (ap (λ (front : Front). front.stop) (sym c.front-front.ensures) ∙ is)))

pub returns-clause-logs : goal.returns-clause-logs
returns-clause-logs g c =
    let s = c.self.inside in
    let none = subst (λ (x : Shown g.row.D.Denot (Round g.row.L.Denot)). list_any is_away x.core.maps ≡ false) (sym c.self.view_is) (c.requires.back kind.Map) in
    subst (λ (x : Shown g.row.D.Denot (Round g.row.L.Denot)). AllZip (LogWent g.L.Log.tells g.L.Log.lines g.L.Log.available g.L.Log.answers g.L.Log.faults) x.opening.logs.items c.logs_of.result.items) c.self.view_is
    (logs_back g.D.Disk.tells g.L.Log.tells g.D.Disk.history g.L.Log.lines g.L.Log.available g.L.Log.answers g.L.Log.faults g.D.Stage.Stage.written g.D.Stage.Stage.sealed s.ledger s.load c.self.invariant c.is_legal.ensures.legal c.is_in_order.ensures none c.logs_of.result.items
    (subst (λ (l : Load g.row.L.Denot g.row.D-Stage.Denot g.row.D-Stage-Sealed.Denot). map (λ (log : g.row.L.Denot). Some log) c.logs_of.result.items ≡ map (λ (x : PartLog g.row.L.Denot). x.log) l.part_logs.items) c.drop_files.ensures.kept c.logs_of.ensures))

pub returns-clause-faulty : goal.returns-clause-faulty
returns-clause-faulty g c =
    let s = c.self.inside in
    subst (λ (x : Shown g.row.D.Denot (Round g.row.L.Denot)). x.core.front.stop ≡ Some cause.LogFault → 0 < sum_by g.L.Log.faults c.logs_of.result.items) c.self.view_is
    (faulty_back g.D.Disk.tells g.L.Log.tells g.D.Disk.history g.L.Log.lines g.L.Log.available g.L.Log.answers g.L.Log.faults g.D.Stage.Stage.written g.D.Stage.Stage.sealed s.ledger s.load c.self.invariant c.is_legal.ensures.legal c.is_in_order.ensures c.logs_of.result.items
    (subst (λ (l : Load g.row.L.Denot g.row.D-Stage.Denot g.row.D-Stage-Sealed.Denot). map (λ (log : g.row.L.Denot). Some log) c.logs_of.result.items ≡ map (λ (x : PartLog g.row.L.Denot). x.log) l.part_logs.items) c.drop_files.ensures.kept c.logs_of.ensures))

pub returns-clause-told : goal.returns-clause-told
returns-clause-told g c =
    let s = c.self.inside in
    let front = c.front-front.ensures in
    subst (λ (x : Shown g.row.D.Denot (Round g.row.L.Denot)). AreTold (Owns g.D.Disk.tells g.L.Log.tells g.D.Disk.history g.L.Log.lines x) (setting_of g.L.Log.lines x.opening) (cuts_of (opening_in g.L.Log.lines) x) x.opening.opened.committed (acknowledged_in x.core) c.acknowledged-told.result.items) c.self.view_is
    (told_back g.D.Disk.tells g.L.Log.tells g.D.Disk.history g.L.Log.lines g.L.Log.available g.L.Log.answers g.L.Log.faults g.D.Stage.Stage.written g.D.Stage.Stage.sealed s.ledger s.load c.self.invariant c.is_legal.ensures.legal c.is_in_order.ensures c.is_told.result c.acknowledged-told.result.items
    ((λ i. nat_lt ((sym front i).committed) ((sym front i).planned) || (sym front i).settled) ∙ sym c.is_told.ensures)
    (subst (λ (l : Load g.row.L.Denot g.row.D-Stage.Denot g.row.D-Stage-Sealed.Denot). c.is_told.result ≡ true → c.acknowledged-told.result.items ≡ l.told.items) c.drop_files.ensures.kept c.acknowledged-told.ensures.all)
    (subst (λ (l : Load g.row.L.Denot g.row.D-Stage.Denot g.row.D-Stage-Sealed.Denot). c.is_told.result ≡ false → c.acknowledged-told.result.items ≡ take (length l.told.items - 1) l.told.items) c.drop_files.ensures.kept c.acknowledged-told.ensures.rest))

pub returns-clause-next : goal.returns-clause-next
returns-clause-next g c =
    let s = c.self.inside in
    let is = subst (λ (l : Load g.row.L.Denot g.row.D-Stage.Denot g.row.D-Stage-Sealed.Denot). MatchOption c.next_if-next.result.0 (c.is_over-is_over.result ≡ false) (λ next. (c.is_over-is_over.result ≡ true)
    × (next.opened ≡ record { meta = l.kept.meta; plans = l.plans.items; committed = s.ledger.core.front.committed; seen = lines_of l.view.bound.now l.seen; stores = stores_in l.held.items; names = c.closed-disk.result.2.items }) × All HasLineTime next.opened.seen × (next.closings.items ≡ closings_in l.held.items))) c.drop_files.ensures.kept
    (subst (λ (f : Front). MatchOption c.next_if-next.result.0 (c.is_over-is_over.result ≡ false) (λ next. (c.is_over-is_over.result ≡ true)
    × (next.opened ≡ record { meta = c.drop_files.new.load.kept.meta; plans = c.drop_files.new.load.plans.items; committed = f.committed; seen = lines_of c.drop_files.new.load.view.bound.now c.drop_files.new.load.seen; stores = stores_in c.drop_files.new.load.held.items; names = c.closed-disk.result.2.items }) × All HasLineTime next.opened.seen × (next.closings.items ≡ closings_in c.drop_files.new.load.held.items))) c.front-front.ensures c.next_if-next.ensures.next) in
    let listed = c.closed-disk.ensures.names ∙ ap (λ (x : Shown g.row.D.Denot (Round g.row.L.Denot)). (shelf_of (opening_in g.L.Log.lines) x).settled) c.drop_files.ensures.did
    ∙ ap (λ (k : Shelf). k.settled) (shelf_still g.L.Log.lines s.ledger c.drop_files.new.ledger.disk) in
    subst (λ (x : Shown g.row.D.Denot (Round g.row.L.Denot)). MatchOption c.next_if-next.result.0 ((ready_of x.scope x.core ≢ ready.Over) ⊎ ((shelf_of (opening_in g.L.Log.lines) x).tidy ≡ false)) (λ next. (ready_of x.scope x.core ≡ ready.Over) × ((shelf_of (opening_in g.L.Log.lines) x).tidy ≡ true)
    × IsNext (Owns g.D.Disk.tells g.L.Log.tells g.D.Disk.history g.L.Log.lines x) (setting_of g.L.Log.lines x.opening) (cuts_of (opening_in g.L.Log.lines) x) x.scope.available x.core (shelf_of (opening_in g.L.Log.lines) x) x.opening.opened next.opened
    × AreIndexes (Unit {0}) x.opening.view.bound.now next.opened.stores next.closings.items)) c.self.view_is
    (next_back g.D.Disk.tells g.L.Log.tells g.D.Disk.history g.L.Log.lines g.L.Log.available g.L.Log.answers g.L.Log.faults g.D.Stage.Stage.written g.D.Stage.Stage.sealed s.ledger s.load c.self.invariant c.is_legal.ensures.legal c.is_in_order.ensures c.next_if-next.result.0 c.is_over-is_over.result c.closed-disk.result.2.items listed is
    (λ over. (let both = c.is_over-is_over.ensures.over over in (sym c.ready.ensures ∙ both.0, sym c.is_tidy.ensures ∙ both.1)))
    (λ other. elim (c.is_over-is_over.ensures.other other) [ inl not_over ↦ inl (λ over. not_over (c.ready.ensures ∙ over)) | inr untidy ↦ inr (sym c.is_tidy.ensures ∙ untidy) ]))

-- there is room for all that comes back
pub next_if-next-requires-clause-no_stores : goal.next_if-next-requires-clause-no_stores
next_if-next-requires-clause-no_stores g c =
    let own = c.self.invariant.kept in
    subst (λ (l : Load g.row.L.Denot g.row.D-Stage.Denot g.row.D-Stage-Sealed.Denot). (l.kept.stores.items ≡ []) × (l.kept.closings.items ≡ [])) (sym c.drop_files.ensures.kept) (own.no_stores, own.no_closings)

pub next_if-next-requires-clause-stores : goal.next_if-next-requires-clause-stores
next_if-next-requires-clause-stores g c =
    let own = c.self.invariant in
    subst (λ (l : Load g.row.L.Denot g.row.D-Stage.Denot g.row.D-Stage-Sealed.Denot). (length l.held.items ≤ vec_capacity l.kept.stores) × (length l.held.items ≤ vec_capacity l.kept.closings)) (sym c.drop_files.ensures.kept) (
      subst (λ (n : ℕ). n ≤ vec_capacity c.self.inside.load.kept.stores) (sym own.holds.keeping) own.kept.stores_room,
      subst (λ (n : ℕ). n ≤ vec_capacity c.self.inside.load.kept.closings) (sym own.holds.keeping) own.kept.closings_room,
    )

pub next_if-next-requires-clause-none : goal.next_if-next-requires-clause-none
next_if-next-requires-clause-none g c = subst (λ (l : Load g.row.L.Denot g.row.D-Stage.Denot g.row.D-Stage-Sealed.Denot). l.kept.lines.items ≡ []) (sym c.drop_files.ensures.kept) c.self.invariant.kept.no_lines

pub next_if-next-requires-clause-fits : goal.next_if-next-requires-clause-fits
next_if-next-requires-clause-fits g c =
    subst (λ (l : Load g.row.L.Denot g.row.D-Stage.Denot g.row.D-Stage-Sealed.Denot). length l.view.bound.now.streams ≤ vec_capacity l.kept.lines) (sym c.drop_files.ensures.kept)
    (subst (λ (b : Bound). length b.streams ≤ vec_capacity c.self.inside.load.kept.lines) (sym c.self.invariant.view.bound) c.self.invariant.kept.lines_room)

pub next_if-next-requires-clause-few : goal.next_if-next-requires-clause-few
next_if-next-requires-clause-few g c =
    subst (λ (l : Load g.row.L.Denot g.row.D-Stage.Denot g.row.D-Stage-Sealed.Denot). length l.view.bound.now.streams ≤ 2 ^ 32) (sym c.drop_files.ensures.kept)
    (subst (λ (b : Bound). length b.streams ≤ 2 ^ 32) (sym c.self.invariant.view.bound) c.self.invariant.round.few_streams)

pub logs_of-requires-clause-none : goal.logs_of-requires-clause-none
logs_of-requires-clause-none g c =
    let room = subst (λ (l : Load g.row.L.Denot g.row.D-Stage.Denot g.row.D-Stage-Sealed.Denot). c.next_if-next.result.1 ≡ l.kept.logs) c.drop_files.ensures.kept c.next_if-next.ensures.room in
    ap (λ (v : Vec g.row.L.Denot). v.items) room ∙ c.self.invariant.kept.no_logs

pub logs_of-requires-clause-fits : goal.logs_of-requires-clause-fits
logs_of-requires-clause-fits g c =
    let own = c.self.invariant in
    subst (λ (v : Vec g.row.L.Denot). length c.drop_files.new.load.part_logs.items ≤ vec_capacity v) (sym c.next_if-next.ensures.room)
    (subst (λ (l : Load g.row.L.Denot g.row.D-Stage.Denot g.row.D-Stage-Sealed.Denot). length l.part_logs.items ≤ vec_capacity l.kept.logs) (sym c.drop_files.ensures.kept)
    (subst (λ (n : ℕ). n ≤ vec_capacity c.self.inside.load.kept.logs) (sym own.holds.parts) own.kept.logs_room))

-- the disk is what it was, but that it may have failed
pub returns-clause-same : goal.returns-clause-same
returns-clause-same g c = λ tells.
    subst (λ (x : Shown g.row.D.Denot (Round g.row.L.Denot)). g.D.Disk.history c.closed-disk.result.0 ≡ g.D.Disk.history x.disk) c.self.view_is
    (ap g.D.Disk.history c.closed-disk.ensures.disk ∙ c.drop_files.ensures.same tells)

pub returns-clause-counted : goal.returns-clause-counted
returns-clause-counted g c =
    subst (λ (x : Shown g.row.D.Denot (Round g.row.L.Denot)). g.D.Disk.faults x.disk ≤ g.D.Disk.faults c.closed-disk.result.0) c.self.view_is
    (subst (λ (d : g.row.D.Denot). g.D.Disk.faults c.self.inside.ledger.disk ≤ g.D.Disk.faults d) (sym c.closed-disk.ensures.disk) c.drop_files.ensures.counted)

pub returns-clause-history : goal.returns-clause-history
returns-clause-history g c =
    c.closed-disk.ensures.history ∙ ap (λ (x : Shown g.row.D.Denot (Round g.row.L.Denot)). x.history) c.drop_files.ensures.did ∙ append-nil c.self.inside.ledger.history
    ∙ ap (λ (x : Shown g.row.D.Denot (Round g.row.L.Denot)). x.history) c.self.view_is
