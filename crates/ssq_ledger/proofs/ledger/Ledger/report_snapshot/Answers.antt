use Rattle.std.proofs.Common.{◌≡◌, ◌≤◌, ◌<◌, ◌++◌, ◌||◌, [], ◌∷◌, true, Some, None, is_some, length, if◌then◌else◌, sym, ap, ◌∙◌, refl, subst, inl, inr, le_refl, arith}
use Rattle.ssq_outside.specs.declared.name.Name.TheVariants as name
use Rattle.ssq_core.specs.Course.{truth}
use Rattle.ssq_upkeep.specs.Upkeep.{is_among}
use Rattle.ssq_board.specs.declared.front.Cause.TheVariants as cause
use Rattle.ssq_board.specs.declared.front.Front.{Front}
use Rattle.ssq_board.specs.declared.front.Entry.TheVariants as entry
use Rattle.ssq_board.specs.Core.{Core, need}
use Rattle.ssq_ledger.specs.Shown.{Shown, cuts_of, cuts_after}
use Rattle.ssq_ledger.proofs.Ledgers.{did_inside, risen_inside}
use Rattle.ssq_ledger.proofs.Moves.{went, tried, snapshot_went, snapshot_kept, none_of}
use Rattle.ssq_ledger.proofs.Shelves.{claimed_inside, claimed_room, is_claimed, one_more, published_are, running_by, stop_most, stopped_by, stops_need, unclaimed_are, unclaimed_both, upkeep_both}
use Rattle.ssq_ledger.proofs.ledger.Ledger.report_snapshot.Goals as goal

pub push_reserved-requires : goal.push_reserved-requires
push_reserved-requires g c = subst (λ n. n < c.self.inside.entries.cap) (sym c.self.inside.entries.ok.0) (claimed_room _ _ _ _ _ _ _ _ c.self.invariant.0 _ _ c.self.invariant.1 _ (claimed_inside g.O.Opening.opening _ _ c.self.view_is _ c.requires.claimed))

pub push_reserved-requires-in-Ok : goal.push_reserved-requires-in-Ok
push_reserved-requires-in-Ok g c = subst (λ n. n < c.self.inside.entries.cap) (sym c.self.inside.entries.ok.0) (claimed_room _ _ _ _ _ _ _ _ c.self.invariant.0 _ _ c.self.invariant.1 _ (claimed_inside g.O.Opening.opening _ _ c.self.view_is _ c.requires.claimed))

pub push_reserved-requires-in-Err : goal.push_reserved-requires-in-Err
push_reserved-requires-in-Err g c = subst (λ n. n < c.self.inside.entries.cap) (sym c.self.inside.entries.ok.0) (claimed_room _ _ _ _ _ _ _ _ c.self.invariant.0 _ _ c.self.invariant.1 _ (claimed_inside g.O.Opening.opening _ _ c.self.view_is _ c.requires.claimed))

pub add-requires : goal.add-requires
add-requires g c =
    let q = name.Snapshot c.args.partition c.args.version in
    let claimed = claimed_inside g.O.Opening.opening _ _ c.self.view_is _ c.requires.claimed in
    let fewer = is_claimed _ _ _ _ _ _ _ _ c.self.invariant.0 _ _ c.self.invariant.1 q claimed in
    let room = c.self.invariant.1.room in
    omega (arith, fewer, room)

pub invariant_of-self : goal.invariant_of-self
invariant_of-self g c =
    let s = c.self.inside in
    let o = g.O.Opening.opening s.opening.value in
    let p = c.args.partition in
    let v = c.args.version in
    let q = name.Snapshot p v in
    let claimed = claimed_inside g.O.Opening.opening _ _ c.self.view_is _ c.requires.claimed in
    let stopped : is_some s.board.front.stop ≡ true = ap (λ (f : Front). is_some f.stop) (sym c.front.ensures) ∙ sym c.is_some.ensures ∙ c.if-is_some.true in
    unclaimed_both _ _ _ _ _ _ _ _ c.self.invariant.0 _ _ c.self.invariant.1 _ s.board _ _ _ (entry.Snapshot p v) q claimed tt claimed
    (λ t. snapshot_kept o.job (cuts_after o s.scope s.entries.items) p v s.board.front.stop (g.D.Disk.history s.disk) stopped) (λ t. tt) refl c.push_reserved.ensures.items (le_refl (need s.board))
    (stopped_by _ _ _ s.board.front.stop stopped (unclaimed_are _ _ _ _ _ _ _ _ c.self.invariant.0 _ _ c.self.invariant.1 q _ refl refl c.leave_out.ensures.items refl))
    refl c.leave_out.ensures.items c.push_reserved.ensures.capacity

pub invariant_of-self-in-Ok : goal.invariant_of-self-in-Ok
invariant_of-self-in-Ok g c =
    let s = c.self.inside in
    let o = g.O.Opening.opening s.opening.value in
    let q = name.Snapshot c.args.partition c.args.version in
    let claimed = claimed_inside g.O.Opening.opening _ _ c.self.view_is _ c.requires.claimed in
    let running : s.board.front.stop ≡ None = none_of s.board.front.stop (ap (λ (f : Front). is_some f.stop) (sym c.front.ensures) ∙ sym c.is_some.ensures ∙ c.if-is_some.false) in
    let right = subst (λ (x : Shown g.row.D.Denot g.row.O.Denot). g.D.Disk.tells × g.O.Opening.tells x.opening x.scope (g.D.Disk.history x.opened) → g.D.Stage.Stage.sealed c.args.file ≡ truth ((g.O.Opening.opening x.opening).job.course (cuts_of g.O.Opening.opening x)) q) (sym c.self.view_is) c.requires.right in
    let fewer = is_claimed _ _ _ _ _ _ _ _ c.self.invariant.0 _ _ c.self.invariant.1 q claimed in
    let count = ap length c.leave_out.ensures.items in
    let news_is = c.add.ensures.items ∙ (λ i. if is_among (c.as_slice.ensures.value i) q || is_among s.names.news.items q then s.names.news.items else s.names.news.items ++ q ∷ []) in
    let more = one_more (is_among s.names.settled.items q || is_among s.names.news.items q) s.names.news.items q in
    let news_count = ap length news_is in
    let room = c.self.invariant.1.room in
    let all = c.self.invariant.1.entries in
    let cap = c.add.ensures.capacity in
    let k = c.push_reserved-in-Ok.ensures.capacity in
    upkeep_both _ _ _ _ _ _ _ _ c.self.invariant.0 _ _ c.self.invariant.1 _ s.board _ _ _ (entry.Snapshot c.args.partition c.args.version) tt claimed
    (λ t. snapshot_went o.job (cuts_after o s.scope s.entries.items) c.args.partition c.args.version s.board.front.stop _ _ running (went q _ _ _ _ (right t) (c.publish.ensures.steps t.0) (c.in-Ok.ensures.ok t.0))) (λ t. tt) refl c.push_reserved-in-Ok.ensures.items (le_refl (need s.board))
    (running_by _ _ _ s.board.front.stop running (published_are _ _ _ _ _ _ _ _ c.self.invariant.0 _ _ c.self.invariant.1 q _ refl news_is c.leave_out.ensures.items refl))
    (omega (arith, room, fewer, count, more, news_count, cap)) (omega (arith, all, fewer, count, k))

pub invariant_of-self-in-Err : goal.invariant_of-self-in-Err
invariant_of-self-in-Err g c =
    let s = c.self.inside in
    let q = name.Snapshot c.args.partition c.args.version in
    let claimed = claimed_inside g.O.Opening.opening _ _ c.self.view_is _ c.requires.claimed in
    let running : s.board.front.stop ≡ None = none_of s.board.front.stop (ap (λ (f : Front). is_some f.stop) (sym c.front.ensures) ∙ sym c.is_some.ensures ∙ c.if-is_some.false) in
    let right = subst (λ (x : Shown g.row.D.Denot g.row.O.Denot). g.D.Disk.tells × g.O.Opening.tells x.opening x.scope (g.D.Disk.history x.opened) → g.D.Stage.Stage.sealed c.args.file ≡ truth ((g.O.Opening.opening x.opening).job.course (cuts_of g.O.Opening.opening x)) q) (sym c.self.view_is) c.requires.right in
    unclaimed_both _ _ _ _ _ _ _ _ c.self.invariant.0 _ _ c.self.invariant.1 _ _ _ _ _ (entry.Untaken c.args.partition c.args.version) q claimed running claimed
    (λ t. tried q _ _ _ _ (right t) (c.publish.ensures.steps t.0)) (λ t. tt) c.stop.ensures c.push_reserved-in-Err.ensures.items (subst (λ (x : Core). need x ≤ need s.board) (sym c.stop.ensures) (stops_need s.board (Some cause.DiskFault) (stop_most s.board.front.stop cause.DiskFault)))
    (unclaimed_are _ _ _ _ _ _ _ _ c.self.invariant.0 _ _ c.self.invariant.1 q _ refl refl c.leave_out.ensures.items refl)
    refl c.leave_out.ensures.items c.push_reserved-in-Err.ensures.capacity

pub returns-then-is_some-clause-did : goal.returns-then-is_some-clause-did
returns-then-is_some-clause-did g c =
    let s = c.self.inside in
    inl (
      did_inside _ _ c.self.view_is s.disk (entry.Snapshot c.args.partition c.args.version) _ _ refl c.push_reserved.ensures.items,
      refl,
    )

pub returns-in-Ok-clause-did : goal.returns-in-Ok-clause-did
returns-in-Ok-clause-did g c =
    let s = c.self.inside in
    inl (
      did_inside _ _ c.self.view_is c.publish.new.self (entry.Snapshot c.args.partition c.args.version) _ _ refl c.push_reserved-in-Ok.ensures.items,
      refl,
    )

pub returns-in-Err-clause-did : goal.returns-in-Err-clause-did
returns-in-Err-clause-did g c =
    let s = c.self.inside in
    let running : s.board.front.stop ≡ None = none_of s.board.front.stop (ap (λ (f : Front). is_some f.stop) (sym c.front.ensures) ∙ sym c.is_some.ensures ∙ c.if-is_some.false) in
    inr (
      subst (λ (x : Shown g.row.D.Denot g.row.O.Denot). x.core.front.stop ≡ None) c.self.view_is running,
      did_inside _ _ c.self.view_is c.publish.new.self (entry.Untaken c.args.partition c.args.version) _ _ c.stop.ensures c.push_reserved-in-Err.ensures.items,
      refl,
      risen_inside _ _ c.self.view_is g.D.Disk.faults c.publish.new.self c.in-Err.ensures.cause,
    )
