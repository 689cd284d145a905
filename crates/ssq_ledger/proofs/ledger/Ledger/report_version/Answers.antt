use Rattle.std.proofs.Common.{◌≡◌, ◌≤◌, ◌++◌, ◌||◌, if◌then◌else◌, true, None, [], ◌∷◌, is_some, sym, ap, ◌∙◌, refl, subst, inl, inr, arith}
use Rattle.ssq_outside.specs.declared.name.Name.TheVariants as name
use Rattle.ssq_upkeep.specs.Upkeep.{is_among}
use Rattle.ssq_board.specs.declared.front.Front.{Front}
use Rattle.ssq_board.specs.declared.front.Entry.TheVariants as entry
use Rattle.ssq_board.specs.Core.{May, due}
use Rattle.ssq_ledger.specs.Shown.{Shown, HasVersion, answer, cuts_after}
use Rattle.ssq_ledger.proofs.Ledgers.{spent, did_inside, risen_inside}
use Rattle.ssq_ledger.proofs.Shelves.{spent_both, has_name_room, stopped_shelved, version_shelved}
use Rattle.ssq_ledger.proofs.Moves.{went, tried, version_went, version_kept, none_of}
use Rattle.ssq_ledger.proofs.ledger.Ledger.report_version.Goals as goal

pub invariant_of-self : goal.invariant_of-self
invariant_of-self g c =
    let s = c.self.inside in
    let o = g.O.Opening.opening s.opening.value in
    let id = c.args.id in
    let m : May s.scope s.board (entry.Version id) = subst (λ (x : Shown g.row.D.Denot g.row.O.Denot). May x.scope x.core (entry.Version id)) (sym c.self.view_is) c.requires.may in
    let stopped : is_some s.board.front.stop ≡ true = ap (λ (f : Front). is_some f.stop) (sym c.front.ensures) ∙ sym c.is_some.ensures ∙ c.if-is_some.true in
    let kept : s.entries.cap ≤ c.note_version.new.entries.cap = (let k = c.note_version.ensures.capacity in omega arith) in (
      spent _ _ _ _ _ _ _ _ c.self.invariant.0 _ _ _ _ (entry.Version id) refl m (λ t. version_kept o.job (cuts_after o s.scope s.entries.items) id s.board.front.stop (g.D.Disk.history s.disk) stopped)
          (λ t. (subst (λ (x : Shown g.row.D.Denot g.row.O.Denot). g.D.Disk.tells × g.O.Opening.tells x.opening x.scope (g.D.Disk.history x.opened) → HasVersion g.O.Opening.opening x id (g.D.Stage.Stage.sealed c.args.file)) (sym c.self.view_is) c.requires.right t).0)
          (c.note_version.ensures.board s.scope) c.note_version.ensures.items kept,
      stopped_shelved _ _ _ _ _ _ _ _ c.self.invariant.0 _ _ c.self.invariant.1 id _ _ _ stopped m (c.note_version.ensures.board s.scope) c.note_version.ensures.items kept,
    )

pub invariant_of-self-in-Ok : goal.invariant_of-self-in-Ok
invariant_of-self-in-Ok g c =
    let s = c.self.inside in
    let o = g.O.Opening.opening s.opening.value in
    let id = c.args.id in
    let m : May s.scope s.board (entry.Version id) = subst (λ (x : Shown g.row.D.Denot g.row.O.Denot). May x.scope x.core (entry.Version id)) (sym c.self.view_is) c.requires.may in
    let running : s.board.front.stop ≡ None = none_of s.board.front.stop (ap (λ (f : Front). is_some f.stop) (sym c.front.ensures) ∙ sym c.is_some.ensures ∙ c.if-is_some.false) in
    let right = subst (λ (x : Shown g.row.D.Denot g.row.O.Denot). g.D.Disk.tells × g.O.Opening.tells x.opening x.scope (g.D.Disk.history x.opened) → HasVersion g.O.Opening.opening x id (g.D.Stage.Stage.sealed c.args.file)) (sym c.self.view_is) c.requires.right in
    let kept : s.entries.cap ≤ c.note_version-in-Ok.new.entries.cap = (let k = c.note_version-in-Ok.ensures.capacity in omega arith) in (
      spent _ _ _ _ _ _ _ _ c.self.invariant.0 _ _ _ _ (entry.Version id) refl m
          (λ t. version_went o.job (cuts_after o s.scope s.entries.items) id s.board.front.stop _ _ running (went (name.Delta id.number id.epoch) _ _ _ _ (right t).1 (c.publish.ensures.steps t.0) (c.in-Ok.ensures.ok t.0)))
          (λ t. (right t).0) (c.note_version-in-Ok.ensures.board s.scope) c.note_version-in-Ok.ensures.items kept,
      version_shelved _ _ _ _ _ _ _ _ c.self.invariant.0 _ _ c.self.invariant.1 id _ _ _ _ running m (c.note_version-in-Ok.ensures.board s.scope) c.note_version-in-Ok.ensures.items refl refl refl c.add.ensures.capacity
          (c.add.ensures.items ∙ (λ i. if is_among (c.as_slice.ensures.value i) (name.Delta id.number id.epoch) || is_among s.names.news.items (name.Delta id.number id.epoch) then s.names.news.items else s.names.news.items ++ name.Delta id.number id.epoch ∷ [])) kept,
    )

pub invariant_of-self-in-Err : goal.invariant_of-self-in-Err
invariant_of-self-in-Err g c =
    let s = c.self.inside in
    let id = c.args.id in
    let m : May s.scope s.board (entry.Version id) = subst (λ (x : Shown g.row.D.Denot g.row.O.Denot). May x.scope x.core (entry.Version id)) (sym c.self.view_is) c.requires.may in
    let running : s.board.front.stop ≡ None = none_of s.board.front.stop (ap (λ (f : Front). is_some f.stop) (sym c.front.ensures) ∙ sym c.is_some.ensures ∙ c.if-is_some.false) in
    let right = subst (λ (x : Shown g.row.D.Denot g.row.O.Denot). g.D.Disk.tells × g.O.Opening.tells x.opening x.scope (g.D.Disk.history x.opened) → HasVersion g.O.Opening.opening x id (g.D.Stage.Stage.sealed c.args.file)) (sym c.self.view_is) c.requires.right in
    let kept : s.entries.cap ≤ c.note_missed.new.entries.cap = (let k = c.note_missed.ensures.capacity in omega arith) in
    spent_both _ _ _ _ _ _ _ _ c.self.invariant.0 _ _ c.self.invariant.1 _ _ _ _ (entry.Missed id) refl refl (m.0, m.1, m.2, m.3, running) (λ t. tried (name.Delta id.number id.epoch) _ _ _ _ (right t).1 (c.publish.ensures.steps t.0))
    (λ t. (right t).0) (c.note_missed.ensures.board s.scope) c.note_missed.ensures.items kept kept

pub returns-then-is_some-clause-did : goal.returns-then-is_some-clause-did
returns-then-is_some-clause-did g c =
    let s = c.self.inside in
    inl (
      did_inside _ _ c.self.view_is s.disk (entry.Version c.args.id) _ _ (c.note_version.ensures.board s.scope) c.note_version.ensures.items,
      c.note_version.ensures.answer ∙ ap (λ (x : Shown g.row.D.Denot g.row.O.Denot). answer (due x.core c.args.id None)) c.self.view_is,
    )

pub returns-in-Ok-clause-did : goal.returns-in-Ok-clause-did
returns-in-Ok-clause-did g c =
    let s = c.self.inside in
    inl (
      did_inside _ _ c.self.view_is c.publish.new.self (entry.Version c.args.id) _ _ (c.note_version-in-Ok.ensures.board s.scope) c.note_version-in-Ok.ensures.items,
      c.note_version-in-Ok.ensures.answer ∙ ap (λ (x : Shown g.row.D.Denot g.row.O.Denot). answer (due x.core c.args.id None)) c.self.view_is,
    )

pub returns-in-Err-clause-did : goal.returns-in-Err-clause-did
returns-in-Err-clause-did g c =
    let s = c.self.inside in
    let running : s.board.front.stop ≡ None = none_of s.board.front.stop (ap (λ (f : Front). is_some f.stop) (sym c.front.ensures) ∙ sym c.is_some.ensures ∙ c.if-is_some.false) in
    inr (
      subst (λ (x : Shown g.row.D.Denot g.row.O.Denot). x.core.front.stop ≡ None) c.self.view_is running,
      did_inside _ _ c.self.view_is c.publish.new.self (entry.Missed c.args.id) _ _ (c.note_missed.ensures.board s.scope) c.note_missed.ensures.items,
      refl,
      risen_inside _ _ c.self.view_is g.D.Disk.faults c.publish.new.self c.in-Err.ensures.cause,
    )

pub add-requires : goal.add-requires
add-requires g c =
    let s = c.self.inside in
    let id = c.args.id in
    let m : May s.scope s.board (entry.Version id) = subst (λ (x : Shown g.row.D.Denot g.row.O.Denot). May x.scope x.core (entry.Version id)) (sym c.self.view_is) c.requires.may in
    has_name_room _ _ _ _ _ _ _ _ c.self.invariant.0 _ _ c.self.invariant.1 id m
