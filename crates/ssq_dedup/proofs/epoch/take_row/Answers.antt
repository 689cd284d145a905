use Rattle.std.proofs.Common.{◌≡◌, ◌++◌, ◌∷◌, [], Some, true, false, refl, ap, sym, subst, ◌∙◌}
use Rattle.std.specs.Prelude.{is_some, not}
use Rattle.std.specs.HashSet.{contains}
use Rattle.ssq_value.specs.Key.{keys_of}
use Rattle.ssq_version.specs.State.{IsToldAt, value_at}
use Rattle.ssq_meaning.specs.Group.{is_same}
use Rattle.ssq_dedup.proofs.Taking.{takes_by, takes_repeat, was_absent, was_there}
use Rattle.ssq_dedup.proofs.epoch.take_row.Goals as goal

pub returns-then-not-is_new-clause-taken : goal.returns-then-not-is_new-clause-taken
returns-then-not-is_new-clause-taken c =
    let has_row = contains is_same c.args.keys.now c.args.row.now.key in
    takes_repeat c.args.state.now c.args.row.now has_row (was_there c.in_ok-is_new.is_new has_row (c.in_ok-is_new.ensures.is_new ∙ ap (λ key. not (contains is_same c.args.keys.now key)) c.key.ensures) c.if-not-is_new.true) c.args.draft.now c.args.shown.now.items

pub returns-then-is_kept-clause-taken : goal.returns-then-is_kept-clause-taken
returns-then-is_kept-clause-taken c =
    let has_row = contains is_same c.args.keys.now c.args.row.now.key in
    let own : c.in_ok-key.key ≡ keys_of c.args.row.now.key = c.in_ok-key.ensures.bytes ∙ ap keys_of c.key-2.ensures in
    takes_by c.args.state.now c.args.row.now has_row true (was_absent c.in_ok-is_new.is_new has_row (c.in_ok-is_new.ensures.is_new ∙ ap (λ key. not (contains is_same c.args.keys.now key)) c.key.ensures) c.if-not-is_new.false)
    (sym c.if-is_kept.true ∙ c.is_kept.ensures ∙ ap (λ key. is_some (value_at c.args.state.now key)) own)
    c.args.draft.now c.args.draft.now c.args.shown.now.items c.args.shown.now.items (refl, refl)

pub returns-clause-taken : goal.returns-clause-taken
returns-clause-taken c =
    let has_row = contains is_same c.args.keys.now c.args.row.now.key in
    let own : c.in_ok-key.key ≡ keys_of c.args.row.now.key = c.in_ok-key.ensures.bytes ∙ ap keys_of c.key-2.ensures in
    takes_by c.args.state.now c.args.row.now has_row false (was_absent c.in_ok-is_new.is_new has_row (c.in_ok-is_new.ensures.is_new ∙ ap (λ key. not (contains is_same c.args.keys.now key)) c.key.ensures) c.if-not-is_new.false)
    (sym c.if-is_kept.false ∙ c.is_kept.ensures ∙ ap (λ key. is_some (value_at c.args.state.now key)) own)
    c.args.draft.now c.put.new.self c.args.shown.now.items c.push.new.self.items (
      subst (λ key. IsToldAt key (Some []) c.args.draft.now c.put.new.self) own (subst (λ value. IsToldAt c.in_ok-key.key (Some value) c.args.draft.now c.put.new.self) c.new.ensures c.in_ok-put.ensures.told),
      c.in_ok-push.ensures.items ∙ ap (λ values. c.args.shown.now.items ++ values ∷ []) (c.in_ok-copied_row.ensures ∙ c.values.ensures),
    )
