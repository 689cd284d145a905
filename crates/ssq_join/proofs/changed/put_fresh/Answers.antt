use Rattle.std.proofs.Common.{◌≡◌, Some, ap, rules, sym, subst, ◌∙◌}
use Rattle.ssq_version.specs.State.{Ascends, IsToldAt, State}
use Rattle.ssq_version.proofs.Values.{ascends_behind}
use Rattle.ssq_join.specs.Changing.{flagged_if}
use Rattle.ssq_join.proofs.Saying.{fresh_all, fresh_begins, fresh_on}
use Rattle.ssq_join.proofs.changed.put_fresh.Goals as goal

pub loop-key-init : goal.loop-key-init
loop-key-init c =
    let same : c.into_iter-key-iterator.result ≡ c.args.fresh.entries = search rules in (
      tt,
      tt,
      subst (λ (entries : State). Ascends entries) (sym same) c.keys_ascend.ensures,
      fresh_begins c.args.fresh.entries c.args.met.now.keys c.args.draft.now c.into_iter-key-iterator.result same,
    )

pub loop-key-preserved : goal.loop-key-preserved
loop-key-preserved c = (
  tt,
  tt,
  ascends_behind c.in-Some.key c.in-Some.value c.next.new.self (subst (λ (entries : State). Ascends entries) c.in-Some.ensures.steps c.loop-key.invariant.2),
  fresh_on c.args.fresh.entries c.args.met.now.keys c.args.draft.now c.loop-key.key-iterator c.next.new.self c.in-Some.key c.in-Some.value c.in_ok-value.value c.loop-key.draft c.put.new.self
      c.in-Some.ensures.steps c.loop-key.invariant.2 (c.in_ok-value.ensures.bytes ∙ ap (λ b. flagged_if b c.in-Some.value) c.contains.ensures)
      (subst (λ key. IsToldAt key (Some c.in_ok-value.value) c.loop-key.draft c.put.new.self) c.in_ok-short.ensures.bytes c.in_ok-put.ensures.told) c.loop-key.invariant.3,
)

pub returns : goal.returns
returns c = fresh_all c.args.fresh.entries c.args.met.now.keys c.args.draft.now c.loop-key.key-iterator c.loop-key.draft c.in-None.ensures.steps.0 c.loop-key.invariant.3
