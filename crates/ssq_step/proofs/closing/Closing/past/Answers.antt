use Rattle.std.proofs.Common.{◌≡◌, ◌++◌, ◌∷◌, [], ap, sym, subst, ◌∙◌}
use Rattle.std.specs.List.Sorted.{IsStrictlySortedBy}
use Rattle.std.proofs.lemmas.List.{map-append}
use Rattle.ssq_step.specs.Indexing.{seen}
use Rattle.ssq_step.specs.Indexing.{by_time}
use Rattle.ssq_step.proofs.Timing.{due_are, due_at, past_all, past_ends, past_on, sorted_behind}
use Rattle.ssq_step.proofs.closing.Closing.past.Goals as goal
use Rattle.ssq_step.proofs.closing.Closing.past.Goals.{in-None, in-Some+then-not-is_past}

pub loop-entry-preserved : goal.loop-entry-preserved
loop-entry-preserved c =
    let pushed : seen c.push.new.self.items ≡ seen c.loop-entry.keys.items ++ c.in-Some.entry.now.1 ∷ [] = ap seen c.in_ok-push.ensures.items ∙ map-append (λ key. key.now) c.loop-entry.keys.items _ in (
      past_on c.args.now c.args.self.now c.loop-entry.entry-iterator c.next.new.self c.in-Some.entry.now (seen c.loop-entry.keys.items) (seen c.push.new.self.items) c.in-Some.ensures.steps (sym c.is_past.ensures ∙ c.if-not-is_past.false) pushed c.loop-entry.invariant.0,
      sorted_behind c.in-Some.entry.now c.loop-entry.entry-iterator c.next.new.self c.in-Some.ensures.steps c.loop-entry.invariant.1,
    )

pub returns-clause-keys : goal.returns-clause-keys
returns-clause-keys c count time state indexes =
    due_are count time state c.args.now c.args.self.now (seen c.loop-entry.keys.items) (subst (IsStrictlySortedBy by_time) c.self.view_is c.iter-entry-items.ensures.ordered) indexes
    (elim c.match-next.branch [
      | in-None w ↦ past_all c.args.now c.args.self.now c.loop-entry.entry-iterator (seen c.loop-entry.keys.items) w.in-None.ensures.steps.0 c.loop-entry.invariant.0
      | in-Some+then-not-is_past w ↦ past_ends c.args.now c.args.self.now c.loop-entry.entry-iterator c.next.new.self w.in-Some.entry.now (seen c.loop-entry.keys.items) w.in-Some.ensures.steps c.loop-entry.invariant.1 (sym w.is_past.ensures ∙ w.if-not-is_past.true) c.loop-entry.invariant.0
    ])

pub returns-clause-rows : goal.returns-clause-rows
returns-clause-rows c key time stands_at =
    due_at c.args.now c.args.self.now (seen c.loop-entry.keys.items) (subst (IsStrictlySortedBy by_time) c.self.view_is c.iter-entry-items.ensures.ordered)
    (elim c.match-next.branch [
      | in-None w ↦ past_all c.args.now c.args.self.now c.loop-entry.entry-iterator (seen c.loop-entry.keys.items) w.in-None.ensures.steps.0 c.loop-entry.invariant.0
      | in-Some+then-not-is_past w ↦ past_ends c.args.now c.args.self.now c.loop-entry.entry-iterator c.next.new.self w.in-Some.entry.now (seen c.loop-entry.keys.items) w.in-Some.ensures.steps c.loop-entry.invariant.1 (sym w.is_past.ensures ∙ w.if-not-is_past.true) c.loop-entry.invariant.0
    ])
    key time stands_at
