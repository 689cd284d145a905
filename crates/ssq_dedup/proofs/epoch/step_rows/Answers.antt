use Rattle.std.proofs.Common.{length, refl, subst, ◌∙◌}
use Rattle.ssq_version.specs.State.{Change}
use Rattle.ssq_meaning.specs.Dedup.{closing_time}
use Rattle.ssq_meaning.specs.DedupLaws.{is_held}
use Rattle.ssq_step.specs.Forgetting.{IsGone}
use Rattle.ssq_step.specs.Indexing.{seen}
use Rattle.ssq_dedup.specs.Firsts.{SaysFirsts}
use Rattle.ssq_dedup.proofs.Stepping.{holds, indexes, is_step, keyed}
use Rattle.ssq_dedup.proofs.epoch.step_rows.Goals as goal

pub returns-clause-stepped : goal.returns-clause-stepped
returns-clause-stepped c query columns old before given =
    let state = c.args.state.now in
    let new = c.args.rows.now in
    let now = c.args.now in
    let found = c.kept_keys_are_found.ensures.found in
    let own = c.kept_keys_are_found.ensures.own in
    let held = holds query columns state c.args.closing.now old new before now given found own in
    let all = keyed query columns state c.args.closing.now old new before now given found own in
    let index = indexes query columns state c.args.closing.now old new before now given found own in
    is_step query columns state c.args.closing.now old new before now given found own c.first_rows_are_told_by_what_is_kept.ensures.next c.first_rows_are_told_by_what_is_kept.ensures.ended
    c.first_rows.new.draft c.in_ok-change.change (seen c.in_ok-keys.keys.items)
    (subst (λ (start : Change). SaysFirsts (length columns) (is_held query columns old before) new start c.first_rows.new.draft) c.new-draft.ensures (c.in_ok-rows.ensures.says (length columns) (is_held query columns old before) held all))
    (c.in_ok-keys.ensures.keys (length columns) (closing_time query columns) state index)
    (λ key. c.in_ok-change.ensures key ∙ subst (λ keys. IsGone (seen keys) c.first_rows.new.draft c.forget.new.draft) c.as_slice.ensures.value c.in_ok-forget.ensures key)
    c.first_rows_are_told_by_what_is_kept.ensures.known (record { change = c.in_ok-change.change; rows = c.in_ok-rows.rows }) refl
    (c.in_ok-rows.ensures.rows (length columns) (is_held query columns old before) held all)
