use Rattle.std.proofs.Common.{◌≡◌, ◌++◌, ℕ, List, ap, ◌∙◌}
use Rattle.std.proofs.lemmas.Result.{err_from_is_err_and}
use Rattle.ssq_version.specs.declared.entry.Entry.{Entry}
use Rattle.ssq_version.specs.State.{given_by}
use Rattle.ssq_version.specs.Text.{shown, snapshot_text}
use Rattle.ssq_store.proofs.Making.{rises_apart}
use Rattle.ssq_store.proofs.whole.write_state.Goals as goal

pub returns-in_err-entries-clause-cause : goal.returns-in_err-entries-clause-cause
returns-in_err-entries-clause-cause g c =
    let p = err_from_is_err_and c.from_residual.result c.from_residual.ensures.1 in
    rw (p.1, p.2) (rises_apart c.in_err-entries.field-0.0 _ _ c.in_err-entries.ensures.cause)

pub returns-clause-made : goal.returns-clause-made
returns-clause-made g c = (given_by (shown c.in_ok-entries.entries.items), c.in_ok-entries.ensures.made)

pub returns-clause-written : goal.returns-clause-written
returns-clause-written g c tells =
    let text : c.in_ok-text.text ≡ snapshot_text c.args.partition c.args.version (given_by (shown c.in_ok-entries.entries.items)) =
    c.in_ok-text.ensures ∙ ap (λ (es : List Entry). snapshot_text c.args.partition c.args.version (given_by (shown es))) c.as_slice.ensures.value in (
      given_by (shown c.in_ok-entries.entries.items),
      c.in_ok-entries.ensures.made,
      c.in_ok-write.ensures.ok tells ∙ ap (λ (bytes : List ℕ). g.S.Stage.written c.args.stage.now ++ bytes) (c.as_slice-2.ensures ∙ text),
    )
