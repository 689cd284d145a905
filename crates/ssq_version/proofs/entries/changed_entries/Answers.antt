use Rattle.std.proofs.Common.{◌≡◌, List, ap, ◌∙◌}
use Rattle.std.proofs.lemmas.Result.{IfOk-weaker}
use Rattle.ssq_version.specs.declared.entry.Entry.{Entry}
use Rattle.ssq_version.specs.Text.{shown}
use Rattle.ssq_version.proofs.entries.changed_entries.Goals as goal

pub returns : goal.returns
returns c change spelled is =
    let same : shown c.as_slice.result.now ≡ change = ap (λ (entries : List Entry). shown entries) c.as_slice.ensures.value ∙ c.in_ok-entries.ensures change spelled is in
    IfOk-weaker c.changed_copies.result (λ made. made.items ≡ shown c.as_slice.result.now) _ (λ made is. is ∙ same) c.changed_copies.ensures
