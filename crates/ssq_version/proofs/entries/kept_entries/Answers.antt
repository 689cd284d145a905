use Rattle.std.proofs.Common.{◌≡◌, List, ap, ◌∙◌}
use Rattle.std.proofs.lemmas.Result.{IfOk-weaker}
use Rattle.ssq_version.specs.declared.entry.Entry.{Entry}
use Rattle.ssq_version.specs.State.{Change, given_by, said_of}
use Rattle.ssq_version.specs.Text.{shown}
use Rattle.ssq_version.proofs.Laid.{layered_said}
use Rattle.ssq_version.proofs.entries.kept_entries.Goals as goal

pub returns : goal.returns
returns c state spelled is =
    let same : shown c.as_slice.result.now ≡ said_of state = ap (λ (entries : List Entry). shown entries) c.as_slice.ensures.value ∙ c.in_ok-entries.ensures (said_of state) spelled is in
    IfOk-weaker c.given_copies.result (λ made. made.items ≡ given_by (shown c.as_slice.result.now)) _ (λ made given. given ∙ ap (λ (said : Change). given_by said) same ∙ layered_said state) c.given_copies.ensures
