use Rattle.std.proofs.Common.{ap, ◌∙◌}
use Rattle.std.proofs.lemmas.Result.{IfOk-weaker}
use Rattle.ssq_version.specs.State.{Change, value_at}
use Rattle.ssq_version.proofs.Drafted.{last_counts}
use Rattle.ssq_version.proofs.draft.Draft.into_change.Goals as goal

pub returns : goal.returns
returns c =
    IfOk-weaker c.of_entries.result _ _ (λ change said key. said key ∙ last_counts c.self.inside.0.items key ∙ ap (λ (entries : Change). value_at entries key) c.self.view_is) c.of_entries.ensures
