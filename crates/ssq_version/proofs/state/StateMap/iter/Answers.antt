use Rattle.std.proofs.Common.{◌≡◌, ◌∙◌, ap}
use Rattle.std.proofs.lemmas.Result.{IfOk-weaker}
use Rattle.ssq_version.specs.State.{from_key}
use Rattle.ssq_version.specs.Map.{entries_in}
use Rattle.ssq_version.proofs.Sorting.{from_nothing}
use Rattle.ssq_version.proofs.state.StateMap.iter.Goals as goal

pub returns : goal.returns
returns c =
    let all = entries_in c.self.inside.0 in
    IfOk-weaker c.from_key.result (λ entries. entries ≡ from_key c.new.result all) (λ entries. entries ≡ c.args.self.now)
    (λ entries is. is ∙ ap (λ key. from_key key all) c.new.ensures ∙ from_nothing all ∙ c.self.view_is) c.from_key.ensures
