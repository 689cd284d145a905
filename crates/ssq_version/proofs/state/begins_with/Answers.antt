use Rattle.std.proofs.Common.{◌∙◌, List, ℕ, nat_eq, ap₂}
use Rattle.std.specs.List.{starts_with}
use Rattle.ssq_version.proofs.Prefixes.{same_test}
use Rattle.ssq_version.proofs.state.begins_with.Goals as goal

pub returns : goal.returns
returns c =
    c.starts_with.ensures.value ∙ ap₂ (λ (key prefix : List ℕ). starts_with nat_eq key prefix) c.as_slice.ensures c.as_slice-2.ensures
    ∙ same_test c.args.prefix.now c.args.key.now
