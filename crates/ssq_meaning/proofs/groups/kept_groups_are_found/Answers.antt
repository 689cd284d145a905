use Rattle.ssq_meaning.proofs.Coding.{all_found, kept_ascends}
use Rattle.ssq_meaning.proofs.groups.kept_groups_are_found.Goals as goal

pub returns-clause-found : goal.returns-clause-found
returns-clause-found c = all_found c.keys_are_apart.ensures.whatever_follows

pub returns-clause-ascend : goal.returns-clause-ascend
returns-clause-ascend c = kept_ascends
