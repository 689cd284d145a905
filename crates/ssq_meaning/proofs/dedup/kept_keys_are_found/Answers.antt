use Rattle.ssq_meaning.proofs.Coding.{repeats_found, repeats_own, repeats_ascend}
use Rattle.ssq_meaning.proofs.dedup.kept_keys_are_found.Goals as goal

pub returns-clause-found : goal.returns-clause-found
returns-clause-found c = repeats_found c.keys_are_apart.ensures.whatever_follows

pub returns-clause-own : goal.returns-clause-own
returns-clause-own c = repeats_own

pub returns-clause-ascend : goal.returns-clause-ascend
returns-clause-ascend c = repeats_ascend
