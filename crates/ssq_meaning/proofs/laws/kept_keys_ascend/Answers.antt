use Rattle.ssq_meaning.proofs.ByShape.{all_ascend}
use Rattle.ssq_meaning.proofs.laws.kept_keys_ascend.Goals as goal

pub returns : goal.returns
returns c = all_ascend
