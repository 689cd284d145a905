use Rattle.ssq_meaning.proofs.JoinEpochs.{follows_in}
use Rattle.ssq_meaning.proofs.join.epochs_of_joins_follow.Goals as goal

pub returns : goal.returns
returns c = follows_in
