use Rattle.ssq_meaning.proofs.Repeats.{follows_in}
use Rattle.ssq_meaning.proofs.dedup.epochs_without_repeats_follow.Goals as goal

pub returns : goal.returns
returns c = follows_in
