use Rattle.ssq_meaning.proofs.Following.{follows_in, lengths_are, more_accepted}
use Rattle.ssq_meaning.proofs.groups.epochs_of_groups_follow.Goals as goal

pub returns-clause-follows : goal.returns-clause-follows
returns-clause-follows c = follows_in

pub returns-clause-lengths : goal.returns-clause-lengths
returns-clause-lengths c = lengths_are

pub returns-clause-joins : goal.returns-clause-joins
returns-clause-joins c = more_accepted
