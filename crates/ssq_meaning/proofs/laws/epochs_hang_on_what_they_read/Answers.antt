use Rattle.ssq_meaning.proofs.Causal.{read_says}
use Rattle.ssq_meaning.proofs.laws.epochs_hang_on_what_they_read.Goals as goal

pub returns : goal.returns
returns c = read_says
