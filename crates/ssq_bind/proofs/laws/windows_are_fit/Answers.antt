use Rattle.ssq_bind.proofs.WindowLemmas.{windows_are_fit}
use Rattle.ssq_bind.proofs.laws.windows_are_fit.Goals as goal

pub returns : goal.returns
returns c = windows_are_fit
