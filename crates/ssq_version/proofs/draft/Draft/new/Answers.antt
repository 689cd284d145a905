use Rattle.std.proofs.Common.{ap}
use Rattle.ssq_version.specs.State.{last_first}
use Rattle.ssq_version.proofs.draft.Draft.new.Goals as goal

pub returns : goal.returns
returns c = ap last_first c.new.ensures.items
