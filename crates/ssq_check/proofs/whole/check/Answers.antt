use Rattle.std.proofs.Common.{subst, Option}
use Rattle.ssq_check.specs.declared.fault.BindFault.{BindFault}
use Rattle.ssq_check.specs.Fault.{FirstOf}
use Rattle.ssq_check.specs.Whole.{QueryFaults}
use Rattle.ssq_check.proofs.SoundLemmas.{sound_where_none}
use Rattle.ssq_check.proofs.whole.check.Goals as goal

pub returns-in-Ok-None-clause-sound : goal.returns-in-Ok-None-clause-sound
returns-in-Ok-None-clause-sound c =
    sound_where_none c.args.query.now (subst (λ (o : Option BindFault). FirstOf (QueryFaults c.args.query.now) o) c.in-Ok-None.field-0-is c.in-Ok-None.ensures)
