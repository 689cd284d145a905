use Rattle.ssq_store.proofs.Exact.{made_once, made_is_sound, made_true}
use Rattle.ssq_store.proofs.law.loading_is_exact.Goals as goal

pub returns-clause-one : goal.returns-clause-one
returns-clause-one c = made_once c.files_are_apart.ensures

pub returns-clause-sound : goal.returns-clause-sound
returns-clause-sound c = made_is_sound c.files_are_apart.ensures

pub returns-clause-made : goal.returns-clause-made
returns-clause-made c = made_true
