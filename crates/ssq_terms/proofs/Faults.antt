-- Which tasks have a fault.
use Rattle.std.proofs.Common.{◌+◌, Option, refl, ap}
use Rattle.std.specs.Prelude.{get_or}
use Rattle.ssq_meaning.specs.Parts.{Part}
use Rattle.ssq_course.specs.Setting.{cut_of, part_fault}
use Rattle.ssq_terms.specs.Laws.{FaultsAreOfTasks}

pub task_faults : FaultsAreOfTasks
task_faults s cuts e = record {
  maps = λ i part there. ap (λ (found : Option Part). part_fault s.job.bound found (get_or (cut_of (cuts e)) i 0) (get_or (cut_of (cuts (e + 1))) i 0)) there;
  reduces = λ p. refl;
  outs = refl;
}
