-- A run of one epoch, as an example: so that each event in it can come.
use Rattle.std.specs.Prelude.{◌≡◌, ◌+◌, ◌==◌, ℕ, true, false, List, [], ◌∷◌, None}
use Rattle.ssq_outside.specs.declared.gate.TaskId.{TaskId}
use Rattle.ssq_outside.specs.declared.gate.Kind.TheVariants as kind
use Rattle.ssq_outside.specs.Files.{settled_at}
use Rattle.ssq_outside.specs.History.{History, had_now}
use Rattle.ssq_plans.specs.declared.meta.Meta.{Meta}
use Rattle.ssq_core.specs.declared.event.Event.{Event}
use Rattle.ssq_core.specs.declared.event.Event.TheVariants as event
use Rattle.ssq_core.specs.Course.{Course, Job, IsCausal}
use Rattle.ssq_core.specs.Machine.{State, running, reduce, out_task, Leads}

-- A job of one part and one partition, which keeps state. Its texts are empty, and no epoch has a fault.
abbrev pub example_course : Meta → Course
example_course meta = record {
  meta = meta;
  ends = λ e. [];
  watermark = λ e. None;
  seen = λ e. [];
  is_faulty = λ e. false;
  rows = λ e. [];
  keeping = 1;
  state = λ p v. [];
  delta = λ p v. [];
  is_task = λ t. t.number == 0;
  is_fault = λ t. false;
}

abbrev pub example_job : Meta → Job
example_job meta = record { course = λ cuts. example_course meta; is_next = λ cuts e. true }

abbrev pub map_task : ℕ → ℕ → TaskId
map_task e i = record { epoch = e; kind = kind.Map; number = i }

-- A call begins on an empty disk, runs one epoch until it is acknowledged, and ends in a crash; the next call opens what is there. The
-- clock of the disk, which stands at a number as the run begins, rises with each event.
abbrev pub example_run : ℕ → List Event
example_run clock =
    event.Init ∷ event.Open ∷ event.Plan 0 ∷ event.Sync (clock + 4) ∷ event.Claim (map_task 0 0) ∷ event.Report (map_task 0 0)
    ∷ event.Claim (reduce 0 0) ∷ event.Seal (reduce 0 0) ∷ event.Report (reduce 0 0) ∷ event.Claim (out_task 0) ∷ event.Seal (out_task 0)
    ∷ event.Report (out_task 0) ∷ event.OutFile 0 ∷ event.Sync (clock + 14) ∷ event.Commit 0 ∷ event.Sync (clock + 16) ∷ event.Crash ∷ event.Open ∷ []

-- On an empty disk whose names are settled the example comes to an end.
abbrev pub ExampleRuns : Type 0 → Type 0
ExampleRuns tells = (meta : Meta) (h : History) → had_now h ≡ settled_at (λ q. None)
    → IsCausal (example_job meta) × ((n : State) × Leads tells (example_job meta) (record { disk = h; desk = None; life = running }) (example_run h.moment) n)
