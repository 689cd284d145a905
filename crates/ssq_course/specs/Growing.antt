-- Logs that grow between two runs.
use Rattle.std.specs.Prelude.{◌≡◌}
use Rattle.ssq_outside.specs.Files.{Files}
use Rattle.ssq_meaning.specs.Parts.{AreGrown}
use Rattle.ssq_core.specs.Course.{Job}
use Rattle.ssq_course.specs.Setting.{Setting, job_of}

-- The same query, with its work divided in the same way, over the same logs, each of which has as many lines as before or more after them.
pub record HasGrown (s longer : Setting) : Type 0 where
  pub job : s.job ≡ longer.job
  pub lines : AreGrown s.lines longer.lines

-- What holds of files for the job over some logs holds of them for the job over these logs when they have grown.
abbrev pub StaysAsLogsGrow : (Job → Files → Type 0) → Type 0
StaysAsLogsGrow Holds = (s longer : Setting) (files : Files) → HasGrown s longer → Holds (job_of s) files → Holds (job_of longer) files
