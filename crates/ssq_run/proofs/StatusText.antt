-- What is told of a checkpoint, by what was counted of it.
use Rattle.std.proofs.Common.{◌≡◌, ◌++◌, ℕ, ℤ, Option, length, codes, refl}
use Rattle.ssq_plans.specs.Records.{lines, part_line}
use Rattle.ssq_open.specs.declared.wanted.Opened.{Opened}
use Rattle.ssq_open.specs.Epochs.{last_ends}
use Rattle.ssq_open.specs.Looking.{begins}
use Rattle.ssq_run.specs.Lines.{number_line, watermark_line, last_watermark, status_text}

pub status_written : (found : Opened) (planned : ℕ) (watermark : Option ℤ) → planned ≡ length found.plans → watermark ≡ last_watermark found.plans
    → number_line (codes "partitions ") found.meta.partitions ++ number_line (codes "planned ") planned ++ number_line (codes "committed ") found.committed ++ watermark_line watermark
    ++ lines (λ at part. part_line part) 0 (last_ends (begins found.meta.parts) found.plans) ≡ status_text found
status_written found planned watermark plans mark = rw (plans, mark) refl
