-- A line that was written piece by piece.
use Rattle.std.proofs.Common.{◌≡◌, ◌++◌, List, ℕ, codes, decimal, append_assoc}
use Rattle.ssq_plans.specs.Records.{time_or_none}
use Rattle.ssq_desk.specs.declared.told.Told.{Told}
use Rattle.ssq_runner.specs.Told.{told_line}

pieces : (a b c d e f g h i : List ℕ) → a ++ b ++ (c ++ d) ++ (e ++ f) ++ (g ++ h ++ i) ≡ a ++ b ++ c ++ d ++ e ++ f ++ g ++ h ++ i
pieces a b c d e f g h i = simp append_assoc

pub told_written : (told : Told) → codes "epoch " ++ decimal told.epoch ++ (codes " lines " ++ decimal told.lines) ++ (codes " watermark " ++ time_or_none told.watermark) ++ (codes " rows " ++ decimal told.rows ++ codes "\n") ≡ told_line told
told_written told = pieces (codes "epoch ") (decimal told.epoch) (codes " lines ") (decimal told.lines) (codes " watermark ") (time_or_none told.watermark) (codes " rows ") (decimal told.rows) (codes "\n")
