-- What a run tells.
use Rattle.std.specs.Prelude.{ℕ, List, [], ◌∷◌, ◌++◌, codes, decimal}
use Rattle.ssq_plans.specs.Records.{time_or_none}
use Rattle.ssq_desk.specs.declared.told.Told.{Told}

-- The line of an epoch: its number, how many lines it has, its watermark, and how many rows.
abbrev pub told_line : Told → List ℕ
told_line told =
    codes "epoch " ++ decimal told.epoch ++ codes " lines " ++ decimal told.lines ++ codes " watermark " ++ time_or_none told.watermark ++ codes " rows " ++ decimal told.rows ++ codes "\n"

-- the lines of epochs, one after the other
unfoldable pub told_text : List Told → List ℕ
told_text [] = []
told_text (told ∷ rest) = told_line told ++ told_text rest

-- the last line of a run that was done to its end: how many epochs are committed
abbrev pub done_line : ℕ → List ℕ
done_line epochs = codes "done epochs " ++ decimal epochs ++ codes "\n"
