-- The lines by which the program tells how it stopped, and how far a checkpoint has come.
use Rattle.std.specs.Prelude.{ℕ, zero, suc, ℤ, ◌++◌, List, [], length, get_or, Option, None, codes, decimal}
use Rattle.ssq_plans.specs.Names.{text_of}
use Rattle.ssq_plans.specs.Records.{lines, part_line, time_or_none}
use Rattle.ssq_plans.specs.declared.plan.Plan.{Plan}
use Rattle.ssq_accept.specs.Refusals.{refusal_text}
use Rattle.ssq_open.specs.declared.wanted.Opened.{Opened}
use Rattle.ssq_open.specs.Epochs.{no_plan, last_ends}
use Rattle.ssq_open.specs.Looking.{begins}
use Rattle.ssq_run.specs.declared.stop.Stop.{Stop}
use Rattle.ssq_run.specs.declared.stop.Stop.TheVariants.{Usage, Refused, BadLine, Overflow, KeyOverflow, LogFault, DiskFault, OutFault, OtherQuery, OtherPartitions, OtherParts, LogShort, Damaged, NoMemory, FullParts, FullLines, FullEpochs}
use Rattle.ssq_run.specs.declared.stop.Wrong.{Wrong}
use Rattle.ssq_run.specs.declared.stop.Wrong.TheVariants.{TooLong, NotJson, NotObject, WrongType, NoEventTime}

-- what is wrong with a bad line
abbrev pub wrong_text : Wrong → List ℕ
wrong_text TooLong = codes "TooLong"
wrong_text NotJson = codes "NotJson"
wrong_text NotObject = codes "NotObject"
wrong_text (WrongType column) = codes "WrongType " ++ column
wrong_text NoEventTime = codes "NoEventTime"

-- a stream's declared name, and the number of its part
abbrev pub at_part : List ℕ → ℕ → List ℕ
at_part stream part = stream ++ codes " " ++ decimal part

-- the line that tells a stop, without its end
abbrev pub stop_text : Stop → List ℕ
stop_text Usage = codes "stopped 2 Usage"
stop_text (Refused why) = codes "stopped 3 " ++ refusal_text why
stop_text (BadLine stream part offset wrong) = codes "stopped 4 BadLine " ++ at_part stream part ++ codes " " ++ decimal offset ++ codes " " ++ wrong_text wrong
stop_text (Overflow stream part offset) = codes "stopped 5 Overflow " ++ at_part stream part ++ codes " " ++ decimal offset
stop_text (KeyOverflow key) = codes "stopped 5 Overflow key " ++ key
stop_text LogFault = codes "stopped 6 LogFault"
stop_text DiskFault = codes "stopped 7 DiskFault"
stop_text OutFault = codes "stopped 8 OutFault"
stop_text (OtherQuery kept) = codes "stopped 9 OtherQuery " ++ kept
stop_text (OtherPartitions kept asked) = codes "stopped 9 OtherPartitions " ++ decimal kept ++ codes " " ++ decimal asked
stop_text (OtherParts stream kept found) = codes "stopped 9 OtherParts " ++ stream ++ codes " " ++ decimal kept ++ codes " " ++ decimal found
stop_text (LogShort stream part logged found) = codes "stopped 9 LogShort " ++ at_part stream part ++ codes " " ++ decimal logged ++ codes " " ++ decimal found
stop_text (Damaged name) = codes "stopped 9 Damaged " ++ text_of name
stop_text NoMemory = codes "stopped 10 NoMemory"
stop_text (FullParts stream) = codes "stopped 11 Full parts " ++ stream ++ codes " 65"
stop_text (FullLines stream part count) = codes "stopped 11 Full lines " ++ at_part stream part ++ codes " " ++ decimal count
stop_text FullEpochs = codes "stopped 11 Full epochs"

-- the line that tells a stop
abbrev pub stop_line : Stop → List ℕ
stop_line stop = stop_text stop ++ codes "\n"

-- a number after what it is
abbrev pub number_line : List ℕ → ℕ → List ℕ
number_line front number = front ++ decimal number ++ codes "\n"

abbrev pub watermark_line : Option ℤ → List ℕ
watermark_line watermark = codes "watermark " ++ time_or_none watermark ++ codes "\n"

-- the watermark of the last of the first plans, if there is one
abbrev pub watermark_up_to : List Plan → ℕ → Option ℤ
watermark_up_to plans zero = None
watermark_up_to plans (suc e) = (get_or plans e (no_plan [])).watermark

abbrev pub last_watermark : List Plan → Option ℤ
last_watermark plans = watermark_up_to plans (length plans)

-- What is told of a checkpoint: how many partitions it has, how many epochs are planned and committed, the watermark of the last plan, and
-- where the planned epochs end, part by part.
abbrev pub status_text : Opened → List ℕ
status_text found =
    number_line (codes "partitions ") found.meta.partitions ++ number_line (codes "planned ") (length found.plans) ++ number_line (codes "committed ") found.committed
    ++ watermark_line (last_watermark found.plans) ++ lines (λ at part. part_line part) 0 (last_ends (begins found.meta.parts) found.plans)

-- what is told of an empty disk
abbrev pub no_checkpoint : List ℕ
no_checkpoint = codes "no checkpoint\n"
