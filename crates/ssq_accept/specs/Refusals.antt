-- How refusals are told.
use Rattle.std.specs.Prelude.{ℕ, ◌++◌, List, codes, decimal}
use Rattle.ssq_accept.specs.declared.refusal.Refusal.{Refusal}
use Rattle.ssq_accept.specs.declared.refusal.Refusal.TheVariants as refusal
use Rattle.ssq_check.specs.declared.fault.Cause.{Cause}
use Rattle.ssq_check.specs.declared.fault.Cause.TheVariants as rule
use Rattle.ssq_modes.specs.declared.fault.ModeFault.{ModeFault}
use Rattle.ssq_modes.specs.declared.fault.ModeFault.TheVariants as mode
use Rattle.ssq_parse.specs.declared.fault.ParseCause.{ParseCause}
use Rattle.ssq_parse.specs.declared.fault.ParseCause.TheVariants as cause

abbrev pub parse_name : ParseCause → List ℕ
parse_name cause.TooLong = codes "TooLong"
parse_name cause.NotUtf8 = codes "NotUtf8"
parse_name cause.BadChar = codes "BadChar"
parse_name cause.BadNumber = codes "BadNumber"
parse_name cause.Unclosed = codes "Unclosed"
parse_name cause.BadText = codes "BadText"
parse_name cause.Expected = codes "Expected"
parse_name cause.TooDeep = codes "TooDeep"

abbrev pub rule_name : Cause → List ℕ
rule_name rule.UnknownName = codes "UnknownName"
rule_name rule.DoubleName = codes "DoubleName"
rule_name rule.WrongType = codes "WrongType"
rule_name rule.BadDivisor = codes "BadDivisor"
rule_name rule.NotGrouped = codes "NotGrouped"
rule_name rule.AggregateHere = codes "AggregateHere"
rule_name rule.TooMany = codes "TooMany"
rule_name rule.BadBound = codes "BadBound"
rule_name rule.BadWindow = codes "BadWindow"
rule_name rule.TwoStateful = codes "TwoStateful"
rule_name rule.Distinct = codes "Distinct"
rule_name rule.Limit = codes "Limit"

abbrev pub mode_name : ModeFault → List ℕ
mode_name mode.AppendNeedsWatermark = codes "AppendNeedsWatermark"
mode_name mode.CompleteNeedsAggregate = codes "CompleteNeedsAggregate"
mode_name mode.JoinNeedsAppend = codes "JoinNeedsAppend"
mode_name mode.OuterNeedsBound = codes "OuterNeedsBound"
mode_name mode.BoundNeedsWatermark = codes "BoundNeedsWatermark"
mode_name mode.SortNeedsComplete = codes "SortNeedsComplete"
mode_name mode.HavingInUpdate = codes "HavingInUpdate"
mode_name mode.KeyNotShown = codes "KeyNotShown"

-- a cause and its place, in bytes; of modes the cause alone
abbrev pub refusal_text : Refusal → List ℕ
refusal_text (refusal.Parse at own) = parse_name own ++ (codes " at " ++ decimal at)
refusal_text (refusal.Bind fault) = rule_name fault.cause ++ (codes " at " ++ decimal fault.at)
refusal_text (refusal.Mode fault) = mode_name fault
refusal_text refusal.NoMemory = codes "NoMemory"
