use Rattle.std.proofs.Common.{◌≡◌, ◌+◌, ℕ, List, [], ◌∷◌, map, length, refl, sym, ◌∙◌, arith}
use Rattle.ssq_plans.specs.declared.part.PartEnd.{PartEnd}
use Rattle.ssq_desk.specs.declared.desk.PartLog.{PartLog}
use Rattle.ssq_desk.specs.Closing.{lines_between}
use Rattle.ssq_desk.proofs.calls.+lines_between.Goals as goal

-- no lines lie between where there are no ends, or no parts
abbrev between : {L : Type 0} → List (PartLog L) → List PartEnd → ℕ
between part_logs ends = lines_between (map (λ part_log. part_log.from) part_logs) (map (λ end. end.end) ends)

no_ends : {L : Type 0} (part_logs : List (PartLog L)) (ends : List PartEnd) → length ends ≡ 0 → 0 ≡ between part_logs ends
no_ends [] ends none = refl
no_ends (part_log ∷ part_logs) [] none = refl
no_ends (part_log ∷ part_logs) (end ∷ ends) none = absurd (omega (arith, none))

no_part_logs : {L : Type 0} (part_logs : List (PartLog L)) (ends : List PartEnd) → length part_logs ≡ 0 → 0 ≡ between part_logs ends
no_part_logs [] ends none = refl
no_part_logs (part_log ∷ part_logs) ends none = absurd (omega (arith, none))

pub returns-in-Some-Some : goal.returns-in-Some-Some
returns-in-Some-Some g t c = (λ i. c.saturating_sub.ensures i + c.lines_between.ensures i) ∙ sym (λ i. between (c.in-Some-Some.ensures.cases.0 i) (c.in-Some-Some.ensures'.cases.0 i))

pub returns-in_default : goal.returns-in_default
returns-in_default g t c = no_ends c.args.part_logs.now c.args.ends.now c.in_default.ensures'.cases

pub returns-in_default-2 : goal.returns-in_default-2
returns-in_default-2 g t c = no_part_logs c.args.part_logs.now c.args.ends.now c.in_default.ensures.cases
