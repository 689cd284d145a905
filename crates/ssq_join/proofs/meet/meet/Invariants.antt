use Rattle.std.proofs.Common.{ℕ, List}
use Rattle.ssq_step.specs.declared.shown.Shown.{Shown}
use Rattle.ssq_step.specs.Shown.{ArePrintable}
use Rattle.ssq_join.specs.Meeting.{MeetsFront}
use Rattle.ssq_join.proofs.meet.meet.Given as goal

-- whatever those to come lead to, all of them lead to
abbrev pub invariant-loop-key : goal.invariant-loop-key
invariant-loop-key l =
    ((now : Shown) (met : List (List ℕ)) → MeetsFront l.bound l.joining l.comer.row.now l.prefix l.key-iterator l.found now l.met.keys met
    → MeetsFront l.bound l.joining l.comer.row.now l.prefix l.fn.kept l.fn.found now l.fn.met.keys met)
    × ArePrintable l.found.rows.items
