use Rattle.std.proofs.Common.{ℕ, ℤ, List, length, Option, sym, ap, ◌∙◌, subst, arith}
use Rattle.std.proofs.lemmas.List.{nil_from_length}
use Rattle.ssq_meaning.specs.Times.{later}
use Rattle.ssq_meaning.proofs.Water.{later_none}
use Rattle.ssq_water.specs.Water.{seen_at}
use Rattle.ssq_meaning.proofs.Greatest.{later_assoc}
use Rattle.ssq_desk.specs.declared.desk.PartLog.{PartLog}
use Rattle.ssq_desk.specs.Handing.{CanRaise, time_of_part_log, time_in_part_logs}
use Rattle.ssq_desk.proofs.hand.+raise_all.Goals as goal

pub returns-in_default-clause-times : goal.returns-in_default-clause-times
returns-in_default-clause-times g t c = λ stream. sym (later_none (seen_at c.args.seen.now stream))
    ∙ ap (λ (l : List (PartLog g.row.L.Denot)). later (seen_at c.args.seen.now stream) (time_in_part_logs stream l)) (sym (nil_from_length c.args.part_logs.now c.in_default.ensures.cases))

pub raise_one-requires-clause-stream : goal.raise_one-requires-clause-stream
raise_one-requires-clause-stream g t c = (let can = subst (λ (l : List (PartLog g.row.L.Denot)). CanRaise (length c.args.seen.now) l) c.in-Some.ensures.cases.0 c.requires in can.0)

pub raise_one-requires-clause-years : goal.raise_one-requires-clause-years
raise_one-requires-clause-years g t c = (let can = subst (λ (l : List (PartLog g.row.L.Denot)). CanRaise (length c.args.seen.now) l) c.in-Some.ensures.cases.0 c.requires in can.1)

pub raise_all-requires : goal.raise_all-requires
raise_all-requires g t c κs within = (
  omega (arith, c.decreases, c.in-Some.ensures.cases.1),
  (
    within,
    let can = subst (λ (l : List (PartLog g.row.L.Denot)). CanRaise (length c.args.seen.now) l) c.in-Some.ensures.cases.0 c.requires in
        subst (λ (n : ℕ). CanRaise n c.in-Some.rest.now) (sym c.raise_one.ensures.streams) can.2,
  ),
)

pub returns-clause-times : goal.returns-clause-times
returns-clause-times g t c = λ stream. c.raise_all.ensures.times stream
    ∙ ap (λ (known : Option ℤ). later known (time_in_part_logs stream c.in-Some.rest.now)) (c.raise_one.ensures.times stream)
    ∙ later_assoc (seen_at c.args.seen.now stream) (time_of_part_log stream c.in-Some.part_log.now) (time_in_part_logs stream c.in-Some.rest.now)
    ∙ ap (λ (l : List (PartLog g.row.L.Denot)). later (seen_at c.args.seen.now stream) (time_in_part_logs stream l)) (sym c.in-Some.ensures.cases.0)

pub returns-clause-streams : goal.returns-clause-streams
returns-clause-streams g t c = c.raise_all.ensures.streams ∙ c.raise_one.ensures.streams
