-- A part's line is read field by field.
use Rattle.std.proofs.Common.{codes, decimal, ◌++◌, refl, ◌∙◌, arith}
use Rattle.ssq_plans.proofs.Spelled.{part_split, part_joined, part_is, tail_len}
use Rattle.ssq_plans.proofs.plan.PartEndLine.take.Goals as goal

pub returns-in_err-stream-clause-each : goal.returns-in_err-stream-clause-each
returns-in_err-stream-clause-each c item rest fits is =
    let part = codes " " ++ (decimal item.part ++ (codes " " ++ (decimal item.end ++ (codes "\n" ++ rest)))) in
    absurd (c.in_err-stream.ensures.each item.stream part fits.0 refl (is ∙ part_split item rest))

pub returns-in_err-part-clause-each : goal.returns-in_err-part-clause-each
returns-in_err-part-clause-each c item rest fits is =
    let part = codes " " ++ (decimal item.end ++ (codes "\n" ++ rest)) in
    let stream = codes " " ++ (decimal item.part ++ part) in
    let first = c.in_ok-stream.ensures.each item.stream stream fits.0 refl (is ∙ part_split item rest) in
    absurd (c.in_err-part.ensures.each item.part part fits.1 refl first.1)

pub returns-in_err-end-clause-each : goal.returns-in_err-end-clause-each
returns-in_err-end-clause-each c item rest fits is =
    let part = codes " " ++ (decimal item.end ++ (codes "\n" ++ rest)) in
    let stream = codes " " ++ (decimal item.part ++ part) in
    let first = c.in_ok-stream.ensures.each item.stream stream fits.0 refl (is ∙ part_split item rest) in
    let second = c.in_ok-part.ensures.each item.part part fits.1 refl first.1 in
    absurd (c.in_err-end.ensures.each item.end rest fits.2 second.1)

pub returns-clause-found : goal.returns-clause-found
returns-clause-found c = part_joined _ _ _ _ _ c.in_ok-stream.ensures.found c.in_ok-part.ensures.found c.in_ok-end.ensures.found

pub returns-clause-shorter : goal.returns-clause-shorter
returns-clause-shorter c =
    let stream = c.in_ok-stream in
    let part = c.in_ok-part in
    let end = c.in_ok-end in
    let first = tail_len (codes "part ") (decimal stream.stream) stream.text.now c.args.text.now stream.ensures.found in
    let second = tail_len (codes " ") (decimal part.part) part.text.now stream.text.now part.ensures.found in
    let third = tail_len (codes " ") (decimal end.end) (codes "\n" ++ end.text.now) part.text.now end.ensures.found in
    omega (arith, first, second, third)

pub returns-clause-each : goal.returns-clause-each
returns-clause-each c item rest fits is =
    let part = codes " " ++ (decimal item.end ++ (codes "\n" ++ rest)) in
    let stream = codes " " ++ (decimal item.part ++ part) in
    let first = c.in_ok-stream.ensures.each item.stream stream fits.0 refl (is ∙ part_split item rest) in
    let second = c.in_ok-part.ensures.each item.part part fits.1 refl first.1 in
    let third = c.in_ok-end.ensures.each item.end rest fits.2 second.1 in
    (part_is item _ _ _ first.0 second.0 third.0, third.1)
