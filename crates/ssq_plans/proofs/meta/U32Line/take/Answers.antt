-- A stream's line is read number by number, and counts exactly where it tells the stream's place and at most 64 parts.
use Rattle.std.proofs.Common.{List, ℕ, codes, decimal, ◌++◌, refl, ◌∙◌, arith}
use Rattle.ssq_plans.proofs.Spelled.{parts_split, parts_joined, tail_len}
use Rattle.ssq_plans.proofs.meta.U32Line.take.Goals.{else-stream-at-via-then-stream-at+else-count-le64, else-stream-at-via-else-stream-at}
use Rattle.ssq_plans.proofs.meta.U32Line.take.Goals as goal

abbrev count_text : ℕ → List ℕ → List ℕ
count_text count rest = codes " " ++ (decimal count ++ (codes "\n" ++ rest))

pub returns-in_err-stream-clause-each : goal.returns-in_err-stream-clause-each
returns-in_err-stream-clause-each c item rest fits is =
    absurd (c.in_err-stream.ensures.each c.args.at (count_text item rest) c.ranges.at.fits refl (is ∙ parts_split c.args.at item rest))

pub returns-in_err-count-clause-each : goal.returns-in_err-count-clause-each
returns-in_err-count-clause-each c item rest fits is =
    let first = c.in_ok-stream.ensures.each c.args.at (count_text item rest) c.ranges.at.fits refl (is ∙ parts_split c.args.at item rest) in
    absurd (c.in_err-count.ensures.each item rest (omega (arith, fits)) first.1)

pub returns-then-count-le64-clause-found : goal.returns-then-count-le64-clause-found
returns-then-count-le64-clause-found c =
    parts_joined _ _ _ c.args.text.now _ _ c.in_ok-stream.ensures.found c.in_ok-count.ensures.found c.if-stream-at.true

pub returns-then-count-le64-clause-shorter : goal.returns-then-count-le64-clause-shorter
returns-then-count-le64-clause-shorter c =
    let stream = c.in_ok-stream in
    let count = c.in_ok-count in
    let first = tail_len (codes "parts ") (decimal stream.stream) stream.text.now c.args.text.now stream.ensures.found in
    let second = tail_len (codes " ") (decimal count.count) (codes "\n" ++ count.text.now) stream.text.now count.ensures.found in
    omega (arith, first, second)

pub returns-then-count-le64-clause-each : goal.returns-then-count-le64-clause-each
returns-then-count-le64-clause-each c item rest fits is =
    let first = c.in_ok-stream.ensures.each c.args.at (count_text item rest) c.ranges.at.fits refl (is ∙ parts_split c.args.at item rest) in
    c.in_ok-count.ensures.each item rest (omega (arith, fits)) first.1

pub returns-else-stream-at-clause-each : goal.returns-else-stream-at-clause-each
returns-else-stream-at-clause-each c item rest fits is =
    let first = c.in_ok-stream.ensures.each c.args.at (count_text item rest) c.ranges.at.fits refl (is ∙ parts_split c.args.at item rest) in
    let second = c.in_ok-count.ensures.each item rest (omega (arith, fits)) first.1 in
    elim c.else-stream-at.branch [
      | else-stream-at-via-then-stream-at+else-count-le64 w ↦ absurd (omega (arith, w.if-count-le64.false, fits, second.0))
      | else-stream-at-via-else-stream-at w ↦ absurd (w.if-stream-at.false first.0)
    ]
