-- A stream's line is read field by field.
use Rattle.std.proofs.Common.{codes, decimal, ◌++◌, refl, sym, subst, ◌∙◌, arith}
use Rattle.std.specs.Option.{ForSome}
use Rattle.ssq_time.specs.Time.{IsLineTime}
use Rattle.ssq_plans.specs.Records.{time_or_none}
use Rattle.ssq_plans.proofs.Listing.{line_is_stamp}
use Rattle.ssq_plans.proofs.Spelled.{seen_split, seen_joined, seen_is, tail_len}
use Rattle.ssq_plans.proofs.seen_line.SeenByLine.take.Goals as goal

pub returns-in_err-stream-clause-each : goal.returns-in_err-stream-clause-each
returns-in_err-stream-clause-each c item rest fits is =
    let stop = codes " " ++ (time_or_none item.time ++ (codes "\n" ++ rest)) in
    absurd (c.in_err-stream.ensures.each item.stream stop fits.0 refl (is ∙ seen_split item rest))

pub returns-in_err-time-clause-each : goal.returns-in_err-time-clause-each
returns-in_err-time-clause-each c item rest fits is =
    let stop = codes " " ++ (time_or_none item.time ++ (codes "\n" ++ rest)) in
    let first = c.in_ok-stream.ensures.each item.stream stop fits.0 refl (is ∙ seen_split item rest) in
    absurd (c.in_err-time.ensures.each item.time rest (line_is_stamp item.time fits.1) first.1)

pub returns-in_err-seen-clause-each : goal.returns-in_err-seen-clause-each
returns-in_err-seen-clause-each c item rest fits is =
    let stop = codes " " ++ (time_or_none item.time ++ (codes "\n" ++ rest)) in
    let first = c.in_ok-stream.ensures.each item.stream stop fits.0 refl (is ∙ seen_split item rest) in
    let second = c.in_ok-time.ensures.each item.time rest (line_is_stamp item.time fits.1) first.1 in
    absurd (c.in_err-seen.ensures.each (subst (λ time. ForSome time IsLineTime) (sym second.0) fits.1))

pub returns-clause-found : goal.returns-clause-found
returns-clause-found c =
    let seen = c.in_ok-seen.ensures.value in
    seen_joined c.in_ok-seen.seen _ _ _ _ _ (sym seen.0) (sym seen.1) c.in_ok-stream.ensures.found c.in_ok-time.ensures.found

pub returns-clause-shorter : goal.returns-clause-shorter
returns-clause-shorter c =
    let stream = c.in_ok-stream in
    let time = c.in_ok-time in
    let first = tail_len (codes "seen ") (decimal stream.stream) stream.text.now c.args.text.now stream.ensures.found in
    let second = tail_len (codes " ") (time_or_none time.time) (codes "\n" ++ time.text.now) stream.text.now time.ensures.found in
    omega (arith, first, second)

pub returns-clause-each : goal.returns-clause-each
returns-clause-each c item rest fits is =
    let stop = codes " " ++ (time_or_none item.time ++ (codes "\n" ++ rest)) in
    let first = c.in_ok-stream.ensures.each item.stream stop fits.0 refl (is ∙ seen_split item rest) in
    let second = c.in_ok-time.ensures.each item.time rest (line_is_stamp item.time fits.1) first.1 in
    (seen_is c.in_ok-seen.seen item (c.in_ok-seen.ensures.value.0 ∙ first.0) (c.in_ok-seen.ensures.value.1 ∙ second.0), second.1)
