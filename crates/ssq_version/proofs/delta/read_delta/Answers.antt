use Rattle.std.proofs.Common.{Some}
use Rattle.ssq_version.proofs.Spelled.{kept_is_entries}
use Rattle.ssq_version.proofs.delta.read_delta.Goals as goal

pub returns-in_default-clause-each : goal.returns-in_default-clause-each
returns-in_default-clause-each c partition version change small low kept few is = absurd (c.in_default.ensures.each partition version change small low (kept_is_entries change kept few) is)

pub returns-clause-each : goal.returns-clause-each
returns-clause-each c partition version change small low kept few is =
    let are = kept_is_entries change kept few in
    let same = c.in-Some.ensures.each partition version change small low are is in
    let made = c.in_ok-change.ensures change same.2 are.spelled in
    λ i. Some (same.0 i, same.1 i, made i)
