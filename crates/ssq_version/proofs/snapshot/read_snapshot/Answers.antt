use Rattle.std.proofs.Common.{Some, ◌∙◌, ap, sym}
use Rattle.ssq_version.specs.Text.{said_of, snapshot_text}
use Rattle.ssq_version.proofs.Spelled.{state_is_entries, file_state}
use Rattle.ssq_version.proofs.snapshot.read_snapshot.Goals as goal

pub returns-in_default-clause-each : goal.returns-in_default-clause-each
returns-in_default-clause-each c partition version state small low kept few is = absurd (c.in_default.ensures.each partition version (said_of state) small low (state_is_entries state kept few) is)

pub returns-clause-found : goal.returns-clause-found
returns-clause-found c =
    let file = file_state c.args.text.now c.in-Some.file.partition c.in-Some.file.version c.in-Some.file.count c.in-Some.file.entries.now c.in-Some.ensures.found in
    file.1.whole ∙ ap (snapshot_text c.in-Some.file.partition c.in-Some.file.version) (sym (c.in_ok-state.ensures file.0 file.1.bytes file.1.are.spelled))

pub returns-clause-each : goal.returns-clause-each
returns-clause-each c partition version state small low kept few is =
    let are = state_is_entries state kept few in
    let same = c.in-Some.ensures.each partition version (said_of state) small low are is in
    let made = c.in_ok-state.ensures state same.2 are.spelled in
    λ i. Some (same.0 i, same.1 i, made i)
