use Rattle.std.proofs.Common.{◌≡◌, subst, sym}
use Rattle.ssq_version.specs.State.{Change}
use Rattle.ssq_version.specs.Text.{AreEntries, file_text}
use Rattle.ssq_version.proofs.layers.read_entries.Goals as goal

pub returns-in_default-clause-each : goal.returns-in_default-clause-each
returns-in_default-clause-each c partition version entries small low are is = absurd (c.in_default.ensures.each partition version entries small low are is)

pub returns-clause-found : goal.returns-clause-found
returns-clause-found c =
    let file = c.in-Some.ensures.found in
    let F : Change → Type 0 = λ entries. AreEntries c.args.form entries × (c.args.text.now ≡ file_text c.args.form c.in-Some.file.partition c.in-Some.file.version entries) in
    subst F (sym (c.in_ok-entries.ensures file.0 file.1.spelled file.4)) (file.1, file.2)

pub returns-clause-each : goal.returns-clause-each
returns-clause-each c partition version entries small low are is =
    let same = c.in-Some.ensures.each partition version entries small low are is in
    (same.0, same.1, c.in_ok-entries.ensures entries are.spelled same.2)
