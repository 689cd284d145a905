use Rattle.std.proofs.Common.{length, true≢false, refl, sym}
use Rattle.ssq_version.specs.Text.{entries_text}
use Rattle.ssq_version.proofs.Listing.{file_found, file_listed}
use Rattle.ssq_version.proofs.file.read_file.Goals as goal

pub returns-in_err-file-clause-each : goal.returns-in_err-file-clause-each
returns-in_err-file-clause-each c partition version entries small low are is =
    absurd (c.in_err-file.ensures.each partition version (length entries) (entries_text c.args.form entries) small low are.few is)

pub returns-then-are_entries-clause-found : goal.returns-then-are_entries-clause-found
returns-then-are_entries-clause-found c =
    file_found c.args.form c.args.text.now c.in_ok-file.file.partition c.in_ok-file.file.version c.in_ok-file.file.count c.in_ok-file.file.entries.now
    c.in_ok-file.ensures.few c.in_ok-file.ensures.found (c.if-are_entries.ensures.only refl)

pub returns-else-are_entries-clause-each : goal.returns-else-are_entries-clause-each
returns-else-are_entries-clause-each c partition version entries small low are is =
    let same = c.in_ok-file.ensures.each partition version (length entries) (entries_text c.args.form entries) small low are.few is in
    let yes = c.if-are_entries.ensures.each (file_listed c.args.form entries c.in_ok-file.file.count c.in_ok-file.file.entries.now are same.2 same.3) in
    absurd (true≢false (sym yes))
