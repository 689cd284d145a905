use Rattle.std.proofs.Common.{◌++◌, ◌∙◌, ℕ, List, ap, sym}
use Rattle.std.specs.Int.{w32, w64, to_be_bytes}
use Rattle.ssq_version.specs.Text.{first_word}
use Rattle.ssq_version.proofs.Listing.{same_behind}
use Rattle.ssq_version.proofs.file.head_and_rest.Goals as goal

pub returns-in_err-behind-clause-each : goal.returns-in_err-behind-clause-each
returns-in_err-behind-clause-each c partition version count rest small low few is = absurd (c.in_err-behind.ensures (to_be_bytes w32 partition ++ (to_be_bytes w32 version ++ (to_be_bytes w64 count ++ rest))) is)

pub returns-in_err-partition-clause-each : goal.returns-in_err-partition-clause-each
returns-in_err-partition-clause-each c partition version count rest small low few is =
    let behind = same_behind (first_word c.args.form) c.in_ok-behind.behind.now (to_be_bytes w32 partition ++ (to_be_bytes w32 version ++ (to_be_bytes w64 count ++ rest))) (sym c.in_ok-behind.ensures ∙ is) in
    absurd (c.in_err-partition.ensures.each partition (to_be_bytes w32 version ++ (to_be_bytes w64 count ++ rest)) small behind)

pub returns-in_err-version-clause-each : goal.returns-in_err-version-clause-each
returns-in_err-version-clause-each c partition version count rest small low few is =
    let behind = same_behind (first_word c.args.form) c.in_ok-behind.behind.now (to_be_bytes w32 partition ++ (to_be_bytes w32 version ++ (to_be_bytes w64 count ++ rest))) (sym c.in_ok-behind.ensures ∙ is) in
    let one = c.in_ok-partition.ensures.each partition (to_be_bytes w32 version ++ (to_be_bytes w64 count ++ rest)) small behind in
    absurd (c.in_err-version.ensures.each version (to_be_bytes w64 count ++ rest) low one.1)

pub returns-in_err-count-clause-each : goal.returns-in_err-count-clause-each
returns-in_err-count-clause-each c partition version count rest small low few is =
    let behind = same_behind (first_word c.args.form) c.in_ok-behind.behind.now (to_be_bytes w32 partition ++ (to_be_bytes w32 version ++ (to_be_bytes w64 count ++ rest))) (sym c.in_ok-behind.ensures ∙ is) in
    let one = c.in_ok-partition.ensures.each partition (to_be_bytes w32 version ++ (to_be_bytes w64 count ++ rest)) small behind in
    let two = c.in_ok-version.ensures.each version (to_be_bytes w64 count ++ rest) low one.1 in
    absurd (c.in_err-count.ensures.each count rest few two.1)

pub returns-clause-found : goal.returns-clause-found
returns-clause-found c =
    c.in_ok-behind.ensures
    ∙ ap (λ (rest : List ℕ). first_word c.args.form ++ rest) (c.in_ok-partition.ensures.found
    ∙ ap (λ (rest : List ℕ). to_be_bytes w32 c.in_ok-partition.partition ++ rest) (c.in_ok-version.ensures.found
    ∙ ap (λ (rest : List ℕ). to_be_bytes w32 c.in_ok-version.version ++ rest) c.in_ok-count.ensures.found))

pub returns-clause-each : goal.returns-clause-each
returns-clause-each c partition version count rest small low few is =
    let behind = same_behind (first_word c.args.form) c.in_ok-behind.behind.now (to_be_bytes w32 partition ++ (to_be_bytes w32 version ++ (to_be_bytes w64 count ++ rest))) (sym c.in_ok-behind.ensures ∙ is) in
    let one = c.in_ok-partition.ensures.each partition (to_be_bytes w32 version ++ (to_be_bytes w64 count ++ rest)) small behind in
    let two = c.in_ok-version.ensures.each version (to_be_bytes w64 count ++ rest) low one.1 in
    let three = c.in_ok-count.ensures.each count rest few two.1 in
    (one.0, two.0, three.0, three.1)
