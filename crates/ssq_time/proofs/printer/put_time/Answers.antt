use Rattle.std.proofs.Common.{◌≡◌, unsigned_abs, pos, ◌+ℤ◌, arith}
use Rattle.jiff_core.proofs.SignedLemmas.{signed_arith}
use Rattle.ssq_time.proofs.Parts.{parts_text-since}
use Rattle.ssq_time.proofs.printer.put_time.Goals as goal

pub returns-clause-ok : goal.returns-clause-ok
returns-clause-ok c =
    let date = c.date_after-date in
    let year : c.unsigned_abs.result ≡ unsigned_abs date.result.year = omega (arith, signed_arith) in
    let all : c.args.time +ℤ pos 377_705_116_800_000_000 ≡ pos c.since_first_day-since.result = omega (arith, signed_arith, c.since_first_day-since.ensures) in
    rw (← parts_text-since c.args.time date.result c.unsigned_abs.result c.since_first_day-since.result
    date.ensures.year year all (omega (arith, signed_arith, date.ensures.day)))
    c.put_parts.ensures.ok
