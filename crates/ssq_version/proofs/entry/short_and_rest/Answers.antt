use Rattle.std.specs.Int.{w32, to_be_bytes}
use Rattle.ssq_version.proofs.Listing.{number_each, number_found}
use Rattle.ssq_version.proofs.entry.short_and_rest.Goals as goal

pub returns-clause-found : goal.returns-clause-found
returns-clause-found c = number_found (to_be_bytes w32 c.in_ok-number.number) c.args.text.now c.in_ok-number.taken c.in_ok-number.ensures.found.parts

pub returns-clause-each : goal.returns-clause-each
returns-clause-each c number rest few is = number_each (to_be_bytes w32 number) c.args.text.now rest c.in_ok-number.number c.in_ok-number.taken number (c.in_ok-number.ensures.each number rest few tt is) is
