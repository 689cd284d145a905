use Rattle.std.proofs.Common.{◌≡◌, ◌+◌, ◌-◌, suc, arith, length, option_copied}
use Rattle.ssq_version.proofs.Listing.{more_listed, less_listed, none_listed, all_listed, listed_all}
use Rattle.ssq_version.proofs.entries.are_entries.Goals as goal

pub returns-in_default-clause-each : goal.returns-in_default-clause-each
returns-in_default-clause-each c listed =
    let count : c.args.count - c.loop.counter ≡ suc (c.args.count - (c.loop.counter + 1)) = omega (arith, c.loop-test.true) in
    absurd (none_listed c.args.form (option_copied c.loop.last) (c.args.count - c.loop.counter) (c.args.count - (c.loop.counter + 1)) c.loop.rest.now count
    (λ k v r one above here. c.in_default.ensures.each k v r one above here) (c.loop.invariant.each listed))

pub loop-preserved : goal.loop-preserved
loop-preserved c =
    let count : c.args.count - c.loop.counter ≡ suc (c.args.count - (c.loop.counter + 1)) = omega (arith, c.loop-test.true) in
    record {
      only = λ listed. c.loop.invariant.only
          (more_listed c.args.form (option_copied c.loop.last) (c.args.count - c.loop.counter) (c.args.count - (c.loop.counter + 1)) c.loop.rest.now c.in-Some.entry.key.now (option_copied c.in-Some.entry.value) c.in-Some.behind.now
          count c.in-Some.ensures.found c.in-Some.ensures.spelled c.in-Some.ensures.above listed);
      each = λ listed.
          less_listed c.args.form (option_copied c.loop.last) (c.args.count - c.loop.counter) (c.args.count - (c.loop.counter + 1)) c.loop.rest.now c.in-Some.entry.key.now (option_copied c.in-Some.entry.value) c.in-Some.behind.now
          count (λ k v r one above here. c.in-Some.ensures.each k v r one above here) (c.loop.invariant.each listed);
    }

pub returns-clause-only : goal.returns-clause-only
returns-clause-only c empty =
    let count : c.args.count - c.loop.counter ≡ 0 = omega (arith, c.loop-test.false) in
    let none : length c.loop.rest.now ≡ 0 = grind (arith, empty, c.is_empty.ensures) in
    c.loop.invariant.only (all_listed c.args.form (option_copied c.loop.last) (c.args.count - c.loop.counter) c.loop.rest.now count none)

pub returns-clause-each : goal.returns-clause-each
returns-clause-each c listed =
    let count : c.args.count - c.loop.counter ≡ 0 = omega (arith, c.loop-test.false) in
    let none = listed_all c.args.form (option_copied c.loop.last) (c.args.count - c.loop.counter) c.loop.rest.now count (c.loop.invariant.each listed) in
    grind (arith, none, c.is_empty.ensures)
